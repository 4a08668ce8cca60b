-- All changes of a commit: what they bring, and what stands in the tree afterwards.
use Rattle.std.proofs.Common.{◌≡◌, ℕ, Result, Ok, Err, List, [], ◌∷◌, ◌++◌, Contains, refl, sym, ap, ◌∙◌, subst, append_assoc}
use Rattle.std.specs.List.{AllByRecursion}
use Rattle.std.proofs.lemmas.List.{append-nil}
use Rattle.std.proofs.lemmas.List.Elements.{Contains-append_left}
use Rattle.swh_base.specs.declared.kind.Kind.{Kind}
use Rattle.swh_base.specs.declared.kind.Kind.TheVariants.{Content}
use Rattle.swh_base.specs.declared.name.Name.{Name}
use Rattle.swh_model.specs.Meaning.{Made, content}
use Rattle.swh_model.proofs.Entries.{all-append}
use Rattle.swh_fastlex.specs.Path.{components}
use Rattle.swh_forest.specs.PathMap.{PathMap, held, set, delete, copy, rename}
use Rattle.swh_fastgrammar.specs.declared.command.At.{At}
use Rattle.swh_fastgrammar.specs.declared.command.Change.{Change}
use Rattle.swh_fastgrammar.specs.declared.command.Change.TheVariants.{Set, Delete, Copy, Move, Clear}
use Rattle.swh_fastgrammar.specs.declared.command.Dataref.{Dataref}
use Rattle.swh_fastgrammar.specs.declared.command.Dataref.TheVariants.{Mark, Inline, Hex}
use Rattle.swh_fastgrammar.specs.declared.fault.StreamWhy.TheVariants.{Place as NoPlace}
use Rattle.swh_fastmeaning.specs.Aims.{Aim, AllAims, Missing, blob_at}
use Rattle.swh_fastmeaning.specs.Changes.{IsGivableChange}
use Rattle.swh_fastmeaning.specs.Commands.{Changed, turned, put, if_there, changed, all_changed, ◌>>=◌}
use Rattle.swh_fastmeaning.specs.Stock.{AreFilesAmong, IsFree}
use Rattle.swh_fastload.proofs.ChangedFiles.{AreBlobsAmong, AreContentsAmong, one_files}
use Rattle.swh_fastload.proofs.FreePaths.{set_free, delete_free, copy_free, rename_free, none_free}

-- The contents of the second are those of the first and more.
pub record Brings (c d : Changed) : Type 0 where
  pub more : List Made
  pub added : d.contents ≡ c.contents ++ more
  pub kinds : AllByRecursion (λ m. m.kind ≡ Content) more

-- One change leads from the first to the second.
record Turns (c d : Changed) : Type 0 where
  brings : Brings c d
  free : IsFree c.tree → IsFree d.tree

turns_to : (c : Changed) (tree : PathMap) (more : List Made) (d : Changed) → turned c tree more ≡ d → AllByRecursion (λ m. m.kind ≡ Content) more → (IsFree c.tree → IsFree tree) → Turns c d
turns_to c tree more d e k f = subst (Turns c) e (record { brings = record { more = more; added = refl; kinds = k }; free = f })

module _ (id : Kind → List ℕ → List ℕ) {T : Type 0} (aims : AllAims T) where
  set_turns : (at mode : ℕ) (what : Dataref) (path : List ℕ) (c d : Changed) → changed id aims at (Set mode what path) c ≡ Ok d → Turns c d
  set_turns at mode (Mark mark) path c d e = by_blob (blob_at aims at mark) e
    where
      by_blob : (r : Result (Aim T) Missing) → ((r >>= λ aim. let o : Result (List ℕ × List Made) Missing = Ok (aim.name.id, []) in o) >>= λ s. let o : Result Changed Missing = Ok (put c path mode s.0 s.1) in o) ≡ Ok d → Turns c d
      by_blob (Err m) q = absurd cc
      by_blob (Ok aim) q =
          let is : put c path mode aim.name.id [] ≡ d = cc in
          turns_to c (set (components path) (record { mode = mode; id = aim.name.id }) c.tree) [] d is tt (set_free (components path) (record { mode = mode; id = aim.name.id }) c.tree)
  set_turns at mode (Inline bytes) path c d e =
      let i = id Content bytes in
      let is : put c path mode i (content bytes ∷ []) ≡ d = cc in
      turns_to c (set (components path) (record { mode = mode; id = i }) c.tree) (content bytes ∷ []) d is (refl, tt) (set_free (components path) (record { mode = mode; id = i }) c.tree)
  set_turns at mode (Hex i) path c d e =
      let is : put c path mode i [] ≡ d = cc in
      turns_to c (set (components path) (record { mode = mode; id = i }) c.tree) [] d is tt (set_free (components path) (record { mode = mode; id = i }) c.tree)

  there_turns : (source : List ℕ) (c : Changed) (at : ℕ) (tree : PathMap) (d : Changed) → if_there source c at tree ≡ Ok d → (IsFree c.tree → IsFree tree) → Turns c d
  there_turns source c at tree d e f = by_held (held (components source) c.tree) e
    where
      by_held : (h : PathMap) → elim h as (λ _. Result Changed Missing) [ [] ↦ Err (record { at = at; why = NoPlace }) | _ ∷ _ ↦ Ok (turned c tree []) ] ≡ Ok d → Turns c d
      by_held [] q = absurd cc
      by_held (x ∷ h) q = let is : turned c tree [] ≡ d = cc in turns_to c tree [] d is tt f

  turns : (at : ℕ) (it : Change) (c d : Changed) → changed id aims at it c ≡ Ok d → Turns c d
  turns at (Set mode what path) c d e = set_turns at mode what path c d e
  turns at (Delete path) c d e = let is : turned c (delete (components path) c.tree) [] ≡ d = cc in turns_to c (delete (components path) c.tree) [] d is tt (delete_free (components path) c.tree)
  turns at (Copy source path) c d e = there_turns source c at (copy (components source) (components path) c.tree) d e (copy_free (components source) (components path) c.tree)
  turns at (Move source path) c d e = there_turns source c at (rename (components source) (components path) c.tree) d e (rename_free (components source) (components path) c.tree)
  turns at Clear c d e = let is : turned c [] [] ≡ d = cc in turns_to c [] [] d is tt (λ f. none_free)

  brings_more : (c d e : Changed) → Brings c d → Brings d e → Brings c e
  brings_more c d e b k = record {
    more = b.more ++ k.more;
    added = k.added ∙ ap (λ (t : List Made). t ++ k.more) b.added ∙ append_assoc c.contents b.more k.more;
    kinds = all-append (λ (m : Made). m.kind ≡ Content) b.more k.more b.kinds k.kinds;
  }

  pub all_brings : (changes : List (At Change)) (c d : Changed) → all_changed id aims changes c ≡ Ok d → Brings c d
  all_brings [] c d e =
      let is : c ≡ d = cc in
      subst (Brings c) is (record { more = []; added = sym (append-nil c.contents); kinds = tt })
  all_brings (a ∷ more) c d e = by_first (changed id aims a.at a.it c) refl e (λ m q. all_brings more m d q)
    where
      by_first : (r : Result Changed Missing) → changed id aims a.at a.it c ≡ r → (r >>= λ m. all_changed id aims more m) ≡ Ok d → ((m : Changed) → all_changed id aims more m ≡ Ok d → Brings m d) → Brings c d
      by_first (Err x) s q k = absurd cc
      by_first (Ok m) s q k = let t = turns a.at a.it c m s in brings_more c m d t.brings (k m q)

  -- What all changes do to a tree whose files are among these.
  pub record Ends (names : List Name) (c d : Changed) : Type 0 where
    pub brings : Brings c d
    pub free : IsFree c.tree → IsFree d.tree
    pub files : AreContentsAmong names id aims d.contents → AreFilesAmong names c.tree → AreFilesAmong names d.tree

  pub all_ends : (names : List Name) (changes : List (At Change)) (c d : Changed) → AllByRecursion (λ a. IsGivableChange a.it) changes → AreBlobsAmong names id aims → all_changed id aims changes c ≡ Ok d → Ends names c d
  all_ends names [] c d g blobs e =
      let is : c ≡ d = cc in
      subst (Ends names c) is (record { brings = record { more = []; added = sym (append-nil c.contents); kinds = tt }; free = λ f. f; files = λ k f. f })
  all_ends names (a ∷ more) c d g blobs e = by_first (changed id aims a.at a.it c) refl e (λ m q. all_ends names more m d g.1 blobs q)
    where
      by_first : (r : Result Changed Missing) → changed id aims a.at a.it c ≡ r → (r >>= λ m. all_changed id aims more m) ≡ Ok d → ((m : Changed) → all_changed id aims more m ≡ Ok d → Ends names m d) → Ends names c d
      by_first (Err x) s q k = absurd cc
      by_first (Ok m) s q k =
          let t = turns a.at a.it c m s in
          let rest = k m q in record {
            brings = brings_more c m d t.brings rest.brings;
            free = λ f. rest.free (t.free f);
            files = λ contents f. rest.files contents (one_files names id aims a.at a.it c m g.0 s blobs
                (λ x i. contents x (subst (λ (l : List Made). Contains l x) (sym rest.brings.added) (Contains-append_left m.contents rest.brings.more x i))) f);
          }
