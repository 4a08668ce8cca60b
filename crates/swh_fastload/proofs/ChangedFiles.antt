-- What stands in the tree of a commit after its changes.
use Rattle.std.proofs.Common.{◌≡◌, ◌≢◌, ℕ, Bool, true, false, cond, Result, Ok, Err, List, [], ◌∷◌, ◌++◌, Contains, refl, ap, subst}
use Rattle.std.specs.Prelude.{filter}
use Rattle.std.specs.List.{AllByRecursion}
use Rattle.std.proofs.lemmas.List.Elements.{Contains-append_right}
use Rattle.swh_base.specs.declared.kind.Kind.{Kind}
use Rattle.swh_base.specs.declared.kind.Kind.TheVariants.{Content}
use Rattle.swh_base.specs.declared.name.Name.{Name}
use Rattle.swh_base.specs.Name.{IsId}
use Rattle.swh_base.specs.Directory.{IsEntryName}
use Rattle.swh_base.proofs.Elementary.{all_as}
use Rattle.swh_model.specs.Meaning.{Made, content}
use Rattle.swh_model.proofs.Entries.{all-append}
use Rattle.swh_fastlex.specs.Path.{IsPath, components}
use Rattle.swh_entries.specs.declared.entry.Leaf.{Leaf}
use Rattle.swh_forest.specs.PathMap.{PathMap, same, is_path_before, insert_path, cleared, set, delete, rest_beside, held_by, held, insert_under, put_held, copy, rename, HasFolder}
use Rattle.swh_forest.proofs.Components.{path-names, components-some}
use Rattle.swh_dedup.specs.Whole.{content_name}
use Rattle.swh_fastgrammar.specs.declared.command.Change.{Change}
use Rattle.swh_fastgrammar.specs.declared.command.Change.TheVariants.{Set, Delete, Copy, Move, Clear}
use Rattle.swh_fastgrammar.specs.declared.command.Dataref.{Dataref}
use Rattle.swh_fastgrammar.specs.declared.command.Dataref.TheVariants.{Mark, Inline, Hex}
use Rattle.swh_fastgrammar.specs.declared.fault.StreamWhy.TheVariants.{Place as NoPlace}
use Rattle.swh_fastmeaning.specs.Aims.{Aim, AllAims, Missing, blob_at}
use Rattle.swh_fastmeaning.specs.Changes.{IsGivableChange}
use Rattle.swh_fastmeaning.specs.Commands.{Changed, turned, put, if_there, changed, ◌>>=◌}
use Rattle.swh_dedup.specs.Making.{name_of}
use Rattle.swh_fastmeaning.specs.Stock.{IsLeafAmong, IsFileAmong, AreFilesAmong, IsFree}
use Rattle.swh_fastload.proofs.FreePaths.{folder_paths}
use Rattle.swh_dedup.proofs.Elements.{each_is, first_is, later_is}

all_filtered : {X : Type 0} (P : X → Type 0) (test : X → Bool) (xs : List X) → AllByRecursion P xs → AllByRecursion P (filter test xs)
all_filtered P test [] h = tt
all_filtered P test (x ∷ xs) h =
    elim (test x) as (λ b. AllByRecursion P (cond b (x ∷ filter test xs) (filter test xs))) [
      | true ↦ (h.0, all_filtered P test xs h.1)
      | false ↦ all_filtered P test xs h.1
    ]

module _ (names : List Name) where
  inserted : (p : List (List ℕ)) (l : Leaf) (m : PathMap) → IsFileAmong names (p, l) → AreFilesAmong names m → AreFilesAmong names (insert_path p l m)
  inserted p l [] f h = (f, tt)
  inserted p l (e ∷ m) f h =
      elim (is_path_before e.0 p) as (λ b. AreFilesAmong names (cond b (e ∷ insert_path p l m) ((p, l) ∷ e ∷ m))) [
        | true ↦ (h.0, inserted p l m f h.1)
        | false ↦ (f, h)
      ]

  set_among : (p : List (List ℕ)) (l : Leaf) (m : PathMap) → IsFileAmong names (p, l) → AreFilesAmong names m → AreFilesAmong names (set p l m)
  set_among p l m f h = inserted p l (cleared p m) f (all_filtered (IsFileAmong names) _ m h)

  -- The rest of a path that leads to a leaf, which may be empty.
  record IsRest (e : List (List ℕ) × Leaf) : Type 0 where
    parts : AllByRecursion IsEntryName e.0
    leaf : IsLeafAmong names e.1

  rests_by : (c : List ℕ) (m : PathMap) → AllByRecursion IsRest m → AllByRecursion IsRest (held_by c m)
  rests_by c [] h = tt
  rests_by c ((p, l) ∷ m) h = by_path p h.0 (rests_by c m h.1)
    where
      by_path : (p : List (List ℕ)) → IsRest (p, l) → AllByRecursion IsRest (held_by c m) → AllByRecursion IsRest (rest_beside c p l (held_by c m))
      by_path [] r others = others
      by_path (d ∷ p) r others =
          elim (same d c) as (λ b. AllByRecursion IsRest (cond b ((p, l) ∷ held_by c m) (held_by c m))) [
            | true ↦ (record { parts = r.parts.1; leaf = r.leaf }, others)
            | false ↦ others
          ]

  rests_of : (p : List (List ℕ)) (m : PathMap) → AllByRecursion IsRest m → AllByRecursion IsRest (held p m)
  rests_of [] m h = h
  rests_of (c ∷ p) m h = rests_of p (held_by c m) (rests_by c m h)

  longer : (p q : List (List ℕ)) → p ≢ [] → p ++ q ≢ []
  longer [] q s = absurd (s refl)
  longer (c ∷ p) q s = λ e. cc

  under_among : (p : List (List ℕ)) (h m : PathMap) → p ≢ [] → AllByRecursion IsEntryName p → AllByRecursion IsRest h → AreFilesAmong names m → AreFilesAmong names (insert_under p h m)
  under_among p [] m s n r f = f
  under_among p (e ∷ h) m s n r f =
      inserted (p ++ e.0) e.1 (insert_under p h m) (record { some = longer p e.0 s; parts = all-append IsEntryName p e.0 n r.0.parts; leaf = r.0.leaf }) (under_among p h m s n r.1 f)

  put_among : (p : List (List ℕ)) (h m : PathMap) → p ≢ [] → AllByRecursion IsEntryName p → AllByRecursion IsRest h → AreFilesAmong names m → AreFilesAmong names (put_held p h m)
  put_among p h m s n r f = under_among p h (cleared p m) s n r (all_filtered (IsFileAmong names) _ m f)

  rests : (m : PathMap) → AreFilesAmong names m → AllByRecursion IsRest m
  rests m f = all_as (IsFileAmong names) IsRest (λ e h. record { parts = h.parts; leaf = h.leaf }) m f

  whole_files : (m : PathMap) → AllByRecursion IsRest m → ((e : List (List ℕ) × Leaf) → Contains m e → e.0 ≢ []) → AreFilesAmong names m
  whole_files [] r s = tt
  whole_files (e ∷ m) r s = (record { some = s e (first_is e m); parts = r.0.parts; leaf = r.0.leaf }, whole_files m r.1 (λ f c. s f (later_is e m f c)))

  -- what a folder holds
  pub held_files : (p : List (List ℕ)) (m : PathMap) → IsFree m → HasFolder m p → AreFilesAmong names m → AreFilesAmong names (held p m)
  held_files p m f h files = whole_files (held p m) (rests_of p m (rests m files)) (folder_paths p m f h (λ e c. (each_is (IsFileAmong names) m e files c).some))

  module _ (id : Kind → List ℕ → List ℕ) {T : Type 0} (aims : AllAims T) where
    -- The blobs of marks are among these.
    abbrev pub AreBlobsAmong : Type 0
    AreBlobsAmong = (at mark : ℕ) (aim : Aim T) → blob_at aims at mark ≡ Ok aim → Contains names (content_name aim.name.id) × IsId aim.name.id

    -- The contents are among these.
    abbrev pub AreContentsAmong : List Made → Type 0
    AreContentsAmong contents = (m : Made) → Contains contents m → Contains names (name_of id m) × IsId (id m.kind m.body)

    file : (mode : ℕ) (path i : List ℕ) → IsPath path → IsLeafAmong names (record { mode = mode; id = i }) → IsFileAmong names (components path, record { mode = mode; id = i })
    file mode path i p l = record { some = components-some path; parts = path-names path p; leaf = l }

    set_files : (at mode : ℕ) (what : Dataref) (path : List ℕ) (c d : Changed) → IsGivableChange (Set mode what path) → changed id aims at (Set mode what path) c ≡ Ok d → AreBlobsAmong → AreContentsAmong d.contents → AreFilesAmong names c.tree → AreFilesAmong names d.tree
    set_files at mode (Mark mark) path c d g e blobs contents f = by_blob (blob_at aims at mark) refl e
      where
        by_blob : (r : Result (Aim T) Missing) → blob_at aims at mark ≡ r → ((r >>= λ aim. let o : Result (List ℕ × List Made) Missing = Ok (aim.name.id, []) in o) >>= λ s. let o : Result Changed Missing = Ok (put c path mode s.0 s.1) in o) ≡ Ok d → AreFilesAmong names d.tree
        by_blob (Err m) b q = absurd cc
        by_blob (Ok aim) b q =
            let k = blobs at mark aim b in
            let is : put c path mode aim.name.id [] ≡ d = cc in
            subst (λ (t : Changed). AreFilesAmong names t.tree) is (set_among (components path) (record { mode = mode; id = aim.name.id }) c.tree (file mode path aim.name.id g.1 (record { mode = g.0; id = k.1; content = λ n. k.0 })) f)
    set_files at mode (Inline bytes) path c d g e blobs contents f =
        let i = id Content bytes in
        let is : put c path mode i (content bytes ∷ []) ≡ d = cc in
        let k = contents (content bytes) (subst (λ (t : Changed). Contains t.contents (content bytes)) is (Contains-append_right c.contents (content bytes ∷ []) (content bytes) (first_is (content bytes) []))) in
        subst (λ (t : Changed). AreFilesAmong names t.tree) is (set_among (components path) (record { mode = mode; id = i }) c.tree (file mode path i g.1 (record { mode = g.0; id = k.1; content = λ n. k.0 })) f)
    set_files at mode (Hex i) path c d g e blobs contents f =
        let is : put c path mode i [] ≡ d = cc in
        subst (λ (t : Changed). AreFilesAmong names t.tree) is (set_among (components path) (record { mode = mode; id = i }) c.tree (file mode path i g.1 (record { mode = g.0; id = g.2.1; content = λ n. absurd (n g.2.0) })) f)

    there_then : (source : List ℕ) (c : Changed) (at : ℕ) (tree : PathMap) (d : Changed) → if_there source c at tree ≡ Ok d → tree ≡ d.tree
    there_then source c at tree d e = by_held (held (components source) c.tree) e
      where
        by_held : (h : PathMap) → elim h as (λ _. Result Changed Missing) [ [] ↦ Err (record { at = at; why = NoPlace }) | _ ∷ _ ↦ Ok (turned c tree []) ] ≡ Ok d → tree ≡ d.tree
        by_held [] q = absurd cc
        by_held (x ∷ h) q = let is : turned c tree [] ≡ d = cc in ap (λ (t : Changed). t.tree) is

    pub one_files : (at : ℕ) (it : Change) (c d : Changed) → IsGivableChange it → changed id aims at it c ≡ Ok d → AreBlobsAmong → AreContentsAmong d.contents → AreFilesAmong names c.tree → AreFilesAmong names d.tree
    one_files at (Set mode what path) c d g e blobs contents f = set_files at mode what path c d g e blobs contents f
    one_files at (Delete path) c d g e blobs contents f =
        let is : turned c (delete (components path) c.tree) [] ≡ d = cc in
        subst (λ (t : Changed). AreFilesAmong names t.tree) is (all_filtered (IsFileAmong names) _ c.tree f)
    one_files at (Copy source path) c d g e blobs contents f =
        subst (AreFilesAmong names) (there_then source c at (copy (components source) (components path) c.tree) d e)
        (put_among (components path) (held (components source) c.tree) c.tree (components-some path) (path-names path g.1) (rests_of (components source) c.tree (rests c.tree f)) f)
    one_files at (Move source path) c d g e blobs contents f =
        subst (AreFilesAmong names) (there_then source c at (rename (components source) (components path) c.tree) d e)
        (put_among (components path) (held (components source) c.tree) (delete (components source) c.tree) (components-some path) (path-names path g.1) (rests_of (components source) c.tree (rests c.tree f))
        (all_filtered (IsFileAmong names) _ c.tree f))
    one_files at Clear c d g e blobs contents f =
        let is : turned c [] [] ≡ d = cc in
        subst (λ (t : Changed). AreFilesAmong names t.tree) is tt
