-- No command makes a snapshot.
use Rattle.std.proofs.Common.{◌≡◌, inl, inr, ℕ, Option, Result, Ok, Err, List, [], ◌∷◌, ◌++◌, refl, sym, ap, ◌∙◌, subst}
use Rattle.std.specs.Prelude.{◌≢◌, unwrap_or}
use Rattle.std.specs.List.{AllByRecursion}
use Rattle.swh_base.specs.declared.kind.Kind.{Kind}
use Rattle.swh_base.specs.declared.kind.Kind.TheVariants.{Content, Directory, Revision, Release, Snapshot}
use Rattle.swh_base.proofs.Elementary.{all_as}
use Rattle.swh_model.specs.Meaning.{Made, content}
use Rattle.swh_model.proofs.Entries.{all-append}
use Rattle.swh_forest.specs.PathMap.{PathMap}
use Rattle.swh_fastgrammar.specs.declared.command.At.{At}
use Rattle.swh_fastgrammar.specs.declared.command.Commitish.{Commitish}
use Rattle.swh_fastgrammar.specs.declared.command.Start.{Start}
use Rattle.swh_fastgrammar.specs.declared.command.Start.TheVariants.{Absent, NoTip, Of}
use Rattle.swh_fastgrammar.specs.declared.command.Change.{Change}
use Rattle.swh_fastgrammar.specs.declared.command.Command.{Command}
use Rattle.swh_fastgrammar.specs.declared.command.Command.TheVariants.{Blob, Commit, Tag, Reset}
use Rattle.swh_fastmeaning.specs.Aims.{Aim, Missing, with_tip, without_tip, commit_at, object_at}
use Rattle.swh_fastmeaning.specs.Commands.{Changed, Targets, Making, Makes, marked, committed, tagged, only, revision, release, commit_parts, step, first_parent, commits_at, parents_of, starting_tree, all_changed, ◌>>=◌}
use Rattle.swh_dedup.proofs.Elements.{each_is}
use Rattle.swh_fastload.proofs.ChangedAll.{all_brings}

by_content : Content ≡ Snapshot → ⊥
by_content e = cc

by_directory : Directory ≡ Snapshot → ⊥
by_directory e = cc

by_revision : Revision ≡ Snapshot → ⊥
by_revision e = cc

by_release : Release ≡ Snapshot → ⊥
by_release e = cc

abbrev AreContents : List Made → Type 0
AreContents ms = AllByRecursion (λ m. m.kind ≡ Content) ms

abbrev HaveNoSnapshot : List Made → Type 0
HaveNoSnapshot ms = AllByRecursion (λ m. m.kind ≢ Snapshot) ms

module _ (id : Kind → List ℕ → List ℕ) (aims : Targets) where
  abbrev with_changes : List (List ℕ) → Result Changed Missing → Result (List (List ℕ) × Changed) Missing
  with_changes ids r = r >>= λ c. Ok (ids, c)

  abbrev start : Option (Aim PathMap) → Changed
  start first = record { tree = starting_tree first; contents = [] }

  abbrev with_others : List (At Change) → Option (Aim PathMap) → Result (List (Aim PathMap)) Missing → Result (List (List ℕ) × Changed) Missing
  with_others changes first r = r >>= λ others. with_changes (parents_of first others) (all_changed id aims changes (start first))

  -- The objects of a commit's changes are contents.
  parts_bring : (branch : List ℕ) (parent : Start) (merges : List (At Commitish)) (changes : List (At Change)) (p : List (List ℕ) × Changed) → commit_parts id aims branch parent merges changes ≡ Ok p → AreContents p.1.contents
  parts_bring branch parent merges changes p e = by_first (first_parent aims branch parent) e
    where
      by_changes : (first : Option (Aim PathMap)) (ids : List (List ℕ)) (r : Result Changed Missing) → all_changed id aims changes (start first) ≡ r → with_changes ids r ≡ Ok p → AreContents p.1.contents
      by_changes first ids (Err x) s q = absurd cc
      by_changes first ids (Ok c) s q =
          let is : (ids, c) ≡ p = cc in
          let b = all_brings id aims changes (start first) c s in
          subst (λ (x : List (List ℕ) × Changed). AreContents x.1.contents) is (subst AreContents (sym b.added) b.kinds)

      by_others : (first : Option (Aim PathMap)) (r : Result (List (Aim PathMap)) Missing) → with_others changes first r ≡ Ok p → AreContents p.1.contents
      by_others first (Err x) q = absurd cc
      by_others first (Ok others) q = by_changes first (parents_of first others) (all_changed id aims changes (start first)) refl q

      by_first : (r : Result (Option (Aim PathMap)) Missing) → (r >>= λ first. with_others changes first (commits_at aims merges)) ≡ Ok p → AreContents p.1.contents
      by_first (Err x) q = absurd cc
      by_first (Ok first) q = by_others first (commits_at aims merges) q

  ends_in : (ms : List Made) (m : Made) → AreContents ms → m.kind ≢ Snapshot → HaveNoSnapshot (ms ++ m ∷ [])
  ends_in ms m h k = all-append (λ (x : Made). x.kind ≢ Snapshot) ms (m ∷ []) (all_as (λ (x : Made). x.kind ≡ Content) (λ (x : Made). x.kind ≢ Snapshot) (λ x e s. by_content (sym e ∙ s)) ms h) (k, tt)

  objects_of : (c : Command) (m : Making) → step id aims c ≡ Ok m → HaveNoSnapshot m.objects
  objects_of (Blob mark bytes) m e =
      let is : marked id aims mark (content bytes) ≡ m = cc in
      subst (λ (x : Making). HaveNoSnapshot x.objects) is (by_content, tt)
  objects_of (Commit branch mark author committer encoding message parent merges changes) m e = by_parts (commit_parts id aims branch parent merges changes) refl e
    where
      by_parts : (r : Result (List (List ℕ) × Changed) Missing) → commit_parts id aims branch parent merges changes ≡ r → (r >>= λ p. let o : Result Making Missing = Ok (committed id aims branch mark p.1 (revision id p.1.tree p.0 (record { author = unwrap_or author committer; committer = committer; encoding = encoding; message = message }))) in o) ≡ Ok m → HaveNoSnapshot m.objects
      by_parts (Err x) s q = absurd cc
      by_parts (Ok p) s q =
          let is : committed id aims branch mark p.1 (revision id p.1.tree p.0 (record { author = unwrap_or author committer; committer = committer; encoding = encoding; message = message })) ≡ m = cc in
          subst (λ (x : Making). HaveNoSnapshot x.objects) is (ends_in p.1.contents (revision id p.1.tree p.0 (record { author = unwrap_or author committer; committer = committer; encoding = encoding; message = message })) (parts_bring branch parent merges changes p s) by_revision)
  objects_of (Tag tag mark target tagger message) m e = by_found (object_at aims target.at target.it) e
    where
      by_found : (r : Result (Aim PathMap) Missing) → (r >>= λ aim. let o : Result Making Missing = Ok (tagged id aims mark tag (release id aim tag tagger message)) in o) ≡ Ok m → HaveNoSnapshot m.objects
      by_found (Err x) q = absurd cc
      by_found (Ok aim) q =
          let is : tagged id aims mark tag (release id aim tag tagger message) ≡ m = cc in
          subst (λ (x : Making). HaveNoSnapshot x.objects) is (by_release, tt)
  objects_of (Reset branch Absent) m e = let is : only id (without_tip branch aims) ≡ m = cc in subst (λ (x : Making). HaveNoSnapshot x.objects) is tt
  objects_of (Reset branch NoTip) m e = let is : only id (without_tip branch aims) ≡ m = cc in subst (λ (x : Making). HaveNoSnapshot x.objects) is tt
  objects_of (Reset branch (Of a)) m e = by_found (commit_at aims a.at a.it) e
    where
      by_found : (r : Result (Aim PathMap) Missing) → (r >>= λ aim. let o : Result Making Missing = Ok (only id (with_tip branch aim aims)) in o) ≡ Ok m → HaveNoSnapshot m.objects
      by_found (Err x) q = absurd cc
      by_found (Ok aim) q = let is : only id (with_tip branch aim aims) ≡ m = cc in subst (λ (x : Making). HaveNoSnapshot x.objects) is tt

  pub no_snapshot : (c : Command) (m : Making) (o : Made) → step id aims c ≡ Ok m → Makes id m o → o.kind ≢ Snapshot
  no_snapshot c m o e (inl h) = each_is (λ (x : Made). x.kind ≢ Snapshot) m.objects o (objects_of c m e) h
  no_snapshot c m o e (inr h) = λ k. let d = h.2 in by_directory (sym (ap (λ (x : Made). x.kind) d.is) ∙ k)
