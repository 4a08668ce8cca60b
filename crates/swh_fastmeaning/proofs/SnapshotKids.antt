-- The children of a snapshot of tips are what the tips lead to.
use Rattle.std.proofs.Common.{◌≡◌, ℕ, Option, Some, None, List, [], ◌∷◌, map, Contains, refl, ap, subst, codes}
use Rattle.std.specs.Ordering.{nat_cmp, match_ordering}
use Rattle.std.specs.declared.cmp.Ordering.{Ordering}
use Rattle.std.specs.declared.cmp.Ordering.TheVariants.{Less, Equal, Greater}
use Rattle.std.specs.Cmp.Lexicographic.{slice_cmp}
use Rattle.std.specs.List.{AllByRecursion, filter_map}
use Rattle.swh_base.specs.declared.kind.Kind.{Kind}
use Rattle.swh_base.specs.declared.kind.Kind.TheVariants.{Snapshot}
use Rattle.swh_base.specs.declared.name.Name.{Name}
use Rattle.swh_base.specs.declared.entry.Entry.{Entry}
use Rattle.swh_base.specs.Snapshot.{SnapshotBranch, AreBranches, snapshot_text, branch_child}
use Rattle.swh_base.specs.Manifest.{AreChildren, IsWellFormed}
use Rattle.swh_base.proofs.Children.{one_list}
use Rattle.swh_model.specs.Meaning.{head_branch, put_branch, with_head}
use Rattle.swh_object.specs.Object.{IsObject}
use Rattle.swh_fastmeaning.specs.Aims.{Aim, AllAims}
use Rattle.swh_dedup.specs.Making.{made_from}
use Rattle.swh_fastmeaning.specs.Snapshots.{tip_branch, snapshot_of}

pub snapshot_children : (branches : List SnapshotBranch) (body : List ℕ) → AreBranches branches → body ≡ snapshot_text branches → AreChildren Snapshot body (filter_map branch_child branches)
snapshot_children branches body good e = record { branches = branches; is = record { text = e; good = good }; kids = refl }

pub snapshot_good : (branches : List SnapshotBranch) (body : List ℕ) → AreBranches branches → body ≡ snapshot_text branches → IsWellFormed Snapshot body
snapshot_good branches body good e = (filter_map branch_child branches, snapshot_children branches body good e)

-- Each tip leads to one of these names.
abbrev pub LeadAmong : {T : Type 0} → List Name → List (List ℕ × Aim T) → Type 0
LeadAmong names tips = AllByRecursion (λ e. Contains names e.1.name) tips

tips_among : {T : Type 0} (names : List Name) (tips : List (List ℕ × Aim T)) → LeadAmong names tips → AllByRecursion (Contains names) (filter_map branch_child (map tip_branch tips))
tips_among names [] h = tt
tips_among names (e ∷ tips) h = (h.0, tips_among names tips h.1)

head_among : {T : Type 0} (names : List Name) (head : List ℕ) (tips : List (List ℕ × Aim T)) → LeadAmong names tips → AllByRecursion (Contains names) (filter_map branch_child (put_branch (head_branch head) (map tip_branch tips)))
head_among names head [] h = tt
head_among names head (e ∷ tips) h = by_order (slice_cmp nat_cmp (codes "HEAD") e.0) (head_among names head tips h.1)
  where
    by_order : (o : Ordering) → AllByRecursion (Contains names) (filter_map branch_child (put_branch (head_branch head) (map tip_branch tips))) → AllByRecursion (Contains names) (filter_map branch_child (match_ordering o (head_branch head ∷ tip_branch e ∷ map tip_branch tips) (head_branch head ∷ map tip_branch tips) (tip_branch e ∷ put_branch (head_branch head) (map tip_branch tips))))
    by_order Less k = (h.0, tips_among names tips h.1)
    by_order Equal k = tips_among names tips h.1
    by_order Greater k = (h.0, k)

branches_among : {T : Type 0} (names : List Name) (head : Option (List ℕ)) (tips : List (List ℕ × Aim T)) → LeadAmong names tips → AllByRecursion (Contains names) (filter_map branch_child (with_head head (map tip_branch tips)))
branches_among names None tips h = tips_among names tips h
branches_among names (Some head) tips h = head_among names head tips h

-- The children of the object of a snapshot are among the names that the tips lead to.
pub kids_among : {T : Type 0} (id : Kind → List ℕ → List ℕ) (names : List Name) (head : Option (List ℕ)) (aims : AllAims T) (e : Entry) → LeadAmong names aims.tips → AreBranches (with_head head (map tip_branch aims.tips)) → made_from e ≡ snapshot_of head aims → IsObject id e → AllByRecursion (Contains names) e.kids
kids_among id names head aims e h good is o =
    let branches = with_head head (map tip_branch aims.tips) in
    let body : e.body ≡ snapshot_text branches = ap (λ m. m.body) is in
    let kids : AreChildren Snapshot e.body e.kids = subst (λ (k : Kind). AreChildren k e.body e.kids) (ap (λ m. m.kind) is) o.kids in
    let same : filter_map branch_child branches ≡ e.kids = one_list Snapshot e.body (filter_map branch_child branches) e.kids (snapshot_children branches e.body good body) kids in
    subst (AllByRecursion (Contains names)) same (branches_among names head aims.tips h)
