-- One branch more: what lets it follow, and what is read with it.
use Rattle.std.proofs.Common.{◌≡◌, ℕ, ◌-◌, ◌<◌, List, [], ◌∷◌, ◌++◌, length, get_or, take, sym, ap, ◌∙◌, subst, append_assoc}
use Rattle.std.specs.List.{AllByRecursion}
use Rattle.std.proofs.lemmas.List.{append-nil}
use Rattle.std.proofs.lemmas.List.Concat.{flat_map-append}
use Rattle.swh_base.specs.Snapshot.{SnapshotBranch, IsBranch, BranchIsBefore, AreBranches, branch_text, snapshot_text}
use Rattle.swh_base.proofs.DirectoryLemmas.{all-at, all-push}
use Rattle.swh_base.proofs.SnapshotLemmas.{one_branch}
use Rattle.swh_base.proofs.Lasts.{map_end, ends_with_last, after_through}
use Rattle.swh_snpfmt.specs.declared.branch.SpelledBranch.{SpelledBranch}
use Rattle.swh_snpfmt.specs.Branches.{branch_of, branches_in_body}
use Rattle.swh_snpfmt.specs.Fault.{MayFollowBranches, BeginsNextBranch}

pub branches-next : (bs : List SnapshotBranch) (b : SnapshotBranch) (more : List SnapshotBranch) → AreBranches (bs ++ b ∷ more) → MayFollowBranches bs b
branches-next [] b more h = record { is_branch = h.0; after = tt }
branches-next (c ∷ bs) b more h =
    let rest = branches-next bs b more h.2 in
    record { is_branch = rest.is_branch; after = (all-at (λ other. BranchIsBefore c other) bs b more h.1, rest.after) }

pub branches-push : (bs : List SnapshotBranch) (b : SnapshotBranch) → AreBranches bs → MayFollowBranches bs b → AreBranches (bs ++ b ∷ [])
branches-push [] b h m = (m.is_branch, tt, tt)
branches-push (c ∷ bs) b h m =
    (h.0, all-push (λ other. BranchIsBefore c other) bs b h.1 m.after.0, branches-push bs b h.2 (record { is_branch = m.is_branch; after = m.after.1 }))

-- the branch comes after all of these
abbrev pub ComesAfter : List SnapshotBranch → SnapshotBranch → Type 0
ComesAfter bs b = AllByRecursion (λ other. BranchIsBefore other b) bs

abbrev name_of : SnapshotBranch → List ℕ
name_of b = b.name

-- what comes after the last comes after all
pub after_last : (xs : List SpelledBranch) (x : SpelledBranch) (b : SnapshotBranch) → 0 < length xs → x ≡ get_or xs (length xs - 1) x → AreBranches (branches_in_body xs) → BranchIsBefore (branch_of x) b → ComesAfter (branches_in_body xs) b
after_last xs x b l is good t =
    let front : List SnapshotBranch = branches_in_body (take (length xs - 1) xs) in
    let ends = ends_with_last branch_of xs x l is in
    let parts = branches-next front (branch_of x) [] (subst AreBranches ends good) in
    subst (λ (bs : List SnapshotBranch). ComesAfter bs b) (sym ends) (all-push (λ other. BranchIsBefore other b) front (branch_of x) (after_through name_of front (branch_of x) b parts.after t) t)

pub last-before : (xs : List SpelledBranch) (x : SpelledBranch) (b : SnapshotBranch) → 0 < length xs → x ≡ get_or xs (length xs - 1) x → ComesAfter (branches_in_body xs) b → BranchIsBefore (branch_of x) b
last-before xs x b l is h =
    let front : List SnapshotBranch = branches_in_body (take (length xs - 1) xs) in
    all-at (λ other. BranchIsBefore other b) front (branch_of x) [] (subst (λ (bs : List SnapshotBranch). ComesAfter bs b) (ends_with_last branch_of xs x l is) h)

-- the branch that bytes begin with is one
pub not-BeginsNext : (before : List SnapshotBranch) (bytes : List ℕ) (b : SnapshotBranch) (rest : List ℕ) → IsBranch b → bytes ≡ branch_text b ++ rest → (ComesAfter before b → ⊥) → BeginsNextBranch before bytes → ⊥
not-BeginsNext before bytes b rest i text never h =
    let same = (one_branch h.branch b h.rest rest h.next.is_branch i (sym h.text ∙ text)).0 in
    never (subst (ComesAfter before) same h.next.after)

pub text-push : (bs : List SnapshotBranch) (b : SnapshotBranch) → snapshot_text (bs ++ b ∷ []) ≡ snapshot_text bs ++ branch_text b
text-push bs b = flat_map-append branch_text bs (b ∷ []) ∙ ap (λ (t : List ℕ). snapshot_text bs ++ t) (append-nil (branch_text b))

-- what has been read, with one branch more
pub record HasRead (body : List ℕ) (bs : List SnapshotBranch) (rest : List ℕ) : Type 0 where
  pub good : AreBranches bs
  pub text : body ≡ snapshot_text bs ++ rest

pub read_more : (body : List ℕ) (old new : List SpelledBranch) (x : SpelledBranch) (rest after : List ℕ) → new ≡ old ++ x ∷ [] → AreBranches (branches_in_body old) → body ≡ snapshot_text (branches_in_body old) ++ rest → MayFollowBranches (branches_in_body old) (branch_of x) → rest ≡ branch_text (branch_of x) ++ after → HasRead body (branches_in_body new) after
read_more body old new x rest after n good text next cut =
    let more : branches_in_body new ≡ branches_in_body old ++ branch_of x ∷ [] = map_end branch_of new old x n in
    let texts : snapshot_text (branches_in_body new) ≡ snapshot_text (branches_in_body old) ++ branch_text (branch_of x) = ap snapshot_text more ∙ text-push (branches_in_body old) (branch_of x) in
    record {
      good = subst AreBranches (sym more) (branches-push (branches_in_body old) (branch_of x) good next);
      text = text ∙ ap (λ (t : List ℕ). snapshot_text (branches_in_body old) ++ t) cut ∙ sym (append_assoc (snapshot_text (branches_in_body old)) (branch_text (branch_of x)) after) ∙ ap (λ (t : List ℕ). t ++ after) (sym texts);
    }
