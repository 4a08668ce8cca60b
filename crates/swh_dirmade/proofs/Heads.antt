-- The snapshot of one branch.
use Rattle.std.proofs.Common.{◌≡◌, ◌≤◌, ℕ, zero, suc, List, [], ◌∷◌, ◌++◌, length, Contains, sym, ap, ◌∙◌, subst, arith, length-append, codes, decimal}
use Rattle.std.specs.List.{AllByRecursion, filter_map}
use Rattle.std.proofs.lemmas.Fmt.{length-decimal-le}
use Rattle.swh_base.specs.declared.kind.Kind.TheVariants.{Snapshot}
use Rattle.swh_base.specs.declared.name.Name.{Name}
use Rattle.swh_base.specs.Limits.{body_limit}
use Rattle.swh_base.specs.Manifest.{AreChildren}
use Rattle.swh_base.specs.Snapshot.{AreBranches, IsSnapshot, branch_text, snapshot_text, branch_child}
use Rattle.swh_base.proofs.SnapshotLemmas.{one_snapshot}
use Rattle.swh_dirmade.specs.Making.{directory_name}
use Rattle.swh_dirmade.specs.Snapshots.{head}

no_nul : Contains (codes "HEAD") 0 → ⊥
no_nul (zero, l, e) = absurd (omega (arith, e))
no_nul (suc zero, l, e) = absurd (omega (arith, e))
no_nul (suc (suc zero), l, e) = absurd (omega (arith, e))
no_nul (suc (suc (suc zero)), l, e) = absurd (omega (arith, e))
no_nul (suc (suc (suc (suc k))), l, e) = absurd (omega (arith, l))

pub head_good : (root : List ℕ) → length root ≡ 20 → AreBranches (head root ∷ [])
head_good root twenty = (record { not_empty = λ e. absurd (cc); no_nul = no_nul; target = twenty }, tt, tt)

pub head_short : (root : List ℕ) → length root ≡ 20 → length (snapshot_text (head root ∷ [])) ≤ body_limit
head_short root twenty =
    let digits = length-decimal-le 20 (length root) (omega arith) (omega (arith, twenty)) (omega (arith, twenty)) in
    let a = length-append (codes "directory") (32 ∷ (codes "HEAD" ++ 0 ∷ (decimal (length root) ++ 58 ∷ root))) in
    let b = length-append (decimal (length root)) (58 ∷ root) in
    let c = length-append (branch_text (head root)) [] in
    omega (arith, digits, a, b, c, twenty)

-- its one child is the directory
pub head_kids : (names kids : List Name) (body root : List ℕ) → IsSnapshot body (head root ∷ []) → Contains names (directory_name root) → AreChildren Snapshot body kids → AllByRecursion (Contains names) kids
head_kids names kids body root is there are =
    let same : are.branches ≡ head root ∷ [] = one_snapshot body are.branches (head root ∷ []) are.is is in
    subst (AllByRecursion (Contains names)) (sym (are.kids ∙ ap (filter_map branch_child) same)) (there, tt)
