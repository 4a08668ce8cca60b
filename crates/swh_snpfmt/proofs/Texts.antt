-- The text of one branch more.
use Rattle.std.proofs.Common.{◌≡◌, ℕ, ◌+◌, ◌<◌, List, [], ◌∷◌, ◌++◌, length, get_or, take, sym, ap, ◌∙◌}
use Rattle.std.proofs.lemmas.List.{map_more}
use Rattle.swh_base.specs.Snapshot.{branch_text, snapshot_text}
use Rattle.swh_snpfmt.specs.declared.branch.Branch.{Branch}
use Rattle.swh_snpfmt.specs.Branches.{branch_view, branch_views}
use Rattle.swh_snpfmt.proofs.Follows.{text-push}

pub text-more : (xs : List Branch) (i : ℕ) (x : Branch) → i < length xs → x ≡ get_or xs i x → snapshot_text (branch_views (take (i + 1) xs)) ≡ snapshot_text (branch_views (take i xs)) ++ branch_text (branch_view x)
text-more xs i x l e =
    ap snapshot_text (map_more branch_view xs i x l ∙ ap (λ (y : Branch). branch_views (take i xs) ++ branch_view y ∷ []) (sym e)) ∙ text-push (branch_views (take i xs)) (branch_view x)
