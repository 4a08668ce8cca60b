use Rattle.swh_snpfmt.specs.Branches.{branch_of, branches_in_body}
use Rattle.swh_snpfmt.proofs.Follows.{not-BeginsNext, ComesAfter}
use Rattle.swh_snpfmt.proofs.reading.next_branch.Goals as goal

pub returns-else-is_after-clause-none : goal.returns-else-is_after-clause-none
returns-else-is_after-clause-none c =
    let front = c.in_ok-next.ensures.some in
    let never : ComesAfter (branches_in_body c.args.before.now) (branch_of c.in_ok-next.next) → ⊥ = λ h. let t = c.if-is_after.ensures.1 h in let f = c.if-is_after.false in cc in
    not-BeginsNext (branches_in_body c.args.before.now) c.args.bytes.now (branch_of c.in_ok-next.next) c.in_ok-next.rest.now front.0 front.1 never
