use Rattle.std.proofs.Common.{sym, ◌∙◌}
use Rattle.swh_snpfmt.specs.Branches.{branch_of}
use Rattle.swh_fastcarried.specs.First.{IsOwnTag}
use Rattle.swh_fastcarried.proofs.Ones.{set_added, set_stays}
use Rattle.swh_fastcarried.proofs.Reaching.{same_object}
use Rattle.swh_fastcarried.proofs.tagged.add_own.Goals as goal

pub returns-in-Some : goal.returns-in-Some
returns-in-Some g c =
    let own = c.in-Some.ensures.some in
    set_added c.add.result c.args.tagged.now c.add.new.self (IsOwnTag (g.L.Look.archive c.args.look.now).bodies (branch_of c.args.branch.now)) c.in-Some.name own
    (λ n is. same_object c.in-Some.name n (sym own.1 ∙ is.1)) c.add.ensures.ok

pub returns-in-None : goal.returns-in-None
returns-in-None g c = set_stays c.args.tagged.now (IsOwnTag (g.L.Look.archive c.args.look.now).bodies (branch_of c.args.branch.now)) c.in-None.ensures.none
