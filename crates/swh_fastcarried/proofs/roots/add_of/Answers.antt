use Rattle.std.proofs.Common.{◌≡◌}
use Rattle.swh_fastcarried.specs.First.{IsRootAt}
use Rattle.swh_fastcarried.proofs.Ones.{set_by, set_stays}
use Rattle.swh_fastcarried.proofs.RevisionRoots.{pushed, one_root}
use Rattle.swh_fastcarried.proofs.roots.add_of.Goals as goal

pub returns-in_ok-push : goal.returns-in_ok-push
returns-in_ok-push g c =
    let bodies = (g.L.Look.archive c.args.look.now).bodies in
    let is = rw c.in-Some.is at c.root_of.ensures.some in
    set_by c.args.roots.now.items c.push.new.self.items (λ n. c.in-Some.root ≡ n) (IsRootAt bodies c.args.name) (one_root bodies c.args.name c.in-Some.root is)
    (pushed c.args.roots.now.items c.push.new.self.items c.in-Some.root c.in_ok-push.ensures.items)

pub returns-in_default : goal.returns-in_default
returns-in_default g c =
    let none = rw c.in_default.is at c.root_of.ensures.none in
    set_stays c.args.roots.now.items (IsRootAt (g.L.Look.archive c.args.look.now).bodies c.args.name) none
