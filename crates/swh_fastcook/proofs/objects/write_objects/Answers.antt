use Rattle.std.proofs.Common.{List, subst}
use Rattle.std.specs.Prelude.{Contains}
use Rattle.swh_base.specs.declared.name.Name.{Name}
use Rattle.swh_fastwrite.specs.Held.{WroteSome, kept}
use Rattle.swh_fastcook.specs.Stream.{AreObjectTexts}
use Rattle.swh_fastcook.proofs.objects.write_objects.Goals as goal

pub write_each-requires-clause-there : goal.write_each-requires-clause-there
write_each-requires-clause-there g c = λ n there. subst (λ (ns : List Name). Contains ns n) c.order.ensures there

pub write_each-requires-clause-plain : goal.write_each-requires-clause-plain
write_each-requires-clause-plain g c = λ n there. c.requires.plain n (subst (λ (ns : List Name). Contains ns n) c.order.ensures there)

pub returns-clause-bytes : goal.returns-clause-bytes
returns-clause-bytes g c =
    subst
    (λ (ns : List Name).
    WroteSome g.T.Taker.takes g.T.Taker.takes_front (kept c.args.taker.now c.args.held.now.items) (AreObjectTexts (g.L.Look.archive c.args.look.now).bodies c.args.marks.now ns) (kept c.write_each.new.taker c.write_each.new.held.items)
    c.write_each.result)
    c.order.ensures c.write_each.ensures.bytes
