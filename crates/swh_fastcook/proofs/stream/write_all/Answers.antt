use Rattle.std.proofs.Common.{[], refl}
use Rattle.swh_postorder.proofs.Orders.{order_are}
use Rattle.swh_fastwrite.specs.Held.{kept}
use Rattle.swh_fastwrite.proofs.Pieces.{front_none}
use Rattle.swh_fastcook.specs.Stream.{IsStreamText}
use Rattle.swh_fastcook.proofs.StreamTexts.{first_line, objects_broke, stream_wrote}
use Rattle.swh_fastcook.proofs.Texts.{pushed, stopped_some}
use Rattle.swh_fastcook.proofs.stream.write_all.Goals as goal

pub returns-in_err-hold-clause-bytes : goal.returns-in_err-hold-clause-bytes
returns-in_err-hold-clause-bytes g c =
    let bodies = (g.L.Look.archive c.args.look.now).bodies in
    let old = kept c.args.taker.now c.args.held.now.items in
    stopped_some g.T.Taker.takes g.T.Taker.takes_front old (kept c.args.taker.now c.hold.new.held.items) c.from_residual.result c.from_residual.ensures.0 (IsStreamText bodies c.args.marks.now c.args.root)
    (λ text _. front_none g.T.Taker.takes g.T.Taker.takes_front g.met.T.Taker.adds_up old text)

pub returns-in_err-write_objects-clause-bytes : goal.returns-in_err-write_objects-clause-bytes
returns-in_err-write_objects-clause-bytes g c =
    let bodies = (g.L.Look.archive c.args.look.now).bodies in
    let old = kept c.args.taker.now c.args.held.now.items in
    let a = kept c.args.taker.now c.hold.new.held.items in
    stopped_some g.T.Taker.takes g.T.Taker.takes_front old (kept c.write_objects.new.taker c.write_objects.new.held.items) c.from_residual-in_err-write_objects.result c.from_residual-in_err-write_objects.ensures.0
    (IsStreamText bodies c.args.marks.now c.args.root)
    (objects_broke bodies c.args.marks.now c.args.root g.T.Taker.takes g.T.Taker.takes_front g.met.T.Taker.adds_up old a
    (pushed g.T.Taker.takes g.T.Taker.takes_front g.met.T.Taker.adds_up c.args.taker.now c.args.held.now.items first_line c.hold.new.held.items c.in_ok-hold.ensures) c.write_objects.new.taker c.in_err-write_objects.ensures.bytes.err)

pub returns-clause-bytes : goal.returns-clause-bytes
returns-clause-bytes g c =
    let bodies = (g.L.Look.archive c.args.look.now).bodies in
    let old = kept c.args.taker.now c.args.held.now.items in
    let a = kept c.args.taker.now c.hold.new.held.items in
    let b = kept c.write_objects.new.taker c.write_objects.new.held.items in
    let objects = c.in_ok-write_objects.ensures.bytes.ok in
    stream_wrote bodies c.args.marks.now c.args.root g.T.Taker.takes g.T.Taker.takes_front g.met.T.Taker.adds_up old a
    (pushed g.T.Taker.takes g.T.Taker.takes_front g.met.T.Taker.adds_up c.args.taker.now c.args.held.now.items first_line c.hold.new.held.items c.in_ok-hold.ensures)
    b objects.0 objects.1 objects.2 (kept c.write_end.new.taker c.write_end.new.held.items) c.write_end.result c.write_end.ensures.bytes

pub write_end-requires-clause-there : goal.write_end-requires-clause-there
write_end-requires-clause-there g c = (order_are (g.L.Graph.children_of c.args.look.now) c.args.root c.args.marks.now c.requires.order c.args.root).1 ([], refl)
