use Rattle.std.proofs.Common.{◌≡◌, ℕ, List}
use Rattle.swh_outside.specs.Faults.{Rose}
use Rattle.swh_outside.specs.Sink.{Begun}
use Rattle.swh_replay.specs.Replay.{archive_of}
use Rattle.swh_dircook.specs.Made.{yarded}
use Rattle.swh_program.specs.CookCommand.{cook_line}
use Rattle.swh_program.specs.Yards.{Yards, yards}
use Rattle.swh_exit.specs.declared.answer.Ending.TheVariants as ending
use Rattle.swh_program.proofs.Cooked.{line_inside, line_undamaged, told_cooked, leaves_cooked, told_uncooked, leaves_uncooked, uncooked_inside, uncooked_undamaged}
use Rattle.swh_program.proofs.cook_command.tell_cook.Goals as goal

-- the yard over the call
abbrev over : {Y : Type 0} → Type 0 → (Y → List Begun) → (Y → List ℕ) → (Y → ℕ) → Y → Y → Yards
over tells begun taken faults old new = yards tells (yarded (begun old) (taken old)) (yarded (begun new) (taken new)) (new ≡ old) (Rose (faults old) (faults new))

pub returns-in-Ok-clause-told : goal.returns-in-Ok-clause-told
returns-in-Ok-clause-told g c =
    let y : Yards = over g.Y.Sink.tells g.Y.Sink.begun g.Y.Sink.taken g.Y.Sink.faults c.args.yard.now c.cook_name.new.yard in
    told_cooked y (archive_of c.args.replayed.now) c.args.name c.args.out.now _ c.is_graph.ensures c.in-Ok.head c.tell_cooked.result c.in-Ok.ensures.ok c.tell_cooked.ensures

pub returns-in-Ok-clause-leaves : goal.returns-in-Ok-clause-leaves
returns-in-Ok-clause-leaves g c =
    let y : Yards = over g.Y.Sink.tells g.Y.Sink.begun g.Y.Sink.taken g.Y.Sink.faults c.args.yard.now c.cook_name.new.yard in
    leaves_cooked y (archive_of c.args.replayed.now) c.args.name c.args.out.now _ c.is_graph.ensures c.in-Ok.head c.tell_cooked.result c.in-Ok.ensures.ok c.tell_cooked.ensures

pub returns-in-Ok-clause-inside : goal.returns-in-Ok-clause-inside
returns-in-Ok-clause-inside g c = line_inside (cook_line c.args.name c.in-Ok.head) ending.Done c.tell_cooked.result c.tell_cooked.ensures

pub returns-in-Ok-clause-undamaged : goal.returns-in-Ok-clause-undamaged
returns-in-Ok-clause-undamaged g c = line_undamaged (cook_line c.args.name c.in-Ok.head) ending.Done c.tell_cooked.result c.tell_cooked.ensures

pub returns-in-Err-clause-told : goal.returns-in-Err-clause-told
returns-in-Err-clause-told g c =
    let y : Yards = over g.Y.Sink.tells g.Y.Sink.begun g.Y.Sink.taken g.Y.Sink.faults c.args.yard.now c.cook_name.new.yard in
    told_uncooked y (archive_of c.args.replayed.now) c.args.name c.args.out.now _ c.is_graph.ensures (g.Y.Sink.faults c.args.yard.now) (g.Y.Sink.faults c.cook_name.new.yard) (λ rose. rose)
    c.in-Err.fault c.tell_uncooked.result c.in-Err.ensures.cause.failed c.in-Err.ensures.err c.tell_uncooked.ensures

pub returns-in-Err-clause-leaves : goal.returns-in-Err-clause-leaves
returns-in-Err-clause-leaves g c =
    let y : Yards = over g.Y.Sink.tells g.Y.Sink.begun g.Y.Sink.taken g.Y.Sink.faults c.args.yard.now c.cook_name.new.yard in
    leaves_uncooked y (archive_of c.args.replayed.now) c.args.name c.args.out.now _ c.is_graph.ensures c.in-Err.fault c.tell_uncooked.result c.in-Err.ensures.err c.tell_uncooked.ensures

pub returns-in-Err-clause-inside : goal.returns-in-Err-clause-inside
returns-in-Err-clause-inside g c = uncooked_inside c.in-Err.fault c.tell_uncooked.result c.tell_uncooked.ensures

pub returns-in-Err-clause-undamaged : goal.returns-in-Err-clause-undamaged
returns-in-Err-clause-undamaged g c = uncooked_undamaged c.in-Err.fault c.tell_uncooked.result c.tell_uncooked.ensures
