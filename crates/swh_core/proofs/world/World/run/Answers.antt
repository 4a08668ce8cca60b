use Rattle.std.proofs.Common.{length, ap, arith, sym, ◌∙◌}
use Rattle.swh_core.proofs.Runs.{no_room, not_empty, run_goes_on, run_stops, run_ends, none_left}
use Rattle.swh_core.proofs.world.World.run.Goals as goal

pub steps-preserved : goal.steps-preserved
steps-preserved g c =
    let i = c.steps.invariant in
    let items = c.push_reserved.ensures.items in
    record {
      room = (let r = i.room in let n = c.push_reserved.ensures.len in let k = c.push_reserved.ensures.capacity in let l = ap length c.in-Some.ensures.items in omega (arith, r, n, k, l));
      so_far = rw items (run_goes_on g.N.Namer.id_of c.args.steps.items c.steps.left.items c.pop_front.new.self.items c.args.self.now c.steps.self c.steps.told.items c.in-Some.step c.in-Some.ensures.items i.so_far
          c.in-Ok-step.answer c.step.new.self c.in-Ok-step.ensures.step c.in-Ok-step.ensures.kept c.in-Ok-step.ensures.later);
    }

pub returns-in-Err-clause-err : goal.returns-in-Err-clause-err
returns-in-Err-clause-err g c = no_room g.N.Namer.id_of c.args.steps.items c.args.self.now (not_empty c.args.steps (sym c.is_empty.ensures ∙ c.if-is_empty.false))

pub returns-in-Err-step-clause-err : goal.returns-in-Err-step-clause-err
returns-in-Err-step-clause-err g c =
    run_stops g.N.Namer.id_of c.args.steps.items c.steps.left.items c.pop_front.new.self.items c.args.self.now c.steps.self c.steps.told.items c.in-Some.step c.in-Some.ensures.items c.steps.invariant.so_far
    c.in-Err-step.fault c.step.new.self c.in-Err-step.ensures.step

pub returns-clause-ok : goal.returns-clause-ok
returns-clause-ok g c =
    run_ends g.N.Namer.id_of c.args.steps.items c.steps.left.items c.args.self.now c.steps.self c.steps.told.items (none_left c.steps.left.items c.pop_front.new.self.items c.in_default.ensures.items c.in_default.ensures.rest) c.steps.invariant.so_far
