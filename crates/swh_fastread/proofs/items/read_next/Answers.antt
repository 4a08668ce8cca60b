use Rattle.std.proofs.Common.{arith, ◌∙◌}
use Rattle.std.proofs.lemmas.Result.{err_from_is_err_and}
use Rattle.swh_fastread.proofs.ReadItems.{explains_passed, command_passed, ends_passed, passed_promise, passed_silent}
use Rattle.swh_fastread.proofs.items.read_next.Goals as goal

pub returns-in_err-command-clause-fails : goal.returns-in_err-command-clause-fails
returns-in_err-command-clause-fails g c = λ told.
    let q = err_from_is_err_and c.from_residual.result c.from_residual.ensures.1 in
    rw (q.1, q.2) (explains_passed c.args.rows.now c.items.rows c.args.promised c.items.wants_done c.in_err-command.field-0.0 (c.items.invariant.passed told) (c.in_err-command.ensures.fails told))

pub returns-in-Command-clause-next : goal.returns-in-Command-clause-next
returns-in-Command-clause-next g c = λ told.
    command_passed c.args.rows.now c.items.rows c.read_item.new.rows c.args.promised c.items.wants_done c.in-Command.command (c.items.invariant.passed told) (rw c.in-Command.is at (c.in_ok-command.ensures.item told))

pub returns-in-End-clause-next : goal.returns-in-End-clause-next
returns-in-End-clause-next g c = λ told.
    ends_passed c.args.rows.now c.items.rows c.read_item.new.rows c.args.promised c.items.wants_done (c.items.invariant.passed told) (rw c.in-End.is at (c.in_ok-command.ensures.item told))

pub items-smaller-in-Promise : goal.items-smaller-in-Promise
items-smaller-in-Promise g c = let on = rw c.in-Promise.is at c.in_ok-command.ensures.onward in omega (arith, on.0, on.1)

pub items-preserved-in-Promise : goal.items-preserved-in-Promise
items-preserved-in-Promise g c = record {
  passed = λ told. passed_promise c.args.rows.now c.items.rows c.read_item.new.rows c.args.promised c.items.wants_done (c.items.invariant.passed told) (rw c.in-Promise.is at (c.in_ok-command.ensures.item told));
  same_path = c.read_item.ensures.on.same_path ∙ c.items.invariant.same_path;
  onward = let on = rw c.in-Promise.is at c.in_ok-command.ensures.onward in omega (arith, on.0, c.items.invariant.onward);
  quiet = c.in_ok-command.ensures.on.quiet (λ h. cc) ∙ c.items.invariant.quiet;
}

pub items-smaller : goal.items-smaller
items-smaller g c = let on = rw c.in-Nothing.is at c.in_ok-command.ensures.onward in omega (arith, on.0, on.1)

pub items-preserved : goal.items-preserved
items-preserved g c = record {
  passed = λ told. passed_silent c.args.rows.now c.items.rows c.read_item.new.rows c.args.promised c.items.wants_done (c.items.invariant.passed told) (rw c.in-Nothing.is at (c.in_ok-command.ensures.item told));
  same_path = c.read_item.ensures.on.same_path ∙ c.items.invariant.same_path;
  onward = let on = rw c.in-Nothing.is at c.in_ok-command.ensures.onward in omega (arith, on.0, c.items.invariant.onward);
  quiet = c.in_ok-command.ensures.on.quiet (λ h. cc) ∙ c.items.invariant.quiet;
}

pub returns-in-Command-clause-onward : goal.returns-in-Command-clause-onward
returns-in-Command-clause-onward g c = let on = rw c.in-Command.is at c.in_ok-command.ensures.onward in omega (arith, on, c.items.invariant.onward)
