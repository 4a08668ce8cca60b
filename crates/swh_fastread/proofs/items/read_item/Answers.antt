use Rattle.std.proofs.lemmas.Result.{err_from_is_err_and}
use Rattle.swh_fastread.proofs.ReadItems.{ok_each, err_each, ok_passed, err_passed, stops_here}
use Rattle.swh_fastread.proofs.items.read_item.Goals as goal

pub returns-then-branch-clause-item : goal.returns-then-branch-clause-item
returns-then-branch-clause-item g c = λ told.
    ok_passed c.args.rows.now c.peek.new.rows c.held_item.new.rows c.args.promised c.held_item.result (c.in_ok-peek.ensures.took told) (ok_each c.peek.new.rows c.held_item.new.rows c.args.promised c.held_item.result (c.held_item.ensures.item told))

pub returns-then-branch-clause-fails : goal.returns-then-branch-clause-fails
returns-then-branch-clause-fails g c = λ told.
    err_passed c.args.rows.now c.peek.new.rows c.args.promised c.held_item.result (c.in_ok-peek.ensures.took told) (err_each c.peek.new.rows c.args.promised c.held_item.result (c.held_item.ensures.fails told))

pub returns-else-branch-clause-item : goal.returns-else-branch-clause-item
returns-else-branch-clause-item g c = λ told. ok_passed c.args.rows.now c.peek.new.rows c.peek.new.rows c.args.promised c.end_of_input.result (c.in_ok-peek.ensures.took told) (c.end_of_input.ensures.item told)

pub returns-else-branch-clause-fails : goal.returns-else-branch-clause-fails
returns-else-branch-clause-fails g c = λ told. err_passed c.args.rows.now c.peek.new.rows c.args.promised c.end_of_input.result (c.in_ok-peek.ensures.took told) (c.end_of_input.ensures.fails told)

pub returns-in_err-peek-clause-fails : goal.returns-in_err-peek-clause-fails
returns-in_err-peek-clause-fails g c = λ told.
    let q = err_from_is_err_and c.from_residual.result c.from_residual.ensures.1 in
    rw (q.1, q.2) (stops_here c.args.rows.now c.args.promised c.in_err-peek.field-0.0 (c.in_err-peek.ensures.fails told))
