use Rattle.std.proofs.Common.{List, ℕ, ◌++◌, sym, ap, ◌∙◌}
use Rattle.swh_format.specs.StoredObject.{coded_entry}
use Rattle.swh_format.proofs.RunAppends.{run-next}
use Rattle.swh_format.proofs.stored_object.run_of_entries.Goals as goal

pub loop-entry-preserved : goal.loop-entry-preserved
loop-entry-preserved c =
    c.in_ok-push_entry.ensures ∙ ap (λ (l : List ℕ). l ++ coded_entry c.entry-item.result) c.loop-entry.invariant
    ∙ sym (run-next c.args.entries.now c.loop-entry.entry-index c.entry-item.result c.loop-entry-test.true c.entry-item.is)
