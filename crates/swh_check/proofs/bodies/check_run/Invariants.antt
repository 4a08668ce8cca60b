use Rattle.std.proofs.Common.{◌≡◌, ◌≤◌, drop, length}
use Rattle.swh_model.specs.Limits.{run_length}
use Rattle.swh_format.specs.StoredObject.{coded_run}
use Rattle.swh_check.specs.Bodies.{HaveTheirIds}
use Rattle.swh_check.proofs.bodies.check_run.Given as goal

abbrev pub invariant-loop-entry : goal.invariant-loop-entry
invariant-loop-entry g l = record {
  sized : length l.rest ≤ run_length (drop l.entry-index l.entries);
  coded : l.fn.run ≡ coded_run l.entries → l.rest ≡ coded_run (drop l.entry-index l.entries);
  count : l.count ≡ l.entry-index;
  ids : HaveTheirIds g.N.Namer.id_of l.rest (drop l.entry-index l.entries) → HaveTheirIds g.N.Namer.id_of l.fn.run l.entries;
}
