use Rattle.std.proofs.Common.{◌≡◌, take}
use Rattle.swh_keeper.specs.Stored.{IsReadAgain}
use Rattle.swh_check.specs.Bodies.{AreCompared}
use Rattle.swh_check.specs.Check.{IsProgress}
use Rattle.swh_check.proofs.runs.check_bodies.Given as goal

abbrev pub invariant-loop-place : goal.invariant-loop-place
invariant-loop-place g l = record {
  same : IsReadAgain g.D.Disk.tells g.D.Disk.file l.initial.keeper l.keeper;
  done : IsProgress (take l.place l.initial.keeper.history) l.done;
  compared : AreCompared g.N.Namer.id_of g.D.Disk.tells (take l.place l.initial.keeper.history);
  quiet : g.D.Disk.faults l.keeper.store ≡ g.D.Disk.faults l.initial.keeper.store;
}
