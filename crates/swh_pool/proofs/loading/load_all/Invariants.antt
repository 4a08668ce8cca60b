use Rattle.std.proofs.Common.{◌≡◌, ◌+◌, List, ◌++◌, map, length, vec_len, vec_capacity}
use Rattle.swh_pool.specs.declared.dated.DatedJob.{DatedJob}
use Rattle.std.specs.List.{AllByRecursion}
use Rattle.swh_outside.specs.Views.{disks, sources}
use Rattle.swh_inputs.specs.Parts.{folders, parts}
use Rattle.swh_pool.specs.Lines.{lines_of, room_of}
use Rattle.swh_pool.specs.Loads.{HasHead, OneLoad, AreLoads, loading}
use Rattle.swh_pool.proofs.JobLines.{end_of}
use Rattle.swh_pool.proofs.loading.load_all.Given as goal

abbrev pub invariant-jobs : goal.invariant-jobs
invariant-jobs g l = record {
  loads : List (OneLoad g.row.S.Denot g.row.F.Denot);
  rest : List (DatedJob g.row.S.Denot g.row.F.Denot);
  before : l.fn.jobs ≡ map (λ x. x.job) loads ++ rest;
  now : l.jobs ≡ map (λ x. x.after) loads ++ rest;
  heads : AllByRecursion HasHead rest;
  outcomes : l.outcomes.items ≡ map (λ x. x.outcome) loads;
  each : AreLoads (loading g.N.Namer.id_of l.worker.by (parts (sources g.S.Source.tells g.S.Source.left g.S.Source.faults g.S.Source.path) (folders g.F.Folder.tells g.F.Folder.holds g.F.Folder.faults g.F.Folder.opened_at)) (disks g.D.Disk.tells g.D.Disk.file g.D.Disk.faults)) loads l.fn.keeper l.keeper;
  index : length loads ≡ l.dated-index;
  count : vec_len l.outcomes ≡ l.dated-index;
  text : l.lines.text.items ≡ lines_of (map end_of loads);
  left : l.lines.left ≡ room_of rest;
  room : vec_capacity l.outcomes ≡ length l.fn.jobs;
}
