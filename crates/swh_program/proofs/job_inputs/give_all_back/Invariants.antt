use Rattle.std.proofs.Common.{length}
use Rattle.swh_outside.specs.Views.{sources}
use Rattle.swh_inputs.specs.Parts.{folders, parts}
use Rattle.swh_program.specs.Dated.{standing, IsKept}
use Rattle.swh_program.proofs.Openings.{BackSoFar}
use Rattle.swh_program.proofs.job_inputs.give_all_back.Given as goal

abbrev pub invariant-jobs : goal.invariant-jobs
invariant-jobs g l = record {
  kept : IsKept g.O.Origins.tells (standing (g.O.Origins.file_at l.fn.origins) (g.O.Origins.folder_at l.fn.origins) (g.O.Origins.path_faults l.fn.origins) (g.O.Origins.faults l.fn.origins)) (standing (g.O.Origins.file_at l.origins) (g.O.Origins.folder_at l.origins) (g.O.Origins.path_faults l.origins) (g.O.Origins.faults l.origins));
  so_far : BackSoFar (parts (sources g.O.S.Source.tells g.O.S.Source.left g.O.S.Source.faults g.O.S.Source.path) (folders g.O.F.Folder.tells g.O.F.Folder.holds g.O.F.Folder.faults g.O.F.Folder.opened_at)) (g.O.Origins.path_faults l.fn.origins) (g.O.Origins.path_faults l.origins) l.fn.jobs.items l.jobs.items;
}

abbrev pub decreases-jobs : goal.decreases-jobs
decreases-jobs g l = length l.jobs.items
