use Rattle.std.proofs.Common.{◌≡◌, ℕ, ◌+◌, ◌≤◌, length, map, vec_len, vec_capacity}
use Rattle.swh_outside.specs.Views.{sources}
use Rattle.swh_inputs.specs.Parts.{folders, parts}
use Rattle.swh_program.specs.Dated.{AreSaid, standing, IsKept}
use Rattle.swh_program.proofs.Openings.{OpenedSoFar}
use Rattle.swh_program.proofs.job_inputs.open_inputs.Given as goal

abbrev pub invariant-lines : goal.invariant-lines
invariant-lines g l = record {
  room : vec_len l.opened + length l.left.items ≤ vec_capacity l.opened;
  kept : IsKept g.O.Origins.tells (standing (g.O.Origins.file_at l.fn.origins) (g.O.Origins.folder_at l.fn.origins) (g.O.Origins.path_faults l.fn.origins) (g.O.Origins.faults l.fn.origins)) (standing (g.O.Origins.file_at l.origins) (g.O.Origins.folder_at l.origins) (g.O.Origins.path_faults l.origins) (g.O.Origins.faults l.origins));
  so_far : OpenedSoFar (parts (sources g.O.S.Source.tells g.O.S.Source.left g.O.S.Source.faults g.O.S.Source.path) (folders g.O.F.Folder.tells g.O.F.Folder.holds g.O.F.Folder.faults g.O.F.Folder.opened_at)) g.O.Origins.tells (standing (g.O.Origins.file_at l.fn.origins) (g.O.Origins.folder_at l.fn.origins) (g.O.Origins.path_faults l.fn.origins) (g.O.Origins.faults l.fn.origins)) (standing (g.O.Origins.file_at l.origins) (g.O.Origins.folder_at l.origins) (g.O.Origins.path_faults l.origins) (g.O.Origins.faults l.origins)) l.fn.lines.items l.left.items l.opened.items;
  said : g.C.Clock.tells → AreSaid (g.C.Clock.time l.fn.clock) (map (λ j. j.date) l.opened.items);
  next : g.C.Clock.tells → (k : ℕ) → g.C.Clock.time l.clock k ≡ g.C.Clock.time l.fn.clock (k + length l.opened.items);
  clock_later : g.C.Clock.faults l.fn.clock ≤ g.C.Clock.faults l.clock;
}

abbrev pub decreases-lines : goal.decreases-lines
decreases-lines g l = length l.left.items
