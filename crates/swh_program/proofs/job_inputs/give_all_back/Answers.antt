use Rattle.swh_outside.specs.Views.{sources}
use Rattle.swh_inputs.specs.Parts.{folders, parts}
use Rattle.swh_program.specs.Dated.{standing}
use Rattle.swh_program.proofs.Openings.{kept_then, back_next}
use Rattle.swh_program.proofs.job_inputs.give_all_back.Goals as goal

pub jobs-preserved : goal.jobs-preserved
jobs-preserved g c =
    let before = g.O.Origins.path_faults c.args.origins.now in
    let now = g.O.Origins.path_faults c.jobs.origins in
    let after = g.O.Origins.path_faults c.give_back.new.origins in
    record {
      kept = kept_then g.O.Origins.tells (standing (g.O.Origins.file_at c.args.origins.now) (g.O.Origins.folder_at c.args.origins.now) (g.O.Origins.path_faults c.args.origins.now) (g.O.Origins.faults c.args.origins.now)) (standing (g.O.Origins.file_at c.jobs.origins) (g.O.Origins.folder_at c.jobs.origins) (g.O.Origins.path_faults c.jobs.origins) (g.O.Origins.faults c.jobs.origins)) (standing (g.O.Origins.file_at c.give_back.new.origins) (g.O.Origins.folder_at c.give_back.new.origins) (g.O.Origins.path_faults c.give_back.new.origins) (g.O.Origins.faults c.give_back.new.origins)) c.jobs.invariant.kept c.give_back.ensures.kept;
      so_far = back_next (parts (sources g.O.S.Source.tells g.O.S.Source.left g.O.S.Source.faults g.O.S.Source.path) (folders g.O.F.Folder.tells g.O.F.Folder.holds g.O.F.Folder.faults g.O.F.Folder.opened_at)) before now after c.args.jobs.items c.jobs.jobs.items c.pop.new.self.items c.in-Some.dated c.jobs.invariant.kept.path_later c.give_back.ensures.kept.path_later c.in-Some.ensures.items c.jobs.invariant.so_far c.give_back.ensures.back;
    }
