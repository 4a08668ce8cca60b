use Rattle.std.proofs.Common.{inr, arith}
use Rattle.swh_outside.specs.Views.{disks}
use Rattle.swh_jobs.specs.Answers.{owned_jobs}
use Rattle.swh_exit.specs.Archives.{archive_at}
use Rattle.swh_program.proofs.Loads.{run_files, run_undamaged, refused_unloaded}
use Rattle.swh_program.proofs.Owned.{keeps_by_end}
use Rattle.swh_program.proofs.outside.Outside.load_jobs.Goals as goal

pub returns-in-Err-clause-load : goal.returns-in-Err-clause-load
returns-in-Err-clause-load g c =
    inr (refused_unloaded g.N.Namer.id_of g.P.Depot.tells (archive_at (g.P.Depot.files c.args.self.now.depot) c.args.dir.now) (archive_at (g.P.Depot.files c.open_archive.new.depot) c.args.dir.now) c.in-Err.refusal
    c.in-Err.ensures.one_of (λ t. (c.in-Err.ensures.refused t).ends))

pub returns-clause-load : goal.returns-clause-load
returns-clause-load g c =
    run_files _ (disks g.P.D.Disk.tells g.P.D.Disk.file g.P.D.Disk.faults) c.in-Ok.keeper c.load_lines-answer.new.keeper _ _
    (λ t. (c.in-Ok.ensures.opened t).archive) c.close_archive.ensures.kept c.in-Ok.ensures.disks_tell (λ t. (c.in-Ok.ensures.opened t).sees) (λ t. (c.in-Ok.ensures.opened t).opened) c.close_archive.ensures.taken c.in-Ok.ensures.unwounded
    (omega arith) (owned_jobs c.args.lines.items) c.load_lines-answer.result c.load_lines-answer.ensures.load

pub returns-in-Err-clause-own : goal.returns-in-Err-clause-own
returns-in-Err-clause-own g c told = (c.in-Err.ensures.refused told).own

pub returns-clause-own : goal.returns-clause-own
returns-clause-own g c told =
    keeps_by_end g.N.Namer.id_of _ _ c.load_lines-answer.result
    (run_undamaged _ (disks g.P.D.Disk.tells g.P.D.Disk.file g.P.D.Disk.faults) c.in-Ok.keeper c.load_lines-answer.new.keeper (owned_jobs c.args.lines.items) c.load_lines-answer.result c.load_lines-answer.ensures.load)
    (c.close_archive.ensures.own (c.in-Ok.ensures.disks_tell told) told)
