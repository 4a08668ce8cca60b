use Rattle.swh_base.specs.declared.visit.VisitKind.TheVariants.{Batch}
use Rattle.swh_outside.specs.Views.{disks, sources}
use Rattle.swh_outside.specs.declared.fault.Opened.TheVariants.{Found as Here}
use Rattle.swh_ingest.specs.Owning.{attempt}
use Rattle.swh_inputs.specs.Parts.{folders, parts}
use Rattle.swh_inputs.specs.declared.input.Input.TheVariants.{Batch as BatchPair}
use Rattle.swh_loader.proofs.Outcomes.{none_begun}
use Rattle.swh_loader.proofs.batching.load_lent_pair.Goals as goal

pub returns-in_default-clause-load : goal.returns-in_default-clause-load
returns-in_default-clause-load g c =
    let p = parts (sources g.S.Source.tells g.S.Source.left g.S.Source.faults g.S.Source.path) (folders g.F.Folder.tells g.F.Folder.holds g.F.Folder.faults g.F.Folder.opened_at) in
    none_begun g.N.Namer.id_of p (disks g.D.Disk.tells g.D.Disk.file g.D.Disk.faults) (attempt c.args.task.now.turn.now.worker.now.by c.args.task.now.origin.now Batch c.args.task.now.date) (BatchPair (Here c.args.objects.now) (Here c.args.refs.now)) c.args.keeper.now

pub returns-clause-load : goal.returns-clause-load
returns-clause-load g c = c.load_pair.ensures.load

pub returns-clause-same_objects : goal.returns-clause-same_objects
returns-clause-same_objects g c = c.load_pair.ensures.same_reference

pub returns-clause-same_refs : goal.returns-clause-same_refs
returns-clause-same_refs g c = c.load_pair.ensures.same_refs_reference
