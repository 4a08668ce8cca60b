use Rattle.std.proofs.Common.{rules, arith, Result, sym, subst}
use Rattle.std.specs.Prelude.{IfOk}
use Rattle.swh_base.specs.declared.visit.VisitKind.TheVariants.{Batch}
use Rattle.swh_outside.specs.Views.{disks, sources}
use Rattle.swh_outside.specs.declared.fault.Opened.TheVariants.{Found as Here}
use Rattle.swh_batchread.specs.Giving.{GoesOn}
use Rattle.swh_batchread.proofs.Givings.{stands_first}
use Rattle.swh_ingest.specs.Owning.{attempt}
use Rattle.swh_ingest.specs.declared.end.LoadFault.{LoadFault}
use Rattle.swh_inputs.specs.Batching.{AreQuiet, IsNextOfBatch}
use Rattle.swh_inputs.specs.Parts.{folders, parts}
use Rattle.swh_inputs.specs.declared.batching.BatchInput.{BatchInput}
use Rattle.swh_inputs.specs.declared.input.Input.TheVariants.{Batch as BatchPair}
use Rattle.swh_inputs.proofs.Batchings.{KeepsBoth}
use Rattle.swh_loader.specs.declared.end.Loaded.{Loaded}
use Rattle.swh_loader.specs.Leaving.{IsLoadOf}
use Rattle.swh_loader.proofs.Batches.{batch_kept, batch_load, batch_whole, goes_on}
use Rattle.swh_loader.proofs.batching.load_pair.Goals as goal

pub load_kept_parts-requires-clause-takes : goal.load_kept_parts-requires-clause-takes
load_kept_parts-requires-clause-takes g c κs within = λ found. (
  omega (arith, c.requires.first),
  λ s ready. search rules,
  λ s x t ready post. goes_on s.now.parts t.now.parts x ready post.1.1.0,
  λ s name body ready. search rules,
  λ s name body x t ready post. search rules,
)

pub load_kept_parts-requires-clause-whole : goal.load_kept_parts-requires-clause-whole
load_kept_parts-requires-clause-whole g c κs within =
    let id = g.N.Namer.id_of in
    let p = parts (sources g.S.Source.tells g.S.Source.left g.S.Source.faults g.S.Source.path) (folders g.F.Folder.tells g.F.Folder.holds g.F.Folder.faults g.F.Folder.opened_at) in
    let i = c.args.input.now in
    batch_whole id p i (λ x. x.parts) (λ x. x.objects.now) (λ x. x.refs.now) (λ x. x.objects.ghost_name) (λ x. x.refs.ghost_name) _
    (λ a x now given r h. subst (λ (b : BatchInput g.row.N.Denot g.row.S.Denot). IfOk x (IsNextOfBatch id p.sources i.objects.now i.refs.now given b.parts b.objects.now b.refs.now)) r.4
    (r.3.0 i.objects.now i.refs.now given (subst (λ (b : BatchInput g.row.N.Denot g.row.S.Denot). GoesOn id p.sources i.objects.now i.refs.now given b.parts b.objects.now b.refs.now) (sym r.2) h)))
    (stands_first id p.sources i.objects.now i.refs.now i.parts c.requires)

pub returns-clause-load : goal.returns-clause-load
returns-clause-load g c =
    let id = g.N.Namer.id_of in
    let p = parts (sources g.S.Source.tells g.S.Source.left g.S.Source.faults g.S.Source.path) (folders g.F.Folder.tells g.F.Folder.holds g.F.Folder.faults g.F.Folder.opened_at) in
    let i = c.args.input.now in
    let d = disks g.D.Disk.tells g.D.Disk.file g.D.Disk.faults in
    let back = c.load_kept_parts.new.input in
    let a = attempt c.args.task.now.turn.now.worker.now.by c.args.task.now.origin.now Batch c.args.task.now.date in
    let said = c.load_kept_parts.ensures in
    subst (λ (o : Result Loaded LoadFault). IsLoadOf id p d a (BatchPair (Here i.objects.now) (Here i.refs.now)) (BatchPair (Here back.objects.now) (Here back.refs.now)) c.args.keeper.now c.load_kept_parts.new.keeper o) (sym c.outcome_of.ensures)
    (batch_load id p i (λ x. x.parts) (λ x. x.objects.now) (λ x. x.refs.now) (λ x. x.objects.ghost_name) (λ x. x.refs.ghost_name) _
    (λ a x now given r h. subst (λ (b : BatchInput g.row.N.Denot g.row.S.Denot). IfOk x (IsNextOfBatch id p.sources i.objects.now i.refs.now given b.parts b.objects.now b.refs.now)) r.4
    (r.3.0 i.objects.now i.refs.now given (subst (λ (b : BatchInput g.row.N.Denot g.row.S.Denot). GoesOn id p.sources i.objects.now i.refs.now given b.parts b.objects.now b.refs.now) (sym r.2) h)))
    (stands_first id p.sources i.objects.now i.refs.now i.parts c.requires)
    (λ a x now r. subst (λ (b : BatchInput g.row.N.Denot g.row.S.Denot). KeepsBoth p.sources (λ y. y.objects.now) (λ y. y.refs.now) (λ y. y.objects.ghost_name) (λ y. y.refs.ghost_name) b now) r.2
    (subst (λ (b : BatchInput g.row.N.Denot g.row.S.Denot). KeepsBoth p.sources (λ y. y.objects.now) (λ y. y.refs.now) (λ y. y.objects.ghost_name) (λ y. y.refs.ghost_name) r.0.now b) r.4
    (record { same_reference = r.3.1.1.1.0; same_refs_reference = r.3.1.1.1.1.0; same = r.3.1.1.1.1.1.0; same_refs = r.3.1.1.1.1.1.1 })))
    (λ a x now given r h untold. subst (λ (b : BatchInput g.row.N.Denot g.row.S.Denot). AreQuiet p.sources i.objects.now i.refs.now b.objects.now b.refs.now) r.4
    (r.3.1.0 i.objects.now i.refs.now given (subst (λ (b : BatchInput g.row.N.Denot g.row.S.Denot). GoesOn id p.sources i.objects.now i.refs.now given b.parts b.objects.now b.refs.now) (sym r.2) h) untold))
    d a c.args.keeper.now c.load_kept_parts.new.keeper back c.load_kept_parts.result said.ended said.end said.adds said.calls said.wounded said.stops said.later said.input said.heard)

pub returns-clause-same_reference : goal.returns-clause-same_reference
returns-clause-same_reference g c =
    let id = g.N.Namer.id_of in
    let p = parts (sources g.S.Source.tells g.S.Source.left g.S.Source.faults g.S.Source.path) (folders g.F.Folder.tells g.F.Folder.holds g.F.Folder.faults g.F.Folder.opened_at) in
    let i = c.args.input.now in
    (batch_kept id p i (λ x. x.parts) (λ x. x.objects.now) (λ x. x.refs.now) (λ x. x.objects.ghost_name) (λ x. x.refs.ghost_name) _
    (λ a x now given r h. subst (λ (b : BatchInput g.row.N.Denot g.row.S.Denot). IfOk x (IsNextOfBatch id p.sources i.objects.now i.refs.now given b.parts b.objects.now b.refs.now)) r.4
    (r.3.0 i.objects.now i.refs.now given (subst (λ (b : BatchInput g.row.N.Denot g.row.S.Denot). GoesOn id p.sources i.objects.now i.refs.now given b.parts b.objects.now b.refs.now) (sym r.2) h)))
    (stands_first id p.sources i.objects.now i.refs.now i.parts c.requires)
    (λ a x now r. subst (λ (b : BatchInput g.row.N.Denot g.row.S.Denot). KeepsBoth p.sources (λ y. y.objects.now) (λ y. y.refs.now) (λ y. y.objects.ghost_name) (λ y. y.refs.ghost_name) b now) r.2
    (subst (λ (b : BatchInput g.row.N.Denot g.row.S.Denot). KeepsBoth p.sources (λ y. y.objects.now) (λ y. y.refs.now) (λ y. y.objects.ghost_name) (λ y. y.refs.ghost_name) r.0.now b) r.4
    (record { same_reference = r.3.1.1.1.0; same_refs_reference = r.3.1.1.1.1.0; same = r.3.1.1.1.1.1.0; same_refs = r.3.1.1.1.1.1.1 })))
    c.load_kept_parts.new.input c.load_kept_parts.ensures.input).same_reference

pub returns-clause-same_refs_reference : goal.returns-clause-same_refs_reference
returns-clause-same_refs_reference g c =
    let id = g.N.Namer.id_of in
    let p = parts (sources g.S.Source.tells g.S.Source.left g.S.Source.faults g.S.Source.path) (folders g.F.Folder.tells g.F.Folder.holds g.F.Folder.faults g.F.Folder.opened_at) in
    let i = c.args.input.now in
    (batch_kept id p i (λ x. x.parts) (λ x. x.objects.now) (λ x. x.refs.now) (λ x. x.objects.ghost_name) (λ x. x.refs.ghost_name) _
    (λ a x now given r h. subst (λ (b : BatchInput g.row.N.Denot g.row.S.Denot). IfOk x (IsNextOfBatch id p.sources i.objects.now i.refs.now given b.parts b.objects.now b.refs.now)) r.4
    (r.3.0 i.objects.now i.refs.now given (subst (λ (b : BatchInput g.row.N.Denot g.row.S.Denot). GoesOn id p.sources i.objects.now i.refs.now given b.parts b.objects.now b.refs.now) (sym r.2) h)))
    (stands_first id p.sources i.objects.now i.refs.now i.parts c.requires)
    (λ a x now r. subst (λ (b : BatchInput g.row.N.Denot g.row.S.Denot). KeepsBoth p.sources (λ y. y.objects.now) (λ y. y.refs.now) (λ y. y.objects.ghost_name) (λ y. y.refs.ghost_name) b now) r.2
    (subst (λ (b : BatchInput g.row.N.Denot g.row.S.Denot). KeepsBoth p.sources (λ y. y.objects.now) (λ y. y.refs.now) (λ y. y.objects.ghost_name) (λ y. y.refs.ghost_name) r.0.now b) r.4
    (record { same_reference = r.3.1.1.1.0; same_refs_reference = r.3.1.1.1.1.0; same = r.3.1.1.1.1.1.0; same_refs = r.3.1.1.1.1.1.1 })))
    c.load_kept_parts.new.input c.load_kept_parts.ensures.input).same_refs_reference
