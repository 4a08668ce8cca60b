use Rattle.std.proofs.Common.{◌≡◌, rules, ◌∷◌, List, ℕ, Result, refl, sym, subst}
use Rattle.std.specs.Prelude.{IfOk}
use Rattle.swh_base.specs.declared.visit.VisitKind.TheVariants.{Fast}
use Rattle.swh_outside.specs.Views.{disks, sources}
use Rattle.swh_outside.specs.declared.fault.Opened.TheVariants.{Found as Here}
use Rattle.swh_fastload.specs.Giving.{GoesOn, StreamState}
use Rattle.swh_ingest.specs.Owning.{attempt}
use Rattle.swh_ingest.specs.declared.end.LoadFault.{LoadFault}
use Rattle.swh_inputs.specs.Parts.{folders, parts}
use Rattle.swh_inputs.specs.Streaming.{IsNextOf}
use Rattle.swh_inputs.specs.declared.input.Input.TheVariants.{Fast as FastInput}
use Rattle.swh_loader.specs.declared.end.Loaded.{Loaded}
use Rattle.swh_loader.specs.Leaving.{IsLoadOf}
use Rattle.swh_loader.proofs.Outcomes.{none_begun}
use Rattle.swh_loader.proofs.Streams.{Keeps, goes_on, stream_load, stream_loan, stream_whole}
use Rattle.swh_loader.proofs.streaming.load_lent.Goals as goal

pub load_kept_parts-requires-clause-takes : goal.load_kept_parts-requires-clause-takes
load_kept_parts-requires-clause-takes g c κs within = λ found. (
  c.new-parts.ensures.still,
  λ s ready. (c.requires, search rules),
  λ s x t ready post. goes_on s.now t.now x post.1.1.0 post.1.1.1.0,
  λ s name body ready. search rules,
  λ s name body x t ready post. search rules,
)

pub load_kept_parts-requires-clause-whole : goal.load_kept_parts-requires-clause-whole
load_kept_parts-requires-clause-whole g c κs within =
    let id = g.N.Namer.id_of in
    let p = parts (sources g.S.Source.tells g.S.Source.left g.S.Source.faults g.S.Source.path) (folders g.F.Folder.tells g.F.Folder.holds g.F.Folder.faults g.F.Folder.opened_at) in
    let s = c.args.source.now in
    let head = c.args.head.now in
    let path : List ℕ = c.args.source.ghost_name ∷ p.sources.path s in
    λ objects snapshot now gave. stream_whole id p head s path _
    (λ i x now given r h. subst (λ (b : StreamState). IfOk x (IsNextOf id p.sources.tells head (p.sources.left s) (p.sources.faults s) path given b)) r.4 (r.3.0 (p.sources.left s) (p.sources.faults s) path given (subst (λ (b : StreamState). GoesOn id p.sources.tells (p.sources.left s) (p.sources.faults s) path given b) (sym r.2) h)))
    c.new-parts.result c.new-parts.ensures objects snapshot now gave

pub returns-in_default-clause-load : goal.returns-in_default-clause-load
returns-in_default-clause-load g c =
    let p = parts (sources g.S.Source.tells g.S.Source.left g.S.Source.faults g.S.Source.path) (folders g.F.Folder.tells g.F.Folder.holds g.F.Folder.faults g.F.Folder.opened_at) in
    none_begun g.N.Namer.id_of p (disks g.D.Disk.tells g.D.Disk.file g.D.Disk.faults) (attempt c.args.task.now.turn.now.worker.now.by c.args.task.now.origin.now Fast c.args.task.now.date) (FastInput (Here c.args.source.now) c.args.head.now) c.args.keeper.now

pub returns-clause-load : goal.returns-clause-load
returns-clause-load g c =
    let id = g.N.Namer.id_of in
    let p = parts (sources g.S.Source.tells g.S.Source.left g.S.Source.faults g.S.Source.path) (folders g.F.Folder.tells g.F.Folder.holds g.F.Folder.faults g.F.Folder.opened_at) in
    let d = disks g.D.Disk.tells g.D.Disk.file g.D.Disk.faults in
    let s = c.args.source.now in
    let head = c.args.head.now in
    let back = c.close.result.source.now in
    let path : List ℕ = c.args.source.ghost_name ∷ p.sources.path s in
    let a = attempt c.args.task.now.turn.now.worker.now.by c.args.task.now.origin.now Fast c.args.task.now.date in
    let said = c.load_kept_parts.ensures in
    subst (λ (o : Result Loaded LoadFault). IsLoadOf id p d a (FastInput (Here s) head) (FastInput (Here back) head) c.args.keeper.now c.load_kept_parts.new.keeper o) (sym c.outcome_of.ensures)
    (stream_load id p head s path _
    (λ i x now given r h. subst (λ (b : StreamState). IfOk x (IsNextOf id p.sources.tells head (p.sources.left s) (p.sources.faults s) path given b)) r.4 (r.3.0 (p.sources.left s) (p.sources.faults s) path given (subst (λ (b : StreamState). GoesOn id p.sources.tells (p.sources.left s) (p.sources.faults s) path given b) (sym r.2) h)))
    c.new-parts.result c.new-parts.ensures c.load_kept_parts.new.input back c.close.ensures.faults
    (λ i x now r. subst (λ (b : StreamState). Keeps b now) r.2 (subst (λ (b : StreamState). Keeps r.0.now b) r.4 (r.3.1.1.1.1.0, r.3.1.1.1.1.1)))
    (λ i x now r untold. subst (λ (b : StreamState). now.standing.place.faults ≡ b.standing.place.faults) r.2 (subst (λ (b : StreamState). b.standing.place.faults ≡ r.0.now.standing.place.faults) r.4 (r.3.1.0 untold)))
    d a c.args.keeper.now c.load_kept_parts.new.keeper c.args.source.ghost_name c.close.result.source.ghost_name refl c.close.ensures.path c.load_kept_parts.result said.ended said.end said.adds said.calls said.wounded said.stops said.later said.input said.heard)

pub returns-clause-same_reference : goal.returns-clause-same_reference
returns-clause-same_reference g c =
    let id = g.N.Namer.id_of in
    let p = parts (sources g.S.Source.tells g.S.Source.left g.S.Source.faults g.S.Source.path) (folders g.F.Folder.tells g.F.Folder.holds g.F.Folder.faults g.F.Folder.opened_at) in
    let s = c.args.source.now in
    let head = c.args.head.now in
    let path : List ℕ = c.args.source.ghost_name ∷ p.sources.path s in
    stream_loan id p head s path _
    (λ i x now given r h. subst (λ (b : StreamState). IfOk x (IsNextOf id p.sources.tells head (p.sources.left s) (p.sources.faults s) path given b)) r.4 (r.3.0 (p.sources.left s) (p.sources.faults s) path given (subst (λ (b : StreamState). GoesOn id p.sources.tells (p.sources.left s) (p.sources.faults s) path given b) (sym r.2) h)))
    c.new-parts.result c.new-parts.ensures c.load_kept_parts.new.input c.close.result.source.now c.close.ensures.faults
    (λ i x now r. subst (λ (b : StreamState). Keeps b now) r.2 (subst (λ (b : StreamState). Keeps r.0.now b) r.4 (r.3.1.1.1.1.0, r.3.1.1.1.1.1)))
    c.args.source.ghost_name c.close.result.source.ghost_name refl c.close.ensures.path c.load_kept_parts.ensures.input
