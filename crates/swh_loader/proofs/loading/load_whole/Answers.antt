use Rattle.std.proofs.Common.{◌∙◌, Result, rules, sym, subst}
use Rattle.swh_outside.specs.Views.{disks, sources}
use Rattle.swh_ingest.specs.Owning.{attempt}
use Rattle.swh_ingest.specs.declared.end.LoadFault.{LoadFault}
use Rattle.swh_ingest.proofs.Wholes.{reaches_at_once}
use Rattle.swh_inputs.specs.Opening.{kind_of}
use Rattle.swh_inputs.specs.Parts.{IsQuiet, IsSameInput, folders, parts}
use Rattle.swh_inputs.specs.Reading.{IsRead}
use Rattle.swh_inputs.specs.declared.input.Input.{Input}
use Rattle.swh_loader.specs.declared.end.Loaded.{Loaded}
use Rattle.swh_loader.specs.Leaving.{IsLoadOf}
use Rattle.swh_loader.proofs.Wholes.{no_more, whole_load}
use Rattle.swh_loader.proofs.loading.load_whole.Goals as goal

pub load_kept_parts-requires-clause-takes : goal.load_kept_parts-requires-clause-takes
load_kept_parts-requires-clause-takes g c κs within = λ found. (
  (sym c.opening.ensures ∙ found, c.requires),
  λ s ready. search rules,
  λ s x t ready post. no_more g.N.Namer.id_of x _ post.1.0,
  λ s name body ready. search rules,
  λ s name body x t ready post. search rules,
)

pub load_kept_parts-requires-clause-whole : goal.load_kept_parts-requires-clause-whole
load_kept_parts-requires-clause-whole g c κs within = λ objects snapshot now gave. reaches_at_once g.N.Namer.id_of _ (λ i now x r. r.3.1.0) c.args.input.now objects snapshot now gave

pub returns : goal.returns
returns g c =
    let id = g.N.Namer.id_of in
    let p = parts (sources g.S.Source.tells g.S.Source.left g.S.Source.faults g.S.Source.path) (folders g.F.Folder.tells g.F.Folder.holds g.F.Folder.faults g.F.Folder.opened_at) in
    let d = disks g.D.Disk.tells g.D.Disk.file g.D.Disk.faults in
    let i = c.args.input.now in
    let now = c.load_kept_parts.new.input in
    let a = attempt c.args.task.now.turn.now.worker.now.by c.args.task.now.origin.now (kind_of i) c.args.task.now.date in
    let said = c.load_kept_parts.ensures in
    subst (λ (o : Result Loaded LoadFault). IsLoadOf id p d a i now c.args.keeper.now c.load_kept_parts.new.keeper o) (sym c.outcome_of.ensures)
    (whole_load id p _
    (λ i now x r. subst (λ (b : Input g.row.S.Denot g.row.F.Denot). IsRead id p b now x) r.2 (subst (λ (b : Input g.row.S.Denot g.row.F.Denot). IsRead id p r.0.now b x) r.4 r.3.0))
    (λ i now x r. r.3.1.0) i
    (λ i now x r untold. subst (λ (b : Input g.row.S.Denot g.row.F.Denot). IsQuiet p b now) r.2 (subst (λ (b : Input g.row.S.Denot g.row.F.Denot). IsQuiet p r.0.now b) r.4 (r.3.1.1.1 untold)))
    (λ i now x r. subst (λ (b : Input g.row.S.Denot g.row.F.Denot). IsSameInput p b now) r.2 (subst (λ (b : Input g.row.S.Denot g.row.F.Denot). IsSameInput p r.0.now b) r.4 r.3.1.1.0))
    d a c.args.keeper.now c.load_kept_parts.new.keeper now c.load_kept_parts.result
    (rw c.kind.ensures at said.ended) (rw c.opening.ensures at said.end) (rw (c.opening.ensures, c.kind.ensures) at said.adds) (λ told. rw (c.opening.ensures, c.kind.ensures) at said.calls told) said.wounded
    (rw (c.opening.ensures, c.kind.ensures) at said.stops) said.later (rw c.opening.ensures at said.input) (rw c.kind.ensures at said.heard))
