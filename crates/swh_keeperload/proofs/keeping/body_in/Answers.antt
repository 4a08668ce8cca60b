use Rattle.std.proofs.Common.{◌≡◌, ℕ, Some, List, sym, ap, ◌∙◌, subst}
use Rattle.swh_outside.specs.Views.{disks}
use Rattle.swh_model.specs.Archive.{Bodies, body_of}
use Rattle.swh_keeperload.specs.Lawful.{none}
use Rattle.swh_keeperload.proofs.keeping.body_in.Goals as goal

pub returns-in_default-clause-looks : goal.returns-in_default-clause-looks
returns-in_default-clause-looks g c = none g.N.Namer.id_of (disks g.D.Disk.tells g.D.Disk.file g.D.Disk.faults) 0 c.args.keeper.now c.requires

pub returns-in-Ok-clause-looks : goal.returns-in-Ok-clause-looks
returns-in-Ok-clause-looks g c = none g.N.Namer.id_of (disks g.D.Disk.tells g.D.Disk.file g.D.Disk.faults) 0 c.args.keeper.now c.requires

pub returns-in-Ok-clause-held : goal.returns-in-Ok-clause-held
returns-in-Ok-clause-held g c =
    subst (λ (b : Bodies). body_of b c.args.name.now ≡ Some c.in-Ok.body) (c.store.ensures c.requires) (c.in-Some.ensures.some.held ∙ ap (λ (t : List ℕ). Some t) (sym c.in-Ok.ensures))

pub returns-in-Err-clause-looks : goal.returns-in-Err-clause-looks
returns-in-Err-clause-looks g c = none g.N.Namer.id_of (disks g.D.Disk.tells g.D.Disk.file g.D.Disk.faults) 0 c.args.keeper.now c.requires
