use Rattle.std.proofs.Common.{◌≡◌, ◌⊎◌, Some, Err, ap}
use Rattle.swh_base.specs.declared.visit.VisitKind.TheVariants.{Dir}
use Rattle.swh_outside.specs.Faults.{Rose}
use Rattle.swh_inputs.specs.Input.InputText.{FolderText}
use Rattle.swh_inputs.specs.Reading.{GivesSo, told_of_folder}
use Rattle.swh_dirload.specs.declared.fault.DirFault.TheVariants as of_folder
use Rattle.swh_inputs.proofs.Gives.{told_so, told_whole, folder_gives, folder_heard, folder_means}
use Rattle.swh_inputs.proofs.reading.read_listed.Goals as goal

pub returns-in-Ok-clause-read : goal.returns-in-Ok-clause-read
returns-in-Ok-clause-read g c = λ t. folder_means g.N.Namer.id_of (g.F.Folder.holds c.args.folder.now) (Some (g.S.Source.left c.args.source.now)) c.in-Ok.objects (c.in-Ok.ensures.ok t.0 t.1)

pub returns-in-Err-clause-read : goal.returns-in-Err-clause-read
returns-in-Err-clause-read g c =
    let id = g.N.Namer.id_of in
    let f = c.args.folder.now in
    let now = c.load_folder.new.folder in
    let tree = g.F.Folder.holds f in
    told_so id c.told_of_folder.result (told_of_folder c.in-Err.fault) (GivesSo id Dir (g.F.Folder.tells × g.S.Source.tells) (Some (FolderText tree (Some (g.S.Source.left c.args.source.now)))) (Rose (g.F.Folder.faults f) (g.F.Folder.faults now) ⊎ Rose (g.S.Source.faults c.args.source.now) (g.S.Source.faults c.load_folder.new.modes.0))) c.told_of_folder.ensures.told
    (folder_gives g.row.N.Denot id (g.F.Folder.tells × g.S.Source.tells) tree (Some (g.S.Source.left c.args.source.now)) (Rose (g.F.Folder.faults f) (g.F.Folder.faults now) ⊎ Rose (g.S.Source.faults c.args.source.now) (g.S.Source.faults c.load_folder.new.modes.0)) c.in-Err.fault c.in-Err.ensures.may (λ t. c.in-Err.ensures.err t.0 t.1) (λ e. c.in-Err.ensures.cause (ap Err e)))

pub returns-in-Err-clause-whole : goal.returns-in-Err-clause-whole
returns-in-Err-clause-whole g c = told_whole g.N.Namer.id_of c.told_of_folder.result (told_of_folder c.in-Err.fault) c.told_of_folder.ensures.told

pub returns-in-Err-clause-quiet : goal.returns-in-Err-clause-quiet
returns-in-Err-clause-quiet g c = λ untold. c.in-Err.ensures.quiet (λ e. untold (folder_heard c.told_of_folder.result c.in-Err.fault c.told_of_folder.ensures.told c.told_of_folder.ensures.memory (let same : c.in-Err.fault ≡ of_folder.ReadFault = cc in same)))

pub returns-in-Err-clause-quiet_source : goal.returns-in-Err-clause-quiet_source
returns-in-Err-clause-quiet_source g c = λ untold. c.in-Err.ensures.quiet_listing (λ e. untold (folder_heard c.told_of_folder.result c.in-Err.fault c.told_of_folder.ensures.told c.told_of_folder.ensures.memory (let same : c.in-Err.fault ≡ of_folder.ReadFault = cc in same)))
