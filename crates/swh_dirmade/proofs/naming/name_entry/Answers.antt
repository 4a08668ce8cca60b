use Rattle.std.proofs.Common.{◌≡◌, refl, rules}
use Rattle.swh_dirfmt.specs.Entries.{entry_views}
use Rattle.swh_dirmade.proofs.Built.{makes_file, makes_folder, makes_project}
use Rattle.swh_dirmade.proofs.naming.name_entry.Goals as goal

pub returns-in-File : goal.returns-in-File
returns-in-File g c = λ old.
    let held = c.requires.held in
    let n : c.in_ok-name.name ≡ c.args.spot.now.name = search rules in
    (old, makes_file g.N.Namer.id_of held.0 c.args.spot.now.name c.in-File.mode c.in-File.id c.args.place old (entry_views c.args.list.items) (record { mode = c.in-File.mode; name = c.in_ok-name.name; id = c.whole_id-id.result }) c.in-File.is held.1 c.requires.named refl n c.whole_id-id.ensures.same c.whole_id-id.ensures.id.0)

pub returns-in_ok-id-in-Folder : goal.returns-in_ok-id-in-Folder
returns-in_ok-id-in-Folder g c = λ old.
    let n : c.in_ok-name.name ≡ c.args.spot.now.name = search rules in
    let made = c.in_ok-id-in-Folder.ensures old in
    (made.0, makes_folder g.N.Namer.id_of c.args.spot.now.name c.args.place old (entry_views c.args.list.items) made.0 made.1 c.in_ok-id-in-Folder.id (record { mode = 40000; name = c.in_ok-name.name; id = c.in_ok-id-in-Folder.id }) c.in-Folder.is c.requires.named made.2 refl n refl)

pub returns-in-Project : goal.returns-in-Project
returns-in-Project g c = λ old.
    let n : c.in_ok-name.name ≡ c.args.spot.now.name = search rules in
    let whole = c.whole_id-id-in-Project in
    (old, makes_project g.N.Namer.id_of c.args.spot.now.name c.in-Project.id c.args.place old (entry_views c.args.list.items) (record { mode = 160000; name = c.in_ok-name.name; id = whole.result }) c.in-Project.is c.requires.named refl n whole.ensures.same whole.ensures.id.0)
