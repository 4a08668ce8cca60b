use Rattle.std.proofs.Common.{◌≡◌, refl, rules}
use Rattle.swh_dedup.specs.Making.{made, names_of_made}
use Rattle.swh_dirfmt.specs.Entries.{entry_views}
use Rattle.swh_dirmade.proofs.Built.{makes_file}
use Rattle.swh_dirmade.proofs.directory.make_entry.Goals as goal

pub returns-in-File : goal.returns-in-File
returns-in-File g c =
    let n : c.in_ok-name.name ≡ c.args.spot.now.name = search rules in
    makes_file g.N.Namer.id_of (names_of_made g.N.Namer.id_of (made c.args.given.now)) c.args.spot.now.name c.in-File.mode c.in-File.id c.args.place c.args.given.now (entry_views c.args.list.items) (record { mode = c.in-File.mode; name = c.in_ok-name.name; id = c.whole_id-id.result }) c.in-File.is c.requires.held c.requires.named refl n c.whole_id-id.ensures.same c.whole_id-id.ensures.id.0
