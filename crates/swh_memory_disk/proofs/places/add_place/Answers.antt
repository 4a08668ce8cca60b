use Rattle.std.proofs.Common.{rules, ◌≡◌, ◌++◌, ◌∷◌, [], List, refl, ◌∙◌, ap, string_bytes}
use Rattle.std.specs.List.{position_or_len}
use Rattle.swh_outside.specs.Files.{absent}
use Rattle.swh_outside.proofs.FirstsLaws.{first_or-push, found_last}
use Rattle.swh_memory_disk.specs.InPlace.{files_in, file_at, is_at, notes_in, notes_at}
use Rattle.swh_memory_disk.specs.Memory.{new_notes}
use Rattle.swh_memory_disk.specs.declared.depot_file.DepotFile.{DepotFile}
use Rattle.swh_memory_disk.proofs.InPlaces.{its_place}
use Rattle.swh_memory_disk.proofs.places.add_place.Goals as goal

pub returns-clause-found : goal.returns-clause-found
returns-clause-found c =
    let q : DepotFile = record { dir = c.in_ok-name.name; file = c.args.file; disk = c.args.disk } in
    let pushed : c.push.new.self.items ≡ c.args.places.now.items ++ q ∷ [] = search rules in
    let named : string_bytes c.in_ok-name.name ≡ c.args.dir.now = search rules in
    let p = is_at c.args.dir.now c.args.file in
    ap (position_or_len p) pushed ∙ found_last p c.args.places.now.items q c.requires.absent (its_place c.args.dir.now c.args.file q refl named)

pub returns-clause-same : goal.returns-clause-same
returns-clause-same c d n =
    let q : DepotFile = record { dir = c.in_ok-name.name; file = c.args.file; disk = c.args.disk } in
    let pushed : c.push.new.self.items ≡ c.args.places.now.items ++ q ∷ [] = search rules in
    ap (λ (l : List DepotFile). files_in l d n) pushed ∙ first_or-push (is_at d n) file_at absent c.args.places.now.items q c.requires.empty

pub returns-clause-same_notes : goal.returns-clause-same_notes
returns-clause-same_notes c room new d n =
    let q : DepotFile = record { dir = c.in_ok-name.name; file = c.args.file; disk = c.args.disk } in
    let pushed : c.push.new.self.items ≡ c.args.places.now.items ++ q ∷ [] = search rules in
    ap (λ (l : List DepotFile). notes_in room l d n) pushed ∙ first_or-push (is_at d n) notes_at (new_notes room) c.args.places.now.items q new
