use Rattle.std.proofs.Common.{sym, ◌∙◌, ap}
use Rattle.swh_outside.specs.Disk.{File}
use Rattle.swh_outside.specs.Files.{absent}
use Rattle.swh_outside.proofs.FirstsLaws.{first_of, first_or-at}
use Rattle.swh_memory_disk.specs.InPlace.{is_at, file_at}
use Rattle.swh_memory_disk.proofs.places.read_place.Goals as goal

pub returns : goal.returns
returns c =
    let z = c.index-places-i.result in
    let p = is_at c.args.dir.now c.args.file in
    let first = first_of p c.args.places.now c.args.i z c.requires.found c.requires.inside in
    c.bytes.ensures ∙ ap (λ (f : File). f.seen) (sym (first_or-at p file_at absent c.args.places.now c.args.i z first))
