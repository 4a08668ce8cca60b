use Rattle.std.proofs.Common.{get_or, sym, ◌∙◌, ap}
use Rattle.swh_outside.specs.Files.{absent}
use Rattle.swh_outside.proofs.FirstsLaws.{first_of, first_or-at, first_or-set_hit}
use Rattle.swh_memory_disk.specs.Memory.{memory_file, notes_of, new_notes}
use Rattle.swh_memory_disk.specs.InPlace.{is_at, file_at, notes_at}
use Rattle.swh_memory_disk.proofs.InPlaces.{others, other_notes, with_disk}
use Rattle.swh_memory_disk.proofs.places.swap_disk.Goals as goal

pub returns-clause-given : goal.returns-clause-given
returns-clause-given c =
    let z = c.index-places-i.result in
    let p = is_at c.args.dir.now c.args.file in
    let first = first_of p c.args.places.now c.args.i z c.requires.found c.requires.inside in
    ap memory_file c.replace.ensures.value ∙ sym (first_or-at p file_at absent c.args.places.now c.args.i z first)

pub returns-clause-taken : goal.returns-clause-taken
returns-clause-taken c =
    let z = c.index-places-i.result in
    let p = is_at c.args.dir.now c.args.file in
    let ps = c.args.places.now in
    let first = first_of p ps c.args.i z c.requires.found c.requires.inside in
    first_or-set_hit p file_at absent ps c.args.i z (with_disk (get_or ps c.args.i z) c.replace.new.dest) first first.here ∙ ap memory_file c.replace.ensures.after

pub returns-clause-others : goal.returns-clause-others
returns-clause-others c =
    let z = c.index-places-i.result in
    let first = first_of (is_at c.args.dir.now c.args.file) c.args.places.now c.args.i z c.requires.found c.requires.inside in
    others c.args.places.now c.args.i z c.args.dir.now c.args.file c.replace.new.dest first

pub returns-clause-notes_given : goal.returns-clause-notes_given
returns-clause-notes_given c room =
    let z = c.index-places-i.result in
    let p = is_at c.args.dir.now c.args.file in
    let first = first_of p c.args.places.now c.args.i z c.requires.found c.requires.inside in
    ap notes_of c.replace.ensures.value ∙ sym (first_or-at p notes_at (new_notes room) c.args.places.now c.args.i z first)

pub returns-clause-notes_taken : goal.returns-clause-notes_taken
returns-clause-notes_taken c room =
    let z = c.index-places-i.result in
    let p = is_at c.args.dir.now c.args.file in
    let ps = c.args.places.now in
    let first = first_of p ps c.args.i z c.requires.found c.requires.inside in
    first_or-set_hit p notes_at (new_notes room) ps c.args.i z (with_disk (get_or ps c.args.i z) c.replace.new.dest) first first.here ∙ ap notes_of c.replace.ensures.after

pub returns-clause-other_notes : goal.returns-clause-other_notes
returns-clause-other_notes c room =
    let z = c.index-places-i.result in
    let first = first_of (is_at c.args.dir.now c.args.file) c.args.places.now c.args.i z c.requires.found c.requires.inside in
    other_notes room c.args.places.now c.args.i z c.args.dir.now c.args.file c.replace.new.dest first
