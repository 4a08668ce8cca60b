use Rattle.std.proofs.Common.{◌≡◌, List, [], length, subst, arith, rules}
use Rattle.swh_outside.specs.Folder.{Tree}
use Rattle.swh_dirload.specs.declared.found.Found.{Found}
use Rattle.swh_dirload.specs.Found.{items_of}
use Rattle.swh_dirload.specs.Meaning.{ExplainsFolder}
use Rattle.swh_dirload.specs.Reading.{ReadsAll, ExplainsReading}
use Rattle.swh_dirload.proofs.FoundSpots.{length_items}
use Rattle.swh_dirload.proofs.Loadings.{walk_breaks, read_breaks}
use Rattle.swh_dirload.proofs.loading.name_standing.Goals as goal

pub returns-in_err-found-clause-err : goal.returns-in_err-found-clause-err
returns-in_err-found-clause-err g c = λ tells text.
    let id = g.N.Namer.id_of in
    let tree = g.F.Folder.holds c.args.folder.now in
    let broken : ExplainsFolder id tree text c.in_err-found.field-0.0 = walk_breaks id tree text c.in_err-found.field-0.0 (c.in_err-found.ensures.err tells) in
    search rules

pub returns-in_err-places-clause-err : goal.returns-in_err-places-clause-err
returns-in_err-places-clause-err g c = λ tells text.
    let id = g.N.Namer.id_of in
    let tree = g.F.Folder.holds c.args.folder.now in
    let now = g.F.Folder.holds c.walk.new.folder in
    let items = items_of c.in_ok-found.found.items in
    let fault = c.in_err-places.field-0.0 in
    let from_none : ExplainsReading id now [] items fault = subst (λ (fs : List Found). ExplainsReading id now [] (items_of fs) fault) c.as_slice.ensures.value (c.in_err-places.ensures.err tells) in
    let explained : ExplainsReading id tree [] items fault = subst (λ (t : Tree). ExplainsReading id t [] items fault) (c.in_ok-found.ensures.same tells) from_none in
    let broken : ExplainsFolder id tree text fault = read_breaks id tree text items fault (c.in_ok-found.ensures.ok tells) explained in
    search rules

pub returns-clause-has : goal.returns-clause-has
returns-clause-has g c = λ tells.
    let id = g.N.Namer.id_of in
    let tree = g.F.Folder.holds c.args.folder.now in
    let now = g.F.Folder.holds c.walk.new.folder in
    let found = c.in_ok-found.found.items in
    let items = items_of found in
    let places = c.in_ok-places.places.items in
    let read = c.in_ok-places.ensures.read tells in
    let new = read.0 in
    let from_none : ReadsAll id now 0 [] items places read.1 new = subst (λ (fs : List Found). ReadsAll id now 0 [] (items_of fs) places read.1 new) c.as_slice.ensures.value read.2 in
    let l = length_items [] found in
    let n : length c.in_ok-spots.spots.items ≡ length found = search rules in
    let m : length places ≡ length found = search rules in (
      new,
      record {
        items = items;
        total = read.1;
        walk = c.in_ok-found.ensures.ok tells;
        reads = subst (λ (t : Tree). ReadsAll id t 0 [] items places read.1 new) (c.in_ok-found.ensures.same tells) from_none;
        paths = rw c.as_slice-2.ensures.value at c.in_ok-spots.ensures.paths;
        count = omega (arith, l, n);
        stand = rw c.as_slice-2.ensures.value at (c.in_ok-spots.ensures.stand places (search rules));
      },
    )
