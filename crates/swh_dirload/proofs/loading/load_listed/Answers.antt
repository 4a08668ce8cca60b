use Rattle.std.proofs.Common.{List, sym, subst, rules}
use Rattle.swh_dirmade.specs.declared.member.Member.{Member}
use Rattle.swh_dirmade.specs.declared.spot.Spot.{Spot}
use Rattle.swh_dirmade.specs.Sizes.{AreShort}
use Rattle.swh_dirload.specs.Loading.{ExplainsLength}
use Rattle.swh_dirload.specs.Meaning.{ExplainsFolder}
use Rattle.swh_dirload.proofs.Loadings.{length_breaks, listing_breaks, root_listed, means_listed}
use Rattle.swh_dirload.proofs.loading.load_listed.Goals as goal

pub returns-in_err-spots-clause-err : goal.returns-in_err-spots-clause-err
returns-in_err-spots-clause-err g c = λ tells _.
    let text = g.S.Source.left c.args.source.now in
    let broken : ExplainsFolder g.N.Namer.id_of (g.F.Folder.holds c.args.folder.now) text c.in_err-spots.field-0.0 = c.in_err-spots.ensures.err tells text in
    search rules

pub returns-in_err-check_lengths-clause-err : goal.returns-in_err-check_lengths-clause-err
returns-in_err-check_lengths-clause-err g c = λ tells _.
    let id = g.N.Namer.id_of in
    let tree = g.F.Folder.holds c.args.folder.now in
    let text = g.S.Source.left c.args.source.now in
    let fault = c.in_err-check_lengths.field-0.0 in
    let spots = c.in_ok-spots.field-0.spots.items in
    let places = c.in_ok-spots.field-0.places.items in
    let read = c.in_ok-spots.ensures in
    let long : ExplainsLength spots places fault = subst (λ (ps : List Member). ExplainsLength spots ps fault) c.as_slice-2.ensures.value (subst (λ (ss : List Spot). ExplainsLength ss c.as_slice-2.result.now fault) c.as_slice.ensures.value c.in_err-check_lengths.ensures.err) in
    let broken : ExplainsFolder id tree text fault = length_breaks id tree spots places c.read_folder.new.given read.table (read.has tells) text fault long in
    search rules

pub returns-in_err-take_listing-clause-err : goal.returns-in_err-take_listing-clause-err
returns-in_err-take_listing-clause-err g c = λ tells sure.
    let id = g.N.Namer.id_of in
    let tree = g.F.Folder.holds c.args.folder.now in
    let text = g.S.Source.left c.args.source.now in
    let fault = c.in_err-take_listing.field-0.0 in
    let spots = c.in_ok-spots.field-0.spots.items in
    let places = c.in_ok-spots.field-0.places.items in
    let read = c.in_ok-spots.ensures in
    let has = read.has tells in
    let short : AreShort spots places = rw (c.as_slice.ensures.value, c.as_slice-2.ensures.value) at c.in_ok-check_lengths.ensures.short in
    let now = c.take_listing.new in
    let broken : ExplainsFolder id tree text fault = listing_breaks id tree spots places c.read_folder.new.given read.table has short text now.spots.items now.places.items fault (c.in_err-take_listing.ensures.err sure _ has.stand) in
    search rules

pub make_objects-requires-clause-held : goal.make_objects-requires-clause-held
make_objects-requires-clause-held g c κs within =
    rw (sym c.as_slice-4.ensures.value) at (c.in_ok-take_listing.ensures.held _ c.in_ok-spots.ensures.held)

pub returns-clause-ok : goal.returns-clause-ok
returns-clause-ok g c = λ tells sure.
    let id = g.N.Namer.id_of in
    let tree = g.F.Folder.holds c.args.folder.now in
    let text = g.S.Source.left c.args.source.now in
    let spots = c.in_ok-spots.field-0.spots.items in
    let places = c.in_ok-spots.field-0.places.items in
    let contents = c.read_folder.new.given in
    let read = c.in_ok-spots.ensures in
    let has = read.has tells in
    let short : AreShort spots places = rw (c.as_slice.ensures.value, c.as_slice-2.ensures.value) at c.in_ok-check_lengths.ensures.short in
    let now = c.take_listing.new in
    let listed = c.in_ok-take_listing.ensures in
    let taken = listed.taken sure _ has.stand in
    let root = root_listed id tree spots places contents read.table has short text now.spots.items now.places.items taken listed.goes listed.table in
    let stand = rw (sym c.as_slice-3.ensures.value, sym c.as_slice-4.ensures.value) at taken.stand in
    means_listed id tree spots places contents read.table has short text now.spots.items now.places.items c.in_ok-loaded.loaded.objects.items c.in_ok-loaded.loaded.snapshot taken listed.goes listed.table listed.short (c.in_ok-loaded.ensures.makes taken.places stand root) c.in_ok-loaded.ensures.once
