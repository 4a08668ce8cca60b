use Rattle.std.proofs.Common.{List, [], sym, subst, rules}
use Rattle.std.specs.List.{AllByRecursion}
use Rattle.swh_dedup.specs.Making.{made, names_of_made}
use Rattle.swh_dirmade.specs.Making.{IsHeld}
use Rattle.swh_dirmade.specs.declared.member.Member.{Member}
use Rattle.swh_dirmade.specs.declared.spot.Spot.{Spot}
use Rattle.swh_dirmade.specs.Sizes.{AreShort}
use Rattle.swh_dirmade.specs.Spots.{Stand}
use Rattle.swh_dirload.specs.Loading.{ExplainsLength}
use Rattle.swh_dirload.specs.Meaning.{ExplainsFolder}
use Rattle.swh_dirload.proofs.Loadings.{length_breaks, root_listed, root_of, taken_none}
use Rattle.swh_dirload.proofs.Helds.{table_held}
use Rattle.swh_dirload.proofs.Onward.{same_on}
use Rattle.swh_dirload.proofs.folder_name.name_folder.Goals as goal

pub returns-in_err-spots-clause-err : goal.returns-in_err-spots-clause-err
returns-in_err-spots-clause-err g c = λ tells.
    let broken : ExplainsFolder g.N.Namer.id_of (g.F.Folder.holds c.args.folder.now) [] c.in_err-spots.field-0.0 = c.in_err-spots.ensures.err tells [] in
    search rules

pub returns-in_err-check_lengths-clause-err : goal.returns-in_err-check_lengths-clause-err
returns-in_err-check_lengths-clause-err g c = λ tells.
    let id = g.N.Namer.id_of in
    let tree = g.F.Folder.holds c.args.folder.now in
    let fault = c.in_err-check_lengths.field-0.0 in
    let spots = c.in_ok-spots.field-0.spots.items in
    let places = c.in_ok-spots.field-0.places.items in
    let read = c.in_ok-spots.ensures in
    let has = read.has tells in
    let long : ExplainsLength spots places fault = subst (λ (ps : List Member). ExplainsLength spots ps fault) c.as_slice-2.ensures.value (subst (λ (ss : List Spot). ExplainsLength ss c.as_slice-2.result.now fault) c.as_slice.ensures.value c.in_err-check_lengths.ensures.err) in
    let broken : ExplainsFolder id tree [] fault = length_breaks id tree spots places has.0 read.table has.1 [] fault long in
    search rules

pub name_directories-requires-clause-held : goal.name_directories-requires-clause-held
name_directories-requires-clause-held g c κs within =
    let held = c.in_ok-spots.ensures.held in
    (held.0, subst (AllByRecursion (IsHeld (names_of_made g.N.Namer.id_of (made held.0)))) (sym c.as_slice-4.ensures.value) held.1)

pub returns-clause-ok : goal.returns-clause-ok
returns-clause-ok g c = λ tells.
    let id = g.N.Namer.id_of in
    let tree = g.F.Folder.holds c.args.folder.now in
    let spots = c.in_ok-spots.field-0.spots.items in
    let places = c.in_ok-spots.field-0.places.items in
    let read = c.in_ok-spots.ensures in
    let contents = (read.has tells).0 in
    let has = (read.has tells).1 in
    let short : AreShort spots places = rw (c.as_slice.ensures.value, c.as_slice-2.ensures.value) at c.in_ok-check_lengths.ensures.short in
    let taken = taken_none id tree spots places contents read.table has short in
    let goes = same_on spots places in
    let stands = root_listed id tree spots places contents read.table has short [] spots places taken goes read.table in
    let stand : Stand c.as_slice-3.result.now c.as_slice-4.result.now taken.places = subst (λ (ps : List Member). Stand c.as_slice-3.result.now ps taken.places) (sym c.as_slice-4.ensures.value) (subst (λ (ss : List Spot). Stand ss places taken.places) (sym c.as_slice-3.ensures.value) taken.stand) in
    let held = subst (AllByRecursion (IsHeld (names_of_made id (made contents)))) (sym c.as_slice-4.ensures.value) (table_held id tree spots places contents has) in
    let gives = c.in_ok-root.ensures.gives contents taken.places held stand stands in
    root_of id tree spots places contents read.table has short [] spots places gives.0 c.in_ok-root.root taken goes read.table short gives.1

pub returns-clause-named : goal.returns-clause-named
returns-clause-named g c =
    let object = c.in_ok-root.ensures.object in
    record { object = object.0; is = object.1; named = object.2 }
