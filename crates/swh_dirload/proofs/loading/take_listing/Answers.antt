use Rattle.std.proofs.Common.{inl, inr, ◌⊎◌, List, subst, rules}
use Rattle.swh_dirmade.specs.declared.member.Member.{Member}
use Rattle.swh_dirmade.specs.declared.spot.Spot.{Spot}
use Rattle.swh_dirload.specs.Lines.{ExplainsLines}
use Rattle.swh_dirload.specs.Loading.{ExplainsLength, IsLongAfter}
use Rattle.swh_dirload.proofs.loading.take_listing.Goals as goal

pub returns-in_err-take_lines-clause-err : goal.returns-in_err-take_lines-clause-err
returns-in_err-take_lines-clause-err g c = λ tells before stand.
    let text = g.S.Source.left c.args.source.now in
    let fault = c.in_err-take_lines.field-0.0 in
    let broken : ExplainsLines before text fault ⊎ IsLongAfter before text c.args.spots.now.items c.args.places.now.items c.take_lines.new.spots.items c.take_lines.new.places.items fault = inl (c.in_err-take_lines.ensures.err tells before stand) in
    search rules

pub returns-in_err-check_lengths-clause-err : goal.returns-in_err-check_lengths-clause-err
returns-in_err-check_lengths-clause-err g c = λ tells before stand.
    let text = g.S.Source.left c.args.source.now in
    let fault = c.in_err-check_lengths.field-0.0 in
    let spots = c.take_lines.new.spots.items in
    let places = c.take_lines.new.places.items in
    let long : ExplainsLength spots places fault = subst (λ (ps : List Member). ExplainsLength spots ps fault) c.as_slice-3.ensures.value (subst (λ (ss : List Spot). ExplainsLength ss c.as_slice-3.result.now fault) c.as_slice-2.ensures.value c.in_err-check_lengths.ensures.err) in
    let after : IsLongAfter before text c.args.spots.now.items c.args.places.now.items spots places fault = record {
      taken = c.in_ok-take_lines.ensures.taken tells before stand;
      goes = c.in_ok-take_lines.ensures.goes;
      table = c.in_ok-take_lines.ensures.table;
      long = long;
    } in
    let broken : ExplainsLines before text fault ⊎ IsLongAfter before text c.args.spots.now.items c.args.places.now.items spots places fault = inr after in
    search rules
