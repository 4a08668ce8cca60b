use Rattle.std.proofs.Common.{◌<◌, ◌^◌, length, ◌∙◌, rules}
use Rattle.swh_dirload.proofs.Indexes.{some_in, no_some_in}
use Rattle.swh_dirload.proofs.lookup.next_in.Goals as goal

pub returns-clause-some : goal.returns-clause-some
returns-clause-some c =
    let small : length c.args.spots.now < 2 ^ 64 = search rules in
    let room : c.args.above < 2 ^ 64 = search rules in
    some_in c.number_of.result c.args.spots.now c.args.numbers.now.entries c.args.above c.args.name.now c.as_slice.result.now c.requires.table small room c.requires.index c.number_of.ensures (c.as_slice.ensures.value ∙ c.in_ok-key.ensures)

pub returns-clause-none : goal.returns-clause-none
returns-clause-none c =
    no_some_in c.number_of.result c.args.spots.now c.args.numbers.now.entries c.args.above c.args.name.now c.as_slice.result.now c.requires.index c.number_of.ensures (c.as_slice.ensures.value ∙ c.in_ok-key.ensures)
