use Rattle.std.proofs.Common.{◌∙◌}
use Rattle.swh_rows.proofs.PlaceLemmas.{placed-again, same_entries}
use Rattle.swh_rows.proofs.places.Places.again.Goals as goal

pub returns : goal.returns
returns c = λ names placed.
    placed-again c.args.self.now _ names (c.in_ok-slots.ensures.items ∙ c.as_slice.ensures.value)
    (same_entries c.args.self.now.others.entries c.in_ok-others.others.entries c.in_ok-others.ensures.cases) placed
