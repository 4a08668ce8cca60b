use Rattle.std.proofs.Common.{ℕ, List, subst}
use Rattle.swh_rows.specs.Slots.{IsNowhere, NoneLeads}
use Rattle.swh_rows.proofs.PlaceLemmas.{nowhere-lacks}
use Rattle.swh_rows.proofs.places.Places.find.Goals as goal

pub returns-in-Nowhere-clause-none : goal.returns-in-Nowhere-clause-none
returns-in-Nowhere-clause-none g c =
    let names = g.R.Rows.names c.args.rows.now in
    nowhere-lacks c.args.self.now names c.args.name.now c.requires (subst (λ (slots : List ℕ). IsNowhere slots names c.args.name.now) c.as_slice.ensures.value c.in-Nowhere.ensures)

pub find_other-requires-clause-unled : goal.find_other-requires-clause-unled
find_other-requires-clause-unled g c =
    subst (λ (slots : List ℕ). NoneLeads slots (g.R.Rows.names c.args.rows.now) c.args.name.now 4) c.as_slice.ensures.value c.in-Nothing.ensures
