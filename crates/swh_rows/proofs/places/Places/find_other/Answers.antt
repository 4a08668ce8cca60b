use Rattle.std.proofs.Common.{◌≡◌, ℕ, Some, ap, ◌∙◌}
use Rattle.std.specs.Prelude.{Contains}
use Rattle.std.specs.BTreeMap.{get}
use Rattle.swh_rows.specs.Rows.{StandsAt}
use Rattle.swh_rows.specs.Places.{keys_cmp}
use Rattle.swh_rows.proofs.StandLemmas.{if_none}
use Rattle.swh_rows.proofs.PlaceLemmas.{unled-lacks}
use Rattle.swh_rows.proofs.places.Places.find_other.Goals as goal

pub returns-clause-none : goal.returns-clause-none
returns-clause-none g c =
    let names = g.R.Rows.names c.args.rows.now in
    let n = c.args.name.now in
    let at = c.copied.ensures ∙ c.get.ensures.value ∙ ap (get keys_cmp c.args.self.now.others) c.key_of.ensures in
    if_none c.confirmed.result ((k : ℕ) → c.copied.result ≡ Some k → StandsAt names n k → ⊥) (Contains names n → ⊥) c.confirmed.ensures.none
    (unled-lacks c.args.self.now names n c.copied.result c.requires.placed c.requires.unled at)
