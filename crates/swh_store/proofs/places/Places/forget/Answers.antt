use Rattle.std.proofs.Common.{List, ℕ, None, cond, refl, ap, ◌∙◌}
use Rattle.swh_base.specs.Name.{name_key}
use Rattle.swh_store.specs.Places.{other_at}
use Rattle.swh_store.proofs.IndexLemmas.{at}
use Rattle.swh_store.proofs.PlaceLemmas.{placed-pop}
use Rattle.swh_store.proofs.places.Places.forget.Goals as goal

pub returns : goal.returns
returns c = λ es placed.
    let before = other_at c.args.self.now in
    placed-pop c.args.self.now _ es c.args.entry.now placed refl
    (λ n. c.remove.ensures.updates.0 (name_key n) ∙ ap (λ (key : List ℕ). cond (at key (name_key n)) None (before n)) c.key_of.ensures)
