use Rattle.std.proofs.Common.{None, refl, ◌∙◌}
use Rattle.swh_base.specs.Name.{name_key}
use Rattle.swh_rows.specs.Places.{other_at}
use Rattle.swh_rows.proofs.PlaceLemmas.{key-other, placed-pop}
use Rattle.swh_rows.proofs.places.Places.forget.Goals as goal

pub returns : goal.returns
returns c = λ names placed.
    let n = c.args.name.now in
    let before = other_at c.args.self.now in
    placed-pop c.args.self.now _ names n placed refl
    (λ m apart. c.remove.ensures.updates.0 (name_key m) ∙ key-other c.key_of.result n m None (before m) c.key_of.ensures apart)
