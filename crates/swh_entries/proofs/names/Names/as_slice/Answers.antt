use Rattle.std.proofs.Common.{◌≡◌, ◌<◌, ℕ, length, subst}
use Rattle.swh_entries.specs.Keys.{name_at, texts}
use Rattle.swh_entries.specs.Named.{Named}
use Rattle.swh_entries.proofs.Indexes.{once-each}
use Rattle.swh_entries.proofs.names.Names.as_slice.Goals as goal

pub returns-clause-once : goal.returns-clause-once
returns-clause-once c =
    let inside = c.self.inside in
    subst (λ (t : Named). (i j : ℕ) → i < length t.items → j < length t.items → name_at (texts t.items) i ≡ name_at (texts t.items) j → i ≡ j) c.self.view_is (once-each inside.texts.items inside.firsts.entries inside.others.entries c.self.invariant)
