use Rattle.std.proofs.Common.{sym, ap, ◌∙◌}
use Rattle.std.specs.FinMap as finite
use Rattle.swh_store.specs.Stored.{Stored}
use Rattle.swh_store.proofs.IndexLemmas.{size}
use Rattle.swh_store.proofs.store.Store.len.Goals as goal

pub returns : goal.returns
returns c =
    c.len.ensures ∙ c.self.inside.held.entries.ok.0 ∙ sym (size c.self.inside.held.entries.items c.self.invariant.new) ∙ ap (λ (s : Stored). finite.len s.bodies) c.self.view_is
