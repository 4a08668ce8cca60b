use Rattle.std.proofs.Common.{◌≡◌, ◌⊎◌, true, false, ◌∙◌, ap, sym, subst, List}
use Rattle.std.specs.Prelude.{Contains, not}
use Rattle.swh_base.specs.declared.name.Name.{Name}
use Rattle.swh_closure.proofs.Order.{put, there}
use Rattle.swh_closure.proofs.closed.Closed.insert.Goals as goal

pub returns-clause-ok : goal.returns-clause-ok
returns-clause-ok c =
    let new = c.insert.new.self.keys in
    subst (λ (old : List Name). (n : Name) → (Contains new n → Contains old n ⊎ (c.args.name ≡ n)) × (Contains old n ⊎ (c.args.name ≡ n) → Contains new n)) c.self.view_is
    (put c.self.inside.names.keys new c.args.name c.in_ok-added.ensures.updates.0)

pub returns-clause-fresh : goal.returns-clause-fresh
returns-clause-fresh c added was =
    let found = there c.self.inside.names.keys c.args.name (subst (λ (names : List Name). Contains names c.args.name) (sym c.self.view_is) was) in
    let e : true ≡ false = sym added ∙ c.in_ok-added.ensures.added ∙ ap not found in
    cc
