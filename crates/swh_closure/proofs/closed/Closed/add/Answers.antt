use Rattle.std.proofs.Common.{◌≡◌, ◌⊎◌, ◌+◌, Bool, cond, ◌∙◌, ap, subst, List, length}
use Rattle.std.specs.Prelude.{Contains, not}
use Rattle.swh_base.specs.declared.name.Name.{Name}
use Rattle.swh_closure.proofs.Order.{put, not_there}
use Rattle.swh_closure.proofs.closed.Closed.add.Goals as goal

pub returns-clause-ok : goal.returns-clause-ok
returns-clause-ok c =
    let new = c.insert.new.self.keys in
    subst (λ (old : List Name). (n : Name) → (Contains new n → Contains old n ⊎ (c.args.name ≡ n)) × (Contains old n ⊎ (c.args.name ≡ n) → Contains new n)) c.self.view_is
    (put c.self.inside.names.keys new c.args.name c.in_ok-insert.ensures.updates.0)

pub returns-clause-more : goal.returns-clause-more
returns-clause-more c none =
    let absent = not_there c.self.inside.names.keys c.args.name (λ h. none (subst (λ (names : List Name). Contains names c.args.name) c.self.view_is h)) in
    c.in_ok-insert.ensures.len ∙ ap (λ (b : Bool). length c.self.inside.names.keys + cond b 1 0) (c.in_ok-insert.ensures.added ∙ ap not absent)
    ∙ ap (λ (names : List Name). length names + 1) c.self.view_is
