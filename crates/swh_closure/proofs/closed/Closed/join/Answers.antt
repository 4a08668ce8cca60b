use Rattle.std.proofs.Common.{inl, inr, sym, subst, List}
use Rattle.std.specs.Prelude.{Contains}
use Rattle.std.proofs.lemmas.List.Elements.{Contains-append_left}
use Rattle.swh_base.specs.declared.name.Name.{Name}
use Rattle.swh_closure.proofs.Order.{joined_only, joined_stays, joined_all}
use Rattle.swh_closure.proofs.closed.Closed.join.Goals as goal

pub returns-in_err-append-clause-stays : goal.returns-in_err-append-clause-stays
returns-in_err-append-clause-stays c n h =
    let moves = c.in_err-append.ensures.moves in
    joined_stays c.self.inside.names.keys moves.0 c.append.new.self.keys moves.2.0 n (subst (λ (names : List Name). Contains names n) (sym c.self.view_is) h)

pub returns-in_err-append-clause-only : goal.returns-in_err-append-clause-only
returns-in_err-append-clause-only c n h =
    let moves = c.in_err-append.ensures.moves in
    elim (joined_only c.self.inside.names.keys moves.0 c.append.new.self.keys moves.2.0 n h) [
      | inl old ↦ inl (subst (λ (names : List Name). Contains names n) c.self.view_is old)
      | inr more ↦
          let all = subst (λ (names : List Name). Contains names n) (sym moves.1) (Contains-append_left moves.0 c.append.new.other.keys n more) in
          inr (subst (λ (names : List Name). Contains names n) c.other.view_is all)
    ]

pub returns-clause-stays : goal.returns-clause-stays
returns-clause-stays c n h =
    joined_stays c.self.inside.names.keys c.other.inside.names.keys c.append.new.self.keys c.in_ok-append.ensures.inserts_all.0 n (subst (λ (names : List Name). Contains names n) (sym c.self.view_is) h)

pub returns-clause-only : goal.returns-clause-only
returns-clause-only c n h =
    elim (joined_only c.self.inside.names.keys c.other.inside.names.keys c.append.new.self.keys c.in_ok-append.ensures.inserts_all.0 n h) [
      | inl old ↦ inl (subst (λ (names : List Name). Contains names n) c.self.view_is old)
      | inr more ↦ inr (subst (λ (names : List Name). Contains names n) c.other.view_is more)
    ]

pub returns-clause-all : goal.returns-clause-all
returns-clause-all c n h =
    joined_all c.self.inside.names.keys c.other.inside.names.keys c.append.new.self.keys c.in_ok-append.ensures.inserts_all.0 n (subst (λ (names : List Name). Contains names n) (sym c.other.view_is) h)
