use Rattle.std.proofs.Common.{◌≡◌, true, false, inl, inr, refl}
use Rattle.swh_base.specs.Reach.{IsHeldIn, IsChildIn}
use Rattle.swh_base.proofs.Reaches.{certified-closed}
use Rattle.swh_closure.proofs.Refusals.{missing_refutes}
use Rattle.swh_closure.proofs.Wholes.{AreJoined, whole-closed, whole-joined, reached-joined}
use Rattle.swh_closure.proofs.closing.close.Goals as goal

pub returns-in_err-join-in-Ok-clause-only : goal.returns-in_err-join-in-Ok-clause-only
returns-in_err-join-in-Ok-clause-only g c n h =
    elim (c.join.ensures.only n h) [ inl old ↦ inl old | inr new ↦ inr (c.in-Ok.ensures.reached n new).0 ]

pub returns-in_ok-join-in-Ok-clause-value : goal.returns-in_ok-join-in-Ok-clause-value
returns-in_ok-join-in-Ok-clause-value g c =
    let children_of = g.G.Graph.children_of c.args.graph.now in
    let IsHeld = IsHeldIn children_of in
    let IsChild = IsChildIn children_of in (
      λ _. certified-closed IsHeld IsChild c.args.closed.now c.in-Ok.names c.args.root (whole-closed IsHeld IsChild c.args.closed.now c.requires) c.in-Ok.ensures.ok,
      λ _. refl,
    )

pub returns-in_ok-join-in-Ok-clause-whole : goal.returns-in_ok-join-in-Ok-clause-whole
returns-in_ok-join-in-Ok-clause-whole g c =
    let children_of = g.G.Graph.children_of c.args.graph.now in
    let are : AreJoined (IsHeldIn children_of) (IsChildIn children_of) c.args.closed.now c.in-Ok.names c.join.new.self =
    record { stays = c.join.ensures.stays; join = c.in_ok-join-in-Ok.ensures.all; only = c.join.ensures.only } in
    whole-joined (IsHeldIn children_of) (IsChildIn children_of) c.args.closed.now c.in-Ok.names c.join.new.self c.args.root are c.in-Ok.ensures.ok c.requires

pub returns-in_ok-join-in-Ok-clause-only : goal.returns-in_ok-join-in-Ok-clause-only
returns-in_ok-join-in-Ok-clause-only g c n h =
    elim (c.join.ensures.only n h) [ inl old ↦ inl old | inr new ↦ inr (c.in-Ok.ensures.reached n new).0 ]

pub returns-in_ok-join-in-Ok-clause-all : goal.returns-in_ok-join-in-Ok-clause-all
returns-in_ok-join-in-Ok-clause-all g c _ =
    let children_of = g.G.Graph.children_of c.args.graph.now in
    let are : AreJoined (IsHeldIn children_of) (IsChildIn children_of) c.args.closed.now c.in-Ok.names c.join.new.self =
    record { stays = c.join.ensures.stays; join = c.in_ok-join-in-Ok.ensures.all; only = c.join.ensures.only } in
    reached-joined (IsHeldIn children_of) (IsChildIn children_of) c.args.closed.now c.in-Ok.names c.join.new.self c.args.root are c.in-Ok.ensures.ok c.requires

pub returns-in-Err-Missing-clause-value : goal.returns-in-Err-Missing-clause-value
returns-in-Err-Missing-clause-value g c = (
  λ yes'. absurd (let f : false ≡ true = yes' in cc),
  λ closed. absurd (missing_refutes (g.G.Graph.children_of c.args.graph.now) c.args.root c.in-Err-Missing.field-0-0 c.in-Err-Missing.field-0-1 (rw c.in-Err-Missing.field-0-is at c.in-Err-Missing.ensures.missing) closed),
)
