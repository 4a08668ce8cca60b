use Rattle.std.proofs.Common.{◌≡◌, List, ℕ, ◌++◌, [], Option, Some, subst, sym}
use Rattle.std.proofs.lemmas.Bool.{eqb-true}
use Rattle.swh_http.specs.declared.ask.Ask.{Ask}
use Rattle.swh_http.specs.Turn.{SoFar, held_of}
use Rattle.swh_http.proofs.Heads.{no-items}
use Rattle.swh_http.proofs.Turns.{begin, done, next-closed, next-ready, next-so}
use Rattle.swh_http.proofs.session.read.Goals as goal

pub turns-init : goal.turns-init
turns-init c = record {
  ready = c.requires;
  open_so = λ held is.
      let P : Option (List ℕ) → Type 0 = λ x. SoFar (held ++ c.args.piece.now) c.new-asks.result.items x c.args.piece.now in
      let Q : List Ask → Type 0 = λ x. SoFar (held ++ c.args.piece.now) x (Some held) c.args.piece.now in
      subst P (sym is) (subst Q (sym c.new-asks.ensures.items) (begin held c.args.piece.now));
  closed_so = λ is. (c.new-asks.ensures.items, is);
}

pub turns-preserved : goal.turns-preserved
turns-preserved c =
    let turn = c.in_ok-turn.turn in
    let next = c.in_ok-turn.ensures.turn in
    record {
      ready = next-ready (held_of c.turns.state) c.turns.rest.now turn next;
      open_so = λ held is. next-so (held ++ c.args.piece.now) c.turns.asks.items c.push_ask.new.asks.items (held_of c.turns.state) c.turns.rest.now _ turn
          (c.turns.invariant.open_so held is) next c.in_ok-push_ask.ensures c.split_at.ensures.back;
      closed_so = λ is. next-closed c.turns.asks.items c.push_ask.new.asks.items (held_of c.turns.state) c.turns.rest.now turn
          (c.turns.invariant.closed_so is).1 next c.in_ok-push_ask.ensures (c.turns.invariant.closed_so is).0;
    }

pub returns : goal.returns
returns c =
    let empty : c.turns.rest.now ≡ [] = no-items c.turns.rest.now (eqb-true _ 0 (sym c.turns-test.ensures)) in
    record {
      ready = c.turns.invariant.ready;
      «open» = λ held is.
          let P : List ℕ → Type 0 = λ x. SoFar (held ++ c.args.piece.now) c.turns.asks.items (held_of c.turns.state) x in
          done (held ++ c.args.piece.now) c.turns.asks.items c.turns.state c.turns.invariant.ready (subst P empty (c.turns.invariant.open_so held is));
      closed = c.turns.invariant.closed_so;
    }
