use Rattle.std.proofs.Common.{ℕ, List, subst, refl}
use Rattle.swh_http.specs.Framed.{IsRefusedHead}
use Rattle.swh_http.proofs.Turns.{no-body, refused-head, turn-after}
use Rattle.swh_http.proofs.state.whole_turn.Goals as goal

pub returns-in_ok-turn-in-Ok-clause-turn : goal.returns-in_ok-turn-in-Ok-clause-turn
returns-in_ok-turn-in-Ok-clause-turn c = λ held text.
    let turn = c.in_ok-turn-in-Ok.turn in
    turn-after held c.args.bytes.now c.args.head.items c.args.taken turn.taken turn.ask turn.state text c.requires.within
    (no-body c.args.head.items c.new.result.items c.split_at.result.1.now c.args.bytes.now c.args.taken turn.taken turn.ask turn.state c.new.ensures.items c.split_at.ensures.back c.in_ok-turn-in-Ok.ensures.turn)

pub returns-in-Err-clause-turn : goal.returns-in-Err-clause-turn
returns-in-Err-clause-turn c = λ held text.
    let P : List ℕ → Type 0 = λ x. IsRefusedHead x c.in-Err.status in
    let refused = subst P c.as_slice.ensures.value (rw c.in-Err.is at c.in_ok-framed.ensures) in
    rw (c.refusal.ensures.ask, c.refusal.ensures.state)
    (c.refusal.ensures.taken, refused-head held c.args.bytes.now c.args.head.items c.args.taken c.in-Err.status text c.requires.short refused, tt, refl)
