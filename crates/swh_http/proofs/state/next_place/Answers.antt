use Rattle.std.proofs.Common.{ℕ, List, ◌∙◌, sym, ap}
use Rattle.swh_http.specs.HeadState.{place_of, advance}
use Rattle.swh_http.proofs.Turns.{place-push, within}
use Rattle.swh_http.proofs.state.next_place.Goals as goal

pub advance-after-requires : goal.advance-after-requires
advance-after-requires c = rw c.as_slice.ensures.value (within c.args.held.now.items c.args.place c.requires)

pub returns : goal.returns
returns c = (
  c.in_ok-push.ensures.items,
  ap place_of c.in_ok-push.ensures.items
      ∙ place-push c.args.held.now.items c.args.byte c.args.place c.requires
      ∙ ap (λ (x : List ℕ). advance x c.args.place c.args.byte) (sym c.as_slice.ensures.value)
      ∙ sym c.advance-after.ensures,
)
