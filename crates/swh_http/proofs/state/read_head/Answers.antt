use Rattle.std.proofs.Common.{ℕ, List, ◌∷◌, [], ap, sym, ◌∙◌, arith, subst, get_or, length}
use Rattle.std.proofs.lemmas.List.{length-append}
use Rattle.swh_http.specs.HeadState.{place_of}
use Rattle.swh_http.specs.Turn.{GoesAt}
use Rattle.swh_http.proofs.Ends.{whole-head}
use Rattle.swh_http.proofs.Turns.{goes-more, held-more, refused-broken, refused-long}
use Rattle.swh_http.proofs.state.read_head.Goals as goal

pub returns-then-len-ge-HEAD_LIMIT : goal.returns-then-len-ge-HEAD_LIMIT
returns-then-len-ge-HEAD_LIMIT c =
    refused-long c.args.bytes.items c.bytes.held.items c.args.rest.now c.bytes.index c.bytes.place c.bytes.invariant.text c.bytes.invariant.at
    (omega arith) c.bytes-test.true

pub returns-in-Whole : goal.returns-in-Whole
returns-in-Whole c =
    let next = c.in_ok-after.ensures in
    let place = next.1 ∙ c.in-Whole.is in (
      omega arith,
      omega (arith, c.bytes-test.true),
      next.0 ∙ held-more c.args.bytes.items c.bytes.held.items c.args.rest.now c.bytes.index c.bytes.invariant.text c.bytes-test.true,
      whole-head c.next_place.new.held.items place,
      omega (arith, ap length next.0, length-append c.bytes.held.items (get_or c.args.rest.now c.bytes.index 0 ∷ []), c.if-len-ge-HEAD_LIMIT.false),
    )

pub returns-in-Broken : goal.returns-in-Broken
returns-in-Broken c =
    let next = c.in_ok-after.ensures in
    refused-broken c.args.bytes.items c.bytes.held.items c.args.rest.now c.bytes.index c.bytes.invariant.text (omega arith) c.bytes-test.true
    (ap place_of (sym next.0) ∙ next.1 ∙ c.in-Broken.is)

pub bytes-preserved : goal.bytes-preserved
bytes-preserved c =
    let next = c.in_ok-after.ensures in
    let P : List ℕ → Type 0 = λ held. GoesAt held c.in_ok-after.after in
    record {
      text = next.0 ∙ held-more c.args.bytes.items c.bytes.held.items c.args.rest.now c.bytes.index c.bytes.invariant.text c.bytes-test.true;
      at = subst P (sym next.0) (goes-more c.bytes.held.items c.bytes.place c.in_ok-after.after (get_or c.args.rest.now c.bytes.index 0) c.bytes.invariant.at (omega arith)
          (ap place_of (sym next.0) ∙ next.1) c.in_default.not-Whole c.in_default.not-Broken);
    }
