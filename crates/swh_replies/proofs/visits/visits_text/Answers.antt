use Rattle.std.proofs.Common.{◌≡◌, ℕ, List, [], ◌∷◌, ◌++◌, reverse, take, length, ap, ◌∙◌}
use Rattle.std.proofs.lemmas.Iterator.Adapters.{YieldsList-from_rev_slice}
use Rattle.std.proofs.lemmas.Iterator.Consumers.{YieldsList-turn, YieldsList-end}
use Rattle.std.proofs.lemmas.List.{length_push}
use Rattle.std.proofs.Math.Seq.{take-length}
use Rattle.json.specs.Print.{print}
use Rattle.json.specs.Token.{Token, end_array}
use Rattle.swh_replies.proofs.Shown.{opened_visits, one_more_visit, visits_printed}
use Rattle.swh_replies.proofs.visits.visits_text.Goals as goal

pub loop-visit-preserved : goal.loop-visit-preserved
loop-visit-preserved c =
    let turn = YieldsList-turn (YieldsList-from_rev_slice c.args.visits.now cc) c.loop-visit.yielded _ c.loop-visit.yielded_by _ _ c.in-Some.visit c.in-Some.is c.next.ensures.steps in
    let here = c.in_ok-put_visit.ensures c.args.origin.now (c.as_str.ensures.value ∙ c.in_ok-escaped.ensures) in
    let next = length_push c.loop-visit.yielded c.in-Some.visit in (
      here.before ∙ c.loop-visit.invariant.0,
      one_more_visit c.args.origin.now (reverse c.args.visits.now) (length c.loop-visit.yielded) _ c.in-Some.visit.now c.loop-visit.writer.tokens c.put_visit.new.writer.tokens c.loop-visit.invariant.1 turn.0 turn.1 next here.tokens,
    )

pub returns : goal.returns
returns c =
    let all = YieldsList-end (YieldsList-from_rev_slice c.args.visits.now cc) c.loop-visit.yielded _ c.loop-visit.yielded_by _ _ c.in-None.is c.next.ensures.steps in
    let whole : take (length c.loop-visit.yielded) (reverse c.args.visits.now) ≡ reverse c.args.visits.now =
    ap (λ (n : ℕ). take n (reverse c.args.visits.now)) all.1 ∙ take-length (reverse c.args.visits.now) in
    let tokens = c.in_ok-end_array.ensures.ok ∙ ap (λ (ts : List Token). ts ++ end_array ∷ []) (c.loop-visit.invariant.1 ∙ ap (opened_visits c.args.origin.now) whole) in
    let before = c.in_ok-end_array.ensures.room.0 ∙ c.loop-visit.invariant.0 in
    c.into_inner.ensures.items ∙ ap (λ front. front ++ print c.end_array.new.self.tokens) before ∙ visits_printed c.args.origin.now (reverse c.args.visits.now) c.end_array.new.self.tokens tokens
