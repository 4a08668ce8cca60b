use Rattle.std.proofs.Common.{◌≡◌, ◌+◌, ◌<◌, ◌∷◌, ℕ, List, length, get_or, [], sym, ap, ◌∙◌, arith, inl, inr, None}
use Rattle.std.proofs.Math.Seq.{get_or-append_seam}
use Rattle.std.proofs.lemmas.Bool.{cases_lt}
use Rattle.std.proofs.lemmas.List.{length-append, get_or_append_left}
use Rattle.std.proofs.lemmas.List.Elements.{All-push}
use Rattle.swh_forest.specs.Forest.{step}
use Rattle.swh_forest.specs.Arena.{stands_of, tree_at, parts_of, IsIn}
use Rattle.swh_forest.proofs.Walks.{found-more, component-at, length-parts_of}
use Rattle.swh_forest.proofs.path.fronts_of.Goals as goal

pub loop-name-preserved : goal.loop-name-preserved
loop-name-preserved c =
    let comps = parts_of c.args.path.now in
    let i = c.loop-name.name-index in
    let at = tree_at c.args.names.now c.args.nodes.now in
    let here = stands_of at c.loop-name.here in
    let root = stands_of at c.args.root in
    let lt : i < length c.args.path.now = omega arith in
    let within : i < length comps = rw (length-parts_of c.args.path.now) lt in
    let long = c.loop-name.invariant.as_long in
    record {
      inside = c.step-here.ensures.inside;
      here = c.step-here.ensures.child
          ∙ ap (λ (n : List ℕ). step n here) (sym (component-at c.args.path.now i _ lt))
          ∙ ap (step (get_or comps i [])) c.loop-name.invariant.here
          ∙ sym (found-more comps i root within);
      as_long = rw c.in_ok-push.ensures.items (simp length-append (omega arith));
      each = rw c.in_ok-push.ensures.items (All-push (IsIn (length c.args.nodes.now)) c.loop-name.fronts.items c.loop-name.here c.loop-name.invariant.each c.loop-name.invariant.inside);
      founds = rw c.in_ok-push.ensures.items (λ k h. elim (cases_lt k (length c.loop-name.fronts.items)) [
        | inl below ↦ ap (stands_of at) (get_or_append_left c.loop-name.fronts.items (c.loop-name.here ∷ []) None k below) ∙ c.loop-name.invariant.founds k below
        | inr top ↦
            let more : k < length c.loop-name.fronts.items + 1 = simp length-append at h in
            let is : k ≡ length c.loop-name.fronts.items = omega arith in
            let is' : length c.loop-name.fronts.items ≡ i = long in
            rw is (ap (stands_of at) (get_or-append_seam c.loop-name.fronts.items c.loop-name.here [] None) ∙ rw is' c.loop-name.invariant.here)
      ]);
    }
