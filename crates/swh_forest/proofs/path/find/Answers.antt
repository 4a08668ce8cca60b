use Rattle.std.proofs.Common.{◌+◌, ◌<◌, ℕ, List, drop, length, sym, ap, ◌∙◌, arith}
use Rattle.swh_forest.specs.Forest.{step, found}
use Rattle.swh_forest.specs.Arena.{stands_of, tree_at, parts_of}
use Rattle.swh_forest.proofs.Walks.{found-rest, component-at, length-parts_of}
use Rattle.swh_forest.proofs.path.find.Goals as goal

pub loop-name-preserved : goal.loop-name-preserved
loop-name-preserved c =
    let comps = parts_of c.args.path.now in
    let i = c.loop-name.name-index in
    let here = stands_of (tree_at c.args.names.now c.args.nodes.now) c.loop-name.here in
    let lt : i < length c.args.path.now = omega arith in
    let within : i < length comps = rw (length-parts_of c.args.path.now) lt in
    record {
      inside = c.step-here.ensures.inside;
      found = ap (found (drop (i + 1) comps)) c.step-here.ensures.child
          ∙ ap (λ (n : List ℕ). found (drop (i + 1) comps) (step n here)) (sym (component-at c.args.path.now i _ lt))
          ∙ sym (found-rest comps i here within) ∙ c.loop-name.invariant.found;
    }
