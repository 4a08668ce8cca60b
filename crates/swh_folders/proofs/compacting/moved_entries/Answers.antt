use Rattle.std.proofs.Common.{◌≡◌, take, refl, ap, ◌∙◌, arith}
use Rattle.std.proofs.lemmas.List.{take_all}
use Rattle.swh_forest.specs.Arena.{forest_of}
use Rattle.swh_folders.proofs.Moves.{forest-more, good-push, name-good}
use Rattle.swh_folders.proofs.compacting.moved_entries.Goals as goal

pub loop-e-preserved : goal.loop-e-preserved
loop-e-preserved c = record {
  good = λ at at' bound n k live mv marked good. rw c.in_ok-push.ensures.items (good-push n bound c.loop-e.out.items _ (c.loop-e.invariant.good at at' bound n k live mv marked good) (record {
    name = name-good n k c.args.entries.now c.loop-e.e-index _ good (omega arith);
    child = c.moved_child.ensures.inside at at' bound live mv (marked c.loop-e.e-index _ (omega arith));
  }));
  same = λ names at at' bound live mv marked. rw c.in_ok-push.ensures.items (forest-more names at at' c.args.entries.now c.loop-e.out.items c.loop-e.e-index _ _ (omega arith) refl (c.moved_child.ensures.same at at' bound live mv (marked c.loop-e.e-index _ (omega arith))) (c.loop-e.invariant.same names at at' bound live mv marked));
}

pub returns-clause-same : goal.returns-clause-same
returns-clause-same c = λ names at at' bound live mv marked.
    let e : take c.loop-e.e-index c.args.entries.now ≡ c.args.entries.now = take_all c.loop-e.e-index c.args.entries.now (omega arith) in
    c.loop-e.invariant.same names at at' bound live mv marked ∙ ap (forest_of names at) e
