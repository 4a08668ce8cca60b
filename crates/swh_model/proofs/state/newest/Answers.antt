use Rattle.std.proofs.Common.{◌≡◌, ◌+◌, ◌-◌, ◌<◌, ℕ, length, take, ap, ◌∙◌, true, false, refl, arith}
use Rattle.swh_model.specs.Archive.{body_of}
use Rattle.swh_model.specs.Step.{added}
use Rattle.swh_model.proofs.PlainLists.{newest-passed, newest-found}
use Rattle.swh_model.proofs.state.newest.Goals as goal

pub returns-then-is_same_name-clause-some : goal.returns-then-is_same_name-clause-some
returns-then-is_same_name-clause-some c = λ bodies.
    let left = c.loop-left.left in
    let less : left - 1 < length c.args.entries.now = let w = c.loop-left.invariant.within in let t = c.loop-left-test.true in omega (arith, w, t) in
    let one : left ≡ (left - 1) + 1 = let t = c.loop-left-test.true in omega (arith, t) in
    c.loop-left.invariant.passed bodies ∙ ap (λ (n : ℕ). body_of (added bodies (take n c.args.entries.now)) c.args.name.now) one
    ∙ newest-found bodies c.args.entries.now (left - 1) c.index-entries-left.result c.args.name.now less c.index-entries-left.is (c.if-is_same_name.ensures.0 refl)

pub loop-left-preserved : goal.loop-left-preserved
loop-left-preserved c =
    let left = c.loop-left.left in
    let less : left - 1 < length c.args.entries.now = let w = c.loop-left.invariant.within in let t = c.loop-left-test.true in omega (arith, w, t) in
    let one : left ≡ (left - 1) + 1 = let t = c.loop-left-test.true in omega (arith, t) in
    record {
      within = let w = c.loop-left.invariant.within in omega (arith, w);
      passed = λ bodies.
          c.loop-left.invariant.passed bodies ∙ ap (λ (n : ℕ). body_of (added bodies (take n c.args.entries.now)) c.args.name.now) one
          ∙ newest-passed bodies c.args.entries.now (left - 1) c.index-entries-left.result c.args.name.now less c.index-entries-left.is (λ same. let f : false ≡ true = c.if-is_same_name.ensures.1 same in cc);
    }
