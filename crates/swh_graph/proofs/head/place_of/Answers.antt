use Rattle.std.proofs.Common.{ℕ, ◌+◌, ◌-◌, ◌/◌, ◌<◌, ◌≤◌, sym, ap, ◌∙◌, arith}
use Rattle.std.specs.Ordering.{nat_cmp}
use Rattle.std.specs.Cmp.Lexicographic.{slice_cmp}
use Rattle.std.proofs.lemmas.List.{get_or_default}
use Rattle.swh_snpfmt.specs.declared.branch.SpelledBranch.{SpelledBranch}
use Rattle.swh_graph.proofs.Halves.{goes_up, goes_down, is_place, no_branch}
use Rattle.swh_graph.proofs.head.place_of.Goals as goal

above_low : (low high : ℕ) → low < high → low ≤ low + (high - low) / 2
above_low low high less = omega arith

below_high : (low high : ℕ) → low < high → low + (high - low) / 2 < high
below_high low high less = omega arith

pub halves-preserved-in-Less : goal.halves-preserved-in-Less
halves-preserved-in-Less c =
    let low = c.halves.low in
    let high = c.halves.high in
    let less = c.halves-test.true in
    let within = c.halves.invariant.within in
    let under = below_high low high less in
    goes_up c.args.branches.now c.args.name.now c.requires low high (low + (high - low) / 2) c.halves.invariant (above_low low high less) under
    (λ d. ap (λ (b : SpelledBranch). slice_cmp nat_cmp b.name.now c.args.name.now) (get_or_default c.args.branches.now (low + (high - low) / 2) d _ (omega (arith, under, within))) ∙ sym c.cmp.ensures ∙ c.in-Less.is)

pub halves-preserved : goal.halves-preserved
halves-preserved c =
    let low = c.halves.low in
    let high = c.halves.high in
    let less = c.halves-test.true in
    let within = c.halves.invariant.within in
    let under = below_high low high less in
    goes_down c.args.branches.now c.args.name.now c.requires low high (low + (high - low) / 2) c.halves.invariant (above_low low high less) under
    (λ d. ap (λ (b : SpelledBranch). slice_cmp nat_cmp b.name.now c.args.name.now) (get_or_default c.args.branches.now (low + (high - low) / 2) d _ (omega (arith, under, within))) ∙ sym c.cmp.ensures ∙ c.in-Greater.is)

pub returns-in-Equal-clause-some : goal.returns-in-Equal-clause-some
returns-in-Equal-clause-some c =
    let low = c.halves.low in
    let high = c.halves.high in
    let less = c.halves-test.true in
    let within = c.halves.invariant.within in
    let under = below_high low high less in
    is_place c.args.branches.now c.args.name.now c.requires low high (low + (high - low) / 2) c.halves.invariant (above_low low high less) under
    (λ d. ap (λ (b : SpelledBranch). slice_cmp nat_cmp b.name.now c.args.name.now) (get_or_default c.args.branches.now (low + (high - low) / 2) d _ (omega (arith, under, within))) ∙ sym c.cmp.ensures ∙ c.in-Equal.is)

pub returns-clause-none : goal.returns-clause-none
returns-clause-none c = no_branch c.args.branches.now c.args.name.now c.halves.low c.halves.high c.halves.invariant c.halves-test.false
