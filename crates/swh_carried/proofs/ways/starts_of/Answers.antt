use Rattle.std.proofs.Common.{List, [], ℕ, sym, subst}
use Rattle.std.proofs.lemmas.List.{take_all}
use Rattle.swh_base.specs.declared.name.Name.{Name}
use Rattle.swh_carried.specs.Ways.{IsStart, TellAll}
use Rattle.swh_carried.proofs.WayCounts.{none_start, starts_next}
use Rattle.swh_carried.proofs.ways.starts_of.Goals as goal

pub loop-start-init : goal.loop-start-init
loop-start-init c = subst (λ (entries : List (Name × ℕ)). TellAll (IsStart []) entries) (sym c.new-ways.ensures.empty) none_start

pub loop-start-preserved : goal.loop-start-preserved
loop-start-preserved c =
    starts_next c.args.starts.now c.loop-start.start-index _ c.loop-start-test.true c.loop-start.ways.entries c.raise.new.ways.entries c.loop-start.invariant c.in_ok-raise.ensures

pub returns : goal.returns
returns c =
    subst (λ (l : List Name). TellAll (IsStart l) c.loop-start.ways.entries)
    (take_all c.loop-start.start-index c.args.starts.now c.loop-start-test.false) c.loop-start.invariant
