use Rattle.std.proofs.Common.{◌≡◌, take, length}
use Rattle.swh_store.specs.Places.{IsIndexed}
use Rattle.swh_store.proofs.entries.Held.cut.Given as goal

abbrev pub invariant-loop-self : goal.invariant-loop-self
invariant-loop-self l = record {
  indexed : IsIndexed l.self;
  front : take l.count l.self.entries.items ≡ take l.count l.initial.self.entries.items;
}

abbrev pub decreases-loop-self : goal.decreases-loop-self
decreases-loop-self l = length l.self.entries.items
