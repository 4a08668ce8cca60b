use Rattle.std.proofs.Common.{◌≡◌, ◌++◌, take}
use Rattle.swh_store.specs.Places.{IsIndexed}
use Rattle.swh_store.proofs.entries.Held.push_all.Given as goal

abbrev pub invariant-loop-entry : goal.invariant-loop-entry
invariant-loop-entry l = record {
  indexed : IsIndexed l.self;
  items : l.self.entries.items ≡ l.initial.self.entries.items ++ take l.entry-index l.entries;
}
