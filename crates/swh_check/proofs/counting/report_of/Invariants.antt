use Rattle.std.proofs.Common.{◌≡◌, ◌≤◌, ℕ, List, take}
use Rattle.std.specs.Prelude.{◌↔◌, Contains}
use Rattle.swh_base.specs.declared.name.Name.{Name}
use Rattle.swh_base.specs.Reach.{ReachesIn}
use Rattle.swh_base.specs.Snapshot.{snapshot_name}
use Rattle.swh_closure.specs.Whole.{IsWholeIn}
use Rattle.swh_store.specs.Stored.{children_in}
use Rattle.swh_check.specs.Counts.{opened_in, IsFullIn}
use Rattle.swh_check.proofs.counting.report_of.Given as goal

abbrev pub invariant-loop-event : goal.invariant-loop-event
invariant-loop-event l = record {
  visits : l.visits ≡ opened_in (take l.event-index l.history);
  few : l.visits ≤ l.event-index;
  whole : IsWholeIn (children_in l.store) l.closed;
  closed : (n : Name) → Contains l.closed n ↔ ((id : List ℕ) × IsFullIn (take l.event-index l.history) id × ReachesIn (children_in l.store) (snapshot_name id) n);
}
