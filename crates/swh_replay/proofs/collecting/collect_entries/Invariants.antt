use Rattle.std.proofs.Common.{◌≡◌, take}
use Rattle.swh_replay.specs.Happened.{all_entries}
use Rattle.swh_replay.proofs.collecting.collect_entries.Given as goal

abbrev pub invariant-loop-event : goal.invariant-loop-event
invariant-loop-event l = l.all.items ≡ all_entries (take l.event-index l.events)
