use Rattle.std.proofs.Common.{◌≡◌, ◌≤◌, ◌-◌}
use Rattle.std.specs.List.{AllByRecursion}
use Rattle.swh_object.specs.Object.{IsObject}
use Rattle.swh_dedup.specs.Making.{made}
use Rattle.swh_batchread.specs.Batch.{input_limit}
use Rattle.swh_batchread.specs.Parts.{HasRead}
use Rattle.swh_batchread.proofs.objects.read_objects.Given as goal

-- the text up to the window's place has been read, and what was met of it is kept
abbrev pub invariant-objects : goal.invariant-objects
invariant-objects g l = record {
  place : l.window.place ≤ input_limit;
  same : made l.objects.items ≡ l.seen;
  good : AllByRecursion (IsObject g.N.Namer.id_of) l.objects.items;
  read : g.S.Source.tells → HasRead g.N.Namer.id_of (g.S.Source.left l.fn.source) l.window (g.S.Source.left l.source) l.seen;
  same_path : g.S.Source.path l.source ≡ g.S.Source.path l.fn.source;
  quiet : g.S.Source.faults l.source ≡ g.S.Source.faults l.fn.source;
}

abbrev pub decreases-objects : goal.decreases-objects
decreases-objects g l = input_limit - l.window.place
