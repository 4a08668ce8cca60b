use Rattle.std.proofs.Common.{◌≡◌, ◌++◌, take}
use Rattle.swh_dedup.specs.Whole.{names_of}
use Rattle.swh_ingest.proofs.sending_parts.add_names.Given as goal

abbrev pub invariant-loop-object : goal.invariant-loop-object
invariant-loop-object g l = l.names.items ≡ l.fn.names.items ++ names_of (take l.object-index l.objects)
