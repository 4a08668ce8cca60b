use Rattle.std.proofs.Common.{◌≡◌, ◌++◌, take}
use Rattle.std.specs.List.{flat_map}
use Rattle.swh_fastwrite.specs.Quoted.{quoted_byte}
use Rattle.swh_fastwrite.proofs.quoting.push_quoted_bytes.Given as goal

abbrev pub invariant-loop-c : goal.invariant-loop-c
invariant-loop-c l = l.out.items ≡ l.initial.out.items ++ flat_map quoted_byte (take l.c-index l.path)
