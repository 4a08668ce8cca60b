use Rattle.std.proofs.Common.{length, take}
use Rattle.std.specs.List.{flat_map}
use Rattle.swh_fastwrite.specs.Quoted.{quoted_byte}
use Rattle.swh_pathsums.specs.Lengths.{IsUpTo}
use Rattle.swh_pathsums.proofs.tally.quoted_length.Given as goal

abbrev pub invariant-loop-c : goal.invariant-loop-c
invariant-loop-c l = IsUpTo (length (flat_map quoted_byte (take l.c-index l.name))) l.bytes
