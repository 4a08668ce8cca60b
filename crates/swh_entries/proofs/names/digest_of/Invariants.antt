use Rattle.std.proofs.Common.{◌≡◌, take}
use Rattle.swh_entries.specs.Named.{digest_of}
use Rattle.swh_entries.proofs.names.digest_of.Given as goal

abbrev pub invariant-loop-byte : goal.invariant-loop-byte
invariant-loop-byte l = l.digest ≡ digest_of (take l.byte-index l.name)
