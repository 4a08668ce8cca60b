use Rattle.std.proofs.Common.{◌≡◌, take}
use Rattle.swh_dedup.specs.Seen.{digest_of}
use Rattle.swh_dedup.proofs.places.digest_of.Given as goal

abbrev pub invariant-loop-byte : goal.invariant-loop-byte
invariant-loop-byte l = l.digest ≡ digest_of (take l.byte-index l.id)
