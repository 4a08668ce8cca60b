use Rattle.std.proofs.Common.{◌≡◌, take}
use Rattle.swh_format.specs.Record.{magic}
use Rattle.swh_recovery.proofs.archive.check_magic.Given as goal

abbrev pub invariant-loop-i : goal.invariant-loop-i
invariant-loop-i l = take l.i l.ledger ≡ take l.i magic
