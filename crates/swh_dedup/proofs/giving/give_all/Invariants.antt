use Rattle.std.proofs.Common.{length, take}
use Rattle.swh_dedup.specs.Making.{made}
use Rattle.swh_dedup.specs.Giving.{Gives}
use Rattle.swh_dedup.proofs.giving.give_all.Given as goal

abbrev pub invariant-loop-object : goal.invariant-loop-object
invariant-loop-object g l = Gives g.N.Namer.id_of (made (take (length l.yielded) l.fn.objects.items)) l.fn.seen l.seen l.out.items
