use Rattle.std.proofs.Common.{sym, subst}
use Rattle.swh_core.specs.Kept.{IsWorld}
use Rattle.swh_core.proofs.Worlds.{first_kept}
use Rattle.swh_core.proofs.world.World.new.Goals as goal

pub invariant_of-result : goal.invariant_of-result
invariant_of-result g c = subst (IsWorld g.N.Namer.id_of) (sym c.in_ok-first_parts.ensures) (first_kept g.N.Namer.id_of c.args.actors)
