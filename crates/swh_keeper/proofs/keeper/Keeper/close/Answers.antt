use Rattle.std.proofs.Common.{subst}
use Rattle.swh_keeper.specs.Kept.{Kept, IsKept}
use Rattle.swh_keeper.proofs.KeptLemmas.{kept_by_owners}
use Rattle.swh_keeper.proofs.OwnLemmas.{kept_own}
use Rattle.swh_keeper.proofs.keeper.Keeper.close.Goals as goal

pub returns-clause-kept : goal.returns-clause-kept
returns-clause-kept g c =
    subst (λ (k : Kept g.row.D.Denot). IsKept g.N.Namer.id_of g.D.Disk.tells g.D.Disk.file k) c.self.view_is
    (kept_by_owners g.N.Namer.id_of g.D.Disk.tells g.D.Disk.file c.self.inside.store c.self.inside.ledger c.self.inside.replayed c.self.inside.history.items c.self.inside.wounded c.self.invariant)

pub returns-clause-own : goal.returns-clause-own
returns-clause-own g c told =
    let sees = (g.met.D.Disk g.world.𝓛 g.world.𝓜 g.world.𝓡 ((λ s x. x), (λ x. x), (λ x. x), λ x. x)).sees_image in
    kept_own g.N.Namer.id_of g.D.Disk.tells g.D.Disk.file c.args.self sees told (returns-clause-kept g c)
