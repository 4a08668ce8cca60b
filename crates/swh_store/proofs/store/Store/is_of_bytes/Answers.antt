use Rattle.std.proofs.Common.{subst}
use Rattle.swh_model.specs.Archive.{AreAllOfBytes}
use Rattle.swh_store.specs.Stored.{Stored}
use Rattle.swh_store.proofs.IndexLemmas.{bytes_in}
use Rattle.swh_store.proofs.store.Store.is_of_bytes.Goals as goal

pub returns : goal.returns
returns c = subst (λ (s : Stored). AreAllOfBytes s.bodies) c.self.view_is (bytes_in c.self.inside.held.entries.items c.self.invariant.of_bytes)
