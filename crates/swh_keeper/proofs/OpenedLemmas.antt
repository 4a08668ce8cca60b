-- The keeper of an archive that was opened.
use Rattle.std.proofs.Common.{◌≡◌, ℕ, None, List, sym, subst}
use Rattle.swh_outside.specs.Disk.{File}
use Rattle.swh_outside.specs.Files.{files_of, files_done}
use Rattle.swh_base.specs.declared.kind.Kind.{Kind}
use Rattle.swh_model.specs.declared.event.Event.{Event}
use Rattle.swh_model.specs.Step.{IsHistory}
use Rattle.swh_format.specs.Stands.{StandsFor}
use Rattle.swh_segment.specs.Making.{barriers}
use Rattle.swh_segment.specs.OnDisk.{OnDisk}
use Rattle.swh_replay.specs.declared.replayed.Replayed.{Replayed}
use Rattle.swh_replay.specs.Replay.{IsReplayOf, IsInFiles}
use Rattle.swh_keeper.specs.Keeping.{IsKeeping, IsKeeper}
use Rattle.swh_keeper.proofs.OpenLemmas.{keeping_opened}
use Rattle.swh_keeper.proofs.ReadLemmas.{ledger_seen, store_seen, ledger_rests, store_rests}

-- files that stood for a history before a barrier on each
pub opened_keeping : (id_of : Kind → List ℕ → List ℕ) (tells : Type 0) (ledger store ledger_now store_now : File) (r : Replayed) (h : List Event) → IsHistory id_of h → IsInFiles r → IsReplayOf r h
    → (tells → files_of ledger_now store_now ≡ files_done barriers (files_of ledger store)) → (tells → StandsFor ledger.seen store.seen h) → IsKeeping id_of tells ledger_now store_now r h None
opened_keeping id_of tells ledger store ledger_now store_now r h history fits is calls stand =
    keeping_opened id_of tells ledger_now store_now r h history fits is
    (λ told. ledger_rests ledger store ledger_now store_now (calls told))
    (λ told. store_rests ledger store ledger_now store_now (calls told))
    (λ told.
    subst (λ (l : List ℕ). StandsFor l store_now.seen h) (sym (ledger_seen ledger store ledger_now store_now (calls told)))
    (subst (λ (l : List ℕ). StandsFor ledger.seen l h) (sym (store_seen ledger store ledger_now store_now (calls told))) (stand told)))

-- and their owners
pub owners_keep : {D : Type 0} (id_of : Kind → List ℕ → List ℕ) (tells : Type 0) (file : D → File) (ledger store : OnDisk D) (l s : D) (r : Replayed) (h : List Event)
    → ledger.disk ≡ l → store.disk ≡ s → ledger.end ≡ r.ledger_end → store.end ≡ r.store_end → IsKeeping id_of tells (file l) (file s) r h None → IsKeeper id_of tells file ledger store r h None
owners_keep {D} id_of tells file ledger store l s r h ledger_is store_is ledger_end store_end keeping = record {
  keeping = subst (λ (d : D). IsKeeping id_of tells (file d) (file store.disk) r h None) (sym ledger_is) (subst (λ (d : D). IsKeeping id_of tells (file l) (file d) r h None) (sym store_is) keeping);
  ends = λ _. record { store = store_end; ledger = ledger_end };
}
