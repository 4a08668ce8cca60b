-- The two files as records and runs, and as what stands for a history.
use Rattle.std.specs.Prelude.{OnOk}
use Rattle.std.proofs.Common.{◌≡◌, inl, inr, ℕ, ◌+◌, ◌≤◌, Option, Result, Ok, Err, List, [], ◌∷◌, ◌++◌, length, refl, sym, ap, ◌∙◌, subst, arith, length-append}
use Rattle.swh_outside.specs.Disk.{File}
use Rattle.swh_outside.specs.Files.{Files, files_of, EachImages}
use Rattle.swh_format.specs.Record.{IsReady, front}
use Rattle.swh_format.specs.Events as format
use Rattle.swh_segment.specs.Settled.{AreSettled, with_or_without_event}
use Rattle.swh_base.specs.declared.kind.Kind.{Kind}
use Rattle.swh_model.specs.declared.event.Event.{Event}
use Rattle.swh_format.specs.EventRecord.{AreCodable}
use Rattle.swh_format.specs.Stands.{written, all_written}
use Rattle.swh_format.proofs.HistoryFiles.{written-at, codable-at}
use Rattle.swh_format.proofs.Lengths.{store_length-push, ledger_length-push}
use Rattle.swh_model.specs.Limits.{stored_length, payload_length}
use Rattle.swh_model.specs.Archive.{Archive, empty_archive}
use Rattle.swh_model.specs.Step.{May, MayAll, after, after_all, replay}
use Rattle.swh_replay.specs.Replay.{IsReplayOf, archive_of, Advances}
use Rattle.swh_replay.specs.declared.replayed.Replayed.{Replayed}
use Rattle.swh_keeper.specs.Keeping.{AreSettledFor, IsKeeping, IsKeeper, IsToAdd}
use Rattle.swh_segment.specs.Standing.{WithOrWithout, AreStanding}
use Rattle.swh_segment.specs.OnDisk.{OnDisk}
use Rattle.swh_keeper.specs.Kept.{IsKept}

pub standing_from_settled : (ledger store : File) (h : List Event) (m n : ℕ) → AreSettledFor ledger store h m n → AreStanding ledger store h
standing_from_settled ledger store h m n s =
    record {
      ledger_rests = s.settled.ledger.rests;
      store_rests = s.settled.store;
      stand = record { files = record { ledger_stands = s.settled.ledger.stands; rest = s.settled.rest; store_begins = s.settled.begins }; codable = s.codable };
    }

pub kept_from : {D : Type 0} (id_of : Kind → List ℕ → List ℕ) (tells : Type 0) (file : D → File) (store ledger : D) (r : Replayed) (h : List Event) (w : Option ℕ)
    → IsKeeping id_of tells (file ledger) (file store) r h w → IsKept id_of tells file (record { store = store; ledger = ledger; history = h; wounded = w })
kept_from id_of tells file store ledger r h w k =
    record {
      history = k.history;
      standing = λ none told. standing_from_settled (file ledger) (file store) h r.store_end r.ledger_end (k.settled none told);
      doubt = k.doubt;
    }

-- a keeper that owns its files, as contracts see it
pub kept_by_owners : {D : Type 0} (id_of : Kind → List ℕ → List ℕ) (tells : Type 0) (file : D → File) (store ledger : OnDisk D) (r : Replayed) (h : List Event) (w : Option ℕ)
    → IsKeeper id_of tells file ledger store r h w → IsKept id_of tells file (record { store = store.disk; ledger = ledger.disk; history = h; wounded = w })
kept_by_owners id_of tells file store ledger r h w k = kept_from id_of tells file store.disk ledger.disk r h w k.keeping

pub replay-push : (a : Archive) (h : List Event) (e : Event) → after_all a (h ++ e ∷ []) ≡ after (after_all a h) e
replay-push a [] e = refl
replay-push a (f ∷ h) e = replay-push (after a f) h e

pub history-push : (id_of : Kind → List ℕ → List ℕ) (a : Archive) (h : List Event) (e : Event) → MayAll id_of a h → May id_of (after_all a h) e → MayAll id_of a (h ++ e ∷ [])
history-push id_of a [] e all one = (one, tt)
history-push id_of a (f ∷ h) e all one = (all.0, history-push id_of (after a f) h e all.1 one)

pub same_archive : (r : Replayed) (h : List Event) → IsReplayOf r h → archive_of r ≡ replay h
same_archive r h is i = record { bodies = is.bodies i; origins = is.visits i }

pub replay_of-push : (r r' : Replayed) (h : List Event) (e : Event) → IsReplayOf r h → Advances r e r' → (store_end ledger_end : ℕ) → store_end ≡ r.store_end + stored_length e.what → ledger_end ≡ r.ledger_end + (6 + payload_length e.what)
    → IsReplayOf (record r' { store_end = store_end; ledger_end = ledger_end }) (h ++ e ∷ [])
replay_of-push r r' h e is adv store_end ledger_end se le =
    let whole : archive_of r' ≡ replay (h ++ e ∷ []) = adv.archive ∙ ap (λ (a : Archive). after a e) (same_archive r h is) ∙ sym (replay-push empty_archive h e) in
    record {
      bodies = ap (λ (a : Archive). a.bodies) whole;
      visits = ap (λ (a : Archive). a.origins) whole;
      store = let s = is.store in omega (arith, se, s, store_length-push h e);
      ledger = let l = is.ledger in omega (arith, le, l, ledger_length-push h e);
    }

pub ready : (r : Replayed) (h : List Event) (e : Event) (run bytes : List ℕ) → IsToAdd r h e run bytes → IsReady bytes (written r.store_end e).entry
ready r h e run bytes t = record { is = t.bytes_are }

-- after a run of an event's calls the files are settled for the history with it
pub settled-push : (r : Replayed) (h : List Event) (e : Event) (run bytes : List ℕ) (ledger store : File) (m n : ℕ) → IsToAdd r h e run bytes → AreCodable 0 h
    → AreSettled (files_of ledger store) (all_written 0 h ++ written r.store_end e ∷ []) m n → AreSettledFor ledger store (h ++ e ∷ []) m n
settled-push r h e run bytes ledger store m n t all s =
    record {
      settled = subst (λ (es : List format.Append). AreSettled (files_of ledger store) es m n) (sym (written-at h e r.store_end t.store)) s;
      codable = codable-at h e r.store_end t.store all t.codable;
    }

pub images_left : (r : Replayed) (h : List Event) (e : Event) (run bytes : List ℕ) (files : Files) → IsToAdd r h e run bytes → AreCodable 0 h
    → EachImages files (with_or_without_event (all_written 0 h) (written r.store_end e)) → EachImages files (WithOrWithout h e)
images_left r h e run bytes files t all each =
    record {
      has = λ images are. elim (each.has images are) [
        | inl without ↦ inl (record { files = without; codable = all })
        | inr with_it ↦ inr (record {
          files = subst (λ (es : List format.Append). format.FilesStand (images 0) (images 1) es) (sym (written-at h e r.store_end t.store)) with_it;
          codable = codable-at h e r.store_end t.store all t.codable;
        })
      ];
    }

pub store_place : (ledger store : File) (h : List Event) (m n : ℕ) → AreSettledFor ledger store h m n → m ≤ length store.seen
store_place ledger store h m n s = let l = s.settled.store_end_is in omega (arith, l, ap length s.settled.begins, length-append (format.runs (all_written 0 h)) s.settled.rest)

pub ledger_place : (ledger store : File) (h : List Event) (m n : ℕ) → AreSettledFor ledger store h m n → n + 1 ≤ length ledger.seen
ledger_place ledger store h m n s =
    let st = s.settled.ledger.stands in let l = s.settled.ledger.end_is in
    omega (arith, l, ap length st.split, length-append (front (format.records (all_written 0 h))) (st.gate ∷ st.rest))

-- what follows from three facts of one outcome
pub on_all_ok : {T E : Type 0} (r : Result T E) {P Q R S : Type 0} → OnOk r P → OnOk r Q → OnOk r R → (P → Q → R → S) → OnOk r S
on_all_ok (Ok x) p q s f = f p q s
on_all_ok (Err e) p q s f = tt

-- files that are settled with ends, with equal ends
pub settled_at : (files : Files) (es : List format.Append) (m n m' n' : ℕ) → m ≡ m' → n ≡ n' → AreSettled files es m n → AreSettled files es m' n'
settled_at files es m n m' n' a b s = subst (λ (k : ℕ). AreSettled files es k n') a (subst (λ (k : ℕ). AreSettled files es m k) b s)
