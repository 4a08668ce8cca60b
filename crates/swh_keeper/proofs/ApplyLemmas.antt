-- A planned event may be added.
use Rattle.std.proofs.Common.{ap, ◌≡◌, ℕ, Some, None, Ok, List, [], ◌∷◌, ◌++◌, sym, subst, arith, ◌+◌, ◌∙◌}
use Rattle.swh_outside.specs.Disk.{File}
use Rattle.swh_outside.specs.Files.{EachImages, files_of}
use Rattle.swh_segment.specs.Settled.{AreSettled}
use Rattle.swh_base.specs.declared.kind.Kind.{Kind}
use Rattle.swh_model.specs.declared.event.Event.{Event}
use Rattle.swh_model.specs.declared.event.Wish.{Wish}
use Rattle.swh_model.specs.declared.event.Outcome.{Outcome}
use Rattle.swh_model.specs.Entries.{entries_of}
use Rattle.swh_model.specs.Archive.{Archive, Bodies, empty_archive}
use Rattle.swh_model.specs.Step.{May, MayAll, AreNew, replay}
use Rattle.swh_model.specs.Happens.{HasItsVisit}
use Rattle.swh_model.specs.Judge.{IsVerdict, IsWish}
use Rattle.swh_model.proofs.Verdicts.{wish_may}
use Rattle.swh_model.proofs.PlainSteps.{may_can, may_good, may_new, can_there}
use Rattle.swh_replay.specs.declared.replayed.Replayed.{Replayed}
use Rattle.swh_replay.specs.Replay.{IsReplayOf, IsInFiles, MayAdvance}
use Rattle.swh_keeper.specs.Keeping.{AreSettledFor, HaveEnds, IsKeeping}
use Rattle.swh_segment.specs.Standing.{WithOrWithout}
use Rattle.swh_format.specs.EventRecord.{run_written, coded_record}
use Rattle.swh_segment.specs.Calls.{calls_for, event_calls}
use Rattle.swh_model.specs.Limits.{store_length, records_length}
use Rattle.swh_keeper.proofs.KeptLemmas.{history-push, same_archive}

pub may_of_plan : (id_of : Kind → List ℕ → List ℕ) (h : List Event) (by : ℕ) (wish : Wish) (e : Event) (o : Outcome) → IsWish id_of wish → IsVerdict h by wish (Ok (e, o)) → May id_of (replay h) e
may_of_plan id_of h by wish e o good verdict = subst (λ (x : Event). May id_of (replay h) x) (sym verdict.1) (wish_may id_of h by wish good verdict.0)

pub may_advance : (id_of : Kind → List ℕ → List ℕ) (r : Replayed) (h : List Event) (e : Event) → IsReplayOf r h → May id_of (replay h) e → MayAdvance r e.what
may_advance id_of r h e is may =
    let there = can_there (replay h) e (may_can id_of (replay h) e may) in record {
      good = may_good id_of (replay h) e may;
      new = subst (λ (b : Bodies). AreNew b (entries_of e.what)) (sym is.bodies) (may_new id_of (replay h) e may);
      there = subst (λ (a : Archive). HasItsVisit a e) (sym (same_archive r h is)) there;
    }

-- the keeper once the event was added
pub keeping-push : (id_of : Kind → List ℕ → List ℕ) (tells : Type 0) (ledger store : File) (r : Replayed) (h h' : List Event) (e : Event) → MayAll id_of empty_archive h → May id_of (replay h) e → h' ≡ h ++ e ∷ []
    → IsReplayOf r (h ++ e ∷ []) → IsInFiles r → (tells → AreSettledFor ledger store (h ++ e ∷ []) r.store_end r.ledger_end) → IsKeeping id_of tells ledger store r h' None
keeping-push id_of tells ledger store r h h' e history may added_behind is fits settled =
    subst (λ (l : List Event). IsKeeping id_of tells ledger store r l None) (sym added_behind)
    (record {
      history = history-push id_of empty_archive h e history may;
      in_files = fits;
      replayed_is = λ _. is;
      settled = λ _ told. settled told;
      doubt = λ n is_some. absurd (let f : None ≡ Some n = is_some in cc);
    })

-- the keeper once a disk failed
pub keeping-doubt : (id_of : Kind → List ℕ → List ℕ) (tells : Type 0) (ledger store : File) (r r' : Replayed) (h h' : List Event) (e : Event) (n : ℕ) → MayAll id_of empty_archive h → May id_of (replay h) e → h' ≡ h
    → IsInFiles r → r'.store_end ≡ r.store_end → r'.ledger_end ≡ r.ledger_end → (tells → EachImages (files_of ledger store) (WithOrWithout h e)) → IsKeeping id_of tells ledger store r' h' (Some n)
keeping-doubt id_of tells ledger store r r' h h' e n history may same fits se le left =
    subst (λ (l : List Event). IsKeeping id_of tells ledger store r' l (Some n)) (sym same)
    (record {
      history = history;
      in_files = record { store_fits = let f = fits.store_fits in omega (arith, f, se); ledger_fits = let f = fits.ledger_fits in omega (arith, f, le) };
      replayed_is = λ none. absurd (let f : Some n ≡ None = none in cc);
      settled = λ none told. absurd (let f : Some n ≡ None = none in cc);
      doubt = λ m is told. record { event = e; may = may; each = left told };
    })

-- the keeper of an archive with no event
pub keeping-empty : (id_of : Kind → List ℕ → List ℕ) (tells : Type 0) (ledger store : File) (r : Replayed) (h : List Event) → h ≡ [] → IsReplayOf r [] → IsInFiles r
    → (tells → AreSettled (files_of ledger store) [] r.store_end r.ledger_end) → IsKeeping id_of tells ledger store r h None
keeping-empty id_of tells ledger store r h none is fits settled =
    subst (λ (l : List Event). IsKeeping id_of tells ledger store r l None) (sym none)
    (record {
      history = tt;
      in_files = fits;
      replayed_is = λ _. is;
      settled = λ _ told. record { settled = settled told; codable = tt };
      doubt = λ n is_some. absurd (let f : None ≡ Some n = is_some in cc);
    })

-- which are at their beginnings
pub beginnings : (r : Replayed) (store_end ledger_end : ℕ) → IsReplayOf r [] → store_end ≡ 0 → ledger_end ≡ 8 → HaveEnds store_end ledger_end r
beginnings r store_end ledger_end is se le = let s = is.store in let l = is.ledger in record { store = omega (arith, s, se); ledger = omega (arith, l, le) }

pub calls_are : (r : Replayed) (h : List Event) (e : Event) (bytes : List ℕ) → IsReplayOf r h → bytes ≡ coded_record r.store_end e ++ 0 ∷ []
    → event_calls r.store_end (run_written e.what) r.ledger_end bytes ≡ calls_for h e
calls_are r h e bytes is bytes_are =
    let s = is.store in
    let l : r.ledger_end ≡ 8 + records_length h = let m = is.ledger in omega (arith, m) in
    let b : bytes ≡ coded_record (store_length h) e ++ 0 ∷ [] = bytes_are ∙ ap (λ (n : ℕ). coded_record n e ++ 0 ∷ []) s in
    λ i. event_calls (s i) (run_written e.what) (l i) (b i)
