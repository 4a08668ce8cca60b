-- What a crash leaves of both files between the device calls of an event.
use Rattle.std.proofs.Common.{◌≡◌, ◌≢◌, inl, inr, ⊎_elim, ℕ, zero, suc, ◌+◌, ◌≤◌, List, [], ◌∷◌, ◌++◌, length, take, drop, Option, Some, None, refl, sym, ◌∙◌, ap, subst, arith, append_assoc, length-append, take-append-drop}
use Rattle.std.proofs.lemmas.List.{take_at, append-nil}
use Rattle.swh_outside.specs.Disk.{File, IsImage, IsAtRest, Call, Write, Sync, done, all_done, patched}
use Rattle.swh_outside.specs.Files.{Files, Images, EachFilesMoment, on, files_done}
use Rattle.swh_outside.proofs.Images.{at_rest_image, at_rest_done, front_stays}
use Rattle.swh_outside.proofs.Numbered.{files_done-on, files_done-append, with_file_here, with_file_other, files_moments_then, moments_on}
use Rattle.swh_format.specs.Record.{Record, Stands, IsReady}
use Rattle.swh_format.specs.Events.{Append, run_bytes, records, runs, FilesStand, IsWritten}
use Rattle.swh_segment.specs.Settled.{IsSettled, BeginsWith, AreSettled, with_or_without_event}
use Rattle.swh_segment.specs.Calls.{append_calls, run_calls, event_calls}
use Rattle.swh_segment.proofs.Appends.{each_moment, appended}

pub records-push : (h : List Append) (e : Append) → records (h ++ e ∷ []) ≡ records h ++ e.entry ∷ []
records-push [] e = refl
records-push (d ∷ h) e = ap (λ (l : List Record). d.entry ∷ l) (records-push h e)

pub runs-push : (h : List Append) (e : Append) (rest : List ℕ) → runs (h ++ e ∷ []) ++ rest ≡ runs h ++ (run_bytes e.run ++ rest)
runs-push [] e rest = ap (λ (l : List ℕ). l ++ rest) (append-nil (run_bytes e.run))
runs-push (d ∷ h) e rest =
    append_assoc (run_bytes d.run) (runs (h ++ e ∷ [])) rest ∙ ap (λ (l : List ℕ). run_bytes d.run ++ l) (runs-push h e rest) ∙ sym (append_assoc (run_bytes d.run) (runs h) (run_bytes e.run ++ rest))

-- the store, at rest, with some bytes up to a place, and a run that is written there
module _ (store : File) (front rest : List ℕ) (at : ℕ) (rests : IsAtRest store) (begins : store.seen ≡ front ++ rest) (size : length front ≡ at) where
  to_place : (more : List ℕ) → take at (front ++ more) ≡ front
  to_place more = take_at front more at size

  abbrev rest_after : List ℕ → List ℕ
  rest_after run = drop (at + length run) store.seen

  written : (run : List ℕ) → patched store.seen at run ≡ front ++ (run ++ rest_after run)
  written run = ap (λ (l : List ℕ). take at l ++ (run ++ rest_after run)) begins ∙ ap (λ (l : List ℕ). l ++ (run ++ rest_after run)) (to_place rest)

  still : (image : List ℕ) → IsImage store image → BeginsWith front image
  still image i = record { rest = rest; is = at_rest_image store image rests i ∙ begins }

  synced : (image : List ℕ) → IsImage (done Sync store) image → BeginsWith front image
  synced image i = record { rest = rest; is = at_rest_image (done Sync store) image (at_rest_done store) i ∙ begins }

  torn : (run image : List ℕ) → IsImage (done (Write at run) store) image → BeginsWith front image
  torn run image i =
      let kept : take at image ≡ front = front_stays store image (front ++ rest) run at rests begins (omega (arith, size, length-append front rest)) i ∙ to_place rest in
      record { rest = drop at image; is = sym (take-append-drop at image) ∙ ap (λ (l : List ℕ). l ++ drop at image) kept }

  laid : (run image : List ℕ) → IsImage (done Sync (done (Write at run) store)) image → BeginsWith front image
  laid run image i = record { rest = run ++ rest_after run; is = at_rest_image (done Sync (done (Write at run) store)) image (at_rest_done (done (Write at run) store)) i ∙ written run }

  -- the front stays at each of its calls
  pub front_of_image : (run : Option (List ℕ)) (m : ℕ) (image : List ℕ) → IsImage (all_done (take m (run_calls at run)) store) image → BeginsWith front image
  front_of_image None zero image i = still image i
  front_of_image None (suc m) image i = still image i
  front_of_image (Some []) zero image i = still image i
  front_of_image (Some []) (suc zero) image i = synced image i
  front_of_image (Some []) (suc (suc m)) image i = synced image i
  front_of_image (Some (b ∷ run)) zero image i = still image i
  front_of_image (Some (b ∷ run)) (suc zero) image i = torn (b ∷ run) image i
  front_of_image (Some (b ∷ run)) (suc (suc zero)) image i = laid (b ∷ run) image i
  front_of_image (Some (b ∷ run)) (suc (suc (suc m))) image i = laid (b ∷ run) image i

  -- and after all of them the run stands after it, with nothing written since a barrier
  pub run_rests : (run : Option (List ℕ)) → IsAtRest (all_done (run_calls at run) store)
  run_rests None = rests
  run_rests (Some []) = at_rest_done store
  run_rests (Some (b ∷ run)) = at_rest_done (done (Write at (b ∷ run)) store)

  pub run_stands : (run : Option (List ℕ)) → BeginsWith (front ++ run_bytes run) (all_done (run_calls at run) store).seen
  run_stands None = record { rest = rest; is = begins ∙ ap (λ (l : List ℕ). l ++ rest) (sym (append-nil front)) }
  run_stands (Some []) = record { rest = rest; is = begins ∙ ap (λ (l : List ℕ). l ++ rest) (sym (append-nil front)) }
  run_stands (Some (b ∷ run)) = record { rest = rest_after (b ∷ run); is = written (b ∷ run) ∙ sym (append_assoc front (b ∷ run) (rest_after (b ∷ run))) }

without : (h : List Append) (e : Append) (images : Images) → Stands (images 0) (records h) → BeginsWith (runs h) (images 1) → with_or_without_event h e images
without h e images stands begins = inl (record { ledger_stands = stands; rest = begins.rest; store_begins = begins.is })

with : (h : List Append) (e : Append) (images : Images) → Stands (images 0) (records h ++ e.entry ∷ []) → BeginsWith (runs h ++ run_bytes e.run) (images 1) → FilesStand (images 0) (images 1) (h ++ e ∷ [])
with h e images stands begins = record {
  ledger_stands = subst (Stands (images 0)) (sym (records-push h e)) stands;
  rest = begins.rest;
  store_begins = begins.is ∙ append_assoc (runs h) (run_bytes e.run) begins.rest ∙ sym (runs-push h e begins.rest);
}

module _ (files : Files) (h : List Append) (e : Append) (store_end end : ℕ) (settled : AreSettled files h store_end end) where
  abbrev store_plan : List Call
  store_plan = run_calls store_end e.run

  abbrev mid : Files
  mid = files_done (on 1 store_plan) files

  other : ◌≢◌ {A = ℕ} 0 1
  other same = absurd (omega (arith, same))

  mid_ledger : mid 0 ≡ files 0
  mid_ledger = ap (λ (f : Files). f 0) (files_done-on 1 store_plan files) ∙ with_file_other 1 (all_done store_plan (files 1)) files 0 other

  mid_store : mid 1 ≡ all_done store_plan (files 1)
  mid_store = ap (λ (f : Files). f 1) (files_done-on 1 store_plan files) ∙ with_file_here 1 (all_done store_plan (files 1)) files

  -- while the run is written, after the runs of the history
  first : EachFilesMoment (on 1 store_plan) files (with_or_without_event h e)
  first = moments_on 1 store_plan files (with_or_without_event h e) (λ images others m i.
      let stands : Stands (images 0) (records h) = subst (λ (l : List ℕ). Stands l (records h)) (sym (at_rest_image (files 0) (images 0) settled.ledger.rests (others 0 other))) settled.ledger.stands in
      without h e images stands (front_of_image (files 1) (runs h) settled.rest store_end settled.store settled.begins settled.store_end_is e.run m (images 1) i))

  mid_settled : IsSettled (mid 0) (records h) end
  mid_settled = subst (λ (f : File). IsSettled f (records h) end) (sym mid_ledger) settled.ledger

  -- the store then has the run, and keeps it
  mid_begins : (image : List ℕ) → IsImage (mid 1) image → BeginsWith (runs h ++ run_bytes e.run) image
  mid_begins image i =
      let i' = subst (λ (f : File). IsImage f image) mid_store i in
      let stands = run_stands (files 1) (runs h) settled.rest store_end settled.store settled.begins settled.store_end_is e.run in
      let rests = run_rests (files 1) (runs h) settled.rest store_end settled.store settled.begins settled.store_end_is e.run in
      record { rest = stands.rest; is = at_rest_image (all_done store_plan (files 1)) image rests i' ∙ stands.is }

  shorter : (image : List ℕ) → BeginsWith (runs h ++ run_bytes e.run) image → BeginsWith (runs h) image
  shorter image begins = record { rest = run_bytes e.run ++ begins.rest; is = begins.is ∙ append_assoc (runs h) (run_bytes e.run) begins.rest }

  apart : ◌≢◌ {A = ℕ} 1 0
  apart same = absurd (omega (arith, same))

  -- while the record is written, with the run on the disk
  second : (bytes : List ℕ) → IsReady bytes e.entry → EachFilesMoment (on 0 (append_calls end bytes)) mid (with_or_without_event h e)
  second bytes ready = moments_on 0 (append_calls end bytes) mid (with_or_without_event h e) (λ images others m i.
      let begins = mid_begins (images 1) (others 1 apart) in
      let each = each_moment (mid 0) (records h) e.entry end mid_settled bytes ready in
      ⊎_elim
      (λ stands. without h e images stands (shorter (images 1) begins))
      (λ stands. inr (with h e images stands begins))
      ((each.has m).has (images 0) i))

  -- a crash between two calls, or in one, leaves the history with the new event or without
  pub event_moments : (bytes : List ℕ) → IsReady bytes e.entry → EachFilesMoment (event_calls store_end e.run end bytes) files (with_or_without_event h e)
  event_moments bytes ready = files_moments_then (on 1 store_plan) (on 0 (append_calls end bytes)) files (with_or_without_event h e) first (second bytes ready)

  -- and after all of them both files stand for the history with it
  pub event_settled : (bytes : List ℕ) → IsReady bytes e.entry → AreSettled (files_done (event_calls store_end e.run end bytes) files) (h ++ e ∷ []) (store_end + length (run_bytes e.run)) (end + length bytes)
  event_settled bytes ready =
      let plan = append_calls end bytes in
      let there = files_done-append (on 1 store_plan) (on 0 plan) files ∙ files_done-on 0 plan mid in
      let ledger_is = ap (λ (f : Files). f 0) there ∙ with_file_here 0 (all_done plan (mid 0)) mid in
      let store_is = ap (λ (f : Files). f 1) there ∙ with_file_other 0 (all_done plan (mid 0)) mid 1 apart ∙ mid_store in
      let stands = run_stands (files 1) (runs h) settled.rest store_end settled.store settled.begins settled.store_end_is e.run in
      let rests = run_rests (files 1) (runs h) settled.rest store_end settled.store settled.begins settled.store_end_is e.run in
      let new = appended (mid 0) (records h) e.entry end mid_settled bytes (all_done plan (mid 0)) ready refl in
      record {
        ledger = subst (λ (f : File). IsSettled f (records (h ++ e ∷ [])) (end + length bytes)) (sym ledger_is) (subst (λ (rs : List Record). IsSettled (all_done plan (mid 0)) rs (end + length bytes)) (sym (records-push h e)) new);
        store = subst IsAtRest (sym store_is) rests;
        rest = stands.rest;
        begins = ap (λ (f : File). f.seen) store_is ∙ stands.is ∙ append_assoc (runs h) (run_bytes e.run) stands.rest ∙ sym (runs-push h e stands.rest);
        store_end_is = omega (arith, ap length (runs-push h e []), length-append (runs (h ++ e ∷ [])) [], length-append (runs h) (run_bytes e.run ++ []), length-append (run_bytes e.run) [], settled.store_end_is);
      }

-- both laws at what is written
pub written_moments : (files : Files) (h : List Append) (e : Append) (store_end end : ℕ) (run : Option (List ℕ)) (bytes : List ℕ) → AreSettled files h store_end end → IsWritten run bytes e
    → EachFilesMoment (event_calls store_end run end bytes) files (with_or_without_event h e)
written_moments files h e store_end end run bytes settled written =
    subst (λ (r : Option (List ℕ)). EachFilesMoment (event_calls store_end r end bytes) files (with_or_without_event h e)) (sym written.run_is) (event_moments files h e store_end end settled bytes written.entry)

pub written_settled : (files new : Files) (h : List Append) (e : Append) (store_end end : ℕ) (run : Option (List ℕ)) (bytes : List ℕ) → AreSettled files h store_end end → IsWritten run bytes e
    → new ≡ files_done (event_calls store_end run end bytes) files → AreSettled new (h ++ e ∷ []) (store_end + length (run_bytes run)) (end + length bytes)
written_settled files new h e store_end end run bytes settled written is =
    subst (λ (f : Files). AreSettled f (h ++ e ∷ []) (store_end + length (run_bytes run)) (end + length bytes)) (sym is)
    (subst (λ (r : Option (List ℕ)). AreSettled (files_done (event_calls store_end r end bytes) files) (h ++ e ∷ []) (store_end + length (run_bytes r)) (end + length bytes)) (sym written.run_is)
    (event_settled files h e store_end end settled bytes written.entry))
