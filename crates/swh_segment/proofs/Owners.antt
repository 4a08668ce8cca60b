-- What the calls of a record and of a run leave of the file of their owner.
use Rattle.std.proofs.Common.{◌≡◌, ℕ, ◌+◌, ◌≤◌, List, [], ◌∷◌, ◌++◌, length, take, drop, Some, refl, sym, subst, arith, length-append, length-drop}
use Rattle.std.proofs.lemmas.List.{length-take}
use Rattle.swh_outside.specs.Disk.{File, EachMoment, Call, Write, Sync, Breaks, done, all_done, patched}
use Rattle.swh_segment.specs.Calls.{run_calls}
use Rattle.swh_outside.specs.Files.{Files, files_done}
use Rattle.swh_segment.specs.Making.{IsNotMade, IsEmptyArchive, making_calls}
use Rattle.swh_segment.specs.Settled.{BeginsWith, AreRunsSettled, AreSettled}
use Rattle.swh_segment.proofs.Crash.{made_empty}
use Rattle.swh_segment.proofs.EventsCrash.{front_of_image, run_rests, run_stands}

-- no call leaves a file shorter
patched_longer : (old bytes : List ℕ) (at : ℕ) → length old ≤ length (patched old at bytes)
patched_longer old bytes at = omega (arith, length-append (take at old) (bytes ++ drop (at + length bytes) old), length-append bytes (drop (at + length bytes) old), length-take at old, length-drop (at + length bytes) old)

done_longer : (call : Call) (file : File) → length file.seen ≤ length (done call file).seen
done_longer (Write at bytes) file = patched_longer file.seen bytes at
done_longer Sync file = omega arith

all_done_longer : (plan : List Call) (file : File) → length file.seen ≤ length (all_done plan file).seen
all_done_longer [] file = omega arith
all_done_longer (call ∷ plan) file = omega (arith, done_longer call file, all_done_longer plan (done call file))

pub broken_longer : (plan : List Call) (old new : File) → Breaks plan old new → length old.seen ≤ length new.seen
broken_longer plan old new breaks = omega (arith, all_done_longer breaks.before old, breaks.broken.no_shorter)

-- what stands before a run stays at each of its calls, and the run stands behind it after all of them
pub run_moments : (store : File) (before : List ℕ) (at : ℕ) (run : List ℕ) → AreRunsSettled store before at → EachMoment (run_calls at (Some run)) store (BeginsWith before)
run_moments store before at run settled = record { has = λ n. record { has = λ image i. front_of_image store before settled.begins.rest at settled.rests settled.begins.is settled.end_is (Some run) n image i } }

pub run_settled : (store new : File) (before : List ℕ) (at : ℕ) (run : List ℕ) → AreRunsSettled store before at → new ≡ all_done (run_calls at (Some run)) store → AreRunsSettled new (before ++ run) (at + length run)
run_settled store new before at run settled is =
    let there : AreRunsSettled (all_done (run_calls at (Some run)) store) (before ++ run) (at + length run) = record {
      rests = run_rests store before settled.begins.rest at settled.rests settled.begins.is settled.end_is (Some run);
      begins = run_stands store before settled.begins.rest at settled.rests settled.begins.is settled.end_is (Some run);
      end_is = omega (arith, length-append before run, settled.end_is);
    } in
    subst (λ (f : File). AreRunsSettled f (before ++ run) (at + length run)) (sym is) there

pub made_both : (old new : Files) → IsNotMade (old 0).seen → new ≡ files_done (making_calls (old 0).seen) old → IsEmptyArchive new
made_both old new not_made is = subst IsEmptyArchive (sym is) (made_empty old not_made)

-- an archive of no record is settled for no event
pub empty_settled : (files : Files) → IsEmptyArchive files → AreSettled files [] 0 8
empty_settled files empty = record { ledger = empty.ledger; store = empty.store; rest = (files 1).seen; begins = refl; store_end_is = refl }
