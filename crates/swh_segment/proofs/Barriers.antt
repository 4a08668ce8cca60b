-- What a read gives once a barrier was tried.
use Rattle.std.proofs.Common.{◌≡◌, ℕ, Bool, true, false, cond, ◌==◌, List, [], ◌∷◌, ◌++◌, length, length-append, refl, sym, ap, subst, arith, Result, Ok, Err}
use Rattle.swh_outside.specs.Disk.{File, Call, Sync, IsImage, IsAtRest, IsFailedCall, Runs, begun, done, all_done}
use Rattle.swh_outside.specs.Files.{AreImages, absent, files_of}
use Rattle.swh_outside.proofs.Images.{recast, at_rest_done}
use Rattle.swh_segment.specs.Settled.{AreAtRest, seen_of}

one_call : (before after : List Call) (call : Call) (old new : File) → Sync ∷ [] ≡ before ++ call ∷ after → IsFailedCall call (all_done before old) new → IsFailedCall Sync old new
one_call [] after call old new is broken = let same : Sync ≡ call = cc in subst (λ (c : Call). IsFailedCall c old new) (sym same) broken
one_call (b ∷ before) after call old new is broken = absurd (omega (arith, ap length is, length-append before (call ∷ after)))

-- it is one of the images that a crash before might have left, also where the barrier failed
pub sync_seen : {T E : Type 0} (old new : File) (result : Result T E) → IsImage old old.seen → Runs (Sync ∷ []) old new result → IsImage old new.seen
sync_seen old new (Ok x) was runs = subst (λ (image : List ℕ). IsImage old image) (sym (ap (λ (f : File). f.seen) runs.ok)) was
sync_seen old new (Err e) was runs =
    let broken = one_call runs.err.before runs.err.after runs.err.call old new runs.err.is runs.err.broken in
    recast old (begun Sync old) new.seen refl refl refl (broken.images new.seen broken.seen)

absent_image : IsImage absent []
absent_image = record { stays = λ k h out. refl; no_shorter = omega arith; no_longer = omega arith }

pub both_images : (ledger store ledger_now store_now : File) → IsImage ledger ledger_now.seen → IsImage store store_now.seen → AreImages (files_of ledger store) (seen_of (files_of ledger_now store_now))
both_images ledger store ledger_now store_now of_ledger of_store = record { each = λ k. at (k == 0) (k == 1) }
  where
    at : (a b : Bool) → IsImage (cond a ledger (cond b store absent)) (cond a ledger_now (cond b store_now absent)).seen
    at true b = of_ledger
    at false true = of_store
    at false false = absent_image

pub synced_rests : (old new : File) → new ≡ done Sync old → IsAtRest new
synced_rests old new is = subst IsAtRest (sym is) (at_rest_done old)

pub both_rest : (ledger store : File) → IsAtRest ledger → IsAtRest store → AreAtRest (files_of ledger store)
both_rest ledger store of_ledger of_store = record { ledger = of_ledger; store = of_store }
