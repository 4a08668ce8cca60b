-- Runs of lists of calls.
use Rattle.std.proofs.Common.{◌≡◌, inl, inr, ⊎_elim, ℕ, List, [], ◌∷◌, ◌++◌, length, take, refl, sym, ◌∙◌, ap, subst, arith, append_assoc, Result, Ok, Err, OnErr, IsErr}
use Rattle.std.specs.Prelude.{⊤}
use Rattle.std.proofs.lemmas.Result.{IfOk-from_err, MatchResult-from_err}
use Rattle.std.proofs.lemmas.List.{take_at}
use Rattle.swh_outside.specs.Disk.{File, IsImage, EachImage, Call, Write, Sync, begun, done, all_done, IsFailedCall, Breaks, Runs, EachMoment}
use Rattle.swh_outside.proofs.Images.{broken_image, begun_image, recast}

pub all_done-append : (plan more : List Call) (file : File) → all_done (plan ++ more) file ≡ all_done more (all_done plan file)
all_done-append [] more file = refl
all_done-append (call ∷ plan) more file = all_done-append plan more (done call file)

-- a plan that breaks breaks every longer one
pub stops : (plan more : List Call) (old new : File) → Breaks plan old new → Breaks (plan ++ more) old new
stops plan more old new breaks = record {
  before = breaks.before;
  call = breaks.call;
  after = breaks.after ++ more;
  is = ap (λ (l : List Call). l ++ more) breaks.is ∙ append_assoc breaks.before (breaks.call ∷ breaks.after) more;
  broken = breaks.broken;
}

-- and one that breaks after another was done
pub goes_on : (plan more : List Call) (old mid new : File) → mid ≡ all_done plan old → Breaks more mid new → Breaks (plan ++ more) old new
goes_on plan more old mid new done_so_far breaks = record {
  before = plan ++ breaks.before;
  call = breaks.call;
  after = breaks.after;
  is = ap (λ (l : List Call). plan ++ l) breaks.is ∙ sym (append_assoc plan breaks.before (breaks.call ∷ breaks.after));
  broken = subst (λ (f : File). IsFailedCall breaks.call f new) (ap (all_done breaks.before) done_so_far ∙ sym (all_done-append plan breaks.before old)) breaks.broken;
}

-- a file that a run left in the middle of its plan has what each moment of it has
pub left_by : (plan : List Call) (old new : File) (P : List ℕ → Type 0) → EachMoment plan old P → Breaks plan old new → EachImage new P
left_by plan old new P each breaks = record {
  has = λ image i. ⊎_elim
      (λ within.
      let n = length (breaks.before ++ breaks.call ∷ []) in
      let first : take n plan ≡ breaks.before ++ breaks.call ∷ [] =
      ap (λ (l : List Call). take n l) (breaks.is ∙ sym (append_assoc breaks.before (breaks.call ∷ []) breaks.after)) ∙ take_at (breaks.before ++ breaks.call ∷ []) breaks.after n refl in
      (each.has n).has image (subst (λ (f : File). IsImage f image) (sym (ap (λ (l : List Call). all_done l old) first ∙ all_done-append breaks.before (breaks.call ∷ []) old)) within))
      (λ before.
      let n = length breaks.before in
      let first : take n plan ≡ breaks.before = ap (λ (l : List Call). take n l) breaks.is ∙ take_at breaks.before (breaks.call ∷ breaks.after) n refl in
      (each.has n).has image (subst (λ (f : File). IsImage f image) (sym (ap (λ (l : List Call). all_done l old) first)) before))
      (broken_image breaks.call (all_done breaks.before old) new image breaks.broken i);
}

-- a call that gave an `Err` once a part of its plan had failed
pub stopped : {T E : Type 0} (plan : List Call) (old new : File) (result : Result T E) → IsErr result → Breaks plan old new → Runs plan old new result
stopped plan old new result is_err breaks = record {
  ok = IfOk-from_err result (λ _. new ≡ all_done plan old) is_err;
  err = MatchResult-from_err result (λ _. ⊤) (λ _. Breaks plan old new) is_err (λ _. breaks);
}

pub on_err : {T E : Type 0} (P : Type 0) (result : Result T E) → IsErr result → P → OnErr result P
on_err P result is_err p = MatchResult-from_err result (λ _. ⊤) (λ _. P) is_err (λ _. p)

-- a lone call that failed
pub fails : (call : Call) (old new : File) → IsFailedCall call old new → Breaks (call ∷ []) old new
fails call old new broken = record { before = []; call = call; after = []; is = refl; broken = broken }

-- it may not have begun
pub not_begun : (call : Call) (old new : File) → IsImage old old.seen → new ≡ old → IsFailedCall call old new
not_begun call old new i same = subst (λ (f : File). IsFailedCall call old f) (sym same)
    (record { images = λ image j. begun_image call old image j; calls = inl refl; seen = i; no_shorter = omega arith })

-- or have begun, with nothing to be read of it
pub just_begun : (call : Call) (old new : File) → IsImage old old.seen → new ≡ begun call old → IsFailedCall call old new
just_begun (Write at bytes) old new i same = subst (λ (f : File). IsFailedCall (Write at bytes) old f) (sym same)
    (record { images = λ image j. j; calls = inr refl; seen = recast _ _ _ refl refl refl (begun_image (Write at bytes) old old.seen i); no_shorter = omega arith })
just_begun Sync old new i same = subst (λ (f : File). IsFailedCall Sync old f) (sym same)
    (record { images = λ image j. j; calls = inr refl; seen = recast _ _ _ refl refl refl (begun_image Sync old old.seen i); no_shorter = omega arith })

-- one run after another
pub runs_then : {T E : Type 0} (plan more : List Call) (old mid new : File) (result : Result T E) → mid ≡ all_done plan old → Runs more mid new result → Runs (plan ++ more) old new result
runs_then plan more old mid new (Ok x) so_far runs = record { ok = runs.ok ∙ ap (all_done more) so_far ∙ sym (all_done-append plan more old); err = tt }
runs_then plan more old mid new (Err e) so_far runs = record { ok = tt; err = goes_on plan more old mid new so_far runs.err }
