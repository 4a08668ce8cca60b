-- Runs of calls on numbered files.
use Rattle.std.proofs.Common.{◌≡◌, ◌≢◌, ◌==◌, ◌⊎◌, inl, inr, ⊎_elim, ℕ, zero, suc, ◌-◌, ◌<◌, ◌≤◌, Bool, true, false, cond, List, [], ◌∷◌, ◌++◌, length, take, refl, sym, ◌∙◌, ap, subst, arith, append_assoc, Result, Ok, Err, IsErr}
use Rattle.std.specs.Prelude.{⊤}
use Rattle.std.specs.List.{take-map}
use Rattle.std.proofs.lemmas.Bool.{cases_eq, cases_lt, ne_eqb}
use Rattle.std.proofs.lemmas.Bool.Decides.{eqb_tells}
use Rattle.std.proofs.lemmas.List.{take_at, take-append-le, map-append, append-nil}
use Rattle.std.proofs.lemmas.Result.{IfOk-from_err, MatchResult-from_err}
use Rattle.swh_outside.specs.Disk.{File, Call, IsImage, IsFailedCall, Breaks, Runs, done, all_done}
use Rattle.swh_outside.specs.Files.{Files, FileCall, on, with_file, absent, files_of, file_done, files_done, IsFileBroken, FilesBreaks, FilesRuns, Images, AreImages, EachImages, EachFilesMoment}
use Rattle.swh_outside.proofs.Images.{broken_image}

-- files that are equal at each number are equal
pub files_ext : (f g : Files) → ((k : ℕ) → f k ≡ g k) → f ≡ g
files_ext f g same = λ i k. same k i

pub same_number : (n : ℕ) → (n == n) ≡ true
same_number n = ⊎_elim (λ (yes : ((n == n) ≡ true) × (n ≡ n)). yes.0) (λ (no_ : ((n == n) ≡ false) × (n ≢ n)). absurd (no_.1 refl)) (eqb_tells n n)

pub with_file_here : (n : ℕ) (file : File) (files : Files) → with_file n file files n ≡ file
with_file_here n file files = ap (λ (b : Bool). cond b file (files n)) (same_number n)

pub with_file_other : (n : ℕ) (file : File) (files : Files) (k : ℕ) → k ≢ n → with_file n file files k ≡ files k
with_file_other n file files k other = ap (λ (b : Bool). cond b file (files k)) (ne_eqb k n other)

-- a file under its own number changes nothing
pub with_file_same : (n : ℕ) (file : File) (files : Files) → files n ≡ file → with_file n file files ≡ files
with_file_same n file files is = files_ext _ _ (λ k. ⊎_elim
    (λ (here : k ≡ n). ap (λ (j : ℕ). with_file n file files j) here ∙ with_file_here n file files ∙ sym is ∙ ap files (sym here))
    (λ (other : k ≢ n). with_file_other n file files k other)
    (cases_eq k n))

-- of two files under one number the later counts
pub with_file_twice : (n : ℕ) (file before : File) (files : Files) → with_file n file (with_file n before files) ≡ with_file n file files
with_file_twice n file before files = files_ext _ _ (λ k. at (k == n) (files k))
  where
    at : (b : Bool) (rest : File) → cond b file (cond b before rest) ≡ cond b file rest
    at true rest = refl
    at false rest = refl

-- under two numbers the order does not count
pub with_file_swap : (m n : ℕ) (first second : File) (files : Files) → m ≢ n → with_file m first (with_file n second files) ≡ with_file n second (with_file m first files)
with_file_swap m n first second files apart = files_ext _ _ (λ k. ⊎_elim
    (λ (at_m : k ≡ m).
    let other : k ≢ n = λ at_n. apart (sym at_m ∙ at_n) in
    ap (λ (j : ℕ). with_file m first (with_file n second files) j) at_m ∙ with_file_here m first (with_file n second files)
    ∙ sym (with_file_other n second (with_file m first files) k other ∙ ap (λ (j : ℕ). with_file m first files j) at_m ∙ with_file_here m first files))
    (λ (not_m : k ≢ m). with_file_other m first (with_file n second files) k not_m
    ∙ ap (λ (f : File). cond (k == n) second f) (sym (with_file_other m first files k not_m)))
    (cases_eq k m))

pub files_done-append : (plan more : List FileCall) (files : Files) → files_done (plan ++ more) files ≡ files_done more (files_done plan files)
files_done-append [] more files = refl
files_done-append (call ∷ plan) more files = files_done-append plan more (file_done call files)

-- calls on one file alone
pub files_done-on : (n : ℕ) (plan : List Call) (files : Files) → files_done (on n plan) files ≡ with_file n (all_done plan (files n)) files
files_done-on n [] files = sym (with_file_same n (files n) files refl)
files_done-on n (call ∷ plan) files =
    files_done-on n plan (file_done (n, call) files)
    ∙ ap (λ (f : File). with_file n (all_done plan f) (file_done (n, call) files)) (with_file_here n (done call (files n)) files)
    ∙ with_file_twice n (all_done plan (done call (files n))) (done call (files n)) files

-- a plan that breaks breaks every longer one
pub files_stops : (plan more : List FileCall) (old new : Files) → FilesBreaks plan old new → FilesBreaks (plan ++ more) old new
files_stops plan more old new breaks = record {
  before = breaks.before;
  call = breaks.call;
  after = breaks.after ++ more;
  is = ap (λ (l : List FileCall). l ++ more) breaks.is ∙ append_assoc breaks.before (breaks.call ∷ breaks.after) more;
  broken = breaks.broken;
}

-- and one that breaks after another was done
pub files_goes_on : (plan more : List FileCall) (old mid new : Files) → mid ≡ files_done plan old → FilesBreaks more mid new → FilesBreaks (plan ++ more) old new
files_goes_on plan more old mid new so_far breaks = record {
  before = plan ++ breaks.before;
  call = breaks.call;
  after = breaks.after;
  is = ap (λ (l : List FileCall). plan ++ l) breaks.is ∙ sym (append_assoc plan breaks.before (breaks.call ∷ breaks.after));
  broken = subst (λ (f : Files). IsFileBroken breaks.call f new) (ap (files_done breaks.before) so_far ∙ sym (files_done-append plan breaks.before old)) breaks.broken;
}

-- calls on one file alone that break it
pub breaks_on : (n : ℕ) (plan : List Call) (old new : Files) → Breaks plan (old n) (new n) → ((k : ℕ) → k ≢ n → new k ≡ old k) → FilesBreaks (on n plan) old new
breaks_on n plan old new breaks others =
    let there = files_done-on n breaks.before old in
    record {
      before = on n breaks.before;
      call = (n, breaks.call);
      after = on n breaks.after;
      is = ap (on n) breaks.is ∙ map-append (λ (call : Call). (n, call)) breaks.before (breaks.call ∷ breaks.after);
      broken = record {
        broken = subst (λ (f : File). IsFailedCall breaks.call f (new n)) (sym (ap (λ (f : Files). f n) there ∙ with_file_here n (all_done breaks.before (old n)) old)) breaks.broken;
        others = λ k other. others k other ∙ sym (ap (λ (f : Files). f k) there ∙ with_file_other n (all_done breaks.before (old n)) old k other);
      };
    }

-- a run on one file alone
pub runs_on : {T E : Type 0} (n : ℕ) (plan : List Call) (old new : Files) (result : Result T E) → Runs plan (old n) (new n) result → ((k : ℕ) → k ≢ n → new k ≡ old k) → FilesRuns (on n plan) old new result
runs_on n plan old new (Ok x) runs others = record { ok = files_ext _ _ each; err = tt }
  where
    each : (k : ℕ) → new k ≡ files_done (on n plan) old k
    each k = ⊎_elim
        (λ (here : k ≡ n). ap new here ∙ runs.ok ∙ sym (with_file_here n (all_done plan (old n)) old) ∙ ap (λ (f : Files). f n) (sym (files_done-on n plan old)) ∙ ap (files_done (on n plan) old) (sym here))
        (λ (other : k ≢ n). others k other ∙ sym (with_file_other n (all_done plan (old n)) old k other) ∙ ap (λ (f : Files). f k) (sym (files_done-on n plan old)))
        (cases_eq k n)
runs_on n plan old new (Err e) runs others = record { ok = tt; err = breaks_on n plan old new runs.err others }

-- one run after another
pub files_runs_then : {T E : Type 0} (plan more : List FileCall) (old mid new : Files) (result : Result T E) → mid ≡ files_done plan old → FilesRuns more mid new result → FilesRuns (plan ++ more) old new result
files_runs_then plan more old mid new (Ok x) so_far runs = record { ok = runs.ok ∙ ap (files_done more) so_far ∙ sym (files_done-append plan more old); err = tt }
files_runs_then plan more old mid new (Err e) so_far runs = record { ok = tt; err = files_goes_on plan more old mid new so_far runs.err }

-- a call that gave an `Err` once a part of its plan had failed
pub files_stopped : {T E : Type 0} (plan : List FileCall) (old new : Files) (result : Result T E) → IsErr result → FilesBreaks plan old new → FilesRuns plan old new result
files_stopped plan old new result is_err breaks = record {
  ok = IfOk-from_err result (λ _. new ≡ files_done plan old) is_err;
  err = MatchResult-from_err result (λ _. ⊤) (λ _. FilesBreaks plan old new) is_err (λ _. breaks);
}

pub take_long : {A : Type 0} (xs ys : List A) (n : ℕ) → length xs ≤ n → take n (xs ++ ys) ≡ xs ++ take (n - length xs) ys
take_long [] ys n le = ap (λ (k : ℕ). take k ys) (omega arith)
take_long (x ∷ xs) ys zero le = absurd (omega arith)
take_long (x ∷ xs) ys (suc n) le = ap (λ l. x ∷ l) (take_long xs ys n (omega arith)) ∙ (let same : n - length xs ≡ suc n - suc (length xs) = omega arith in ap (λ (k : ℕ). x ∷ (xs ++ take k ys)) same)

-- one plan and then another
pub files_moments_then : (plan more : List FileCall) (old : Files) (P : Images → Type 0) → EachFilesMoment plan old P → EachFilesMoment more (files_done plan old) P → EachFilesMoment (plan ++ more) old P
files_moments_then plan more old P first second = record {
  has = λ n. ⊎_elim
      (λ (lt : n < length plan).
      let le : n ≤ length plan = omega arith in
      subst (λ (f : Files). EachImages f P) (sym (ap (λ (l : List FileCall). files_done l old) (take-append-le n plan more le))) (first.has n))
      (λ (ge : length plan ≤ n). subst (λ (f : Files). EachImages f P) (sym (ap (λ (l : List FileCall). files_done l old) (take_long plan more n ge) ∙ files_done-append plan (take (n - length plan) more) old)) (second.has (n - length plan)))
      (cases_lt n (length plan));
}

-- the moments of calls on one file, the others at hand
pub moments_on : (n : ℕ) (plan : List Call) (files : Files) (P : Images → Type 0)
    → ((images : Images) → ((k : ℕ) → k ≢ n → IsImage (files k) (images k)) → (m : ℕ) → IsImage (all_done (take m plan) (files n)) (images n) → P images)
    → EachFilesMoment (on n plan) files P
moments_on n plan files P each = record {
  has = λ m. record {
    has = λ images are.
        let there = ap (λ (l : List FileCall). files_done l files) (take-map (λ (call : Call). (n, call)) m plan) ∙ files_done-on n (take m plan) files in
        each images
        (λ k other. subst (λ (f : File). IsImage f (images k)) (ap (λ (f : Files). f k) there ∙ with_file_other n (all_done (take m plan) (files n)) files k other) (are.each k))
        m
        (subst (λ (f : File). IsImage f (images n)) (ap (λ (f : Files). f n) there ∙ with_file_here n (all_done (take m plan) (files n)) files) (are.each n));
  };
}

-- images of the files after a call that failed are images from before it or from after it
files_broken_images : (call : FileCall) (old new : Files) (images : Images) → IsFileBroken call old new → AreImages new images → AreImages (file_done call old) images ⊎ AreImages old images
files_broken_images call old new images broken are =
    let n = call.0 in
    let after = done call.1 (old n) in
    let other : (k : ℕ) → k ≢ n → IsImage (old k) (images k) = λ k apart. subst (λ (f : File). IsImage f (images k)) (broken.others k apart) (are.each k) in
    ⊎_elim
    (λ (within : IsImage after (images n)). inl (record {
      each = λ k. ⊎_elim
          (λ (here : k ≡ n). subst (λ (j : ℕ). IsImage (file_done call old j) (images j)) (sym here) (subst (λ (f : File). IsImage f (images n)) (sym (with_file_here n after old)) within))
          (λ (apart : k ≢ n). subst (λ (f : File). IsImage f (images k)) (sym (with_file_other n after old k apart)) (other k apart))
          (cases_eq k n);
    }))
    (λ (before : IsImage (old n) (images n)). inr (record {
      each = λ k. ⊎_elim
          (λ (here : k ≡ n). subst (λ (j : ℕ). IsImage (old j) (images j)) (sym here) before)
          (λ (apart : k ≢ n). other k apart)
          (cases_eq k n);
    }))
    (broken_image call.1 (old n) (new n) (images n) broken.broken (are.each n))

-- files that a run left in the middle of its plan have what each moment of it has
pub files_left_by : (plan : List FileCall) (old new : Files) (P : Images → Type 0) → EachFilesMoment plan old P → FilesBreaks plan old new → EachImages new P
files_left_by plan old new P each breaks = record {
  has = λ images are. ⊎_elim
      (λ (within : AreImages (file_done breaks.call (files_done breaks.before old)) images).
      let n = length (breaks.before ++ breaks.call ∷ []) in
      let first : take n plan ≡ breaks.before ++ breaks.call ∷ [] =
      ap (λ (l : List FileCall). take n l) (breaks.is ∙ sym (append_assoc breaks.before (breaks.call ∷ []) breaks.after)) ∙ take_at (breaks.before ++ breaks.call ∷ []) breaks.after n refl in
      let there = sym (ap (λ (l : List FileCall). files_done l old) first ∙ files_done-append breaks.before (breaks.call ∷ []) old) in
      (each.has n).has images (subst (λ (f : Files). AreImages f images) there within))
      (λ (before : AreImages (files_done breaks.before old) images).
      let n = length breaks.before in
      let first : take n plan ≡ breaks.before = ap (λ (l : List FileCall). take n l) breaks.is ∙ take_at breaks.before (breaks.call ∷ breaks.after) n refl in
      (each.has n).has images (subst (λ (f : Files). AreImages f images) (sym (ap (λ (l : List FileCall). files_done l old) first)) before))
      (files_broken_images breaks.call (files_done breaks.before old) new images breaks.broken are);
}

whole : (plan : List FileCall) → take (length plan) plan ≡ plan
whole plan = ap (take (length plan)) (sym (append-nil plan)) ∙ take_at plan [] (length plan) refl

-- and so have files after all of it, and before any of it
pub files_left_whole : (plan : List FileCall) (old new : Files) (P : Images → Type 0) → EachFilesMoment plan old P → new ≡ files_done plan old → EachImages new P
files_left_whole plan old new P each is = subst (λ (f : Files). EachImages f P) (ap (λ (l : List FileCall). files_done l old) (whole plan) ∙ sym is) (each.has (length plan))

pub files_left_same : (plan : List FileCall) (old new : Files) (P : Images → Type 0) → EachFilesMoment plan old P → new ≡ old → EachImages new P
files_left_same plan old new P each is = subst (λ (f : Files). EachImages f P) (sym is) (each.has 0)

pub with_ledger : (ledger store now : File) → with_file 0 now (files_of ledger store) ≡ files_of now store
with_ledger ledger store now = with_file_twice 0 now ledger (with_file 1 store (λ k. absent))

pub with_store : (ledger store now : File) → with_file 1 now (files_of ledger store) ≡ files_of ledger now
with_store ledger store now =
    with_file_swap 1 0 now ledger (with_file 1 store (λ k. absent)) (λ e. absurd (omega (arith, e)))
    ∙ ap (with_file 0 ledger) (with_file_twice 1 now store (λ k. absent))

-- calls on the ledger alone, and on the store alone
pub ledger_done : (plan : List Call) (ledger store : File) → files_done (on 0 plan) (files_of ledger store) ≡ files_of (all_done plan ledger) store
ledger_done plan ledger store = files_done-on 0 plan (files_of ledger store) ∙ with_ledger ledger store (all_done plan ledger)

pub store_done : (plan : List Call) (ledger store : File) → files_done (on 1 plan) (files_of ledger store) ≡ files_of ledger (all_done plan store)
store_done plan ledger store = files_done-on 1 plan (files_of ledger store) ∙ with_store ledger store (all_done plan store)

-- a run on the ledger alone, and one on the store alone
pub ledger_runs : {T E : Type 0} (plan : List Call) (old new store : File) (result : Result T E) → Runs plan old new result → FilesRuns (on 0 plan) (files_of old store) (files_of new store) result
ledger_runs plan old new store result runs = runs_on 0 plan (files_of old store) (files_of new store) result runs
    (λ k other. with_file_other 0 new (with_file 1 store (λ j. absent)) k other ∙ sym (with_file_other 0 old (with_file 1 store (λ j. absent)) k other))

-- calls on the ledger alone that break it, and on the store alone
pub ledger_breaks : (plan : List Call) (old new store : File) → Breaks plan old new → FilesBreaks (on 0 plan) (files_of old store) (files_of new store)
ledger_breaks plan old new store breaks = breaks_on 0 plan (files_of old store) (files_of new store) breaks
    (λ k other. with_file_other 0 new (with_file 1 store (λ j. absent)) k other ∙ sym (with_file_other 0 old (with_file 1 store (λ j. absent)) k other))

pub store_breaks : (plan : List Call) (old new ledger : File) → Breaks plan old new → FilesBreaks (on 1 plan) (files_of ledger old) (files_of ledger new)
store_breaks plan old new ledger breaks = breaks_on 1 plan (files_of ledger old) (files_of ledger new) breaks
    (λ k other. ap (λ (f : File). cond (k == 0) ledger f) (with_file_other 1 new (λ j. absent) k other ∙ sym (with_file_other 1 old (λ j. absent) k other)))
