-- A text that is put in two pieces.
use Rattle.std.proofs.Common.{◌≡◌, ℕ, zero, suc, ◌+◌, List, [], ◌∷◌, ◌++◌, length, take, Bool, refl, sym, ap, ◌∙◌, subst, Result, Ok, Err}
use Rattle.std.specs.Prelude.{IfErr, IfOk}
use Rattle.std.proofs.lemmas.List.{append_assoc}
use Rattle.std.proofs.Math.Seq.{take-append-add}
use Rattle.swh_outside.specs.Sink.{TakesSome}
use Rattle.swh_serve.specs.declared.fault.PutFault.{PutFault}
use Rattle.swh_serve.specs.declared.fault.PutFault.TheVariants.{Write, Memory}
use Rattle.swh_serve.specs.Causes.{IsPutCause}
use Rattle.swh_serve.specs.Puts.{IsTextPut, IsKept}

first_bytes : (a b : List ℕ) (n : ℕ) → (m : ℕ) × (take m (a ++ b) ≡ take n a)
first_bytes [] b zero = (0, refl)
first_bytes [] b (suc n) = (0, refl)
first_bytes (x ∷ a) b zero = (0, refl)
first_bytes (x ∷ a) b (suc n) = let f = first_bytes a b n in (suc f.0, ap (λ (l : List ℕ). x ∷ l) f.1)

-- some first bytes of the first piece are some of both
pub first-some : (before a b now : List ℕ) → TakesSome before a now → TakesSome before (a ++ b) now
first-some before a b now some =
    let f = first_bytes a b some.count in
    record { count = f.0; is = some.is ∙ ap (λ (l : List ℕ). before ++ l) (sym f.1) }

-- the first piece, and some first bytes of the second
pub second-some : (before a b middle now : List ℕ) → middle ≡ before ++ a → TakesSome middle b now → TakesSome before (a ++ b) now
second-some before a b middle now first some =
    record {
      count = length a + some.count;
      is = some.is ∙ ap (λ (l : List ℕ). l ++ take some.count b) first ∙ append_assoc before a (take some.count b)
          ∙ ap (λ (l : List ℕ). before ++ l) (sym (take-append-add a b some.count));
    }

-- a piece was put, and another behind it, or some of it
pub put-both : {T : Type 0} (before a b middle now : List ℕ) (result : Result T PutFault) → middle ≡ before ++ a
    → IfErr result (λ fault. fault ≡ Write) → IsTextPut middle b now result → IsTextPut before (a ++ b) now result
put-both before a b middle now (Ok x) first only put = put ∙ ap (λ (l : List ℕ). l ++ b) first ∙ append_assoc before a b
put-both before a b middle now (Err Write) first only put = second-some before a b middle now first put
put-both before a b middle now (Err Memory) first only put = cc only

-- only some of the first piece was put, or nothing
pub put-first : (T U : Type 0) (before a b now : List ℕ) (fault : PutFault) → IsTextPut {T = T} before a now (Err fault)
    → IsTextPut {T = U} before (a ++ b) now (Err fault)
put-first T U before a b now Write put = first-some before a b now put
put-first T U before a b now Memory put = put

-- what was put is told along with whether the connection is kept
pub kept_text : {T : Type 0} (before text now : List ℕ) (put : Result T PutFault) (keep : Bool) (result : Result Bool PutFault)
    → IsKept put keep result → IsTextPut before text now put → IsTextPut before text now result
kept_text before text now (Ok x) keep result is whole =
    let P : Result Bool PutFault → Type 0 = λ r. IsTextPut before text now r in subst P (sym is) whole
kept_text before text now (Err Write) keep result is some =
    let P : Result Bool PutFault → Type 0 = λ r. IsTextPut before text now r in subst P (sym is) some
kept_text before text now (Err Memory) keep result is none =
    let P : Result Bool PutFault → Type 0 = λ r. IsTextPut before text now r in subst P (sym is) none

pub kept_cause : {T : Type 0} (before now : ℕ) (put : Result T PutFault) (keep : Bool) (result : Result Bool PutFault)
    → IsKept put keep result → IsPutCause before now put → IsPutCause before now result
kept_cause before now (Ok x) keep result is cause =
    let P : Result Bool PutFault → Type 0 = λ r. IsPutCause before now r in subst P (sym is) cause
kept_cause before now (Err Write) keep result is cause =
    let P : Result Bool PutFault → Type 0 = λ r. IsPutCause before now r in subst P (sym is) cause
kept_cause before now (Err Memory) keep result is cause =
    let P : Result Bool PutFault → Type 0 = λ r. IsPutCause before now r in subst P (sym is) cause

pub kept_same : {T : Type 0} (put : Result T PutFault) (keep : Bool) (result : Result Bool PutFault) → IsKept put keep result
    → IfOk result (λ kept. kept ≡ keep)
kept_same (Ok x) keep result is =
    let P : Result Bool PutFault → Type 0 = λ r. IfOk r (λ kept. kept ≡ keep) in subst P (sym is) refl
kept_same (Err fault) keep result is =
    let P : Result Bool PutFault → Type 0 = λ r. IfOk r (λ kept. kept ≡ keep) in subst P (sym is) tt

-- a fault has its cause whatever would have been told without it
pub fault_cause : (T U : Type 0) (before now : ℕ) (fault : PutFault) → IsPutCause {T = T} before now (Err fault)
    → IsPutCause {T = U} before now (Err fault)
fault_cause T U before now Write cause = cause
fault_cause T U before now Memory cause = cause
