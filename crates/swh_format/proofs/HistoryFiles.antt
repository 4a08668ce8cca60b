-- What the two files have of a history, and of a history with one more event.
use Rattle.std.proofs.Common.{◌≡◌, ℕ, ◌+◌, List, [], ◌∷◌, ◌++◌, length, refl, ap, ◌∙◌, subst, arith, length-append}
use Rattle.swh_model.specs.declared.event.Event.{Event}
use Rattle.swh_model.specs.Limits.{store_length}
use Rattle.swh_format.specs.Events as format
use Rattle.swh_format.specs.EventRecord.{packed_objects, IsCodable, AreCodable}
use Rattle.swh_format.specs.Stands.{coded_runs, written, all_written}
use Rattle.swh_format.proofs.Lengths.{runs-length}

pub runs-written : (at : ℕ) (h : List Event) → format.runs (all_written at h) ≡ coded_runs h
runs-written at [] = refl
runs-written at (e ∷ h) = ap (λ (l : List ℕ). packed_objects e.what ++ l) (runs-written (at + length (packed_objects e.what)) h)

pub all_written-push : (at : ℕ) (h : List Event) (e : Event) → all_written at (h ++ e ∷ []) ≡ all_written at h ++ written (at + length (coded_runs h)) e ∷ []
all_written-push at [] e = ap (λ (n : ℕ). written n e ∷ []) (let z : at ≡ at + 0 = omega arith in z)
all_written-push at (f ∷ h) e =
    let more = all_written-push (at + length (packed_objects f.what)) h e in
    let place : at + length (packed_objects f.what) + length (coded_runs h) ≡ at + length (packed_objects f.what ++ coded_runs h) = omega (arith, length-append (packed_objects f.what) (coded_runs h)) in
    ap (λ (l : List format.Append). written at f ∷ l) (more ∙ ap (λ (n : ℕ). all_written (at + length (packed_objects f.what)) h ++ written n e ∷ []) place)

pub codable-push : (at : ℕ) (h : List Event) (e : Event) → AreCodable at h → IsCodable (at + length (coded_runs h)) e → AreCodable at (h ++ e ∷ [])
codable-push at [] e all one = (subst (λ (n : ℕ). IsCodable n e) (let z : at + 0 ≡ at = omega arith in z) one, tt)
codable-push at (f ∷ h) e all one =
    let place : at + length (packed_objects f.what ++ coded_runs h) ≡ at + length (packed_objects f.what) + length (coded_runs h) = omega (arith, length-append (packed_objects f.what) (coded_runs h)) in
    (all.0, codable-push (at + length (packed_objects f.what)) h e all.1 (subst (λ (n : ℕ). IsCodable n e) place one))

pub written-at : (h : List Event) (e : Event) (n : ℕ) → n ≡ store_length h → all_written 0 (h ++ e ∷ []) ≡ all_written 0 h ++ written n e ∷ []
written-at h e n is =
    all_written-push 0 h e ∙ ap (λ (k : ℕ). all_written 0 h ++ written k e ∷ []) (let l = runs-length h in let z : 0 + length (coded_runs h) ≡ n = omega (arith, l, is) in z)

pub codable-at : (h : List Event) (e : Event) (n : ℕ) → n ≡ store_length h → AreCodable 0 h → IsCodable n e → AreCodable 0 (h ++ e ∷ [])
codable-at h e n is all one =
    codable-push 0 h e all (subst (λ (k : ℕ). IsCodable k e) (let l = runs-length h in let z : n ≡ 0 + length (coded_runs h) = omega (arith, l, is) in z) one)
