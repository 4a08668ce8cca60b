-- A run as far as it is read, and its first harm.
use Rattle.std.proofs.Common.{◌≡◌, ℕ, ◌+◌, ◌-◌, ◌<◌, ◌≤◌, List, [], ◌∷◌, ◌++◌, length, take, drop, min, sym, ap, ◌∙◌, subst, inl, inr, arith, length-append, length-drop, append_assoc}
use Rattle.std.proofs.lemmas.List.{take-append-drop, drop-drop, append-nil, take_all}
use Rattle.std.proofs.Math.Nat.{eq-or-lt_of_le}
use Rattle.std.proofs.Math.Seq.{drop-append_seam}
use Rattle.std.specs.List.{AllByRecursion}
use Rattle.swh_base.specs.declared.kind.Kind.{Kind}
use Rattle.swh_base.specs.declared.entry.Entry.{Entry}
use Rattle.swh_object.specs.Object.{IsObject}
use Rattle.swh_format.specs.StoredObject.{coded_entry, coded_run, IsCodableEntry}
use Rattle.swh_format.proofs.RunAppends.{coded_run-append}
use Rattle.swh_format.proofs.Lengths.{object-length}
use Rattle.swh_recovery.specs.declared.harm.Harm.TheVariants.{Short}
use Rattle.swh_recovery.specs.declared.harm.Found.{Found}
use Rattle.swh_recovery.specs.Fields.{found_at}
use Rattle.swh_recovery.specs.StoreHarm.{ObjectBreaks, AreObjects, RunBreaks}
use Rattle.swh_recovery.specs.Reading.{window, BeginsWith}

all_push : {X : Type 0} (P : X → Type 0) (xs : List X) (y : X) → AllByRecursion P xs → P y → AllByRecursion P (xs ++ y ∷ [])
all_push P [] y h p = (p, tt)
all_push P (x ∷ xs) y h p = (h.0, all_push P xs y h.1 p)

pub run_push : (es : List Entry) (e : Entry) → coded_run (es ++ e ∷ []) ≡ coded_run es ++ coded_entry e
run_push es e = coded_run-append es (e ∷ []) ∙ ap (λ (l : List ℕ). coded_run es ++ l) (append-nil (coded_entry e))

pub place_next : (es : List Entry) (e : Entry) (from place : ℕ) → place ≡ from + length (coded_run es) → IsCodableEntry e → place + (29 + length e.body) ≡ from + length (coded_run (es ++ e ∷ []))
place_next es e from place is codable =
    let all : length (coded_run (es ++ e ∷ [])) ≡ length (coded_run es ++ coded_entry e) = ap length (run_push es e) in
    let one = object-length e in
    let twenty = codable.id in
    omega (arith, is, all, one, twenty, length-append (coded_run es) (coded_entry e))

-- what stands behind a front of a window
behind_front : (xs p rest : List ℕ) (have : ℕ) → take have xs ≡ p ++ rest → xs ≡ p ++ drop (length p) xs
behind_front xs p rest have is =
    let all : xs ≡ p ++ (rest ++ drop have xs) = sym (take-append-drop have xs) ∙ ap (λ (l : List ℕ). l ++ drop have xs) is ∙ append_assoc p rest (drop have xs) in
    all ∙ ap (λ (l : List ℕ). p ++ l) (sym (ap (λ (l : List ℕ). drop (length p) l) all ∙ drop-append_seam p (rest ++ drop have xs)))

pub begins_next : (id_of : Kind → List ℕ → List ℕ) (seen : List ℕ) (es : List Entry) (e : Entry) (from place have next : ℕ) → drop from seen ≡ coded_run es ++ drop place seen → BeginsWith id_of (window seen place have) e → next ≡ place + (29 + length e.body)
    → drop from seen ≡ coded_run (es ++ e ∷ []) ++ drop next seen
begins_next id_of seen es e from place have next begins with is =
    let one = object-length e in
    let twenty = with.codable.id in
    let size : place + length (coded_entry e) ≡ next = omega (arith, one, twenty, is) in
    begins
    ∙ ap (λ (l : List ℕ). coded_run es ++ l) (behind_front (drop place seen) (coded_entry e) with.rest have with.spelled
    ∙ ap (λ (l : List ℕ). coded_entry e ++ l) (drop-drop (length (coded_entry e)) place seen ∙ ap (λ (n : ℕ). drop n seen) size))
    ∙ sym (append_assoc (coded_run es) (coded_entry e) (drop next seen))
    ∙ ap (λ (l : List ℕ). l ++ drop next seen) (sym (run_push es e))

pub objects_next : (id_of : Kind → List ℕ → List ℕ) (es : List Entry) (e : Entry) → AreObjects id_of es → IsObject id_of e → IsCodableEntry e → AreObjects id_of (es ++ e ∷ [])
objects_next id_of es e are good codable = record {
  good = all_push (IsObject id_of) es e are.good good;
  codable = all_push IsCodableEntry es e are.codable codable;
}

-- what stands up to the run's end, and within the store
same_window : (seen : List ℕ) (place to : ℕ) → window seen place (to - place) ≡ window seen place (min to (length seen) - place)
same_window seen place to =
    elim (eq-or-lt_of_le {n = min to (length seen)} {m = to} (omega arith)) [
      | inl e ↦ ap (λ (n : ℕ). take (n - place) (drop place seen)) (sym e)
      | inr lt ↦
          let size = length-drop place seen in
          take_all (to - place) (drop place seen) (omega (arith, size, lt)) ∙ sym (take_all (min to (length seen) - place) (drop place seen) (omega (arith, size, lt)))
    ]

module _ (id_of : Kind → List ℕ → List ℕ) (seen : List ℕ) (es : List Entry) (from to place : ℕ) (place_is : place ≡ from + length (coded_run es)) (objects : AreObjects id_of es) (begins : drop from seen ≡ coded_run es ++ drop place seen) where
  pub run_breaks : (size : ℕ) (found : Found) → place < to → size ≡ length seen → ObjectBreaks id_of (window seen place (min to size - place)) place found → RunBreaks id_of from to seen found
  run_breaks size found less size_is breaks = record {
    before = es;
    run = record { objects = objects; rest = drop place seen; begins = begins };
    goes_on = subst (λ (n : ℕ). n < to) place_is less;
    breaks =
        subst (λ (n : ℕ). ObjectBreaks id_of (take (to - n) (drop place seen)) n found) place_is
        (subst (λ (l : List ℕ). ObjectBreaks id_of l place found) (ap (λ (n : ℕ). window seen place (min to n - place)) size_is ∙ sym (same_window seen place to)) breaks);
  }

  pub run_ends_early : (size : ℕ) (found : Found) → place < to → size ≡ length seen → min to size ≤ place → found ≡ found_at place (Short 0 1) → RunBreaks id_of from to seen found
  run_ends_early size found less size_is le is =
      let none : min to size - place ≡ 0 = omega (arith, le) in
      let empty : window seen place (min to size - place) ≡ [] = ap (λ (n : ℕ). window seen place n) none in
      let cut : ObjectBreaks id_of [] place found = inl (inl (inl (record { short = omega arith; found_is = is }))) in
      run_breaks size found less size_is (subst (λ (l : List ℕ). ObjectBreaks id_of l place found) (sym empty) cut)
