-- Marks in a row, and others behind them, as one ordered map.
use Rattle.std.proofs.Common.{◌≡◌, ℕ, zero, suc, ◌+◌, ◌<◌, ◌≤◌, List, [], ◌∷◌, ◌++◌, length, get_or, set, Option, Some, None, slice_get, inl, inr, cond, refl, sym, ap, ◌∙◌, arith}
use Rattle.std.proofs.lemmas.Option.{slice_get_cases}
use Rattle.std.specs.Map.{lookup}
use Rattle.std.specs.BTreeMap.{insert_entry, is_at}
use Rattle.std.specs.Ordering.{nat_cmp, is_eq, match_ordering}
use Rattle.std.specs.Cmp.{nat_cmp_is}
use Rattle.std.specs.declared.cmp.Ordering.{Ordering}
use Rattle.std.specs.declared.cmp.Ordering.TheVariants.{Less, Equal, Greater}
use Rattle.swh_fastmeaning.specs.declared.aims.Target.{Target}
use Rattle.swh_fastmeaning.specs.Marks.{numbered, first_mark, marks_in, AreAboveZero}

abbrev seek : ℕ → List (ℕ × Target) → Option Target
seek k es = lookup (is_at (nat_cmp k)) es

abbrev put : List (ℕ × Target) → ℕ → Target → List (ℕ × Target)
put es k v = insert_entry nat_cmp es k v

less : (k j : ℕ) → k < j → nat_cmp k j ≡ Less
less k j h = sym (nat_cmp_is k j Less h)

equal : (k j : ℕ) → k ≡ j → nat_cmp k j ≡ Equal
equal k j h = sym (nat_cmp_is k j Equal h)

greater : (k j : ℕ) → j < k → nat_cmp k j ≡ Greater
greater k j h = sym (nat_cmp_is k j Greater h)

-- the step over an entry, by how the mark stands to it
seek-step : (k : ℕ) (e : ℕ × Target) (es : List (ℕ × Target)) (o : Ordering) → nat_cmp k e.0 ≡ o → seek k (e ∷ es) ≡ cond (is_eq o) (Some e.1) (seek k es)
seek-step k e es o is = ap (λ (r : Ordering). cond (is_eq r) (Some e.1) (seek k es)) is

put-step : (k : ℕ) (e : ℕ × Target) (es : List (ℕ × Target)) (v : Target) (o : Ordering) → nat_cmp k e.0 ≡ o → put (e ∷ es) k v ≡ match_ordering o ((k, v) ∷ e ∷ es) ((e.0, v) ∷ es) (e ∷ put es k v)
put-step k e es v o is = ap (λ (r : Ordering). match_ordering r ((k, v) ∷ e ∷ es) ((e.0, v) ∷ es) (e ∷ put es k v)) is

-- ---- what is found

seek-above : (from k : ℕ) (ts : List Target) (es : List (ℕ × Target)) → from + length ts ≤ k → seek k (numbered from ts ++ es) ≡ seek k es
seek-above from k [] es h = refl
seek-above from k (t ∷ ts) es h =
    seek-step k (from, t) (numbered (suc from) ts ++ es) Greater (greater k from (omega (arith, h))) ∙ seek-above (suc from) k ts es (omega (arith, h))

seek-in : (from i k : ℕ) (ts : List Target) (es : List (ℕ × Target)) (d : Target) → k ≡ from + i → i < length ts → seek k (numbered from ts ++ es) ≡ Some (get_or ts i d)
seek-in from i k [] es d e h = absurd (omega (arith, h))
seek-in from zero k (t ∷ ts) es d e h = seek-step k (from, t) (numbered (suc from) ts ++ es) Equal (equal k from (omega (arith, e)))
seek-in from (suc i) k (t ∷ ts) es d e h =
    seek-step k (from, t) (numbered (suc from) ts ++ es) Greater (greater k from (omega (arith, e))) ∙ seek-in (suc from) i k ts es d (omega (arith, e)) (omega (arith, h))

seek-zero : (es : List (ℕ × Target)) → AreAboveZero es → seek 0 es ≡ None
seek-zero [] h = refl
seek-zero (e ∷ es) h = seek-step 0 e es Less (less 0 e.0 h.0) ∙ seek-zero es h.1

seek-zero_row : (from : ℕ) (ts : List Target) (es : List (ℕ × Target)) → 0 < from → AreAboveZero es → seek 0 (numbered from ts ++ es) ≡ None
seek-zero_row from [] es h above = seek-zero es above
seek-zero_row from (t ∷ ts) es h above = seek-step 0 (from, t) (numbered (suc from) ts ++ es) Less (less 0 from h) ∙ seek-zero_row (suc from) ts es (omega (arith, h)) above

-- past what the mark 0 leads to
seek-past : (first : Option Target) (k : ℕ) (es : List (ℕ × Target)) → 0 < k → seek k (first_mark first ++ es) ≡ seek k es
seek-past None k es h = refl
seek-past (Some t) k es h = seek-step k (0, t) es Greater (greater k 0 h)

pub found-first : (first : Option Target) (ts : List Target) (es : List (ℕ × Target)) (k : ℕ) → k ≡ 0 → AreAboveZero es → first ≡ seek k (marks_in first ts es)
found-first None ts es k is above = sym (ap (λ (n : ℕ). seek n (numbered 1 ts ++ es)) is ∙ seek-zero_row 1 ts es (omega arith) above)
found-first (Some t) ts es k is above = sym (seek-step k (0, t) (numbered 1 ts ++ es) Equal (equal k 0 is))

pub found-in : (first : Option Target) (ts : List Target) (es : List (ℕ × Target)) (k i : ℕ) (d : Target) → k ≡ 1 + i → i < length ts → Some (get_or ts i d) ≡ seek k (marks_in first ts es)
found-in first ts es k i d is within = sym (seek-past first k (numbered 1 ts ++ es) (omega (arith, is)) ∙ seek-in 1 i k ts es d is within)

pub found-behind : (first : Option Target) (ts : List Target) (es : List (ℕ × Target)) (k : ℕ) → length ts < k → seek k es ≡ seek k (marks_in first ts es)
found-behind first ts es k behind = sym (seek-past first k (numbered 1 ts ++ es) (omega (arith, behind)) ∙ seek-above 1 k ts es (omega (arith, behind)))

-- ---- what is put in

put-above : (from k : ℕ) (ts : List Target) (es : List (ℕ × Target)) (v : Target) → from + length ts ≤ k → put (numbered from ts ++ es) k v ≡ numbered from ts ++ put es k v
put-above from k [] es v h = refl
put-above from k (t ∷ ts) es v h =
    put-step k (from, t) (numbered (suc from) ts ++ es) v Greater (greater k from (omega (arith, h)))
    ∙ ap (λ (l : List (ℕ × Target)). (from, t) ∷ l) (put-above (suc from) k ts es v (omega (arith, h)))

put-in : (from i k : ℕ) (ts : List Target) (es : List (ℕ × Target)) (v : Target) → k ≡ from + i → i < length ts → put (numbered from ts ++ es) k v ≡ numbered from (set ts i v) ++ es
put-in from i k [] es v e h = absurd (omega (arith, h))
put-in from zero k (t ∷ ts) es v e h = put-step k (from, t) (numbered (suc from) ts ++ es) v Equal (equal k from (omega (arith, e)))
put-in from (suc i) k (t ∷ ts) es v e h =
    put-step k (from, t) (numbered (suc from) ts ++ es) v Greater (greater k from (omega (arith, e)))
    ∙ ap (λ (l : List (ℕ × Target)). (from, t) ∷ l) (put-in (suc from) i k ts es v (omega (arith, e)) (omega (arith, h)))

put-next : (from k : ℕ) (ts : List Target) (v : Target) → k ≡ from + length ts → put (numbered from ts ++ []) k v ≡ numbered from (ts ++ v ∷ []) ++ []
put-next from k [] v e = ap (λ (n : ℕ). (n, v) ∷ []) (let is : k ≡ from = omega (arith, e) in is)
put-next from k (t ∷ ts) v e =
    put-step k (from, t) (numbered (suc from) ts ++ []) v Greater (greater k from (omega (arith, e)))
    ∙ ap (λ (l : List (ℕ × Target)). (from, t) ∷ l) (put-next (suc from) k ts v (omega (arith, e)))

put-zero : (es : List (ℕ × Target)) (v : Target) → AreAboveZero es → put es 0 v ≡ (0, v) ∷ es
put-zero [] v h = refl
put-zero (e ∷ es) v h = put-step 0 e es v Less (less 0 e.0 h.0)

put-zero_row : (ts : List Target) (es : List (ℕ × Target)) (v : Target) → AreAboveZero es → put (numbered 1 ts ++ es) 0 v ≡ (0, v) ∷ (numbered 1 ts ++ es)
put-zero_row [] es v above = put-zero es v above
put-zero_row (t ∷ ts) es v above = put-step 0 (1, t) (numbered 2 ts ++ es) v Less (less 0 1 (omega arith))

put-past : (first : Option Target) (k : ℕ) (es : List (ℕ × Target)) (v : Target) → 0 < k → put (first_mark first ++ es) k v ≡ first_mark first ++ put es k v
put-past None k es v h = refl
put-past (Some t) k es v h = put-step k (0, t) es v Greater (greater k 0 h)

pub set-first : (first : Option Target) (ts : List Target) (es : List (ℕ × Target)) (k : ℕ) (v : Target) → k ≡ 0 → AreAboveZero es → marks_in (Some v) ts es ≡ put (marks_in first ts es) k v
set-first None ts es k v is above = sym (ap (λ (n : ℕ). put (numbered 1 ts ++ es) n v) is ∙ put-zero_row ts es v above)
set-first (Some t) ts es k v is above = sym (put-step k (0, t) (numbered 1 ts ++ es) v Equal (equal k 0 is))

pub set-in : (first : Option Target) (ts : List Target) (es : List (ℕ × Target)) (k i : ℕ) (v : Target) → k ≡ 1 + i → i < length ts → marks_in first (set ts i v) es ≡ put (marks_in first ts es) k v
set-in first ts es k i v is within =
    sym (put-past first k (numbered 1 ts ++ es) v (omega (arith, is)) ∙ ap (λ (l : List (ℕ × Target)). first_mark first ++ l) (put-in 1 i k ts es v is within))

pub set-next : (first : Option Target) (ts : List Target) (es : List (ℕ × Target)) (k : ℕ) (v : Target) → es ≡ [] → k ≡ 1 + length ts → marks_in first (ts ++ v ∷ []) es ≡ put (marks_in first ts es) k v
set-next first ts es k v none is =
    ap (marks_in first (ts ++ v ∷ [])) none
    ∙ sym (put-past first k (numbered 1 ts ++ []) v (omega (arith, is)) ∙ ap (λ (l : List (ℕ × Target)). first_mark first ++ l) (put-next 1 k ts v is))
    ∙ ap (λ (l : List (ℕ × Target)). put (marks_in first ts l) k v) (sym none)

pub set-behind : (first : Option Target) (ts : List Target) (es : List (ℕ × Target)) (k : ℕ) (v : Target) → length ts < k → marks_in first ts (put es k v) ≡ put (marks_in first ts es) k v
set-behind first ts es k v behind =
    sym (put-past first k (numbered 1 ts ++ es) v (omega (arith, behind)) ∙ ap (λ (l : List (ℕ × Target)). first_mark first ++ l) (put-above 1 k ts es v (omega (arith, behind))))

pub above-put : (es : List (ℕ × Target)) (k : ℕ) (v : Target) → 0 < k → AreAboveZero es → AreAboveZero (put es k v)
above-put [] k v h above = (h, tt)
above-put (e ∷ es) k v h above =
    elim (nat_cmp k e.0) as (λ o. AreAboveZero (match_ordering o ((k, v) ∷ e ∷ es) ((e.0, v) ∷ es) (e ∷ put es k v))) [
      | Less ↦ (h, above)
      | Equal ↦ above
      | Greater ↦ (above.0, above-put es k v h above.1)
    ]

-- a place at which nothing stands is behind the row
pub past_none : (ts : List Target) (i : ℕ) → slice_get ts i ≡ None → length ts ≤ i
past_none ts i none =
    elim (slice_get_cases ts i).1 as (λ _. length ts ≤ i) [
      | inl h ↦ absurd (let both : Some h.0 ≡ None = sym h.2 ∙ none in cc)
      | inr h ↦ h.0
    ]
