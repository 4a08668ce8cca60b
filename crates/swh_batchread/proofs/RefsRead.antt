-- Lines of refs that are read one by one.
use Rattle.std.proofs.Common.{◌≡◌, ◌⊎◌, inl, inr, ℕ, ◌+◌, ◌<◌, ◌≤◌, Bool, true, false, nat_lt, if◌then◌else◌, List, [], ◌∷◌, ◌++◌, length, refl, sym, ap, ◌∙◌, subst, arith, append_assoc, length-append}
use Rattle.std.proofs.lemmas.Bool.{ltb-true, ltb-false}
use Rattle.std.proofs.lemmas.List.{append-nil}
use Rattle.std.proofs.lemmas.List.Concat.{flat_map-append}
use Rattle.swh_base.specs.declared.visit.Which.TheVariants.{Stream, Line}
use Rattle.swh_base.specs.Limits.{line_limit}
use Rattle.swh_outside.specs.Faults.{Rose}
use Rattle.swh_fastlex.specs.Line.{Held, unread, Takes, IsLine, IsCutLine, IsLongLine}
use Rattle.swh_fastlex.specs.declared.fault.LineFault.{LineFault}
use Rattle.swh_fastlex.specs.declared.fault.LineFault.TheVariants.{Failed, End, Limit as Long, Memory as NoRoom}
use Rattle.swh_batchread.specs.declared.fault.BatchFault.{BatchFault}
use Rattle.swh_batchread.specs.declared.fault.BatchFault.TheVariants.{BadRefs, Limit}
use Rattle.swh_batchread.specs.declared.refs.Refs.{Refs}
use Rattle.swh_batchread.specs.Batch.{input_limit}
use Rattle.swh_batchread.specs.Failing.{Fails}
use Rattle.swh_batchread.specs.Refs.{RefLine, ref_text, refs_text, MayFollowRefs, AreRefLines}
use Rattle.swh_batchread.specs.RefsFault.{LineIsLong, PassesInput, LineBreaks, RefBreaks, BreaksLines, MayBreakLines}
use Rattle.swh_batchread.specs.RefSteps.{told, TakesLine, HasLines}
use Rattle.swh_batchread.proofs.Breaking.{whole_line, found_line}

-- ## Where no line is given

fails_input : (tells : Type 0) (number at : ℕ) (text : List ℕ) (old new : ℕ) → (tells → PassesInput at text) → Fails tells MayBreakLines (LineBreaks number at text) old new (Limit Stream (input_limit + 1))
fails_input tells number at text old new passes = record { possible = inl (refl, refl); told = λ t. inl ((refl, refl), passes t) }

long_is : (before now : Held) (left left_now : List ℕ) → IsLongLine line_limit before now left left_now → LineIsLong (unread before left)
long_is before now left left_now c = record { line = c.front; rest = unread now left_now; cut = c.taken.cut; no_feed = c.no_feed; long = c.long; more = c.more }

cut_row : (tells : Type 0) (before now : Held) (left left_now : List ℕ) (number old new : ℕ) (b : Bool) → nat_lt input_limit now.place ≡ b → 1 ≤ number → number ≤ input_limit + 1 → (tells → IsCutLine line_limit before now left left_now)
    → Fails tells MayBreakLines (LineBreaks number before.place (unread before left)) old new (if b then Limit Stream (input_limit + 1) else BadRefs number)
cut_row tells before now left left_now number old new true e low high cut =
    let above = ltb-true input_limit now.place e in
    fails_input tells number before.place (unread before left) old new (λ t. let c = cut t in inl (record { line = unread before left; first = whole_line (unread before left) c.no_feed c.short; above = omega (arith, c.counted, above) }))
cut_row tells before now left left_now number old new false e low high cut =
    let below = ltb-false input_limit now.place e in
    record { possible = (low, high); told = λ t. let c = cut t in (refl, record { some = c.some; no_feed = c.no_feed; short = c.short; within = omega (arith, c.counted, below) }) }

long_row : (tells : Type 0) (before now : Held) (left left_now : List ℕ) (number old new : ℕ) (b : Bool) → nat_lt now.place input_limit ≡ b → (tells → IsLongLine line_limit before now left left_now)
    → Fails tells MayBreakLines (LineBreaks number before.place (unread before left)) old new (if b then Limit Line (line_limit + 1) else Limit Stream (input_limit + 1))
long_row tells before now left left_now number old new true e long =
    let below = ltb-true now.place input_limit e in
    record { possible = inr (inl (refl, refl)); told = λ t. let c = long t in let took = c.taken in inr (refl, refl, (omega (arith, took.counted, c.long, below), long_is before now left left_now c)) }
long_row tells before now left left_now number old new false e long =
    let above = ltb-false now.place input_limit e in
    fails_input tells number before.place (unread before left) old new (λ t. let c = long t in let took = c.taken in inr (omega (arith, took.counted, c.long, above), long_is before now left left_now c))

-- why no line is given
pub row_told : (tells : Type 0) (before now : Held) (left left_now : List ℕ) (number old new : ℕ) (fault : LineFault) → 1 ≤ number → number ≤ input_limit + 1 → (fault ≡ Failed → Rose old new) → (tells → fault ≡ End → IsCutLine line_limit before now left left_now) → (tells → fault ≡ Long → IsLongLine line_limit before now left left_now)
    → Fails tells MayBreakLines (LineBreaks number before.place (unread before left)) old new (told fault now.place number)
row_told tells before now left left_now number old new Failed low high rose cut long = rose refl
row_told tells before now left left_now number old new End low high rose cut long = cut_row tells before now left left_now number old new (nat_lt input_limit now.place) refl low high (λ t. cut t refl)
row_told tells before now left left_now number old new Long low high rose cut long = long_row tells before now left left_now number old new (nat_lt now.place input_limit) refl (λ t. long t refl)
row_told tells before now left left_now number old new NoRoom low high rose cut long = tt

-- a line that ends above the limit of a file
pub row_over : (tells : Type 0) (before now : Held) (left left_now line : List ℕ) (number old new : ℕ) → IsLine line → length line ≤ line_limit → (tells → Takes before now left left_now line) → input_limit < now.place
    → Fails tells MayBreakLines (LineBreaks number before.place (unread before left)) old new (Limit Stream (input_limit + 1))
row_over tells before now left left_now line number old new is short taken above =
    fails_input tells number before.place (unread before left) old new (λ t. let took = taken t in inl (record { line = line; first = found_line (unread before left) line (unread now left_now) took.cut is short; above = omega (arith, took.counted, above) }))

-- ## Lines, and one more

pub line_some : (line : List ℕ) → IsLine line → 1 ≤ length line
line_some line is = omega (arith, ap length is.text, length-append is.front (10 ∷ []))

-- where a list with one more at its end is cut: at that, or before it
pub cut_push : {X : Type 0} (xs : List X) (x : X) (before : List X) (y : X) (more : List X) → xs ++ x ∷ [] ≡ before ++ y ∷ more → ((before ≡ xs) × (y ≡ x)) ⊎ ((rest : List X) × (xs ≡ before ++ y ∷ rest))
cut_push [] x [] y more e = let s : x ≡ y = cc in inl (refl, sym s)
cut_push [] x (b ∷ []) y more e = absurd (cc)
cut_push [] x (b ∷ (d ∷ before)) y more e = absurd (cc)
cut_push (a ∷ xs) x [] y more e = let s : a ≡ y = cc in inr (xs, ap (λ z. z ∷ xs) s)
cut_push {X} (a ∷ xs) x (b ∷ before) y more e = by_place (cut_push xs x before y more cc)
  where
    first : a ≡ b
    first = cc

    by_place : ((before ≡ xs) × (y ≡ x)) ⊎ ((rest : List X) × (xs ≡ before ++ y ∷ rest)) → ((b ∷ before ≡ a ∷ xs) × (y ≡ x)) ⊎ ((rest : List X) × (a ∷ xs ≡ b ∷ (before ++ y ∷ rest)))
    by_place (inl h) = let s = h.0 in let f = first in inl (cc, h.1)
    by_place (inr h) = let s = h.1 in let f = first in inr (h.0, cc)

lines_more : (rs : List RefLine) (r : RefLine) → AreRefLines rs → MayFollowRefs rs r → AreRefLines (rs ++ r ∷ [])
lines_more rs r are may before q more e = by_place (cut_push rs r before q more e)
  where
    by_place : ((before ≡ rs) × (q ≡ r)) ⊎ ((rest : List RefLine) × (rs ≡ before ++ q ∷ rest)) → MayFollowRefs before q
    by_place (inl h) = subst (λ (x : RefLine). MayFollowRefs before x) (sym h.1) (subst (λ (xs : List RefLine). MayFollowRefs xs r) (sym h.0) may)
    by_place (inr h) = are before q h.0 h.1

pub text_push : (rs : List RefLine) (r : RefLine) → refs_text (rs ++ r ∷ []) ≡ refs_text rs ++ ref_text r
text_push rs r = flat_map-append ref_text rs (r ∷ []) ∙ ap (λ (t : List ℕ). refs_text rs ++ t) (append-nil (ref_text r))

-- one line more
pub line_more : (tells : Type 0) (text : List ℕ) (a b : Held) (la lb line : List ℕ) (number : ℕ) (old new : Refs) → (h : HasLines tells text a la number old) → TakesLine h.lines line new → (tells → Takes a b la lb line) → b.place ≡ a.place + length line → b.place ≤ input_limit → HasLines tells text b lb (number + 1) new
line_more tells text a b la lb line number old new h t taken counted low =
    let r = t.ref in
    let pushed = text_push h.lines r in
    let size = ap length t.spelled in
    let here = h.here in
    let long = ap length pushed ∙ length-append (refs_text h.lines) (ref_text r) in
    let count = h.count in
    record {
      lines = h.lines ++ r ∷ [];
      are = lines_more h.lines r h.are (record { line = t.is; new = t.fresh; within = omega (arith, long, here, size, counted, low); few = t.held.few });
      held = t.held;
      here = omega (arith, long, here, size, counted);
      count = omega (arith, count, length-append h.lines (r ∷ []));
      cut = λ told.
          h.cut told ∙ ap (λ (u : List ℕ). refs_text h.lines ++ u) ((taken told).cut ∙ ap (λ (u : List ℕ). u ++ unread b lb) t.spelled)
          ∙ sym (append_assoc (refs_text h.lines) (ref_text r) (unread b lb)) ∙ ap (λ (u : List ℕ). u ++ unread b lb) (sym pushed);
    }

-- what is wrong with a whole line
pub line_breaks : (tells : Type 0) (text : List ℕ) (a b : Held) (la lb line : List ℕ) (number : ℕ) (refs : Refs) (fault : BatchFault) → (h : HasLines tells text a la number refs) → tells → IsLine line → length line ≤ line_limit → Takes a b la lb line → b.place ≤ input_limit → RefBreaks h.lines number line fault → BreaksLines text fault
line_breaks tells text a b la lb line number refs fault h t is short took low breaks =
    record {
      before = h.lines;
      at = a.place;
      rest = unread a la;
      reaches = record { are = h.are; cut = h.cut t; here = h.here };
      breaks = inr (line, unread b lb, record { is = is; cut = took.cut; short = short; within = omega (arith, took.counted, low) }, subst (λ (n : ℕ). RefBreaks h.lines n line fault) h.count breaks);
    }
