-- What is found of an object, and why it breaks.
use Rattle.std.proofs.Common.{◌≡◌, ℕ, suc, ◌+◌, ◌<◌, ◌≤◌, inl, inr, ◌⊎◌, false, List, [], ◌∷◌, ◌++◌, length, Contains, refl, sym, ap, ◌∙◌, subst, arith, append_assoc, length-append}
use Rattle.std.proofs.lemmas.Bool.{cases_lt}
use Rattle.std.proofs.lemmas.List.{append-nil, length-take}
use Rattle.swh_base.specs.declared.visit.Which.TheVariants.{Stream}
use Rattle.swh_base.specs.Limits.{body_limit, line_limit}
use Rattle.swh_base.proofs.Splits.{first_split, sized_split}
use Rattle.swh_base.proofs.Middle.{in_middle}
use Rattle.swh_outside.specs.Faults.{Rose}
use Rattle.swh_fastlex.specs.Line.{Held, unread, Takes, IsLine, IsCutLine, IsLongLine}
use Rattle.swh_batchread.specs.declared.fault.BatchFault.{BatchFault}
use Rattle.swh_batchread.specs.declared.fault.BatchFault.TheVariants.{BadBatch, WrongName, BadRefs, NoObject, Limit, ReadFault, Memory}
use Rattle.swh_batchread.specs.declared.header.Header.{Header}
use Rattle.swh_batchread.specs.Batch.{IsHeader, header_line, header_text, input_limit}
use Rattle.swh_batchread.specs.BatchFault.{BeginsWithLine, HeaderBreaks, HasNoBody, BodyPasses, BodyBreaks, MayBreakBatch}
use Rattle.swh_batchread.specs.Failing.{Fails}
use Rattle.swh_batchread.specs.Parts.{EndsBody}
use Rattle.swh_batchread.proofs.Headers.{header_then, line_no_feed, line_short}

-- the fault of bytes that end at `end`
pub broken_fails : (tells : Type 0) (Breaks : BatchFault → Type 0) (start end old new : ℕ) (fault : BatchFault) → (input_limit < end → fault ≡ Limit Stream (input_limit + 1)) → (end ≤ input_limit → fault ≡ BadBatch start) → start ≤ input_limit
    → (tells → input_limit < end → Breaks (Limit Stream (input_limit + 1))) → (tells → end ≤ input_limit → Breaks (BadBatch start)) → Fails tells MayBreakBatch Breaks old new fault
broken_fails tells Breaks start end old new fault past within low above below =
    elim (cases_lt input_limit end) [
      | inl more ↦ subst (λ (f : BatchFault). Fails tells MayBreakBatch Breaks old new f) (sym (past more)) (record { possible = inr (refl, refl); told = λ t. above t more })
      | inr less ↦ subst (λ (f : BatchFault). Fails tells MayBreakBatch Breaks old new f) (sym (within less)) (record { possible = low; told = λ t. below t less })
    ]

-- one way to break is another, whatever a source tells
pub fails_as : (tells : Type 0) (May More B C : BatchFault → Type 0) (old middle new : ℕ) (fault : BatchFault) → ((f : BatchFault) → May f → More f) → (tells → (f : BatchFault) → B f → C f) → middle ≡ old → Fails tells May B middle new fault → Fails tells More C old new fault
fails_as tells May More B C old middle new ReadFault may so same h = subst (λ (n : ℕ). Rose n new) same h
fails_as tells May More B C old middle new Memory may so same h = tt
fails_as tells May More B C old middle new (BadBatch at) may so same h = record { possible = may (BadBatch at) h.possible; told = λ t. so t (BadBatch at) (h.told t) }
fails_as tells May More B C old middle new (WrongName given got) may so same h = record { possible = may (WrongName given got) h.possible; told = λ t. so t (WrongName given got) (h.told t) }
fails_as tells May More B C old middle new (BadRefs line) may so same h = record { possible = may (BadRefs line) h.possible; told = λ t. so t (BadRefs line) (h.told t) }
fails_as tells May More B C old middle new (NoObject id) may so same h = record { possible = may (NoObject id) h.possible; told = λ t. so t (NoObject id) (h.told t) }
fails_as tells May More B C old middle new (Limit which number) may so same h = record { possible = may (Limit which number) h.possible; told = λ t. so t (Limit which number) (h.told t) }

-- ## Lines

pub whole_line : (text : List ℕ) → (Contains text 10 → ⊥) → length text ≤ line_limit → BeginsWithLine text text
whole_line text none short = record { rest = []; cut = sym (append-nil text); short = short; ends = inr (none, inl refl) }

pub found_line : (text line more : List ℕ) → text ≡ line ++ more → IsLine line → length line ≤ line_limit → BeginsWithLine text line
found_line text line more cut is short = record { rest = more; cut = cut; short = short; ends = inl is }

pub front_line : (text line more : List ℕ) → text ≡ line ++ more → (Contains line 10 → ⊥) → length line ≡ line_limit → BeginsWithLine text line
front_line text line more cut none long = record { rest = more; cut = cut; short = omega (arith, long); ends = inr (none, inr long) }

-- a text without LF begins with no header
no_header_cut : (text : List ℕ) → (Contains text 10 → ⊥) → (h : Header) (rest : List ℕ) → IsHeader h → text ≡ header_text h ++ rest → ⊥
no_header_cut text none h rest is e = none (subst (λ (t : List ℕ). Contains t 10) (sym (e ∙ header_then h rest)) (in_middle (header_line h) rest 10))

-- what follows a shorter front stands in the longer one
pub feed_inside : (a front more rest : List ℕ) → length a < length front → front ++ more ≡ a ++ 10 ∷ rest → Contains front 10
feed_inside a [] more rest l e = absurd (omega arith)
feed_inside [] (c ∷ front) more rest l e = let first : c ≡ 10 = cc in (0, omega arith, first)
feed_inside (d ∷ a) (c ∷ front) more rest l e =
    let after : front ++ more ≡ a ++ 10 ∷ rest = cc in
    let found = feed_inside a front more rest (omega arith) after in
    let low = found.1 in
    (suc found.0, omega (arith, low), found.2)

-- nor does one whose first line is too long
no_header_long : (text front more : List ℕ) → text ≡ front ++ more → (Contains front 10 → ⊥) → length front ≡ line_limit → (h : Header) (rest : List ℕ) → IsHeader h → text ≡ header_text h ++ rest → ⊥
no_header_long text front more cut none long h rest is e = none (feed_inside (header_line h) front more rest (omega (arith, line_short h is, long)) (sym cut ∙ e ∙ header_then h rest))

-- nor one whose first line is no header
no_header_line : (text line more : List ℕ) → text ≡ line ++ more → IsLine line → ((h : Header) → IsHeader h → line ≡ header_text h → ⊥) → (h : Header) (rest : List ℕ) → IsHeader h → text ≡ header_text h ++ rest → ⊥
no_header_line text line more cut is never h rest header e =
    let apart : text ≡ is.front ++ 10 ∷ more = cut ∙ ap (λ (t : List ℕ). t ++ more) is.text ∙ append_assoc is.front (10 ∷ []) more in
    let both = first_split 10 is.front (header_line h) more rest is.no_feed (line_no_feed h header) (sym apart ∙ e ∙ header_then h rest) in
    never h header (is.text ∙ ap (λ (t : List ℕ). t ++ 10 ∷ []) both.0)

-- the input ends inside a line
pub cut_header : (tells : Type 0) (before now : Held) (left left_now : List ℕ) (old new : ℕ) (fault : BatchFault) → (input_limit < now.place → fault ≡ Limit Stream (input_limit + 1)) → (now.place ≤ input_limit → fault ≡ BadBatch before.place) → before.place ≤ input_limit
    → (tells → IsCutLine line_limit before now left left_now) → Fails tells MayBreakBatch (HeaderBreaks before.place (unread before left)) old new fault
cut_header tells before now left left_now old new fault past within low cut =
    broken_fails tells (HeaderBreaks before.place (unread before left)) before.place now.place old new fault past within low
    (λ t above. let c = cut t in ((refl, refl), record { line = unread before left; first = whole_line (unread before left) c.no_feed c.short; above = omega (arith, c.counted, above) }))
    (λ t below. let c = cut t in (refl, record { line = unread before left; first = whole_line (unread before left) c.no_feed c.short; some = c.some; within = omega (arith, c.counted, below); none = no_header_cut (unread before left) c.no_feed }))

some_front : (front more : List ℕ) (n : ℕ) → length front ≡ n → 0 < n → front ++ more ≡ [] → ⊥
some_front [] more n l p e = absurd (omega arith)
some_front (c ∷ front) more n l p e = cc

-- a line is too long for a header
pub long_header : (tells : Type 0) (before now : Held) (left left_now : List ℕ) (old new : ℕ) (fault : BatchFault) → (input_limit < now.place → fault ≡ Limit Stream (input_limit + 1)) → (now.place ≤ input_limit → fault ≡ BadBatch before.place) → before.place ≤ input_limit
    → (tells → IsLongLine line_limit before now left left_now) → Fails tells MayBreakBatch (HeaderBreaks before.place (unread before left)) old new fault
long_header tells before now left left_now old new fault past within low long =
    broken_fails tells (HeaderBreaks before.place (unread before left)) before.place now.place old new fault past within low
    (λ t above. let c = long t in let took = c.taken in ((refl, refl), record { line = c.front; first = front_line (unread before left) c.front (unread now left_now) took.cut c.no_feed c.long; above = omega (arith, took.counted, above) }))
    (λ t below. let c = long t in let took = c.taken in (refl, record { line = c.front; first = front_line (unread before left) c.front (unread now left_now) took.cut c.no_feed c.long; some = λ e. some_front c.front (unread now left_now) line_limit c.long (omega arith) (sym took.cut ∙ e); within = omega (arith, took.counted, below); none = no_header_long (unread before left) c.front (unread now left_now) took.cut c.no_feed c.long }))

some_line : (line more : List ℕ) → IsLine line → line ++ more ≡ [] → ⊥
some_line [] more is e = nil_line is.front is.text
  where
    nil_line : (front : List ℕ) → [] ≡ front ++ 10 ∷ [] → ⊥
    nil_line [] e = cc
    nil_line (c ∷ front) e = cc
some_line (c ∷ line) more is e = cc

-- a line ends past the limit, or is no header
pub other_header : (tells : Type 0) (before now : Held) (left left_now line : List ℕ) (old new : ℕ) (fault : BatchFault) → (input_limit < now.place → fault ≡ Limit Stream (input_limit + 1)) → (now.place ≤ input_limit → fault ≡ BadBatch before.place) → before.place ≤ input_limit
    → IsLine line → length line ≤ line_limit → (tells → Takes before now left left_now line) → (now.place ≤ input_limit → (h : Header) → IsHeader h → line ≡ header_text h → ⊥) → Fails tells MayBreakBatch (HeaderBreaks before.place (unread before left)) old new fault
other_header tells before now left left_now line old new fault past within low is short taken never =
    broken_fails tells (HeaderBreaks before.place (unread before left)) before.place now.place old new fault past within low
    (λ t above. let took = taken t in ((refl, refl), record { line = line; first = found_line (unread before left) line (unread now left_now) took.cut is short; above = omega (arith, took.counted, above) }))
    (λ t below. let took = taken t in (refl, record { line = line; first = found_line (unread before left) line (unread now left_now) took.cut is short; some = λ e. some_line line (unread now left_now) is (sym took.cut ∙ e); within = omega (arith, took.counted, below); none = no_header_line (unread before left) line (unread now left_now) took.cut is (never below) }))

-- ## Bodies

pub takes_both : (a b c : Held) (la lb lc x y : List ℕ) → Takes a b la lb x → Takes b c lb lc y → Takes a c la lc (x ++ y)
takes_both a b c la lb lc x y t s = record { cut = t.cut ∙ ap (λ (u : List ℕ). x ++ u) s.cut ∙ sym (append_assoc x y (unread c lc)); counted = omega (arith, t.counted, s.counted, length-append x y) }

other_byte : (body other rest more : List ℕ) (byte : ℕ) → length other ≡ length body → body ++ byte ∷ more ≡ other ++ 10 ∷ rest → byte ≡ 10
other_byte body other rest more byte l e = let both = sized_split body other (byte ∷ more) (10 ∷ rest) (sym l) e in let behind = both.1 in cc

end_above : (before middle now : Held) (left left_middle left_now body : List ℕ) (size : ℕ) → length body ≡ size → size ≤ body_limit → input_limit < now.place → Takes before middle left left_middle body → EndsBody middle now left_middle left_now false → BodyPasses before.place (unread before left) size
end_above before middle now left left_middle left_now body size l small above took (inl nothing) =
    let text : List ℕ = unread before left in
    let long = length-take (size + 1) text in
    let whole : length text ≡ length body = ap length (took.cut ∙ ap (λ (t : List ℕ). body ++ t) nothing.nothing ∙ append-nil body) in
    record { short = small; above = omega (arith, l, whole, long, took.counted, nothing.same_place, above) }
end_above before middle now left left_middle left_now body size l small above took (inr more) =
    let text : List ℕ = unread before left in
    let long = length-take (size + 1) text in
    let next = more.1 in
    let whole = ap length (took.cut ∙ ap (λ (t : List ℕ). body ++ t) next.cut) in
    record { short = small; above = omega (arith, l, whole, long, took.counted, next.counted, above, length-append body (more.0 ∷ unread now left_now)) }

end_below : (before middle now : Held) (left left_middle left_now body : List ℕ) (size : ℕ) → length body ≡ size → size ≤ body_limit → now.place ≤ input_limit → Takes before middle left left_middle body → EndsBody middle now left_middle left_now false → HasNoBody before.place (unread before left) size
end_below before middle now left left_middle left_now body size l small below took (inl nothing) =
    let text : List ℕ = unread before left in
    let long = length-take (size + 1) text in
    let whole : length text ≡ length body = ap length (took.cut ∙ ap (λ (t : List ℕ). body ++ t) nothing.nothing ∙ append-nil body) in
    record {
      short = small;
      within = omega (arith, l, whole, long, took.counted, nothing.same_place, below);
      none = λ other rest m e. absurd (omega (arith, l, m, whole, ap length e, length-append other (10 ∷ rest)));
    }
end_below before middle now left left_middle left_now body size l small below took (inr more) =
    let text : List ℕ = unread before left in
    let long = length-take (size + 1) text in
    let next = more.1 in
    let cut : text ≡ body ++ more.0 ∷ unread now left_now = took.cut ∙ ap (λ (t : List ℕ). body ++ t) next.cut in
    let whole = ap length cut in
    record {
      short = small;
      within = omega (arith, l, whole, long, took.counted, next.counted, below, length-append body (more.0 ∷ unread now left_now));
      none = λ other rest m e. no_feed more.2 (other_byte body other rest (unread now left_now) more.0 (m ∙ sym l) (sym cut ∙ e));
    }
  where
    no_feed : ((more.0 ≡ 10 → ⊥) ⊎ (input_limit < now.place)) → more.0 ≡ 10 → ⊥
    no_feed (inl other) = other
    no_feed (inr above) = λ e. absurd (omega arith)

-- no LF follows a body, or it ends past the limit
pub other_end : (tells : Type 0) (before middle now : Held) (left left_middle left_now body : List ℕ) (start size old new : ℕ) (fault : BatchFault) → (input_limit < now.place → fault ≡ Limit Stream (input_limit + 1)) → (now.place ≤ input_limit → fault ≡ BadBatch start) → start ≤ input_limit
    → length body ≡ size → size ≤ body_limit → (tells → Takes before middle left left_middle body) → (tells → EndsBody middle now left_middle left_now false) → Fails tells MayBreakBatch (BodyBreaks start before.place (unread before left) size) old new fault
other_end tells before middle now left left_middle left_now body start size old new fault past within low l small took ends =
    broken_fails tells (BodyBreaks start before.place (unread before left) size) start now.place old new fault past within low
    (λ t above. inr ((refl, refl), end_above before middle now left left_middle left_now body size l small above (took t) (ends t)))
    (λ t below. (refl, end_below before middle now left left_middle left_now body size l small below (took t) (ends t)))
