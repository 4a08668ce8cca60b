-- The bytes that are held, and lines that are taken.
use Rattle.std.proofs.Common.{◌≡◌, ℕ, ◌+◌, ◌≤◌, inl, inr, Bool, true, false, List, [], ◌∷◌, ◌++◌, length, length-append, Contains, refl, sym, ap, ◌∙◌, subst, arith, append_assoc, Result, Ok, Err, IfErr}
use Rattle.swh_base.proofs.Splits.{sized_split}
use Rattle.swh_base.specs.Limits.{line_limit}
use Rattle.swh_fastlex.specs.Line.{Held, unread, IsLine, MovesFront}
use Rattle.swh_fastlex.specs.Delimited.{IsDataFault}
use Rattle.swh_fastlex.specs.declared.fault.DataFault.{DataFault}
use Rattle.swh_fastlex.specs.declared.fault.DataFault.TheVariants as Data
use Rattle.swh_fastlex.proofs.Windows.{moved_length}
use Rattle.swh_fastgrammar.specs.Grammar.{line_at}
use Rattle.swh_fastrows.specs.Held.{EndsNext, HeldCounts, IsNext, LinesFail}
use Rattle.swh_fastrows.specs.Within.{LineFits, Fits}
use Rattle.swh_fastrows.specs.declared.row_source.TheConstants.{STREAM_LIMIT}
use Rattle.swh_fastgrammar.proofs.Faults.{append_nil}
use Rattle.swh_fastrows.proofs.Fitting.{WordsFit, line_fits, front_fits, closed_fits}
use Rattle.swh_fastrows.specs.Places.{ReaderState, left, Took, FirstLine, Counts}
use Rattle.swh_fastgrammar.specs.Row.{Row, IsData, Opens, is_comment}
use Rattle.swh_fastrows.proofs.Joins.{has_first, has_more, plain, took_after, took_comment, took_line, one_first}

pub in_middle : (a x : List ℕ) → Contains (a ++ 10 ∷ x) 10
in_middle [] x = has_first 10 x refl
in_middle (c ∷ a) x = has_more c (a ++ 10 ∷ x) (in_middle a x)

-- a line has an LF
pub line_feeds : (line : List ℕ) → IsLine line → Contains line 10
line_feeds line l = subst (λ (t : List ℕ). Contains t 10) (sym l.text) (in_middle l.front [])

-- What goes from the window to the line stays among the bytes that are held.
pub moved_few : (line longer : List ℕ) (w v : Held) (room : ℕ) (ended : Bool) (limit : ℕ) → MovesFront w v line longer room ended → length line + length w.bytes ≤ limit → length longer + length v.bytes ≤ limit
moved_few line longer w v room ended limit m few =
    let long = moved_length line longer w v room ended m in
    omega (arith, long, few, ap length m.cut, length-append m.front v.bytes)

-- the place after what is held was taken
abbrev pub taken : ReaderState → ReaderState
taken b = record { at = b.at + length b.held; held = []; rest = b.rest; buffered = b.buffered; faults = b.faults; path = b.path }

-- The held line has no LF before its end.
pub front_of : (held line : List ℕ) → held ≡ line ++ 10 ∷ [] → IsLine held → Contains line 10 → ⊥
front_of held line e l =
    let both : l.front ++ 10 ∷ [] ≡ line ++ 10 ∷ [] = sym l.text ∙ e in
    let lengths : length l.front ≡ length line = omega (arith, ap length both, length-append l.front (10 ∷ []), length-append line (10 ∷ [])) in
    subst (λ (t : List ℕ). Contains t 10 → ⊥) (sized_split l.front line (10 ∷ []) (10 ∷ []) lengths both).0 l.no_feed

pub held_text : (b : ReaderState) (line : List ℕ) → b.held ≡ line ++ 10 ∷ [] → left b ≡ line ++ 10 ∷ b.rest
held_text b line e = ap (λ (t : List ℕ). t ++ b.rest) e ∙ append_assoc line (10 ∷ []) b.rest

abbrev pub held_first : (b : ReaderState) (line : List ℕ) → b.held ≡ line ++ 10 ∷ [] → IsLine b.held → FirstLine (left b) line
held_first b line e l = record { rest = b.rest; spelled = held_text b line e; one_line = front_of b.held line e l }

pub held_counts : (b : ReaderState) (line : List ℕ) → b.held ≡ line ++ 10 ∷ [] → IsLine b.held → HeldCounts b.held → Counts (left b)
held_counts b line e l h other f = subst (λ (t : List ℕ). is_comment t ≡ false) (one_first (left b) line other (held_first b line e l) f) (h line e)

pub data_counts : (row : Row) (bytes next : List ℕ) → IsData row bytes next → is_comment row.line ≡ false
data_counts row bytes next (inl d) = ap is_comment d.line
data_counts row bytes next (inr d) = ap is_comment d.line

comment_closed : (line : List ℕ) → is_comment line ≡ true → Opens line → ⊥
comment_closed line e o =
    let row : Row = record { line = line; raw = o.0 } in
    let f : is_comment line ≡ false = data_counts row o.1 o.2 o.3 in
    let t : true ≡ false = sym e ∙ f in
    absurd cc

-- The held line passes no limit, where none of its words does.
held_fits : (b : ReaderState) (line : List ℕ) → b.held ≡ line ++ 10 ∷ [] → IsLine b.held → b.at + length b.held ≤ STREAM_LIMIT → length b.held ≤ line_limit → WordsFit line → LineFits b.at (left b)
held_fits b line e l within short words =
    let size = ap length e ∙ length-append line (10 ∷ []) in
    subst (LineFits b.at) (sym (held_text b line e)) (line_fits b.at line b.rest (front_of b.held line e l) (omega (arith, size, within)) (omega (arith, size, short)) words)

pub next_fits : (b : ReaderState) (line : List ℕ) → IsNext b → b.held ≡ line ++ 10 ∷ [] → LineFits b.at (left b)
next_fits b line n e = held_fits b line e n.line n.within n.short (λ counts. n.fits line e)

-- What is held and is no line passes no limit.
pub ending_fits : (b : ReaderState) → EndsNext b → LineFits b.at (left b)
ending_fits b e =
    let same : left b ≡ b.held = ap (λ (r : List ℕ). b.held ++ r) e.nothing ∙ append_nil b.held in
    subst (LineFits b.at) (sym same) (front_fits b.at b.held e.no_feed e.within e.short)

pub skipped : (a b : ReaderState) (line : List ℕ) → left b ≡ left a → b.at ≡ a.at → b.held ≡ line ++ 10 ∷ [] → IsLine b.held → b.at + length b.held ≤ STREAM_LIMIT → length b.held ≤ line_limit → is_comment line ≡ true → Took a (taken b) []
skipped a b line same here e l within short t =
    let fits : LineFits b.at (left b) = held_fits b line e l within short (λ counts. let d : true ≡ false = sym t ∙ counts in absurd cc) in
    let inside = closed_fits b.at (left b) line (held_first b line e l) (comment_closed line t) in
    let all : Fits b.at (left b) = record { line = fits; inside = inside } in
    took_comment a (taken b) (plain line) (sym same ∙ held_text b line e ∙ sym (append_assoc line (10 ∷ []) b.rest)) (record { one_line = front_of b.held line e l; after = inr (comment_closed line t, refl) }) t
    (subst (λ (n : ℕ). Fits n (left a)) here (subst (Fits b.at) same all)) (omega (arith, here, ap length e))

-- a line that counts was taken
pub line_taken : (a b : ReaderState) (line : List ℕ) → Took a b [] → b.held ≡ line ++ 10 ∷ [] → IsNext b → (Opens line → ⊥) → Took a (taken b) (line_at b.at line ∷ [])
line_taken a b line t e n o =
    took_after a b (taken b) (line_at b.at line ∷ []) t (took_line b (taken b) line (held_text b line e) (front_of b.held line e n.line) o (n.counts line e) (next_fits b line n e) (omega (arith, ap length e, length-append line (10 ∷ []))))

-- why lines are not given, as the places before and after
pub lines_fault : (old new : ReaderState) (word : List ℕ) (limit : ℕ) (before now : Held) (u v : List ℕ) (fault : DataFault) → old.rest ≡ unread before u → new.rest ≡ unread now v → before.place ≡ old.at → now.place ≡ new.at → IsDataFault word limit before now u v fault → LinesFail old new word limit fault
lines_fault old new word limit before now u v Data.Failed e f m n d = tt
lines_fault old new word limit before now u v Data.End e f m n d =
    let counted = d.counted in
    record { bytes = d.bytes; front = d.front; lines = d.lines; within = d.within; short = d.short; all = e ∙ d.all; no_feed = d.no_feed; here = omega (arith, m, n, counted, ap length (e ∙ d.all), length-append d.bytes d.front) }
lines_fault old new word limit before now u v Data.Line e f m n d =
    record { bytes = d.bytes; front = d.front; lines = d.lines; no_feed = d.no_feed; long = d.long; cut = e ∙ d.taken.cut ∙ ap (λ (t : List ℕ). (d.bytes ++ d.front) ++ t) (sym f); more = λ none. d.more (sym f ∙ none) }
lines_fault old new word limit before now u v Data.Body e f m n d =
    record { bytes = d.bytes ++ d.last; lines = d.lines; above = d.above; cut = e ∙ d.taken.cut ∙ ap (λ (t : List ℕ). (d.bytes ++ d.last) ++ t) (sym f) }
lines_fault old new word limit before now u v Data.Memory e f m n d = tt

pub lines_faults : {X : Type 0} (r : Result X DataFault) (old new : ReaderState) (word : List ℕ) (limit : ℕ) (before now : Held) (u v : List ℕ) → old.rest ≡ unread before u → new.rest ≡ unread now v → before.place ≡ old.at → now.place ≡ new.at → IfErr r (IsDataFault word limit before now u v) → IfErr r (LinesFail old new word limit)
lines_faults {X} (Ok x) old new word limit before now u v e f m n d = tt
lines_faults {X} (Err fault) old new word limit before now u v e f m n d = lines_fault old new word limit before now u v fault e f m n d
