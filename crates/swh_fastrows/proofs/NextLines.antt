-- A line that comes next, as a part of a command or none.
use Rattle.std.proofs.Common.{◌≡◌, ℕ, ◌+◌, ◌<◌, ◌==◌, inl, inr, Bool, true, false, not, if◌then◌else◌, List, [], ◌∷◌, ◌++◌, length, length-append, take, drop, Contains, refl, sym, ap, ◌∙◌, subst, arith, append_assoc, Result, Ok, Err, IfOk, IfErr}
use Rattle.std.proofs.lemmas.List.{take-append-drop, length-take-le}
use Rattle.std.proofs.lemmas.List.Elements.{Contains-append_left}
use Rattle.swh_base.specs.Limits.{line_limit}
use Rattle.swh_fastgrammar.specs.declared.command.At.{At}
use Rattle.swh_fastrows.specs.declared.fail.ReadFail.{ReadFail}
use Rattle.swh_fastrows.specs.declared.fail.ReadFail.TheVariants.{BadStream, ReadFault, Limit, Memory}
use Rattle.swh_fastgrammar.specs.declared.fault.StreamWhy.TheVariants.{Grammar, End, LeftOut, Mark, Branch, Place as Spot}
use Rattle.swh_fastrows.specs.Explains.{PassesAfter, PartFails, DataFails, Refusal, line_refusal, IsClear, EndsWhole}
use Rattle.swh_fastrows.specs.Within.{LinePasses, LineFits, PassesWord}
use Rattle.swh_base.specs.declared.visit.Which.{Which}
use Rattle.swh_base.specs.declared.visit.Which.TheVariants.{Body, Objects, Bytes, Store, Ledger, Stream, Line, Path, Ref, Refs}
use Rattle.swh_fastlex.specs.Line.{IsLine}
use Rattle.swh_fastlines.specs.Limit.{PassesWords}
use Rattle.swh_fastrows.specs.declared.row_source.TheConstants.{STREAM_LIMIT}
use Rattle.swh_fastgrammar.specs.Fault.{is_left_out}
use Rattle.swh_fastgrammar.specs.Grammar.{line_at, line, placed_line, contents}
use Rattle.swh_fastrows.specs.Held.{IsHeld, held_limit, HeldCounts, IsNext, EndsNext}
use Rattle.swh_fastrows.specs.Places.{ReaderState, left, Took, FirstLine, Counts, Part, Lacks, NeverLine, opens_none, position}
use Rattle.swh_fastgrammar.specs.Row.{Row, Opens, AreRows, Placed, placed, is_comment, text_of}
use Rattle.swh_fastgrammar.proofs.Faults.{append_nil, row_cut}
use Rattle.swh_fastgrammar.proofs.Parts.{cons_cut}
use Rattle.swh_fastrows.proofs.HeldLines.{taken, held_first, held_counts, line_taken, in_middle, next_fits, ending_fits}
use Rattle.swh_fastrows.proofs.Joins.{one_first, placed_row, took_none, took_append, took_size}

end_left : (b : ReaderState) → EndsNext b → left b ≡ b.held
end_left b e = ap (λ (r : List ℕ). b.held ++ r) e.nothing ∙ append_nil b.held

pub end_feeds : (b : ReaderState) → EndsNext b → Contains (left b) 10 → ⊥
end_feeds b e h = e.no_feed (subst (λ (t : List ℕ). Contains t 10) (end_left b e) h)

no_first : (text line : List ℕ) → (Contains text 10 → ⊥) → FirstLine text line → ⊥
no_first text line n f = n (subst (λ (t : List ℕ). Contains t 10) (sym f.spelled) (in_middle line f.rest))

-- nothing comes next
pub lacks_end : {X : Type 0} (L : List Placed → X → Type 0) (a b : ReaderState) → Took a b [] → EndsNext b → Lacks L a b
lacks_end L a b t e = record { took = t; refused = λ p more x f h. no_first (left b) p.row.line (end_feeds b e) f; counts = λ line f. absurd (no_first (left b) line (end_feeds b e) f) }

pub same_next : (b : ReaderState) (line : List ℕ) → IsNext b → b.held ≡ line ++ 10 ∷ [] → (other : List ℕ) → FirstLine (left b) other → line ≡ other
same_next b line n e other f = one_first (left b) line other (held_first b line e n.line) f

-- a line of another word comes next, or one that says nothing
pub lacks_line : {X : Type 0} (word : List ℕ) (Tells : List ℕ → X → Type 0) (a b : ReaderState) (text : List ℕ) → Took a b [] → IsNext b → b.held ≡ text ++ 10 ∷ [] → NeverLine word Tells text → Lacks (line word Tells) a b
lacks_line word Tells a b text t n e never = record {
  took = t;
  refused = λ p more x f h. never h.1 x (same_next b text n e p.row.line f ∙ ap (λ (q : Placed). q.row.line) (cons_cut p (line_at h.0 (word ++ h.1)) more [] h.2).0) h.3;
  counts = held_counts b text e n.line n.counts;
}

pub lacks_placed : {X : Type 0} (word : List ℕ) (Tells : List ℕ → X → Type 0) (a b : ReaderState) (text : List ℕ) → Took a b [] → IsNext b → b.held ≡ text ++ 10 ∷ [] → NeverLine word Tells text → Lacks (placed_line word Tells) a b
lacks_placed word Tells a b text t n e never = record {
  took = t;
  refused = λ p more x f h. never h.0 x.it (same_next b text n e p.row.line f ∙ ap (λ (q : Placed). q.row.line) (cons_cut p (line_at x.at (word ++ h.0)) more [] h.1).0) h.2;
  counts = held_counts b text e n.line n.counts;
}

abbrev first : List ℕ → ℕ
first [] = 0
first (c ∷ t) = c

opens-first : (text : List ℕ) → Opens text → first text ≡ 100
opens-first text (raw, bytes, next, inl d) = ap first d.line
opens-first text (raw, bytes, next, inr d) = ap first d.line

pub closed_word : (word text : List ℕ) → opens_none word ≡ true → Opens (word ++ text) → ⊥
closed_word [] text e o = absurd cc
closed_word (c ∷ word) text e o =
    let f : c ≡ 100 = opens-first (c ∷ (word ++ text)) o in
    let t : false ≡ true = subst (λ (d : ℕ). not (d == 100) ≡ true) f e in
    absurd cc

-- the line was taken
pub part_line : {X : Type 0} (word : List ℕ) (Tells : List ℕ → X → Type 0) (a b : ReaderState) (text said : List ℕ) (x : X) → Took a b [] → IsNext b → b.held ≡ text ++ 10 ∷ [] → opens_none word ≡ true → text ≡ word ++ said → Tells said x → Part (line word Tells) a (taken b) x
part_line word Tells a b text said x t n e o same h =
    let f : Opens text → ⊥ = λ k. closed_word word said o (subst Opens same k) in
    record {
      rows = line_at b.at text ∷ [];
      took = line_taken a b text t e n f;
      says = (b.at, said, ap (λ (z : List ℕ). line_at b.at z ∷ []) same, h);
    }

pub part_placed : {X : Type 0} (word : List ℕ) (Tells : List ℕ → X → Type 0) (a b : ReaderState) (text said : List ℕ) (x : X) (v : At X) → Took a b [] → IsNext b → b.held ≡ text ++ 10 ∷ [] → opens_none word ≡ true → text ≡ word ++ said → Tells said x → v.at ≡ b.at → v.it ≡ x → Part (placed_line word Tells) a (taken b) v
part_placed {X} word Tells a b text said x v t n e o same h here it =
    let f : Opens text → ⊥ = λ k. closed_word word said o (subst Opens same k) in
    record {
      rows = line_at b.at text ∷ [];
      took = line_taken a b text t e n f;
      says = (said, ap (λ (z : List ℕ). line_at b.at z ∷ []) same ∙ ap (λ (k : ℕ). line_at k (word ++ said) ∷ []) (sym here), subst (λ (z : X). Tells said z) (sym it) h);
    }

-- No comment is passed over where the first line counts.
pub same_left : (b c : ReaderState) → Took b c [] → Counts (left b) → (left b ≡ left c) × (c.at ≡ b.at)
same_left b c t k = by_rows t.rows t.spelled t.good t.those t.here
  where
    by_rows : (rows : List Row) → left b ≡ text_of rows ++ left c → AreRows rows (left c) → placed b.at rows ≡ [] → c.at ≡ b.at + length (text_of rows) → (left b ≡ left c) × (c.at ≡ b.at)
    by_rows [] e g n h = (e, omega (arith, h))
    by_rows (r ∷ rows) e g n h =
        let f : is_comment r.line ≡ false = k r.line (record { rest = r.raw ++ (text_of rows ++ left c); spelled = e ∙ row_cut r rows (left c); one_line = g.0.one_line }) in
        let m = sym (placed_row b.at r rows f) ∙ n in
        absurd cc

-- what is next refuses a part that it lacks
pub lacks_fails : {X : Type 0} (L : List Placed → X → Type 0) (a b : ReaderState) (fail : ReadFail) → Lacks L a b → Refusal b fail → PartFails L a fail
lacks_fails L a b (BadStream at Grammar) l r = record { before = b; line = r.line; took = l.took; first = r.first; counts = r.counts; here = r.here; is_out = r.is_out; fits = r.fits; refused = l.refused }
lacks_fails L a b (BadStream at End) l r = record { before = b; took = l.took; fits = r.2; no_feed = r.0; here = r.1 }
lacks_fails L a b (BadStream at LeftOut) l r = record { before = b; line = r.line; took = l.took; first = r.first; counts = r.counts; here = r.here; is_out = r.is_out; fits = r.fits; refused = l.refused }
lacks_fails L a b (BadStream at Mark) l r = r
lacks_fails L a b (BadStream at Branch) l r = r
lacks_fails L a b (BadStream at Spot) l r = r
lacks_fails L a b ReadFault l r = tt
lacks_fails L a b (Limit which number) l r = record { before = r.before; took = took_append a b r.before [] [] l.took r.took; passes = r.passes }
lacks_fails L a b Memory l r = tt

pub lacks_data : (a b : ReaderState) (fail : ReadFail) → Lacks contents a b → Refusal b fail → DataFails a fail
lacks_data a b (BadStream at Grammar) l r = lacks_fails contents a b (BadStream at Grammar) l r
lacks_data a b (BadStream at End) l r = inl (lacks_fails contents a b (BadStream at End) l r)
lacks_data a b (BadStream at LeftOut) l r = lacks_fails contents a b (BadStream at LeftOut) l r
lacks_data a b (BadStream at Mark) l r = r
lacks_data a b (BadStream at Branch) l r = r
lacks_data a b (BadStream at Spot) l r = r
lacks_data a b ReadFault l r = tt
lacks_data a b (Limit which number) l r = inl (lacks_fails contents a b (Limit which number) l r)
lacks_data a b Memory l r = tt

pub over_here : (b : ReaderState) → STREAM_LIMIT < b.at + length b.held → IsHeld b.held → LinePasses b.at (left b) Stream (STREAM_LIMIT + 1)
over_here b over shape = record { front = b.held; rest = b.rest; cut = refl; stretch = shape; over = over; count = refl }

pub over_passes : (a b : ReaderState) → Took a b [] → STREAM_LIMIT < b.at + length b.held → IsHeld b.held → PassesAfter a Stream (STREAM_LIMIT + 1)
over_passes a b t over shape = record { before = b; took = t; passes = over_here b over shape }

-- a line that is refused
pub refused_line : (a b : ReaderState) (line : List ℕ) (fail : ReadFail) → Took a b [] → Counts (left a) → IsNext b → b.held ≡ line ++ 10 ∷ [] → fail ≡ line_refusal line b.at → Refusal a fail
refused_line a b line fail t k n e f = subst (Refusal a) (sym f) (by_out (is_left_out line) refl)
  where
    here : (left a ≡ left b) × (b.at ≡ a.at)
    here = same_left a b t k

    first : FirstLine (left a) line
    first = subst (λ (z : List ℕ). FirstLine z line) (sym here.0) (held_first b line e n.line)

    fits : LineFits a.at (left a)
    fits = subst (λ (k : ℕ). LineFits k (left a)) here.1 (subst (LineFits b.at) (sym here.0) (next_fits b line n e))

    by_out : (o : Bool) → is_left_out line ≡ o → Refusal a (if o then BadStream b.at LeftOut else BadStream b.at Grammar)
    by_out true o = record { line = line; first = first; counts = n.counts line e; here = here.1; is_out = o; fits = fits }
    by_out false o = record { line = line; first = first; counts = n.counts line e; here = here.1; is_out = o; fits = fits }

pub refused_end : (a b : ReaderState) (at : ℕ) → Took a b [] → Counts (left a) → EndsNext b → at ≡ b.at + length b.held → (Contains (left a) 10 → ⊥) × (at ≡ a.at + length (left a)) × LineFits a.at (left a)
refused_end a b at t k e f =
    let both = same_left a b t k in
    let same = both.0 in (
      λ h. end_feeds b e (subst (λ (z : List ℕ). Contains z 10) same h),
      omega (arith, f, ap length (end_left b e), took_size a b [] t),
      subst (λ (n : ℕ). LineFits n (left a)) both.1 (subst (LineFits b.at) (sym same) (ending_fits b e)),
    )

pub no_read_fault : (line : List ℕ) (at : ℕ) → line_refusal line at ≡ ReadFault → ⊥
no_read_fault line at e = by_out (is_left_out line) e
  where
    by_out : (o : Bool) → (if o then BadStream at LeftOut else BadStream at Grammar) ≡ ReadFault → ⊥
    by_out true f = cc
    by_out false f = cc

-- a line that opens no data
pub lacks_contents : (a b : ReaderState) (text : List ℕ) → Took a b [] → IsNext b → b.held ≡ text ++ 10 ∷ [] → (Opens text → ⊥) → Lacks contents a b
lacks_contents a b text t n e closed = record {
  took = t;
  refused = λ p more bytes f h.
      let same : p.row.line ≡ h.0.row.line = ap (λ (q : Placed). q.row.line) (cons_cut p h.0 more [] h.2).0 in
      let row : Row = h.0.row in
      closed (subst Opens (sym (same_next b text n e p.row.line f ∙ same)) (row.raw, bytes, h.1, h.3));
  counts = held_counts b text e n.line n.counts;
}

pub part_before : {X : Type 0} (L : List Placed → X → Type 0) (a b c : ReaderState) (x : X) → Took a b [] → Part L b c x → Part L a c x
part_before L a b c x t p = record { rows = p.rows; took = took_append a b c [] p.rows t p.took; says = p.says }

pub fails_before : (a b : ReaderState) (fail : ReadFail) → Took a b [] → DataFails b fail → DataFails a fail
fails_before a b (BadStream at Grammar) t r = record { before = r.before; line = r.line; took = took_append a b r.before [] [] t r.took; first = r.first; counts = r.counts; here = r.here; is_out = r.is_out; fits = r.fits; refused = r.refused }
fails_before a b (BadStream at LeftOut) t r = record { before = r.before; line = r.line; took = took_append a b r.before [] [] t r.took; first = r.first; counts = r.counts; here = r.here; is_out = r.is_out; fits = r.fits; refused = r.refused }
fails_before a b (BadStream at End) t (inl r) = inl (record { before = r.before; took = took_append a b r.before [] [] t r.took; fits = r.fits; no_feed = r.no_feed; here = r.here })
fails_before a b (BadStream at End) t (inr r) = inr (record { before = r.before; line = r.line; next = r.next; more = r.more; bytes = r.bytes; took = took_append a b r.before [] [] t r.took; spelled = r.spelled; one_line = r.one_line; fits = r.fits; cut = r.cut; filled = r.filled; here = r.here })
fails_before a b (BadStream at Mark) t r = r
fails_before a b (BadStream at Branch) t r = r
fails_before a b (BadStream at Spot) t r = r
fails_before a b ReadFault t r = tt
fails_before a b (Limit which number) t (inl r) = inl (record { before = r.before; took = took_append a b r.before [] [] t r.took; passes = r.passes })
fails_before a b (Limit which number) t (inr r) = inr (record { before = r.before; line = r.line; took = took_append a b r.before [] [] t r.took; first = r.first; opens = r.opens; passes = r.passes })
fails_before a b Memory t r = tt

pub ok_before : (a b c : ReaderState) (r : Result (List ℕ) ReadFail) → Took a b [] → IfOk r (λ bytes. Part contents b c bytes) → IfOk r (λ bytes. Part contents a c bytes)
ok_before a b c (Ok bytes) t p = part_before contents a b c bytes t p
ok_before a b c (Err fail) t p = tt

pub err_before : (a b : ReaderState) (r : Result (List ℕ) ReadFail) → Took a b [] → IfErr r (DataFails b) → IfErr r (DataFails a)
err_before a b (Ok bytes) t p = tt
err_before a b (Err fail) t p = fails_before a b fail t p

-- The held line, of a word that opens no data, was taken.
pub took_held : (a b : ReaderState) (word text : List ℕ) → IsNext a → a.held ≡ (word ++ text) ++ 10 ∷ [] → opens_none word ≡ true → b ≡ taken a → Took a b (line_at a.at (word ++ text) ∷ [])
took_held a b word text n e o same = subst (λ (p : ReaderState). Took a p (line_at a.at (word ++ text) ∷ [])) (sym same) (line_taken a a (word ++ text) (took_none a) e n (closed_word word text o))

-- More bytes are held than a line may have.
pub long_here : (b : ReaderState) → IsHeld b.held → length b.held ≡ held_limit → LinePasses b.at (left b) Line (line_limit + 1)
long_here b (inl l) e =
    let size : length b.held ≡ length l.front + 1 = ap length l.text ∙ length-append l.front (10 ∷ []) in
    (refl, record { front = l.front; rest = 10 ∷ b.rest; cut = ap (λ (t : List ℕ). t ++ b.rest) l.text ∙ append_assoc l.front (10 ∷ []) b.rest; no_feed = l.no_feed; long = omega (arith, e, size); more = λ none. absurd cc })
long_here b (inr n) e =
    let front = take line_limit b.held in
    let more = drop line_limit b.held in
    let whole : front ++ more ≡ b.held = take-append-drop line_limit b.held in
    let size : length front ≡ line_limit = length-take-le line_limit b.held (omega (arith, e)) in
    let sizes = ap length whole in (
      refl,
      record {
        front = front;
        rest = more ++ b.rest;
        cut = ap (λ (t : List ℕ). t ++ b.rest) (sym whole) ∙ append_assoc front more b.rest;
        no_feed = λ h. n (subst (λ (t : List ℕ). Contains t 10) whole (Contains-append_left front more 10 h));
        long = size;
        more = λ none. let left = ap length none in omega (arith, e, size, sizes, left, length-append front more, length-append more b.rest);
      },
    )

pub long_passes : (a b : ReaderState) → Took a b [] → IsHeld b.held → length b.held ≡ held_limit → PassesAfter a Line (line_limit + 1)
long_passes a b t h e = record { before = b; took = t; passes = long_here b h e }

-- where no limit is passed, what ends a whole command lacks each part
pub clear_lacks : {X : Type 0} (L : List Placed → X → Type 0) (a b : ReaderState) → Took a b [] → EndsWhole b → IsClear (position b false) → Lacks L a b
clear_lacks L a b t (inl e) k = lacks_end L a b t e
clear_lacks L a b t (inr p) k = absurd (k p.0 p.1 p.2)

-- A word of the held line passes a limit.
pub word_here : (b : ReaderState) (line : List ℕ) (which : Which) (number : ℕ) → b.held ≡ line ++ 10 ∷ [] → IsLine b.held → HeldCounts b.held → PassesWords line which number → LinePasses b.at (left b) which number
word_here b line which number e l c p = by_which which p
  where
    word : (w : Which) → PassesWords line w number → PassesWord (left b) w number
    word w h = record { line = line; first = held_first b line e l; counts = c line e; passes = h }

    by_which : (w : Which) → PassesWords line w number → LinePasses b.at (left b) w number
    by_which Body h = word Body h
    by_which Objects h = h
    by_which Bytes h = h
    by_which Store h = h
    by_which Ledger h = h
    by_which Stream h = absurd h
    by_which Line h = absurd h
    by_which Path h = word Path h
    by_which Ref h = word Ref h
    by_which Refs h = h

pub word_passes : (a b : ReaderState) (line : List ℕ) (which : Which) (number : ℕ) → Took a b [] → b.held ≡ line ++ 10 ∷ [] → IsLine b.held → HeldCounts b.held → PassesWords line which number → PassesAfter a which number
word_passes a b line which number t e l c p = record { before = b; took = t; passes = word_here b line which number e l c p }
