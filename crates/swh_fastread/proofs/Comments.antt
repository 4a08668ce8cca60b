-- Comments before what a reader comes to.
use Rattle.std.proofs.Common.{◌≡◌, ℕ, ◌+◌, ◌⊎◌, inl, inr, Bool, true, false, ◌||◌, if◌then◌else◌, List, [], ◌∷◌, ◌++◌, length, length-append, Contains, refl, sym, ap, ◌∙◌, subst, arith, append_assoc}
use Rattle.std.specs.List.{list_any}
use Rattle.swh_fastgrammar.specs.declared.command.Command.{Command}
use Rattle.swh_fastgrammar.specs.declared.fault.StreamWhy.{StreamWhy}
use Rattle.swh_fastgrammar.specs.declared.fault.StreamWhy.TheVariants.{Grammar, End, LeftOut, Mark, Branch, Place as Spot}
use Rattle.swh_fastgrammar.specs.Fault.{BeginsStream, BeginsRows, Reaches, IsLineFault, IsEndFault}
use Rattle.swh_fastgrammar.specs.Grammar.{many, IsItem, is_promise, IsWhole, IsStream}
use Rattle.swh_fastgrammar.specs.Row.{Row, row_text, text_of, IsRow, AreRows, Placed, placed, is_comment}
use Rattle.swh_fastgrammar.proofs.Faults.{text_of-append}
use Rattle.swh_fastgrammar.proofs.Kept.{AllKept}
use Rattle.swh_fastgrammar.proofs.Rows.{goes_on}
use Rattle.swh_base.specs.declared.visit.Which.{Which}
use Rattle.swh_fastrows.specs.declared.fail.ReadFail.{ReadFail}
use Rattle.swh_fastrows.specs.declared.fail.ReadFail.TheVariants.{BadStream, ReadFault, Limit, Memory}
use Rattle.swh_fastrows.specs.Explains.{Explains}
use Rattle.swh_fastrows.specs.Outcome.{IsStreamWithin, IsLineFaultWithin, IsEndFaultWithin, IsFaultWithin, DataMayCome, PassesFirst}
use Rattle.swh_fastrows.specs.Places.{ReaderState, left, Took}
use Rattle.swh_fastrows.specs.Within.{LinePasses, DataPasses, LineFits, Fits, AllFit}
use Rattle.swh_fastrows.proofs.HeldLines.{data_counts}
use Rattle.swh_fastrows.proofs.Joins.{placed-append, rows-append, fit-append, joined}
use Rattle.swh_fastread.specs.Steps.{IsStreamBefore}
use Rattle.swh_fastread.proofs.Onward.{stops_inside}
use Rattle.swh_fastread.proofs.Outcomes.{sizes}

comment_row : (r : Row) (x y : List ℕ) → is_comment r.line ≡ true → IsRow r x → IsRow r y
comment_row r x y e i = record {
  one_line = i.one_line;
  after = elim i.after [
    | inl d ↦ let f = data_counts r d.0 x d.1 in let n : true ≡ false = sym e ∙ f in absurd cc
    | inr d ↦ inr d
  ];
}

-- comments are rows whatever follows them
comments_any : (at : ℕ) (rows : List Row) (x y : List ℕ) → placed at rows ≡ [] → AreRows rows x → AreRows rows y
comments_any at [] x y n g = tt
comments_any at (r ∷ rows) x y n g = decide (is_comment r.line) refl n (λ m. comments_any (at + length (row_text r)) rows x y m g.1)
  where
    decide : (b : Bool) → is_comment r.line ≡ b → (if b then (placed (at + length (row_text r)) rows) else (record { at = at; row = r } ∷ placed (at + length (row_text r)) rows)) ≡ [] → (placed (at + length (row_text r)) rows ≡ [] → AreRows rows y) → AreRows (r ∷ rows) y
    decide true e m others = (comment_row r (text_of rows ++ x) (text_of rows ++ y) e g.0, others m)
    decide false e m others = absurd cc

placed_comments : (at : ℕ) (rows more : List Row) → placed at rows ≡ [] → placed at (rows ++ more) ≡ placed (at + length (text_of rows)) more
placed_comments at rows more n = placed-append at rows more ∙ ap (λ (z : List Placed). z ++ placed (at + length (text_of rows)) more) n

comment_whole : (at : ℕ) (p : Bool) (rows more : List Row) (x ending : List ℕ) (cs : List Command) → AreRows rows x → placed at rows ≡ [] → IsWhole (at + length (text_of rows)) p more ending cs → IsWhole at p (rows ++ more) ending cs
comment_whole at p rows more x ending cs good n w = record {
  items = w.items;
  good = rows-append rows more ending (comments_any at rows x (text_of more ++ ending) n good) w.good;
  said = subst (λ (z : List Placed). many IsItem z w.items) (sym (placed_comments at rows more n)) w.said;
  ends = w.ends;
  these = w.these;
}

abbrev comment_stream : (at : ℕ) (p : Bool) (rows : List Row) (x y : List ℕ) (cs : List Command) → AreRows rows x → placed at rows ≡ [] → IsStream (at + length (text_of rows)) p y cs → IsStream at p (text_of rows ++ y) cs
comment_stream at p rows x y cs good n t = record {
  rows = rows ++ t.rows;
  ending = t.ending;
  spelled = ap (λ (z : List ℕ). text_of rows ++ z) t.spelled ∙ joined rows t.rows t.ending;
  whole = comment_whole at p rows t.rows x t.ending cs good n t.whole;
}

strip_comments : (at : ℕ) (p : Bool) (rows : List Row) (x y : List ℕ) (cs : List Command) → AreRows rows x → placed at rows ≡ [] → IsStream at p (text_of rows ++ y) cs → IsStream (at + length (text_of rows)) p y cs
strip_comments at p rows x y cs good n s =
    let front : AreRows rows y = comments_any at rows x y n good in
    elim (goes_on rows s.rows y s.ending front s.whole.good s.spelled) [
      | inl g ↦ on g.0 g.1 g.2 g.3
      | inr g ↦ absurd (stops_inside at rows s.rows g.0 g.1 y s.ending (p || list_any is_promise s.whole.items) g.2 g.3 g.4 (subst AllKept (sym n) tt) s.whole.ends)
    ]
  where
    on : (more : List Row) → s.rows ≡ rows ++ more → y ≡ text_of more ++ s.ending → AreRows more s.ending → IsStream (at + length (text_of rows)) p y cs
    on more e t a = record {
      rows = more;
      ending = s.ending;
      spelled = t;
      whole = record {
        items = s.whole.items;
        good = a;
        said = subst (λ (z : List Placed). many IsItem z s.whole.items) (ap (placed at) e ∙ placed_comments at rows more n) s.whole.said;
        ends = s.whole.ends;
        these = s.whole.these;
      };
    }

comment_begins : (at : ℕ) (p : Bool) (rows more : List Row) (x : List ℕ) → AreRows rows x → placed at rows ≡ [] → BeginsRows (at + length (text_of rows)) p more → BeginsRows at p (rows ++ more)
comment_begins at p rows more x good n b = record {
  more = b.more;
  ending = b.ending;
  commands = b.commands;
  whole = subst (λ (z : List Row). IsWhole at p z b.ending b.commands) (sym (append_assoc rows more b.more)) (comment_whole at p rows (more ++ b.more) x b.ending b.commands good n b.whole);
}

comment_reaches : (at : ℕ) (p : Bool) (rows : List Row) (x : List ℕ) (more : List Row) (rest : List ℕ) (cs : List Command) → AreRows rows x → placed at rows ≡ [] → Reaches (at + length (text_of rows)) p x more rest cs → Reaches at p (text_of rows ++ x) (rows ++ more) rest cs
comment_reaches at p rows x more rest cs good n b = record {
  spelled = ap (λ (z : List ℕ). text_of rows ++ z) b.spelled ∙ joined rows more rest;
  good = rows-append rows more rest (subst (AreRows rows) b.spelled good) b.good;
  may = comment_begins at p rows more x good n b.may;
  whole = b.whole;
  part = b.part;
  items = b.items;
  cut = placed_comments at rows more n ∙ b.cut;
  said = b.said;
  unfinished = b.unfinished;
  these = b.these;
}

abbrev comment_line : (at : ℕ) (p : Bool) (rows : List Row) (x : List ℕ) (cs : List Command) (place : ℕ) (out : Bool) → AreRows rows x → placed at rows ≡ [] → IsLineFault (at + length (text_of rows)) p x cs place out → IsLineFault at p (text_of rows ++ x) cs place out
comment_line at p rows x cs place out good n f = record {
  rows = rows ++ f.rows;
  line = f.line;
  rest = f.rest;
  one_line = f.one_line;
  before = comment_reaches at p rows x f.rows (f.line ++ 10 ∷ f.rest) cs good n f.before;
  here = let h = f.here in omega (arith, h, ap length (text_of-append rows f.rows), length-append (text_of rows) (text_of f.rows));
  out = f.out;
  dead = λ o g.
      let bad : List ℕ = text_of f.rows ++ (f.line ++ 10 ∷ []) in
      let whole : (text_of (rows ++ f.rows) ++ (f.line ++ 10 ∷ [])) ++ g.0 ≡ text_of rows ++ (bad ++ g.0) = ap (λ (t : List ℕ). t ++ g.0) (sym (joined rows f.rows (f.line ++ 10 ∷ []))) ∙ append_assoc (text_of rows) bad g.0 in
      f.dead o (g.0, g.1, strip_comments at p rows x (bad ++ g.0) g.1 good n (subst (λ (t : List ℕ). IsStream at p t g.1) whole g.2));
}

comment_inside : (at : ℕ) (p : Bool) (rows : List Row) (x rest : List ℕ) → AreRows rows x → placed at rows ≡ [] → (Contains rest 10 → ⊥) ⊎ BeginsStream (at + length (text_of rows)) p x → (Contains rest 10 → ⊥) ⊎ BeginsStream at p (text_of rows ++ x)
comment_inside at p rows x rest good n (inl h) = inl h
comment_inside at p rows x rest good n (inr b) =
    inr (b.0, b.1, subst (λ (t : List ℕ). IsStream at p t b.1) (sym (append_assoc (text_of rows) x b.0)) (comment_stream at p rows x (x ++ b.0) b.1 good n b.2))

abbrev comment_end : (at : ℕ) (p : Bool) (rows : List Row) (x : List ℕ) (cs : List Command) (place : ℕ) → AreRows rows x → placed at rows ≡ [] → IsEndFault (at + length (text_of rows)) p x cs place → IsEndFault at p (text_of rows ++ x) cs place
comment_end at p rows x cs place good n f = record {
  rows = rows ++ f.rows;
  rest = f.rest;
  before = comment_reaches at p rows x f.rows f.rest cs good n f.before;
  here = let h = f.here in omega (arith, h, length-append (text_of rows) x);
  cut = f.cut;
  inside = comment_inside at p rows x f.rest good n f.inside;
  none = λ all t. f.none all (strip_comments at p rows x x all good n t);
}

-- Comments in front of what is within the limits.
abbrev comment_stream_within : (at : ℕ) (p : Bool) (rows : List Row) (x : List ℕ) (cs : List Command) → AreRows rows x → AllFit at rows x → placed at rows ≡ [] → IsStreamWithin (at + length (text_of rows)) p x cs → IsStreamWithin at p (text_of rows ++ x) cs
comment_stream_within at p rows x cs good fit n w = record {
  stream = comment_stream at p rows x x cs good n w.stream;
  fit = fit-append at rows w.stream.rows w.stream.ending (subst (AllFit at rows) w.stream.spelled fit) w.fit;
  end_fits = subst (λ (k : ℕ). LineFits k w.stream.ending) (sizes at rows w.stream.rows) w.end_fits;
}

comment_line_within : (at : ℕ) (p : Bool) (rows : List Row) (x : List ℕ) (cs : List Command) (place : ℕ) (out : Bool) → AreRows rows x → AllFit at rows x → placed at rows ≡ [] → IsLineFaultWithin (at + length (text_of rows)) p x cs place out → IsLineFaultWithin at p (text_of rows ++ x) cs place out
comment_line_within at p rows x cs place out good fit n f = record {
  fault = comment_line at p rows x cs place out good n f.fault;
  fit = fit-append at rows f.fault.rows (f.fault.line ++ 10 ∷ f.fault.rest) (subst (AllFit at rows) f.fault.before.spelled fit) f.fit;
  line_fits = subst (λ (k : ℕ). LineFits k (f.fault.line ++ 10 ∷ f.fault.rest)) (sizes at rows f.fault.rows) f.line_fits;
}

comment_end_within : (at : ℕ) (p : Bool) (rows : List Row) (x : List ℕ) (cs : List Command) (place : ℕ) → AreRows rows x → AllFit at rows x → placed at rows ≡ [] → IsEndFaultWithin (at + length (text_of rows)) p x cs place → IsEndFaultWithin at p (text_of rows ++ x) cs place
comment_end_within at p rows x cs place good fit n f = record {
  fault = comment_end at p rows x cs place good n f.fault;
  fit = fit-append at rows f.fault.rows f.fault.rest (subst (AllFit at rows) f.fault.before.spelled fit) f.fit;
  end_fits = subst (λ (k : ℕ). Fits k f.fault.rest) (sizes at rows f.fault.rows) f.end_fits;
}

comment_fault_within : (at : ℕ) (p : Bool) (rows : List Row) (x : List ℕ) (cs : List Command) (place : ℕ) (why : StreamWhy) → AreRows rows x → AllFit at rows x → placed at rows ≡ [] → IsFaultWithin (at + length (text_of rows)) p x cs place why → IsFaultWithin at p (text_of rows ++ x) cs place why
comment_fault_within at p rows x cs place Grammar good fit n f = comment_line_within at p rows x cs place false good fit n f
comment_fault_within at p rows x cs place End good fit n f = comment_end_within at p rows x cs place good fit n f
comment_fault_within at p rows x cs place LeftOut good fit n f = comment_line_within at p rows x cs place true good fit n f
comment_fault_within at p rows x cs place Mark good fit n f = f
comment_fault_within at p rows x cs place Branch good fit n f = f
comment_fault_within at p rows x cs place Spot good fit n f = f

comment_may : (at : ℕ) (p : Bool) (rows more : List Row) (x rest : List ℕ) → AreRows rows x → placed at rows ≡ [] → DataMayCome (at + length (text_of rows)) p more rest → DataMayCome at p (rows ++ more) rest
comment_may at p rows more x rest good n may =
    let begins = may.begins in
    let bad : List ℕ = text_of more ++ (may.line ++ 10 ∷ []) in
    let whole : text_of rows ++ (bad ++ begins.0) ≡ (text_of (rows ++ more) ++ (may.line ++ 10 ∷ [])) ++ begins.0 =
    sym (append_assoc (text_of rows) bad begins.0) ∙ ap (λ (t : List ℕ). t ++ begins.0) (joined rows more (may.line ++ 10 ∷ [])) in
    record {
      line = may.line;
      first = may.first;
      begins = (begins.0, begins.1, subst (λ (t : List ℕ). IsStream at p t begins.1) whole (comment_stream at p rows x (bad ++ begins.0) begins.1 good n begins.2));
    }

comment_limit : (at : ℕ) (p : Bool) (rows : List Row) (x : List ℕ) (cs : List Command) (which : Which) (number : ℕ) → AreRows rows x → AllFit at rows x → placed at rows ≡ [] → PassesFirst (at + length (text_of rows)) p x cs which number → PassesFirst at p (text_of rows ++ x) cs which number
comment_limit at p rows x cs which number good fit n g = record {
  rows = rows ++ g.rows;
  rest = g.rest;
  before = comment_reaches at p rows x g.rows g.rest cs good n g.before;
  fit = fit-append at rows g.rows g.rest (subst (AllFit at rows) g.before.spelled fit) g.fit;
  passes = elim g.passes [
    | inl l ↦ inl (subst (λ (k : ℕ). LinePasses k g.rest which number) (sizes at rows g.rows) l)
    | inr d ↦ inr (subst (λ (k : ℕ). DataPasses k g.rest which number) (sizes at rows g.rows) d.0, comment_may at p rows g.rows x g.rest good n d.1)
  ];
}

-- Comments in front of the end of a stream.
pub comments_end : (a b : ReaderState) (p : Bool) (ending : List ℕ) → Took a b [] → IsStreamBefore b.at p (left b) [] ending → IsStreamBefore a.at p (left a) [] ending
comments_end a b p ending t w =
    let v : IsStreamBefore (a.at + length (text_of t.rows)) p (left b) [] ending = subst (λ (k : ℕ). IsStreamBefore k p (left b) [] ending) t.here w in
    let all : IsStreamBefore a.at p (text_of t.rows ++ left b) [] ending = record { stream = comment_stream_within a.at p t.rows (left b) [] t.good t.fit t.those v.stream; ends = v.ends } in
    subst (λ (z : List ℕ). IsStreamBefore a.at p z [] ending) (sym t.spelled) all

-- Comments in front of a failure.
pub comments_explain : (a b : ReaderState) (p : Bool) (fail : ReadFail) → Took a b [] → Explains b p fail → Explains a p fail
comments_explain a b p (BadStream at why) t f = subst (λ (z : List ℕ). IsFaultWithin a.at p z [] at why) (sym t.spelled) (comment_fault_within a.at p t.rows (left b) [] at why t.good t.fit t.those (subst (λ (k : ℕ). IsFaultWithin k p (left b) [] at why) t.here f))
comments_explain a b p ReadFault t f = tt
comments_explain a b p (Limit which number) t g = subst (λ (z : List ℕ). PassesFirst a.at p z [] which number) (sym t.spelled) (comment_limit a.at p t.rows (left b) [] which number t.good t.fit t.those (subst (λ (k : ℕ). PassesFirst k p (left b) [] which number) t.here g))
comments_explain a b p Memory t f = tt
