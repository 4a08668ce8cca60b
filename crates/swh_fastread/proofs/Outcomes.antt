-- What follows whole items, and that a text has one outcome.
use Rattle.std.proofs.Common.{◌≡◌, ℕ, ◌+◌, ◌⊎◌, inl, inr, Bool, true, false, ◌||◌, List, [], ◌∷◌, ◌++◌, length, length-append, refl, sym, ap, ◌∙◌, subst, arith, append_assoc, codes}
use Rattle.swh_base.proofs.Splits.{absent, not_nil}
use Rattle.swh_base.specs.declared.visit.Which.{Which}
use Rattle.swh_fastgrammar.specs.declared.command.Command.{Command}
use Rattle.swh_fastgrammar.specs.declared.fault.StreamWhy.{StreamWhy}
use Rattle.swh_fastgrammar.specs.declared.fault.StreamWhy.TheVariants.{Grammar, End, LeftOut, Mark, Branch, Place}
use Rattle.swh_fastgrammar.specs.Fault.{BeginsStream, BeginsRows, is_left_out, IsFault}
use Rattle.swh_fastgrammar.specs.Grammar.{Item, IsItem, is_promise, commands_of}
use Rattle.swh_fastgrammar.specs.Grammar.Item.{Says, Promise, Nothing}
use Rattle.swh_fastgrammar.specs.Row.{Row, row_text, text_of, Opens, AreRows, placed, is_comment}
use Rattle.swh_fastgrammar.proofs.Before.{same_reach}
use Rattle.swh_fastgrammar.proofs.Faults.{append_nil, text_of-append, row_cut, row_line, passed}
use Rattle.swh_fastgrammar.proofs.Kept.{kept, not_begun}
use Rattle.swh_fastgrammar.proofs.Rows.{goes_on}
use Rattle.swh_fastrows.specs.Outcome.{IsStreamWithin, IsLineFaultWithin, IsEndFaultWithin, IsFaultWithin, DataMayCome, PassesFirst, Ended, Starts, StartsAll, StartsWith}
use Rattle.swh_fastrows.specs.Places.{Position}
use Rattle.swh_fastrows.specs.Within.{FirstLine, LinePasses, DataPasses, LineFits, Fits, AllFit}
use Rattle.swh_fastread.proofs.Broken.{done_closed}
use Rattle.swh_fastread.specs.Steps.{IsStreamBefore}
use Rattle.swh_fastrows.proofs.Fitting.{one_line, closed_fits, endless_fits}
use Rattle.swh_fastrows.proofs.Joins.{fit-append, rows-next, allows-line}
use Rattle.swh_fastread.proofs.Onward.{Spelled, prepend, line_more, end_more, reaches_more}

pub sizes : (at : ℕ) (rs qs : List Row) → at + length (text_of rs) + length (text_of qs) ≡ at + length (text_of (rs ++ qs))
sizes at rs qs = omega (arith, ap length (text_of-append rs qs), length-append (text_of rs) (text_of qs))

-- the next line of rows that pass no limit
first_fits : (n : ℕ) (rows : List Row) (rest : List ℕ) → AllFit n rows rest → LineFits (n + length (text_of rows)) rest → LineFits n (text_of rows ++ rest)
first_fits n [] rest h k = subst (λ (m : ℕ). LineFits m rest) (omega arith) k
first_fits n (r ∷ rows) rest h k = h.0.line

-- an item's rows in front of what is a stream
abbrev pub stream_more : (at : ℕ) (p : Bool) (text : List ℕ) (rows : List Row) (x : List ℕ) (i : Item) (cs : List Command) → text ≡ text_of rows ++ x → AreRows rows x → AllFit at rows x → IsItem (placed at rows) i → IsStreamWithin (at + length (text_of rows)) (p || is_promise i) x cs → IsStreamWithin at p text (commands_of (i ∷ []) ++ cs)
stream_more at p text rows x i cs e good fit h w = record {
  stream = prepend at p text rows x i cs e good h w.stream;
  fit = fit-append at rows w.stream.rows w.stream.ending (subst (AllFit at rows) w.stream.spelled fit) w.fit;
  end_fits = subst (λ (n : ℕ). LineFits n w.stream.ending) (sizes at rows w.stream.rows) w.end_fits;
}

line_fault_more : (at : ℕ) (p : Bool) (text x : List ℕ) (i : Item) (cs : List Command) (place : ℕ) (out : Bool) (s : Spelled at text x i) → AllFit at s.rows x → IsLineFaultWithin (at + length (text_of s.rows)) (p || is_promise i) x cs place out → IsLineFaultWithin at p text (commands_of (i ∷ []) ++ cs) place out
line_fault_more at p text x i cs place out s fit f = record {
  fault = line_more at p text x i cs place out s f.fault;
  fit = fit-append at s.rows f.fault.rows (f.fault.line ++ 10 ∷ f.fault.rest) (subst (AllFit at s.rows) f.fault.before.spelled fit) f.fit;
  line_fits = subst (λ (n : ℕ). LineFits n (f.fault.line ++ 10 ∷ f.fault.rest)) (sizes at s.rows f.fault.rows) f.line_fits;
}

end_fault_more : (at : ℕ) (p : Bool) (text x : List ℕ) (i : Item) (cs : List Command) (place : ℕ) (s : Spelled at text x i) → AllFit at s.rows x → IsEndFaultWithin (at + length (text_of s.rows)) (p || is_promise i) x cs place → IsEndFaultWithin at p text (commands_of (i ∷ []) ++ cs) place
end_fault_more at p text x i cs place s fit f = record {
  fault = end_more at p text x i cs place s f.fault;
  fit = fit-append at s.rows f.fault.rows f.fault.rest (subst (AllFit at s.rows) f.fault.before.spelled fit) f.fit;
  end_fits = subst (λ (n : ℕ). Fits n f.fault.rest) (sizes at s.rows f.fault.rows) f.end_fits;
}

-- the next line of a text with a fault passes no limit
fault_first : (n : ℕ) (p : Bool) (x : List ℕ) (cs : List Command) (place : ℕ) (why : StreamWhy) → IsFaultWithin n p x cs place why → LineFits n x
fault_first n p x cs place Grammar f = subst (LineFits n) (sym f.fault.before.spelled) (first_fits n f.fault.rows (f.fault.line ++ 10 ∷ f.fault.rest) f.fit f.line_fits)
fault_first n p x cs place LeftOut f = subst (LineFits n) (sym f.fault.before.spelled) (first_fits n f.fault.rows (f.fault.line ++ 10 ∷ f.fault.rest) f.fit f.line_fits)
fault_first n p x cs place End f = subst (LineFits n) (sym f.fault.before.spelled) (first_fits n f.fault.rows f.fault.rest f.fit f.end_fits.line)
fault_first n p x cs place Mark f = absurd f
fault_first n p x cs place Branch f = absurd f
fault_first n p x cs place Place f = absurd f

spelled_fault : (at : ℕ) (p : Bool) (text x : List ℕ) (i : Item) (cs : List Command) (place : ℕ) (why : StreamWhy) (s : Spelled at text x i) → AllFit at s.rows x → IsFaultWithin (at + length (text_of s.rows)) (p || is_promise i) x cs place why → IsFaultWithin at p text (commands_of (i ∷ []) ++ cs) place why
spelled_fault at p text x i cs place Grammar s fit f = line_fault_more at p text x i cs place false s fit f
spelled_fault at p text x i cs place LeftOut s fit f = line_fault_more at p text x i cs place true s fit f
spelled_fault at p text x i cs place End s fit f = end_fault_more at p text x i cs place s fit f
spelled_fault at p text x i cs place Mark s fit f = f
spelled_fault at p text x i cs place Branch s fit f = f
spelled_fault at p text x i cs place Place s fit f = f

pub fault_more : (at : ℕ) (p : Bool) (text : List ℕ) (rows : List Row) (x : List ℕ) (i : Item) (cs : List Command) (place : ℕ) (why : StreamWhy) → text ≡ text_of rows ++ x → AreRows rows x → AllFit at rows x → IsItem (placed at rows) i → (LineFits (at + length (text_of rows)) x → Ended (placed at rows) x) → IsFaultWithin (at + length (text_of rows)) (p || is_promise i) x cs place why → IsFaultWithin at p text (commands_of (i ∷ []) ++ cs) place why
fault_more at p text rows x i cs place why e good fit h ended f =
    spelled_fault at p text x i cs place why (record { rows = rows; text_is = e; good = good; said = h; ended = ended (fault_first (at + length (text_of rows)) (p || is_promise i) x cs place why f) }) fit f

may_more : (at : ℕ) (p : Bool) (rows more : List Row) (x rest : List ℕ) (i : Item) → AreRows rows x → IsItem (placed at rows) i → x ≡ text_of more ++ rest → DataMayCome (at + length (text_of rows)) (p || is_promise i) more rest → DataMayCome at p (rows ++ more) rest
may_more at p rows more x rest i good h e may =
    let begins = may.begins in
    let after = begins.0 in
    let front : List ℕ = text_of more ++ may.line in
    let next : List ℕ = front ++ 10 ∷ after in
    let now : x ≡ front ++ 10 ∷ may.first.rest = e ∙ ap (λ (t : List ℕ). text_of more ++ t) may.first.spelled ∙ sym (append_assoc (text_of more) may.line (10 ∷ may.first.rest)) in
    let one : (text_of more ++ (may.line ++ 10 ∷ [])) ++ after ≡ next =
    append_assoc (text_of more) (may.line ++ 10 ∷ []) after ∙ ap (λ (t : List ℕ). text_of more ++ t) (append_assoc may.line (10 ∷ []) after) ∙ sym (append_assoc (text_of more) may.line (10 ∷ after)) in
    let whole : (text_of (rows ++ more) ++ (may.line ++ 10 ∷ [])) ++ after ≡ text_of rows ++ ((text_of more ++ (may.line ++ 10 ∷ [])) ++ after) =
    ap (λ (t : List ℕ). (t ++ (may.line ++ 10 ∷ [])) ++ after) (text_of-append rows more) ∙ ap (λ (t : List ℕ). t ++ after) (append_assoc (text_of rows) (text_of more) (may.line ++ 10 ∷ [])) ∙ append_assoc (text_of rows) (text_of more ++ (may.line ++ 10 ∷ [])) after in
    let there : AreRows rows ((text_of more ++ (may.line ++ 10 ∷ [])) ++ after) = subst (AreRows rows) (sym one) (rows-next rows (front ++ 10 ∷ may.first.rest) next (allows-line front may.first.rest after) (subst (AreRows rows) now good)) in
    record {
      line = may.line;
      first = may.first;
      begins = (after, commands_of (i ∷ []) ++ begins.1, prepend at p ((text_of (rows ++ more) ++ (may.line ++ 10 ∷ [])) ++ after) rows ((text_of more ++ (may.line ++ 10 ∷ [])) ++ after) i begins.1 whole there h begins.2);
    }

pub limit_more : (at : ℕ) (p : Bool) (text : List ℕ) (rows : List Row) (x : List ℕ) (i : Item) (cs : List Command) (which : Which) (number : ℕ) → text ≡ text_of rows ++ x → AreRows rows x → AllFit at rows x → IsItem (placed at rows) i → PassesFirst (at + length (text_of rows)) (p || is_promise i) x cs which number → PassesFirst at p text (commands_of (i ∷ []) ++ cs) which number
limit_more at p text rows x i cs which number e good fit h g = record {
  rows = rows ++ g.rows;
  rest = g.rest;
  before = reaches_more at p text x rows g.rows g.rest i cs e good h g.before;
  fit = fit-append at rows g.rows g.rest (subst (AllFit at rows) g.before.spelled fit) g.fit;
  passes = elim g.passes [
    | inl l ↦ inl (subst (λ (n : ℕ). LinePasses n g.rest which number) (sizes at rows g.rows) l)
    | inr d ↦ inr (subst (λ (n : ℕ). DataPasses n g.rest which number) (sizes at rows g.rows) d.0, may_more at p rows g.rows x g.rest i good h g.before.spelled d.1)
  ];
}

-- what an item in front leaves, with its command
abbrev pub Carries : (Position → List Command → Type 0) → Type 0
Carries P = (a b : Position) (i : Item) (cs : List Command) → Starts a b i → P b cs → P a (commands_of (i ∷ []) ++ cs)

pub stream_carries : Carries (λ b cs. IsStreamWithin b.at b.promised b.left cs)
stream_carries a b i cs s w =
    stream_more a.at a.promised a.left s.rows b.left i cs s.spelled s.good s.fit s.said (subst (λ (n : ℕ). IsStreamWithin n (a.promised || is_promise i) b.left cs) s.here (subst (λ (q : Bool). IsStreamWithin b.at q b.left cs) s.promised w))

-- the same, with what stands behind the last row
pub before_carries : (ending : List ℕ) → Carries (λ b cs. IsStreamBefore b.at b.promised b.left cs ending)
before_carries ending a b i cs s w =
    let v : IsStreamBefore (a.at + length (text_of s.rows)) (a.promised || is_promise i) b.left cs ending =
    subst (λ (n : ℕ). IsStreamBefore n (a.promised || is_promise i) b.left cs ending) s.here (subst (λ (q : Bool). IsStreamBefore b.at q b.left cs ending) s.promised w) in
    record { stream = stream_more a.at a.promised a.left s.rows b.left i cs s.spelled s.good s.fit s.said v.stream; ends = v.ends }

pub fault_carries : (place : ℕ) (why : StreamWhy) → Carries (λ b cs. IsFaultWithin b.at b.promised b.left cs place why)
fault_carries place why a b i cs s f =
    fault_more a.at a.promised a.left s.rows b.left i cs place why s.spelled s.good s.fit s.said (λ k. s.ended (subst (λ (n : ℕ). LineFits n b.left) (sym s.here) k))
    (subst (λ (n : ℕ). IsFaultWithin n (a.promised || is_promise i) b.left cs place why) s.here (subst (λ (q : Bool). IsFaultWithin b.at q b.left cs place why) s.promised f))

pub limit_carries : (which : Which) (number : ℕ) → Carries (λ b cs. PassesFirst b.at b.promised b.left cs which number)
limit_carries which number a b i cs s g =
    limit_more a.at a.promised a.left s.rows b.left i cs which number s.spelled s.good s.fit s.said (subst (λ (n : ℕ). PassesFirst n (a.promised || is_promise i) b.left cs which number) s.here (subst (λ (q : Bool). PassesFirst b.at q b.left cs which number) s.promised g))

commands-append : (is js : List Item) → commands_of (is ++ js) ≡ commands_of is ++ commands_of js
commands-append [] js = refl
commands-append (Says c ∷ is) js = ap (λ (t : List Command). c ∷ t) (commands-append is js)
commands-append (Promise ∷ is) js = commands-append is js
commands-append (Nothing ∷ is) js = commands-append is js

first_command : (i : Item) (is : List Item) (cs : List Command) → commands_of (i ∷ []) ++ (commands_of is ++ cs) ≡ commands_of (i ∷ is) ++ cs
first_command (Says c) is cs = refl
first_command Promise is cs = refl
first_command Nothing is cs = refl

carries_all : (P : Position → List Command → Type 0) → Carries P → (a b : Position) (items : List Item) (cs : List Command) → StartsAll a b items → P b cs → P a (commands_of items ++ cs)
carries_all P carry a b [] cs e w = subst (λ (x : Position). P x cs) (sym e) w
carries_all P carry a b (i ∷ items) cs s w = subst (P a) (first_command i items cs) (carry a s.0 i (commands_of items ++ cs) s.1 (carries_all P carry s.0 b items cs s.2 w))

pub carries_with : (P : Position → List Command → Type 0) → Carries P → (a b : Position) (front cs : List Command) → StartsWith a b front → P b cs → P a (front ++ cs)
carries_with P carry a b front cs s w = subst (λ (t : List Command). P a (t ++ cs)) (sym s.these) (carries_all P carry a b s.items cs s.starts w)

starts_append : (a b c : Position) (is js : List Item) → StartsAll a b is → StartsAll b c js → StartsAll a c (is ++ js)
starts_append a b c [] js e t = subst (λ (x : Position). StartsAll x c js) (sym e) t
starts_append a b c (i ∷ is) js s t = (s.0, s.1, starts_append s.0 b c is js s.2 t)

pub starts_join : (a b c : Position) (xs ys : List Command) → StartsWith a b xs → StartsWith b c ys → StartsWith a c (xs ++ ys)
starts_join a b c xs ys s t = record {
  items = s.items ++ t.items;
  starts = starts_append a b c s.items t.items s.starts t.starts;
  these = ap (λ (x : List Command). x ++ ys) s.these ∙ ap (λ (y : List Command). commands_of s.items ++ y) t.these ∙ sym (commands-append s.items t.items);
}

-- a row among rows that pass no limit
fit_at : (at : ℕ) (rows : List Row) (r : Row) (more : List Row) (x : List ℕ) → AllFit at (rows ++ r ∷ more) x → Fits (at + length (text_of rows)) (text_of (r ∷ more) ++ x)
fit_at at [] r more x h = subst (λ (n : ℕ). Fits n (text_of (r ∷ more) ++ x)) (omega arith) h.0
fit_at at (q ∷ rows) r more x h =
    let n : at + length (row_text q) + length (text_of rows) ≡ at + length (text_of (q ∷ rows)) = omega (arith, length-append (row_text q) (text_of rows)) in
    subst (λ (m : ℕ). Fits m (text_of (r ∷ more) ++ x)) n (fit_at (at + length (row_text q)) rows r more x h.1)

fits_not : (n : ℕ) (text : List ℕ) (which : Which) (number : ℕ) {M : Type 0} → Fits n text → LinePasses n text which number ⊎ (DataPasses n text which number × M) → ⊥
fits_not n text which number f (inl l) = f.line which number l
fits_not n text which number f (inr d) = f.inside which number d.0

-- no limit is passed at a row that passes none
not_at : (at : ℕ) (p : Bool) (text : List ℕ) (ds : List Command) (which : Which) (number : ℕ) (g : PassesFirst at p text ds which number) (rows : List Row) (r : Row) (more : List Row) (x : List ℕ) → AllFit at rows x → rows ≡ g.rows ++ r ∷ more → g.rest ≡ text_of (r ∷ more) ++ x → ⊥
not_at at p text ds which number g rows r more x fit e t =
    fits_not (at + length (text_of g.rows)) g.rest which number (subst (Fits (at + length (text_of g.rows))) (sym t) (fit_at at g.rows r more x (subst (λ (z : List Row). AllFit at z x) e fit))) g.passes

same_size : (at : ℕ) (rs qs : List Row) → rs ≡ qs → at + length (text_of rs) ≡ at + length (text_of qs)
same_size at rs qs e = ap (λ (z : List Row). at + length (text_of z)) e

-- A stream within the limits passes none.
pub stream_or_limit : (at : ℕ) (p : Bool) (text : List ℕ) (cs ds : List Command) (which : Which) (number : ℕ) → IsStreamWithin at p text cs → PassesFirst at p text ds which number → ⊥
stream_or_limit at p text cs ds which number w g =
    let s = w.stream in
    elim (goes_on s.rows g.rows s.ending g.rest s.whole.good g.before.good (sym s.spelled ∙ g.before.spelled)) [
      | inl h ↦ behind h.0 h.1 h.2 h.3 s.whole.ends
      | inr h ↦ not_at at p text ds which number g s.rows h.0 h.1 s.ending w.fit h.2 h.3
    ]
  where
    behind : (more : List Row) → g.rows ≡ w.stream.rows ++ more → w.stream.ending ≡ text_of more ++ g.rest → AreRows more g.rest → {b : Bool} → ((w.stream.ending ≡ []) × (b ≡ false)) ⊎ ((after : List ℕ) × (w.stream.ending ≡ codes "done" ++ 10 ∷ after)) → ⊥
    behind [] e t a ends =
        let rows : g.rows ≡ w.stream.rows = e ∙ append_nil w.stream.rows in
        let n : ℕ = at + length (text_of w.stream.rows) in
        let inside : (which : Which) (number : ℕ) → DataPasses n w.stream.ending which number → ⊥ = elim ends [
          | inl k ↦ subst (λ (z : List ℕ). (which : Which) (number : ℕ) → DataPasses n z which number → ⊥) (sym k.0) (endless_fits n [] (λ h. let l = h.1 in absurd (omega (arith, l))))
          | inr k ↦ closed_fits n w.stream.ending (codes "done") (record { rest = k.0; spelled = k.1; one_line = absent 10 (codes "done") refl }) done_closed
        ] in
        let fits : Fits n w.stream.ending = record { line = w.end_fits; inside = inside } in
        fits_not (at + length (text_of g.rows)) g.rest which number (subst (λ (m : ℕ). Fits m g.rest) (sym (same_size at g.rows w.stream.rows rows)) (subst (Fits n) t fits)) g.passes
    behind (r ∷ m) e t a (inl k) = not_nil r.line (r.raw ++ (text_of m ++ g.rest)) 10 (sym (row_cut r m g.rest) ∙ sym t ∙ k.0)
    behind (r ∷ m) e t a (inr k) =
        let same = row_line r m (codes "done") k.0 g.rest (absent 10 (codes "done") refl) a (sym k.1 ∙ t) in
        not_begun at p w.stream.rows r m (subst (BeginsRows at p) e g.before.may) (ap is_comment same) (ap kept same)

out_closed : (line : List ℕ) → is_left_out line ≡ true → Opens line → ⊥
out_closed line e (raw, bytes, next, inl d) = let f : is_left_out line ≡ false = ap is_left_out d.line in let t : true ≡ false = sym e ∙ f in absurd cc
out_closed line e (raw, bytes, next, inr d) = let f : is_left_out line ≡ false = ap is_left_out d.line in let t : true ≡ false = sym e ∙ f in absurd cc

line_or_limit : (at : ℕ) (p : Bool) (text : List ℕ) (cs ds : List Command) (place : ℕ) (out : Bool) (which : Which) (number : ℕ) → IsLineFaultWithin at p text cs place out → PassesFirst at p text ds which number → ⊥
line_or_limit at p text cs ds place out which number w g =
    let f = w.fault in
    elim (goes_on f.rows g.rows (f.line ++ 10 ∷ f.rest) g.rest f.before.good g.before.good (sym f.before.spelled ∙ g.before.spelled)) [
      | inl h ↦ behind h.0 h.1 h.2 h.3
      | inr h ↦ not_at at p text ds which number g f.rows h.0 h.1 (f.line ++ 10 ∷ f.rest) w.fit h.2 h.3
    ]
  where
    line : List ℕ
    line = w.fault.line

    first : FirstLine (line ++ 10 ∷ w.fault.rest) line
    first = record { rest = w.fault.rest; spelled = refl; one_line = w.fault.one_line }

    -- data do not come at the line
    no_data : (o : Bool) → out ≡ o → (n : ℕ) → g.rows ≡ w.fault.rows → g.rest ≡ line ++ 10 ∷ w.fault.rest → DataPasses n g.rest which number → DataMayCome at p g.rows g.rest → ⊥
    no_data true e n rows t d may = closed_fits n g.rest line (subst (λ (z : List ℕ). FirstLine z line) (sym t) first) (out_closed line (w.fault.out ∙ e)) which number d
    no_data false e n rows t d may =
        let same : may.line ≡ line = one_line g.rest may.line line may.first (subst (λ (z : List ℕ). FirstLine z line) (sym t) first) in
        w.fault.dead e (subst (λ (z : List ℕ). BeginsStream at p (text_of w.fault.rows ++ (z ++ 10 ∷ []))) same (subst (λ (z : List Row). BeginsStream at p (text_of z ++ (may.line ++ 10 ∷ []))) rows may.begins))

    behind : (more : List Row) → g.rows ≡ w.fault.rows ++ more → line ++ 10 ∷ w.fault.rest ≡ text_of more ++ g.rest → AreRows more g.rest → ⊥
    behind [] e t a =
        let rows : g.rows ≡ w.fault.rows = e ∙ append_nil w.fault.rows in
        let fits : LineFits (at + length (text_of g.rows)) g.rest = subst (λ (m : ℕ). LineFits m g.rest) (sym (same_size at g.rows w.fault.rows rows)) (subst (LineFits (at + length (text_of w.fault.rows))) t w.line_fits) in
        elim g.passes [
          | inl l ↦ fits which number l
          | inr d ↦ no_data out refl (at + length (text_of g.rows)) rows (sym t) d.0 d.1
        ]
    behind (r ∷ m) e t a = passed at p text cs place out w.fault r m (subst (BeginsRows at p) e g.before.may) (row_line r m line w.fault.rest g.rest w.fault.one_line a t)

end_or_limit : (at : ℕ) (p : Bool) (text : List ℕ) (cs ds : List Command) (place : ℕ) (which : Which) (number : ℕ) → IsEndFaultWithin at p text cs place → PassesFirst at p text ds which number → ⊥
end_or_limit at p text cs ds place which number w g =
    let f = w.fault in
    elim (goes_on f.rows g.rows f.rest g.rest f.before.good g.before.good (sym f.before.spelled ∙ g.before.spelled)) [
      | inl h ↦ behind h.0 h.1 h.2 h.3
      | inr h ↦ not_at at p text ds which number g f.rows h.0 h.1 f.rest w.fit h.2 h.3
    ]
  where
    behind : (more : List Row) → g.rows ≡ w.fault.rows ++ more → w.fault.rest ≡ text_of more ++ g.rest → AreRows more g.rest → ⊥
    behind [] e t a =
        let rows : g.rows ≡ w.fault.rows = e ∙ append_nil w.fault.rows in
        fits_not (at + length (text_of g.rows)) g.rest which number (subst (λ (m : ℕ). Fits m g.rest) (sym (same_size at g.rows w.fault.rows rows)) (subst (Fits (at + length (text_of w.fault.rows))) t w.end_fits)) g.passes
    behind (r ∷ m) e t a = w.fault.cut r (text_of m ++ g.rest) (t ∙ append_assoc (row_text r) (text_of m) g.rest) a.0

-- A text whose first fault is within the limits passes none.
pub fault_or_limit : (at : ℕ) (p : Bool) (text : List ℕ) (cs ds : List Command) (place : ℕ) (why : StreamWhy) (which : Which) (number : ℕ) → IsFaultWithin at p text cs place why → PassesFirst at p text ds which number → ⊥
fault_or_limit at p text cs ds place Grammar which number f g = line_or_limit at p text cs ds place false which number f g
fault_or_limit at p text cs ds place LeftOut which number f g = line_or_limit at p text cs ds place true which number f g
fault_or_limit at p text cs ds place End which number f g = end_or_limit at p text cs ds place which number f g
fault_or_limit at p text cs ds place Mark which number f g = f
fault_or_limit at p text cs ds place Branch which number f g = f
fault_or_limit at p text cs ds place Place which number f g = f

-- Two limits are passed after the same rows, which are the same commands.
pub two_limits : (at : ℕ) (p : Bool) (text : List ℕ) (cs ds : List Command) (which other : Which) (number count : ℕ) (f : PassesFirst at p text cs which number) (g : PassesFirst at p text ds other count) → (cs ≡ ds) × (f.rows ≡ g.rows)
two_limits at p text cs ds which other number count f g =
    let rows : f.rows ≡ g.rows = elim (goes_on f.rows g.rows f.rest g.rest f.before.good g.before.good (sym f.before.spelled ∙ g.before.spelled)) [
      | inl h ↦ on h.0 h.1 h.2
      | inr h ↦ absurd (not_at at p text ds other count g f.rows h.0 h.1 f.rest f.fit h.2 h.3)
    ] in
    (same_reach at p text f.rows g.rows f.rest g.rest cs ds f.before g.before rows, rows)
  where
    on : (more : List Row) → g.rows ≡ f.rows ++ more → f.rest ≡ text_of more ++ g.rest → f.rows ≡ g.rows
    on [] e t = sym (e ∙ append_nil f.rows)
    on (r ∷ m) e t = absurd (not_at at p text cs which number f g.rows r m g.rest g.fit e t)

pub same_fault : (at : ℕ) (p : Bool) (text : List ℕ) (cs : List Command) (place : ℕ) (why : StreamWhy) → IsFaultWithin at p text cs place why → IsFault at p text cs place why
same_fault at p text cs place Grammar f = f.fault
same_fault at p text cs place LeftOut f = f.fault
same_fault at p text cs place End f = f.fault
same_fault at p text cs place Mark f = f
same_fault at p text cs place Branch f = f
same_fault at p text cs place Place f = f
