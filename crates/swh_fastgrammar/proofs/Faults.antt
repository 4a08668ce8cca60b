-- A stream has no fault, and a text has one fault at most.
use Rattle.std.proofs.Common.{◌≡◌, ℕ, ◌+◌, ◌⊎◌, inl, inr, Bool, true, false, List, [], ◌∷◌, ◌++◌, length, Contains, refl, sym, ap, ◌∙◌, subst, arith, append_assoc, codes}
use Rattle.swh_base.proofs.Splits.{first_split, absent, not_nil}
use Rattle.swh_fastgrammar.specs.declared.command.Command.{Command}
use Rattle.swh_fastgrammar.specs.declared.fault.StreamWhy.{StreamWhy}
use Rattle.swh_fastgrammar.specs.declared.fault.StreamWhy.TheVariants.{Grammar, End, LeftOut, Mark, Branch, Place}
use Rattle.swh_fastgrammar.specs.Fault.{BeginsRows, is_left_out, IsLineFault, IsEndFault, IsFault}
use Rattle.swh_fastgrammar.specs.Grammar.{IsWhole, IsStream}
use Rattle.swh_fastgrammar.specs.Row.{Row, row_text, text_of, Opens, IsRow, AreRows, is_comment}
use Rattle.swh_fastgrammar.proofs.Kept.{kept, not_whole, not_begun, out_not_kept, out_counts}
use Rattle.swh_fastgrammar.proofs.Rows.{goes_on, in_tail}

pub append_nil : {X : Type 0} (a : List X) → a ++ [] ≡ a
append_nil [] = refl
append_nil {X} (c ∷ a) = ap (λ (t : List X). c ∷ t) (append_nil a)

pub text_of-append : (rs qs : List Row) → text_of (rs ++ qs) ≡ text_of rs ++ text_of qs
text_of-append [] qs = refl
text_of-append (r ∷ rs) qs = ap (λ (t : List ℕ). row_text r ++ t) (text_of-append rs qs) ∙ sym (append_assoc (row_text r) (text_of rs) (text_of qs))

-- a row in front of a text, cut after its line
pub row_cut : (r : Row) (m : List Row) (x : List ℕ) → text_of (r ∷ m) ++ x ≡ r.line ++ 10 ∷ (r.raw ++ (text_of m ++ x))
row_cut r m x = append_assoc (row_text r) (text_of m) x ∙ append_assoc r.line (10 ∷ r.raw) (text_of m ++ x)

-- a line and the row that the same text begins with
pub row_line : (r : Row) (m : List Row) (line rest x : List ℕ) → (Contains line 10 → ⊥) → AreRows (r ∷ m) x → line ++ 10 ∷ rest ≡ text_of (r ∷ m) ++ x → r.line ≡ line
row_line r m line rest x n a e = sym (first_split 10 line r.line rest (r.raw ++ (text_of m ++ x)) n a.0.one_line (e ∙ row_cut r m x)).0

-- no stream goes on past the line of a fault
pub passed : (at : ℕ) (p : Bool) (text : List ℕ) (cs : List Command) (place : ℕ) (b : Bool) (f : IsLineFault at p text cs place b) (r : Row) (m : List Row) → BeginsRows at p (f.rows ++ r ∷ m) → r.line ≡ f.line → ⊥
passed at p text cs place true f r m g e = not_begun at p f.rows r m g (ap is_comment e ∙ out_counts f.line f.out) (ap kept e ∙ out_not_kept f.line f.out)
passed at p text cs place false f r m g e =
    let x = r.raw ++ (text_of (m ++ g.more) ++ g.ending) in
    let tail : text_of (r ∷ (m ++ g.more)) ++ g.ending ≡ f.line ++ 10 ∷ x = row_cut r (m ++ g.more) g.ending ∙ ap (λ (l : List ℕ). l ++ 10 ∷ x) e in
    let whole : text_of ((f.rows ++ r ∷ m) ++ g.more) ++ g.ending ≡ text_of f.rows ++ (f.line ++ 10 ∷ x) =
    ap (λ (t : List Row). text_of t ++ g.ending) (append_assoc f.rows (r ∷ m) g.more) ∙ ap (λ (t : List ℕ). t ++ g.ending) (text_of-append f.rows (r ∷ (m ++ g.more)))
    ∙ append_assoc (text_of f.rows) (text_of (r ∷ (m ++ g.more))) g.ending ∙ ap (λ (t : List ℕ). text_of f.rows ++ t) tail in
    let joined : (text_of f.rows ++ (f.line ++ 10 ∷ [])) ++ x ≡ text_of f.rows ++ (f.line ++ 10 ∷ x) =
    append_assoc (text_of f.rows) (f.line ++ 10 ∷ []) x ∙ ap (λ (t : List ℕ). text_of f.rows ++ t) (append_assoc f.line (10 ∷ []) x) in
    f.dead refl (x, g.commands, record { rows = (f.rows ++ r ∷ m) ++ g.more; ending = g.ending; spelled = joined ∙ sym whole; whole = g.whole })

-- a line that is left out is no stream's
pub no_left_out : (at : ℕ) (p : Bool) (text : List ℕ) (cs before : List Command) (place : ℕ) → IsStream at p text cs → IsLineFault at p text before place true → ⊥
no_left_out at p text cs before place s f =
    elim (goes_on s.rows f.rows s.ending (f.line ++ 10 ∷ f.rest) s.whole.good f.before.good (sym s.spelled ∙ f.before.spelled)) [
      | inl g ↦ ended g.0 g.1 g.2 g.3 s.whole.ends
      | inr g ↦
          let e = row_line g.0 g.1 f.line f.rest s.ending f.one_line g.4 g.3 in
          not_whole at p f.rows g.0 g.1 s.ending cs (subst (λ (t : List Row). IsWhole at p t s.ending cs) g.2 s.whole) (ap is_comment e ∙ out_counts f.line f.out) (ap kept e ∙ out_not_kept f.line f.out)
    ]
  where
    plain_done : Contains (codes "done") 10 → ⊥
    plain_done = absent 10 (codes "done") refl

    ended : (more : List Row) → f.rows ≡ s.rows ++ more → s.ending ≡ text_of more ++ (f.line ++ 10 ∷ f.rest) → AreRows more (f.line ++ 10 ∷ f.rest) → {b : Bool} → ((s.ending ≡ []) × (b ≡ false)) ⊎ ((after : List ℕ) × (s.ending ≡ codes "done" ++ 10 ∷ after)) → ⊥
    ended [] e g a (inl n) = not_nil f.line f.rest 10 (sym g ∙ n.0)
    ended (r ∷ m) e g a (inl n) = not_nil r.line (r.raw ++ (text_of m ++ (f.line ++ 10 ∷ f.rest))) 10 (sym (row_cut r m (f.line ++ 10 ∷ f.rest)) ∙ sym g ∙ n.0)
    ended [] e g a (inr n) =
        let same = (first_split 10 (codes "done") f.line n.0 f.rest plain_done f.one_line (sym n.1 ∙ g)).0 in
        let t : false ≡ true = ap is_left_out same ∙ f.out in
        absurd cc
    ended (r ∷ m) e g a (inr n) =
        let same = row_line r m (codes "done") n.0 (f.line ++ 10 ∷ f.rest) plain_done a (sym n.1 ∙ g) in
        not_begun at p s.rows r m (subst (BeginsRows at p) e f.before.may) (ap is_comment same) (ap kept same)

pub no_fault : (at : ℕ) (p : Bool) (text : List ℕ) (cs before : List Command) (place : ℕ) (why : StreamWhy) → IsStream at p text cs → IsFault at p text before place why → ⊥
no_fault at p text cs before place Grammar s f =
    let whole : text ≡ (text_of f.rows ++ (f.line ++ 10 ∷ [])) ++ f.rest =
    f.before.spelled ∙ ap (λ (x : List ℕ). text_of f.rows ++ x) (sym (append_assoc f.line (10 ∷ []) f.rest)) ∙ sym (append_assoc (text_of f.rows) (f.line ++ 10 ∷ []) f.rest) in
    f.dead refl (f.rest, cs, subst (λ (x : List ℕ). IsStream at p x cs) whole s)
no_fault at p text cs before place End s f = f.none cs s
no_fault at p text cs before place LeftOut s f = no_left_out at p text cs before place s f
no_fault at p text cs before place Mark s f = f
no_fault at p text cs before place Branch s f = f
no_fault at p text cs before place Place s f = f

-- of two lines that are faults neither stands before the other
two_lines : (at : ℕ) (p : Bool) (text : List ℕ) (cs ds : List Command) (place other : ℕ) (b c : Bool) → IsLineFault at p text cs place b → IsLineFault at p text ds other c → (place ≡ other) × (b ≡ c)
two_lines at p text cs ds place other b c f g =
    elim (goes_on f.rows g.rows (f.line ++ 10 ∷ f.rest) (g.line ++ 10 ∷ g.rest) f.before.good g.before.good (sym f.before.spelled ∙ g.before.spelled)) [
      | inl h ↦ on h.0 h.1 h.2 h.3
      | inr h ↦ absurd (passed at p text ds other c g h.0 h.1 (subst (BeginsRows at p) h.2 f.before.may) (row_line h.0 h.1 g.line g.rest (f.line ++ 10 ∷ f.rest) g.one_line h.4 h.3))
    ]
  where
    on : (more : List Row) → g.rows ≡ f.rows ++ more → f.line ++ 10 ∷ f.rest ≡ text_of more ++ (g.line ++ 10 ∷ g.rest) → AreRows more (g.line ++ 10 ∷ g.rest) → (place ≡ other) × (b ≡ c)
    on [] e t a =
        let lines = (first_split 10 f.line g.line f.rest g.rest f.one_line g.one_line t).0 in
        let rows : g.rows ≡ f.rows = e ∙ append_nil f.rows in
        (f.here ∙ ap (λ (x : List Row). at + length (text_of x)) (sym rows) ∙ sym g.here, sym f.out ∙ ap is_left_out lines ∙ g.out)
    on (r ∷ m) e t a = absurd (passed at p text cs place b f r m (subst (BeginsRows at p) e g.before.may) (row_line r m f.line f.rest (g.line ++ 10 ∷ g.rest) f.one_line a t))

-- a line that is left out is a row by itself
out_row : (line next : List ℕ) → (Contains line 10 → ⊥) → is_left_out line ≡ true → IsRow (record { line = line; raw = [] }) next
out_row line next n e = record { one_line = n; after = inr (closed, refl) }
  where
    closed : Opens line → ⊥
    closed (raw, bytes, after, inl d) = let t : false ≡ true = ap is_left_out (sym d.line) ∙ e in absurd cc
    closed (raw, bytes, after, inr d) = let t : false ≡ true = ap is_left_out (sym d.line) ∙ e in absurd cc

in_middle : (a b : List ℕ) → Contains (a ++ 10 ∷ b) 10
in_middle a b = in_tail a (10 ∷ b) 10 (0, omega arith, refl)

-- a line that is a fault, and an end that is one
line_end : (at : ℕ) (p : Bool) (text : List ℕ) (cs ds : List Command) (place other : ℕ) (b : Bool) → IsLineFault at p text cs place b → IsEndFault at p text ds other → ⊥
line_end at p text cs ds place other b f g =
    elim (goes_on f.rows g.rows (f.line ++ 10 ∷ f.rest) g.rest f.before.good g.before.good (sym f.before.spelled ∙ g.before.spelled)) [
      | inl h ↦ on h.0 h.1 h.2 h.3 b refl
      | inr h ↦ g.cut h.0 (text_of h.1 ++ (f.line ++ 10 ∷ f.rest)) (h.3 ∙ append_assoc (row_text h.0) (text_of h.1) (f.line ++ 10 ∷ f.rest)) h.4.0
    ]
  where
    on : (more : List Row) → g.rows ≡ f.rows ++ more → f.line ++ 10 ∷ f.rest ≡ text_of more ++ g.rest → AreRows more g.rest → (c : Bool) → b ≡ c → ⊥
    on [] e t a true k = g.cut (record { line = f.line; raw = [] }) f.rest (sym t ∙ sym (append_assoc f.line (10 ∷ []) f.rest)) (out_row f.line f.rest f.one_line (f.out ∙ k))
    on [] e t a false k = elim g.inside [
      | inl n ↦ n (subst (λ (x : List ℕ). Contains x 10) t (in_middle f.line f.rest))
      | inr s ↦
          let whole : text ++ s.0 ≡ (text_of f.rows ++ (f.line ++ 10 ∷ [])) ++ (f.rest ++ s.0) =
          ap (λ (x : List ℕ). x ++ s.0) f.before.spelled ∙ append_assoc (text_of f.rows) (f.line ++ 10 ∷ f.rest) s.0 ∙ ap (λ (x : List ℕ). text_of f.rows ++ x) (append_assoc f.line (10 ∷ f.rest) s.0 ∙ sym (append_assoc f.line (10 ∷ []) (f.rest ++ s.0)))
          ∙ sym (append_assoc (text_of f.rows) (f.line ++ 10 ∷ []) (f.rest ++ s.0)) in
          f.dead k (f.rest ++ s.0, s.1, subst (λ (x : List ℕ). IsStream at p x s.1) whole s.2)
    ]
    on (r ∷ m) e t a c k = passed at p text cs place b f r m (subst (BeginsRows at p) e g.before.may) (row_line r m f.line f.rest g.rest f.one_line a t)

pub one_fault : (at : ℕ) (p : Bool) (text : List ℕ) (cs ds : List Command) (place other : ℕ) (why because : StreamWhy) → IsFault at p text cs place why → IsFault at p text ds other because → (place ≡ other) × (why ≡ because)
one_fault at p text cs ds place other Grammar Grammar f g = ((two_lines at p text cs ds place other false false f g).0, refl)
one_fault at p text cs ds place other Grammar End f g = absurd (line_end at p text cs ds place other false f g)
one_fault at p text cs ds place other Grammar LeftOut f g = let t = (two_lines at p text cs ds place other false true f g).1 in absurd cc
one_fault at p text cs ds place other End Grammar f g = absurd (line_end at p text ds cs other place false g f)
one_fault at p text cs ds place other End End f g = (f.here ∙ sym g.here, refl)
one_fault at p text cs ds place other End LeftOut f g = absurd (line_end at p text ds cs other place true g f)
one_fault at p text cs ds place other LeftOut Grammar f g = let t = (two_lines at p text cs ds place other true false f g).1 in absurd cc
one_fault at p text cs ds place other LeftOut End f g = absurd (line_end at p text cs ds place other true f g)
one_fault at p text cs ds place other LeftOut LeftOut f g = ((two_lines at p text cs ds place other true true f g).0, refl)
one_fault at p text cs ds place other Mark because f g = absurd f
one_fault at p text cs ds place other Branch because f g = absurd f
one_fault at p text cs ds place other Place because f g = absurd f
one_fault at p text cs ds place other Grammar Mark f g = absurd g
one_fault at p text cs ds place other Grammar Branch f g = absurd g
one_fault at p text cs ds place other Grammar Place f g = absurd g
one_fault at p text cs ds place other End Mark f g = absurd g
one_fault at p text cs ds place other End Branch f g = absurd g
one_fault at p text cs ds place other End Place f g = absurd g
one_fault at p text cs ds place other LeftOut Mark f g = absurd g
one_fault at p text cs ds place other LeftOut Branch f g = absurd g
one_fault at p text cs ds place other LeftOut Place f g = absurd g
