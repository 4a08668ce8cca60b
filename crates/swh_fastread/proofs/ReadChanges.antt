-- Changes of a commit.
use Rattle.std.proofs.Common.{◌≡◌, ℕ, inl, inr, Bool, true, false, List, [], ◌∷◌, ◌++◌, refl, sym, ap, ◌∙◌, subst, arith, codes, None}
use Rattle.swh_fastgrammar.specs.declared.command.At.{At}
use Rattle.swh_fastgrammar.specs.declared.command.Change.{Change}
use Rattle.swh_fastgrammar.specs.declared.command.Change.TheVariants.{Set, Delete, Copy, Move, Clear}
use Rattle.swh_fastgrammar.specs.declared.command.Dataref.TheVariants.{Mark, Inline, Hex}
use Rattle.swh_base.specs.declared.visit.Which.TheVariants.{Path}
use Rattle.swh_fastgrammar.specs.Grammar.{line_at, contents, placed_line, change, change_word, change_brings, SaysChange}
use Rattle.swh_fastgrammar.specs.Row.{Opens, Placed}
use Rattle.swh_fastgrammar.proofs.Parts.{cons_cut}
use Rattle.swh_fastlines.specs.Limit.{PassesPaths}
use Rattle.swh_fastlines.specs.Reading.{LineSays, is_inline}
use Rattle.swh_fastrows.specs.declared.fail.Outside.{Outside}
use Rattle.swh_fastrows.specs.declared.fail.Outside.TheVariants.{Failed, Memory}
use Rattle.swh_fastrows.specs.Outside.{fail_of}
use Rattle.swh_fastrows.specs.Explains.{IsClear, EndsWhole}
use Rattle.swh_fastrows.specs.Held.{IsNext}
use Rattle.swh_fastrows.specs.Places.{ReaderState, Took, Part, NeverLine, position}
use Rattle.swh_fastread.specs.Tail.{IsOutside, IsSure, Stopped, FindsChange, ReadsSome, ReadsAll}
use Rattle.swh_fastrows.proofs.HeldLines.{taken, held_first, held_counts, line_taken}
use Rattle.swh_fastrows.proofs.Joins.{took_none, took_append, took_before}
use Rattle.swh_fastrows.proofs.NextLines.{same_next, closed_word, clear_lacks, lacks_placed}
use Rattle.swh_fastread.proofs.Remains.{many_append}

abbrev second : List ℕ → ℕ
second [] = 0
second (c ∷ []) = 0
second (c ∷ d ∷ t) = d

-- no line of a change opens data
pub change_closed : (c : Change) (text : List ℕ) → SaysChange text c → Opens (change_word c ++ text) → ⊥
change_closed (Set mode what path) text h o = closed_word (codes "M ") text refl o
change_closed (Delete path) text h o = closed_word (codes "D ") text refl o
change_closed (Copy source path) text h o = closed_word (codes "C ") text refl o
change_closed (Move source path) text h o = closed_word (codes "R ") text refl o
change_closed Clear text h (raw, bytes, next, inl d) = let n : 101 ≡ 97 = ap second d.line in omega (arith, n)
change_closed Clear text h (raw, bytes, next, inr d) = let n : 101 ≡ 97 = ap second d.line in omega (arith, n)

brings_none : (c : Change) → is_inline c ≡ false → change_brings c []
brings_none (Set mode (Mark mark) path) e = refl
brings_none (Set mode (Inline bytes) path) e = absurd cc
brings_none (Set mode (Hex id) path) e = refl
brings_none (Delete path) e = refl
brings_none (Copy source path) e = refl
brings_none (Move source path) e = refl
brings_none Clear e = refl

-- the held line of a change was taken
pub change_taken : (a : ReaderState) (line : List ℕ) (c : Change) → IsNext a → a.held ≡ line ++ 10 ∷ [] → LineSays line c → Took a (taken a) (line_at a.at line ∷ [])
change_taken a line c n e h = line_taken a a line (took_none a) e n (λ o. change_closed c h.0 h.2 (subst Opens h.1 o))

-- a change that is whole with its line
pub whole_change : (a : ReaderState) (line : List ℕ) (c : Change) (v : At Change) → IsNext a → a.held ≡ line ++ 10 ∷ [] → LineSays line c → is_inline c ≡ false → v.at ≡ a.at → v.it ≡ c → Part change a (taken a) v
whole_change a line c v n e h i here it =
    let h1 : LineSays line v.it = subst (LineSays line) (sym it) h in
    let i1 : is_inline v.it ≡ false = subst (λ (x : Change). is_inline x ≡ false) (sym it) i in
    record {
      rows = line_at a.at line ∷ [];
      took = change_taken a line c n e h;
      says = (h1.0, [], ap (λ (t : List ℕ). line_at a.at t ∷ []) h1.1 ∙ ap (λ (k : ℕ). line_at k (change_word v.it ++ h1.0) ∷ []) (sym here), h1.2, brings_none v.it i1);
    }

-- a change with the data after its line
pub inline_change : (a b : ReaderState) (line : List ℕ) (mode : ℕ) (path bytes : List ℕ) (v : At Change) → IsNext a → a.held ≡ line ++ 10 ∷ [] → LineSays line (Set mode (Inline bytes) path) → v.at ≡ a.at → v.it ≡ Set mode (Inline bytes) path → Part contents (taken a) b bytes → Part change a b v
inline_change a b line mode path bytes v n e h here it p =
    let c : Change = Set mode (Inline bytes) path in
    let row : (line_at a.at line ∷ p.rows) ≡ line_at v.at (change_word c ++ h.0) ∷ p.rows = ap (λ (t : List ℕ). line_at a.at t ∷ p.rows) h.1 ∙ ap (λ (k : ℕ). line_at k (change_word c ++ h.0) ∷ p.rows) (sym here) in
    let w : At Change = record { at = v.at; it = c } in
    let says : change (line_at a.at line ∷ p.rows) w = (h.0, p.rows, row, h.2, p.says) in
    let same : w ≡ v = ap (λ (x : Change). let q : At Change = record { at = v.at; it = x } in q) (sym it) in
    record {
      rows = line_at a.at line ∷ p.rows;
      took = took_append a (taken a) b (line_at a.at line ∷ []) p.rows (change_taken a line c n e h) p.took;
      says = subst (change (line_at a.at line ∷ p.rows)) same says;
    }

-- a line that is no change
pub stopped_change : (a : ReaderState) (line : List ℕ) → IsNext a → a.held ≡ line ++ 10 ∷ [] → ((c : Change) → LineSays line c → ⊥) → Stopped change a
stopped_change a line n e none = record {
  refused = λ p more x f h. none x.it (h.0, same_next a line n e p.row.line f ∙ ap (λ (q : Placed). q.row.line) (cons_cut p (line_at x.at (change_word x.it ++ h.0)) more h.1 h.2).0, h.3);
  counts = held_counts a line e n.line n.counts;
}

-- a line that passes a limit
pub clear_path : (a : ReaderState) (line : List ℕ) (number : ℕ) → IsNext a → a.held ≡ line ++ 10 ∷ [] → PassesPaths line number → IsClear (position a false) → ⊥
clear_path a line number n e p clear = clear Path number (record { line = line; first = held_first a line e n.line; counts = n.counts line e; passes = p })

-- what is held is no line of the part, where it is known what comes next
pub stopped_end : {X : Type 0} (L : List Placed → X → Type 0) (a : ReaderState) → EndsWhole a → IsSure a false → Stopped L a
stopped_end L a e (inl n) = absurd cc
stopped_end L a e (inr clear) = let l = clear_lacks L a a (took_none a) e clear in record { refused = l.refused; counts = l.counts }

-- one more was read
pub some_more : {X : Type 0} (L : List Placed → X → Type 0) (a b c d : ReaderState) (xs : List X) (x : X) → ReadsSome L a b xs → Part L b c x → Took c d [] → ReadsSome L a d (xs ++ x ∷ [])
some_more L a b c d xs x s p t = record {
  rows = s.rows ++ (p.rows ++ []);
  took = took_append a b d s.rows (p.rows ++ []) s.took (took_append b c d p.rows [] p.took t);
  says = many_append L s.rows (p.rows ++ []) xs (x ∷ []) s.says (p.rows, [], refl, p.says, refl);
}

-- comments after a part
pub part_after : {X : Type 0} (L : List Placed → X → Type 0) (a b c : ReaderState) (x : X) → Part L a b x → Took b c [] → Part L a c x
part_after L a b c x p t = record { rows = p.rows; took = took_before a b c p.rows p.took t; says = p.says }

-- a line of another word, or one that says nothing
pub stopped_placed : {X : Type 0} (word : List ℕ) (Tells : List ℕ → X → Type 0) (a : ReaderState) (line : List ℕ) → IsNext a → a.held ≡ line ++ 10 ∷ [] → NeverLine word Tells line → Stopped (placed_line word Tells) a
stopped_placed word Tells a line n e never = let l = lacks_placed word Tells a a line (took_none a) n e never in record { refused = l.refused; counts = l.counts }

-- no change comes next
pub changes_stop : (a b c : ReaderState) (xs ys : List (At Change)) → ReadsSome change a b xs → FindsChange b c None → ys ≡ xs → ReadsAll change a c false ys
changes_stop a b c xs ys s f e = record {
  some = subst (λ (p : ReaderState). ReadsSome change a p ys) (sym f.0) (subst (ReadsSome change a b) (sym e) s);
  stopped = stopped;
}
  where
    stopped : IsSure c false → Stopped change c
    stopped (inl n) = absurd cc
    stopped (inr clear) = subst (Stopped change) (sym f.0) (f.1 (subst (λ (p : ReaderState). IsClear (position p false)) f.0 clear))

-- nothing comes next within the limits
pub all_end : {X : Type 0} (L : List Placed → X → Type 0) (a b : ReaderState) (xs ys : List X) → ReadsSome L a b xs → EndsWhole b → ys ≡ xs → ReadsAll L a b false ys
all_end L a b xs ys s e same = record { some = subst (ReadsSome L a b) (sym same) s; stopped = stopped_end L b e }

-- another line comes next
pub all_line : {X : Type 0} (L : List Placed → X → Type 0) (a b : ReaderState) (xs ys : List X) → ReadsSome L a b xs → Stopped L b → ys ≡ xs → ReadsAll L a b true ys
all_line L a b xs ys s n same = record { some = subst (ReadsSome L a b) (sym same) s; stopped = λ sure. n }

-- what fails outside is no fault of the stream
pub outside_stops : (o : Outside) → IsOutside (fail_of o)
outside_stops Failed = tt
outside_stops Memory = tt

pub not_both : (b : Bool) → b ≡ true → b ≡ false → ⊥
not_both true e f = cc
not_both false e f = cc

pub next_true : (p m : Bool) → m ≡ true → (p ≡ false → m ≡ false) → p ≡ true
next_true true m e h = refl
next_true false m e h = absurd (not_both m e (h refl))
