-- Resets.
use Rattle.std.proofs.Common.{◌≡◌, ℕ, inl, inr, Bool, true, false, List, [], ◌∷◌, ◌++◌, refl, sym, ap, ◌∙◌, subst, arith, codes, IsTrue}
use Rattle.swh_fastgrammar.specs.declared.command.At.{At}
use Rattle.swh_fastgrammar.specs.declared.command.Commitish.{Commitish}
use Rattle.swh_fastgrammar.specs.declared.command.Start.{Start}
use Rattle.swh_fastgrammar.specs.declared.command.Start.TheVariants.{Absent, NoTip, Of}
use Rattle.swh_fastgrammar.specs.declared.command.Command.TheVariants.{Blob, Commit, Tag, Reset}
use Rattle.swh_fastrows.specs.Explains.{Reads, EndsWhole}
use Rattle.swh_fastgrammar.specs.Grammar.{line_at, line, target, zeros, Item, IsItem, IsCommand}
use Rattle.swh_fastgrammar.specs.Grammar.Item.{Says, Promise, Nothing}
use Rattle.swh_fastrows.specs.Held.{IsNext}
use Rattle.swh_fastrows.specs.Places.{ReaderState, Took}
use Rattle.swh_fastgrammar.specs.Row.{Opens, Placed}
use Rattle.swh_fastgrammar.specs.Word.{NamesRef, NamesCommit}
use Rattle.swh_fastlines.proofs.ItemLines.{kind}
use Rattle.swh_fastread.proofs.Begun.{after_single}
use Rattle.swh_fastrows.proofs.HeldLines.{taken, held_counts, line_taken}
use Rattle.swh_fastgrammar.proofs.Items.{line_single}
use Rattle.swh_fastrows.proofs.NextLines.{same_next, clear_lacks, closed_word}
use Rattle.swh_fastgrammar.proofs.Parts.{cons_cut}
use Rattle.swh_fastread.proofs.Commands.{reads_last}
use Rattle.swh_fastread.proofs.Remains.{Within}
use Rattle.swh_fastgrammar.proofs.Rows.{same_tail}

reset_back : (q : Placed) (more : List Placed) (i : Item) (name : List ℕ) → q.row.line ≡ codes "reset " ++ name → IsItem (q ∷ more) i → (s : Start) × target more s
reset_back q more (Says (Reset b s)) name e h = (s, after_single (line (codes "reset ") NamesRef) target (line_single (codes "reset ") NamesRef) q more (b, s) h)
reset_back q more (Says (Blob m bytes)) name e h = let n : 4 ≡ 1 = kind q more (Says (Blob m bytes)) (codes "reset " ++ name) e h in absurd (omega (arith, n))
reset_back q more (Says (Commit b m a c n g p s z)) name e h = let t : 4 ≡ 2 = kind q more (Says (Commit b m a c n g p s z)) (codes "reset " ++ name) e h in absurd (omega (arith, t))
reset_back q more (Says (Tag b m a t g)) name e h = let n : 4 ≡ 3 = kind q more (Says (Tag b m a t g)) (codes "reset " ++ name) e h in absurd (omega (arith, n))
reset_back q more Promise name e h = let n : 4 ≡ 5 = kind q more Promise (codes "reset " ++ name) e h in absurd (omega (arith, n))
reset_back q more Nothing name e h = let n : 4 ≡ 6 = kind q more Nothing (codes "reset " ++ name) e h in absurd (omega (arith, n))

abbrev pub reset_item : List ℕ → Start → Item
reset_item name s = Says (Reset name s)

pub reset_begun : (a b : ReaderState) (at : ℕ) (name : List ℕ) → Took a b (line_at at (codes "reset " ++ name) ∷ []) → NamesRef name name → Within IsItem a b target (reset_item name)
reset_begun a b at name t r = record {
  part = line_at at (codes "reset " ++ name) ∷ [];
  some = λ e. cc;
  took = t;
  remains = record {
    forth = λ more s h. (line_at at (codes "reset " ++ name) ∷ [], more, refl, (at, name, refl, r), h);
    back = λ more i n h. reset_back (line_at at (codes "reset " ++ name)) more i name refl h;
  };
}

pub reset_reads : (a b c : ReaderState) (at : ℕ) (name : List ℕ) (s : Start) → Took a b (line_at at (codes "reset " ++ name) ∷ []) → NamesRef name name → Reads target b c s → Reads IsCommand a c (Reset name s)
reset_reads a b c at name s t n r = reads_last a b c target (reset_item name) s (Reset name s) refl (reset_begun a b at name t n) r

-- a line that is no target
abbrev pub NeverTarget : List ℕ → Type 0
NeverTarget text = (said : List ℕ) → text ≡ codes "from " ++ said → ((c : Commitish) → NamesCommit said c → ⊥) × (said ≡ zeros → ⊥)

target_line : (q : Placed) (more : List Placed) (s : Start) → target (q ∷ more) s → NeverTarget q.row.line → ⊥
target_line q more Absent h n = cc
target_line q more NoTip h n = (n h.1 (ap (λ (x : Placed). x.row.line) (cons_cut q (line_at h.0 (codes "from " ++ h.1)) more [] h.2).0)).1 h.3
target_line q more (Of a) h n = (n h.0 (ap (λ (x : Placed). x.row.line) (cons_cut q (line_at a.at (codes "from " ++ h.0)) more [] h.1).0)).0 a.it h.2.0

-- what comes next is no target
pub absent_end : (a b : ReaderState) → Took a b [] → EndsWhole b → Reads target a b Absent
absent_end a b t e = record {
  rows = [];
  took = t;
  says = refl;
  closed = λ clear q more s m h.
      let l = clear_lacks target a b t e clear in
      elim m [
        | inl f ↦ l.refused q more s f h
        | inr f ↦ let u = l.counts f.0 f.1 in let v = f.2 in let d : true ≡ false = sym v ∙ u in absurd cc
      ];
}

pub absent_line : (a b : ReaderState) (text : List ℕ) → Took a b [] → IsNext b → b.held ≡ text ++ 10 ∷ [] → NeverTarget text → Reads target a b Absent
absent_line a b text t n e never = record {
  rows = [];
  took = t;
  says = refl;
  closed = λ clear q more s m h. elim m [
    | inl f ↦ target_line q more s h (subst NeverTarget (same_next b text n e q.row.line f) never)
    | inr f ↦ let u = held_counts b text e n.line n.counts f.0 f.1 in let v = f.2 in let d : true ≡ false = sym v ∙ u in absurd cc
  ];
}

one_row : (q p : Placed) (more : List Placed) (s : Start) → target (q ∷ p ∷ more) s → ⊥
one_row q p more Absent h = cc
one_row q p more NoTip h = let e = (cons_cut q (line_at h.0 (codes "from " ++ h.1)) (p ∷ more) [] h.2).1 in cc
one_row q p more (Of a) h = let e = (cons_cut q (line_at a.at (codes "from " ++ h.0)) (p ∷ more) [] h.1).1 in cc

from_taken : (a b : ReaderState) (text said : List ℕ) → Took a b [] → IsNext b → b.held ≡ text ++ 10 ∷ [] → text ≡ codes "from " ++ said → Took a (taken b) (line_at b.at (codes "from " ++ said) ∷ [])
from_taken a b text said t n e same =
    subst (λ (x : List ℕ). Took a (taken b) (line_at b.at x ∷ [])) same (line_taken a b text t e n (λ o. closed_word (codes "from ") said refl (subst Opens same o)))

pub no_tip : (a b : ReaderState) (text said : List ℕ) → Took a b [] → IsNext b → b.held ≡ text ++ 10 ∷ [] → text ≡ codes "from " ++ said → said ≡ zeros → Reads target a (taken b) NoTip
no_tip a b text said t n e same z = record {
  rows = line_at b.at (codes "from " ++ said) ∷ [];
  took = from_taken a b text said t n e same;
  says = (b.at, said, refl, z);
  closed = λ clear q more s m h. one_row (line_at b.at (codes "from " ++ said)) q more s h;
}

pub some_tip : (a b : ReaderState) (text said : List ℕ) (v : At Commitish) → Took a b [] → IsNext b → b.held ≡ text ++ 10 ∷ [] → text ≡ codes "from " ++ said → NamesCommit said v.it → (said ≡ zeros → ⊥) → v.at ≡ b.at → Reads target a (taken b) (Of v)
some_tip a b text said v t n e same h z here = record {
  rows = line_at b.at (codes "from " ++ said) ∷ [];
  took = from_taken a b text said t n e same;
  says = (said, ap (λ (k : ℕ). line_at k (codes "from " ++ said) ∷ []) (sym here), (h, z));
  closed = λ clear q more s m k. one_row (line_at b.at (codes "from " ++ said)) q more s k;
}

pub never_target : (text said : List ℕ) → text ≡ codes "from " ++ said → ((c : Commitish) → NamesCommit said c → ⊥) → (said ≡ zeros → ⊥) → NeverTarget text
never_target text said e n z other f =
    let same : other ≡ said = same_tail (codes "from ") other said (sym f ∙ e) in
    (λ c h. n c (subst (λ (t : List ℕ). NamesCommit t c) same h), λ h. z (sym same ∙ h))

pub not_so : {P : Type 0} (r : Bool) → (P → IsTrue r) → r ≡ false → P → ⊥
not_so r up e h = let t = up h in let u : IsTrue false = subst IsTrue e t in absurd cc

pub so : {P : Type 0} (r : Bool) → (IsTrue r → P) → r ≡ true → P
so r down e = down (subst IsTrue (sym e) refl)
