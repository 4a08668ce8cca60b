-- The words of the kinds, and how far a text goes along with them.
use Rattle.std.proofs.Common.{◌≡◌, ◌≢◌, inl, inr, ℕ, ◌<◌, ◌≤◌, ◌==◌, if◌then◌else◌, max, true, false, List, ◌++◌, length, get_or, replicate, refl, sym, ap, ◌∙◌, subst, arith}
use Rattle.std.proofs.lemmas.Bool.{cases_lt}
use Rattle.swh_base.specs.Name.{IsIdText}
use Rattle.swh_base.specs.declared.kind.Kind.{Kind}
use Rattle.swh_base.specs.declared.kind.Kind.TheVariants.{Content, Directory, Revision, Release, Snapshot}
use Rattle.swh_base.proofs.Splits.{sized_split}
use Rattle.swh_swhid.specs.declared.identifier.Role.{Role}
use Rattle.swh_swhid.specs.declared.identifier.Role.TheVariants.{Text, Visit, Anchor}
use Rattle.swh_swhid.specs.Front.{BreaksAt, common}
use Rattle.swh_swhid.specs.Core.{accepts, kind_word, along, KindAndId}
use Rattle.swh_swhid.proofs.Fronts.{common-le, chosen_breaks}
use Rattle.swh_swhid.proofs.Ids.{zeros-id}

pub length-kind_word : (kind : Kind) → length (kind_word kind) ≡ 4
length-kind_word Content = refl
length-kind_word Directory = refl
length-kind_word Revision = refl
length-kind_word Release = refl
length-kind_word Snapshot = refl

abbrev kind_at : List ℕ → Kind
kind_at word = if get_or word 0 0 == 99 then Content else if get_or word 0 0 == 100 then Directory else if get_or word 0 0 == 115 then Snapshot else if get_or word 2 0 == 118 then Revision else Release

kind_at-word : (kind : Kind) → kind_at (kind_word kind) ≡ kind
kind_at-word Content = refl
kind_at-word Directory = refl
kind_at-word Revision = refl
kind_at-word Release = refl
kind_at-word Snapshot = refl

-- a kind's word and what follows it
pub one_kind : (k j : Kind) (x y : List ℕ) → kind_word k ++ x ≡ kind_word j ++ y → (k ≡ j) × (x ≡ y)
one_kind k j x y e =
    let both = sized_split (kind_word k) (kind_word j) x y (length-kind_word k ∙ sym (length-kind_word j)) e in
    (sym (kind_at-word k) ∙ ap kind_at both.0 ∙ kind_at-word j, both.1)

pub accepts-Snapshot : (place : Role) → accepts place Snapshot ≡ true
accepts-Snapshot Text = refl
accepts-Snapshot Visit = refl
accepts-Snapshot Anchor = refl

-- a kind that may stand here and goes along this far
record Best (place : Role) (text : List ℕ) (n : ℕ) : Type 0 where
  kind : Kind
  may : accepts place kind ≡ true
  far : n ≤ common (kind_word kind) text

best_of : (place : Role) (kind : Kind) (text : List ℕ) → Best place text (along place kind text)
best_of place kind text =
    elim (accepts place kind) as (λ b. accepts place kind ≡ b → Best place text (if b then common (kind_word kind) text else 0)) [
      | true ↦ λ e. record { kind = kind; may = e; far = omega arith }
      | false ↦ λ e. record { kind = Snapshot; may = accepts-Snapshot place; far = omega arith }
    ] refl

pub max_of : (P : ℕ → Type 0) (a b : ℕ) → P a → P b → P (max a b)
max_of P a b pa pb = elim (cases_lt a b) [
  | inl less ↦ let e : max a b ≡ b = omega arith in subst P (sym e) pb
  | inr more ↦ let e : max a b ≡ a = omega arith in subst P (sym e) pa
]

along-is : (place : Role) (kind : Kind) (text : List ℕ) → accepts place kind ≡ true → along place kind text ≡ common (kind_word kind) text
along-is place kind text e = rw e refl

-- a kind whose whole word the text begins with may stand here
pub accepted_along : (place : Role) (kind : Kind) (text : List ℕ) → along place kind text ≡ 4 → (accepts place kind ≡ true) × (4 ≤ common (kind_word kind) text)
accepted_along place kind text h =
    elim (accepts place kind) as (λ b. (if b then common (kind_word kind) text else 0) ≡ 4 → (b ≡ true) × (4 ≤ common (kind_word kind) text)) [
      | true ↦ λ e. (refl, omega (arith, e))
      | false ↦ λ e. absurd (omega (arith, e))
    ] h

record Far (n a : ℕ) : Type 0 where
  le : a ≤ n
  not_all : a ≢ 4

far_enough : (place : Role) (kind : Kind) (text : List ℕ) (n : ℕ) → Far n (along place kind text) → accepts place kind ≡ true → (common (kind_word kind) text ≤ n) × (common (kind_word kind) text < length (kind_word kind))
far_enough place kind text n far may =
    let le = far.le in
    let ne = far.not_all in
    let is = along-is place kind text may in
    let bound = (common-le (kind_word kind) text).0 in
    let four = length-kind_word kind in
    let other : common (kind_word kind) text ≢ 4 = λ e. ne (is ∙ e) in
    (omega (arith, le, is), omega (arith, bound, four, other))

pub kind_breaks : (place : Role) (text : List ℕ) (c d v l s : ℕ) → c ≡ along place Content text → d ≡ along place Directory text → v ≡ along place Revision text → l ≡ along place Release text → s ≡ along place Snapshot text
    → c ≢ 4 → d ≢ 4 → v ≢ 4 → l ≢ 4 → s ≢ 4 → BreaksAt (KindAndId place) text (max (max (max (max c d) v) l) s)
kind_breaks place text c d v l s ec ed ev el es nc nd nv nl ns =
    let n : ℕ = max (max (max (max c d) v) l) s in
    let best : Best place text n =
    max_of (Best place text) (max (max (max c d) v) l) s (max_of (Best place text) (max (max c d) v) l (max_of (Best place text) (max c d) v (max_of (Best place text) c d (subst (Best place text) (sym ec) (best_of place Content text)) (subst (Best place text) (sym ed) (best_of place Directory text))) (subst (Best place text) (sym ev) (best_of place Revision text))) (subst (Best place text) (sym el) (best_of place Release text))) (subst (Best place text) (sym es) (best_of place Snapshot text)) in
    let each : (k : Kind) → Far n (along place k text) = λ k. elim k as (λ j. Far n (along place j text)) [
      | Content ↦ record { le = omega (arith, ec); not_all = λ e. nc (ec ∙ e) }
      | Directory ↦ record { le = omega (arith, ed); not_all = λ e. nd (ed ∙ e) }
      | Revision ↦ record { le = omega (arith, ev); not_all = λ e. nv (ev ∙ e) }
      | Release ↦ record { le = omega (arith, el); not_all = λ e. nl (el ∙ e) }
      | Snapshot ↦ record { le = omega (arith, es); not_all = λ e. ns (es ∙ e) }
    ] in
    chosen_breaks Kind kind_word (accepts place) (λ _. IsIdText) text n best.kind (replicate 40 48) best.may best.far zeros-id (λ k may. far_enough place k text n (each k) may)
