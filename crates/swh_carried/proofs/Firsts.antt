-- That one name at most is the first that a form cannot carry, for one reason, and none where it carries all.
use Rattle.std.proofs.Common.{◌≡◌, ℕ, ◌==◌, ◌<◌, if◌then◌else◌, inl, inr, Option, List, [], ◌∷◌, ◌++◌, Contains, refl, sym, ap, ◌∙◌, subst, arith}
use Rattle.std.proofs.lemmas.List.Elements.{Contains-append_right}
use Rattle.swh_base.specs.declared.name.Name.{Name}
use Rattle.swh_postorder.specs.Cycle.{IsOnCycle, IsFirstOnCycle}
use Rattle.swh_carried.specs.declared.fault.Why.{Why}
use Rattle.swh_carried.specs.declared.fault.Why.TheVariants.{Cycle, Revision, Release, Empty, Dots, Text, Path, Branch, Tagless, Refs, Length}
use Rattle.swh_carried.specs.Uncarried.{rule_number, BreaksFirst, IsFirstToBreak, HasNoCycle, IsUncarried, AreCarried}

pub in_order : (order before behind : List Name) (name : Name) → order ≡ before ++ name ∷ behind → Contains order name
in_order order before behind name cut =
    let first : Contains (name ∷ behind) name = (0, omega arith, refl) in
    subst (λ (ns : List Name). Contains ns name) (sym cut) (Contains-append_right before (name ∷ behind) name first)

-- of names, the first of a property
one_first : (Is : Name → Type 0) (a b c d : List Name) (x y : Name) → a ++ x ∷ c ≡ b ++ y ∷ d → Is x → Is y → ((n : Name) → Contains a n → Is n → ⊥) → ((n : Name) → Contains b n → Is n → ⊥) → x ≡ y
one_first Is [] [] c d x y e is_x is_y none_a none_b = cc
one_first Is [] (m ∷ b) c d x y e is_x is_y none_a none_b =
    let same : x ≡ m = cc in
    absurd (none_b m (0, omega arith, refl) (subst Is same is_x))
one_first Is (n ∷ a) [] c d x y e is_x is_y none_a none_b =
    let same : y ≡ n = cc in
    absurd (none_a n (0, omega arith, refl) (subst Is same is_y))
one_first Is (n ∷ a) (m ∷ b) c d x y e is_x is_y none_a none_b =
    let rest : a ++ x ∷ c ≡ b ++ y ∷ d = cc in
    one_first Is a b c d x y rest is_x is_y
    (λ k there. none_a k (Contains-append_right (n ∷ []) a k there)) (λ k there. none_b k (Contains-append_right (m ∷ []) b k there))

-- ---- rules

-- the rule at a place in their order
abbrev rule_at : ℕ → Why
rule_at n =
    if n == 0 then Cycle
    else if n == 1 then Revision
    else if n == 2 then Release
    else if n == 3 then Empty
    else if n == 4 then Dots
    else if n == 5 then Text
    else if n == 6 then Path
    else if n == 7 then Branch
    else if n == 8 then Tagless
    else if n == 9 then Refs
    else Length

at_its_place : (why : Why) → rule_at (rule_number why) ≡ why
at_its_place Cycle = refl
at_its_place Revision = refl
at_its_place Release = refl
at_its_place Empty = refl
at_its_place Dots = refl
at_its_place Text = refl
at_its_place Path = refl
at_its_place Branch = refl
at_its_place Tagless = refl
at_its_place Refs = refl
at_its_place Length = refl

one_rule : (Breaks : Name → Why → Type 0) (name : Name) (a b : Why) → BreaksFirst Breaks name a → BreaksFirst Breaks name b → a ≡ b
one_rule Breaks name a b f g = sym (at_its_place a) ∙ ap rule_at (same (rule_number a) (rule_number b) (λ less. g.none a less f.is) (λ less. f.none b less g.is)) ∙ at_its_place b
  where
    same : (x y : ℕ) → (x < y → ⊥) → (y < x → ⊥) → x ≡ y
    same x y no_less no_more = omega arith

-- ---- names

module _ (children_of : Name → Option (List Name)) (Breaks : Name → Why → Type 0) (order : List Name) where
  -- a name on a cycle is one of the order
  on_cycle : (name : Name) → HasNoCycle children_of order → IsFirstOnCycle children_of order name → ⊥
  on_cycle name none f = none name (in_order order f.before f.behind name f.cut) f.is

  breaks_first : (m n : Name) (v w : Why) → IsFirstToBreak Breaks order m v → IsFirstToBreak Breaks order n w → (m ≡ n) × (v ≡ w)
  breaks_first m n v w f g =
      let same = one_first (λ (k : Name). (why : Why) × Breaks k why) f.before g.before f.behind g.behind m n (sym f.cut ∙ g.cut) (v, f.is.is) (w, g.is.is)
      (λ k there broke. f.none k there broke.0 broke.1) (λ k there broke. g.none k there broke.0 broke.1) in
      (same, one_rule Breaks n v w (subst (λ (k : Name). BreaksFirst Breaks k v) same f.is) g.is)

  pub one_first_uncarried : (m n : Name) (v w : Why) → IsUncarried children_of Breaks order m v → IsUncarried children_of Breaks order n w → (m ≡ n) × (v ≡ w)
  one_first_uncarried m n v w (inl c) (inl d) =
      (one_first (IsOnCycle children_of) c.1.before d.1.before c.1.behind d.1.behind m n (sym c.1.cut ∙ d.1.cut) c.1.is d.1.is c.1.none d.1.none, c.0 ∙ sym d.0)
  one_first_uncarried m n v w (inl c) (inr d) = absurd (on_cycle m d.0 c.1)
  one_first_uncarried m n v w (inr c) (inl d) = absurd (on_cycle n c.0 d.1)
  one_first_uncarried m n v w (inr c) (inr d) = breaks_first m n v w c.1 d.1

  -- a form does not carry all of an order and refuse one of it
  pub not_both : (name : Name) (why : Why) → AreCarried children_of Breaks order → IsUncarried children_of Breaks order name why → ⊥
  not_both name why carried (inl c) = on_cycle name carried.acyclic c.1
  not_both name why carried (inr c) = carried.none name (in_order order c.1.before c.1.behind name c.1.cut) why c.1.is.is
