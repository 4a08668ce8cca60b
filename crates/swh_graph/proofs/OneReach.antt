-- One list of names is reached from a name, or one is the first that is missing.
use Rattle.std.proofs.Common.{◌≡◌, inl, inr, List, [], ◌∷◌, refl, sym, ap, ◌∙◌, subst}
use Rattle.std.specs.Prelude.{Contains}
use Rattle.std.specs.List.{AllByRecursion}
use Rattle.std.specs.List.Sorted.{IsStrictlySortedBy}
use Rattle.std.specs.declared.cmp.Ordering.{Ordering}
use Rattle.std.specs.declared.cmp.Ordering.TheVariants.{Less, Equal, Greater}
use Rattle.std.specs.Cmp.{tied_itself}
use Rattle.std.specs.Ordering.{ordering_reverse}
use Rattle.swh_base.specs.declared.name.Name.{Name}
use Rattle.swh_base.specs.Name.{name_cmp, name_cmp_total, name_cmp-IsAntisymmetric}
use Rattle.swh_base.proofs.Elementary.{none_in}
use Rattle.swh_model.specs.Archive.{Bodies, body_of}
use Rattle.swh_graph.specs.Answer.{GraphAnswer, Found, Missing, Nowhere}
use Rattle.swh_graph.specs.Reached.{IsReach, IsReachGap, IsReachAnswer}
use Rattle.swh_graph.proofs.Lists.{in_first, in_rest, in_cases, all_of, not_none}

-- ---- ascending lists

abbrev IsFront : Name → List Name → Type 0
IsFront x xs = AllByRecursion (λ y. name_cmp x y ≡ Less) xs

not_itself : (x y : Name) → name_cmp x y ≡ Less → x ≡ y → ⊥
not_itself x y less same = let e : Less ≡ Equal = sym less ∙ ap (λ (n : Name). name_cmp n y) same ∙ tied_itself name_cmp_total y in cc

both_less : (x y : Name) → name_cmp x y ≡ Less → name_cmp y x ≡ Less → ⊥
both_less x y less more = not_itself x x (name_cmp_total.trans x y x less more) refl

same_first : (x y : Name) (xs ys : List Name) → IsFront x xs → IsFront y ys → Contains (y ∷ ys) x → Contains (x ∷ xs) y → x ≡ y
same_first x y xs ys front front' there there' =
    elim (in_cases y ys x there) [
      | inl is ↦ sym is
      | inr more ↦
          elim (in_cases x xs y there') [
            | inl is ↦ is
            | inr more' ↦ absurd (both_less x y (all_of (λ (n : Name). name_cmp x n ≡ Less) xs y front more') (all_of (λ (n : Name). name_cmp y n ≡ Less) ys x front' more))
          ]
    ]

abbrev HaveSame : List Name → List Name → Type 0
HaveSame ns ms = (n : Name) → (Contains ns n → Contains ms n) × (Contains ms n → Contains ns n)

module _ (x : Name) (xs ys : List Name) (front : IsFront x xs) (front' : IsFront x ys) (same : HaveSame (x ∷ xs) (x ∷ ys)) where
  tail_in : (n : Name) → Contains xs n → Contains ys n
  tail_in n h =
      elim (in_cases x ys n ((same n).0 (in_rest x xs n h))) [
        | inl is ↦ absurd (not_itself x n (all_of (λ (m : Name). name_cmp x m ≡ Less) xs n front h) is)
        | inr more ↦ more
      ]

  tail_out : (n : Name) → Contains ys n → Contains xs n
  tail_out n h =
      elim (in_cases x xs n ((same n).1 (in_rest x ys n h))) [
        | inl is ↦ absurd (not_itself x n (all_of (λ (m : Name). name_cmp x m ≡ Less) ys n front' h) is)
        | inr more ↦ more
      ]

same_sorted : (ns ms : List Name) → IsStrictlySortedBy name_cmp ns → IsStrictlySortedBy name_cmp ms → HaveSame ns ms → ns ≡ ms
unfolding IsStrictlySortedBy
same_sorted [] [] a b same = refl
same_sorted [] (m ∷ ms) a b same = absurd (none_in m ((same m).1 (in_first m ms)))
same_sorted (n ∷ ns) [] a b same = absurd (none_in n ((same n).0 (in_first n ns)))
same_sorted (n ∷ ns) (m ∷ ms) a b same =
    let is : n ≡ m = same_first n m ns ms a.0 b.0 ((same n).0 (in_first n ns)) ((same m).1 (in_first m ms)) in
    let front : IsFront n ms = subst (λ (k : Name). IsFront k ms) (sym is) b.0 in
    let all : HaveSame (n ∷ ns) (n ∷ ms) = subst (λ (k : Name). HaveSame (n ∷ ns) (k ∷ ms)) (sym is) same in
    let more = same_sorted ns ms a.1 b.1 (λ k. (tail_in n ns ms a.0 front all k, tail_out n ns ms a.0 front all k)) in
    ap (λ (xs : List Name). n ∷ xs) more ∙ ap (λ (k : Name). k ∷ ms) is

-- ---- the least

equal_or : (o : Ordering) → (o ≡ Greater → ⊥) → (ordering_reverse o ≡ Greater → ⊥) → o ≡ Equal
equal_or Less a b = absurd (b refl)
equal_or Equal a b = refl
equal_or Greater a b = absurd (a refl)

module _ (bodies : Bodies) (root : Name) where
  one_gap : (a b : Name) → IsReachGap bodies root a → IsReachGap bodies root b → a ≡ b
  one_gap a b x y =
      name_cmp-IsAntisymmetric a b
      (equal_or (name_cmp a b) (x.first b y.reached y.missing) (λ e. y.first a x.reached x.missing (name_cmp_total.antisymm b a ∙ e)))

  closed_or_gap : (ns : List Name) (a : Name) → IsReach bodies root ns → IsReachGap bodies root a → ⊥
  closed_or_gap ns a x y = let h = x.closed a y.reached in not_none (body_of bodies a) h.0 h.1 y.missing

  one_list : (ns ms : List Name) → IsReach bodies root ns → IsReach bodies root ms → ns ≡ ms
  one_list ns ms x y = same_sorted ns ms x.ascending y.ascending (λ n. (λ h. (y.are n).1 ((x.are n).0 h), λ h. (x.are n).1 ((y.are n).0 h)))

  pub one_reach_lem : (a b : GraphAnswer (List Name)) → IsReachAnswer bodies root a → IsReachAnswer bodies root b → a ≡ b
  one_reach_lem (Found ns) (Found ms) x y = ap (λ (xs : List Name). Found xs) (one_list ns ms x y)
  one_reach_lem (Found ns) (Missing b) x y = absurd (closed_or_gap ns b x y)
  one_reach_lem (Missing a) (Found ms) x y = absurd (closed_or_gap ms a y x)
  one_reach_lem (Missing a) (Missing b) x y = ap (λ (n : Name). let answer : GraphAnswer (List Name) = Missing n in answer) (one_gap a b x y)
  one_reach_lem (Nowhere k) b x y = absurd x
  one_reach_lem (Found ns) (Nowhere k) x y = absurd y
  one_reach_lem (Missing a) (Nowhere k) x y = absurd y
