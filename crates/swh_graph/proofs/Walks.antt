-- Names that are met from a root on, each with its children after it, are all that is reached, each once.
use Rattle.std.proofs.Common.{◌≡◌, ◌⊎◌, inl, inr, ℕ, ◌+◌, ◌<◌, ◌≤◌, true, false, Option, Some, None, List, [], ◌∷◌, ◌++◌, length, take, get_or, unwrap_or, refl, sym, ap, ◌∙◌, subst, arith, length-append}
use Rattle.std.specs.Prelude.{Contains, ◌↔◌, ◌≢◌}
use Rattle.std.specs.List.{AllByRecursion, IsDistinct, list_any}
use Rattle.std.specs.List.Sorted.{IsStrictlySortedBy, IsSorted, IsPermutation}
use Rattle.std.specs.declared.cmp.Ordering.{Ordering}
use Rattle.std.specs.declared.cmp.Ordering.TheVariants.{Less, Equal, Greater}
use Rattle.std.specs.Ordering.{eq_by_cmp, is_eq, is_lt, ordering_reverse}
use Rattle.std.specs.Cmp.{eq_by_cmp_equiv, Equal-is, tied_itself}
use Rattle.std.proofs.lemmas.List.{take_more, take_all, take-append-le}
use Rattle.std.proofs.lemmas.List.Elements.{Contains-push_cases, Contains-append_cases}
use Rattle.std.proofs.lemmas.List.Sorted.{Contains-permutation, IsPermutation-sym}
use Rattle.std.proofs.lemmas.Map.Keys.{IsDistinct-push, IsDistinct-IsPermutation, apart_from_distinct, sorted_from_all_adjacent, sorted_head, sorted_tail}
use Rattle.std.proofs.lemmas.Map.Views.{Contains-from_any}
use Rattle.swh_base.specs.declared.kind.Kind.TheVariants.{Content}
use Rattle.swh_base.specs.declared.name.Name.{Name}
use Rattle.swh_base.specs.Name.{name_cmp, name_cmp_total, name_cmp-IsAntisymmetric}
use Rattle.swh_base.specs.contracts.name.NameOrd.TheImpl.{cmp-value}
use Rattle.swh_base.specs.Reach.{IsHeldIn, IsChildIn, IsWalk, ReachesIn}
use Rattle.swh_base.proofs.Reaches.{reaches-next}
use Rattle.swh_base.proofs.Elementary.{none_in}
use Rattle.swh_closure.proofs.Order.{order_is}
use Rattle.swh_model.specs.Archive.{Bodies, body_of, IsHeld, Reaches, IsGraphOf}
use Rattle.swh_model.proofs.Graphs.{reaches-same}
use Rattle.swh_graph.specs.Met.{MeetsOne, MeetsAll, MeetsChildren}
use Rattle.swh_graph.specs.Reached.{IsReach, IsReachGap}
use Rattle.swh_graph.specs.Resolve.{IsFirstMissing}
use Rattle.swh_graph.proofs.Lists.{in_cases, in_middle, all_of, not_none}
use Rattle.swh_graph.proofs.Logs.{all_extends, extends_in, one_in, one_from, met_in, met_each}

-- ---- each name once

abbrev AreOnce : List Name → Type 0
AreOnce names = IsDistinct (eq_by_cmp name_cmp) names

pub is_same : (n m : Name) → eq_by_cmp name_cmp n m ≡ true → n ≡ m
is_same n m t = name_cmp-IsAntisymmetric n m ((Equal-is (name_cmp n m)).0 t)

not_any : (names : List Name) (n : Name) → (Contains names n → ⊥) → list_any (eq_by_cmp name_cmp n) names ≡ false
not_any names n none =
    elim (list_any (eq_by_cmp name_cmp n) names) as (λ b. list_any (eq_by_cmp name_cmp n) names ≡ b → b ≡ false) [
      | true ↦ λ t. absurd (none (Contains-from_any is_same n names t))
      | false ↦ λ _. refl
    ] refl

one_once : (old : List Name) (x : Name) (new : List Name) → MeetsOne old x new → AreOnce old → AreOnce new
one_once old x new (inl was) once = subst AreOnce (sym was.1) once
one_once old x new (inr is) once = subst AreOnce (sym is.1) (IsDistinct-push (eq_by_cmp_equiv name_cmp_total) old x once (not_any old x is.0))

all_once : (old xs new : List Name) → MeetsAll old xs new → AreOnce old → AreOnce new
all_once old [] new all once = subst AreOnce all once
all_once old (x ∷ xs) new (first, (here, more)) once = all_once first xs new more (one_once old x first here once)

nothing_twice : AreOnce []
unfolding IsDistinct
nothing_twice = tt

-- ---- a walk

module _ (children_of : Name → Option (List Name)) (root : Name) where
  -- So many of the names have their children among them, all are reached, and each is there once.
  pub record Walked (count : ℕ) (names : List Name) : Type 0 where
    pub within : count ≤ length names
    pub begins : Contains names root
    pub each : (n : Name) → Contains names n → ReachesIn children_of root n
    pub followed : (n child : Name) → Contains (take count names) n → IsChildIn children_of n child → Contains names child
    pub once : AreOnce names

  pub walk_starts : (names : List Name) → MeetsOne [] root names → Walked 0 names
  walk_starts names one = record {
    within = omega arith;
    begins = one_in [] root names one;
    each = one_from (ReachesIn children_of root) [] root names one (λ n none. absurd (none_in n none)) ([], refl);
    followed = λ n child none by. absurd (none_in n none);
    once = one_once [] root names one nothing_twice;
  }

  module _ (count : ℕ) (names : List Name) (w : Walked count names) (name : Name) (less : count < length names) (is : name ≡ get_or names count name)
      (new : List Name) (m : MeetsChildren children_of name names new) where
    kids : List Name
    kids = unwrap_or (children_of name) []

    more_names : take (count + 1) names ≡ take count names ++ name ∷ []
    more_names = take_more names count name less ∙ ap (λ (n : Name). take count names ++ n ∷ []) (sym is)

    its_kids : (child : Name) → IsChildIn children_of name child → Contains (unwrap_or (children_of name) []) child
    its_kids child by = subst (λ (o : Option (List Name)). Contains (unwrap_or o []) child) (sym by.held) by.one_of

    a_kid : (child : Name) → Contains (unwrap_or (children_of name) []) child → IsChildIn children_of name child
    a_kid child h = elim (children_of name) as (λ (o : Option (List Name)). children_of name ≡ o → Contains (unwrap_or o []) child → IsChildIn children_of name child) [
      | None ↦ λ e there. absurd (none_in child there)
      | Some ks ↦ λ e there. record { kids = ks; held = e; one_of = there }
    ] refl h

    there : Contains names name
    there = (count, less, sym is)

    pub walk_more : Walked (count + 1) new
    walk_more =
        let e = all_extends names (unwrap_or (children_of name) []) new m in
        let front : take (count + 1) new ≡ take count names ++ name ∷ [] = ap (λ (ns : List Name). take (count + 1) ns) e.is ∙ take-append-le (count + 1) names e.more (omega (arith, less)) ∙ more_names in
        record {
          within = let long = ap length e.is in omega (arith, less, long, length-append names e.more);
          begins = extends_in names new e root w.begins;
          each = met_each (ReachesIn children_of root) names (unwrap_or (children_of name) []) new m w.each
              (λ n h. let r = w.each name there in reaches-next (IsHeldIn children_of) (IsChildIn children_of) r.0 root name n r.1 (a_kid n h));
          followed = λ n child h by.
              elim (Contains-push_cases (take count names) name n (subst (λ (ns : List Name). Contains ns n) front h)) [
                | inl old ↦ extends_in names new e child (w.followed n child old by)
                | inr same ↦ met_in names (unwrap_or (children_of name) []) new m child (its_kids child (subst (λ (k : Name). IsChildIn children_of k child) (sym same) by))
              ];
          once = all_once names (unwrap_or (children_of name) []) new m w.once;
        }

  module _ (count : ℕ) (names : List Name) (w : Walked count names) (none : length names ≤ count) where
    all_names : take count names ≡ names
    all_names = take_all count names none

    walked : (nodes : List Name) (from n : Name) → Contains names from → IsWalk (IsChildIn children_of) from nodes n → Contains names n
    walked [] from n there e = subst (Contains names) e there
    walked (next ∷ nodes) from n there walk =
        walked nodes next n (w.followed from next (subst (λ (ns : List Name). Contains ns from) (sym all_names) there) walk.0) walk.1

    -- where no name is left, these are all
    pub walk_ends : (n : Name) → Contains (take count names) n ↔ ReachesIn children_of root n
    walk_ends n = (
      λ h. w.each n (subst (λ (ns : List Name). Contains ns n) all_names h),
      λ r. subst (λ (ns : List Name). Contains ns n) (sym all_names) (walked r.0 root n w.begins r.1),
    )

    pub walk_once : AreOnce (take count names)
    walk_once = subst AreOnce (sym all_names) w.once

-- ---- in ascending order

reversed : (n m : Name) → eq_by_cmp name_cmp n m ≡ eq_by_cmp name_cmp m n
reversed n m = (eq_by_cmp_equiv name_cmp_total).symm n m

-- of two that are not the same and do not fall, the first is less
rises : (o : Ordering) → is_lt (ordering_reverse o) ≡ false → is_eq o ≡ false → o ≡ Less
rises Less a b = refl
rises Equal a b = absurd (cc)
rises Greater a b = absurd (cc)

module _ (old new : List Name) (same : IsPermutation old new) (once : AreOnce old) (sorted : IsSorted cmp-value.it new) where
  none : Name
  none = record { kind = Content; id = [] }

  up : IsSorted name_cmp new
  up = subst (λ (R : Name → Name → Ordering). IsSorted R new) order_is sorted

  apart : AreOnce new
  apart = IsDistinct-IsPermutation (eq_by_cmp name_cmp) reversed old new same once

  pub ascends : IsStrictlySortedBy name_cmp new
  ascends = sorted_from_all_adjacent name_cmp_total new none (λ k less.
      rises (name_cmp (get_or new k none) (get_or new (k + 1) none))
      (ap is_lt (sym (name_cmp_total.antisymm (get_or new (k + 1) none) (get_or new k none))) ∙ up k none (omega arith) less)
      (apart_from_distinct (eq_by_cmp name_cmp) new k (k + 1) none apart (omega arith) less))

  pub same_names : (n : Name) → Contains new n ↔ Contains old n
  same_names n = (λ h. Contains-permutation new old n (IsPermutation-sym old new same) h, λ h. Contains-permutation old new n same h)

-- ---- what is answered

abbrev IsFront : Name → List Name → Type 0
IsFront x xs = AllByRecursion (λ y. name_cmp x y ≡ Less) xs

behind_ascend : (before : List Name) (x : Name) (behind : List Name) → IsStrictlySortedBy name_cmp (before ++ x ∷ behind) → IsFront x behind
behind_ascend [] x behind h = sorted_head name_cmp x behind h
behind_ascend (y ∷ before) x behind h = behind_ascend before x behind (sorted_tail name_cmp y (before ++ x ∷ behind) h)

module _ (bodies : Bodies) (children_of : Name → Option (List Name)) (graph : IsGraphOf bodies children_of) (root : Name) (names : List Name)
    (ascending : IsStrictlySortedBy name_cmp names) (are : (n : Name) → Contains names n ↔ ReachesIn children_of root n) where
  listed : (n : Name) → Reaches bodies root n → Contains names n
  listed n r = (are n).1 ((reaches-same bodies children_of graph root n).0 r)

  is_reached : (n : Name) → Contains names n → Reaches bodies root n
  is_reached n h = (reaches-same bodies children_of graph root n).1 ((are n).0 h)

  pub reach_whole : ((n : Name) → Contains names n → IsHeld bodies n) → IsReach bodies root names
  reach_whole held = record { ascending = ascending; are = λ n. (is_reached n, listed n); closed = λ n r. held n (listed n r) }

  pub reach_gap : (name : Name) → IsFirstMissing bodies names name → IsReachGap bodies root name
  reach_gap name m = record {
    reached = is_reached name (subst (λ (ns : List Name). Contains ns name) (sym m.cut) (in_middle m.before name m.behind));
    missing = m.missing;
    first = λ other r missing. not_later other (Contains-cases other (subst (λ (ns : List Name). Contains ns other) m.cut (listed other r))) missing;
  }
    where
      Contains-cases : (other : Name) → Contains (m.before ++ name ∷ m.behind) other → Contains m.before other ⊎ Contains (name ∷ m.behind) other
      Contains-cases other h = Contains-append_cases m.before (name ∷ m.behind) other h

      not_greater : (o : Ordering) → o ≡ Less → o ≢ Greater
      not_greater o e f = let g : Less ≡ Greater = sym e ∙ f in cc

      not_later : (other : Name) → Contains m.before other ⊎ Contains (name ∷ m.behind) other → body_of bodies other ≡ None → name_cmp name other ≢ Greater
      not_later other (inl there) missing =
          absurd (let h = all_of (IsHeld bodies) m.before other m.held there in not_none (body_of bodies other) h.0 h.1 missing)
      not_later other (inr there) missing =
          elim (in_cases name m.behind other there) [
            | inl same ↦ λ greater. (let e : Equal ≡ Greater = sym (tied_itself name_cmp_total name) ∙ ap (name_cmp name) same ∙ greater in cc)
            | inr later ↦ not_greater (name_cmp name other) (all_of (λ (y : Name). name_cmp name y ≡ Less) m.behind other (behind_ascend m.before name m.behind (subst (λ (ns : List Name). IsStrictlySortedBy name_cmp ns) m.cut ascending)) later)
          ]
