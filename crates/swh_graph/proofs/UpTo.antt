-- Names that are met up to a limit are the first of those that would be met without one.
use Rattle.std.proofs.Common.{◌≡◌, ◌⊎◌, inl, inr, ℕ, zero, suc, ◌+◌, ◌<◌, ◌≤◌, true, false, List, [], ◌∷◌, ◌++◌, length, map, take, drop, get_or, refl, sym, ap, ◌∙◌, subst, arith, length-append}
use Rattle.std.specs.Prelude.{Contains}
use Rattle.std.specs.Bool.{Decides}
use Rattle.std.specs.Set.{is_member}
use Rattle.std.specs.Ordering.{eq_by_cmp}
use Rattle.std.specs.Cmp.{eq_by_cmp_equiv}
use Rattle.std.proofs.lemmas.List.{take_all, take-append-le, take-append-drop, length-take-le, get_or-take, map-append}
use Rattle.std.proofs.lemmas.Map.Made.{is_member-Decides}
use Rattle.swh_base.specs.declared.name.Name.{Name}
use Rattle.swh_base.specs.Name.{name_cmp, name_cmp_total}
use Rattle.swh_base.specs.Revision.{revision_name}
use Rattle.swh_model.specs.Archive.{Bodies}
use Rattle.swh_graph.specs.Met.{MeetsOne, MeetsAll, MeetsUpTo, MeetsParents}
use Rattle.swh_graph.proofs.Logs.{Extends, all_extends, one_more, meets_both, IsLogged, logged_none, logged_more}
use Rattle.swh_graph.proofs.Walks.{is_same}

at_or_below : (a b : ℕ) → (a ≤ b) ⊎ (b < a)
at_or_below zero b = inl (omega arith)
at_or_below (suc a) zero = inr (omega arith)
at_or_below (suc a) (suc b) = elim (at_or_below a b) [ inl le ↦ inl (omega (arith, le)) | inr less ↦ inr (omega (arith, less)) ]

-- ---- what is met in any case

name_decides : (a b : Name) → Decides (eq_by_cmp name_cmp a b) (a ≡ b)
name_decides a b = (is_same a b, λ e. subst (λ (c : Name). eq_by_cmp name_cmp a c ≡ true) e ((eq_by_cmp_equiv name_cmp_total).refl a))

in_or_out : (names : List Name) (x : Name) → Contains names x ⊎ (Contains names x → ⊥)
in_or_out names x =
    let d = is_member-Decides name_decides names x in
    elim (is_member (eq_by_cmp name_cmp) names x) as (λ t. is_member (eq_by_cmp name_cmp) names x ≡ t → Contains names x ⊎ (Contains names x → ⊥)) [
      | true ↦ λ t. inl (d.0 t)
      | false ↦ λ f. inr (λ h. let e : false ≡ true = sym f ∙ d.1 h in cc)
    ] refl

-- names can be met whatever was met before
meets_some : (old xs : List Name) → (new : List Name) × MeetsAll old xs new
meets_some old [] = (old, refl)
meets_some old (x ∷ xs) =
    elim (in_or_out old x) [
      | inl was ↦ let more = meets_some old xs in (more.0, (old, (inl (was, refl), more.1)))
      | inr fresh ↦ let more = meets_some (old ++ x ∷ []) xs in (more.0, (old ++ x ∷ [], (inr (fresh, refl), more.1)))
    ]

-- ---- fronts of what is met

-- what is short of the limit is the whole
whole : (limit : ℕ) (all : List Name) → length (take limit all) < limit → take limit all ≡ all
whole limit all short =
    elim (at_or_below limit (length all)) [
      | inl le ↦ let long = length-take-le limit all le in absurd (omega (arith, long, short))
      | inr less ↦ take_all limit all (omega (arith, less))
    ]

-- what reaches the limit stays as it is
full : (limit : ℕ) (all xs more : List Name) → MeetsAll all xs more → limit ≤ length (take limit all) → take limit more ≡ take limit all
full limit all xs more meets long =
    let e = all_extends all xs more meets in
    elim (at_or_below limit (length all)) [
      | inl le ↦ ap (λ (ns : List Name). take limit ns) e.is ∙ take-append-le limit all e.more le
      | inr less ↦ let short = ap length (take_all limit all (omega (arith, less))) in absurd (omega (arith, long, short, less))
    ]

one_longer : (old : List Name) (x : Name) (new : List Name) (limit : ℕ) → MeetsOne old x new → length old < limit → length new ≤ limit
one_longer old x new limit (inl was) short = let long = ap length was.1 in omega (arith, long, short)
one_longer old x new limit (inr is) short = let long = ap length is.1 in omega (arith, long, short, length-append old (x ∷ []))

pub up_to_none : (limit : ℕ) (old : List Name) → MeetsUpTo limit old [] old
up_to_none limit old all is = (all, (refl, is))

pub up_to_more : (limit : ℕ) (old xs now : List Name) (x : Name) (new : List Name) → MeetsUpTo limit old xs now → length now < limit → MeetsOne now x new → MeetsUpTo limit old (xs ++ x ∷ []) new
up_to_more limit old xs now x new before short one all is =
    let so_far = before all is in
    let mid = so_far.0 in
    let same : now ≡ mid = so_far.1.1 ∙ whole limit mid (subst (λ (ns : List Name). length ns < limit) so_far.1.1 short) in
    (new, (one_more all xs mid x new so_far.1.0 (subst (λ (ns : List Name). MeetsOne ns x new) same one), sym (take_all limit new (one_longer now x new limit one short))))

-- at the limit all others are met without a change
pub up_to_full : (limit : ℕ) (old xs now ys : List Name) → MeetsUpTo limit old xs now → limit ≤ length now → MeetsUpTo limit old (xs ++ ys) now
up_to_full limit old xs now ys before long all is =
    let so_far = before all is in
    let mid = so_far.0 in
    let rest = meets_some mid ys in
    (rest.0, (meets_both all xs mid ys rest.0 so_far.1.0 rest.1, so_far.1.1 ∙ sym (full limit mid ys rest.0 rest.1 (subst (λ (ns : List Name). limit ≤ length ns) so_far.1.1 long))))

-- ---- a log up to a limit

-- The names are as many of the first that a log without the limit would have met.
pub record IsLoggedUpTo (bodies : Bodies) (id : List ℕ) (limit count : ℕ) (names : List Name) : Type 0 where
  pub all : List Name
  pub logged : IsLogged bodies (revision_name id) count all
  pub front : names ≡ take limit all

module _ (bodies : Bodies) (id : List ℕ) (limit : ℕ) where
  pub logged_up_to_none : (names : List Name) → MeetsUpTo limit [] (revision_name id ∷ []) names → IsLoggedUpTo bodies id limit 0 names
  logged_up_to_none names meets =
      let m = meets [] (sym (take_all limit [] (omega arith))) in
      record { all = m.0; logged = logged_none bodies id m.0 m.1.0; front = m.1.1 }

  module _ (count : ℕ) (names : List Name) (l : IsLoggedUpTo bodies id limit count names) where
    -- the name at a place before the limit is that of the whole
    module _ (name : Name) (room : count < limit) (less : count < length names) (is : name ≡ get_or names count name) where
      pub less_of_all : count < length l.all
      less_of_all =
          elim (at_or_below limit (length l.all)) [
            | inl le ↦ omega (arith, le, room)
            | inr under ↦ let same = ap length (l.front ∙ take_all limit l.all (omega (arith, under))) in omega (arith, same, less)
          ]

      pub is_of_all : name ≡ get_or l.all count name
      is_of_all = is ∙ ap (λ (ns : List Name). get_or ns count name) l.front ∙ get_or-take limit l.all count name room

      pub logged_up_to_more : (new : List Name) → MeetsParents bodies name limit names new → IsLoggedUpTo bodies id limit (count + 1) new
      logged_up_to_more new m =
          let more = m.meets l.all l.front in
          record {
            all = more.0;
            logged = logged_more bodies id count l.all l.logged name less_of_all is_of_all m.parents more.0 m.has more.1.0;
            front = more.1.1;
          }

    -- where there is no name before the limit, there is none at all
    pub ends_of_all : count < limit → length names ≤ count → length l.all ≤ count
    ends_of_all room none =
        elim (at_or_below limit (length l.all)) [
          | inl le ↦ let long = ap length l.front in let most = length-take-le limit l.all le in absurd (omega (arith, long, most, none, room))
          | inr under ↦ let same = ap length (l.front ∙ take_all limit l.all (omega (arith, under))) in omega (arith, same, none)
        ]
