-- Lists of names in which each child stands before its parent have no name on a cycle, and where one does not its parent is.
use Rattle.std.proofs.Common.{◌≡◌, ◌⊎◌, inl, inr, ℕ, ◌+◌, ◌<◌, Option, Some, None, List, [], ◌∷◌, ◌++◌, length, take, drop, get_or, sym, ap, ◌∙◌, subst, append_assoc, add-one, drop-cons}
use Rattle.std.specs.Prelude.{Contains, ◌↔◌, IfSome, IfNone, true, false}
use Rattle.std.specs.Option.{is_some}
use Rattle.std.proofs.lemmas.List.{take-append-drop, take_more}
use Rattle.std.proofs.lemmas.List.Elements.{Contains-append_left, Contains-append_right, Contains-append_cases}
use Rattle.swh_base.specs.declared.name.Name.{Name}
use Rattle.swh_base.specs.Reach.{IsHeldIn, IsChildIn, IsWalk}
use Rattle.swh_base.proofs.Elementary.{none_in, only}
use Rattle.swh_postorder.specs.Postorder.{Precedes}
use Rattle.swh_postorder.specs.Cycle.{IsOnCycle, IsFirstOnCycle, IsSomePostorder, ArePreceded}
use Rattle.swh_postorder.proofs.Trips.{first_in, in_cases}
use Rattle.swh_postorder.proofs.Orders.{AtOne, Sooner, Later, cuts, order_are, order_closed, order_once, order_front}

-- where a member stands in a list
pub record Cut (names : List Name) (name : Name) : Type 0 where
  pub before : List Name
  pub behind : List Name
  pub cut : names ≡ before ++ name ∷ behind

cut_at_first : (x y : Name) (xs : List Name) → x ≡ y → Cut (x ∷ xs) y
cut_at_first x y xs same = record { before = []; behind = xs; cut = ap (λ (z : Name). z ∷ xs) same }

pub cut_at : (names : List Name) (name : Name) → Contains names name → Cut names name
cut_at [] name there = absurd (none_in name there)
cut_at (x ∷ xs) name there =
    elim (in_cases x xs name there) [
      | inl same ↦ cut_at_first x name xs same
      | inr later ↦ let c = cut_at xs name later in record { before = x ∷ c.before; behind = c.behind; cut = ap (λ (l : List Name). x ∷ l) c.cut }
    ]

module _ (children_of : Name → Option (List Name)) where
  -- what is reached from a name in front stands in front
  walked : (names front : List Name) (name : Name) (behind : List Name) → ArePreceded children_of names → names ≡ front ++ name ∷ behind
      → (nodes : List Name) (from to : Name) → Contains front from → IsWalk (IsChildIn children_of) from nodes to → Contains front to
  walked names front name behind preceded cut [] from to there e = subst (Contains front) e there
  walked names front name behind preceded cut (next ∷ nodes) from to there walk =
      let c = cut_at front from there in
      let e : names ≡ c.before ++ from ∷ (c.behind ++ name ∷ behind) =
      cut ∙ ap (λ (l : List Name). l ++ name ∷ behind) c.cut ∙ append_assoc c.before (from ∷ c.behind) (name ∷ behind) in
      let earlier = preceded c.before from (c.behind ++ name ∷ behind) e next walk.0 in
      walked names front name behind preceded cut nodes next to (subst (λ (l : List Name). Contains l next) (sym c.cut) (Contains-append_left c.before (from ∷ c.behind) next earlier)) walk.1

  -- no name in the list is on a cycle, where none stands in it twice
  pub none_on_cycle : (names : List Name) → ArePreceded children_of names → ((n : Name) → Precedes names n n → ⊥) → (n : Name) → Contains names n → IsOnCycle children_of n → ⊥
  none_on_cycle names preceded once n there cycle =
      let c = cut_at names n there in
      let child = preceded c.before n c.behind c.cut cycle.child cycle.is_child in
      let again = walked names c.before n c.behind preceded c.cut cycle.returns.0 cycle.child n child cycle.returns.1 in
      once n (record { before = c.before; behind = c.behind; cut = c.cut; there = again })

  module _ (order : List Name) (some : IsSomePostorder children_of order) where
    pub held_in : (n : Name) → Contains order n → IsHeldIn children_of n
    held_in n there = order_closed children_of some.root order some.is n ((order_are children_of some.root order some.is n).0 there)

    once_before : (before : List Name) (name : Name) (behind : List Name) → order ≡ before ++ name ∷ behind → (n : Name) → Precedes before n n → ⊥
    once_before before name behind cut n p =
        order_once children_of some.root order some.is n
        (record { before = p.before; behind = p.behind ++ name ∷ behind; cut = cut ∙ ap (λ (l : List Name). l ++ name ∷ behind) p.cut ∙ append_assoc p.before (n ∷ p.behind) (name ∷ behind); there = p.there })

    -- a child of the name does not stand before it, though before it all children do
    pub first_found : (before : List Name) (name : Name) (behind : List Name) → order ≡ before ++ name ∷ behind → ArePreceded children_of before → (child : Name) → IsChildIn children_of name child → (Contains before child → ⊥)
        → IsFirstOnCycle children_of order name
    first_found before name behind cut preceded child by outside =
        let there = subst (λ (l : List Name). Contains l name) (sym cut) (Contains-append_right before (name ∷ behind) name (first_in name behind)) in
        record {
          before = before;
          behind = behind;
          cut = cut;
          is = record {
            child = child;
            is_child = by;
            returns = elim (order_front children_of some.root order some.is name child there by) [
              | inr returns ↦ returns
              | inl p ↦
                  elim (cuts before p.before name name behind p.behind (sym cut ∙ p.cut)) [
                    | AtOne same _ _ ↦ absurd (outside (subst (λ (l : List Name). Contains l child) (sym same) p.there))
                    | Sooner more long _ ↦
                        absurd (order_once children_of some.root order some.is name
                        (record { before = p.before; behind = p.behind; cut = p.cut; there = subst (λ (l : List Name). Contains l name) (sym long) (Contains-append_right before (name ∷ more) name (first_in name more)) }))
                    | Later more long _ ↦ absurd (outside (subst (λ (l : List Name). Contains l child) (sym long) (Contains-append_left p.before (name ∷ more) child p.there)))
                  ]
            ];
          };
          none = none_on_cycle before preceded (once_before before name behind cut);
        }

    pub none_found : ArePreceded children_of order → (n : Name) → Contains order n → IsOnCycle children_of n → ⊥
    none_found preceded = none_on_cycle order preceded (order_once children_of some.root order some.is)

  pub preceded_none : ArePreceded children_of []
  preceded_none before name behind e child by = absurd (none_in name (subst (λ (l : List Name). Contains l name) (sym e) (Contains-append_right before (name ∷ behind) name (first_in name behind))))

  -- one name more, all of whose children stand in the list
  pub preceded_more : (names : List Name) (name : Name) → ArePreceded children_of names → ((n : Name) → IsChildIn children_of name n → Contains names n) → ArePreceded children_of (names ++ name ∷ [])
  preceded_more names name preceded all before n behind e child by =
      elim (cuts names before name n [] behind e) [
        | AtOne same named _ ↦ subst (λ (l : List Name). Contains l child) same (all child (subst (λ (m : Name). IsChildIn children_of m child) (sym named) by))
        | Sooner more long none ↦ absurd (none_in n (subst (λ (l : List Name). Contains l n) (sym none) (Contains-append_right more (n ∷ behind) n (first_in n behind))))
        | Later more long _ ↦ preceded before n more long child by
      ]

  cut_here : (order : List Name) (i : ℕ) (none : Name) → i < length order → order ≡ take i order ++ get_or order i none ∷ drop (i + 1) order
  cut_here order i none within =
      let one : drop i order ≡ get_or order i none ∷ drop (i + 1) order = rw (add-one, drop-cons order i none) in
      sym (take-append-drop i order) ∙ ap (λ (l : List Name). take i order ++ l) one

  module _ (order : List Name) (i : ℕ) (none : Name) (within : i < length order) (set : List Name) (same : (n : Name) → Contains set n ↔ Contains (take i order) n) (preceded : ArePreceded children_of (take i order)) where
    -- the name at the place has a child outside of what stands before it
    pub found_at : IsSomePostorder children_of order → (found : Option Name) → is_some found ≡ true → IfSome found (λ child. IsChildIn children_of (get_or order i none) child × (Contains set child → ⊥)) → IsFirstOnCycle children_of order (get_or order i none)
    found_at some None is if_some = let e : false ≡ true = is in cc
    found_at some (Some child) is (by, outside) =
        first_found order some (take i order) (get_or order i none) (drop (i + 1) order) (cut_here order i none within) preceded child by (λ there. outside ((same child).1 there))

    more_is : take (i + 1) order ≡ take i order ++ get_or order i none ∷ []
    more_is = take_more order i none within

    pub set_more : (now : List Name) → ((n : Name) → Contains now n ↔ (Contains set n ⊎ (get_or order i none ≡ n))) → (n : Name) → Contains now n ↔ Contains (take (i + 1) order) n
    set_more now put n = (
      λ there. subst (λ (l : List Name). Contains l n) (sym more_is) (elim ((put n).0 there) [
        | inl was ↦ Contains-append_left (take i order) (get_or order i none ∷ []) n ((same n).0 was)
        | inr is ↦ Contains-append_right (take i order) (get_or order i none ∷ []) n (subst (Contains (get_or order i none ∷ [])) is (first_in (get_or order i none) []))
      ]),
      λ there. (put n).1 (elim (Contains-append_cases (take i order) (get_or order i none ∷ []) n (subst (λ (l : List Name). Contains l n) more_is there)) [
        | inl was ↦ inl ((same n).1 was)
        | inr is ↦ inr (only (get_or order i none) n is)
      ]),
    )

    pub preceded_at : (found : Option Name) → is_some found ≡ false → IfNone found ((n : Name) → IsChildIn children_of (get_or order i none) n → Contains set n) → ArePreceded children_of (take (i + 1) order)
    preceded_at None is all =
        subst (ArePreceded children_of) (sym more_is) (preceded_more (take i order) (get_or order i none) preceded (λ n by. (same n).0 (all n by)))
    preceded_at (Some child) is all = let e : true ≡ false = is in cc
