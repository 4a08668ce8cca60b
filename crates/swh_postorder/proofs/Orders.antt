-- What stands in an order: just what is reached, each name once, and children before their parents unless they lead back.
use Rattle.std.proofs.Common.{◌≡◌, ◌⊎◌, inl, inr, Option, Some, List, [], ◌∷◌, ◌++◌, refl, sym, ap, ◌∙◌, subst, append_assoc}
use Rattle.std.specs.Prelude.{Contains}
use Rattle.std.proofs.lemmas.List.Elements.{Contains-append_left, Contains-append_right, Contains-append_cases}
use Rattle.swh_base.specs.declared.name.Name.{Name}
use Rattle.swh_base.specs.Reach.{IsHeldIn, IsChildIn, IsWalk, ReachesIn, IsClosedIn}
use Rattle.swh_base.proofs.Reaches.{reaches-next}
use Rattle.swh_base.proofs.Elementary.{none_in}
use Rattle.swh_postorder.specs.Postorder.{Trip, Over, Passes, Enters, left_in, IsEntered, IsTrip, IsPostorder, Precedes, PrecedesOrReturns}
use Rattle.swh_postorder.proofs.Trips.{first_in, later_in, in_cases, AreEntered, assoc_end}

-- two cuts of one list
pub data Cuts (f g : List Name) (m n : Name) (a b : List Name) : Type 0 where
  AtOne : f ≡ g → m ≡ n → a ≡ b → Cuts f g m n a b
  Sooner : (more : List Name) → g ≡ f ++ m ∷ more → a ≡ more ++ n ∷ b → Cuts f g m n a b
  Later : (more : List Name) → f ≡ g ++ n ∷ more → b ≡ more ++ m ∷ a → Cuts f g m n a b

further : (x : Name) (f g : List Name) (m n : Name) (a b : List Name) → Cuts f g m n a b → Cuts (x ∷ f) (x ∷ g) m n a b
further x f g m n a b (AtOne e d c) = AtOne (ap (λ (l : List Name). x ∷ l) e) d c
further x f g m n a b (Sooner more e d) = Sooner more (ap (λ (l : List Name). x ∷ l) e) d
further x f g m n a b (Later more e d) = Later more (ap (λ (l : List Name). x ∷ l) e) d

pub head_is : (x y : Name) (xs ys : List Name) → x ∷ xs ≡ y ∷ ys → x ≡ y
head_is x y xs ys e = cc

pub tail_is : (x y : Name) (xs ys : List Name) → x ∷ xs ≡ y ∷ ys → xs ≡ ys
tail_is x y xs ys e = cc

pub cuts : (f g : List Name) (m n : Name) (a b : List Name) → f ++ m ∷ a ≡ g ++ n ∷ b → Cuts f g m n a b
cuts [] [] m n a b e = AtOne refl (head_is m n a b e) (tail_is m n a b e)
cuts [] (y ∷ g) m n a b e = Sooner g (ap (λ (x : Name). x ∷ g) (sym (head_is m y a (g ++ n ∷ b) e))) (tail_is m y a (g ++ n ∷ b) e)
cuts (x ∷ f) [] m n a b e = Later f (ap (λ (y : Name). y ∷ f) (head_is x n (f ++ m ∷ a) b e)) (sym (tail_is x n (f ++ m ∷ a) b e))
cuts (x ∷ f) (y ∷ g) m n a b e =
    subst (λ (z : Name). Cuts (x ∷ f) (z ∷ g) m n a b) (head_is x y (f ++ m ∷ a) (g ++ n ∷ b) e)
    (further x f g m n a b (cuts f g m n a b (tail_is x y (f ++ m ∷ a) (g ++ n ∷ b) e)))

more_left : (around left more : List Name) (n : Name) → IsEntered around left n → IsEntered around (left ++ more) n
more_left around left more n (inl there) = inl there
more_left around left more n (inr there) = inr (Contains-append_left left more n there)

more_around : (m : Name) (around left : List Name) (n : Name) → IsEntered around left n → IsEntered (m ∷ around) left n
more_around m around left n (inl there) = inl (later_in m around n there)
more_around m around left n (inr there) = inr there

-- what was entered inside of a name was entered around it once that is left
settled : (m : Name) (around left inner rest : List Name) (k : Name) → IsEntered (m ∷ around) (left ++ inner) k → IsEntered around (left ++ (inner ++ m ∷ rest)) k
settled m around left inner rest k (inl there) =
    elim (in_cases m around k there) [
      | inl is ↦ inr (subst (Contains (left ++ (inner ++ m ∷ rest))) is (Contains-append_right left (inner ++ m ∷ rest) m (Contains-append_right inner (m ∷ rest) m (first_in m rest))))
      | inr more ↦ inl more
    ]
settled m around left inner rest k (inr there) =
    elim (Contains-append_cases left inner k there) [
      | inl was ↦ inr (Contains-append_left left (inner ++ m ∷ rest) k was)
      | inr new ↦ inr (Contains-append_right left (inner ++ m ∷ rest) k (Contains-append_left inner (m ∷ rest) k new))
    ]

-- the name stands at a place of the list, and this one before it, or was left before
pub record IsInFront (left names : List Name) (k n : Name) : Type 0 where
  pub before : List Name
  pub behind : List Name
  pub cut : names ≡ before ++ n ∷ behind
  pub there : Contains (left ++ before) k

module _ (children_of : Name → Option (List Name)) where
  same_kids : (a b : List Name) → Some a ≡ Some b → a ≡ b
  same_kids a b e = cc

  of_child : (p child : Name) (kids : List Name) → children_of p ≡ Some kids → IsChildIn children_of p child → Contains kids child
  of_child p child kids is by = subst (λ (ks : List Name). Contains ks child) (same_kids by.kids kids (sym by.held ∙ is)) by.one_of

  child_of : (p child : Name) (kids : List Name) → children_of p ≡ Some kids → Contains kids child → IsChildIn children_of p child
  child_of p child kids is there = record { kids = kids; held = is; one_of = there }

  -- all of the names were entered in the end
  pub names_entered : (around left names : List Name) (trip : Trip) → IsTrip children_of around left names trip → AreEntered around (left ++ left_in trip) names
  names_entered around left names Over is n there = absurd (none_in n (subst (λ (ns : List Name). Contains ns n) is there))
  names_entered around left names (Passes m rest) (more, cut, known, is) n there =
      elim (in_cases m more n (subst (λ (ns : List Name). Contains ns n) cut there)) [
        | inl same ↦ subst (IsEntered around (left ++ left_in rest)) same (more_left around left (left_in rest) m known)
        | inr later ↦ names_entered around left more rest is n later
      ]
  names_entered around left names (Enters m inner rest) (more, kids, cut, fresh, held, is, next) n there =
      elim (in_cases m more n (subst (λ (ns : List Name). Contains ns n) cut there)) [
        | inl same ↦ subst (IsEntered around (left ++ (left_in inner ++ m ∷ left_in rest))) same (settled m around left (left_in inner) (left_in rest) m (inl (first_in m around)))
        | inr later ↦ subst (λ (l : List Name). IsEntered around l n) (assoc_end left (left_in inner) (left_in rest) m) (names_entered around (left ++ (left_in inner ++ m ∷ [])) more rest next n later)
      ]

  -- so were the children of each name that was left
  pub kids_entered : (around left names : List Name) (trip : Trip) → IsTrip children_of around left names trip → (n k : Name) → Contains (left_in trip) n → IsChildIn children_of n k → IsEntered around (left ++ left_in trip) k
  kids_entered around left names Over is n k there by = absurd (none_in n there)
  kids_entered around left names (Passes m rest) (more, cut, known, is) n k there by = kids_entered around left more rest is n k there by
  kids_entered around left names (Enters m inner rest) (more, kids, cut, fresh, held, is, next) n k there by =
      elim (Contains-append_cases (left_in inner) (m ∷ left_in rest) n there) [
        | inl within ↦ settled m around left (left_in inner) (left_in rest) k (kids_entered (m ∷ around) left kids inner is n k within by)
        | inr after ↦
            elim (in_cases m (left_in rest) n after) [
              | inl same ↦
                  settled m around left (left_in inner) (left_in rest) k
                  (names_entered (m ∷ around) left kids inner is k (of_child m k kids held (subst (λ (p : Name). IsChildIn children_of p k) (sym same) by)))
              | inr later ↦ subst (λ (l : List Name). IsEntered around l k) (assoc_end left (left_in inner) (left_in rest) m) (kids_entered around (left ++ (left_in inner ++ m ∷ [])) more rest next n k later by)
            ]
      ]

  -- what goes on from each name to its children, and holds of the names, holds of all that are left, and these are held
  pub left_reached : (P : Name → Type 0) → ((n k : Name) → P n → IsChildIn children_of n k → P k) → (around left names : List Name) (trip : Trip) → IsTrip children_of around left names trip → ((n : Name) → Contains names n → P n)
      → (n : Name) → Contains (left_in trip) n → P n × IsHeldIn children_of n
  left_reached P on around left names Over is all n there = absurd (none_in n there)
  left_reached P on around left names (Passes m rest) (more, cut, known, is) all n there =
      left_reached P on around left more rest is (λ k h. all k (subst (λ (ns : List Name). Contains ns k) (sym cut) (later_in m more k h))) n there
  left_reached P on around left names (Enters m inner rest) (more, kids, cut, fresh, held, is, next) all n there =
      let here : P m = all m (subst (λ (ns : List Name). Contains ns m) (sym cut) (first_in m more)) in
      elim (Contains-append_cases (left_in inner) (m ∷ left_in rest) n there) [
        | inl within ↦ left_reached P on (m ∷ around) left kids inner is (λ k h. on m k here (child_of m k kids held h)) n within
        | inr after ↦
            elim (in_cases m (left_in rest) n after) [
              | inl same ↦ (subst P same here, subst (IsHeldIn children_of) same (kids, held))
              | inr later ↦ left_reached P on around (left ++ (left_in inner ++ m ∷ [])) more rest next (λ k h. all k (subst (λ (ns : List Name). Contains ns k) (sym cut) (later_in m more k h))) n later
            ]
      ]

  -- none of the names that are left was entered before
  pub left_fresh : (around left names : List Name) (trip : Trip) → IsTrip children_of around left names trip → (n : Name) → Contains (left_in trip) n → IsEntered around left n → ⊥
  left_fresh around left names Over is n there known = none_in n there
  left_fresh around left names (Passes m rest) (more, cut, was, is) n there known = left_fresh around left more rest is n there known
  left_fresh around left names (Enters m inner rest) (more, kids, cut, fresh, held, is, next) n there known =
      elim (Contains-append_cases (left_in inner) (m ∷ left_in rest) n there) [
        | inl within ↦ left_fresh (m ∷ around) left kids inner is n within (more_around m around left n known)
        | inr after ↦
            elim (in_cases m (left_in rest) n after) [
              | inl same ↦ fresh (subst (IsEntered around left) (sym same) known)
              | inr later ↦ left_fresh around (left ++ (left_in inner ++ m ∷ [])) more rest next n later (more_left around left (left_in inner ++ m ∷ []) n known)
            ]
      ]

  -- no name is left twice
  pub left_once : (around left names : List Name) (trip : Trip) → IsTrip children_of around left names trip → (before behind : List Name) (n : Name) → left_in trip ≡ before ++ n ∷ behind → Contains (left ++ before) n → ⊥
  left_once around left names Over is before behind n e there = absurd (none_in n (subst (λ (ns : List Name). Contains ns n) (sym e) (Contains-append_right before (n ∷ behind) n (first_in n behind))))
  left_once around left names (Passes m rest) (more, cut, was, is) before behind n e there = left_once around left more rest is before behind n e there
  left_once around left names (Enters m inner rest) (more, kids, cut, fresh, held, is, next) before behind n e there =
      elim (cuts (left_in inner) before m n (left_in rest) behind e) [
        | AtOne same named _ ↦
            elim (Contains-append_cases left before n there) [
              | inl was ↦ fresh (inr (subst (Contains left) (sym named) was))
              | inr within ↦ left_fresh (m ∷ around) left kids inner is m (subst (λ (ns : List Name). Contains ns m) (sym same) (subst (Contains before) (sym named) within)) (inl (first_in m around))
            ]
        | Sooner xs long rest_is ↦
            left_once around (left ++ (left_in inner ++ m ∷ [])) more rest next xs behind n rest_is
            (subst (λ (ns : List Name). Contains ns n) (ap (λ (l : List Name). left ++ l) long ∙ sym (assoc_end left (left_in inner) xs m)) there)
        | Later xs long _ ↦ left_once (m ∷ around) left kids inner is before xs n long there
      ]

  -- a child stands in front of its parent, or leads back to it
  pub kids_in_front : (around left names : List Name) (trip : Trip) → IsTrip children_of around left names trip → ((a n : Name) → Contains around a → Contains names n → ReachesIn children_of a n)
      → (n k : Name) → Contains (left_in trip) n → IsChildIn children_of n k → IsInFront left (left_in trip) k n ⊎ ReachesIn children_of k n
  kids_in_front around left names Over is lead n k there by = absurd (none_in n there)
  kids_in_front around left names (Passes m rest) (more, cut, known, is) lead n k there by =
      kids_in_front around left more rest is (λ a b h i. lead a b h (subst (λ (ns : List Name). Contains ns b) (sym cut) (later_in m more b i))) n k there by
  kids_in_front around left names (Enters m inner rest) (more, kids, cut, fresh, held, is, next) lead n k there by =
      let to_here = λ (a : Name) (h : Contains around a). lead a m h (subst (λ (ns : List Name). Contains ns m) (sym cut) (first_in m more)) in
      let within_lead : (a b : Name) → Contains (m ∷ around) a → Contains kids b → ReachesIn children_of a b =
      λ a b h i. let by_m = child_of m b kids held i in elim (in_cases m around a h) [
        | inl same ↦ subst (λ (x : Name). ReachesIn children_of x b) same (b ∷ [], (by_m, refl))
        | inr out ↦ let walk = to_here a out in reaches-next (IsHeldIn children_of) (IsChildIn children_of) walk.0 a m b walk.1 by_m
      ] in
      elim (Contains-append_cases (left_in inner) (m ∷ left_in rest) n there) [
        | inl within ↦
            elim (kids_in_front (m ∷ around) left kids inner is within_lead n k within by) [
              | inl front ↦
                  inl (record {
                    before = front.before;
                    behind = front.behind ++ m ∷ left_in rest;
                    cut = ap (λ (l : List Name). l ++ m ∷ left_in rest) front.cut ∙ append_assoc front.before (n ∷ front.behind) (m ∷ left_in rest);
                    there = front.there;
                  })
              | inr returns ↦ inr returns
            ]
        | inr after ↦
            elim (in_cases m (left_in rest) n after) [
              | inl same ↦
                  elim (names_entered (m ∷ around) left kids inner is k (of_child m k kids held (subst (λ (p : Name). IsChildIn children_of p k) (sym same) by))) [
                    | inl out ↦
                        inr (subst (ReachesIn children_of k) same (elim (in_cases m around k out) [ inl self ↦ ([], sym self) | inr outer ↦ to_here k outer ]))
                    | inr was ↦ inl (record { before = left_in inner; behind = left_in rest; cut = ap (λ (x : Name). left_in inner ++ x ∷ left_in rest) same; there = was })
                  ]
              | inr later ↦
                  elim (kids_in_front around (left ++ (left_in inner ++ m ∷ [])) more rest next (λ a b h i. lead a b h (subst (λ (ns : List Name). Contains ns b) (sym cut) (later_in m more b i))) n k later by) [
                    | inl front ↦
                        inl (record {
                          before = left_in inner ++ m ∷ front.before;
                          behind = front.behind;
                          cut = ap (λ (l : List Name). left_in inner ++ m ∷ l) front.cut ∙ sym (append_assoc (left_in inner) (m ∷ front.before) (n ∷ front.behind));
                          there = subst (λ (ns : List Name). Contains ns k) (assoc_end left (left_in inner) front.before m) front.there;
                        })
                    | inr returns ↦ inr returns
                  ]
            ]
      ]

  module _ (root : Name) (order : List Name) (o : IsPostorder children_of root order) where
    in_trip : (n : Name) → Contains order n → Contains (left_in o.trip) n
    in_trip n there = subst (λ (ns : List Name). Contains ns n) o.is there

    in_order : (n : Name) → IsEntered [] ([] ++ left_in o.trip) n → Contains order n
    in_order n (inl none) = absurd (none_in n none)
    in_order n (inr there) = subst (λ (ns : List Name). Contains ns n) (sym o.is) there

    from_root : (n k : Name) → ReachesIn children_of root n → IsChildIn children_of n k → ReachesIn children_of root k
    from_root n k (nodes, walk) by = reaches-next (IsHeldIn children_of) (IsChildIn children_of) nodes root n k walk by

    at_root : (n : Name) → Contains (root ∷ []) n → ReachesIn children_of root n
    at_root n there = elim (in_cases root [] n there) [ inl same ↦ ([], same) | inr none ↦ absurd (none_in n none) ]

    order_reached : (n : Name) → Contains order n → ReachesIn children_of root n × IsHeldIn children_of n
    order_reached n there = left_reached (ReachesIn children_of root) from_root [] [] (root ∷ []) o.trip o.walk at_root n (in_trip n there)

    walked : (nodes : List Name) (from n : Name) → Contains order from → IsWalk (IsChildIn children_of) from nodes n → Contains order n
    walked [] from n there e = subst (Contains order) e there
    walked (next ∷ nodes) from n there walk = walked nodes next n (in_order next (kids_entered [] [] (root ∷ []) o.trip o.walk from next (in_trip from there) walk.0)) walk.1

    root_in : Contains order root
    root_in = in_order root (names_entered [] [] (root ∷ []) o.trip o.walk root (first_in root []))

    pub order_are : (n : Name) → (Contains order n → ReachesIn children_of root n) × (ReachesIn children_of root n → Contains order n)
    order_are n = (λ there. (order_reached n there).0, λ reached. walked reached.0 root n root_in reached.1)

    pub order_closed : IsClosedIn children_of root
    order_closed n reached = (order_reached n ((order_are n).1 reached)).1

    pub order_once : (n : Name) → Precedes order n n → ⊥
    order_once n p = left_once [] [] (root ∷ []) o.trip o.walk p.before p.behind n (sym o.is ∙ p.cut) p.there

    pub order_front : (parent child : Name) → Contains order parent → IsChildIn children_of parent child → PrecedesOrReturns children_of order child parent
    order_front parent child there by =
        elim (kids_in_front [] [] (root ∷ []) o.trip o.walk (λ a n h i. absurd (none_in a h)) parent child (in_trip parent there) by) [
          | inl front ↦ inl (record { before = front.before; behind = front.behind; cut = o.is ∙ front.cut; there = front.there })
          | inr returns ↦ inr returns
        ]
