-- Trips that begin by passing names, and what is left to do of a walk from the names that it is inside of.
use Rattle.std.proofs.Common.{◌≡◌, ◌⊎◌, inl, inr, Option, Some, None, List, [], ◌∷◌, ◌++◌, map, refl, sym, ap, ◌∙◌, subst, arith, append_assoc}
use Rattle.std.specs.Prelude.{Contains}
use Rattle.std.proofs.lemmas.List.{append-nil}
use Rattle.std.proofs.lemmas.List.Elements.{Contains-append_right, Contains-append_cases}
use Rattle.swh_base.specs.declared.name.Name.{Name}
use Rattle.swh_base.proofs.Elementary.{only}
use Rattle.swh_postorder.specs.Postorder.{Trip, Over, Passes, Enters, left_in, IsEntered, Stop, Here, Inside, IsTrip, ComesTo, StopsAt}

pub first_in : {X : Type 0} → (x : X) (xs : List X) → Contains (x ∷ xs) x
first_in x xs = (0, omega arith, refl)

pub later_in : {X : Type 0} → (x : X) (xs : List X) (y : X) → Contains xs y → Contains (x ∷ xs) y
later_in x xs y there = Contains-append_right (x ∷ []) xs y there

pub in_cases : {X : Type 0} → (x : X) (xs : List X) (y : X) → Contains (x ∷ xs) y → (x ≡ y) ⊎ Contains xs y
in_cases x xs y there = elim (Contains-append_cases (x ∷ []) xs y there) [ inl is ↦ inl (only x y is) | inr later ↦ inr later ]

-- a trip that first passes these names
abbrev pub passing : List Name → Trip → Trip
passing [] trip = trip
passing (n ∷ ns) trip = Passes n (passing ns trip)

pub passing_left : (ns : List Name) (trip : Trip) → left_in (passing ns trip) ≡ left_in trip
passing_left [] trip = refl
passing_left (n ∷ ns) trip = passing_left ns trip

-- all of these were entered
abbrev pub AreEntered : List Name → List Name → List Name → Type 0
AreEntered around left ns = (n : Name) → Contains ns n → IsEntered around left n

-- a name that was entered and not left, and those of its children that are yet to be walked over
abbrev pub Level : Type 0
Level = Name × List Name

abbrev pub names_of : List Level → List Name
names_of levels = map (λ l. l.0) levels

assoc : (left a b : List Name) (k n : Name) → (left ++ (a ++ k ∷ [])) ++ (b ++ n ∷ []) ≡ left ++ ((a ++ k ∷ b) ++ n ∷ [])
assoc left a b k n = simp append_assoc

pub assoc_end : (left a b : List Name) (k : Name) → (left ++ (a ++ k ∷ [])) ++ b ≡ left ++ (a ++ k ∷ b)
assoc_end left a b k = simp append_assoc

module _ (children_of : Name → Option (List Name)) where
  pub passing_trip : (around left ns more : List Name) (trip : Trip) → AreEntered around left ns → IsTrip children_of around left more trip → IsTrip children_of around left (ns ++ more) (passing ns trip)
  passing_trip around left [] more trip all is = is
  passing_trip around left (n ∷ ns) more trip all is =
      (ns ++ more, refl, all n (first_in n ns), passing_trip around left ns more trip (λ m there. all m (later_in n ns m there)) is)

  -- a trip over names that were all entered
  pub passing_all : (around left ns : List Name) → AreEntered around left ns → IsTrip children_of around left ns (passing ns Over)
  passing_all around left ns all =
      subst (λ (names : List Name). IsTrip children_of around left names (passing ns Over)) (append-nil ns) (passing_trip around left ns [] Over all refl)

  -- The walk goes on from these levels, the innermost first, and has this order in the end.
  abbrev pub Completes : List Level → List Name → List Name → Type 0
  Completes [] left order = order ≡ left
  Completes (l ∷ ls) left order =
      (trip : Trip) × IsTrip children_of (l.0 ∷ names_of ls) left l.1 trip × Completes ls (left ++ (left_in trip ++ l.0 ∷ [])) order

  -- The walk goes on from these levels, and enters this name, which is not held.
  abbrev pub Misses : List Level → List Name → Name → Type 0
  Misses [] left missing = ⊥
  Misses (l ∷ ls) left missing =
      ((stop : Stop) × StopsAt children_of (l.0 ∷ names_of ls) left l.1 stop missing)
      ⊎ ((trip : Trip) × IsTrip children_of (l.0 ∷ names_of ls) left l.1 trip × Misses ls (left ++ (left_in trip ++ l.0 ∷ [])) missing)

  module _ (n : Name) (kids : List Name) (below : List Level) (left : List Name) (all : AreEntered (n ∷ names_of below) left kids) where
    nothing_left : left ++ n ∷ [] ≡ left ++ (left_in (passing kids Over) ++ n ∷ [])
    nothing_left = ap (λ (l : List Name). left ++ (l ++ n ∷ [])) (sym (passing_left kids Over))

    -- the innermost name is left
    pub leaves_whole : (order : List Name) → Completes below (left ++ n ∷ []) order → Completes ((n, kids) ∷ below) left order
    leaves_whole order rest =
        (passing kids Over, passing_all (n ∷ names_of below) left kids all, subst (λ (l : List Name). Completes below l order) nothing_left rest)

    pub leaves_gap : (missing : Name) → Misses below (left ++ n ∷ []) missing → Misses ((n, kids) ∷ below) left missing
    leaves_gap missing rest =
        inr (passing kids Over, passing_all (n ∷ names_of below) left kids all, subst (λ (l : List Name). Misses below l missing) nothing_left rest)

  module _ (around left skipped after : List Name) (k : Name) (all : AreEntered around left skipped) (fresh : IsEntered around left k → ⊥) where
    passed : left ≡ left ++ left_in (passing skipped Over)
    passed = sym (ap (λ (l : List Name). left ++ l) (passing_left skipped Over) ∙ append-nil left)

    pub comes_next : ComesTo children_of around left (skipped ++ k ∷ after) (passing skipped Over) k
    comes_next = record {
      front = skipped;
      back = after;
      cut = refl;
      before = passing_all around left skipped all;
      fresh = subst (λ (l : List Name). IsEntered around l k → ⊥) passed fresh;
    }

    -- it is not held
    pub stops_here : children_of k ≡ None → StopsAt children_of around left (skipped ++ k ∷ after) (Here (passing skipped Over)) k
    stops_here none = (comes_next, none)

    module _ (kids : List Name) (held : children_of k ≡ Some kids) where
      -- the walk stops among its children
      pub stops_inside : (stop : Stop) (missing : Name) → StopsAt children_of (k ∷ around) left kids stop missing → StopsAt children_of around left (skipped ++ k ∷ after) (Inside (passing skipped Over) k stop) missing
      stops_inside stop missing at =
          (kids, comes_next, held, subst (λ (l : List Name). StopsAt children_of (k ∷ around) l kids stop missing) passed at)

      module _ (inner : Trip) (is : IsTrip children_of (k ∷ around) left kids inner) where
        -- a trip over the names in front, the name, and others
        abbrev pub leading : Trip → Trip
        leading trip = passing skipped (Enters k inner trip)

        pub leading_left : (trip : Trip) → (left ++ (left_in inner ++ k ∷ [])) ++ left_in trip ≡ left ++ left_in (leading trip)
        leading_left trip =
            assoc_end left (left_in inner) (left_in trip) k ∙ ap (λ (l : List Name). left ++ l) (sym (passing_left skipped (Enters k inner trip)))

        pub leading_trip : (names : List Name) (trip : Trip) → IsTrip children_of around (left ++ (left_in inner ++ k ∷ [])) names trip → IsTrip children_of around left (skipped ++ k ∷ names) (leading trip)
        leading_trip names trip rest =
            passing_trip around left skipped (k ∷ names) (Enters k inner trip) all (names, kids, refl, fresh, held, is, rest)

        comes_later : (trip : Trip) (n : Name) → ComesTo children_of around (left ++ (left_in inner ++ k ∷ [])) after trip n → ComesTo children_of around left (skipped ++ k ∷ after) (leading trip) n
        comes_later trip n comes = record {
          front = skipped ++ k ∷ comes.front;
          back = comes.back;
          cut = ap (λ (l : List Name). skipped ++ k ∷ l) comes.cut ∙ sym (append_assoc skipped (k ∷ comes.front) (n ∷ comes.back));
          before = leading_trip comes.front trip comes.before;
          fresh = subst (λ (l : List Name). IsEntered around l n → ⊥) (leading_left trip) comes.fresh;
        }

        abbrev later : Stop → Stop
        later (Here trip) = Here (leading trip)
        later (Inside trip n stop) = Inside (leading trip) n stop

        -- the walk stops after it
        pub stops_later : (stop : Stop) (missing : Name) → StopsAt children_of around (left ++ (left_in inner ++ k ∷ [])) after stop missing → (other : Stop) × StopsAt children_of around left (skipped ++ k ∷ after) other missing
        stops_later (Here trip) missing (comes, none) = (Here (leading trip), (comes_later trip missing comes, none))
        stops_later (Inside trip n stop) missing (more, comes, kept, at) =
            (Inside (leading trip) n stop, (more, comes_later trip n comes, kept, subst (λ (l : List Name). StopsAt children_of (n ∷ around) l more stop missing) (leading_left trip) at))

  module _ (n k : Name) (kids skipped after : List Name) (below : List Level) (left : List Name)
      (all : AreEntered (n ∷ names_of below) left skipped) (fresh : IsEntered (n ∷ names_of below) left k → ⊥) (held : children_of k ≡ Some kids) where
    abbrev around : List Name
    around = n ∷ names_of below

    joined : (inner trip : Trip) → (left ++ (left_in inner ++ k ∷ [])) ++ (left_in trip ++ n ∷ []) ≡ left ++ (left_in (passing skipped (Enters k inner trip)) ++ n ∷ [])
    joined inner trip =
        assoc left (left_in inner) (left_in trip) k n ∙ ap (λ (l : List Name). left ++ (l ++ n ∷ [])) (sym (passing_left skipped (Enters k inner trip)))

    -- the first name that was not entered is entered
    pub enters_whole : (order : List Name) → Completes ((k, kids) ∷ (n, after) ∷ below) left order → Completes ((n, skipped ++ k ∷ after) ∷ below) left order
    enters_whole order (inner, is, (trip, then, rest)) = (
      passing skipped (Enters k inner trip),
      leading_trip (n ∷ names_of below) left skipped after k all fresh kids held inner is after trip then,
      subst (λ (l : List Name). Completes below l order) (joined inner trip) rest,
    )

    pub enters_gap : (missing : Name) → Misses ((k, kids) ∷ (n, after) ∷ below) left missing → Misses ((n, skipped ++ k ∷ after) ∷ below) left missing
    enters_gap missing (inl (stop, at)) =
        inl (Inside (passing skipped Over) k stop, stops_inside (n ∷ names_of below) left skipped after k all fresh kids held stop missing at)
    enters_gap missing (inr (inner, is, inl (stop, at))) =
        inl (stops_later (n ∷ names_of below) left skipped after k all fresh kids held inner is stop missing at)
    enters_gap missing (inr (inner, is, inr (trip, then, rest))) =
        inr (
          passing skipped (Enters k inner trip),
          leading_trip (n ∷ names_of below) left skipped after k all fresh kids held inner is after trip then,
          subst (λ (l : List Name). Misses below l missing) (joined inner trip) rest,
        )
