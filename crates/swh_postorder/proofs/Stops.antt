-- There is one trip over some names, and one name at which a walk stops, and not both.
use Rattle.std.proofs.Common.{◌≡◌, inl, inr, Option, Some, None, List, [], ◌∷◌, ◌++◌, refl, sym, ap, ◌∙◌, subst}
use Rattle.std.proofs.lemmas.List.{append-nil}
use Rattle.std.specs.Prelude.{Contains}
use Rattle.swh_base.specs.declared.name.Name.{Name}
use Rattle.swh_postorder.specs.Postorder.{Trip, Over, Passes, Enters, left_in, IsEntered, Stop, Here, Inside, IsTrip, ComesTo, StopsAt, IsPostorder, IsFirstMissing}
use Rattle.swh_base.specs.Reach.{IsHeldIn, IsChildIn, ReachesIn}
use Rattle.swh_base.proofs.Reaches.{reaches-next}
use Rattle.swh_base.proofs.Elementary.{none_in}
use Rattle.swh_postorder.proofs.Trips.{first_in, in_cases, assoc_end}
use Rattle.std.proofs.lemmas.List.Elements.{Contains-append_right}
use Rattle.swh_postorder.proofs.Orders.{AtOne, Sooner, Later, cuts, head_is, tail_is}

in_cut : (names front back : List Name) (n : Name) → names ≡ front ++ n ∷ back → Contains names n
in_cut names front back n cut = subst (λ (ns : List Name). Contains ns n) (sym cut) (Contains-append_right front (n ∷ back) n (first_in n back))

module _ (children_of : Name → Option (List Name)) where
  moved : (a b : List Name) (l m : List Name) (ns os : List Name) (t : Trip) → a ≡ b → l ≡ m → ns ≡ os → IsTrip children_of a l ns t → IsTrip children_of b m os t
  moved a b l m ns os t e f g is =
      subst (λ (x : List Name). IsTrip children_of x m os t) e (subst (λ (x : List Name). IsTrip children_of a x os t) f (subst (λ (x : List Name). IsTrip children_of a l x t) g is))

  same_kids : (a b : List Name) → Some a ≡ Some b → a ≡ b
  same_kids a b e = cc

  apart : (n : Name) (ns : List Name) → [] ≡ n ∷ ns → ⊥
  apart n ns e = cc

  not_both : (n : Name) (kids : List Name) → children_of n ≡ Some kids → children_of n ≡ None → ⊥
  not_both n kids held none = let e : Some kids ≡ None = sym held ∙ none in cc

  entered_at : (around left : List Name) (m n : Name) → m ≡ n → IsEntered around left m → IsEntered around left n
  entered_at around left m n same known = subst (IsEntered around left) same known

  -- there is one trip
  pub same_trip : (around left names : List Name) (t u : Trip) → IsTrip children_of around left names t → IsTrip children_of around left names u → t ≡ u
  same_trip around left names Over Over is its = refl
  same_trip around left names Over (Passes n rest) is (more, cut, known, its) = absurd (apart n more (sym is ∙ cut))
  same_trip around left names Over (Enters n inner rest) is (more, kids, cut, fresh, held, its, next) = absurd (apart n more (sym is ∙ cut))
  same_trip around left names (Passes n rest) Over (more, cut, known, its) is = absurd (apart n more (sym is ∙ cut))
  same_trip around left names (Enters n inner rest) Over (more, kids, cut, fresh, held, its, next) is = absurd (apart n more (sym is ∙ cut))
  same_trip around left names (Passes m rest) (Enters n inner other) (more, cut, known, is) (less, kids, cut', fresh, held, its, next) =
      absurd (fresh (entered_at around left m n (head_is m n more less (sym cut ∙ cut')) known))
  same_trip around left names (Enters n inner other) (Passes m rest) (less, kids, cut', fresh, held, its, next) (more, cut, known, is) =
      absurd (fresh (entered_at around left m n (head_is m n more less (sym cut ∙ cut')) known))
  same_trip around left names (Passes m rest) (Passes n other) (more, cut, known, is) (less, cut', known', is') =
      let head = head_is m n more less (sym cut ∙ cut') in
      let tail = tail_is m n more less (sym cut ∙ cut') in
      let same = same_trip around left less rest other (moved around around left left more less rest refl refl tail is) is' in
      cc
  same_trip around left names (Enters m inner rest) (Enters n within other) (more, kids, cut, fresh, held, is, next) (less, its, cut', fresh', held', is', next') =
      let head = head_is m n more less (sym cut ∙ cut') in
      let tail = tail_is m n more less (sym cut ∙ cut') in
      let kids_same = same_kids kids its (sym held ∙ ap children_of head ∙ held') in
      let inner_same = same_trip (n ∷ around) left its inner within (moved (m ∷ around) (n ∷ around) left left kids its inner (ap (λ (x : Name). x ∷ around) head) refl kids_same is) is' in
      let left_same = ap (λ (t : Trip). left ++ (left_in t ++ m ∷ [])) inner_same ∙ ap (λ (x : Name). left ++ (left_in within ++ x ∷ [])) head in
      let rest_same = same_trip around (left ++ (left_in within ++ n ∷ [])) less rest other (moved around around (left ++ (left_in inner ++ m ∷ [])) (left ++ (left_in within ++ n ∷ [])) more less rest refl left_same tail next) next' in
      cc

  -- a trip over two lists of names, one after the other
  record Split (around left front back : List Name) : Type 0 where
    a : Trip
    b : Trip
    first : IsTrip children_of around left front a
    second : IsTrip children_of around (left ++ left_in a) back b

  split : (around left front back : List Name) (t : Trip) → IsTrip children_of around left (front ++ back) t → Split around left front back
  split around left [] back t is = record { a = Over; b = t; first = refl; second = moved around around left (left ++ []) back back t refl (sym (append-nil left)) refl is }
  split around left (n ∷ front) back Over is = absurd (apart n (front ++ back) (sym is))
  split around left (n ∷ front) back (Passes m rest) (more, cut, known, is) =
      let s = split around left front back rest (moved around around left left more (front ++ back) rest refl refl (sym (tail_is n m (front ++ back) more cut)) is) in
      record {
        a = Passes m s.a;
        b = s.b;
        first = (front, ap (λ (x : Name). x ∷ front) (head_is n m (front ++ back) more cut), known, s.first);
        second = s.second;
      }
  split around left (n ∷ front) back (Enters m inner rest) (more, kids, cut, fresh, held, is, next) =
      let before = left ++ (left_in inner ++ m ∷ []) in
      let s = split around before front back rest (moved around around before before more (front ++ back) rest refl refl (sym (tail_is n m (front ++ back) more cut)) next) in
      record {
        a = Enters m inner s.a;
        b = s.b;
        first = (front, kids, ap (λ (x : Name). x ∷ front) (head_is n m (front ++ back) more cut), fresh, held, is, s.first);
        second = moved around around (before ++ left_in s.a) (left ++ (left_in inner ++ m ∷ left_in s.a)) back back s.b refl (assoc_end left (left_in inner) (left_in s.a) m) refl s.second;
      }

  -- the trip enters the name at its front
  record EntersFirst (around left : List Name) (n : Name) : Type 0 where
    kids : List Name
    inner : Trip
    held : children_of n ≡ Some kids
    is : IsTrip children_of (n ∷ around) left kids inner

  enters_first : (around left : List Name) (n : Name) (back : List Name) (t : Trip) → (IsEntered around left n → ⊥) → IsTrip children_of around left (n ∷ back) t → EntersFirst around left n
  enters_first around left n back Over fresh is = absurd (apart n back (sym is))
  enters_first around left n back (Passes m rest) fresh (more, cut, known, is) = absurd (fresh (entered_at around left m n (sym (head_is n m back more cut)) known))
  enters_first around left n back (Enters m inner rest) fresh (more, kids, cut, new, held, is, next) =
      let head = head_is n m back more cut in
      record {
        kids = kids;
        inner = inner;
        held = ap children_of head ∙ held;
        is = moved (m ∷ around) (n ∷ around) left left kids kids inner (ap (λ (x : Name). x ∷ around) (sym head)) refl refl is;
      }

  -- so does each trip that goes further than where another walk comes to the name
  ahead : (around left names : List Name) (trip : Trip) (n : Name) (comes : ComesTo children_of around left names trip n) (back : List Name) (t : Trip) → IsTrip children_of around left (comes.front ++ n ∷ back) t → EntersFirst around (left ++ left_in trip) n
  ahead around left names trip n comes back t is =
      let s = split around left comes.front (n ∷ back) t is in
      let same = same_trip around left comes.front s.a trip s.first comes.before in
      enters_first around (left ++ left_in trip) n back s.b comes.fresh
      (moved around around (left ++ left_in s.a) (left ++ left_in trip) (n ∷ back) (n ∷ back) s.b refl (ap (λ (x : Trip). left ++ left_in x) same) refl s.second)

  -- a walk that stops makes no trip
  pub stops_not_over : (around left names : List Name) (stop : Stop) (missing : Name) (t : Trip) → StopsAt children_of around left names stop missing → IsTrip children_of around left names t → ⊥
  stops_not_over around left names (Here trip) missing t (comes, none) is =
      let e = ahead around left names trip missing comes comes.back t (subst (λ (ns : List Name). IsTrip children_of around left ns t) comes.cut is) in
      not_both missing e.kids e.held none
  stops_not_over around left names (Inside trip n stop) missing t (kids, comes, held, at) is =
      let e = ahead around left names trip n comes comes.back t (subst (λ (ns : List Name). IsTrip children_of around left ns t) comes.cut is) in
      stops_not_over (n ∷ around) (left ++ left_in trip) kids stop missing e.inner at
      (subst (λ (ks : List Name). IsTrip children_of (n ∷ around) (left ++ left_in trip) ks e.inner) (same_kids e.kids kids (sym e.held ∙ held)) e.is)

  -- it makes no trip that goes further than where it stops
  not_further : (around left names : List Name) (trip : Trip) (n : Name) (comes : ComesTo children_of around left names trip n) (kids : List Name) (stop : Stop) (missing : Name) → children_of n ≡ Some kids
      → StopsAt children_of (n ∷ around) (left ++ left_in trip) kids stop missing → (back : List Name) (t : Trip) → IsTrip children_of around left (comes.front ++ n ∷ back) t → ⊥
  not_further around left names trip n comes kids stop missing held at back t is =
      let e = ahead around left names trip n comes back t is in
      stops_not_over (n ∷ around) (left ++ left_in trip) kids stop missing e.inner at
      (subst (λ (ks : List Name). IsTrip children_of (n ∷ around) (left ++ left_in trip) ks e.inner) (same_kids e.kids kids (sym e.held ∙ held)) e.is)

  longer : (around left names : List Name) (trip u : Trip) (m n : Name) (a : ComesTo children_of around left names trip m) (b : ComesTo children_of around left names u n) (more : List Name) → b.front ≡ a.front ++ m ∷ more
      → IsTrip children_of around left (a.front ++ m ∷ more) u
  longer around left names trip u m n a b more e = subst (λ (ns : List Name). IsTrip children_of around left ns u) e b.before

  here_inside : (around left names : List Name) (trip u : Trip) (m n : Name) (a : ComesTo children_of around left names trip m) (b : ComesTo children_of around left names u n) → children_of m ≡ None
      → (kids : List Name) (stop : Stop) (missing : Name) → children_of n ≡ Some kids → StopsAt children_of (n ∷ around) (left ++ left_in u) kids stop missing → ⊥
  here_inside around left names trip u m n a b none kids stop missing held at =
      elim (cuts a.front b.front m n a.back b.back (sym a.cut ∙ b.cut)) [
        | AtOne _ same _ ↦ not_both n kids held (sym (ap children_of same) ∙ none)
        | Sooner more long _ ↦ let e = ahead around left names trip m a more u (longer around left names trip u m n a b more long) in not_both m e.kids e.held none
        | Later more long _ ↦ not_further around left names u n b kids stop missing held at more trip (longer around left names u trip n m b a more long)
      ]

  -- it stops at one name
  pub stops_once : (around left names : List Name) (s t : Stop) (m n : Name) → StopsAt children_of around left names s m → StopsAt children_of around left names t n → m ≡ n
  stops_once around left names (Here trip) (Here u) m n (a, none) (b, none') =
      elim (cuts a.front b.front m n a.back b.back (sym a.cut ∙ b.cut)) [
        | AtOne _ same _ ↦ same
        | Sooner more long _ ↦ let e = ahead around left names trip m a more u (longer around left names trip u m n a b more long) in absurd (not_both m e.kids e.held none)
        | Later more long _ ↦ let e = ahead around left names u n b more trip (longer around left names u trip n m b a more long) in absurd (not_both n e.kids e.held none')
      ]
  stops_once around left names (Here trip) (Inside u p t) m n (a, none) (kids, b, held, at) = absurd (here_inside around left names trip u m p a b none kids t n held at)
  stops_once around left names (Inside u p s) (Here trip) m n (kids, b, held, at) (a, none) = absurd (here_inside around left names trip u n p a b none kids s m held at)
  stops_once around left names (Inside trip p s) (Inside u q t) m n (kids, a, held, at) (its, b, held', at') =
      elim (cuts a.front b.front p q a.back b.back (sym a.cut ∙ b.cut)) [
        | AtOne front same _ ↦
            let trips = same_trip around left b.front trip u (subst (λ (ns : List Name). IsTrip children_of around left ns trip) front a.before) b.before in
            let kids_same = same_kids kids its (sym held ∙ ap children_of same ∙ held') in
            let one = subst (λ (x : Name). StopsAt children_of (x ∷ around) (left ++ left_in trip) kids s m) same at in
            let two = subst (λ (x : Trip). StopsAt children_of (q ∷ around) (left ++ left_in x) kids s m) trips one in
            stops_once (q ∷ around) (left ++ left_in u) its s t m n (subst (λ (ks : List Name). StopsAt children_of (q ∷ around) (left ++ left_in u) ks s m) kids_same two) at'
        | Sooner more long _ ↦ absurd (not_further around left names trip p a kids s m held at more u (longer around left names trip u p q a b more long))
        | Later more long _ ↦ absurd (not_further around left names u q b its t n held' at' more trip (longer around left names u trip q p b a more long))
      ]

  -- where a walk stops is reached, and is not held
  stop_reached : (P : Name → Type 0) → ((n k : Name) → P n → IsChildIn children_of n k → P k) → (around left names : List Name) (stop : Stop) (missing : Name) → StopsAt children_of around left names stop missing
      → ((n : Name) → Contains names n → P n) → P missing × (children_of missing ≡ None)
  stop_reached P on around left names (Here trip) missing (comes, none) all = (all missing (in_cut names comes.front comes.back missing comes.cut), none)
  stop_reached P on around left names (Inside trip n stop) missing (kids, comes, held, at) all =
      stop_reached P on (n ∷ around) (left ++ left_in trip) kids stop missing at
      (λ k there. on n k (all n (in_cut names comes.front comes.back n comes.cut)) (record { kids = kids; held = held; one_of = there }))

  pub gap_reached : (root missing : Name) → IsFirstMissing children_of root missing → ReachesIn children_of root missing × (children_of missing ≡ None)
  gap_reached root missing gap =
      stop_reached (ReachesIn children_of root) (λ n k walk by. reaches-next (IsHeldIn children_of) (IsChildIn children_of) walk.0 root n k walk.1 by) [] [] (root ∷ []) gap.stop missing gap.walk
      (λ n there. elim (in_cases root [] n there) [ inl same ↦ ([], same) | inr none ↦ absurd (none_in n none) ])

  pub one_order : (root : Name) (a b : List Name) → IsPostorder children_of root a → IsPostorder children_of root b → a ≡ b
  one_order root a b o p = o.is ∙ ap left_in (same_trip [] [] (root ∷ []) o.trip p.trip o.walk p.walk) ∙ sym p.is

  pub one_gap : (root m n : Name) → IsFirstMissing children_of root m → IsFirstMissing children_of root n → m ≡ n
  one_gap root m n a b = stops_once [] [] (root ∷ []) a.stop b.stop m n a.walk b.walk

  pub not_order_and_gap : (root missing : Name) (order : List Name) → IsPostorder children_of root order → IsFirstMissing children_of root missing → ⊥
  not_order_and_gap root missing order o gap = stops_not_over [] [] (root ∷ []) gap.stop missing o.trip gap.walk o.walk
