-- The last two rules of a stream, which only the root can break: it stands last in the order, and once.
use Rattle.std.proofs.Common.{◌≡◌, ◌≢◌, inl, inr, ◌<◌, ◌≤◌, Bool, Option, List, [], ◌∷◌, ◌++◌, refl, sym, ap, ◌∙◌, subst, arith}
use Rattle.std.specs.Prelude.{◌↔◌, IsTrue, Contains}
use Rattle.std.proofs.lemmas.List.Elements.{Contains-append_left, Contains-append_right}
use Rattle.swh_base.specs.declared.kind.Kind.{Kind}
use Rattle.swh_base.specs.declared.kind.Kind.TheVariants.{Content as ContentKind, Directory as DirectoryKind, Revision as RevisionKind, Release as ReleaseKind, Snapshot as SnapshotKind}
use Rattle.swh_base.specs.declared.name.Name.{Name}
use Rattle.swh_base.proofs.Elementary.{none_in}
use Rattle.swh_model.specs.Archive.{Bodies, IsHeld, IsGraphOf}
use Rattle.swh_postorder.specs.Postorder.{Trip, Over, Passes, Enters, left_in, IsTrip, IsPostorder}
use Rattle.swh_postorder.proofs.Orders.{AtOne, Sooner, Later, cuts, order_once, head_is, tail_is}
use Rattle.swh_postorder.proofs.Preceded.{held_in}
use Rattle.swh_postorder.proofs.Trips.{first_in}
use Rattle.swh_carried.specs.declared.fault.Why.{Why}
use Rattle.swh_carried.specs.declared.fault.Why.TheVariants.{Cycle, Revision, Release, Empty, Dots, Text, Path, Branch, Tagless, Refs, Length}
use Rattle.swh_carried.specs.Uncarried.{rule_number, BreaksFirst, BreaksNone, IsFirstToBreak}
use Rattle.swh_fastcarried.specs.Rules.{IsOddKind, IsOddObject, BreaksIn}
use Rattle.swh_fastcook.specs.Cook.{BreaksStream}
use Rattle.swh_fastcook.specs.Length.{IsLongStream}
use Rattle.swh_fastcook.specs.Loaded.{LoadsMany}

-- ---- the root is last

-- the root behind all else
pub record EndsAtRoot (order : List Name) (root : Name) : Type 0 where
  pub front : List Name
  pub is : order ≡ front ++ root ∷ []

no_tail : (more : List Name) (x : Name) (xs : List Name) → [] ≡ more ++ x ∷ xs → ⊥
no_tail [] x xs e = cc
no_tail (m ∷ more) x xs e = cc

module _ (children_of : Name → Option (List Name)) (root : Name) where
  nothing_more : (trip : Trip) (around left more : List Name) → more ≡ [] → IsTrip children_of around left more trip → left_in trip ≡ []
  nothing_more Over around left more none is = refl
  nothing_more (Passes n rest) around left more none (rest_names, cut, entered, on) = let e : n ∷ rest_names ≡ [] = sym cut ∙ none in cc
  nothing_more (Enters n inner rest) around left more none (rest_names, kids, cut, fresh, held, under, on) = let e : n ∷ rest_names ≡ [] = sym cut ∙ none in cc

  trip_ends : (trip : Trip) → IsTrip children_of [] [] (root ∷ []) trip → EndsAtRoot (left_in trip) root
  trip_ends Over is = let e : root ∷ [] ≡ [] = is in cc
  trip_ends (Passes n rest) (more, cut, inl around, on) = absurd (none_in n around)
  trip_ends (Passes n rest) (more, cut, inr left, on) = absurd (none_in n left)
  trip_ends (Enters n inner rest) (more, kids, cut, fresh, held, under, on) = record {
    front = left_in inner;
    is =
        ap (λ (l : List Name). left_in inner ++ n ∷ l) (nothing_more rest [] ([] ++ (left_in inner ++ n ∷ [])) more (sym (tail_is root n [] more cut)) on)
        ∙ ap (λ (m : Name). left_in inner ++ m ∷ []) (sym (head_is root n [] more cut));
  }

  module _ (order : List Name) (is : IsPostorder children_of root order) where
    pub ends_at_root : EndsAtRoot order root
    ends_at_root = let e = trip_ends is.trip is.walk in record { front = e.front; is = is.is ∙ e.is }

    -- what stands before another name is not the root
    pub not_root : (before behind : List Name) (name : Name) → order ≡ before ++ name ∷ behind → (n : Name) → Contains before n → n ≢ root
    not_root before behind name cut n there same =
        let e = ends_at_root in
        let root_there : Contains before root = subst (λ (m : Name). Contains before m) same there in
        elim (cuts before e.front name root behind [] (sym cut ∙ e.is)) [
          | AtOne front _ _ ↦ order_once children_of root order is root (record { before = e.front; behind = []; cut = e.is; there = subst (λ (l : List Name). Contains l root) front root_there })
          | Sooner more long _ ↦ order_once children_of root order is root (record { before = e.front; behind = []; cut = e.is; there = subst (λ (l : List Name). Contains l root) (sym long) (Contains-append_left before (name ∷ more) root root_there) })
          | Later more _ none ↦ no_tail more name behind none
        ]

-- all in the order is held
pub all_held : (bodies : Bodies) (children_of : Name → Option (List Name)) → IsGraphOf bodies children_of → (root : Name) (order : List Name) → IsPostorder children_of root order → (n : Name) → Contains order n → IsHeld bodies n
all_held bodies children_of graph root order is n there =
    let kids = held_in children_of order (record { root = root; is = is }) n there in
    let held = graph.held n kids.0 kids.1 in
    (held.0, held.1)

-- ---- the rules on what a stream loads, and on how long it is

module _ (bodies : Bodies) (children_of : Name → Option (List Name)) (root : Name) (order : List Name) (is : IsPostorder children_of root order) (many : Bool) (same : IsTrue many ↔ LoadsMany bodies order root) where
  abbrev Short : Name → Why → Type 0
  Short = BreaksIn bodies root order (IsTrue many) ⊥

  abbrev Whole : Name → Why → Type 0
  Whole = BreaksStream bodies root order

  abbrev Long : Type 0
  Long = (root.kind ≢ ContentKind) × IsLongStream bodies order root

  to_whole : (n : Name) (why : Why) → Short n why → Whole n why
  to_whole n Cycle h = h
  to_whole n Revision h = h
  to_whole n Release h = h
  to_whole n Empty h = h
  to_whole n Dots h = h
  to_whole n Text h = h
  to_whole n Path h = h
  to_whole n Branch h = h
  to_whole n Tagless h = h
  to_whole n Refs h = (h.0, same.0 h.1)
  to_whole n Length h = absurd h.1

  to_short : (n : Name) (why : Why) → ((n ≡ root) × Long → ⊥) → Whole n why → Short n why
  to_short n Cycle not h = h
  to_short n Revision not h = h
  to_short n Release not h = h
  to_short n Empty not h = h
  to_short n Dots not h = h
  to_short n Text not h = h
  to_short n Path not h = h
  to_short n Branch not h = h
  to_short n Tagless not h = h
  to_short n Refs not h = (h.0, same.1 h.1)
  to_short n Length not h = absurd (not h)

  -- a rule before the last
  below_length : (n : Name) (why : Why) → rule_number why < 10 → Whole n why → Short n why
  below_length n Cycle less h = h
  below_length n Revision less h = h
  below_length n Release less h = h
  below_length n Empty less h = h
  below_length n Dots less h = h
  below_length n Text less h = h
  below_length n Path less h = h
  below_length n Branch less h = h
  below_length n Tagless less h = h
  below_length n Refs less h = (h.0, same.1 h.1)
  below_length n Length less h = absurd (omega (arith, less))

  few : (why : Why) → rule_number why ≤ 10
  few Cycle = omega arith
  few Revision = omega arith
  few Release = omega arith
  few Empty = omega arith
  few Dots = omega arith
  few Text = omega arith
  few Path = omega arith
  few Branch = omega arith
  few Tagless = omega arith
  few Refs = omega arith
  few Length = omega arith

  none_whole : (n : Name) → ((n ≡ root) × Long → ⊥) → BreaksNone Short n → BreaksNone Whole n
  none_whole n not none why h = none why (to_short n why not h)

  none_before : (before behind : List Name) (name : Name) → order ≡ before ++ name ∷ behind → ((n : Name) → Contains before n → BreaksNone Short n) → (n : Name) → Contains before n → BreaksNone Whole n
  none_before before behind name cut none n there = none_whole n (λ both. not_root children_of root order is before behind name cut n there both.0) (none n there)

  first_whole : (name : Name) (why : Why) → BreaksFirst Short name why → BreaksFirst Whole name why
  first_whole name why first = record {
    is = to_whole name why first.is;
    none = λ other less h. let most = few why in first.none other less (below_length name other (omega (arith, less, most)) h);
  }

  -- what breaks a rule without the last breaks it with that
  pub found_whole : (name : Name) (why : Why) → IsFirstToBreak Short order name why → IsFirstToBreak Whole order name why
  found_whole name why f = record {
    before = f.before;
    behind = f.behind;
    cut = f.cut;
    is = first_whole name why f.is;
    none = none_before f.before f.behind name f.cut f.none;
  }

  module _ (none : (n : Name) → Contains order n → BreaksNone Short n) where
    -- a root whose stream is too long
    pub root_long : Long → IsFirstToBreak Whole order root Length
    root_long long =
        let e = ends_at_root children_of root order is in
        let there : Contains order root = subst (λ (l : List Name). Contains l root) (sym e.is) (Contains-append_right e.front (root ∷ []) root (first_in root [])) in
        record {
          before = e.front;
          behind = [];
          cut = e.is;
          is = record { is = (refl, long); none = λ other less h. none root there other (below_length root other less h) };
          none = none_before e.front [] root e.is (λ n in_front. none n (subst (λ (l : List Name). Contains l n) (sym e.is) (Contains-append_left e.front (root ∷ []) n in_front)));
        }

    pub none_long : (Long → ⊥) → (n : Name) → Contains order n → BreaksNone Whole n
    none_long not n there = none_whole n (λ both. not both.1) (none n there)

    pub none_odd : (n : Name) → Contains order n → IsOddObject bodies n → ⊥
    none_odd n there odd = by n.kind refl odd
      where
        by : (kind : Kind) → n.kind ≡ kind → IsOddKind bodies n kind → ⊥
        by ContentKind k h = h
        by DirectoryKind k h = h
        by RevisionKind k h = none n there Revision h
        by ReleaseKind k h = none n there Release h
        by SnapshotKind k h = h
