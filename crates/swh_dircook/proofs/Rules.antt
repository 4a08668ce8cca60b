-- Which rule a directory breaks first, and which object of an order.
use Rattle.std.proofs.Common.{add-one, drop, take, drop-cons, get_or, ◌≡◌, inl, inr, ℕ, ◌+◌, ◌<◌, Option, Some, None, List, [], ◌∷◌, ◌++◌, length, refl, sym, ap, ◌∙◌, subst, arith}
use Rattle.std.specs.Prelude.{Contains, ◌↔◌}
use Rattle.std.specs.Str.{IsUtf8}
use Rattle.std.proofs.lemmas.List.{take_more, take-append-drop}
use Rattle.std.proofs.lemmas.List.Elements.{Contains-append_left, Contains-append_right, Contains-append_cases}
use Rattle.swh_base.specs.declared.kind.Kind.TheVariants.{Directory as DirectoryKind}
use Rattle.swh_base.specs.declared.name.Name.{Name}
use Rattle.swh_base.specs.Directory.{DirectoryEntry, IsDirectory}
use Rattle.swh_base.proofs.DirectoryLemmas.{one_listing_lem}
use Rattle.swh_base.proofs.Elementary.{none_in, only}
use Rattle.swh_dirfmt.specs.declared.entry.SpelledEntry.{SpelledEntry}
use Rattle.swh_dirfmt.specs.Entries.{entry_of, entries_in_body}
use Rattle.swh_model.specs.Archive.{Bodies, body_of}
use Rattle.swh_graph.specs.Holding.{HoldsDirectory}
use Rattle.swh_graph.proofs.Lists.{in_first, in_map, from_map, same_some}
use Rattle.swh_postorder.specs.Postorder.{Trip, Over, Passes, Enters, left_in, IsTrip, IsPostorder}
use Rattle.swh_postorder.proofs.Orders.{AtOne, Sooner, Later, cuts, order_once}
use Rattle.swh_carried.specs.declared.fault.Why.{Why}
use Rattle.swh_carried.specs.declared.fault.Why.TheVariants.{Cycle, Revision, Release, Empty, Dots, Text, Path, Branch, Tagless, Refs, Length}
use Rattle.swh_carried.specs.Rules.{HasDirectoryEntry, IsDots, HasDots, HasLongPath, way_length}
use Rattle.swh_carried.specs.Uncarried.{rule_number, BreaksFirst, BreaksNone, IsFirstToBreak}
use Rattle.swh_carried.specs.Ways.{IsWay, Tells}
use Rattle.swh_dircook.specs.Names.{HaveDots, HaveOtherText, BreaksByName}
use Rattle.swh_dircook.specs.Rules.{HasOtherText, BreaksIn, IsFirstOf, IsLongOver}

-- ---- the entries of a directory

pub of_names : (es : List SpelledEntry) (long : Type 0) (why : Why) → BreaksByName es (Some why) → IsFirstOf (HaveDots es) (HaveOtherText es) long (Some why)
of_names es long Dots is = is
of_names es long Text is = is
of_names es long Cycle is = absurd is
of_names es long Revision is = absurd is
of_names es long Release is = absurd is
of_names es long Empty is = absurd is
of_names es long Path is = absurd is
of_names es long Branch is = absurd is
of_names es long Tagless is = absurd is
of_names es long Refs is = absurd is
of_names es long Length is = absurd is

first_same : (d e t u l m : Type 0) → d ↔ e → t ↔ u → l ↔ m → (rule : Option Why) → IsFirstOf d t l rule → IsFirstOf e u m rule
first_same d e t u l m de tu lm None (a, b, c) = (λ x. a (de.1 x), λ x. b (tu.1 x), λ x. c (lm.1 x))
first_same d e t u l m de tu lm (Some Dots) a = de.0 a
first_same d e t u l m de tu lm (Some Text) (a, b) = (λ x. a (de.1 x), tu.0 b)
first_same d e t u l m de tu lm (Some Path) (a, b, c) = (λ x. a (de.1 x), λ x. b (tu.1 x), lm.0 c)
first_same d e t u l m de tu lm (Some Cycle) is = absurd is
first_same d e t u l m de tu lm (Some Revision) is = absurd is
first_same d e t u l m de tu lm (Some Release) is = absurd is
first_same d e t u l m de tu lm (Some Empty) is = absurd is
first_same d e t u l m de tu lm (Some Branch) is = absurd is
first_same d e t u l m de tu lm (Some Tagless) is = absurd is
first_same d e t u l m de tu lm (Some Refs) is = absurd is
first_same d e t u l m de tu lm (Some Length) is = absurd is

-- nothing is broken where no directory is held
pub none_broken : (bodies : Bodies) (name root : Name) → ((e : DirectoryEntry) → HasDirectoryEntry bodies name e → ⊥) → IsFirstOf (HasDots bodies name) (HasOtherText bodies name) (HasLongPath bodies (λ start. start ≡ root) name) None
none_broken bodies name root none = (λ h. none h.entry h.is_entry, λ h. none h.entry h.is_entry, λ h. none h.entry h.is_entry)

pub none_held : (bodies : Bodies) (name : Name) → body_of bodies name ≡ None → (e : DirectoryEntry) → HasDirectoryEntry bodies name e → ⊥
none_held bodies name missing e h = let f : Some h.body ≡ None = sym h.held ∙ missing in cc

module _ (bodies : Bodies) (name : Name) (kind : name.kind ≡ DirectoryKind) (items : List SpelledEntry) (holds : HoldsDirectory bodies name (entries_in_body items)) where
  entry_at : (e : SpelledEntry) → Contains items e → HasDirectoryEntry bodies name (entry_of e)
  entry_at e there = record { kind = kind; body = holds.body; held = holds.held; entries = entries_in_body items; is = holds.is; there = in_map entry_of items e there }

  same_entries : (e : DirectoryEntry) (h : HasDirectoryEntry bodies name e) → h.entries ≡ entries_in_body items
  same_entries e h = one_listing_lem holds.body h.entries (entries_in_body items) (subst (λ (b : List ℕ). IsDirectory b h.entries) (same_some h.body holds.body (sym h.held ∙ holds.held)) h.is) holds.is

  among : (e : DirectoryEntry) → HasDirectoryEntry bodies name e → Contains (entries_in_body items) e
  among e h = subst (λ (es : List DirectoryEntry). Contains es e) (same_entries e h) h.there

  item_of : (e : DirectoryEntry) → HasDirectoryEntry bodies name e → (s : SpelledEntry) × (Contains items s × (entry_of s ≡ e))
  item_of e h = from_map entry_of items e (among e h)

  dots : HaveDots items ↔ HasDots bodies name
  dots = (
    λ h. record { entry = entry_of h.0; is_entry = entry_at h.0 h.1; is = h.2 },
    λ h. let s = item_of h.entry h.is_entry in (s.0, s.1.0, subst (λ (e : DirectoryEntry). IsDots e.name) (sym s.1.1) h.is),
  )

  other_text : HaveOtherText items ↔ HasOtherText bodies name
  other_text = (
    λ h. record { entry = entry_of h.0; is_entry = entry_at h.0 h.1; is = h.2 },
    λ h. let s = item_of h.entry h.is_entry in (s.0, s.1.0, subst (λ (e : DirectoryEntry). IsUtf8 e.name → ⊥) (sym s.1.1) h.is),
  )

  module _ (root : Name) where
    long_by : (way : Option ℕ) → Tells (IsWay bodies (root ∷ []) name) way → IsLongOver way (entries_in_body items) → HasLongPath bodies (λ start. start ≡ root) name
    long_by None tells h = absurd h
    long_by (Some way) tells h =
        let w = tells.0.1 in
        let least = tells.0.2 in
        let long = h.long in
        let is = w.is in
        record {
          start = w.start;
          begins = sym (only root w.start w.starts_there);
          way = w.way;
          leads = w.leads;
          entry = h.entry;
          is_entry = record { kind = kind; body = holds.body; held = holds.held; entries = entries_in_body items; is = holds.is; there = h.there };
          long = omega (arith, least, long, is);
        }

    as_way : (h : HasLongPath bodies (λ start. start ≡ root) name) → IsWay bodies (root ∷ []) name (way_length h.way)
    as_way h = record { start = h.start; starts_there = subst (Contains (root ∷ [])) (sym h.begins) (in_first root []); way = h.way; leads = h.leads; is = refl }

    long_back : (way : Option ℕ) → Tells (IsWay bodies (root ∷ []) name) way → HasLongPath bodies (λ start. start ≡ root) name → IsLongOver way (entries_in_body items)
    long_back None tells h = tells (way_length h.way) (as_way h)
    long_back (Some way) tells h = record {
      entry = h.entry;
      there = among h.entry h.is_entry;
      long = let long = h.long in elim (tells.1 (way_length h.way) (as_way h)) [ inl few ↦ omega (arith, few, long) | inr many ↦ omega (arith, many) ];
    }

    pub rule_held : (way : Option ℕ) → Tells (IsWay bodies (root ∷ []) name) way → (rule : Option Why) → IsFirstOf (HaveDots items) (HaveOtherText items) (IsLongOver way (entries_in_body items)) rule
        → IsFirstOf (HasDots bodies name) (HasOtherText bodies name) (HasLongPath bodies (λ start. start ≡ root) name) rule
    rule_held way tells rule is =
        first_same (HaveDots items) (HasDots bodies name) (HaveOtherText items) (HasOtherText bodies name) (IsLongOver way (entries_in_body items)) (HasLongPath bodies (λ start. start ≡ root) name) dots other_text
        (long_by way tells, long_back way tells) rule is

-- ---- one name

module _ (bodies : Bodies) (root name : Name) where
  abbrev D : Type 0
  D = HasDots bodies name

  abbrev T : Type 0
  T = HasOtherText bodies name

  abbrev P : Type 0
  P = HasLongPath bodies (λ start. start ≡ root) name

  below : (n : ℕ) → (4 < n → D → ⊥) → (5 < n → T → ⊥) → (6 < n → P → ⊥) → (why : Why) → rule_number why < n → BreaksIn bodies root ⊥ name why → ⊥
  below n d t p Cycle less h = h
  below n d t p Revision less h = h
  below n d t p Release less h = h
  below n d t p Empty less h = h
  below n d t p Dots less h = d less h
  below n d t p Text less h = t less h
  below n d t p Path less h = p less h
  below n d t p Branch less h = h
  below n d t p Tagless less h = h
  below n d t p Refs less h = h
  below n d t p Length less h = h.1

  few : (why : Why) → rule_number why < 11
  few Cycle = omega arith
  few Revision = omega arith
  few Release = omega arith
  few Empty = omega arith
  few Dots = omega arith
  few Text = omega arith
  few Path = omega arith
  few Branch = omega arith
  few Tagless = omega arith
  few Refs = omega arith
  few Length = omega arith

  pub breaks_none : IsFirstOf D T P None → BreaksNone (BreaksIn bodies root ⊥) name
  breaks_none (d, t, p) why = below 11 (λ _. d) (λ _. t) (λ _. p) why (few why)

  pub breaks_first : (why : Why) → IsFirstOf D T P (Some why) → BreaksFirst (BreaksIn bodies root ⊥) name why
  breaks_first Dots d = record { is = d; none = below 4 (λ l. absurd (omega (arith, l))) (λ l. absurd (omega (arith, l))) (λ l. absurd (omega (arith, l))) }
  breaks_first Text (d, t) = record { is = t; none = below 5 (λ _. d) (λ l. absurd (omega (arith, l))) (λ l. absurd (omega (arith, l))) }
  breaks_first Path (d, t, p) = record { is = p; none = below 6 (λ _. d) (λ _. t) (λ l. absurd (omega (arith, l))) }
  breaks_first Cycle is = absurd is
  breaks_first Revision is = absurd is
  breaks_first Release is = absurd is
  breaks_first Empty is = absurd is
  breaks_first Branch is = absurd is
  breaks_first Tagless is = absurd is
  breaks_first Refs is = absurd is
  breaks_first Length is = absurd is

  module _ (long : Type 0) where
    pub on_long : (why : Why) → BreaksIn bodies root ⊥ name why → BreaksIn bodies root long name why
    on_long Cycle h = h
    on_long Revision h = h
    on_long Release h = h
    on_long Empty h = h
    on_long Dots h = h
    on_long Text h = h
    on_long Path h = h
    on_long Branch h = h
    on_long Tagless h = h
    on_long Refs h = h
    on_long Length h = absurd h.1

    -- a name that is not the root, or a root that is not too long
    back_long : ((name ≡ root) × long → ⊥) → (why : Why) → BreaksIn bodies root long name why → BreaksIn bodies root ⊥ name why
    back_long not Cycle h = h
    back_long not Revision h = h
    back_long not Release h = h
    back_long not Empty h = h
    back_long not Dots h = h
    back_long not Text h = h
    back_long not Path h = h
    back_long not Branch h = h
    back_long not Tagless h = h
    back_long not Refs h = h
    back_long not Length h = absurd (not h)

    -- the length comes last
    back_below : (n : ℕ) → n < 11 → (why : Why) → rule_number why < n → BreaksIn bodies root long name why → BreaksIn bodies root ⊥ name why
    back_below n last Cycle less h = h
    back_below n last Revision less h = h
    back_below n last Release less h = h
    back_below n last Empty less h = h
    back_below n last Dots less h = h
    back_below n last Text less h = h
    back_below n last Path less h = h
    back_below n last Branch less h = h
    back_below n last Tagless less h = h
    back_below n last Refs less h = h
    back_below n last Length less h = absurd (omega (arith, less, last))

    pub first_on : (why : Why) → BreaksFirst (BreaksIn bodies root ⊥) name why → BreaksFirst (BreaksIn bodies root long) name why
    first_on why first = record { is = on_long why first.is; none = λ other less h. first.none other less (back_below (rule_number why) (few why) other less h) }

    pub none_on : ((name ≡ root) × long → ⊥) → BreaksNone (BreaksIn bodies root ⊥) name → BreaksNone (BreaksIn bodies root long) name
    none_on not none why h = none why (back_long not why h)

    pub long_first : name ≡ root → long → BreaksNone (BreaksIn bodies root ⊥) name → BreaksFirst (BreaksIn bodies root long) name Length
    long_first same is none = record { is = (same, is); none = λ other less h. none other (back_below 10 (omega arith) other less h) }

-- ---- the order

module _ (Breaks : Name → Why → Type 0) (order : List Name) (i : ℕ) (none : Name) (within : i < length order) (before : (n : Name) → Contains (take i order) n → BreaksNone Breaks n) where
  pub first_here : (why : Why) → BreaksFirst Breaks (get_or order i none) why → IsFirstToBreak Breaks order (get_or order i none) why
  first_here why first =
      let one : drop i order ≡ get_or order i none ∷ drop (i + 1) order = rw (add-one, drop-cons order i none) in
      record {
        before = take i order;
        behind = drop (i + 1) order;
        cut = sym (take-append-drop i order) ∙ ap (λ (l : List Name). take i order ++ l) one;
        is = first;
        none = before;
      }

  pub none_more : BreaksNone Breaks (get_or order i none) → (n : Name) → Contains (take (i + 1) order) n → BreaksNone Breaks n
  none_more one n there =
      elim (Contains-append_cases (take i order) (get_or order i none ∷ []) n (subst (λ (l : List Name). Contains l n) (take_more order i none within) there)) [
        | inl was ↦ before n was
        | inr is ↦ subst (BreaksNone Breaks) (only (get_or order i none) n is) one
      ]

no_first : (x : Name) (xs : List Name) → x ∷ xs ≡ [] → ⊥
no_first x xs e = cc

head_of : (x y : Name) (xs ys : List Name) → x ∷ xs ≡ y ∷ ys → x ≡ y
head_of x y xs ys e = cc

tail_of : (x y : Name) (xs ys : List Name) → x ∷ xs ≡ y ∷ ys → xs ≡ ys
tail_of x y xs ys e = cc

in_end : (front : List Name) (n : Name) (rest : List Name) → Contains (front ++ n ∷ rest) n
in_end front n rest = Contains-append_right front (n ∷ rest) n (in_first n rest)

module _ (children_of : Name → Option (List Name)) (root : Name) (order : List Name) (is : IsPostorder children_of root order) where
  none_left : (around left : List Name) (trip : Trip) → IsTrip children_of around left [] trip → left_in trip ≡ []
  none_left around left Over t = refl
  none_left around left (Passes n rest) t = absurd (no_first n t.0 (sym t.1))
  none_left around left (Enters n inner rest) t = absurd (no_first n t.0 (sym t.2))

  ends_by : (trip : Trip) → IsTrip children_of [] [] (root ∷ []) trip → (front : List Name) × (left_in trip ≡ front ++ root ∷ [])
  ends_by Over t = absurd (no_first root [] t)
  ends_by (Passes n rest) t = absurd (elim t.2 [ inl none ↦ none_in n none | inr none ↦ none_in n none ])
  ends_by (Enters n inner rest) (more, kids, cut, fresh, held, inside, behind) =
      let none : left_in rest ≡ [] = none_left [] ([] ++ (left_in inner ++ n ∷ [])) rest (subst (λ (l : List Name). IsTrip children_of [] ([] ++ (left_in inner ++ n ∷ [])) l rest) (sym (tail_of root n [] more cut)) behind) in
      (left_in inner, ap (λ (l : List Name). left_in inner ++ n ∷ l) none ∙ ap (λ (m : Name). left_in inner ++ m ∷ []) (sym (head_of root n [] more cut)))

  ends : (front : List Name) × (order ≡ front ++ root ∷ [])
  ends = let e = ends_by is.trip is.walk in (e.0, is.is ∙ e.1)

  -- the root stands before no name
  pub root_last : (before : List Name) (name : Name) (behind : List Name) → order ≡ before ++ name ∷ behind → Contains before root → ⊥
  root_last before name behind cut there =
      elim (cuts before ends.0 name root behind [] (sym cut ∙ ends.1)) [
        | AtOne same _ _ ↦ order_once children_of root order is root (record { before = ends.0; behind = []; cut = ends.1; there = subst (λ (l : List Name). Contains l root) same there })
        | Sooner more long _ ↦ order_once children_of root order is root (record { before = ends.0; behind = []; cut = ends.1; there = subst (λ (l : List Name). Contains l root) (sym long) (Contains-append_left before (name ∷ more) root there) })
        | Later more _ none ↦ absurd (none_in name (subst (λ (l : List Name). Contains l name) (sym none) (in_end more name behind)))
      ]

  module _ (bodies : Bodies) (long : Type 0) where
    pub first_found : (name : Name) (why : Why) → IsFirstToBreak (BreaksIn bodies root ⊥) order name why → IsFirstToBreak (BreaksIn bodies root long) order name why
    first_found name why f = record {
      before = f.before;
      behind = f.behind;
      cut = f.cut;
      is = first_on bodies root name long why f.is;
      none = λ n there. none_on bodies root n long (λ both. root_last f.before name f.behind f.cut (subst (Contains f.before) both.0 there)) (f.none n there);
    }

    pub none_found : (long → ⊥) → ((n : Name) → Contains order n → BreaksNone (BreaksIn bodies root ⊥) n) → (n : Name) → Contains order n → BreaksNone (BreaksIn bodies root long) n
    none_found not none n there = none_on bodies root n long (λ both. not both.1) (none n there)

    pub long_found : long → ((n : Name) → Contains order n → BreaksNone (BreaksIn bodies root ⊥) n) → IsFirstToBreak (BreaksIn bodies root long) order root Length
    long_found is_long none = record {
      before = ends.0;
      behind = [];
      cut = ends.1;
      is = long_first bodies root root long refl is_long (none root (subst (λ (l : List Name). Contains l root) (sym ends.1) (in_end ends.0 root [])));
      none = λ n there. none_on bodies root n long
          (λ both. root_last ends.0 root [] ends.1 (subst (Contains ends.0) both.0 there))
          (none n (subst (λ (l : List Name). Contains l n) (sym ends.1) (Contains-append_left ends.0 (root ∷ []) n there)));
    }
