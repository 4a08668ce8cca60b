-- The directories of a table, one spot after the other.
use Rattle.std.proofs.Common.{◌≡◌, ◌≢◌, ◌⊎◌, inl, inr, ℕ, suc, ◌<◌, ◌≤◌, Bool, true, false, cond, Some, None, List, [], ◌∷◌, ◌++◌, length, map, set, get_or, Contains, refl, sym, ap, ◌∙◌, subst, arith}
use Rattle.std.specs.List.{AllByRecursion, AllPairs, sum_by}
use Rattle.std.specs.List.Sorted.{IsPermutation}
use Rattle.std.specs.Str.{bytes_eq}
use Rattle.std.proofs.lemmas.Bool.{cases_lt}
use Rattle.std.proofs.lemmas.List.{map-append, get_or-set_same, get_or-set_other, get_or_append_left}
use Rattle.std.proofs.Math.Seq.{get_or-append_seam}
use Rattle.std.proofs.lemmas.List.Elements.{Contains-append_left, Contains-push, Contains-push_cases}
use Rattle.std.proofs.lemmas.List.Sorted.{IsPermutation-refl, IsPermutation-trans, IsPermutation-sym, IsPermutation-cons, IsPermutation-to_front}
use Rattle.std.proofs.lemmas.Slice.Eq.{bytes_eq-Decides}
use Rattle.swh_base.specs.declared.kind.Kind.{Kind}
use Rattle.swh_base.specs.declared.kind.Kind.TheVariants.{Content}
use Rattle.swh_base.specs.declared.name.Name.{Name}
use Rattle.swh_base.specs.declared.entry.Entry.{Entry}
use Rattle.swh_base.specs.Directory.{DirectoryEntry, IsEntry, IsEntryName, IsMode, AreEntries, directory_text, child_of}
use Rattle.swh_model.specs.Meaning.{Made, directory}
use Rattle.swh_dedup.specs.Making.{made_from, made, name_of, names_of_made}
use Rattle.swh_dedup.proofs.Elements.{all_from, contains_map, from_map}
use Rattle.swh_dedup.proofs.Givens.{more_names}
use Rattle.swh_dirmade.specs.declared.member.Member.{Member}
use Rattle.swh_dirmade.specs.declared.member.Member.TheVariants as stands
use Rattle.swh_dirmade.specs.declared.spot.Spot.{Spot}
use Rattle.swh_dirmade.specs.Building.{list_at, entry_at, IsMade, IsOfNumber, AreBuilt, Builds}
use Rattle.swh_dirmade.specs.Directories.{directory_id, entry_of}
use Rattle.swh_dirmade.specs.Giving.{GivesOne}
use Rattle.swh_dirmade.specs.Making.{IsHeld, directory_name, IsReadyEntry, MayBeDirectory, GivesDirectory, Enters, MakesEntry}
use Rattle.swh_dirmade.specs.Numbers.{numbers_from, IsFolderAt}
use Rattle.swh_dirmade.specs.Sizes.{size_at, size_of, AreShort}
use Rattle.swh_dirmade.specs.Spots.{path_to, above_at, name_at, place_at, IsTable}
use Rattle.swh_dirmade.proofs.Lengths.{made_length, held_at}
use Rattle.swh_dirmade.proofs.Numbers.{bounds, step_in, step_out, skip_low, names_once, from_end, IsSpotAt}
use Rattle.swh_dirmade.proofs.SpotTables.{tree_of}
use Rattle.swh_dirmade.proofs.Trees.{unique}

-- the entries of folders, those of one path now these
abbrev pub with_entries : (List ℕ → List DirectoryEntry) → List ℕ → List DirectoryEntry → List ℕ → List DirectoryEntry
with_entries entries at below = λ path. cond (bytes_eq path at) below (entries path)

pub entries_here : (entries : List ℕ → List DirectoryEntry) (at : List ℕ) (below : List DirectoryEntry) → with_entries entries at below at ≡ below
entries_here entries at below = ap (λ (b : Bool). cond b below (entries at)) ((bytes_eq-Decides at at).1 refl)

not_true : (b : Bool) → (b ≡ true → ⊥) → b ≡ false
not_true true h = absurd (h refl)
not_true false h = refl

entries_else : (entries : List ℕ → List DirectoryEntry) (at : List ℕ) (below : List DirectoryEntry) (path : List ℕ) → (path ≡ at → ⊥) → with_entries entries at below path ≡ entries path
entries_else entries at below path ne = ap (λ (b : Bool). cond b below (entries path)) (not_true (bytes_eq path at) (λ e. ne ((bytes_eq-Decides path at).0 e)))

-- what an object that is given adds
pub grows : (old new : List Entry) (object : Entry) → GivesOne old object new → (m : Made) → Contains (made old) m → Contains (made new) m
grows old new object (inl h) m c = subst (λ (es : List Entry). Contains (made es) m) (sym h.0) c
grows old new object (inr e) m c = subst (λ (ms : List Made). Contains ms m) (sym (ap made e ∙ map-append made_from old (object ∷ []))) (Contains-append_left (made old) (made (object ∷ [])) m c)

pub given_there : (old new : List Entry) (object : Entry) → GivesOne old object new → Contains (made new) (made_from object)
given_there old new object (inl h) = subst (λ (es : List Entry). Contains (made es) (made_from object)) (sym h.0) h.1
given_there old new object (inr e) = subst (λ (ms : List Made). Contains ms (made_from object)) (sym (ap made e ∙ map-append made_from old (object ∷ []))) (Contains-push (made old) (made_from object))

given_only : (old new : List Entry) (object : Entry) → GivesOne old object new → (m : Made) → Contains (made new) m → Contains (made old) m ⊎ (made_from object ≡ m)
given_only old new object (inl h) m c = inl (subst (λ (es : List Entry). Contains (made es) m) h.0 c)
given_only old new object (inr e) m c = Contains-push_cases (made old) (made_from object) m (subst (λ (ms : List Made). Contains ms m) (ap made e ∙ map-append made_from old (object ∷ [])) c)

none_some : (n : Name) → None ≡ Some n → ⊥
none_some n e = absurd (cc)

the_name : (a b : Name) → Some a ≡ Some b → a ≡ b
the_name a b e = cc

-- a file stays held
pub held_more : (names more : List Name) (place : Member) → ((n : Name) → Contains names n → Contains more n) → IsHeld names place → IsHeld more place
held_more names more (stands.File mode content) sub h = (h.0, sub (record { kind = Content; id = content }) h.1)
held_more names more stands.Folder sub h = tt
held_more names more (stands.Project revision) sub h = tt

module _ (id : Kind → List ℕ → List ℕ) where
  pub entry_name : (name : List ℕ) (below : List DirectoryEntry) (place : Member) → (entry_of id name below place).name ≡ name
  entry_name name below (stands.File mode content) = refl
  entry_name name below stands.Folder = refl
  entry_name name below (stands.Project revision) = refl

  -- what the making of an entry adds
  enters_grows : (name : List ℕ) (place : Member) (old : List Entry) (list : List DirectoryEntry) (new : List Entry) (below : List DirectoryEntry) → Enters id name place old list new below → (m : Made) → Contains (made old) m → Contains (made new) m
  enters_grows name (stands.File mode content) old list new below h m c = subst (λ (es : List Entry). Contains (made es) m) (sym h) c
  enters_grows name stands.Folder old list new below h m c = grows old new h.object h.gives m c
  enters_grows name (stands.Project revision) old list new below h m c = subst (λ (es : List Entry). Contains (made es) m) (sym h) c

  enters_only : (name : List ℕ) (place : Member) (old : List Entry) (list : List DirectoryEntry) (new : List Entry) (below : List DirectoryEntry) → Enters id name place old list new below → (m : Made) → Contains (made new) m → Contains (made old) m ⊎ ((place ≡ stands.Folder) × (m ≡ directory (directory_text below)))
  enters_only name (stands.File mode content) old list new below h m c = inl (subst (λ (es : List Entry). Contains (made es) m) h c)
  enters_only name stands.Folder old list new below h m c = elim (given_only old new h.object h.gives m c) [
    | inl d ↦ inl d
    | inr e ↦ inr (refl, sym e ∙ h.is)
  ]
  enters_only name (stands.Project revision) old list new below h m c = inl (subst (λ (es : List Entry). Contains (made es) m) h c)

  enters_folder : (name : List ℕ) (place : Member) (old : List Entry) (list : List DirectoryEntry) (new : List Entry) (below : List DirectoryEntry) → place ≡ stands.Folder → Enters id name place old list new below → GivesDirectory id old list new below (directory_id id below)
  enters_folder name place old list new below e h = subst (λ (p : Member). Enters id name p old list new below) e h

  -- the entry that is made is ready
  pub made_ready : (names : List Name) (name : List ℕ) (place : Member) (old : List Entry) (list : List DirectoryEntry) (new : List Entry) (below : List DirectoryEntry) → ((n : Name) → Contains names n → Contains (names_of_made id (made new)) n) → IsHeld names place → Enters id name place old list new below → (kid : Name) → child_of (entry_of id name below place) ≡ Some kid → Contains (names_of_made id (made new)) kid
  made_ready names name (stands.File mode content) old list new below sub held h kid e = by_mode held.0
    where
      content_is : child_of (record { mode = 100644; name = name; id = content }) ≡ Some (record { kind = Content; id = content })
      content_is = refl

      found : Some (record { kind = Content; id = content }) ≡ Some kid → Contains (names_of_made id (made new)) kid
      found f = subst (λ (n : Name). Contains (names_of_made id (made new)) n) (the_name (record { kind = Content; id = content }) kid f) (sub (record { kind = Content; id = content }) held.1)

      by_mode : (mode ≡ 100644) ⊎ ((mode ≡ 100755) ⊎ (mode ≡ 120000)) → Contains (names_of_made id (made new)) kid
      by_mode (inl m) = found (subst (λ (k : ℕ). child_of (record { mode = k; name = name; id = content }) ≡ Some kid) m e)
      by_mode (inr (inl m)) = found (subst (λ (k : ℕ). child_of (record { mode = k; name = name; id = content }) ≡ Some kid) m e)
      by_mode (inr (inr m)) = found (subst (λ (k : ℕ). child_of (record { mode = k; name = name; id = content }) ≡ Some kid) m e)
  made_ready names name stands.Folder old list new below sub held h kid e =
      let there : Contains (made new) (directory (directory_text below)) = subst (Contains (made new)) h.is (given_there old new h.object h.gives) in
      subst (λ (n : Name). Contains (names_of_made id (made new)) n) (the_name (directory_name (directory_id id below)) kid e) (contains_map (name_of id) (made new) (directory (directory_text below)) there)
  made_ready names name (stands.Project revision) old list new below sub held h kid e = absurd (none_some kid e)

  same_entry : (e f : DirectoryEntry) → e.mode ≡ f.mode → e.name ≡ f.name → e.id ≡ f.id → e ≡ f
  same_entry e f m n i =
      let a : e ≡ record { mode = f.mode; name = e.name; id = e.id } = ap (λ (x : ℕ). record { mode = x; name = e.name; id = e.id }) m in
      let b : record { mode = f.mode; name = e.name; id = e.id } ≡ record { mode = f.mode; name = f.name; id = e.id } = ap (λ (x : List ℕ). record { mode = f.mode; name = x; id = e.id }) n in
      let c : record { mode = f.mode; name = f.name; id = e.id } ≡ f = ap (λ (x : List ℕ). record { mode = f.mode; name = f.name; id = x }) i in
      a ∙ b ∙ c

  file_mode : (mode : ℕ) → (mode ≡ 100644) ⊎ ((mode ≡ 100755) ⊎ (mode ≡ 120000)) → IsMode mode
  file_mode mode (inl e) = inl e
  file_mode mode (inr (inl e)) = inr (inl e)
  file_mode mode (inr (inr e)) = inr (inr (inl e))

  -- the entry of a file
  pub makes_file : (names : List Name) (name : List ℕ) (mode : ℕ) (content : List ℕ) (place : Member) (old : List Entry) (list : List DirectoryEntry) (entry : DirectoryEntry) → place ≡ stands.File mode content → IsHeld names place → IsEntryName name → entry.mode ≡ mode → entry.name ≡ name → entry.id ≡ content → length entry.id ≡ 20 → MakesEntry id name place old list old entry
  makes_file names name mode content place old list entry is held named m n i twenty =
      let h : IsHeld names (stands.File mode content) = subst (IsHeld names) is held in
      subst (λ (p : Member). MakesEntry id name p old list old entry) (sym is) (record {
        below = [];
        is = same_entry entry (entry_of id name [] (stands.File mode content)) m n i;
        good = record { mode = subst IsMode (sym m) (file_mode mode h.0); name = subst IsEntryName (sym n) named; id = twenty };
        enters = refl;
      })

  -- the entry of a folder, whose directory was made
  pub makes_folder : (name : List ℕ) (place : Member) (old : List Entry) (list : List DirectoryEntry) (new : List Entry) (below : List DirectoryEntry) (root : List ℕ) (entry : DirectoryEntry) → place ≡ stands.Folder → IsEntryName name → GivesDirectory id old list new below root → entry.mode ≡ 40000 → entry.name ≡ name → entry.id ≡ root → MakesEntry id name place old list new entry
  makes_folder name place old list new below root entry is named gives m n i =
      subst (λ (p : Member). MakesEntry id name p old list new entry) (sym is) (record {
        below = below;
        is = same_entry entry (entry_of id name below stands.Folder) m n (i ∙ gives.named);
        good = record { mode = inr (inr (inr (inl m))); name = subst IsEntryName (sym n) named; id = ap length i ∙ gives.twenty };
        enters = subst (λ (r : List ℕ). GivesDirectory id old list new below r) gives.named gives;
      })

  -- the entry of a project
  pub makes_project : (name revision : List ℕ) (place : Member) (old : List Entry) (list : List DirectoryEntry) (entry : DirectoryEntry) → place ≡ stands.Project revision → IsEntryName name → entry.mode ≡ 160000 → entry.name ≡ name → entry.id ≡ revision → length entry.id ≡ 20 → MakesEntry id name place old list old entry
  makes_project name revision place old list entry is named m n i twenty =
      subst (λ (p : Member). MakesEntry id name p old list old entry) (sym is) (record {
        below = [];
        is = same_entry entry (entry_of id name [] (stands.Project revision)) m n i;
        good = record { mode = inr (inr (inr (inr m))); name = subst IsEntryName (sym n) named; id = twenty };
        enters = refl;
      })

  module _ (spots : List Spot) (standing : List Member) (table : IsTable spots) where
    apart : (i m : ℕ) → m < i → i < length spots → path_to spots i ≡ path_to spots m → ⊥
    apart i m low high e = let same = unique (length spots) (path_to spots) (above_at spots) (name_at spots) (tree_of spots table) i m high (omega (arith, low, high)) e in omega (arith, same, low)

    module _ (entries : List ℕ → List DirectoryEntry) (m : ℕ) (below : List DirectoryEntry) where
      abbrev pub now_at : List ℕ → List DirectoryEntry
      now_at = with_entries entries (path_to spots m) below

      below_same : (i : ℕ) → m < i → i < length spots → now_at (path_to spots i) ≡ entries (path_to spots i)
      below_same i low high = entries_else entries (path_to spots m) below (path_to spots i) (apart i m low high)

      entry_same : (i : ℕ) → m < i → i < length spots → entry_at id spots standing now_at i ≡ entry_at id spots standing entries i
      entry_same i low high = ap (λ (es : List DirectoryEntry). entry_of id (name_at spots i) es (place_at standing i)) (below_same i low high)

      pub entry_here : entry_at id spots standing now_at m ≡ entry_of id (name_at spots m) below (place_at standing m)
      entry_here = ap (λ (es : List DirectoryEntry). entry_of id (name_at spots m) es (place_at standing m)) (entries_here entries (path_to spots m) below)

      map_same : (ns : List ℕ) → ((i : ℕ) → Contains ns i → (m < i) × (i < length spots)) → map (entry_at id spots standing now_at) ns ≡ map (entry_at id spots standing entries) ns
      map_same [] h = refl
      map_same (n ∷ ns) h =
          let here = h n (0, omega arith, refl) in
          ap (λ (e : DirectoryEntry). e ∷ map (entry_at id spots standing now_at) ns) (entry_same n here.0 here.1)
          ∙ ap (λ (es : List DirectoryEntry). entry_at id spots standing entries n ∷ es) (map_same ns (λ i c. h i (let lt = c.1 in (suc c.0, omega (arith, lt), c.2))))

      pub numbers_same : (folder from : ℕ) → m < from → from ≤ length spots → map (entry_at id spots standing now_at) (numbers_from spots folder from) ≡ map (entry_at id spots standing entries) (numbers_from spots folder from)
      numbers_same folder from low le = map_same (numbers_from spots folder from) (λ i c. let b = bounds spots folder from i le c in let l = b.0 in (omega (arith, l, low), b.1.0))

      -- the list of each folder, with the entry of one spot more
      pub next_listed : (lists later : List (List DirectoryEntry)) (entry : DirectoryEntry) → 0 < m → m < length spots → entry_at id spots standing now_at m ≡ entry
          → ((folder : ℕ) → folder < suc m → IsPermutation (map (entry_at id spots standing entries) (numbers_from spots folder (suc m))) (list_at lists folder))
          → list_at later (above_at spots m) ≡ list_at lists (above_at spots m) ++ entry ∷ []
          → ((folder : ℕ) → folder < m → (folder ≡ above_at spots m → ⊥) → list_at later folder ≡ list_at lists folder)
          → (folder : ℕ) → folder < m → IsPermutation (map (entry_at id spots standing now_at) (numbers_from spots folder m)) (list_at later folder)
      next_listed lists later entry some within is listed here else folder lt = elim (cases_same folder (above_at spots m)) [
        | inl e ↦
            let numbers : numbers_from spots folder m ≡ m ∷ numbers_from spots folder (suc m) = step_in spots folder m within (sym e) in
            let front : map (entry_at id spots standing now_at) (numbers_from spots folder m) ≡ entry ∷ map (entry_at id spots standing entries) (numbers_from spots folder (suc m)) =
            ap (map (entry_at id spots standing now_at)) numbers ∙ ap (λ (x : DirectoryEntry). x ∷ map (entry_at id spots standing now_at) (numbers_from spots folder (suc m))) is
            ∙ ap (λ (es : List DirectoryEntry). entry ∷ es) (numbers_same folder (suc m) (omega arith) (omega (arith, within))) in
            let old = list_at lists folder in
            let moved : IsPermutation (entry ∷ map (entry_at id spots standing entries) (numbers_from spots folder (suc m))) (old ++ entry ∷ []) =
            IsPermutation-trans (entry ∷ map (entry_at id spots standing entries) (numbers_from spots folder (suc m))) (entry ∷ old) (old ++ entry ∷ [])
            (IsPermutation-cons entry (map (entry_at id spots standing entries) (numbers_from spots folder (suc m))) old (listed folder (omega (arith, lt))))
            (IsPermutation-sym (old ++ entry ∷ []) (entry ∷ old) (IsPermutation-to_front old entry)) in
            let there : list_at later folder ≡ old ++ entry ∷ [] = subst (λ (f : ℕ). list_at later f ≡ list_at lists f ++ entry ∷ []) (sym e) here in
            subst (λ (es : List DirectoryEntry). IsPermutation es (list_at later folder)) (sym front) (subst (IsPermutation (entry ∷ map (entry_at id spots standing entries) (numbers_from spots folder (suc m)))) (sym there) moved)
        | inr ne ↦
            let numbers : numbers_from spots folder m ≡ numbers_from spots folder (suc m) = step_out spots folder m within (λ e. ne (sym e)) in
            let same : map (entry_at id spots standing now_at) (numbers_from spots folder m) ≡ map (entry_at id spots standing entries) (numbers_from spots folder (suc m)) =
            ap (map (entry_at id spots standing now_at)) numbers ∙ numbers_same folder (suc m) (omega arith) (omega (arith, within)) in
            subst (λ (es : List DirectoryEntry). IsPermutation es (list_at later folder)) (sym same) (subst (IsPermutation (map (entry_at id spots standing entries) (numbers_from spots folder (suc m)))) (sym (else folder lt ne)) (listed folder (omega (arith, lt))))
      ]
        where
          cases_same : (x y : ℕ) → (x ≡ y) ⊎ (x ≡ y → ⊥)
          cases_same x y = elim (cases_lt x y) [
            | inl l ↦ inr (λ e. omega (arith, l, e))
            | inr ge ↦ elim (cases_lt y x) [
              | inl l ↦ inr (λ e. omega (arith, l, e))
              | inr le ↦ inl (omega (arith, ge, le))
            ]
          ]

      module _ (lists : List (List DirectoryEntry)) (old mid new : List Entry) (are : AreBuilt id spots standing (suc m) lists old mid entries) (enters : Enters id (name_at spots m) (place_at standing m) mid (list_at lists m) new below) where
        more : (x : Made) → Contains (made mid) x → Contains (made new) x
        more = enters_grows (name_at spots m) (place_at standing m) mid (list_at lists m) new below enters

        within : m < length spots
        within = let w = are.within in omega (arith, w)

        here_made : place_at standing m ≡ stands.Folder → IsMade id spots standing now_at new m
        here_made folder =
            let gives = enters_folder (name_at spots m) (place_at standing m) mid (list_at lists m) new below folder enters in
            let is : now_at (path_to spots m) ≡ below = entries_here entries (path_to spots m) below in
            record {
              good = subst AreEntries (sym is) gives.good;
              all = subst (IsPermutation (map (entry_at id spots standing now_at) (numbers_from spots m (suc m)))) (sym is)
                  (subst (λ (es : List DirectoryEntry). IsPermutation es below) (sym (numbers_same m (suc m) (omega arith) (let w = within in omega (arith, w))))
                  (IsPermutation-trans (map (entry_at id spots standing entries) (numbers_from spots m (suc m))) (list_at lists m) below (are.listed m (omega arith)) gives.order));
              given = subst (λ (es : List DirectoryEntry). Contains (made new) (directory (directory_text es))) (sym is) (subst (Contains (made new)) gives.is (given_there mid new gives.object gives.gives));
            }

        later_made : (i : ℕ) → m < i → i < length spots → IsMade id spots standing entries mid i → IsMade id spots standing now_at new i
        later_made i low high h =
            let is : now_at (path_to spots i) ≡ entries (path_to spots i) = below_same i low high in
            record {
              good = subst AreEntries (sym is) h.good;
              all = subst (IsPermutation (map (entry_at id spots standing now_at) (numbers_from spots i (suc i)))) (sym is)
                  (subst (λ (es : List DirectoryEntry). IsPermutation es (entries (path_to spots i))) (sym (numbers_same i (suc i) (omega (arith, low)) (omega (arith, high)))) h.all);
              given = subst (λ (es : List DirectoryEntry). Contains (made new) (directory (directory_text es))) (sym is) (more (directory (directory_text (entries (path_to spots i)))) h.given);
            }

        later_ready : (i : ℕ) → m < i → i < length spots → IsReadyEntry (names_of_made id (made mid)) (entry_at id spots standing entries i) → IsReadyEntry (names_of_made id (made new)) (entry_at id spots standing now_at i)
        later_ready i low high h =
            let is = sym (entry_same i low high) in
            subst (IsReadyEntry (names_of_made id (made new))) is (record { good = h.good; child = λ name e. more_names id (made mid) (made new) name more (h.child name e) })

        of_number : (x : Made) → IsOfNumber id spots standing (suc m) entries x → IsOfNumber id spots standing m now_at x
        of_number x h = let low = h.low in record {
          number = h.number;
          low = omega (arith, low);
          high = h.high;
          folder = h.folder;
          is = h.is ∙ ap (λ (es : List DirectoryEntry). directory (directory_text es)) (sym (below_same h.number (omega (arith, low)) h.high));
        }

        only_now : (x : Made) → Contains (made new) x → Contains (made old) x ⊎ IsOfNumber id spots standing m now_at x
        only_now x c = elim (enters_only (name_at spots m) (place_at standing m) mid (list_at lists m) new below enters x c) [
          | inl d ↦ elim (are.only x d) [
            | inl e ↦ inl e
            | inr h ↦ inr (of_number x h)
          ]
          | inr h ↦ inr (record {
            number = m;
            low = omega arith;
            high = within;
            folder = h.0;
            is = h.1 ∙ ap (λ (es : List DirectoryEntry). directory (directory_text es)) (sym (entries_here entries (path_to spots m) below));
          })
        ]

        -- one spot more
        pub next_built : (later : List (List DirectoryEntry)) → length later ≡ m → ((folder : ℕ) → folder < m → IsPermutation (map (entry_at id spots standing now_at) (numbers_from spots folder m)) (list_at later folder)) → (0 < m → IsReadyEntry (names_of_made id (made new)) (entry_at id spots standing now_at m)) → AreBuilt id spots standing m later old new now_at
        next_built later count listed ready = record {
          within = let w = within in omega (arith, w);
          count = count;
          listed = listed;
          ready = λ i low some high. elim (cases_lt m i) [
            | inl lt ↦ later_ready i lt high (are.ready i (omega (arith, lt)) some high)
            | inr ge ↦ let e : m ≡ i = omega (arith, low, ge) in subst (λ (k : ℕ). IsReadyEntry (names_of_made id (made new)) (entry_at id spots standing now_at k)) e (ready (omega (arith, e, some)))
          ];
          folders = λ i low high folder. elim (cases_lt m i) [
            | inl lt ↦ later_made i lt high (are.folders i (omega (arith, lt)) high folder)
            | inr ge ↦ let e : m ≡ i = omega (arith, low, ge) in subst (IsMade id spots standing now_at new) e (here_made (subst (λ (k : ℕ). place_at standing k ≡ stands.Folder) (sym e) folder))
          ];
          kept = λ x c. more x (are.kept x c);
          only = only_now;
        }

    -- nothing is made yet
    pub none_built : (lists : List (List DirectoryEntry)) (old : List Entry) → length lists ≡ length spots → ((k : ℕ) → list_at lists k ≡ []) → Builds id spots standing (length lists) lists old old
    none_built lists old count empty =
        subst (λ (n : ℕ). Builds id spots standing n lists old old) (sym count) (record {
          entries = λ path. [];
          are = record {
            within = omega arith;
            count = count;
            listed = λ folder lt. subst (λ (ns : List ℕ). IsPermutation (map (entry_at id spots standing (λ path. [])) ns) (list_at lists folder)) (sym (from_end spots folder)) (subst (IsPermutation []) (sym (empty folder)) (IsPermutation-refl []));
            ready = λ i low some high. absurd (omega (arith, low, high));
            folders = λ i low high folder. absurd (omega (arith, low, high));
            kept = λ m c. c;
            only = λ m c. inl c;
          };
        })

    names_map : (entries : List ℕ → List DirectoryEntry) (ns : List ℕ) → map (λ (e : DirectoryEntry). e.name) (map (entry_at id spots standing entries) ns) ≡ map (name_at spots) ns
    names_map entries [] = refl
    names_map entries (n ∷ ns) = ap (λ (name : List ℕ). name ∷ map (λ (e : DirectoryEntry). e.name) (map (entry_at id spots standing entries) ns)) (entry_name (name_at spots n) (entries (path_to spots n)) (place_at standing n)) ∙ ap (λ (names : List (List ℕ)). name_at spots n ∷ names) (names_map entries ns)

    -- the list of a folder may be its directory
    pub may_be : (names : List Name) (m : ℕ) (lists : List (List DirectoryEntry)) (old mid : List Entry) → AllByRecursion (IsHeld names) standing → length standing ≡ length spots → AreShort spots standing → Builds id spots standing (suc m) lists old mid → IsFolderAt standing m → MayBeDirectory (names_of_made id (made mid)) (list_at lists m)
    may_be names m lists old mid held count short built folder =
        let are = built.are in
        let entries = built.entries in
        let w = are.within in
        let lt : m < length spots = omega (arith, w) in
        let ns = numbers_from spots m (suc m) in
        let each : (i : ℕ) → Contains ns i → (suc m ≤ i) × (i < length spots) = λ i c. let b = bounds spots m (suc m) i (omega (arith, lt)) c in (b.0, b.1.0) in
        let ready : (i : ℕ) → Contains ns i → IsReadyEntry (names_of_made id (made mid)) (entry_at id spots standing entries i) = λ i c. let b = each i c in let low = b.0 in are.ready i low (omega (arith, low)) b.1 in
        let sizes : length (directory_text (map (entry_at id spots standing entries) ns)) ≡ size_of spots standing m =
        made_length id spots standing names entries ns (λ i c. (held_at (IsHeld names) standing i stands.Folder held (let h = (each i c).1 in omega (arith, h, count)), (ready i c).good)) ∙ ap (λ (xs : List ℕ). size_sum xs) (sym (skip_low spots m table lt)) in
        let few = short m lt folder in
        record {
          entries = map (entry_at id spots standing entries) ns;
          order = are.listed m (omega arith);
          ready = all_from (IsReadyEntry (names_of_made id (made mid))) (map (entry_at id spots standing entries) ns) (λ e c. let f = from_map (entry_at id spots standing entries) ns e c in subst (IsReadyEntry (names_of_made id (made mid))) f.2 (ready f.0 f.1));
          once = subst (AllPairs (λ a b. a ≢ b)) (sym (names_map entries ns)) (names_once spots m (suc m) table (omega arith) (omega (arith, lt)));
          short = omega (arith, sizes, few);
        }
      where
        size_sum : List ℕ → ℕ
        size_sum = sum_by (size_at spots standing)

    -- what is held by what was given at first
    pub held_now : (from : ℕ) (lists : List (List DirectoryEntry)) (old mid : List Entry) (k : ℕ) (d : Member) → AllByRecursion (IsHeld (names_of_made id (made old))) standing → Builds id spots standing from lists old mid → k < length standing → IsHeld (names_of_made id (made mid)) (get_or standing k d)
    held_now from lists old mid k d held built lt = held_more (names_of_made id (made old)) (names_of_made id (made mid)) (get_or standing k d) (λ n c. more_names id (made old) (made mid) n built.are.kept c) (held_at (IsHeld (names_of_made id (made old))) standing k d held lt)

    pub last_list : (front : List (List DirectoryEntry)) (list : List DirectoryEntry) (m : ℕ) → length front ≡ m → list_at (front ++ list ∷ []) m ≡ list
    last_list front list m count = ap (list_at (front ++ list ∷ [])) (sym count) ∙ get_or-append_seam front list [] []

    -- the list of a folder that comes next
    pub may_be_next : (names : List Name) (m : ℕ) (lists front : List (List DirectoryEntry)) (list : List DirectoryEntry) (old mid : List Entry) → AllByRecursion (IsHeld names) standing → length standing ≡ length spots → AreShort spots standing → length lists ≡ suc m → Builds id spots standing (length lists) lists old mid → lists ≡ front ++ list ∷ [] → length front ≡ m → IsFolderAt standing m → MayBeDirectory (names_of_made id (made mid)) list
    may_be_next names m lists front list old mid held count short long built cut front_is folder =
        let here : list_at lists m ≡ list = ap (λ (ls : List (List DirectoryEntry)). list_at ls m) cut ∙ last_list front list m front_is in
        subst (MayBeDirectory (names_of_made id (made mid))) here (may_be names m lists old mid held count short (subst (λ (n : ℕ). Builds id spots standing n lists old mid) long built) folder)

    -- one more spot, whose entry is added to the list of its folder
    pub put_built : (m : ℕ) (lists front : List (List DirectoryEntry)) (list : List DirectoryEntry) (later : List (List DirectoryEntry)) (old mid new : List Entry) (spot : Spot) (place : Member) (entry : DirectoryEntry) → 0 < m → length lists ≡ suc m → lists ≡ front ++ list ∷ [] → length front ≡ m → Builds id spots standing (length lists) lists old mid
        → IsSpotAt spots m spot → place ≡ place_at standing m → IsHeld (names_of_made id (made mid)) place → MakesEntry id spot.name place mid list new entry → later ≡ set front spot.above (list_at front spot.above ++ entry ∷ []) → length later ≡ m → Builds id spots standing m later old new
    put_built m lists front list later old mid new spot place entry some long cut front_is built at place_is held makes put count =
        let built_m = subst (λ (n : ℕ). Builds id spots standing n lists old mid) long built in
        let entries = built_m.entries in
        let are = built_m.are in
        let w = are.within in
        let lt : m < length spots = omega (arith, w) in
        let here : list_at lists m ≡ list = ap (λ (ls : List (List DirectoryEntry)). list_at ls m) cut ∙ last_list front list m front_is in
        let makes_list : MakesEntry id spot.name place mid (list_at lists m) new entry = subst (λ (l : List DirectoryEntry). MakesEntry id spot.name place mid l new entry) (sym here) makes in
        let makes_place : MakesEntry id spot.name (place_at standing m) mid (list_at lists m) new entry = subst (λ (p : Member). MakesEntry id spot.name p mid (list_at lists m) new entry) place_is makes_list in
        let makes_m : MakesEntry id (name_at spots m) (place_at standing m) mid (list_at lists m) new entry = subst (λ (n : List ℕ). MakesEntry id n (place_at standing m) mid (list_at lists m) new entry) at.name makes_place in
        let held_m : IsHeld (names_of_made id (made mid)) (place_at standing m) = subst (IsHeld (names_of_made id (made mid))) place_is held in
        let below = makes_m.below in
        let now = now_at entries m below in
        let down = at.down in
        let is : entry_at id spots standing now m ≡ entry = entry_here entries m below ∙ sym makes_m.is in
        let old_list : (k : ℕ) → k < m → list_at lists k ≡ list_at front k = λ k l. ap (λ (ls : List (List DirectoryEntry)). list_at ls k) cut ∙ get_or_append_left front (list ∷ []) [] k (omega (arith, l, front_is)) in
        let same_above : spot.above ≡ above_at spots m = at.above in
        let put_there : list_at later spot.above ≡ list_at lists spot.above ++ entry ∷ [] =
        ap (λ (ls : List (List DirectoryEntry)). list_at ls spot.above) put ∙ get_or-set_same front spot.above (list_at front spot.above ++ entry ∷ []) [] (omega (arith, down, front_is)) ∙ ap (λ (l : List DirectoryEntry). l ++ entry ∷ []) (sym (old_list spot.above down)) in
        let listed = next_listed entries m below lists later entry some lt is are.listed
        (subst (λ (a : ℕ). list_at later a ≡ list_at lists a ++ entry ∷ []) same_above put_there)
        (λ folder l ne. ap (λ (ls : List (List DirectoryEntry)). list_at ls folder) put ∙ get_or-set_other front spot.above folder (list_at front spot.above ++ entry ∷ []) [] (λ e. ne (e ∙ same_above)) ∙ sym (old_list folder l)) in
        let sub : (n : Name) → Contains (names_of_made id (made mid)) n → Contains (names_of_made id (made new)) n = λ n c. more_names id (made mid) (made new) n (enters_grows (name_at spots m) (place_at standing m) mid (list_at lists m) new below makes_m.enters) c in
        let ready : IsReadyEntry (names_of_made id (made new)) (entry_at id spots standing now m) = record {
          good = subst IsEntry (sym is) makes_m.good;
          child = λ kid e. made_ready (names_of_made id (made mid)) (name_at spots m) (place_at standing m) mid (list_at lists m) new below sub held_m makes_m.enters kid (ap child_of (sym (entry_here entries m below)) ∙ e);
        } in
        record { entries = now; are = next_built entries m below lists old mid new are makes_m.enters later count listed (λ _. ready) }
