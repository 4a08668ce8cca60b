-- What is carried is what a stream takes: rows of files.
use Rattle.std.proofs.Common.{◌≡◌, ◌≢◌, inl, inr, ℕ, ◌+◌, ◌==◌, ◌<◌, ◌≤◌, Bool, cond, List, [], ◌∷◌, ◌++◌, length, length-append, Option, Some, None, Contains, refl, sym, ap, ◌∙◌, subst, arith}
use Rattle.std.specs.Prelude.{decimal}
use Rattle.std.specs.List.{AllByRecursion, cons_option}
use Rattle.std.proofs.lemmas.List.Elements.{Contains-append_left}
use Rattle.swh_base.specs.Limits.{path_limit}
use Rattle.swh_base.specs.declared.kind.Kind.{Kind}
use Rattle.swh_base.specs.declared.kind.Kind.TheVariants.{Directory as DirectoryKind}
use Rattle.swh_base.specs.declared.name.Name.{Name}
use Rattle.swh_base.specs.Directory.{DirectoryEntry, IsDirectory, IsEntry, child_of, children_of as directory_children, entry_text, directory_text}
use Rattle.swh_base.specs.Manifest.{AreChildren}
use Rattle.swh_base.specs.Name.{IsByte}
use Rattle.swh_base.specs.Reach.{IsChildIn}
use Rattle.swh_base.proofs.DirectoryLemmas.{one_listing_lem, are-each}
use Rattle.swh_base.proofs.Elementary.{none_in}
use Rattle.swh_model.specs.Archive.{Bodies, body_of, IsGraphOf}
use Rattle.swh_graph.specs.Holding.{HoldsDirectory}
use Rattle.swh_graph.specs.Path.{directory_name}
use Rattle.swh_graph.proofs.Lists.{in_first, in_rest, in_cases, all_of}
use Rattle.swh_postorder.specs.Cycle.{ArePreceded}
use Rattle.swh_postorder.proofs.Preceded.{cut_at}
use Rattle.swh_carried.specs.Rules.{HasDirectoryEntry, HasDots, LeadsOver, way_length, HasLongPath}
use Rattle.swh_fastlex.specs.Path.{IsComponent}
use Rattle.swh_pathwalk.specs.Tree.{Tree, End, Leaf as TreeLeaf, Folder, entries_in, AreHeldUnder, IsTreeOf, Row, path_walk}
use Rattle.swh_marks.specs.Marks.{mark_of}
use Rattle.swh_fastcook.specs.Stream.{content_name}
use Rattle.swh_roundtrip.specs.Sound.{AreOfBytes}
use Rattle.swh_roundtrip.specs.Trees.{HasNoEmptyFolder}
use Rattle.swh_roundtrip.proofs.LineKinds.{IsMarkNumber}
use Rattle.swh_roundtrip.proofs.CommitItems.{IsGoodRow}
use Rattle.swh_roundtrip.proofs.TreeForests.{other_mode, front_text, NoSlashes, slashes-push, front-push, path-parts}

-- ## Bytes of entries

bytes_front : (a b : List ℕ) → AllByRecursion IsByte (a ++ b) → AllByRecursion IsByte a
bytes_front [] b h = tt
bytes_front (c ∷ a) b h = (h.0, bytes_front a b h.1)

bytes_back : (a b : List ℕ) → AllByRecursion IsByte (a ++ b) → AllByRecursion IsByte b
bytes_back [] b h = h
bytes_back (c ∷ a) b h = bytes_back a b h.1

bytes_append : (a b : List ℕ) → AllByRecursion IsByte a → AllByRecursion IsByte b → AllByRecursion IsByte (a ++ b)
bytes_append [] b h k = k
bytes_append (c ∷ a) b h k = (h.0, bytes_append a b h.1 k)

entry_bytes : (es : List DirectoryEntry) (e : DirectoryEntry) → Contains es e → AllByRecursion IsByte (directory_text es) → AllByRecursion IsByte (entry_text e)
entry_bytes [] e there h = absurd (none_in e there)
entry_bytes (x ∷ xs) e there h = elim (in_cases x xs e there) [
  | inl same ↦ subst (λ (y : DirectoryEntry). AllByRecursion IsByte (entry_text y)) same (bytes_front (entry_text x) (directory_text xs) h)
  | inr later ↦ entry_bytes xs e later (bytes_back (entry_text x) (directory_text xs) h)
]

name_bytes : (e : DirectoryEntry) → AllByRecursion IsByte (entry_text e) → AllByRecursion IsByte e.name
name_bytes e h = bytes_front e.name (0 ∷ e.id) (bytes_back (decimal e.mode) (32 ∷ (e.name ++ 0 ∷ e.id)) h).1

id_bytes : (e : DirectoryEntry) → AllByRecursion IsByte (entry_text e) → AllByRecursion IsByte e.id
id_bytes e h = (bytes_back e.name (0 ∷ e.id) (bytes_back (decimal e.mode) (32 ∷ (e.name ++ 0 ∷ e.id)) h).1).1

-- ## Children of directories

pub more_in : (o : Option Name) (kids : List Name) (n : Name) → Contains kids n → Contains (cons_option o kids) n
more_in None kids n there = there
more_in (Some k) kids n there = in_rest k kids n there

in_filter : (es : List DirectoryEntry) (e : DirectoryEntry) (n : Name) → Contains es e → child_of e ≡ Some n → Contains (directory_children es) n
in_filter [] e n there is = absurd (none_in e there)
in_filter (x ∷ xs) e n there is = elim (in_cases x xs e there) [
  | inl same ↦ subst (λ (o : Option Name). Contains (cons_option o (directory_children xs)) n) (sym (ap child_of same ∙ is)) (in_first n (directory_children xs))
  | inr later ↦ more_in (child_of x) (directory_children xs) n (in_filter xs e n later is)
]

pub same_body : (a b : List ℕ) → Some a ≡ Some b → a ≡ b
same_body a b e = cc

child_folder : (e : DirectoryEntry) → e.mode ≡ 40000 → child_of e ≡ Some (directory_name e.id)
child_folder e is = ap (λ (m : ℕ). cond (m == 160000) None (cond (m == 40000) (Some (directory_name e.id)) (Some (content_name e.id)))) is

pub child_file : (e : DirectoryEntry) → e.mode ≢ 40000 → e.mode ≢ 160000 → child_of e ≡ Some (content_name e.id)
child_file e f p =
    ap (λ (b : Bool). cond b None (cond (e.mode == 40000) (Some (directory_name e.id)) (Some (content_name e.id)))) (other_mode e.mode 160000 p)
    ∙ ap (λ (b : Bool). cond b (Some (directory_name e.id)) (Some (content_name e.id))) (other_mode e.mode 40000 f)

module _ (bodies : Bodies) (children_of : Name → Option (List Name)) (graph : IsGraphOf bodies children_of) (order : List Name) (preceded : ArePreceded children_of order) where
  directory_by : (name : Name) (body : List ℕ) (es : List DirectoryEntry) → name.kind ≡ DirectoryKind → body_of bodies name ≡ Some body → IsDirectory body es → (found : Option (List Name)) → children_of name ≡ found → children_of name ≡ Some (directory_children es)
  directory_by name body es kind held is None missing = let e : Some body ≡ None = sym held ∙ graph.missing name missing in cc
  directory_by name body es kind held is (Some kids) found =
      let has = graph.held name kids found in
      let same = same_body has.0 body (sym has.1 ∙ held) in
      let are = subst (λ (k : Kind). AreChildren k has.0 kids) kind has.2 in
      found ∙ ap (λ (ns : List Name). Some ns) (are.kids ∙ ap directory_children (one_listing_lem body are.entries es (subst (λ (b : List ℕ). IsDirectory b are.entries) same are.directory) is))

  pub entry_child : (name : Name) (e : DirectoryEntry) (n : Name) → HasDirectoryEntry bodies name e → child_of e ≡ Some n → IsChildIn children_of name n
  entry_child name e n has is = record {
    kids = directory_children has.entries;
    held = directory_by name has.body has.entries has.kind has.held has.is (children_of name) refl;
    one_of = in_filter has.entries e n has.there is;
  }

  pub kid_in : (parent child : Name) → Contains order parent → IsChildIn children_of parent child → Contains order child
  kid_in parent child there kid =
      let c = cut_at order parent there in
      subst (λ (ns : List Name). Contains ns child) (sym c.cut) (Contains-append_left c.before (parent ∷ c.behind) child (preceded c.before parent c.behind c.cut child kid))

  module _ (of_bytes : AreOfBytes bodies order) (no_dots : (n : Name) → Contains order n → HasDots bodies n → ⊥) (Begins : Name → Type 0) (no_long : (n : Name) → Contains order n → HasLongPath bodies Begins n → ⊥)
      (marks : (n : Name) → Contains order n → IsMarkNumber (mark_of order n)) (start : Name) (begins : Begins start) where
    -- Where a walk stands: the directory, the entries that lead to it, and their names.
    record Stands (place : Name) (way : List DirectoryEntry) (p : List (List ℕ)) : Type 0 where
      there : Contains order place
      leads : LeadsOver bodies start way place
      size : length (front_text p) ≡ way_length way
      names : AllByRecursion IsComponent p
      slashes : NoSlashes p
      bytes : AllByRecursion IsByte (front_text p)

    entry_is : (place : Name) (e : DirectoryEntry) → HasDirectoryEntry bodies place e → IsEntry e
    entry_is place e has = all_of IsEntry has.entries e (are-each has.entries has.is.good) has.there

    own_bytes : (place : Name) (e : DirectoryEntry) → Contains order place → HasDirectoryEntry bodies place e → AllByRecursion IsByte (entry_text e)
    own_bytes place e there has = entry_bytes has.entries e has.there (subst (AllByRecursion IsByte) has.is.text (of_bytes place there has.body has.kind has.held))

    component : (place : Name) (e : DirectoryEntry) → Contains order place → HasDirectoryEntry bodies place e → IsComponent e.name
    component place e there has =
        let is = entry_is place e has in
        record {
          some = is.name.not_empty;
          not_here = λ z. no_dots place there (record { entry = e; is_entry = has; is = inl z });
          not_above = λ z. no_dots place there (record { entry = e; is_entry = has; is = inr z });
          no_nul = is.name.no_nul;
        }

    push : (p : List (List ℕ)) (n : List ℕ) → AllByRecursion IsComponent p → IsComponent n → AllByRecursion IsComponent (p ++ n ∷ [])
    push [] n h k = (k, tt)
    push (c ∷ p) n h k = (h.0, push p n h.1 k)

    row_good : (place : Name) (way : List DirectoryEntry) (p : List (List ℕ)) (e : DirectoryEntry) → Stands place way p → HasDirectoryEntry bodies place e → IsGoodRow order (record { path = front_text p ++ e.name; entry = e })
    row_good place way p e s has =
        let is = entry_is place e has in
        let bytes = own_bytes place e s.there has in
        let long : path_limit < way_length way + length e.name → ⊥ = λ l. no_long place s.there (record { start = start; begins = begins; way = way; leads = s.leads; entry = e; is_entry = has; long = l }) in
        let size = s.size in
        let short : length (front_text p ++ e.name) ≤ path_limit = omega (arith, long, size, length-append (front_text p) e.name) in
        record {
          path = record {
            bytes = bytes_append (front_text p) e.name s.bytes (name_bytes e bytes);
            is = subst (AllByRecursion IsComponent) (sym (path-parts p e.name s.slashes is.name.no_slash)) (push p e.name s.names (component place e s.there has));
            short = short;
          };
          mode = is.mode;
          mark = λ f q. marks (content_name e.id) (kid_in place (content_name e.id) s.there (entry_child place e (content_name e.id) has (child_file e f q)));
          id = (is.id, id_bytes e bytes);
        }

    inside : (place : Name) (way : List DirectoryEntry) (p : List (List ℕ)) (e : DirectoryEntry) → Stands place way p → HasDirectoryEntry bodies place e → e.mode ≡ 40000 → Stands (directory_name e.id) (e ∷ way) (p ++ e.name ∷ [])
    inside place way p e s has folder =
        let is = entry_is place e has in
        let text : (front_text p ++ e.name) ++ 47 ∷ [] ≡ front_text (p ++ e.name ∷ []) = front-push p e.name in
        let size = s.size in
        record {
          there = kid_in place (directory_name e.id) s.there (entry_child place e (directory_name e.id) has (child_folder e folder));
          leads = (place, s.leads, has, folder, refl);
          size = omega (arith, size, ap length text, length-append (front_text p ++ e.name) (47 ∷ []), length-append (front_text p) e.name);
          names = push p e.name s.names (component place e s.there has);
          slashes = slashes-push p e.name s.slashes is.name.no_slash;
          bytes = subst (AllByRecursion IsByte) text (bytes_append (front_text p ++ e.name) (47 ∷ []) (bytes_append (front_text p) e.name s.bytes (name_bytes e (own_bytes place e s.there has))) (omega arith, tt));
        }

    all_append : (a b : List Row) → AllByRecursion (IsGoodRow order) a → AllByRecursion (IsGoodRow order) b → AllByRecursion (IsGoodRow order) (a ++ b)
    all_append [] b h k = k
    all_append (r ∷ a) b h k = (h.0, all_append a b h.1 k)

    rows_good : (t : Tree) (place : Name) (way : List DirectoryEntry) (p : List (List ℕ)) → Stands place way p → ((e : DirectoryEntry) → Contains (entries_in t) e → HasDirectoryEntry bodies place e) → AreHeldUnder bodies t → AllByRecursion (IsGoodRow order) (path_walk (front_text p) t)
    rows_good End place way p s has h = tt
    rows_good (TreeLeaf e rest) place way p s has h =
        (row_good place way p e s (has e (in_first e (entries_in rest))), rows_good rest place way p s (λ x there. has x (in_rest e (entries_in rest) x there)) h.1)
    rows_good (Folder e inner rest) place way p s has h =
        let own = has e (in_first e (entries_in rest)) in
        let deeper : List (List ℕ) = p ++ e.name ∷ [] in
        let below = rows_good inner (directory_name e.id) (e ∷ way) deeper (inside place way p e s own h.0)
        (λ x there. record { kind = refl; body = h.1.body; held = h.1.held; entries = entries_in inner; is = h.1.is; there = there }) h.2 in (
          row_good place way p e s own,
          all_append (path_walk ((front_text p ++ e.name) ++ 47 ∷ []) inner) (path_walk (front_text p) rest)
              (subst (λ (f : List ℕ). AllByRecursion (IsGoodRow order) (path_walk f inner)) (sym (front-push p e.name)) below)
              (rows_good rest place way p s (λ x there. has x (in_rest e (entries_in rest) x there)) h.3),
        )

    -- The rows of the walk over the directory where the paths begin.
    pub walk_good : (t : Tree) → Contains order start → start.kind ≡ DirectoryKind → IsTreeOf bodies start t → AllByRecursion (IsGoodRow order) (path_walk [] t)
    walk_good t there kind is =
        rows_good t start [] [] (record { there = there; leads = refl; size = refl; names = tt; slashes = tt; bytes = tt })
        (λ x one. record { kind = kind; body = is.top.body; held = is.top.held; entries = entries_in t; is = is.top.is; there = one }) is.under

  -- ## Where each row stands

  -- The row's entry is one of a directory in the order.
  pub record StandsIn (row : Row) : Type 0 where
    pub place : Name
    pub there : Contains order place
    pub has : HasDirectoryEntry bodies place row.entry

  stand_append : (a b : List Row) → AllByRecursion StandsIn a → AllByRecursion StandsIn b → AllByRecursion StandsIn (a ++ b)
  stand_append [] b h k = k
  stand_append (r ∷ a) b h k = (h.0, stand_append a b h.1 k)

  rows_stand : (t : Tree) (place : Name) (f : List ℕ) → Contains order place → ((e : DirectoryEntry) → Contains (entries_in t) e → HasDirectoryEntry bodies place e) → AreHeldUnder bodies t → AllByRecursion StandsIn (path_walk f t)
  rows_stand End place f there has h = tt
  rows_stand (TreeLeaf e rest) place f there has h =
      (record { place = place; there = there; has = has e (in_first e (entries_in rest)) }, rows_stand rest place f there (λ x one. has x (in_rest e (entries_in rest) x one)) h.1)
  rows_stand (Folder e inner rest) place f there has h =
      let own = has e (in_first e (entries_in rest)) in
      let n : Name = directory_name e.id in
      let inside : Contains order n = kid_in place n there (entry_child place e n own (child_folder e h.0)) in (
        record { place = place; there = there; has = own },
        stand_append (path_walk ((f ++ e.name) ++ 47 ∷ []) inner) (path_walk f rest)
            (rows_stand inner n ((f ++ e.name) ++ 47 ∷ []) inside (λ x one. record { kind = refl; body = h.1.body; held = h.1.held; entries = entries_in inner; is = h.1.is; there = one }) h.2)
            (rows_stand rest place f there (λ x one. has x (in_rest e (entries_in rest) x one)) h.3),
      )

  pub walk_stands : (start : Name) (t : Tree) → Contains order start → start.kind ≡ DirectoryKind → IsTreeOf bodies start t → AllByRecursion StandsIn (path_walk [] t)
  walk_stands start t there kind is = rows_stand t start [] there (λ x one. record { kind = kind; body = is.top.body; held = is.top.held; entries = entries_in t; is = is.top.is; there = one }) is.under

  -- ## No folder is empty

  some_under : (no_empty : (n : Name) → Contains order n → (parent : Name) (e : DirectoryEntry) → Contains order parent → HasDirectoryEntry bodies parent e → e.mode ≡ 40000 → n ≡ directory_name e.id → HoldsDirectory bodies n [] → ⊥)
      → (t : Tree) (place : Name) → Contains order place → ((e : DirectoryEntry) → Contains (entries_in t) e → HasDirectoryEntry bodies place e) → AreHeldUnder bodies t → HasNoEmptyFolder t
  some_under no_empty End place there has h = tt
  some_under no_empty (TreeLeaf e rest) place there has h = some_under no_empty rest place there (λ x one. has x (in_rest e (entries_in rest) x one)) h.1
  some_under no_empty (Folder e inner rest) place there has h =
      let own = has e (in_first e (entries_in rest)) in
      let n : Name = directory_name e.id in
      let inside : Contains order n = kid_in place n there (entry_child place e n own (child_folder e h.0)) in (
        λ empty. no_empty n inside place e there own h.0 refl (subst (HoldsDirectory bodies n) empty h.1),
        some_under no_empty inner n inside (λ x one. record { kind = refl; body = h.1.body; held = h.1.held; entries = entries_in inner; is = h.1.is; there = one }) h.2,
        some_under no_empty rest place there (λ x one. has x (in_rest e (entries_in rest) x one)) h.3,
      )

  pub walk_full : (no_empty : (n : Name) → Contains order n → (parent : Name) (e : DirectoryEntry) → Contains order parent → HasDirectoryEntry bodies parent e → e.mode ≡ 40000 → n ≡ directory_name e.id → HoldsDirectory bodies n [] → ⊥)
      → (start : Name) (t : Tree) → Contains order start → start.kind ≡ DirectoryKind → IsTreeOf bodies start t → HasNoEmptyFolder t
  walk_full no_empty start t there kind is = some_under no_empty t start there (λ x one. record { kind = kind; body = is.top.body; held = is.top.held; entries = entries_in t; is = is.top.is; there = one }) is.under
