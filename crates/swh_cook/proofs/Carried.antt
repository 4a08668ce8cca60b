-- What is known of the rows of a directory that a folder carries.
use Rattle.std.proofs.Common.{◌≡◌, ◌⊎◌, inl, inr, ℕ, ◌+◌, ◌<◌, ◌≤◌, ◌==◌, Bool, true, false, cond, Option, Some, None, List, [], ◌∷◌, ◌++◌, length, Contains, refl, sym, ap, ◌∙◌, subst, arith, append_assoc, length-append}
use Rattle.std.specs.Prelude.{decimal}
use Rattle.std.specs.List.{AllByRecursion, cons_option, slice_split, onto_first}
use Rattle.swh_base.specs.declared.name.Name.{Name}
use Rattle.swh_base.specs.Directory.{DirectoryEntry, IsEntry, IsEntryName, AreEntries, entry_text, directory_text}
use Rattle.swh_base.specs.Limits.{path_limit}
use Rattle.swh_base.specs.Name.{IsByte, IsId}
use Rattle.swh_dedup.proofs.Elements.{first_or_later, first_is, later_is, none_is}
use Rattle.swh_model.specs.Archive.{Bodies, IsGraphOf}
use Rattle.swh_graph.specs.Holding.{HoldsDirectory}
use Rattle.swh_graph.specs.Path.{directory_name}
use Rattle.swh_fastlex.specs.Path.{IsComponent, components, IsPath}
use Rattle.swh_fastlex.proofs.Components.{components_none}
use Rattle.swh_listing.specs.declared.listed.Listed.{Listed}
use Rattle.swh_listing.specs.declared.listed.Mode.{Mode}
use Rattle.swh_listing.specs.declared.listed.Mode.TheVariants.{Executable, Link, Project}
use Rattle.swh_listing.specs.Line.{HasId}
use Rattle.swh_pathwalk.specs.Tree.{Row, row_at, IsPathWalk}
use Rattle.swh_pathwalk.proofs.Weights.{leads}
use Rattle.swh_pathwalk.proofs.Rows.{each_row}
use Rattle.swh_postorder.specs.Postorder.{IsPostorder}
use Rattle.swh_carried.specs.Uncarried.{AreCarried}
use Rattle.swh_carried.specs.Rules.{IsDots, HasDirectoryEntry, LeadsOver, way_length}
use Rattle.swh_carried.specs.declared.fault.Why.TheVariants.{Dots, Path}
use Rattle.swh_dircook.specs.Listing.{mode_of, with_path, all_listed, MayBeListed}
use Rattle.swh_dircook.specs.Rules.{BreaksInFolder}
use Rattle.swh_dircook.proofs.Paths.{root_there, held}
use Rattle.swh_cook.specs.FolderBack.{AreOfBytes}

-- ---- bytes

bytes_front : (a b : List ℕ) → AllByRecursion IsByte (a ++ b) → AllByRecursion IsByte a
bytes_front [] b h = tt
bytes_front (c ∷ a) b h = (h.0, bytes_front a b h.1)

bytes_back : (a b : List ℕ) → AllByRecursion IsByte (a ++ b) → AllByRecursion IsByte b
bytes_back [] b h = h
bytes_back (c ∷ a) b h = bytes_back a b h.1

bytes_both : (a b : List ℕ) → AllByRecursion IsByte a → AllByRecursion IsByte b → AllByRecursion IsByte (a ++ b)
bytes_both [] b h k = k
bytes_both (c ∷ a) b h k = (h.0, bytes_both a b h.1 k)

entry_bytes : (es : List DirectoryEntry) (e : DirectoryEntry) → Contains es e → AllByRecursion IsByte (directory_text es) → AllByRecursion IsByte (entry_text e)
entry_bytes [] e there h = absurd (none_is e there)
entry_bytes (x ∷ xs) e there h =
    elim (first_or_later x xs e there) [
      | inl same ↦ subst (λ (y : DirectoryEntry). AllByRecursion IsByte (entry_text y)) same (bytes_front (entry_text x) (directory_text xs) h)
      | inr later ↦ entry_bytes xs e later (bytes_back (entry_text x) (directory_text xs) h)
    ]

name_bytes : (e : DirectoryEntry) → AllByRecursion IsByte (entry_text e) → AllByRecursion IsByte e.name
name_bytes e h = bytes_front e.name (0 ∷ e.id) (bytes_back (decimal e.mode) (32 ∷ (e.name ++ 0 ∷ e.id)) h).1

id_bytes : (e : DirectoryEntry) → AllByRecursion IsByte (entry_text e) → AllByRecursion IsByte e.id
id_bytes e h = (bytes_back e.name (0 ∷ e.id) (bytes_back (decimal e.mode) (32 ∷ (e.name ++ 0 ∷ e.id)) h).1).1

-- ---- components

some_first : (xs : List ℕ) → slice_split (λ c. c == 47) xs ≡ [] → ⊥
some_first [] e = absurd cc
some_first (x ∷ xs) e = by (x == 47) (slice_split (λ c. c == 47) xs) e (some_first xs)
  where
    by : (b : Bool) (parts : List (List ℕ)) → cond b ([] ∷ parts) (onto_first x parts) ≡ [] → (parts ≡ [] → ⊥) → ⊥
    by true parts f some = absurd cc
    by false [] f some = some refl
    by false (p ∷ parts) f some = absurd cc

onto_both : (x : ℕ) (parts more : List (List ℕ)) → (parts ≡ [] → ⊥) → onto_first x (parts ++ more) ≡ onto_first x parts ++ more
onto_both x [] more some = absurd (some refl)
onto_both x (p ∷ parts) more some = refl

cond_both : (b : Bool) (x : ℕ) (parts more whole : List (List ℕ)) → (parts ≡ [] → ⊥) → whole ≡ parts ++ more → cond b ([] ∷ whole) (onto_first x whole) ≡ cond b ([] ∷ parts) (onto_first x parts) ++ more
cond_both true x parts more whole some is = ap (λ (l : List (List ℕ)). [] ∷ l) is
cond_both false x parts more whole some is = ap (onto_first x) is ∙ onto_both x parts more some

parts_both : (xs ys : List ℕ) → components (xs ++ 47 ∷ ys) ≡ components xs ++ components ys
parts_both [] ys = refl
parts_both (x ∷ xs) ys = cond_both (x == 47) x (components xs) (components ys) (components (xs ++ 47 ∷ ys)) (some_first xs) (parts_both xs ys)

components_both : (a b : List (List ℕ)) → AllByRecursion IsComponent a → AllByRecursion IsComponent b → AllByRecursion IsComponent (a ++ b)
components_both [] b h k = k
components_both (c ∷ a) b h k = (h.0, components_both a b h.1 k)

one_path : (name : List ℕ) → IsComponent name → (Contains name 47 → ⊥) → IsPath name
one_path name is plain = subst (AllByRecursion IsComponent) (sym (components_none name plain)) (is, tt)

-- What leads to a directory: nothing, or a path and a slash.
abbrev IsFront : List ℕ → Type 0
IsFront front = (front ≡ []) ⊎ ((path : List ℕ) × (front ≡ path ++ 47 ∷ []) × IsPath path)

front_path : (front name : List ℕ) → IsFront front → IsComponent name → (Contains name 47 → ⊥) → IsPath (front ++ name)
front_path front name (inl none) is plain = subst (λ (f : List ℕ). IsPath (f ++ name)) (sym none) (one_path name is plain)
front_path front name (inr (path, at, good)) is plain =
    let whole : front ++ name ≡ path ++ 47 ∷ name = ap (λ (f : List ℕ). f ++ name) at ∙ append_assoc path (47 ∷ []) name in
    subst IsPath (sym whole) (subst (AllByRecursion IsComponent) (sym (parts_both path name)) (components_both (components path) (components name) good (one_path name is plain)))

-- ---- rows

-- what is known of a row
pub record IsGoodRow (row : Row) : Type 0 where
  pub dots : IsDots row.entry.name → ⊥
  pub short : length row.path ≤ path_limit
  pub path : IsPath row.path
  pub bytes : AllByRecursion IsByte row.path
  pub id : IsId row.entry.id

each_entry : (es : List DirectoryEntry) → AreEntries es → (e : DirectoryEntry) → Contains es e → IsEntry e
each_entry [] good e there = absurd (none_is e there)
each_entry (d ∷ es) good e there = elim (first_or_later d es e there) [ inl same ↦ subst IsEntry same good.0 | inr later ↦ each_entry es good.3 e later ]

module _
    (bodies : Bodies)
    (children_of : Name → Option (List Name))
    (graph : IsGraphOf bodies children_of)
    (directory : List ℕ)
    (order : List Name)
    (is : IsPostorder children_of (directory_name directory) order)
    (carried : AreCarried children_of (BreaksInFolder bodies (directory_name directory)) order)
    (of_bytes : AreOfBytes bodies order)
  where
    record LeadsBy (front : List ℕ) (place : Name) : Type 0 where
      pub own : List ℕ
      pub named : place ≡ directory_name own
      pub there : Contains order (directory_name own)
      pub way : List DirectoryEntry
      pub over : LeadsOver bodies (directory_name directory) way (directory_name own)
      pub size : length front ≡ way_length way
      pub front_is : IsFront front
      pub bytes : AllByRecursion IsByte front

    entry_in : (id : List ℕ) (entries : List DirectoryEntry) (e : DirectoryEntry) → HoldsDirectory bodies (directory_name id) entries → Contains entries e → HasDirectoryEntry bodies (directory_name id) e
    entry_in id entries e holds in_it = record { kind = refl; body = holds.body; held = holds.held; entries = entries; is = holds.is; there = in_it }

    own_bytes : (id : List ℕ) (entries : List DirectoryEntry) (e : DirectoryEntry) → Contains order (directory_name id) → HoldsDirectory bodies (directory_name id) entries → Contains entries e → AllByRecursion IsByte (entry_text e)
    own_bytes id entries e there holds in_it = entry_bytes entries e in_it (subst (AllByRecursion IsByte) holds.is.text (of_bytes (directory_name id) there holds.body refl holds.held))

    no_dots : (id : List ℕ) (entries : List DirectoryEntry) (e : DirectoryEntry) → Contains order (directory_name id) → HoldsDirectory bodies (directory_name id) entries → Contains entries e → IsDots e.name → ⊥
    no_dots id entries e there holds in_it dots = carried.none (directory_name id) there Dots (record { entry = e; is_entry = entry_in id entries e holds in_it; is = dots })

    component : (name : List ℕ) → IsEntryName name → (IsDots name → ⊥) → IsComponent name
    component name good dots = record { some = good.not_empty; not_here = λ e. dots (inl e); not_above = λ e. dots (inr e); no_nul = good.no_nul }

    row_here : (front : List ℕ) (place : Name) (entries : List DirectoryEntry) (e : DirectoryEntry) → LeadsBy front place → HoldsDirectory bodies place entries → Contains entries e → IsGoodRow (row_at front e)
    row_here front place entries e by holds in_it =
        let at = subst (λ (n : Name). HoldsDirectory bodies n entries) by.named holds in
        let entry = each_entry entries at.is.good e in_it in
        let dots = no_dots by.own entries e by.there at in_it in
        let text = own_bytes by.own entries e by.there at in_it in
        let long : path_limit < way_length by.way + length e.name → ⊥ = λ l. carried.none (directory_name by.own) by.there Path
        (record { start = directory_name directory; begins = refl; way = by.way; leads = by.over; entry = e; is_entry = entry_in by.own entries e at in_it; long = l }) in
        let size = by.size in
        let both = length-append front e.name in
        record {
          dots = dots;
          short = within (length (front ++ e.name)) (λ over. long (omega (arith, over, size, both)));
          path = front_path front e.name by.front_is (component e.name entry.name dots) entry.name.no_slash;
          bytes = bytes_both front e.name by.bytes (name_bytes e text);
          id = (entry.id, id_bytes e text);
        }
      where
        within : (n : ℕ) → (path_limit < n → ⊥) → n ≤ path_limit
        within n not = omega (arith, not)

    onward : (front : List ℕ) (place : Name) (entries : List DirectoryEntry) (e : DirectoryEntry) → LeadsBy front place → HoldsDirectory bodies place entries → Contains entries e → e.mode ≡ 40000 → LeadsBy ((front ++ e.name) ++ 47 ∷ []) (directory_name e.id)
    onward front place entries e by holds in_it folder =
        let at = subst (λ (n : Name). HoldsDirectory bodies n entries) by.named holds in
        let entry = each_entry entries at.is.good e in_it in
        let dots = no_dots by.own entries e by.there at in_it in
        let size = by.size in
        let both = length-append front e.name in
        let all = length-append (front ++ e.name) (47 ∷ []) in
        record {
          own = e.id;
          named = refl;
          there = leads bodies children_of graph order (held bodies children_of graph directory order is carried).preceded by.own entries e by.there at in_it folder;
          way = e ∷ by.way;
          over = (directory_name by.own, by.over, entry_in by.own entries e at in_it, folder, refl);
          size = omega (arith, size, both, all);
          front_is = inr (front ++ e.name, refl, front_path front e.name by.front_is (component e.name entry.name dots) entry.name.no_slash);
          bytes = bytes_both (front ++ e.name) (47 ∷ []) (bytes_both front e.name by.bytes (name_bytes e (own_bytes by.own entries e by.there at in_it))) (omega arith, tt);
        }

    pub good_row : (rows : List Row) → IsPathWalk bodies (directory_name directory) rows → (row : Row) → Contains rows row → IsGoodRow row
    good_row rows walk row there =
        each_row bodies LeadsBy IsGoodRow row_here onward (directory_name directory) rows
        (record {
          own = directory;
          named = refl;
          there = root_there children_of (directory_name directory) order is;
          way = [];
          over = refl;
          size = refl;
          front_is = inl refl;
          bytes = tt;
        })
        walk row there

    -- ---- lines

    id_of_mode : (row : Row) (m : Mode) → IsId row.entry.id → mode_of row.entry ≡ Some m → HasId m
    id_of_mode row m i is = by (row.entry.mode == 100755) (row.entry.mode == 120000) (row.entry.mode == 160000) m is
      where
        by : (a b c : Bool) (k : Mode) → cond a (Some Executable) (cond b (Some Link) (cond c (Some (Project row.entry.id)) None)) ≡ Some k → HasId k
        by true b c k e = subst HasId (let s : Executable ≡ k = cc in s) tt
        by false true c k e = subst HasId (let s : Link ≡ k = cc in s) tt
        by false false true k e = subst HasId (let s : Project row.entry.id ≡ k = cc in s) i
        by false false false k e = absurd cc

    line_good : (row : Row) → IsGoodRow row → (o : Option Mode) → mode_of row.entry ≡ o → (more : List Listed) → AllByRecursion MayBeListed more → AllByRecursion MayBeListed (cons_option (with_path row.path o) more)
    line_good row good None is more rest = rest
    line_good row good (Some m) is more rest = (record { id = id_of_mode row m good.id is; bytes = good.bytes; path = good.path; fits = good.short }, rest)

    pub lines_good : (rows : List Row) → ((row : Row) → Contains rows row → IsGoodRow row) → AllByRecursion MayBeListed (all_listed rows)
    lines_good [] each = tt
    lines_good (row ∷ rows) each = line_good row (each row (first_is row rows)) (mode_of row.entry) refl (all_listed rows) (lines_good rows (λ r there. each r (later_is row rows r there)))
