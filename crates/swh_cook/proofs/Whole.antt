-- A folder in which what was made of a directory stands means that directory.
use Rattle.std.proofs.Common.{◌≡◌, ◌⊎◌, inl, inr, ℕ, ◌+◌, ◌<◌, ◌≤◌, ◌==◌, Bool, true, false, cond, Option, Some, None, List, [], ◌∷◌, length, map, Contains, refl, sym, ap, ◌∙◌, subst, arith}
use Rattle.std.specs.Prelude.{◌↔◌, decimal}
use Rattle.std.specs.List.{AllByRecursion, cons_option}
use Rattle.std.specs.Str.{bytes_eq}
use Rattle.std.proofs.lemmas.Bool.{eqb-true, eqb-false, false_from_ne_true as not_true}
use Rattle.std.proofs.lemmas.List.{append-nil}
use Rattle.std.proofs.lemmas.Slice.Eq.{bytes_eq-Decides}
use Rattle.swh_base.specs.declared.entry.Entry.{Entry}
use Rattle.swh_base.specs.declared.kind.Kind.{Kind}
use Rattle.swh_base.specs.declared.kind.Kind.TheVariants.{Snapshot}
use Rattle.swh_base.specs.declared.name.Name.{Name}
use Rattle.swh_base.specs.Directory.{DirectoryEntry, IsEntry, AreEntries, directory_text}
use Rattle.swh_base.specs.Limits.{body_limit}
use Rattle.swh_base.specs.Snapshot.{IsSnapshot, snapshot_text}
use Rattle.swh_dedup.proofs.Elements.{first_or_later, first_is, later_is, none_is, contains_map}
use Rattle.swh_dedup.specs.Making.{made, object_of, name_of, names_of_made}
use Rattle.swh_model.specs.Archive.{Bodies, body_of, IsGraphOf}
use Rattle.swh_model.specs.Meaning.{Made, content, directory}
use Rattle.swh_outside.specs.Folder.{Tree as Held}
use Rattle.swh_outside.specs.declared.folder.What.TheVariants as item
use Rattle.swh_graph.specs.Holding.{HoldsDirectory}
use Rattle.swh_graph.specs.Path.{directory_name}
use Rattle.swh_pathwalk.specs.Tree.{Tree, End, Leaf, Folder, entries_in, AreHeldUnder, Row, IsPathWalk}
use Rattle.swh_postorder.specs.Postorder.{IsPostorder}
use Rattle.swh_carried.specs.Uncarried.{AreCarried}
use Rattle.swh_carried.specs.Rules.{IsDots}
use Rattle.swh_carried.specs.declared.fault.Why.TheVariants.{Length}
use Rattle.swh_listing.specs.declared.limits.TheConstants.{LISTING_LIMIT}
use Rattle.swh_listing.specs.Listing.{IsListing}
use Rattle.swh_dirmade.specs.Paths.{child}
use Rattle.swh_dirmade.specs.Spots.{Places}
use Rattle.swh_dirmade.specs.Directories.{mode_digits, directory_id, IsDirectoryOf, HasSize}
use Rattle.swh_dirmade.specs.Snapshots.{head}
use Rattle.swh_dirmade.specs.declared.member.Member.{Member}
use Rattle.swh_dirmade.specs.declared.member.Member.TheVariants as stands
use Rattle.swh_dirmade.proofs.Paths.{child_some}
use Rattle.swh_dirmade.proofs.Heads.{head_good, head_short}
use Rattle.swh_dirload.specs.declared.limits.TheConstants.{FILES_LIMIT}
use Rattle.swh_dirload.specs.Items.{Item, item_in, HasItems}
use Rattle.swh_dirload.specs.Walk.{root, IsWalk}
use Rattle.swh_dirload.specs.Places.{places_of}
use Rattle.swh_dirload.specs.Meaning.{AreShort, MeansFolder}
use Rattle.swh_dirload.proofs.Ascending.{IsUp}
use Rattle.swh_dircook.specs.Listing.{listing_text, all_listed}
use Rattle.swh_dircook.specs.Made.{content_name, bytes_or_none}
use Rattle.swh_dircook.specs.Rules.{BreaksInFolder, files_length}
use Rattle.swh_dircook.proofs.Paths.{fine_row, root_there as first_there}
use Rattle.swh_dircook.proofs.Reread.{reread}
use Rattle.swh_cook.specs.FolderBack.{AreGoodBodies, AreOfBytes, HoldsMade, LoadsBack}
use Rattle.swh_cook.proofs.Nodes.{Node, node_at, nodes, row_of, IsGood, AreApart, walk_rows}
use Rattle.swh_cook.proofs.Standing.{IsDir, held_node, stands_in, dir_entries, dir_entry, node_entry, node_some, apart, entry_node, node_in}
use Rattle.swh_cook.proofs.Listed.{shown}
use Rattle.swh_cook.proofs.Things.{things, file_there, lists_items}
use Rattle.swh_cook.proofs.Walked.{item_of, items_of, whole_walk, all_fit}
use Rattle.swh_cook.proofs.Read.{found_of, founds_of, IsFileNode, IsReading, all_read}
use Rattle.swh_cook.proofs.Placed.{final_of, final_pair, before_pair, Pair, look_up, with_top, look_up_at, from_look_up, mixed, mixed_up, PairApart, found_places, IsPlaced, folder_final, lines_taken}
use Rattle.swh_cook.proofs.Dirs.{entries, dir_is, folder_dir, are_directories}
use Rattle.swh_cook.proofs.Sizes.{dir_short, found_digits, final_digits}
use Rattle.swh_cook.proofs.Objects.{GivesMore, give, AreGiven, IsFolderIn, leads_into, GivesFolders, give_folders, give_directory, text_id, text_short}
use Rattle.swh_cook.proofs.Carried.{IsGoodRow, good_row, lines_good}

-- the entries of a directory that is held are good all the way down
pub good_tree : (bodies : Bodies) (tree : Tree) → AreEntries (entries_in tree) → AreHeldUnder bodies tree → IsGood tree
good_tree bodies End top held = tt
good_tree bodies (Leaf e rest) top (leaf, held) = (top.0.name, good_tree bodies rest top.3 held)
good_tree bodies (Folder e inner rest) top (folder, holds, inside, held) = (top.0.name, holds.is.good, good_tree bodies inner holds.is.good inside, good_tree bodies rest top.3 held)

not_more : (n most : ℕ) → (most < n → ⊥) → n ≤ most
not_more n most none = omega (arith, none)

-- each item that is a folder is a node that is one
folder_item : (n : Node) (p f : Bool) → (n.entry.mode == 40000) ≡ f → (i : Item) → cond p None (Some (n.path, cond f item.Folder item.File)) ≡ Some i → i.1 ≡ item.Folder → (n.entry.mode ≡ 40000) × (n.path ≡ i.0)
folder_item n true f is i e folder = absurd cc
folder_item n false true is i e folder = (eqb-true n.entry.mode 40000 is, cc)
folder_item n false false is i e folder = absurd (let g : item.File ≡ item.Folder = ap (λ (o : Option Item). elim o [ None ↦ item.File | Some j ↦ j.1 ]) e ∙ folder in cc)

items_option : (P : List ℕ → Type 0) (o : Option Item) (is : List Item) → ((i : Item) → o ≡ Some i → i.1 ≡ item.Folder → P i.0) → AllByRecursion (λ i. i.1 ≡ item.Folder → P i.0) is → AllByRecursion (λ i. i.1 ≡ item.Folder → P i.0) (cons_option o is)
items_option P None is one rest = rest
items_option P (Some i) is one rest = (λ folder. one i refl folder, rest)

each_folder : (P : List ℕ → Type 0) (ms : List Node) → ((n : Node) → Contains ms n → n.entry.mode ≡ 40000 → P n.path) → AllByRecursion (λ i. i.1 ≡ item.Folder → P i.0) (items_of ms)
each_folder P [] each = tt
each_folder P (n ∷ ms) each =
    items_option P (item_of n) (items_of ms)
    (λ i e folder. let f = folder_item n (n.entry.mode == 160000) (n.entry.mode == 40000) refl i e folder in subst P f.1 (each n (first_is n ms) f.0))
    (each_folder P ms (λ m there folder. each m (later_is n ms m there) folder))

from_mapped : (f : Node → Pair) (ms : List Node) (p : Pair) → Contains (map f ms) p → (n : Node) × Contains ms n × (f n ≡ p)
from_mapped f [] p there = absurd (none_is p there)
from_mapped f (m ∷ ms) p there =
    elim (first_or_later (f m) (map f ms) p there) [
      | inl same ↦ (m, first_is m ms, same)
      | inr later ↦ let h = from_mapped f ms p later in (h.0, later_is m ms h.0 h.1, h.2)
    ]

is_other : (a b : List ℕ) → (a ≡ b → ⊥) → bytes_eq a b ≡ false
is_other a b n = not_true (bytes_eq a b) (λ t. n ((bytes_eq-Decides a b).0 t))

off_top : (pairs : List Pair) (path : List ℕ) → (path ≡ [] → ⊥) → with_top pairs path ≡ look_up pairs path
off_top pairs path some = ap (λ (b : Bool). cond b (Some stands.Folder) (look_up pairs path)) (is_other path [] some)

module _
    (id : Kind → List ℕ → List ℕ)
    (bodies : Bodies)
    (are : AreGoodBodies id bodies)
    (children_of : Name → Option (List Name))
    (graph : IsGraphOf bodies children_of)
    (dir_id : List ℕ)
    (twenty : length dir_id ≡ 20)
    (order : List Name)
    (is : IsPostorder children_of (directory_name dir_id) order)
    (carried : AreCarried children_of (BreaksInFolder bodies (directory_name dir_id)) order)
    (of_bytes : AreOfBytes bodies order)
    (tree : Tree)
    (top : HoldsDirectory bodies (directory_name dir_id) (entries_in tree))
    (held : AreHeldUnder bodies tree)
    (out : List ℕ)
    (fs : Held)
  where
    pub good : IsGood tree
    good = good_tree bodies tree top.is.good held

    abbrev N : List Node
    N = nodes [] tree

    abbrev R : List Row
    R = map row_of N

    walk : IsPathWalk bodies (directory_name dir_id) R
    walk = record { tree = tree; is = record { top = top; under = held }; rows_are = sym (walk_rows tree good) }

    row_known : (n : Node) → Contains N n → IsGoodRow (row_of n)
    row_known n there = good_row bodies children_of graph dir_id order is carried of_bytes R walk (row_of n) (contains_map row_of N n there)

    -- The directory at the path has these entries, and is held.
    abbrev IsAt : List ℕ → List DirectoryEntry → Type 0
    IsAt dir es = IsDir bodies tree good top.is.good held dir es

    dir_text : (dir : List ℕ) (es : List DirectoryEntry) → IsAt dir es → length (directory_text es) ≤ body_limit
    dir_text dir es (inl (at, same)) = subst (λ (l : List DirectoryEntry). length (directory_text l) ≤ body_limit) (sym same) (text_short id bodies are (directory_name dir_id) (entries_in tree) top)
    dir_text dir es (inr (m, there, folder, at, same)) =
        subst (λ (l : List DirectoryEntry). length (directory_text l) ≤ body_limit) (sym same)
        (text_short id bodies are (directory_name m.entry.id) (entries_in m.inner) (held_node bodies tree [] good held m there folder).holds)

    up : IsUp AreApart N
    up = apart bodies tree good top.is.good held

    placed : (n : Node) → Contains N n → IsPlaced N n
    placed n there =
        let s = stands_in bodies tree good top.is.good held n there in
        record {
          is = node_entry bodies tree good top.is.good held n there;
          some = node_some bodies tree good top.is.good held n there;
          dir = s.dir;
          path = s.path;
          in_folder = elim s.is_dir [ inl t ↦ inl t.0 | inr m ↦ inr (m.0, m.1, m.2, m.3) ];
        }

    -- ---- sizes, whatever stands where each node is

    module _ (g : DirectoryEntry → Option Member) (at : Places) (here : (n : Node) → Contains N n → at n.path ≡ g n.entry) (only : (path : List ℕ) (place : Member) → (path ≡ [] → ⊥) → at path ≡ Some place → (n : Node) × Contains N n × (n.path ≡ path) × (g n.entry ≡ Some place))
        (digits : (e : DirectoryEntry) → IsEntry e → (place : Member) → g e ≡ Some place → mode_digits place ≤ length (decimal e.mode)) where
      size_of : (dir : List ℕ) (es : List DirectoryEntry) → IsAt dir es → (size : ℕ) × HasSize at dir size × (size ≤ body_limit)
      size_of dir es is_dir =
          dir_short g at dir es (dir_entries bodies tree good top.is.good held dir es is_dir) (dir_text dir es is_dir)
          (λ e there. (dir_entry bodies tree good top.is.good held dir es is_dir e there).name)
          (λ e there. digits e (dir_entry bodies tree good top.is.good held dir es is_dir e there))
          (λ e there place found. let n = entry_node bodies tree good top.is.good held dir es is_dir e there in here (node_at dir e n.0) n.1 ∙ found)
          (λ name place named found.
          let n = only (child dir name) place (child_some dir name named.not_empty) found in
          let both = node_in bodies tree good top.is.good held dir es name n.0 is_dir named n.1 n.2 in
          (n.0.entry, both.1, both.0, n.3))

      all_short : AreShort at (root ∷ items_of N)
      all_short = (
        λ _. size_of [] (entries_in tree) (inl (refl, refl)),
        each_folder (λ dir. (size : ℕ) × HasSize at dir size × (size ≤ body_limit)) N (λ n there folder. size_of n.path (entries_in n.inner) (inr (n, there, folder, refl, refl))),
      )

    -- ---- before the listing

    abbrev before : Places
    before = places_of (root ∷ items_of N) (stands.Folder ∷ founds_of N)

    before_is : (path : List ℕ) → before path ≡ with_top (mixed [] N) path
    before_is path = ap (λ (o : Option Member). cond (bytes_eq path []) (Some stands.Folder) o) (found_places N up path)

    before_here : (n : Node) → Contains N n → before n.path ≡ found_of n.entry
    before_here n there =
        before_is n.path ∙ off_top (mixed [] N) n.path (placed n there).some ∙ look_up_at (mixed [] N) (mixed_up [] N up) (before_pair n) (contains_map before_pair N n there)

    before_only : (path : List ℕ) (place : Member) → (path ≡ [] → ⊥) → before path ≡ Some place → (n : Node) × Contains N n × (n.path ≡ path) × (found_of n.entry ≡ Some place)
    before_only path place some found =
        let p = from_look_up (mixed [] N) path place (sym (off_top (mixed [] N) path some) ∙ sym (before_is path) ∙ found) in
        let n = from_mapped before_pair N p.0 p.1 in
        (n.0, n.1, ap (λ (q : Pair). q.0) n.2 ∙ p.2, ap (λ (q : Pair). q.1) n.2 ∙ p.3)

    -- ---- after it

    abbrev final : Places
    final = with_top (map final_pair N)

    finals_up : IsUp PairApart (map final_pair N)
    finals_up = subst (IsUp PairApart) (append-nil (map final_pair N)) (mixed_up N [] (subst (IsUp AreApart) (sym (append-nil N)) up))

    final_here : (n : Node) → Contains N n → final n.path ≡ Some (final_of n.entry)
    final_here n there = off_top (map final_pair N) n.path (placed n there).some ∙ look_up_at (map final_pair N) finals_up (final_pair n) (contains_map final_pair N n there)

    final_only : (path : List ℕ) (place : Member) → (path ≡ [] → ⊥) → final path ≡ Some place → (n : Node) × Contains N n × (n.path ≡ path) × (Some (final_of n.entry) ≡ Some place)
    final_only path place some found =
        let p = from_look_up (map final_pair N) path place (sym (off_top (map final_pair N) path some) ∙ found) in
        let n = from_mapped final_pair N p.0 p.1 in
        (n.0, n.1, ap (λ (q : Pair). q.0) n.2 ∙ p.2, ap (λ (q : Pair). q.1) n.2 ∙ p.3)

    -- ---- the objects

    abbrev own : Made
    own = directory (directory_text (entries_in tree))

    abbrev snapshot_body : List ℕ
    snapshot_body = snapshot_text (head dir_id ∷ [])

    abbrev snapshot_object : Entry
    snapshot_object = record { name = record { kind = Snapshot; id = id Snapshot snapshot_body }; body = snapshot_body; kids = directory_name dir_id ∷ [] }

    snapshot_is : IsSnapshot snapshot_body (head dir_id ∷ [])
    snapshot_is = record { text = refl; good = head_good dir_id twenty }

    files_length_is : files_length bodies R ≤ FILES_LIMIT
    files_length_is = not_more (files_length bodies R) FILES_LIMIT (λ over. carried.none (directory_name dir_id) (first_there children_of (directory_name dir_id) order is) Length (refl, record { rows = R; walk = walk; long = inl over }))

    listing_is : length (listing_text R) ≤ LISTING_LIMIT
    listing_is = not_more (length (listing_text R)) LISTING_LIMIT (λ over. carried.none (directory_name dir_id) (first_there children_of (directory_name dir_id) order is) Length (refl, record { rows = R; walk = walk; long = inr (inl over) }))

    said : IsListing (listing_text R) (all_listed R)
    said = reread (all_listed R) (lines_good bodies children_of graph dir_id order is carried of_bytes R (λ row there. good_row bodies children_of graph dir_id order is carried of_bytes R walk row there)) listing_is

    module _ (holds : HoldsMade out (things bodies tree good top.is.good held out) fs) where
      file_node : (n : Node) → Contains N n → (n.entry.mode == 40000) ≡ false → (n.entry.mode == 160000) ≡ false → IsFileNode id bodies are fs n
      file_node n there folder project =
          let fine = fine_row bodies children_of graph dir_id order is carried R walk (row_of n) (contains_map row_of N n there) in
          let body = fine.file (eqb-false n.entry.mode 40000 folder) (eqb-false n.entry.mode 160000 project) in
          record {
            body = body.0;
            held = body.1;
            there = holds.files n.path (bytes_or_none (body_of bodies (content_name n.entry.id))) (file_there bodies tree good top.is.good held out n there folder project) ∙ ap (λ (o : Option (List ℕ)). Some (bytes_or_none o)) body.1;
          }

      plain : (n : Node) → Contains N n → IsDots n.entry.name → ⊥
      plain n there = (row_known n there).dots

      items_at : (dir : List ℕ) (es : List DirectoryEntry) → IsAt dir es → HasItems fs dir (map (item_in dir) (shown es))
      items_at dir es is_dir = lists_items bodies tree good top.is.good held out dir es is_dir fs holds plain

      walked : IsWalk fs (root ∷ items_of N)
      walked =
          whole_walk fs bodies tree held (λ n there folder. items_at n.path (entries_in n.inner) (inr (n, there, folder, refl, refl))) (items_at [] (entries_in tree) (inl (refl, refl)))
          (all_fit N (λ n there. (row_known n there).short))

      reading : (contents : List Entry) × IsReading id bodies are fs N 0 [] contents
      reading = all_read id bodies are fs N file_node 0 [] tt (let few = files_length_is in omega (arith, few))

      abbrev contents : List Entry
      contents = reading.0

      given : AreGiven id bodies are N (made contents)
      given n there folder project =
          let f = file_node n there folder project in
          (f.body, f.held, subst (λ (b : List ℕ). Contains (made contents) (content b)) (ap bytes_or_none f.held) (reading.1.has n there folder project))

      folders : (new : List Entry) × GivesFolders id bodies are N contents new
      folders = give_folders id bodies are tree [] good held contents reading.1.fresh given

      directories : (new : List Entry) × GivesMore id folders.0 own new
      directories =
          give_directory id folders.0 (entries_in tree) folders.1.fresh top.is.good (text_short id bodies are (directory_name dir_id) (entries_in tree) top)
          (leads_into id bodies are tree [] held (made folders.0) (λ n there f p. let g = given n there f p in (g.0, g.1, (folders.1.each (content g.0)).1 (inl g.2))) (λ m h. (folders.1.each m).1 (inr h)))

      root_there : Contains (names_of_made id (made directories.0)) (directory_name dir_id)
      root_there =
          subst (λ (i : List ℕ). Contains (names_of_made id (made directories.0)) (directory_name i)) (text_id id bodies are dir_id (entries_in tree) top)
          (contains_map (name_of id) (made directories.0) own ((directories.1.each own).1 (inr refl)))

      objects : (new : List Entry) × GivesMore id directories.0 (object_of Snapshot snapshot_body) new
      objects =
          give id directories.0 snapshot_object directories.1.fresh
          (record { kids = record { branches = head dir_id ∷ []; is = snapshot_is; kids = refl }; named = refl; short = head_short dir_id twenty }) (root_there, tt)

      dir_of : (m : Made) → IsDirectoryOf id final (entries id bodies are tree good top.is.good held) m → (own ≡ m) ⊎ IsFolderIn id bodies are N m
      dir_of m d =
          elim (folder_dir id bodies are tree good top.is.good held d.dir d.folder) [
            | inl t ↦ inl (sym (d.is ∙ ap (λ (es : List DirectoryEntry). directory (directory_text es)) t.1))
            | inr n ↦ inr (n.0, n.1, n.2, sym (d.is ∙ ap (λ (es : List DirectoryEntry). directory (directory_text es)) n.4))
          ]

      of_dir : (dir : List ℕ) (es : List DirectoryEntry) → IsAt dir es → final dir ≡ Some stands.Folder → (m : Made) → directory (directory_text es) ≡ m → IsDirectoryOf id final (entries id bodies are tree good top.is.good held) m
      of_dir dir es is_dir folder m same = record {
        dir = dir;
        folder = folder;
        is = sym same ∙ ap (λ (l : List DirectoryEntry). directory (directory_text l)) (sym (dir_is id bodies are tree good top.is.good held dir es is_dir));
      }

      each_object : (m : Made) → Contains (made objects.0) m ↔ (Contains (made contents) m ⊎ (IsDirectoryOf id final (entries id bodies are tree good top.is.good held) m ⊎ (m ≡ object_of Snapshot snapshot_body)))
      each_object m = (
        λ there.
            elim ((objects.1.each m).0 there) [
              | inr same ↦ inr (inr (sym same))
              | inl in_dirs ↦
                  elim ((directories.1.each m).0 in_dirs) [
                    | inr same ↦ inr (inl (of_dir [] (entries_in tree) (inl (refl, refl)) refl m same))
                    | inl in_folders ↦
                        elim ((folders.1.each m).0 in_folders) [
                          | inl in_contents ↦ inl in_contents
                          | inr f ↦
                              inr (inl (of_dir f.0.path (entries_in f.0.inner) (inr (f.0, f.1, f.2, refl, refl)) (final_here f.0 f.1 ∙ ap (λ (p : Member). Some p) (folder_final f.0.entry f.2)) m f.3))
                        ]
                  ]
            ],
        λ h.
            elim h [
              | inl in_contents ↦ (objects.1.each m).1 (inl ((directories.1.each m).1 (inl ((folders.1.each m).1 (inl in_contents)))))
              | inr other ↦
                  elim other [
                    | inr same ↦ (objects.1.each m).1 (inr (sym same))
                    | inl d ↦
                        elim (dir_of m d) [
                          | inl same ↦ (objects.1.each m).1 (inl ((directories.1.each m).1 (inr same)))
                          | inr f ↦ (objects.1.each m).1 (inl ((directories.1.each m).1 (inl ((folders.1.each m).1 (inr f)))))
                        ]
                  ]
            ],
      )

      root_id : directory_id id (entries id bodies are tree good top.is.good held []) ≡ dir_id
      root_id = text_id id bodies are dir_id (entries_in tree) top

      means : MeansFolder id fs (listing_text R) objects.0 (id Snapshot snapshot_body)
      means = record {
        items = root ∷ items_of N;
        places = final;
        contents = contents;
        reads = record {
          before = before;
          folder = record {
            reads = record {
              found = stands.Folder ∷ founds_of N;
              total = 0 + files_length bodies R;
              walk = walked;
              reads = (0, [], (refl, refl, refl), omega arith, reading.1.reads);
              are = λ path. refl;
            };
            short = all_short found_of before before_here before_only found_digits;
          };
          said = all_listed R;
          listing = said;
          takes = lines_taken N up placed [] N refl before before_is;
        };
        short = all_short (λ e. Some (final_of e)) final final_here final_only final_digits;
        entries = entries id bodies are tree good top.is.good held;
        directories = are_directories id bodies are tree good top.is.good held;
        body = snapshot_body;
        is_snapshot = subst (λ (i : List ℕ). IsSnapshot snapshot_body (head i ∷ [])) (sym root_id) snapshot_is;
        named = refl;
        each = each_object;
        once = objects.1.fresh;
      }

      pub back : LoadsBack id fs (listing_text R) (directory_name dir_id)
      back = record { objects = objects.0; body = snapshot_body; is_snapshot = snapshot_is; means = means }
