-- The rows of a directory, entry by entry.
use Rattle.std.proofs.Common.{◌≡◌, inl, inr, ℕ, List, [], ◌∷◌, ◌++◌, map, refl, sym, ap, ◌∙◌, subst, append_assoc}
use Rattle.std.proofs.lemmas.List.{append-nil}
use Rattle.swh_base.specs.Directory.{DirectoryEntry}
use Rattle.swh_base.specs.declared.name.Name.{Name}
use Rattle.swh_model.specs.Archive.{Bodies}
use Rattle.swh_graph.specs.Holding.{HoldsDirectory}
use Rattle.swh_graph.specs.Path.{directory_name}
use Rattle.swh_pathwalk.specs.Tree.{Tree, End, Leaf, Folder, entries_in, AreHeldUnder, IsTreeOf, Row, row_at, path_walk, IsPathWalk}
use Rattle.swh_pathwalk.proofs.Trees.{same_listing}
use Rattle.swh_pathwalk.proofs.Steps.{head_entry, tail_entries}
use Rattle.swh_pathsums.specs.Tallies.{row_behind, AreEntryRows, AreRowsOver}

-- ---- rows behind what leads to their directory

cut_at : (front rel name : List ℕ) → (front ++ (rel ++ name)) ++ 47 ∷ [] ≡ front ++ ((rel ++ name) ++ 47 ∷ [])
cut_at front rel name = append_assoc front (rel ++ name) (47 ∷ [])

behind_both : (front : List ℕ) (xs ys : List Row) → map (row_behind front) (xs ++ ys) ≡ map (row_behind front) xs ++ map (row_behind front) ys
behind_both front [] ys = refl
behind_both front (x ∷ xs) ys = ap (λ (l : List Row). row_behind front x ∷ l) (behind_both front xs ys)

row_is : (front rel : List ℕ) (e : DirectoryEntry) → row_at (front ++ rel) e ≡ row_behind front (row_at rel e)
row_is front rel e = ap (λ (p : List ℕ). record { path = p; entry = e }) (append_assoc front rel e.name)

walk_behind : (front rel : List ℕ) (tree : Tree) → path_walk (front ++ rel) tree ≡ map (row_behind front) (path_walk rel tree)
walk_behind front rel End = refl
walk_behind front rel (Leaf e rest) = ap (λ (r : Row). r ∷ path_walk (front ++ rel) rest) (row_is front rel e) ∙ ap (λ (l : List Row). row_behind front (row_at rel e) ∷ l) (walk_behind front rel rest)
walk_behind front rel (Folder e inner rest) =
    let at = ap (λ (p : List ℕ). p ++ 47 ∷ []) (append_assoc front rel e.name) ∙ cut_at front rel e.name in
    let inside = ap (λ (p : List ℕ). path_walk p inner) at ∙ walk_behind front ((rel ++ e.name) ++ 47 ∷ []) inner in
    ap (λ (r : Row). r ∷ (path_walk (((front ++ rel) ++ e.name) ++ 47 ∷ []) inner ++ path_walk (front ++ rel) rest)) (row_is front rel e)
    ∙ ap (λ (l : List Row). row_behind front (row_at rel e) ∷ (l ++ path_walk (front ++ rel) rest)) inside
    ∙ ap (λ (l : List Row). row_behind front (row_at rel e) ∷ (map (row_behind front) (path_walk ((rel ++ e.name) ++ 47 ∷ []) inner) ++ l)) (walk_behind front rel rest)
    ∙ ap (λ (l : List Row). row_behind front (row_at rel e) ∷ l) (sym (behind_both front (path_walk ((rel ++ e.name) ++ 47 ∷ []) inner) (path_walk rel rest)))

-- the walk behind a name, from that of the directory itself
walk_at : (front : List ℕ) (tree : Tree) → path_walk front tree ≡ map (row_behind front) (path_walk [] tree)
walk_at front tree = ap (λ (p : List ℕ). path_walk p tree) (sym (append-nil front)) ∙ walk_behind front [] tree

-- ---- one entry more

no_entries : (e : DirectoryEntry) (es : List DirectoryEntry) → [] ≡ es ++ e ∷ [] → ⊥
no_entries e [] is = cc
no_entries e (d ∷ es) is = cc

module _ (bodies : Bodies) where
  -- a tree cut before its last entry
  pub record CutLast (es : List DirectoryEntry) (e : DirectoryEntry) (tree : Tree) : Type 0 where
    pub front : List Row
    pub last : List Row
    pub before : AreRowsOver bodies es front
    pub of_last : AreEntryRows bodies e last
    pub is : path_walk [] tree ≡ front ++ last

  none_over : (tree : Tree) → entries_in tree ≡ [] → path_walk [] tree ≡ []
  none_over End is = refl
  none_over (Leaf e rest) is = absurd (let never : e ∷ entries_in rest ≡ [] = is in cc)
  none_over (Folder e inner rest) is = absurd (let never : e ∷ entries_in rest ≡ [] = is in cc)

  rows_of_folder : (e : DirectoryEntry) (inner rest : Tree) → path_walk [] (Folder e inner rest) ≡ (row_at [] e ∷ map (row_behind (e.name ++ 47 ∷ [])) (path_walk [] inner)) ++ path_walk [] rest
  rows_of_folder e inner rest = ap (λ (l : List Row). row_at [] e ∷ (l ++ path_walk [] rest)) (walk_at (e.name ++ 47 ∷ []) inner)

  walk_inside : (e : DirectoryEntry) (inner : Tree) → HoldsDirectory bodies (directory_name e.id) (entries_in inner) → AreHeldUnder bodies inner → IsPathWalk bodies (directory_name e.id) (path_walk [] inner)
  walk_inside e inner its under = record { tree = inner; is = record { top = its; under = under }; rows_are = refl }

  pub cut_last : (es : List DirectoryEntry) (e : DirectoryEntry) (tree : Tree) → entries_in tree ≡ es ++ e ∷ [] → AreHeldUnder bodies tree → CutLast es e tree
  cut_last es e End is under = absurd (no_entries e es is)
  cut_last [] e (Leaf d rest) is (leaf, under) =
      let same = head_entry d e (entries_in rest) [] is in
      record {
        front = [];
        last = row_at [] e ∷ [];
        before = (End, refl, tt, refl);
        of_last = inl (λ folder. leaf (ap (λ (x : DirectoryEntry). x.mode) same ∙ folder), refl);
        is = ap (λ (l : List Row). row_at [] d ∷ l) (none_over rest (tail_entries d e (entries_in rest) [] is)) ∙ ap (λ (x : DirectoryEntry). row_at [] x ∷ []) same;
      }
  cut_last [] e (Folder d inner rest) is (folder, its, within, under) =
      let same = head_entry d e (entries_in rest) [] is in
      let mapped = λ (x : DirectoryEntry). row_at [] x ∷ map (row_behind (x.name ++ 47 ∷ [])) (path_walk [] inner) in
      record {
        front = [];
        last = row_at [] e ∷ map (row_behind (e.name ++ 47 ∷ [])) (path_walk [] inner);
        before = (End, refl, tt, refl);
        of_last =
            inr (
              path_walk [] inner,
              sym (ap (λ (x : DirectoryEntry). x.mode) same) ∙ folder,
              subst (λ (x : DirectoryEntry). IsPathWalk bodies (directory_name x.id) (path_walk [] inner)) same (walk_inside d inner its within),
              refl,
            );
        is =
            rows_of_folder d inner rest
            ∙ ap (λ (l : List Row). (row_at [] d ∷ map (row_behind (d.name ++ 47 ∷ [])) (path_walk [] inner)) ++ l) (none_over rest (tail_entries d e (entries_in rest) [] is))
            ∙ append-nil (row_at [] d ∷ map (row_behind (d.name ++ 47 ∷ [])) (path_walk [] inner)) ∙ ap (λ (x : DirectoryEntry). row_at [] x ∷ map (row_behind (x.name ++ 47 ∷ [])) (path_walk [] inner)) same;
      }
  cut_last (f ∷ es) e (Leaf d rest) is (leaf, under) =
      let same = head_entry d f (entries_in rest) (es ++ e ∷ []) is in
      let more = cut_last es e rest (tail_entries d f (entries_in rest) (es ++ e ∷ []) is) under in
      let over = more.before in
      record {
        front = row_at [] d ∷ more.front;
        last = more.last;
        before = (Leaf d over.0, ap (λ (l : List DirectoryEntry). d ∷ l) over.1 ∙ ap (λ (x : DirectoryEntry). x ∷ es) same, (leaf, over.2), ap (λ (l : List Row). row_at [] d ∷ l) over.3);
        of_last = more.of_last;
        is = ap (λ (l : List Row). row_at [] d ∷ l) more.is;
      }
  cut_last (f ∷ es) e (Folder d inner rest) is (folder, its, within, under) =
      let same = head_entry d f (entries_in rest) (es ++ e ∷ []) is in
      let more = cut_last es e rest (tail_entries d f (entries_in rest) (es ++ e ∷ []) is) under in
      let over = more.before in
      let inside = path_walk (d.name ++ 47 ∷ []) inner in
      record {
        front = row_at [] d ∷ (inside ++ more.front);
        last = more.last;
        before = (
          Folder d inner over.0,
          ap (λ (l : List DirectoryEntry). d ∷ l) over.1 ∙ ap (λ (x : DirectoryEntry). x ∷ es) same,
          (folder, its, within, over.2),
          ap (λ (l : List Row). row_at [] d ∷ (inside ++ l)) over.3,
        );
        of_last = more.of_last;
        is = ap (λ (l : List Row). row_at [] d ∷ (inside ++ l)) more.is ∙ ap (λ (l : List Row). row_at [] d ∷ l) (sym (append_assoc inside more.front more.last));
      }

  -- the rows of entries, and of one more
  pub rows_more : (es : List DirectoryEntry) (e : DirectoryEntry) (rows : List Row) → AreRowsOver bodies (es ++ e ∷ []) rows → (front : List Row) × (last : List Row) × AreRowsOver bodies es front × AreEntryRows bodies e last × (rows ≡ front ++ last)
  rows_more es e rows (tree, are, under, is) =
      let c = cut_last es e tree are under in
      (c.front, c.last, c.before, c.of_last, is ∙ c.is)

  pub rows_none : (rows : List Row) → AreRowsOver bodies [] rows → rows ≡ []
  rows_none rows (tree, are, under, is) = is ∙ none_over tree are

  -- the rows of a directory are those over its entries
  pub rows_over : (name : Name) (entries : List DirectoryEntry) (rows : List Row) → HoldsDirectory bodies name entries → IsPathWalk bodies name rows → AreRowsOver bodies entries rows
  rows_over name entries rows holds walk = (walk.tree, same_listing bodies name (entries_in walk.tree) entries walk.is.top holds, walk.is.under, walk.rows_are)
