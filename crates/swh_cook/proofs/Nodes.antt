-- All that stands under a directory, with the paths of folders: each path once, each in its folder.
use Rattle.std.proofs.Common.{◌≡◌, ◌⊎◌, inl, inr, ℕ, List, [], ◌∷◌, ◌++◌, map, Contains, refl, sym, ap, ◌∙◌, subst}
use Rattle.std.proofs.lemmas.List.{append_assoc, append_cancel_left}
use Rattle.std.proofs.lemmas.List.Elements.{Contains-append_cases}
use Rattle.swh_base.specs.Directory.{DirectoryEntry, IsEntryName, AreEntries}
use Rattle.swh_dedup.proofs.Elements.{first_or_later, first_is, later_is, none_is, each_is, all_from}
use Rattle.swh_pathwalk.specs.Tree.{Tree, End, Leaf, Folder, entries_in, Row, path_walk}
use Rattle.swh_dirmade.specs.Paths.{child}
use Rattle.swh_dirmade.proofs.Paths.{Plain, not_plain, child_some, child_below}
use Rattle.swh_dirload.proofs.Ascending.{IsUp}

-- an entry at its path, and what stands under it
pub record Node : Type 0 where
  pub path : List ℕ
  pub entry : DirectoryEntry
  pub inner : Tree

abbrev pub node_at : List ℕ → DirectoryEntry → Tree → Node
node_at dir e inner = record { path = child dir e.name; entry = e; inner = inner }

abbrev pub nodes : List ℕ → Tree → List Node
nodes dir End = []
nodes dir (Leaf e rest) = node_at dir e End ∷ nodes dir rest
nodes dir (Folder e inner rest) = node_at dir e inner ∷ (nodes (child dir e.name) inner ++ nodes dir rest)

abbrev pub row_of : Node → Row
row_of n = record { path = n.path; entry = n.entry }

-- The names are good, and each directory's entries are entries.
abbrev pub IsGood : Tree → Type 0
IsGood End = Unit {0}
IsGood (Leaf e rest) = IsEntryName e.name × IsGood rest
IsGood (Folder e inner rest) = IsEntryName e.name × AreEntries (entries_in inner) × IsGood inner × IsGood rest

-- ---- paths

abbrev front_of : List ℕ → List ℕ
front_of [] = []
front_of (c ∷ dir) = (c ∷ dir) ++ 47 ∷ []

child_front : (dir name : List ℕ) → child dir name ≡ front_of dir ++ name
child_front [] name = refl
child_front (c ∷ dir) name = sym (append_assoc (c ∷ dir) (47 ∷ []) name)

front_child : (path : List ℕ) → (path ≡ [] → ⊥) → front_of path ≡ path ++ 47 ∷ []
front_child [] some = absurd (some refl)
front_child (c ∷ path) some = refl

child_same : (dir m n : List ℕ) → child dir m ≡ child dir n → m ≡ n
child_same dir m n e = append_cancel_left (front_of dir) m n (sym (child_front dir m) ∙ e ∙ child_front dir n)

pub child_of_child : (dir name below : List ℕ) → (name ≡ [] → ⊥) → child (child dir name) below ≡ child dir name ++ 47 ∷ below
child_of_child dir name below some = child_below (child dir name) below (child_some dir name some)

-- The path is that of the entry in the folder, or below it.
abbrev IsAtOrBelow : List ℕ → List ℕ → List ℕ → Type 0
IsAtOrBelow dir name path = (path ≡ child dir name) ⊎ ((rest : List ℕ) × (path ≡ child dir name ++ 47 ∷ rest))

-- what is behind the folder's own path
behind_front : (dir name rest : List ℕ) → child dir name ++ rest ≡ front_of dir ++ (name ++ rest)
behind_front dir name rest = ap (λ (l : List ℕ). l ++ rest) (child_front dir name) ∙ append_assoc (front_of dir) name rest

first_cut : (a b s t : List ℕ) → Plain a → Plain b → a ++ 47 ∷ s ≡ b ++ 47 ∷ t → a ≡ b
first_cut [] [] s t pa pb e = refl
first_cut [] (c ∷ b) s t pa pb e = absurd (not_plain (c ∷ b) [] b (let f : 47 ≡ c = cc in ap (λ (x : ℕ). x ∷ b) (sym f)) pb)
first_cut (c ∷ a) [] s t pa pb e = absurd (not_plain (c ∷ a) [] a (let f : c ≡ 47 = cc in ap (λ (x : ℕ). x ∷ a) f) pa)
first_cut (c ∷ a) (d ∷ b) s t pa pb e =
    let rest = first_cut a b s t (λ h. pa (later_is c a 47 h)) (λ h. pb (later_is d b 47 h)) (let f : a ++ 47 ∷ s ≡ b ++ 47 ∷ t = cc in f) in
    let first : c ≡ d = cc in
    cc

-- two entries that the path is at or below have one name
apart : (dir m n path : List ℕ) → Plain m → Plain n → IsAtOrBelow dir m path → IsAtOrBelow dir n path → m ≡ n
apart dir m n path pm pn (inl a) (inl b) = child_same dir m n (sym a ∙ b)
apart dir m n path pm pn (inl a) (inr (t, b)) =
    absurd (not_plain m n t (append_cancel_left (front_of dir) m (n ++ 47 ∷ t) (sym (child_front dir m) ∙ sym a ∙ b ∙ behind_front dir n (47 ∷ t))) pm)
apart dir m n path pm pn (inr (s, a)) (inl b) =
    absurd (not_plain n m s (append_cancel_left (front_of dir) n (m ++ 47 ∷ s) (sym (child_front dir n) ∙ sym b ∙ a ∙ behind_front dir m (47 ∷ s))) pn)
apart dir m n path pm pn (inr (s, a)) (inr (t, b)) =
    first_cut m n s t pm pn (append_cancel_left (front_of dir) (m ++ 47 ∷ s) (n ++ 47 ∷ t) (sym (behind_front dir m (47 ∷ s)) ∙ sym a ∙ b ∙ behind_front dir n (47 ∷ t)))

-- ---- what is among the nodes

-- each is at or below an entry of the directory
below : (tree : Tree) (dir : List ℕ) → IsGood tree → (n : Node) → Contains (nodes dir tree) n → (e : DirectoryEntry) × Contains (entries_in tree) e × IsAtOrBelow dir e.name n.path
below End dir good n there = absurd (none_is n there)
below (Leaf e rest) dir (named, good) n there =
    elim (first_or_later (node_at dir e End) (nodes dir rest) n there) [
      | inl same ↦ (e, first_is e (entries_in rest), inl (sym (ap (λ (m : Node). m.path) same)))
      | inr later ↦ let b = below rest dir good n later in (b.0, later_is e (entries_in rest) b.0 b.1, b.2)
    ]
below (Folder e inner rest) dir (named, entries, within, good) n there =
    elim (first_or_later (node_at dir e inner) (nodes (child dir e.name) inner ++ nodes dir rest) n there) [
      | inl same ↦ (e, first_is e (entries_in rest), inl (sym (ap (λ (m : Node). m.path) same)))
      | inr later ↦
          elim (Contains-append_cases (nodes (child dir e.name) inner) (nodes dir rest) n later) [
            | inl inside ↦
                let b = below inner (child dir e.name) within n inside in (
                  e,
                  first_is e (entries_in rest),
                  elim b.2 [
                    | inl at ↦ inr (b.0.name, at ∙ child_of_child dir e.name b.0.name named.not_empty)
                    | inr (s, deep) ↦ inr (b.0.name ++ 47 ∷ s, deep ∙ ap (λ (l : List ℕ). l ++ 47 ∷ s) (child_of_child dir e.name b.0.name named.not_empty) ∙ append_assoc (child dir e.name) (47 ∷ b.0.name) (47 ∷ s))
                  ],
                )
            | inr after ↦ let b = below rest dir good n after in (b.0, later_is e (entries_in rest) b.0 b.1, b.2)
          ]
    ]

names_good : (tree : Tree) → IsGood tree → (e : DirectoryEntry) → Contains (entries_in tree) e → IsEntryName e.name
names_good End good e there = absurd (none_is e there)
names_good (Leaf d rest) (named, good) e there =
    elim (first_or_later d (entries_in rest) e there) [ inl same ↦ subst (λ (x : DirectoryEntry). IsEntryName x.name) same named | inr later ↦ names_good rest good e later ]
names_good (Folder d inner rest) (named, entries, within, good) e there =
    elim (first_or_later d (entries_in rest) e there) [ inl same ↦ subst (λ (x : DirectoryEntry). IsEntryName x.name) same named | inr later ↦ names_good rest good e later ]

-- Two nodes have different paths.
abbrev pub AreApart : Node → Node → Type 0
AreApart a b = a.path ≡ b.path → ⊥

up_append : {X : Type 0} (R : X → X → Type 0) (xs ys : List X) → IsUp R xs → IsUp R ys → ((x y : X) → Contains xs x → Contains ys y → R x y) → IsUp R (xs ++ ys)
up_append R [] ys up vp cross = vp
up_append R (x ∷ xs) ys (first, up) vp cross = (
  all_from (R x) (xs ++ ys)
      (λ y there. elim (Contains-append_cases xs ys y there) [ inl a ↦ each_is (R x) xs y first a | inr b ↦ cross x y (first_is x xs) b ]),
  up_append R xs ys up vp (λ a b in_xs in_ys. cross a b (later_is x xs a in_xs) in_ys),
)

-- the names of a directory's entries differ
fresh_names : (e : DirectoryEntry) (es : List DirectoryEntry) → AreEntries (e ∷ es) → (d : DirectoryEntry) → Contains es d → e.name ≡ d.name → ⊥
fresh_names e es good d there = each_is (λ (other : DirectoryEntry). e.name ≡ other.name → ⊥) es d good.1 there

path_apart : (dir : List ℕ) (e : DirectoryEntry) (tree : Tree) → IsGood tree → IsEntryName e.name → ((d : DirectoryEntry) → Contains (entries_in tree) d → e.name ≡ d.name → ⊥) → (path : List ℕ) → IsAtOrBelow dir e.name path
    → (n : Node) → Contains (nodes dir tree) n → path ≡ n.path → ⊥
path_apart dir e tree good named fresh path at n there same =
    let b = below tree dir good n there in
    fresh b.0 b.1 (apart dir e.name b.0.name n.path named.no_slash (names_good tree good b.0 b.1).no_slash (subst (IsAtOrBelow dir e.name) same at) b.2)

longer : (path name : List ℕ) → path ≡ path ++ 47 ∷ name → ⊥
longer [] name e = absurd cc
longer (c ∷ path) name e = longer path name (let f : path ≡ path ++ 47 ∷ name = cc in f)

own_path : (path name below_it : List ℕ) → (path ≡ [] → ⊥) → IsAtOrBelow path name below_it → path ≡ below_it → ⊥
own_path path name below_it some (inl at) same = longer path name (same ∙ at ∙ child_below path name some)
own_path path name below_it some (inr (s, at)) same = longer path (name ++ 47 ∷ s) (same ∙ at ∙ ap (λ (l : List ℕ). l ++ 47 ∷ s) (child_below path name some) ∙ append_assoc path (47 ∷ name) (47 ∷ s))

deeper : (at name below_name path : List ℕ) → (name ≡ [] → ⊥) → IsAtOrBelow (child at name) below_name path → IsAtOrBelow at name path
deeper at name below_name path some (inl is) = inr (below_name, is ∙ child_of_child at name below_name some)
deeper at name below_name path some (inr (s, is)) =
    inr (below_name ++ 47 ∷ s, is ∙ ap (λ (l : List ℕ). l ++ 47 ∷ s) (child_of_child at name below_name some) ∙ append_assoc (child at name) (47 ∷ below_name) (47 ∷ s))

-- no path stands twice
pub nodes_apart : (tree : Tree) (dir : List ℕ) → IsGood tree → AreEntries (entries_in tree) → IsUp AreApart (nodes dir tree)
nodes_apart End dir good entries = tt
nodes_apart (Leaf e rest) dir (named, good) entries = (
  all_from (AreApart (node_at dir e End)) (nodes dir rest)
      (λ n there. path_apart dir e rest good named (fresh_names e (entries_in rest) entries) (child dir e.name) (inl refl) n there),
  nodes_apart rest dir good entries.3,
)
nodes_apart (Folder e inner rest) dir (named, within_entries, within, good) entries = (
  all_from (AreApart (node_at dir e inner)) (nodes (child dir e.name) inner ++ nodes dir rest)
      (λ n there same. elim (Contains-append_cases (nodes (child dir e.name) inner) (nodes dir rest) n there) [
        | inl inside ↦
            let b = below inner (child dir e.name) within n inside in
            own_path (child dir e.name) b.0.name n.path (child_some dir e.name named.not_empty) b.2 same
        | inr after ↦ path_apart dir e rest good named (fresh_names e (entries_in rest) entries) (child dir e.name) (inl refl) n after same
      ]),
  up_append AreApart (nodes (child dir e.name) inner) (nodes dir rest) (nodes_apart inner (child dir e.name) within within_entries) (nodes_apart rest dir good entries.3)
      (λ m n inside after same.
      let b = below inner (child dir e.name) within m inside in
      path_apart dir e rest good named (fresh_names e (entries_in rest) entries) m.path (deeper dir e.name b.0.name m.path named.not_empty b.2) n after same),
)

-- ---- the rows of the walk

row_is : (dir : List ℕ) (e : DirectoryEntry) → (let r : Row = record { path = front_of dir ++ e.name; entry = e } in r) ≡ (let r : Row = record { path = child dir e.name; entry = e } in r)
row_is dir e = ap (λ (p : List ℕ). let r : Row = record { path = p; entry = e } in r) (sym (child_front dir e.name))

map_append : {X Z : Type 0} (f : X → Z) (xs ys : List X) → map f (xs ++ ys) ≡ map f xs ++ map f ys
map_append f [] ys = refl
map_append {X} {Z} f (x ∷ xs) ys = ap (λ (l : List Z). f x ∷ l) (map_append f xs ys)

pub rows_are : (tree : Tree) (dir : List ℕ) → IsGood tree → path_walk (front_of dir) tree ≡ map row_of (nodes dir tree)
rows_are End dir good = refl
rows_are (Leaf e rest) dir (named, good) =
    let first = row_is dir e in
    let others = rows_are rest dir good in
    cc
rows_are (Folder e inner rest) dir (named, entries, within, good) =
    let first = row_is dir e in
    let front : (front_of dir ++ e.name) ++ 47 ∷ [] ≡ front_of (child dir e.name) = ap (λ (p : List ℕ). p ++ 47 ∷ []) (sym (child_front dir e.name)) ∙ sym (front_child (child dir e.name) (child_some dir e.name named.not_empty)) in
    let inside : path_walk ((front_of dir ++ e.name) ++ 47 ∷ []) inner ≡ map row_of (nodes (child dir e.name) inner) = ap (λ (p : List ℕ). path_walk p inner) front ∙ rows_are inner (child dir e.name) within in
    let others = rows_are rest dir good in
    let both = map_append row_of (nodes (child dir e.name) inner) (nodes dir rest) in
    cc

pub walk_rows : (tree : Tree) → IsGood tree → path_walk [] tree ≡ map row_of (nodes [] tree)
walk_rows tree good = rows_are tree [] good
