-- Each node stands in a folder, and each folder's entries are nodes.
use Rattle.std.proofs.Common.{◌≡◌, ◌⊎◌, inl, inr, ℕ, List, [], ◌∷◌, ◌++◌, Contains, refl, sym, ap, ◌∙◌, subst}
use Rattle.std.proofs.lemmas.List.Elements.{Contains-append_left, Contains-append_right, Contains-append_cases}
use Rattle.swh_base.specs.Directory.{DirectoryEntry, IsEntryName, IsEntry, AreEntries}
use Rattle.swh_dedup.proofs.Elements.{first_or_later, first_is, later_is, none_is, each_is}
use Rattle.swh_model.specs.Archive.{Bodies}
use Rattle.swh_graph.specs.Holding.{HoldsDirectory}
use Rattle.swh_graph.specs.Path.{directory_name}
use Rattle.swh_pathwalk.specs.Tree.{Tree, End, Leaf, Folder, entries_in, AreHeldUnder}
use Rattle.swh_dirmade.specs.Paths.{child}
use Rattle.swh_dirmade.proofs.Paths.{child_injective, child_some}
use Rattle.swh_dirload.proofs.Ascending.{IsUp}
use Rattle.swh_cook.proofs.Nodes.{Node, node_at, nodes, IsGood, AreApart, nodes_apart}

-- of two that are apart from each other, only the same have one path
pub one_node : (ns : List Node) → IsUp AreApart ns → (a b : Node) → Contains ns a → Contains ns b → a.path ≡ b.path → a ≡ b
one_node [] up a b in_a in_b same = absurd (none_is a in_a)
one_node (n ∷ ns) (first, up) a b in_a in_b same =
    elim (first_or_later n ns a in_a) [
      | inl is ↦
          elim (first_or_later n ns b in_b) [
            | inl also ↦ sym is ∙ also
            | inr later ↦ absurd (each_is (AreApart n) ns b first later (ap (λ (m : Node). m.path) is ∙ same))
          ]
      | inr there ↦
          elim (first_or_later n ns b in_b) [
            | inl also ↦ absurd (each_is (AreApart n) ns a first there (ap (λ (m : Node). m.path) also ∙ sym same))
            | inr later ↦ one_node ns up a b there later same
          ]
    ]

each_entry : (es : List DirectoryEntry) → AreEntries es → (e : DirectoryEntry) → Contains es e → IsEntry e
each_entry [] good e there = absurd (none_is e there)
each_entry (d ∷ es) good e there = elim (first_or_later d es e there) [ inl same ↦ subst IsEntry same good.0 | inr later ↦ each_entry es good.3 e later ]

-- What is known of a folder among the nodes.
pub record IsHeldFolder (bodies : Bodies) (n : Node) : Type 0 where
  pub holds : HoldsDirectory bodies (directory_name n.entry.id) (entries_in n.inner)
  pub entries : AreEntries (entries_in n.inner)

module _ (bodies : Bodies) where
  pub held_node : (tree : Tree) (dir : List ℕ) → IsGood tree → AreHeldUnder bodies tree → (n : Node) → Contains (nodes dir tree) n → n.entry.mode ≡ 40000 → IsHeldFolder bodies n
  held_node End dir good held n there folder = absurd (none_is n there)
  held_node (Leaf e rest) dir (named, good) (leaf, held) n there folder =
      elim (first_or_later (node_at dir e End) (nodes dir rest) n there) [
        | inl same ↦ absurd (leaf (ap (λ (m : Node). m.entry.mode) same ∙ folder))
        | inr later ↦ held_node rest dir good held n later folder
      ]
  held_node (Folder e inner rest) dir (named, entries, within, good) (is, holds, inside, held) n there folder =
      elim (first_or_later (node_at dir e inner) (nodes (child dir e.name) inner ++ nodes dir rest) n there) [
        | inl same ↦ subst (IsHeldFolder bodies) same (record { holds = holds; entries = entries })
        | inr later ↦
            elim (Contains-append_cases (nodes (child dir e.name) inner) (nodes dir rest) n later) [
              | inl in_it ↦ held_node inner (child dir e.name) within inside n in_it folder
              | inr after ↦ held_node rest dir good held n after folder
            ]
      ]

  -- The node is an entry of the directory, or of a folder among the nodes.
  abbrev StandsUnder : List ℕ → Tree → Node → Type 0
  StandsUnder dir tree n =
      ((n.path ≡ child dir n.entry.name) × Contains (entries_in tree) n.entry)
      ⊎ ((m : Node) × Contains (nodes dir tree) m × (m.entry.mode ≡ 40000) × (n.path ≡ child m.path n.entry.name) × Contains (entries_in m.inner) n.entry)

  stands_under : (tree : Tree) (dir : List ℕ) → AreHeldUnder bodies tree → (n : Node) → Contains (nodes dir tree) n → StandsUnder dir tree n
  stands_under End dir held n there = absurd (none_is n there)
  stands_under (Leaf e rest) dir (leaf, held) n there =
      elim (first_or_later (node_at dir e End) (nodes dir rest) n there) [
        | inl same ↦ inl (subst (λ (m : Node). (m.path ≡ child dir m.entry.name) × Contains (e ∷ entries_in rest) m.entry) same (refl, first_is e (entries_in rest)))
        | inr later ↦
            elim (stands_under rest dir held n later) [
              | inl here ↦ inl (here.0, later_is e (entries_in rest) n.entry here.1)
              | inr m ↦ inr (m.0, later_is (node_at dir e End) (nodes dir rest) m.0 m.1, m.2, m.3, m.4)
            ]
      ]
  stands_under (Folder e inner rest) dir (is, holds, inside, held) n there =
      let first = node_at dir e inner in
      let others = nodes (child dir e.name) inner ++ nodes dir rest in
      elim (first_or_later first others n there) [
        | inl same ↦ inl (subst (λ (m : Node). (m.path ≡ child dir m.entry.name) × Contains (e ∷ entries_in rest) m.entry) same (refl, first_is e (entries_in rest)))
        | inr later ↦
            elim (Contains-append_cases (nodes (child dir e.name) inner) (nodes dir rest) n later) [
              | inl in_it ↦
                  elim (stands_under inner (child dir e.name) inside n in_it) [
                    | inl here ↦ inr (first, first_is first others, is, here.0, here.1)
                    | inr m ↦ inr (m.0, later_is first others m.0 (Contains-append_left (nodes (child dir e.name) inner) (nodes dir rest) m.0 m.1), m.2, m.3, m.4)
                  ]
              | inr after ↦
                  elim (stands_under rest dir held n after) [
                    | inl here ↦ inl (here.0, later_is e (entries_in rest) n.entry here.1)
                    | inr m ↦ inr (m.0, later_is first others m.0 (Contains-append_right (nodes (child dir e.name) inner) (nodes dir rest) m.0 m.1), m.2, m.3, m.4)
                  ]
            ]
      ]

-- each entry of the directory is a node
entry_there : (tree : Tree) (dir : List ℕ) (e : DirectoryEntry) → Contains (entries_in tree) e → (inner : Tree) × Contains (nodes dir tree) (node_at dir e inner)
entry_there End dir e there = absurd (none_is e there)
entry_there (Leaf d rest) dir e there =
    elim (first_or_later d (entries_in rest) e there) [
      | inl same ↦ (End, subst (λ (x : DirectoryEntry). Contains (node_at dir d End ∷ nodes dir rest) (node_at dir x End)) same (first_is (node_at dir d End) (nodes dir rest)))
      | inr later ↦ let h = entry_there rest dir e later in (h.0, later_is (node_at dir d End) (nodes dir rest) (node_at dir e h.0) h.1)
    ]
entry_there (Folder d within rest) dir e there =
    let first = node_at dir d within in
    let others = nodes (child dir d.name) within ++ nodes dir rest in
    elim (first_or_later d (entries_in rest) e there) [
      | inl same ↦ (within, subst (λ (x : DirectoryEntry). Contains (first ∷ others) (node_at dir x within)) same (first_is first others))
      | inr later ↦ let h = entry_there rest dir e later in (h.0, later_is first others (node_at dir e h.0) (Contains-append_right (nodes (child dir d.name) within) (nodes dir rest) (node_at dir e h.0) h.1))
    ]

-- each entry of a folder among the nodes is one
inner_there : (tree : Tree) (dir : List ℕ) (m : Node) → Contains (nodes dir tree) m → (e : DirectoryEntry) → Contains (entries_in m.inner) e → (inner : Tree) × Contains (nodes dir tree) (node_at m.path e inner)
inner_there End dir m there e in_it = absurd (none_is m there)
inner_there (Leaf d rest) dir m there e in_it =
    elim (first_or_later (node_at dir d End) (nodes dir rest) m there) [
      | inl same ↦ absurd (none_is e (subst (λ (x : Node). Contains (entries_in x.inner) e) (sym same) in_it))
      | inr later ↦ let h = inner_there rest dir m later e in_it in (h.0, later_is (node_at dir d End) (nodes dir rest) (node_at m.path e h.0) h.1)
    ]
inner_there (Folder d within rest) dir m there e in_it =
    let first = node_at dir d within in
    let others = nodes (child dir d.name) within ++ nodes dir rest in
    elim (first_or_later first others m there) [
      | inl same ↦
          let h = entry_there within (child dir d.name) e (subst (λ (x : Node). Contains (entries_in x.inner) e) (sym same) in_it) in
          let at : Contains (first ∷ others) (node_at (child dir d.name) e h.0) = later_is first others (node_at (child dir d.name) e h.0) (Contains-append_left (nodes (child dir d.name) within) (nodes dir rest) (node_at (child dir d.name) e h.0) h.1) in
          (h.0, subst (λ (x : Node). Contains (first ∷ others) (node_at x.path e h.0)) same at)
      | inr later ↦
          elim (Contains-append_cases (nodes (child dir d.name) within) (nodes dir rest) m later) [
            | inl inside ↦ let h = inner_there within (child dir d.name) m inside e in_it in (h.0, later_is first others (node_at m.path e h.0) (Contains-append_left (nodes (child dir d.name) within) (nodes dir rest) (node_at m.path e h.0) h.1))
            | inr after ↦ let h = inner_there rest dir m after e in_it in (h.0, later_is first others (node_at m.path e h.0) (Contains-append_right (nodes (child dir d.name) within) (nodes dir rest) (node_at m.path e h.0) h.1))
          ]
    ]

-- ---- directories by their paths

module _ (bodies : Bodies) (tree : Tree) (good : IsGood tree) (entries : AreEntries (entries_in tree)) (held : AreHeldUnder bodies tree) where
  abbrev pub all : List Node
  all = nodes [] tree

  -- The directory at the path has these entries.
  abbrev pub IsDir : List ℕ → List DirectoryEntry → Type 0
  IsDir dir es = ((dir ≡ []) × (es ≡ entries_in tree)) ⊎ ((m : Node) × Contains all m × (m.entry.mode ≡ 40000) × (dir ≡ m.path) × (es ≡ entries_in m.inner))

  -- The node stands in the directory of these entries.
  pub record StandsIn (n : Node) : Type 0 where
    pub dir : List ℕ
    pub es : List DirectoryEntry
    pub is_dir : IsDir dir es
    pub path : n.path ≡ child dir n.entry.name
    pub there : Contains es n.entry

  pub stands_in : (n : Node) → Contains all n → StandsIn n
  stands_in n there =
      elim (stands_under bodies tree [] held n there) [
        | inl top ↦ record { dir = []; es = entries_in tree; is_dir = inl (refl, refl); path = top.0; there = top.1 }
        | inr m ↦ record { dir = m.0.path; es = entries_in m.0.inner; is_dir = inr (m.0, m.1, m.2, refl, refl); path = m.3; there = m.4 }
      ]

  pub dir_entries : (dir : List ℕ) (es : List DirectoryEntry) → IsDir dir es → AreEntries es
  dir_entries dir es (inl (at, is)) = subst AreEntries (sym is) entries
  dir_entries dir es (inr (m, there, folder, at, is)) = subst AreEntries (sym is) (held_node bodies tree [] good held m there folder).entries

  pub dir_entry : (dir : List ℕ) (es : List DirectoryEntry) → IsDir dir es → (e : DirectoryEntry) → Contains es e → IsEntry e
  dir_entry dir es is e there = each_entry es (dir_entries dir es is) e there

  pub node_entry : (n : Node) → Contains all n → IsEntry n.entry
  node_entry n there = let s = stands_in n there in dir_entry s.dir s.es s.is_dir n.entry s.there

  pub node_some : (n : Node) → Contains all n → n.path ≡ [] → ⊥
  node_some n there none = let s = stands_in n there in child_some s.dir n.entry.name (node_entry n there).name.not_empty (sym s.path ∙ none)

  pub apart : IsUp AreApart all
  apart = nodes_apart tree [] good entries

  -- a path has the entries of one directory at most
  pub one_dir : (dir : List ℕ) (es fs : List DirectoryEntry) → IsDir dir es → IsDir dir fs → es ≡ fs
  one_dir dir es fs (inl a) (inl b) = a.1 ∙ sym b.1
  one_dir dir es fs (inl a) (inr b) = absurd (node_some b.0 b.1 (sym b.3 ∙ a.0))
  one_dir dir es fs (inr a) (inl b) = absurd (node_some a.0 a.1 (sym a.3 ∙ b.0))
  one_dir dir es fs (inr a) (inr b) =
      a.4 ∙ ap (λ (m : Node). entries_in m.inner) (one_node all apart a.0 b.0 a.1 b.1 (sym a.3 ∙ b.3)) ∙ sym b.4

  -- each entry of a directory is a node
  pub entry_node : (dir : List ℕ) (es : List DirectoryEntry) → IsDir dir es → (e : DirectoryEntry) → Contains es e → (inner : Tree) × Contains all (node_at dir e inner)
  entry_node dir es (inl (at, is)) e there =
      subst (λ (d : List ℕ). (inner : Tree) × Contains all (node_at d e inner)) (sym at) (entry_there tree [] e (subst (λ (l : List DirectoryEntry). Contains l e) is there))
  entry_node dir es (inr (m, there, folder, at, is)) e in_it =
      subst (λ (d : List ℕ). (inner : Tree) × Contains all (node_at d e inner)) (sym at) (inner_there tree [] m there e (subst (λ (l : List DirectoryEntry). Contains l e) is in_it))

  -- a node at the path of a good name in a directory is an entry of it
  pub node_in : (dir : List ℕ) (es : List DirectoryEntry) (name : List ℕ) (n : Node) → IsDir dir es → IsEntryName name → Contains all n → n.path ≡ child dir name → (n.entry.name ≡ name) × Contains es n.entry
  node_in dir es name n is named there path =
      let s = stands_in n there in
      let both = child_injective s.dir dir n.entry.name name (node_entry n there).name.no_slash named.no_slash (sym s.path ∙ path) in
      let same = one_dir dir s.es es (subst (λ (d : List ℕ). IsDir d s.es) both.0 s.is_dir) is in
      (both.1, subst (λ (l : List DirectoryEntry). Contains l n.entry) same s.there)
