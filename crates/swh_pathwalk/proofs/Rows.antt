-- What holds of each row of a walk over paths, where it holds of each entry behind what leads to its directory.
use Rattle.std.proofs.Common.{◌≡◌, inl, inr, ℕ, List, [], ◌∷◌, ◌++◌, subst}
use Rattle.std.specs.Prelude.{Contains}
use Rattle.std.proofs.lemmas.List.Elements.{Contains-append_cases}
use Rattle.swh_base.specs.declared.name.Name.{Name}
use Rattle.swh_base.specs.Directory.{DirectoryEntry}
use Rattle.swh_base.proofs.Elementary.{none_in}
use Rattle.swh_model.specs.Archive.{Bodies}
use Rattle.swh_graph.specs.Holding.{HoldsDirectory}
use Rattle.swh_graph.specs.Path.{directory_name}
use Rattle.swh_postorder.proofs.Trips.{first_in, later_in, in_cases}
use Rattle.swh_pathwalk.specs.Tree.{Tree, End, Leaf, Folder, entries_in, AreHeldUnder, Row, row_at, path_walk, IsPathWalk}

module _
    (bodies : Bodies)
    (Leads : List ℕ → Name → Type 0)
    (Has : Row → Type 0)
    (here : (front : List ℕ) (place : Name) (entries : List DirectoryEntry) (e : DirectoryEntry) → Leads front place → HoldsDirectory bodies place entries → Contains entries e → Has (row_at front e))
    (onward : (front : List ℕ) (place : Name) (entries : List DirectoryEntry) (e : DirectoryEntry) → Leads front place → HoldsDirectory bodies place entries → Contains entries e → e.mode ≡ 40000
    → Leads ((front ++ e.name) ++ 47 ∷ []) (directory_name e.id))
  where
    in_tree : (tree : Tree) (front : List ℕ) (place : Name) (entries : List DirectoryEntry) → Leads front place → HoldsDirectory bodies place entries → ((e : DirectoryEntry) → Contains (entries_in tree) e → Contains entries e) → AreHeldUnder bodies tree
        → (row : Row) → Contains (path_walk front tree) row → Has row
    in_tree End front place entries leads holds all under row there = absurd (none_in row there)
    in_tree (Leaf e rest) front place entries leads holds all (leaf, under) row there =
        elim (in_cases (row_at front e) (path_walk front rest) row there) [
          | inl same ↦ subst Has same (here front place entries e leads holds (all e (first_in e (entries_in rest))))
          | inr later ↦ in_tree rest front place entries leads holds (λ d is. all d (later_in e (entries_in rest) d is)) under row later
        ]
    in_tree (Folder e inner rest) front place entries leads holds all (folder, its, within, under) row there =
        elim (in_cases (row_at front e) (path_walk ((front ++ e.name) ++ 47 ∷ []) inner ++ path_walk front rest) row there) [
          | inl same ↦ subst Has same (here front place entries e leads holds (all e (first_in e (entries_in rest))))
          | inr later ↦
              elim (Contains-append_cases (path_walk ((front ++ e.name) ++ 47 ∷ []) inner) (path_walk front rest) row later) [
                | inl inside ↦
                    in_tree inner ((front ++ e.name) ++ 47 ∷ []) (directory_name e.id) (entries_in inner) (onward front place entries e leads holds (all e (first_in e (entries_in rest))) folder) its (λ d is. is) within row inside
                | inr behind ↦ in_tree rest front place entries leads holds (λ d is. all d (later_in e (entries_in rest) d is)) under row behind
              ]
        ]

    pub each_row : (root : Name) (rows : List Row) → Leads [] root → IsPathWalk bodies root rows → (row : Row) → Contains rows row → Has row
    each_row root rows leads walk row there =
        in_tree walk.tree [] root (entries_in walk.tree) leads walk.is.top (λ e is. is) walk.is.under row (subst (λ (l : List Row). Contains l row) walk.rows_are there)
