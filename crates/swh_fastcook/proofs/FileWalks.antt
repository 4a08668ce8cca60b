-- The walk over the files of a tree: all that it leads to is in the order, and held.
use Rattle.std.proofs.Common.{◌≡◌, ◌⊎◌, inl, inr, ℕ, ◌<◌, ◌==◌, Bool, true, false, cond, Option, Some, None, List, [], ◌∷◌, ◌++◌, length, refl, sym, ap, ◌∙◌, subst}
use Rattle.std.specs.Prelude.{Contains}
use Rattle.std.specs.List.{filter_map, cons_option}
use Rattle.std.proofs.lemmas.Bool.{eqb-true}
use Rattle.std.proofs.lemmas.List.Elements.{Contains-append_left}
use Rattle.swh_base.specs.declared.name.Name.{Name}
use Rattle.swh_base.specs.Directory.{DirectoryEntry, child_of}
use Rattle.swh_base.specs.Reach.{IsChildIn}
use Rattle.swh_base.proofs.Elementary.{none_in}
use Rattle.swh_dirfmt.specs.declared.entry.SpelledEntry.{SpelledEntry}
use Rattle.swh_dirfmt.specs.Entries.{entry_of}
use Rattle.swh_model.specs.Archive.{Bodies, IsGraphOf}
use Rattle.swh_graph.specs.Holding.{HoldsDirectory}
use Rattle.swh_graph.specs.Path.{directory_name}
use Rattle.swh_postorder.specs.Cycle.{ArePreceded}
use Rattle.swh_postorder.proofs.Preceded.{cut_at}
use Rattle.swh_postorder.proofs.Trips.{first_in, later_in, in_cases}
use Rattle.swh_pathwalk.specs.Walk.{Coming, Standing, with_entries, BeginsAt, ComesInside, Steps}
use Rattle.swh_pathwalk.specs.Weight.{coming_weight}
use Rattle.swh_pathwalk.proofs.Weights.{kids_are, lead_at_first, lighter}
use Rattle.swh_fastcook.specs.Files.{IsFileIn, FilesLeadInto, Leads}
use Rattle.swh_fastcook.specs.Stream.{content_name}

-- ---- entries that are files

file_child : (e : DirectoryEntry) (kids : List Name) → (e.mode ≡ 40000 → ⊥) → (e.mode ≡ 160000 → ⊥) → Contains (cons_option (child_of e) kids) (content_name e.id)
file_child e kids folder project = by (e.mode == 160000) (e.mode == 40000) (λ is. project (eqb-true e.mode 160000 is)) (λ is. folder (eqb-true e.mode 40000 is))
  where
    by : (p f : Bool) → (p ≡ true → ⊥) → (f ≡ true → ⊥) → Contains (cons_option (cond p None (cond f (Some (directory_name e.id)) (Some (content_name e.id)))) kids) (content_name e.id)
    by true f no_project no_folder = absurd (no_project refl)
    by false true no_project no_folder = absurd (no_folder refl)
    by false false no_project no_folder = first_in (content_name e.id) kids

child_later : (o : Option Name) (kids : List Name) (n : Name) → Contains kids n → Contains (cons_option o kids) n
child_later None kids n there = there
child_later (Some k) kids n there = later_in k kids n there

file_in : (entries : List DirectoryEntry) (e : DirectoryEntry) → Contains entries e → (e.mode ≡ 40000 → ⊥) → (e.mode ≡ 160000 → ⊥) → Contains (filter_map child_of entries) (content_name e.id)
file_in [] e there folder project = absurd (none_in e there)
file_in (d ∷ ds) e there folder project =
    elim (in_entries d ds e there) [
      | inl same ↦
          subst (λ (x : DirectoryEntry). Contains (filter_map child_of (d ∷ ds)) (content_name x.id)) same
          (file_child d (filter_map child_of ds) (λ is. folder (ap (λ (x : DirectoryEntry). x.mode) (sym same) ∙ is)) (λ is. project (ap (λ (x : DirectoryEntry). x.mode) (sym same) ∙ is)))
      | inr later ↦ child_later (child_of d) (filter_map child_of ds) (content_name e.id) (file_in ds e later folder project)
    ]
  where
    in_entries : (x : DirectoryEntry) (xs : List DirectoryEntry) (y : DirectoryEntry) → Contains (x ∷ xs) y → (x ≡ y) ⊎ Contains xs y
    in_entries x xs y there = in_cases x xs y there

module _ (bodies : Bodies) (children_of : Name → Option (List Name)) (graph : IsGraphOf bodies children_of) (order : List Name) where
  in_with : (front : List ℕ) (entries : List DirectoryEntry) (ls : List Coming) → ((l : Coming) → Contains (with_entries ls) l → Contains ls l)
      → (l : Coming) → Contains (with_entries (record { front = front; entries = entries } ∷ ls)) l → Contains (record { front = front; entries = entries } ∷ ls) l
  in_with front [] ls rest l there = later_in (record { front = front; entries = [] }) ls l (rest l there)
  in_with front (e ∷ es) ls rest l there = there

  in_all : (ls : List Coming) (l : Coming) → Contains (with_entries ls) l → Contains ls l
  in_all [] l there = there
  in_all (m ∷ ls) l there = in_with m.front m.entries ls (in_all ls) l there

  module _ (preceded : ArePreceded children_of order) where
    -- the contents of a directory's files are in the order
    pub files_of : (id : List ℕ) (entries : List DirectoryEntry) (e : DirectoryEntry) → Contains order (directory_name id) → HoldsDirectory bodies (directory_name id) entries → Contains entries e → IsFileIn order e
    files_of id entries e in_order holds there folder project =
        let c = cut_at order (directory_name id) in_order in
        let kid : IsChildIn children_of (directory_name id) (content_name e.id) = record { kids = filter_map child_of entries; held = kids_are bodies children_of graph id entries holds; one_of = file_in entries e there folder project } in
        subst (λ (ns : List Name). Contains ns (content_name e.id)) (sym c.cut)
        (Contains-append_left c.before (directory_name id ∷ c.behind) (content_name e.id) (preceded c.before (directory_name id) c.behind c.cut (content_name e.id) kid))

    one_level : (front : List ℕ) (entries : List DirectoryEntry) (ls : List Coming) → ((e : DirectoryEntry) → Contains entries e → IsFileIn order e) → FilesLeadInto order ls → FilesLeadInto order (record { front = front; entries = entries } ∷ ls)
    one_level front entries ls all rest l e there is =
        elim (in_cases (record { front = front; entries = entries }) ls l there) [
          | inl same ↦ all e (subst (λ (c : Coming). Contains c.entries e) (sym same) is)
          | inr later ↦ rest l e later is
        ]

    no_level : FilesLeadInto order []
    no_level l e there is = absurd (none_in l there)

    pub leads_at_first : (id : List ℕ) (new : Standing) → BeginsAt bodies (directory_name id) new → Contains order (directory_name id) → Leads order new.levels
    leads_at_first id new b there = record {
      folders = lead_at_first bodies children_of graph order preceded id new b there;
      files = subst (FilesLeadInto order) (sym b.levels) (one_level [] b.entries [] (λ e is. files_of id b.entries e there b.holds is) no_level);
    }

    files_by : (e : DirectoryEntry) (path front : List ℕ) (rest : List DirectoryEntry) (inside below : List Coming) → ComesInside bodies e path inside → (e.mode ≡ 40000 → Contains order (directory_name e.id)) → FilesLeadInto order (record { front = front; entries = e ∷ rest } ∷ below)
        → FilesLeadInto order (inside ++ record { front = front; entries = rest } ∷ below)
    files_by e path front rest inside below (inl (other, none)) into lead =
        subst (λ (ls : List Coming). FilesLeadInto order (ls ++ record { front = front; entries = rest } ∷ below)) (sym none)
        (one_level front rest below (λ d is. lead (record { front = front; entries = e ∷ rest }) d (first_in (record { front = front; entries = e ∷ rest }) below) (later_in e rest d is))
        (λ l d there is. lead l d (later_in (record { front = front; entries = e ∷ rest }) below l there) is))
    files_by e path front rest inside below (inr (entries, folder, holds, one)) into lead =
        subst (λ (ls : List Coming). FilesLeadInto order (ls ++ record { front = front; entries = rest } ∷ below)) (sym one)
        (one_level (path ++ 47 ∷ []) entries (record { front = front; entries = rest } ∷ below) (λ d is. files_of e.id entries d (into folder) holds is)
        (one_level front rest below (λ d is. lead (record { front = front; entries = e ∷ rest }) d (first_in (record { front = front; entries = e ∷ rest }) below) (later_in e rest d is))
        (λ l d there is. lead l d (later_in (record { front = front; entries = e ∷ rest }) below l there) is)))

    -- a step leads on into the order, and leaves less to come; and the entry that it gives is a file in the order, where it is one
    pub record StepsOn (old new : Standing) (e : SpelledEntry) : Type 0 where
      pub leads : Leads order new.levels
      pub lighter_now : coming_weight bodies children_of (length order) new.levels < coming_weight bodies children_of (length order) old.levels
      pub file : IsFileIn order (entry_of e)

    pub steps_on : (old new : Standing) (e : SpelledEntry) → Leads order old.levels → Steps bodies old (Some e) new → StepsOn old new e
    steps_on old new e lead s =
        let both = lighter bodies children_of graph order preceded old new e lead.folders s in
        let at : Coming = record { front = s.front; entries = entry_of e ∷ s.rest } in
        let there = in_all old.levels at (subst (λ (ls : List Coming). Contains ls at) (sym s.next) (first_in at s.below)) in
        let at_next : FilesLeadInto order (at ∷ s.below) = subst (FilesLeadInto order) s.next (λ l d in_with is. lead.files l d (in_all old.levels l in_with) is) in
        record {
          leads = record {
            folders = both.1;
            files =
                subst (FilesLeadInto order) (sym s.levels)
                (files_by (entry_of e) new.path s.front s.rest s.inside s.below s.comes (λ folder. lead.folders at (entry_of e) there (first_in (entry_of e) s.rest) folder) at_next);
          };
          lighter_now = both.0;
          file = lead.files at (entry_of e) there (first_in (entry_of e) s.rest);
        }
