-- Each step of a walk of which all is held.
use Rattle.std.proofs.Common.{◌≡◌, ℕ, Option, Some, None, List, [], ◌∷◌, ◌++◌, refl, sym, ap, ◌∙◌, subst, append_assoc}
use Rattle.std.specs.Prelude.{Contains}
use Rattle.std.proofs.lemmas.List.{append-nil}
use Rattle.swh_base.specs.declared.name.Name.{Name}
use Rattle.swh_base.specs.Directory.{DirectoryEntry}
use Rattle.swh_dirfmt.specs.declared.entry.SpelledEntry.{SpelledEntry}
use Rattle.swh_model.specs.Archive.{Bodies, body_of, IsGraphOf}
use Rattle.swh_postorder.specs.Cycle.{IsSomePostorder}
use Rattle.swh_postorder.proofs.Preceded.{held_in}
use Rattle.swh_postorder.proofs.Trips.{first_in, later_in}
use Rattle.swh_pathwalk.specs.Tree.{Row, IsPathWalk}
use Rattle.swh_pathwalk.specs.Walk.{Coming, Standing, with_entries, BeginsAt, MissesNext, Steps, row_of}
use Rattle.swh_pathwalk.specs.Weight.{LeadInto}
use Rattle.swh_pathwalk.proofs.Steps.{remain_at_first, remain_step, remain_ends}
use Rattle.swh_pathwalk.specs.Held.{IsAt}

module _ (bodies : Bodies) (children_of : Name → Option (List Name)) (graph : IsGraphOf bodies children_of) (order : List Name) (some : IsSomePostorder children_of order) where
  -- what is in the order is held
  pub not_missing : (name : Name) → Contains order name → body_of bodies name ≡ None → ⊥
  not_missing name there none =
      let kids = held_in children_of order some name there in
      let held = graph.held name kids.0 kids.1 in
      let e : Some held.0 ≡ None = sym held.1 ∙ none in cc

  in_with : (front : List ℕ) (entries : List DirectoryEntry) (ls : List Coming) → ((l : Coming) → Contains (with_entries ls) l → Contains ls l)
      → (l : Coming) → Contains (with_entries (record { front = front; entries = entries } ∷ ls)) l → Contains (record { front = front; entries = entries } ∷ ls) l
  in_with front [] ls rest l there = later_in (record { front = front; entries = [] }) ls l (rest l there)
  in_with front (e ∷ es) ls rest l there = there

  in_all : (ls : List Coming) (l : Coming) → Contains (with_entries ls) l → Contains ls l
  in_all [] l there = there
  in_all (m ∷ ls) l there = in_with m.front m.entries ls (in_all ls) l there

  -- the next folder is held
  pub no_gap : (old : Standing) (missing : Name) → LeadInto order old.levels → MissesNext bodies old missing → ⊥
  no_gap old missing lead m =
      let l : Coming = record { front = m.front; entries = m.e ∷ m.rest } in
      let there = in_all old.levels l (subst (λ (ls : List Coming). Contains ls l) (sym m.next) (first_in l m.below)) in
      not_missing missing (subst (Contains order) (sym m.named) (lead l m.e there (first_in m.e m.rest) m.folder)) m.none

-- ---- how far a walk has come

module _ (bodies : Bodies) (directory : Name) (all : List Row) where
  pub at_first : (new : Standing) → BeginsAt bodies directory new → IsPathWalk bodies directory all → IsAt bodies all [] new.levels
  at_first new b walk = record { rest = all; cut = refl; remain = remain_at_first bodies directory new all b walk }

  pub at_next : (given : List Row) (old new : Standing) (e : SpelledEntry) → Steps bodies old (Some e) new → IsAt bodies all given old.levels → IsAt bodies all (given ++ row_of new e ∷ []) new.levels
  at_next given old new e s at =
      let f = remain_step bodies old new e at.rest s at.remain in
      record {
        rest = f.rest;
        cut = at.cut ∙ ap (λ (l : List Row). given ++ l) f.cut ∙ sym (append_assoc given (row_of new e ∷ []) f.rest);
        remain = f.remain;
      }

  -- the entry that is given is one of all
  pub given_in : (given : List Row) (old new : Standing) (e : SpelledEntry) → Steps bodies old (Some e) new → IsAt bodies all given old.levels → (rest : List Row) × (all ≡ given ++ row_of new e ∷ rest)
  given_in given old new e s at =
      let f = remain_step bodies old new e at.rest s at.remain in
      (f.rest, at.cut ∙ ap (λ (l : List Row). given ++ l) f.cut)

  pub at_last : (given : List Row) (old new : Standing) → Steps bodies old None new → IsAt bodies all given old.levels → all ≡ given
  at_last given old new s at = at.cut ∙ ap (λ (l : List Row). given ++ l) (remain_ends bodies old new at.rest s at.remain) ∙ append-nil given
