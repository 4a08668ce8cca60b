-- That a walk over paths comes to an end: a number that each step lowers, where no directory is reached from itself.
use Rattle.std.specs.Prelude.{◌≡◌, ℕ, zero, suc, ◌+◌, ◌==◌, if◌then◌else◌, Option, List, [], ◌∷◌, length, unwrap_or, Contains}
use Rattle.swh_base.specs.declared.name.Name.{Name}
use Rattle.swh_base.specs.Directory.{DirectoryEntry}
use Rattle.swh_model.specs.Archive.{Bodies, body_of}
use Rattle.swh_graph.specs.Path.{directory_name}
use Rattle.swh_pathwalk.specs.Walk.{Coming}

-- the sum of a value over a list
abbrev pub total : {X : Type 0} → (X → ℕ) → List X → ℕ
total f [] = 0
total f (x ∷ xs) = f x + total f xs

module _ (bodies : Bodies) (children_of : Name → Option (List Name)) where
  -- more than the steps over all that is under a name, as far as so many names deep
  abbrev pub weight : ℕ → Name → ℕ
  weight zero name = 0
  weight (suc depth) name = 1 + (length (unwrap_or (body_of bodies name) []) + total (weight depth) (unwrap_or (children_of name) []))

  -- the same of an entry
  abbrev pub entry_weight : ℕ → DirectoryEntry → ℕ
  entry_weight depth e = 1 + (if e.mode == 40000 then weight depth (directory_name e.id) else 0)

  -- the same of all that is yet to come
  abbrev pub coming_weight : ℕ → List Coming → ℕ
  coming_weight depth levels = total (λ l. total (entry_weight depth) l.entries) levels

-- Each folder that is yet to come is one of these names.
abbrev pub LeadInto : List Name → List Coming → Type 0
LeadInto names levels = (l : Coming) (e : DirectoryEntry) → Contains levels l → Contains l.entries e → e.mode ≡ 40000 → Contains names (directory_name e.id)
