-- Names in the order in which they are met, each once.
use Rattle.std.specs.Prelude.{◌≡◌, ◌⊎◌, ℕ, Option, unwrap_or, List, [], ◌∷◌, ◌++◌, Contains, take}
use Rattle.swh_base.specs.declared.name.Name.{Name}
use Rattle.swh_model.specs.Archive.{Bodies}
use Rattle.swh_graph.specs.Log.{HasParents}

-- One more name is met: it is listed, and nothing changes, or it stands at the end now.
abbrev pub MeetsOne : List Name → Name → List Name → Type 0
MeetsOne old name new = (Contains old name × (new ≡ old)) ⊎ ((Contains old name → ⊥) × (new ≡ old ++ name ∷ []))

-- These names are met one after another.
abbrev pub MeetsAll : List Name → List Name → List Name → Type 0
MeetsAll old [] new = old ≡ new
MeetsAll old (n ∷ ns) new = (middle : List Name) × (MeetsOne old n middle × MeetsAll middle ns new)

-- These names are met one after another, and no more are kept than the limit: where the old ones are so many of the first
-- of a list, the new ones are as many of the first of this list after it has met them all.
abbrev pub MeetsUpTo : ℕ → List Name → List Name → List Name → Type 0
MeetsUpTo limit old xs new = (all : List Name) → old ≡ take limit all → (more : List Name) × (MeetsAll all xs more × (new ≡ take limit more))

-- The parents of the revision of this name are met, up to the limit.
pub record MeetsParents (bodies : Bodies) (name : Name) (limit : ℕ) (old new : List Name) : Type 0 where
  pub parents : List Name
  pub has : HasParents bodies name parents
  pub meets : MeetsUpTo limit old parents new

-- The children of this name are met, where it is held.
abbrev pub MeetsChildren : (Name → Option (List Name)) → Name → List Name → List Name → Type 0
MeetsChildren children_of name old new = MeetsAll old (unwrap_or (children_of name) []) new
