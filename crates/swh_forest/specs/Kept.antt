-- Which names are kept.
use Rattle.std.specs.Prelude.{ℕ, List, [], ◌∷◌, Option, Some, None}
use Rattle.std.specs.List.{Contains}
use Rattle.swh_entries.specs.declared.entry.Child.{Child}

-- Each of these names is one of those.
pub record AreAmong (these those : List (List ℕ)) : Type 0 where
  pub each : (name : List ℕ) → Contains these name → Contains those name

-- the name that a child is put under, where there is a child
abbrev pub named : List ℕ → Option Child → List (List ℕ)
named name None = []
named name (Some child) = name ∷ []
