-- Where bytes cease to be those of some body.
use Rattle.std.specs.Prelude.{ℕ, ◌<◌, ◌≤◌, List, ◌++◌, length, take}
use Rattle.swh_base.specs.declared.kind.Kind.{Kind}
use Rattle.swh_base.specs.Manifest.{IsWellFormed}

-- Some body of this kind continues these bytes.
pub record IsContinued (kind : Kind) (bytes : List ℕ) : Type 0 where
  pub more : List ℕ
  pub body : IsWellFormed kind (bytes ++ more)

-- The body is none of this kind, and the longest prefix that some body of this kind continues has this length.
pub record IsRevFault (kind : Kind) (body : List ℕ) (at : ℕ) : Type 0 where
  pub broken : IsWellFormed kind body → ⊥
  pub within : at ≤ length body
  pub continued : IsContinued kind (take at body)
  pub longest : (n : ℕ) → at < n → n ≤ length body → IsContinued kind (take n body) → ⊥
