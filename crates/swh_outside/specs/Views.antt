-- What contracts see of a type of disks, and of a type of sources, each as one value.
use Rattle.std.specs.Prelude.{ℕ, List}
use Rattle.swh_outside.specs.Disk.{File}

-- disks of a type: whether they tell what they hold, what each holds, and how often each has failed
pub record Disks (D : Type 0) : Type 1 where
  pub tells : Type 0
  pub file : D → File
  pub faults : D → ℕ

-- disks seen by these
abbrev pub disks : {D : Type 0} → Type 0 → (D → File) → (D → ℕ) → Disks D
disks tells file faults = record { tells = tells; file = file; faults = faults }

-- sources of a type: whether they tell what is left of them, what that is, how often each has failed, and its path
pub record Sources (S : Type 0) : Type 1 where
  pub tells : Type 0
  pub left : S → List ℕ
  pub faults : S → ℕ
  pub path : S → List ℕ

-- sources seen by these
abbrev pub sources : {S : Type 0} → Type 0 → (S → List ℕ) → (S → ℕ) → (S → List ℕ) → Sources S
sources tells left faults path = record { tells = tells; left = left; faults = faults; path = path }
