-- What the reader answers.
use Rattle.std.specs.Prelude.{◌≡◌, ℕ, List, ◌∷◌, ◌++◌, length, decimal, Result, Ok, Err}
use Rattle.swh_base.specs.Snapshot.{SnapshotBranch}
use Rattle.swh_snpfmt.specs.declared.fault.ReadSnpFault.{ReadSnpFault}
use Rattle.swh_snpfmt.specs.declared.fault.ReadSnpFault.TheVariants.{Memory, Bad}
use Rattle.swh_snpfmt.specs.Fault.{IsSnpFault}

-- the length in decimal, a colon, and the content
abbrev pub sized_text : List ℕ → List ℕ
sized_text content = decimal (length content) ++ 58 ∷ content

-- The fault is the place of the body's first. Of want of memory nothing is said.
abbrev pub ExplainsSnp : List ℕ → ReadSnpFault → Type 0
ExplainsSnp body Memory = Unit {0}
ExplainsSnp body (Bad bad) = IsSnpFault body bad.at

-- The answer is these branches, or memory ran out.
abbrev pub GivesBranches : Result (List SnapshotBranch) ReadSnpFault → List SnapshotBranch → Type 0
GivesBranches (Ok found) branches = found ≡ branches
GivesBranches (Err Memory) branches = Unit {0}
GivesBranches (Err (Bad bad)) branches = ⊥
