-- What the reader answers.
use Rattle.std.specs.Prelude.{◌≡◌, ℕ, List, Result, Ok, Err}
use Rattle.swh_base.specs.Directory.{DirectoryEntry}
use Rattle.swh_dirfmt.specs.declared.fault.ReadDirFault.{ReadDirFault}
use Rattle.swh_dirfmt.specs.declared.fault.ReadDirFault.TheVariants.{Memory, Bad}
use Rattle.swh_dirfmt.specs.Fault.{IsDirFault}

-- The fault is the body's first. Of want of memory nothing is said.
abbrev pub ExplainsDir : List ℕ → ReadDirFault → Type 0
ExplainsDir body Memory = Unit {0}
ExplainsDir body (Bad bad) = IsDirFault body bad.at bad.why

-- The answer is these entries, or memory ran out.
abbrev pub GivesEntries : Result (List DirectoryEntry) ReadDirFault → List DirectoryEntry → Type 0
GivesEntries (Ok found) entries = found ≡ entries
GivesEntries (Err Memory) entries = Unit {0}
GivesEntries (Err (Bad bad)) entries = ⊥
