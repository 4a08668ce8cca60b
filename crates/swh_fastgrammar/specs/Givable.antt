-- What the grammar lets a command be, as far as it is made without the stream: refs are refs, paths are paths, and each
-- path is set with a mode that fits what it is set to.
use Rattle.std.specs.Prelude.{◌≡◌, ◌≢◌, ◌⊎◌, ℕ, ◌≤◌, List, length}
use Rattle.std.specs.List.{AllByRecursion}
use Rattle.swh_base.specs.Limits.{tag_limit}
use Rattle.swh_base.specs.Name.{IsId}
use Rattle.swh_base.specs.Text.{IsRef}
use Rattle.swh_fastlex.specs.Path.{IsPath}
use Rattle.swh_fastgrammar.specs.declared.command.At.{At}
use Rattle.swh_fastgrammar.specs.declared.command.Change.{Change}
use Rattle.swh_fastgrammar.specs.declared.command.Change.TheVariants.{Set, Delete, Copy, Move, Clear}
use Rattle.swh_fastgrammar.specs.declared.command.Dataref.{Dataref}
use Rattle.swh_fastgrammar.specs.declared.command.Dataref.TheVariants.{Mark, Inline, Hex}
use Rattle.swh_fastgrammar.specs.declared.command.Command.{Command}
use Rattle.swh_fastgrammar.specs.declared.command.Command.TheVariants.{Blob, Commit, Tag, Reset}

-- the mode of a file, of an executable file, of a link, or of a revision of another project
abbrev pub IsSetMode : ℕ → Type 0
IsSetMode mode = (mode ≡ 100644) ⊎ ((mode ≡ 100755) ⊎ ((mode ≡ 120000) ⊎ (mode ≡ 160000)))

-- An id comes with the mode of a revision of another project, and nothing else does.
abbrev pub FitsMode : ℕ → Dataref → Type 0
FitsMode mode (Mark mark) = mode ≢ 160000
FitsMode mode (Inline bytes) = mode ≢ 160000
FitsMode mode (Hex id) = (mode ≡ 160000) × IsId id

-- a change that the grammar can give
abbrev pub IsGivableChange : Change → Type 0
IsGivableChange (Set mode what path) = IsSetMode mode × IsPath path × FitsMode mode what
IsGivableChange (Delete path) = IsPath path
IsGivableChange (Copy source path) = IsPath source × IsPath path
IsGivableChange (Move source path) = IsPath source × IsPath path
IsGivableChange Clear = Unit {0}

-- changes that the grammar can give
abbrev pub AreGivable : List (At Change) → Type 0
AreGivable changes = AllByRecursion (λ a. IsGivableChange a.it) changes

-- a command that the grammar can give
abbrev pub IsGivable : Command → Type 0
IsGivable (Blob mark bytes) = Unit {0}
IsGivable (Commit branch mark author committer encoding message parent merges changes) = IsRef branch × AreGivable changes
IsGivable (Tag tag mark target tagger message) = IsRef tag × (length tag ≤ tag_limit)
IsGivable (Reset branch parent) = IsRef branch
