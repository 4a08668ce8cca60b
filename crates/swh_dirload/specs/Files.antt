-- The files of a folder, each no longer than a body may be.
use Rattle.std.specs.Prelude.{◌≡◌, ◌<◌, ◌+◌, ℕ, List, length, Some}
use Rattle.swh_base.specs.Limits.{body_limit}
use Rattle.swh_base.specs.declared.visit.Which.TheVariants.{Body}
use Rattle.swh_outside.specs.Folder.{Tree, bytes_at}
use Rattle.swh_dirload.specs.declared.fault.DirFault.{DirFault}
use Rattle.swh_dirload.specs.declared.fault.DirFault.TheVariants.{OtherKind, BadModes, Limit, ReadFault, Memory}

-- The file at a path is longer than a body may be.
pub record IsTooLong (tree : Tree) (path : List ℕ) : Type 0 where
  pub bytes : List ℕ
  pub are : bytes_at tree path ≡ Some bytes
  pub long : body_limit < length bytes

-- Why a file is not read, whatever the folder holds: no more than one byte above the limit is counted.
abbrev pub MayRefuseFile : DirFault → Type 0
MayRefuseFile (OtherKind path) = ⊥
MayRefuseFile (BadModes line) = ⊥
MayRefuseFile (Limit which number) = (which ≡ Body) × (number ≡ body_limit + 1)
MayRefuseFile ReadFault = Unit {0}
MayRefuseFile Memory = Unit {0}

-- Why the file at a path is not read: it is too long. Of a folder that fails and of want of memory nothing is said.
abbrev pub ExplainsFile : Tree → List ℕ → DirFault → Type 0
ExplainsFile tree path (OtherKind other) = ⊥
ExplainsFile tree path (BadModes line) = ⊥
ExplainsFile tree path (Limit which number) = IsTooLong tree path
ExplainsFile tree path ReadFault = Unit {0}
ExplainsFile tree path Memory = Unit {0}
