-- The lines of a modes listing: a mode, for a revision of another project its id, and a path, spelled as in a stream
-- (git-fast-import(1), filemodify).
use Rattle.std.specs.Prelude.{◌≡◌, ℕ, List, ◌++◌, codes}
use Rattle.hex.specs.Hex.{encode_lower}
use Rattle.swh_base.specs.Name.{IsId}
use Rattle.swh_fastlex.specs.Path.{NamesPath, PassesPath}
use Rattle.swh_listing.specs.declared.listed.Listed.{Listed}
use Rattle.swh_listing.specs.declared.listed.Mode.{Mode}
use Rattle.swh_listing.specs.declared.listed.Mode.TheVariants.{Executable, Link, Project}

-- what a line has before its path
abbrev pub mode_text : Mode → List ℕ
mode_text Executable = codes "100755 "
mode_text Link = codes "120000 "
mode_text (Project id) = codes "160000 " ++ (encode_lower id ++ codes " ")

-- the id of a project's revision has twenty bytes
abbrev pub HasId : Mode → Type 0
HasId Executable = Unit {0}
HasId Link = Unit {0}
HasId (Project id) = IsId id

-- The line, without its LF, begins with this mode, and then comes the text.
pub record BeginsMode (line : List ℕ) (mode : Mode) (text : List ℕ) : Type 0 where
  pub spelled : line ≡ mode_text mode ++ text
  pub id : HasId mode

-- The line, without its LF, says this.
pub record SaysListed (line : List ℕ) (listed : Listed) : Type 0 where
  pub text : List ℕ
  pub begins : BeginsMode line listed.mode text
  pub path : NamesPath text listed.path

-- The path of the line is longer than a path may be.
pub record PassesPathIn (line : List ℕ) (number : ℕ) : Type 0 where
  pub mode : Mode
  pub text : List ℕ
  pub begins : BeginsMode line mode text
  pub passes : PassesPath 10 text number
