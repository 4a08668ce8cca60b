-- The listing of what the files of a folder do not say: which are executable, which are the texts of links, and where
-- revisions of other projects stand.
use Rattle.std.specs.Prelude.{◌≤◌, ℕ, ◌==◌, if◌then◌else◌, ◌<◌, Option, Some, None, List, [], ◌∷◌, ◌++◌, length}
use Rattle.std.specs.List.{flat_map, filter_map, AllByRecursion}
use Rattle.std.specs.Option.{option_map}
use Rattle.swh_base.specs.Directory.{DirectoryEntry}
use Rattle.swh_base.specs.Limits.{path_limit}
use Rattle.swh_fastlex.specs.Path.{IsPath}
use Rattle.swh_fastwrite.specs.Quoted.{quoted_path}
use Rattle.swh_pathwalk.specs.Tree.{Row}
use Rattle.swh_listing.specs.declared.listed.Listed.{Listed}
use Rattle.swh_listing.specs.declared.listed.Mode.{Mode}
use Rattle.swh_listing.specs.declared.listed.Mode.TheVariants.{Executable, Link, Project}
use Rattle.swh_listing.specs.Line.{mode_text, HasId}

-- what a listing says of an entry: nothing of a folder, and of a file that is no program and no link
abbrev pub mode_of : DirectoryEntry → Option Mode
mode_of e =
    if e.mode == 100755 then Some Executable else
    if e.mode == 120000 then Some Link else
    if e.mode == 160000 then Some (Project e.id) else None

-- the same of a mode with its path
abbrev pub with_path : List ℕ → Option Mode → Option Listed
with_path path mode = option_map (λ (m : Mode). record { mode = m; path = path }) mode

-- the same of an entry with its path
abbrev pub listed_of : Row → Option Listed
listed_of row = with_path row.path (mode_of row.entry)

-- what a listing says of entries with their paths, in their order
abbrev pub all_listed : List Row → List Listed
all_listed rows = filter_map listed_of rows

-- a line, with its LF: the mode, and the path between quotes where it has to be
abbrev pub listed_line : Listed → List ℕ
listed_line l = mode_text l.mode ++ (quoted_path l.path ++ 10 ∷ [])

-- the line, where there is one
abbrev pub line_or_none : Option Listed → List ℕ
line_or_none None = []
line_or_none (Some l) = listed_line l

-- the lines, one after another
abbrev pub lines_text : List Listed → List ℕ
lines_text lines = flat_map listed_line lines

-- the listing of entries with their paths
abbrev pub listing_text : List Row → List ℕ
listing_text rows = lines_text (all_listed rows)

-- The line says what a reader takes: its path is one of bytes that may stand in a folder, and within the limit, and an id
-- has its twenty bytes.
pub record MayBeListed (l : Listed) : Type 0 where
  pub id : HasId l.mode
  pub bytes : AllByRecursion (λ c. c < 256) l.path
  pub path : IsPath l.path
  pub fits : length l.path ≤ path_limit
