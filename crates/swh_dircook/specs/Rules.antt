-- What a folder cannot carry: the rules that a directory, or all that is under the root, may break.
use Rattle.std.specs.Prelude.{◌≡◌, ◌⊎◌, ◌<◌, ◌^◌, ◌+◌, ◌==◌, ◌||◌, ℕ, if◌then◌else◌, Option, Some, None, List, [], ◌∷◌, length}
use Rattle.std.specs.Str.{IsUtf8}
use Rattle.swh_base.specs.declared.name.Name.{Name}
use Rattle.swh_base.specs.Directory.{DirectoryEntry}
use Rattle.swh_model.specs.Archive.{Bodies, body_of}
use Rattle.swh_pathwalk.specs.Tree.{Row, IsPathWalk}
use Rattle.swh_carried.specs.Rules.{HasDirectoryEntry, HasDots, HasLongPath}
use Rattle.swh_carried.specs.Ways.{HaveLong}
use Rattle.swh_carried.specs.declared.fault.Why.{Why}
use Rattle.swh_carried.specs.declared.fault.Why.TheVariants.{Cycle, Revision, Release, Empty, Dots, Text, Path, Branch, Tagless, Refs, Length}
use Rattle.swh_dircook.specs.Listing.{listing_text}
use Rattle.swh_dircook.specs.Made.{content_name, bytes_or_none}

-- The directory has an entry whose name is no UTF-8.
pub record HasOtherText (bodies : Bodies) (name : Name) : Type 0 where
  pub entry : DirectoryEntry
  pub is_entry : HasDirectoryEntry bodies name entry
  pub is : IsUtf8 entry.name → ⊥

-- how many bytes the file of an entry has: none where it has no file
abbrev pub file_length : Bodies → DirectoryEntry → ℕ
file_length bodies e = if e.mode == 40000 || e.mode == 160000 then 0 else length (bytes_or_none (body_of bodies (content_name e.id)))

-- how many bytes the files of these entries have together
abbrev pub files_length : Bodies → List Row → ℕ
files_length bodies [] = 0
files_length bodies (row ∷ rows) = file_length bodies row.entry + files_length bodies rows

-- The files under the root together, or their listing, have more than 2 to the 32nd bytes, or there are more entries under
-- the root than that.
pub record IsLongFolder (bodies : Bodies) (root : Name) : Type 0 where
  pub rows : List Row
  pub walk : IsPathWalk bodies root rows
  pub long : (2 ^ 32 < files_length bodies rows) ⊎ (2 ^ 32 < length (listing_text rows)) ⊎ (2 ^ 32 < length rows)

-- which of the rules a name breaks, where the root is made as a folder, and it is said whether that is too long
abbrev pub BreaksIn : Bodies → Name → Type 0 → Name → Why → Type 0
BreaksIn bodies root long name Cycle = ⊥
BreaksIn bodies root long name Revision = ⊥
BreaksIn bodies root long name Release = ⊥
BreaksIn bodies root long name Empty = ⊥
BreaksIn bodies root long name Dots = HasDots bodies name
BreaksIn bodies root long name Text = HasOtherText bodies name
BreaksIn bodies root long name Path = HasLongPath bodies (λ start. start ≡ root) name
BreaksIn bodies root long name Branch = ⊥
BreaksIn bodies root long name Tagless = ⊥
BreaksIn bodies root long name Refs = ⊥
BreaksIn bodies root long name Length = (name ≡ root) × long

-- which of the rules a name breaks, where the root is made as a folder
abbrev pub BreaksInFolder : Bodies → Name → Name → Why → Type 0
BreaksInFolder bodies root = BreaksIn bodies root (IsLongFolder bodies root)

-- the first rule that a directory breaks, if it breaks one, where these say which of the first three it breaks
abbrev pub IsFirstOf : Type 0 → Type 0 → Type 0 → Option Why → Type 0
IsFirstOf dots text long None = (dots → ⊥) × (text → ⊥) × (long → ⊥)
IsFirstOf dots text long (Some Dots) = dots
IsFirstOf dots text long (Some Text) = (dots → ⊥) × text
IsFirstOf dots text long (Some Path) = (dots → ⊥) × (text → ⊥) × long
IsFirstOf dots text long (Some Cycle) = ⊥
IsFirstOf dots text long (Some Revision) = ⊥
IsFirstOf dots text long (Some Release) = ⊥
IsFirstOf dots text long (Some Empty) = ⊥
IsFirstOf dots text long (Some Branch) = ⊥
IsFirstOf dots text long (Some Tagless) = ⊥
IsFirstOf dots text long (Some Refs) = ⊥
IsFirstOf dots text long (Some Length) = ⊥

-- A way of so many bytes leads to a directory of these entries, and one of them makes it too long.
abbrev pub IsLongOver : Option ℕ → List DirectoryEntry → Type 0
IsLongOver None entries = ⊥
IsLongOver (Some way) entries = HaveLong way entries
