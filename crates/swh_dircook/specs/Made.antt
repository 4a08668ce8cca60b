-- What a directory becomes in a yard: a folder with what stands in it, and the listing beside it.
use Rattle.std.specs.Prelude.{◌≡◌, ◌≢◌, ◌⊎◌, ℕ, ◌==◌, if◌then◌else◌, Option, Some, None, List, [], ◌∷◌, ◌++◌, length, take, codes, Result, OnOk, OnErr}
use Rattle.std.specs.List.{flat_map}
use Rattle.swh_base.specs.declared.kind.Kind.TheVariants.{Content}
use Rattle.swh_base.specs.declared.name.Name.{Name}
use Rattle.swh_base.specs.Directory.{DirectoryEntry}
use Rattle.swh_outside.specs.Sink.{Begun, FolderAt, FileAt}
use Rattle.swh_model.specs.Archive.{Bodies, body_of, IsHeld}
use Rattle.swh_pathwalk.specs.Tree.{Row}
use Rattle.swh_dircook.specs.Listing.{listing_text}

-- a folder, or a file with its bytes
pub data Made : Type 0 where
  FolderMade : List ℕ → Made
  FileMade : List ℕ → List ℕ → Made

-- the name of the content with this id
abbrev pub content_name : List ℕ → Name
content_name id = record { kind = Content; id = id }

-- the bytes, where there are any
abbrev pub bytes_or_none : Option (List ℕ) → List ℕ
bytes_or_none None = []
bytes_or_none (Some bytes) = bytes

-- where what has a path stands in a folder
abbrev pub path_in : List ℕ → List ℕ → List ℕ
path_in out path = out ++ 47 ∷ path

-- where the listing of a folder stands
abbrev pub listing_path : List ℕ → List ℕ
listing_path out = out ++ codes ".modes"

-- what is made for an entry at a path: a folder for a folder, nothing for a revision of another project, and else a file
-- with the bytes that are held
abbrev pub made_at : Bodies → List ℕ → DirectoryEntry → List Made
made_at bodies path e =
    if e.mode == 40000 then FolderMade path ∷ []
    else if e.mode == 160000 then []
    else FileMade path (bytes_or_none (body_of bodies (content_name e.id))) ∷ []

-- The content of the entry is held, where it leads to one.
abbrev pub IsFileHeld : Bodies → DirectoryEntry → Type 0
IsFileHeld bodies e = e.mode ≢ 40000 → e.mode ≢ 160000 → IsHeld bodies (content_name e.id)

-- the same of an entry in a folder
abbrev pub made_of : Bodies → List ℕ → Row → List Made
made_of bodies out row = made_at bodies (path_in out row.path) row.entry

-- what is made for the entries, in their order
abbrev pub all_made : Bodies → List ℕ → List Row → List Made
all_made bodies out rows = flat_map (made_of bodies out) rows

-- all that is made of a directory with these entries under it: its folder, what stands in that, and its listing
abbrev pub folder_made : Bodies → List ℕ → List Row → List Made
folder_made bodies out rows =
    FolderMade out ∷ (all_made bodies out rows ++ FileMade (listing_path out) (listing_text rows) ∷ [])

-- what a yard tells of itself: what was begun in it, and the bytes that were put
pub record Yarded : Type 0 where
  pub begun : List Begun
  pub taken : List ℕ

-- what a yard tells after one thing more
abbrev pub with_made : Yarded → Made → Yarded
with_made y (FolderMade path) = record { begun = y.begun ++ FolderAt path ∷ []; taken = y.taken }
with_made y (FileMade path bytes) = record { begun = y.begun ++ FileAt path (length y.taken) ∷ []; taken = y.taken ++ bytes }

-- what a yard tells after all of these
abbrev pub after_made : Yarded → List Made → Yarded
after_made y [] = y
after_made y (m ∷ more) = after_made (with_made y m) more

-- The second list is a front of the first: its first few, of which the last may be a file with the first few of its bytes.
pub record IsFrontOfMade (all some : List Made) : Type 0 where
  pub before : List Made
  pub behind : List Made
  pub cut : all ≡ before ++ behind
  pub is :
      (some ≡ before)
      ⊎ ((path bytes : List ℕ) × (count : ℕ) × (more : List Made) × (behind ≡ FileMade path bytes ∷ more) × (some ≡ before ++ FileMade path (take count bytes) ∷ []))

-- what a yard tells, of these
abbrev pub yarded : List Begun → List ℕ → Yarded
yarded begun taken = record { begun = begun; taken = taken }

-- What came is a front of all this.
pub record MakesSome (old : Yarded) (all : List Made) (new : Yarded) : Type 0 where
  pub some : List Made
  pub front : IsFrontOfMade all some
  pub is : new ≡ after_made old some

-- A yard that tells has all of this, or at an error a front of it.
pub record Makes {T E : Type 0} (tells : Type 0) (old : Yarded) (all : List Made) (new : Yarded) (result : Result T E) : Type 0 where
  pub ok : tells → OnOk result (new ≡ after_made old all)
  pub err : tells → OnErr result (MakesSome old all new)
