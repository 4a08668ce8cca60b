-- What a folder holds in which just this was made, and what it is for it to mean a directory again.
use Rattle.std.specs.Prelude.{◌≡◌, ◌≢◌, ◌↔◌, ◌≤◌, ℕ, List, [], ◌∷◌, length, map, AllPairs, Contains, Some}
use Rattle.std.specs.List.{AllByRecursion}
use Rattle.swh_base.specs.declared.kind.Kind.{Kind}
use Rattle.swh_base.specs.declared.kind.Kind.TheVariants.{Directory, Snapshot}
use Rattle.swh_base.specs.declared.name.Name.{Name}
use Rattle.swh_base.specs.declared.entry.Entry.{Entry}
use Rattle.swh_base.specs.Directory.{IsEntryName}
use Rattle.swh_base.specs.Limits.{body_limit}
use Rattle.swh_base.specs.Name.{IsByte}
use Rattle.swh_base.specs.Snapshot.{IsSnapshot}
use Rattle.swh_outside.specs.Folder.{FolderEntry, Tree, bytes_at, entries_at}
use Rattle.swh_outside.specs.declared.folder.What.{What}
use Rattle.swh_outside.specs.declared.folder.What.TheVariants.{File, Folder, Other}
use Rattle.swh_model.specs.Archive.{Bodies, body_of}
use Rattle.swh_dirmade.specs.Paths.{child}
use Rattle.swh_dirmade.specs.Snapshots.{head}
use Rattle.swh_dirload.specs.Meaning.{MeansFolder}
use Rattle.swh_dircook.specs.Made.{Made, FolderMade, FileMade, path_in}

-- where what has a path stands in a folder, which itself has the empty path
abbrev pub place_in : List ℕ → List ℕ → List ℕ
place_in out [] = out
place_in out (c ∷ path) = path_in out (c ∷ path)

module _ (out : List ℕ) (made : List Made) where
  -- This was made at the path.
  abbrev pub IsMadeAt : List ℕ → What → Type 0
  IsMadeAt path File = (bytes : List ℕ) × Contains made (FileMade (place_in out path) bytes)
  IsMadeAt path Folder = Contains made (FolderMade (place_in out path))
  IsMadeAt path Other = ⊥

  -- The folder at the path lists just what was made in it, in any order.
  pub record ListsMade (tree : Tree) (path : List ℕ) : Type 0 where
    pub entries : List FolderEntry
    pub are : entries_at tree path ≡ Some entries
    pub once : AllPairs (λ a b. a ≢ b) (map (λ e. e.name) entries)
    pub all : (e : FolderEntry) → Contains entries e ↔ (IsEntryName e.name × IsMadeAt (child path e.name) e.what)

  -- Each file that was made has its bytes, and each folder lists what was made in it.
  pub record HoldsMade (tree : Tree) : Type 0 where
    pub files : (path bytes : List ℕ) → Contains made (FileMade (place_in out path) bytes) → bytes_at tree path ≡ Some bytes
    pub folders : (path : List ℕ) → Contains made (FolderMade (place_in out path)) → ListsMade tree path

-- Each body that is held is within the limit, and stands under its name.
pub record AreGoodBodies (id : Kind → List ℕ → List ℕ) (bodies : Bodies) : Type 0 where
  pub named : (n : Name) (body : List ℕ) → body_of bodies n ≡ Some body → n.id ≡ id n.kind body
  pub short : (n : Name) (body : List ℕ) → body_of bodies n ≡ Some body → length body ≤ body_limit

-- Of each directory among these names the body, if one is held, is made of bytes.
abbrev pub AreOfBytes : Bodies → List Name → Type 0
AreOfBytes bodies names = (n : Name) → Contains names n → (body : List ℕ) → n.kind ≡ Directory → body_of bodies n ≡ Some body → AllByRecursion IsByte body

-- The folder with the listing means a snapshot of the one branch `HEAD`, which leads to this directory.
pub record LoadsBack (id : Kind → List ℕ → List ℕ) (tree : Tree) (text : List ℕ) (root : Name) : Type 0 where
  pub objects : List Entry
  pub body : List ℕ
  pub is_snapshot : IsSnapshot body (head root.id ∷ [])
  pub means : MeansFolder id tree text objects (id Snapshot body)
