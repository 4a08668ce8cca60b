-- The directory of a folder with its listing.
use Rattle.std.specs.Prelude.{◌≡◌, ℕ, List, []}
use Rattle.swh_base.specs.declared.kind.Kind.{Kind}
use Rattle.swh_base.specs.declared.entry.Entry.{Entry}
use Rattle.swh_base.specs.Directory.{DirectoryEntry}
use Rattle.swh_outside.specs.Folder.{Tree}
use Rattle.swh_object.specs.Object.{IsObject}
use Rattle.swh_dirmade.specs.Directories.{AreDirectories, directory_id}
use Rattle.swh_dirmade.specs.Making.{directory_name}
use Rattle.swh_dirmade.specs.Spots.{Places}
use Rattle.swh_dirload.specs.Items.{Item}
use Rattle.swh_dirload.specs.Meaning.{AreShort, ReadsBoth}

module _ (id : Kind → List ℕ → List ℕ) where
  -- The directory of the folder itself has this id.
  pub record HasRoot (tree : Tree) (text root : List ℕ) : Type 0 where
    pub items : List Item
    pub places : Places
    pub contents : List Entry
    pub reads : ReadsBoth id tree text items places contents
    pub short : AreShort places items
    pub entries : List ℕ → List DirectoryEntry
    pub directories : AreDirectories id places entries
    pub named : root ≡ directory_id id (entries [])

  -- Some directory has this id.
  pub record IsOfDirectory (root : List ℕ) : Type 0 where
    pub object : Entry
    pub is : IsObject id object
    pub named : object.name ≡ directory_name root
