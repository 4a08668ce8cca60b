-- What was made of a name, read as an input is read, is the name again.
use Rattle.std.specs.Prelude.{◌≡◌, ℕ, Some, Option, List, [], ◌∷◌, Contains}
use Rattle.swh_base.specs.declared.kind.Kind.{Kind}
use Rattle.swh_base.specs.declared.kind.Kind.TheVariants.{Content, Directory, Revision, Release, Snapshot}
use Rattle.swh_base.specs.declared.name.Name.{Name}
use Rattle.swh_outside.specs.Folder.{Tree}
use Rattle.swh_model.specs.Archive.{Bodies, body_of}
use Rattle.swh_postorder.specs.Postorder.{IsPostorder}
use Rattle.swh_dircook.specs.Made.{Made, FileMade, listing_path}
use Rattle.swh_cook.specs.FolderBack as folder
use Rattle.swh_roundtrip.specs.LoadsBack as stream

-- `id` gives the id of a kind and a body.
module _ (id : Kind → List ℕ → List ℕ) (bodies : Bodies) (children_of : Name → Option (List Name)) (root : Name) (out : List ℕ) where
  -- This is the one file of the body that is held under the root.
  pub record IsBodyAgain (made : List Made) : Type 0 where
    pub body : List ℕ
    pub held : body_of bodies root ≡ Some body
    pub are : made ≡ FileMade out body ∷ []

  -- A listing stands beside the folder, and with it each folder that holds just what was made means a snapshot of the one
  -- branch `HEAD` to the root.
  pub record IsFolderAgain (made : List Made) : Type 0 where
    pub listing : List ℕ
    pub beside : Contains made (FileMade (listing_path out) listing)
    pub back : (tree : Tree) → folder.HoldsMade out made tree → folder.LoadsBack id tree listing root

  -- This is the one file of a stream that, with this head, means the snapshot that the root loads as, and nothing beside it
  -- but what is held.
  pub record IsStreamAgain (made : List Made) (head : Option (List ℕ)) : Type 0 where
    pub text : List ℕ
    pub are : made ≡ FileMade out text ∷ []
    pub order : List Name
    pub is_order : IsPostorder children_of root order
    pub back : stream.LoadsBack id bodies order root head text

  -- What was made of a root of this kind is the root again.
  abbrev pub IsAgainOf : Kind → List Made → Option (List ℕ) → Type 0
  IsAgainOf Content made head = IsBodyAgain made
  IsAgainOf Directory made head = IsFolderAgain made
  IsAgainOf Revision made head = IsStreamAgain made head
  IsAgainOf Release made head = IsStreamAgain made head
  IsAgainOf Snapshot made head = IsStreamAgain made head

  -- What was made of the root, with this head, is the root again, by the readers' own definitions: of a content a file of its
  -- body, of a directory a folder that loads as it, and of each other root a stream that does.
  abbrev pub IsAgain : List Made → Option (List ℕ) → Type 0
  IsAgain made head = IsAgainOf root.kind made head
