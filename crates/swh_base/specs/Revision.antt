-- Revision bodies (git objects, commit): a directory, parents, and the rest.
use Rattle.std.specs.Prelude.{◌≡◌, ℕ, List, [], ◌∷◌, ◌++◌, map, codes}
use Rattle.std.specs.List.{flat_map, AllByRecursion}
use Rattle.hex.specs.Hex.{encode_lower}
use Rattle.swh_base.specs.declared.kind.Kind.TheVariants.{Directory as DirectoryKind, Revision as RevisionKind}
use Rattle.swh_base.specs.declared.name.Name.{Name}
use Rattle.swh_base.specs.Name.{IsId}

-- the directory's id, the parents' ids in order, and every byte after the last whole parent line
pub record Revision : Type 0 where
  pub directory : List ℕ
  pub parents : List (List ℕ)
  pub rest : List ℕ

-- a word, an id's forty digits and an LF
abbrev pub id_line : List ℕ → List ℕ → List ℕ
id_line word id = word ++ (encode_lower id ++ 10 ∷ [])

-- the line that names a parent
abbrev pub parent_line : List ℕ → List ℕ
parent_line id = id_line (codes "parent ") id

-- the line `tree`, the lines of the parents, and the rest
abbrev pub revision_text : Revision → List ℕ
revision_text r = id_line (codes "tree ") r.directory ++ (flat_map parent_line r.parents ++ r.rest)

-- The bytes begin with a whole parent line.
pub record BeginsParent (bytes : List ℕ) : Type 0 where
  pub id : List ℕ
  pub more : List ℕ
  pub is_id : IsId id
  pub text : bytes ≡ parent_line id ++ more

-- The body is a revision with these parts: as many whole parent lines as stand there are parents.
pub record IsRevision (body : List ℕ) (r : Revision) : Type 0 where
  pub text : body ≡ revision_text r
  pub directory : IsId r.directory
  pub parents : AllByRecursion IsId r.parents
  pub no_more : BeginsParent r.rest → ⊥

-- the name of the revision with this id
abbrev pub revision_name : List ℕ → Name
revision_name id = record { kind = RevisionKind; id = id }

-- the directory, then the parents
abbrev pub revision_children : Revision → List Name
revision_children r = record { kind = DirectoryKind; id = r.directory } ∷ map revision_name r.parents

-- These names are the children of a revision's body.
pub record AreRevisionChildren (body : List ℕ) (names : List Name) : Type 0 where
  pub revision : Revision
  pub is : IsRevision body revision
  pub kids : names ≡ revision_children revision
