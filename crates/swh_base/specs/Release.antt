-- Release bodies (git objects, tag): an object, its kind's word, a name, and the rest.
use Rattle.std.specs.Prelude.{◌≡◌, ◌≢◌, ℕ, List, [], ◌∷◌, ◌++◌, Contains, codes}
use Rattle.swh_base.specs.declared.kind.Kind.TheVariants.{Snapshot}
use Rattle.swh_base.specs.declared.name.Name.{Name}
use Rattle.swh_base.specs.Kind.{word_of}
use Rattle.swh_base.specs.Name.{IsName}
use Rattle.swh_base.specs.Revision.{id_line}

-- the object's name, the tag's name, and every byte after the line of the tag's name
pub record Release : Type 0 where
  pub object : Name
  pub tag : List ℕ
  pub rest : List ℕ

-- the lines `object`, `type` and `tag`, and the rest
abbrev pub release_text : Release → List ℕ
release_text r = id_line (codes "object ") r.object.id ++ (codes "type " ++ (word_of r.object.kind ++ 10 ∷ (codes "tag " ++ (r.tag ++ 10 ∷ r.rest))))

-- The body is a release with these parts.
pub record IsRelease (body : List ℕ) (r : Release) : Type 0 where
  pub text : body ≡ release_text r
  pub object : IsName r.object
  pub no_snapshot : r.object.kind ≢ Snapshot
  pub one_line : Contains r.tag 10 → ⊥

-- the object alone
abbrev pub release_children : Release → List Name
release_children r = r.object ∷ []

-- These names are the children of a release's body.
pub record AreReleaseChildren (body : List ℕ) (names : List Name) : Type 0 where
  pub release : Release
  pub is : IsRelease body release
  pub kids : names ≡ release_children release
