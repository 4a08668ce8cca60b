-- Plain revisions and releases: those whose rest is an author, a committer and a message, or a tagger and a message.
use Rattle.std.specs.Prelude.{◌≡◌, ◌≢◌, ℕ, ◌≤◌, Option, Some, None, IfSome, List, [], ◌∷◌, ◌++◌, length, Contains, codes}
use Rattle.swh_base.specs.declared.kind.Kind.TheVariants.{Directory}
use Rattle.swh_base.specs.declared.name.Name.{Name}
use Rattle.swh_base.specs.Limits.{line_limit, tag_limit}
use Rattle.swh_base.specs.Text.{IsRef, IsPerson}
use Rattle.swh_base.specs.Revision.{revision_text, IsRevision}
use Rattle.swh_base.specs.Release.{release_text, IsRelease}

-- a line of a word and a text
abbrev pub text_line : List ℕ → List ℕ → List ℕ
text_line word text = word ++ (text ++ 10 ∷ [])

-- The text is a person, and its line is not too long.
pub record IsPersonLine (word text : List ℕ) : Type 0 where
  pub person : IsPerson text
  pub short : length (text_line word text) ≤ line_limit

-- The text has a byte and no NUL, and its line is one and not too long.
pub record IsEncoding (text : List ℕ) : Type 0 where
  pub some : text ≢ []
  pub no_nul : Contains text 0 → ⊥
  pub one_line : Contains text 10 → ⊥
  pub short : length (text_line (codes "encoding ") text) ≤ line_limit

-- a line of a word and a text, or nothing
abbrev pub optional_line : List ℕ → Option (List ℕ) → List ℕ
optional_line word None = []
optional_line word (Some text) = text_line word text

-- the rest of a plain revision
pub record RevisionRest : Type 0 where
  pub author : List ℕ
  pub committer : List ℕ
  pub encoding : Option (List ℕ)
  pub message : List ℕ

-- the lines of author and committer, that of an encoding where there is one, an empty line and the message
abbrev pub revision_rest : RevisionRest → List ℕ
revision_rest r = text_line (codes "author ") r.author ++ (text_line (codes "committer ") r.committer ++ (optional_line (codes "encoding ") r.encoding ++ 10 ∷ r.message))

-- The bytes are the rest of a plain revision.
pub record IsRevisionRest (bytes : List ℕ) (r : RevisionRest) : Type 0 where
  pub text : bytes ≡ revision_rest r
  pub author : IsPersonLine (codes "author ") r.author
  pub committer : IsPersonLine (codes "committer ") r.committer
  pub encoding : IfSome r.encoding IsEncoding

-- the directory's id, the parents' ids, and the rest
pub record PlainRevision : Type 0 where
  pub directory : List ℕ
  pub parents : List (List ℕ)
  pub rest : RevisionRest

-- The body is a plain revision with these parts.
pub record IsPlainRevision (body : List ℕ) (p : PlainRevision) : Type 0 where
  pub bytes : List ℕ
  pub revision : IsRevision body (record { directory = p.directory; parents = p.parents; rest = bytes })
  pub rest : IsRevisionRest bytes p.rest

-- the body of a plain revision
abbrev pub plain_revision_text : PlainRevision → List ℕ
plain_revision_text p = revision_text (record { directory = p.directory; parents = p.parents; rest = revision_rest p.rest })

-- the rest of a plain release
pub record ReleaseRest : Type 0 where
  pub tagger : Option (List ℕ)
  pub message : List ℕ

-- the line of a tagger where there is one, an empty line and the message
abbrev pub release_rest : ReleaseRest → List ℕ
release_rest r = optional_line (codes "tagger ") r.tagger ++ 10 ∷ r.message

-- The bytes are the rest of a plain release.
pub record IsReleaseRest (bytes : List ℕ) (r : ReleaseRest) : Type 0 where
  pub text : bytes ≡ release_rest r
  pub tagger : IfSome r.tagger (λ text. IsPersonLine (codes "tagger ") text)

-- the object's name, the tag's name, and the rest
pub record PlainRelease : Type 0 where
  pub object : Name
  pub tag : List ℕ
  pub rest : ReleaseRest

-- the body of a plain release
abbrev pub plain_release_text : PlainRelease → List ℕ
plain_release_text p = release_text (record { object = p.object; tag = p.tag; rest = release_rest p.rest })

-- A ref that is a tag's name, so that `refs/tags/` and it are a ref.
pub record IsTagName (tag : List ℕ) : Type 0 where
  pub ref : IsRef tag
  pub short : length tag ≤ tag_limit

-- The body is a plain release with these parts: of no directory, with the name of a ref.
pub record IsPlainRelease (body : List ℕ) (p : PlainRelease) : Type 0 where
  pub bytes : List ℕ
  pub release : IsRelease body (record { object = p.object; tag = p.tag; rest = bytes })
  pub no_directory : p.object.kind ≢ Directory
  pub tag : IsTagName p.tag
  pub rest : IsReleaseRest bytes p.rest
