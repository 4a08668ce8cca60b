-- What the readers answer.
use Rattle.std.specs.Prelude.{◌≡◌, ◌≢◌, ℕ, ◌<◌, ◌≤◌, false, List, ◌∷◌, ◌++◌, length, take, slice_index, codes, Result, Ok, Err}
use Rattle.std.specs.List.{AllPass}
use Rattle.swh_base.specs.declared.kind.Kind.{Kind}
use Rattle.swh_base.specs.declared.kind.Kind.TheVariants.{Snapshot, Revision as RevisionKind, Release as ReleaseKind}
use Rattle.swh_base.specs.Kind.{word_of}
use Rattle.swh_base.specs.Name.{is_lower_hex_digit, IsId}
use Rattle.swh_base.specs.Revision.{Revision, id_line}
use Rattle.swh_base.specs.Release.{Release}
use Rattle.swh_revfmt.specs.declared.revision.Rev.{Rev}
use Rattle.swh_revfmt.specs.declared.revision.SpelledRev.{SpelledRev}
use Rattle.swh_revfmt.specs.declared.release.Rel.{Rel}
use Rattle.swh_revfmt.specs.declared.release.SpelledRel.{SpelledRel}
use Rattle.swh_revfmt.specs.declared.fault.ReadRevFault.{ReadRevFault}
use Rattle.swh_revfmt.specs.declared.fault.ReadRevFault.TheVariants.{Memory as RevMemory, Bad as RevBad}
use Rattle.swh_revfmt.specs.declared.fault.ReadRelFault.{ReadRelFault}
use Rattle.swh_revfmt.specs.declared.fault.ReadRelFault.TheVariants.{Memory as RelMemory, Bad as RelBad}
use Rattle.swh_revfmt.specs.Fault.{IsRevFault}

-- the parts of a revision of their own, as the grammar's
abbrev pub revision_of : Rev → Revision
revision_of rev = record { directory = rev.directory; parents = rev.parents; rest = rev.rest }

-- the parts of a release of their own, as the grammar's
abbrev pub release_of : Rel → Release
release_of rel = record { object = rel.object; tag = rel.tag; rest = rel.rest }

-- the parts of a revision that stand in a body, as the grammar's
abbrev pub revision_spelled : SpelledRev → Revision
revision_spelled rev = record { directory = rev.directory; parents = rev.parents; rest = rev.rest.now }

-- the parts of a release that stand in a body, as the grammar's
abbrev pub release_spelled : SpelledRel → Release
release_spelled rel = record { object = rel.object; tag = rel.tag.now; rest = rel.rest.now }

-- The bytes begin with no line of this word and an id.
abbrev pub NotLine : List ℕ → List ℕ → Type 0
NotLine word bytes = (id rest : List ℕ) → IsId id → bytes ≡ id_line word id ++ rest → ⊥

-- the line that names an object's kind, and the word of the line after it
abbrev pub type_text : Kind → List ℕ
type_text kind = codes "type " ++ (word_of kind ++ 10 ∷ codes "tag ")

-- These many bytes at the front are those of the line, and no more.
pub record IsCommonFront (line bytes : List ℕ) (n : ℕ) : Type 0 where
  pub in_line : n ≤ length line
  pub in_bytes : n ≤ length bytes
  pub same : take n bytes ≡ take n line
  pub stops : n < length line → n < length bytes → slice_index bytes n ≢ slice_index line n

-- These many bytes at the front are digits of an id, and no more.
pub record IsIdDigitsFront (bytes : List ℕ) (n : ℕ) : Type 0 where
  pub few : n ≤ 40
  pub in_bytes : n ≤ length bytes
  pub digits : AllPass is_lower_hex_digit (take n bytes)
  pub stops : n < 40 → n < length bytes → is_lower_hex_digit (slice_index bytes n) ≡ false

-- Some line of this word and an id begins with these many bytes, and none with more.
pub record IsLinePlace (word bytes : List ℕ) (n : ℕ) : Type 0 where
  pub in_bytes : n ≤ length bytes
  pub id : List ℕ
  pub more : List ℕ
  pub is_id : IsId id
  pub begins : take n bytes ++ more ≡ id_line word id
  pub longest : (m : ℕ) (other others rest : List ℕ) → n < m → m ≤ length bytes → IsId other → take m bytes ++ others ≡ id_line word other ++ rest → ⊥

-- Some kind's line begins with these many bytes, and none with more.
pub record IsTypePlace (bytes : List ℕ) (n : ℕ) : Type 0 where
  pub in_bytes : n ≤ length bytes
  pub kind : Kind
  pub no_snapshot : kind ≢ Snapshot
  pub begins : take n bytes ≡ take n (type_text kind)
  pub none : (other : Kind) (rest : List ℕ) → other ≢ Snapshot → bytes ≡ type_text other ++ rest → ⊥
  pub longest : (m : ℕ) (other : Kind) (others rest : List ℕ) → n < m → m ≤ length bytes → other ≢ Snapshot → take m bytes ++ others ≡ type_text other ++ rest → ⊥

-- The fault is the place where the bytes cease to be those of a revision. Of want of memory nothing is said.
abbrev pub ExplainsRev : List ℕ → ReadRevFault → Type 0
ExplainsRev body RevMemory = Unit {0}
ExplainsRev body (RevBad bad) = IsRevFault RevisionKind body bad.at

-- The fault is the place where the bytes cease to be those of a release. Of want of memory nothing is said.
abbrev pub ExplainsRel : List ℕ → ReadRelFault → Type 0
ExplainsRel body RelMemory = Unit {0}
ExplainsRel body (RelBad bad) = IsRevFault ReleaseKind body bad.at

-- The answer is these parts of a revision, or memory ran out.
abbrev pub GivesRev : Result Rev ReadRevFault → Revision → Type 0
GivesRev (Ok rev) revision = revision_of rev ≡ revision
GivesRev (Err RevMemory) revision = Unit {0}
GivesRev (Err (RevBad bad)) revision = ⊥

-- The answer is these parts of a release, or memory ran out.
abbrev pub GivesRel : Result Rel ReadRelFault → Release → Type 0
GivesRel (Ok rel) release = release_of rel ≡ release
GivesRel (Err RelMemory) release = Unit {0}
GivesRel (Err (RelBad bad)) release = ⊥
