-- What breaks in the run of a batch. A run is read from the place that its record names up to the other, its objects one
-- after another.
use Rattle.std.specs.Prelude.{◌≡◌, ◌≢◌, ◌⊎◌, ◌+◌, ◌-◌, ◌≤◌, ◌<◌, ◌^◌, ℕ, max, List, ◌∷◌, ◌++◌, length, take, drop}
use Rattle.std.specs.List.{AllByRecursion}
use Rattle.std.specs.Int.{w64, to_be_bytes}
use Rattle.swh_base.specs.declared.kind.Kind.{Kind}
use Rattle.swh_base.specs.declared.entry.Entry.{Entry}
use Rattle.swh_base.specs.Name.{kind_number}
use Rattle.swh_base.specs.Limits.{body_limit}
use Rattle.swh_base.specs.Manifest.{IsWellFormed}
use Rattle.swh_object.specs.Object.{IsObject, IsBadBody}
use Rattle.swh_format.specs.StoredObject.{coded_run, IsCodableEntry}
use Rattle.swh_recovery.specs.declared.harm.Harm.TheVariants.{Body, Name}
use Rattle.swh_recovery.specs.declared.harm.Found.{Found}
use Rattle.swh_format.specs.Fields.{Contents, Spells}
use Rattle.swh_format.specs.Kinds.{head_fields}
use Rattle.swh_recovery.specs.Fields.{found_at, IsCut, FieldsBreak}

-- the body's length, as the fields of a head say
abbrev pub head_size : Contents head_fields → ℕ
head_size c = c.1.0

-- The bytes begin with all that stands of an object.
pub record BeginsObject (bytes : List ℕ) : Type 0 where
  pub kind : Kind
  pub id : List ℕ
  pub body : List ℕ
  pub rest : List ℕ
  pub spelled : bytes ≡ kind_number kind ∷ (to_be_bytes w64 (length body) ++ (id ++ (body ++ rest)))
  pub twenty : length id ≡ 20
  pub fits : length body < 2 ^ 64

-- The body is above the limit, which is told, or else its kind's reader refuses it at this place.
abbrev pub IsRefusedBody : Kind → List ℕ → ℕ → Type 0
IsRefusedBody kind body at = ((body_limit < length body) × (at ≡ body_limit)) ⊎ ((length body ≤ body_limit) × IsBadBody kind body at)

-- The body has fewer bytes than its length says.
pub record BodyIsCut (bytes : List ℕ) (at : ℕ) (found : Found) : Type 0 where
  pub head : Spells head_fields bytes
  pub cut : IsCut (head_size head.holds) head.behind (at + 29) found

-- The body is none of its kind, or above the limit.
pub record BodyBreaks (bytes : List ℕ) (at : ℕ) (found : Found) : Type 0 where
  pub object : BeginsObject bytes
  pub place : ℕ
  pub refused : IsRefusedBody object.kind object.body place
  pub found_is : found ≡ found_at (at + 29) (Body place)

module _ (id_of : Kind → List ℕ → List ℕ) where
  -- The body is one of its kind and within the limit, and the id is not its id.
  pub record NameBreaks (bytes : List ℕ) (at : ℕ) (found : Found) : Type 0 where
    pub object : BeginsObject bytes
    pub well_formed : IsWellFormed object.kind object.body
    pub short : length object.body ≤ body_limit
    pub other : object.id ≢ id_of object.kind object.body
    pub found_is : found ≡ found_at (at + 9) (Name object.id (id_of object.kind object.body))

  -- The bytes, which stand from this place on, do not begin with an object that is one of its kind and is named: its kind,
  -- its length or its id breaks, or else its body is cut, or else its body breaks, or else its name.
  abbrev pub ObjectBreaks : List ℕ → ℕ → Found → Type 0
  ObjectBreaks bytes at found = FieldsBreak head_fields bytes at found ⊎ (BodyIsCut bytes at found ⊎ (BodyBreaks bytes at found ⊎ NameBreaks bytes at found))

  -- These objects are of their kinds and named, and fit what the store says of them.
  pub record AreObjects (es : List Entry) : Type 0 where
    pub good : AllByRecursion (IsObject id_of) es
    pub codable : AllByRecursion IsCodableEntry es

  -- In the store a run begins at the first place with these objects.
  pub record BeginsRun (from : ℕ) (store : List ℕ) (es : List Entry) : Type 0 where
    pub objects : AreObjects es
    pub rest : List ℕ
    pub begins : drop from store ≡ coded_run es ++ rest

  -- These objects are a run from the first place to the second, or none where that is not behind the first.
  pub record IsRun (from to : ℕ) (es : List Entry) : Type 0 where
    pub objects : AreObjects es
    pub ends : from + length (coded_run es) ≡ max from to

  -- The run that begins at the first place ends after these objects at the second, or holds none where that is not behind
  -- the first.
  pub record HoldsRun (from to : ℕ) (store : List ℕ) (es : List Entry) : Type 0 where
    pub run : BeginsRun from store es
    pub ends : from + length (coded_run es) ≡ max from to

  -- After some objects the run does not end, and of the bytes up to its end the next object breaks.
  pub record RunBreaks (from to : ℕ) (store : List ℕ) (found : Found) : Type 0 where
    pub before : List Entry
    pub run : BeginsRun from store before
    pub goes_on : from + length (coded_run before) < to
    pub breaks : ObjectBreaks (take (to - (from + length (coded_run before))) run.rest) (from + length (coded_run before)) found
