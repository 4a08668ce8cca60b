-- Qualifiers: SWHID v1.2, qualified identifiers. Each says one thing of the value.
use Rattle.std.specs.Prelude.{◌≡◌, ℕ, Bool, true, Option, Some, None, is_none, List, [], ◌∷◌, ◌++◌, codes}
use Rattle.std.specs.List.{flat_map}
use Rattle.percent_encoding.specs.Percent.{percent_decode}
use Rattle.swh_base.specs.declared.name.Name.{Name}
use Rattle.swh_base.specs.Name.{IsName}
use Rattle.swh_swhid.specs.declared.identifier.Role.TheVariants.{Visit as AsVisit, Anchor as AsAnchor}
use Rattle.swh_swhid.specs.declared.swhid.Swhid.{Swhid}
use Rattle.swh_swhid.specs.declared.swhid.Key.{Key}
use Rattle.swh_swhid.specs.declared.swhid.Key.TheVariants.{Origin, Visit, Anchor, Path, Lines, Bytes}
use Rattle.swh_swhid.specs.Front.{Chosen}
use Rattle.swh_swhid.specs.Core.{core_text, IsCore, HasCore}
use Rattle.swh_swhid.specs.Number.{IsRange, HasRange, range_text}
use Rattle.swh_swhid.specs.Text.{IsOriginText, IsPathText}

-- a qualifier's key and the `=` after it
abbrev pub key_word : Key → List ℕ
key_word Origin = codes "origin="
key_word Visit = codes "visit="
key_word Anchor = codes "anchor="
key_word Path = codes "path="
key_word Lines = codes "lines="
key_word Bytes = codes "bytes="

-- The value lacks what the key says.
abbrev pub is_free : Swhid → Key → Bool
is_free s Origin = is_none s.origin
is_free s Visit = is_none s.visit
is_free s Anchor = is_none s.anchor
is_free s Path = is_none s.path
is_free s Lines = is_none s.lines
is_free s Bytes = is_none s.bytes

-- what stands after a key
abbrev pub IsValueText : Key → List ℕ → Type 0
IsValueText Origin = IsOriginText
IsValueText Visit = HasCore AsVisit
IsValueText Anchor = HasCore AsAnchor
IsValueText Path = IsPathText
IsValueText Lines = HasRange 1
IsValueText Bytes = HasRange 0

-- The text is a snapshot's core identifier, and the first becomes the second with it as the visit.
pub record SaysVisit (text : List ℕ) (s t : Swhid) : Type 0 where
  pub name : Name
  pub core : IsCore AsVisit text name
  pub becomes : t ≡ record s { visit = Some name }

-- The text is the core identifier of no content, and the first becomes the second with it as the anchor.
pub record SaysAnchor (text : List ℕ) (s t : Swhid) : Type 0 where
  pub name : Name
  pub core : IsCore AsAnchor text name
  pub becomes : t ≡ record s { anchor = Some name }

-- The text is a range of lines, from 1, and the first becomes the second with it.
pub record SaysLines (text : List ℕ) (s t : Swhid) : Type 0 where
  pub first : ℕ
  pub more : Option ℕ
  pub range : IsRange 1 first more
  pub spelled : text ≡ range_text first more
  pub becomes : t ≡ record s { lines = Some (first, more) }

-- The text is a range of bytes, from 0, and the first becomes the second with it.
pub record SaysBytes (text : List ℕ) (s t : Swhid) : Type 0 where
  pub first : ℕ
  pub more : Option ℕ
  pub range : IsRange 0 first more
  pub spelled : text ≡ range_text first more
  pub becomes : t ≡ record s { bytes = Some (first, more) }

-- With the key's value of this text the first becomes the second.
abbrev pub Says : Key → List ℕ → Swhid → Swhid → Type 0
Says Origin text s t = IsOriginText text × (t ≡ record s { origin = Some (percent_decode text) })
Says Visit text s t = SaysVisit text s t
Says Anchor text s t = SaysAnchor text s t
Says Path text s t = IsPathText text × (t ≡ record s { path = Some (percent_decode text) })
Says Lines text s t = SaysLines text s t
Says Bytes text s t = SaysBytes text s t

-- The piece is a qualifier that says something new, and with it the first becomes the second.
pub record AddsQualifier (s : Swhid) (piece : List ℕ) (t : Swhid) : Type 0 where
  pub key : Key
  pub free : is_free s key ≡ true
  pub value : List ℕ
  pub spelled : piece ≡ key_word key ++ value
  pub says : Says key value s t

-- a qualifier that may come next
abbrev pub MayComeNext : Swhid → List ℕ → Type 0
MayComeNext s = Chosen Key key_word (is_free s) IsValueText

-- The pieces are qualifiers, and with them the first becomes the second.
abbrev pub AddAll : List (List ℕ) → Swhid → Swhid → Type 0
AddAll [] s t = s ≡ t
AddAll (piece ∷ pieces) s t = (m : Swhid) × AddsQualifier s piece m × AddAll pieces m t

-- each piece after a `;`
abbrev pub pieces_text : List (List ℕ) → List ℕ
pieces_text pieces = flat_map (λ piece. 59 ∷ piece) pieces

-- a name without qualifiers
abbrev pub unqualified : Name → Swhid
unqualified name = record { core = name; origin = None; visit = None; anchor = None; path = None; lines = None; bytes = None }

-- The text is a SWHID of this value: a core identifier, and qualifiers in any order, each after a `;`.
pub record IsSwhid (text : List ℕ) (s : Swhid) : Type 0 where
  pub name : Name
  pub pieces : List (List ℕ)
  pub named : IsName name
  pub spelled : text ≡ core_text name ++ pieces_text pieces
  pub adds : AddAll pieces (unqualified name) s

-- The text is a SWHID.
pub record HasSwhid (text : List ℕ) : Type 0 where
  pub swhid : Swhid
  pub is : IsSwhid text swhid
