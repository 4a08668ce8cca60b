-- Core identifiers: SWHID v1.2, core identifiers.
use Rattle.std.specs.Prelude.{◌≡◌, ℕ, Bool, true, false, if◌then◌else◌, List, [], ◌∷◌, ◌++◌, codes}
use Rattle.hex.specs.Hex.{encode_lower}
use Rattle.swh_base.specs.Name.{IsName, IsIdText}
use Rattle.swh_base.specs.declared.kind.Kind.{Kind}
use Rattle.swh_base.specs.Kind.{kind_letters}
use Rattle.swh_base.specs.declared.kind.Kind.TheVariants.{Content, Snapshot}
use Rattle.swh_base.specs.declared.name.Name.{Name}
use Rattle.swh_swhid.specs.Front.{common, Chosen}
use Rattle.swh_swhid.specs.declared.identifier.Role.{Role}
use Rattle.swh_swhid.specs.declared.identifier.Role.TheVariants.{Text, Visit, Anchor}

-- the letters of a kind and the colon after them
abbrev pub kind_word : Kind → List ℕ
kind_word kind = kind_letters kind ++ 58 ∷ []

-- the scheme and its version
abbrev pub lead : List ℕ
lead = codes "swh:1:"

-- `swh:1:`, the kind's letters, a colon, and forty lower-case digits
abbrev pub core_text : Name → List ℕ
core_text name = lead ++ (kind_word name.kind ++ encode_lower name.id)

-- Any kind stands at the head of a text, a snapshot as a visit, and all but contents as an anchor.
abbrev pub accepts : Role → Kind → Bool
accepts Text kind = true
accepts Visit Snapshot = true
accepts Visit _ = false
accepts Anchor Content = false
accepts Anchor _ = true

-- The text is the core identifier of the name, which may stand at this place.
pub record IsCore (place : Role) (text : List ℕ) (name : Name) : Type 0 where
  pub accepted : accepts place name.kind ≡ true
  pub named : IsName name
  pub spelled : text ≡ core_text name

-- The text is a core identifier.
pub record HasCore (place : Role) (text : List ℕ) : Type 0 where
  pub name : Name
  pub core : IsCore place text name

-- a kind's word and an id
abbrev pub KindAndId : Role → List ℕ → Type 0
KindAndId place = Chosen Kind kind_word (accepts place) (λ _. IsIdText)

-- how far a text goes along with a kind's word, where the kind may stand here
abbrev pub along : Role → Kind → List ℕ → ℕ
along place kind text = if accepts place kind then common (kind_word kind) text else 0
