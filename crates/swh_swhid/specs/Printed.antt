-- The one printed text of a value: the qualifiers in the order of the keys, origin and path escaped.
use Rattle.std.specs.Prelude.{◌≡◌, ◌≢◌, true, IfSome, ℕ, Option, Some, None, option_map, List, [], ◌∷◌, ◌++◌}
use Rattle.std.specs.List.{AllByRecursion}
use Rattle.swh_base.specs.Escape.{escaped}
use Rattle.swh_base.specs.Name.{IsName, IsByte}
use Rattle.swh_swhid.specs.declared.identifier.Role.TheVariants.{Visit as AsVisit, Anchor as AsAnchor}
use Rattle.swh_swhid.specs.declared.swhid.Swhid.{Swhid}
use Rattle.swh_swhid.specs.declared.swhid.Key.{Key}
use Rattle.swh_swhid.specs.declared.swhid.Key.TheVariants.{Origin, Visit, Anchor, Path, Lines, Bytes}
use Rattle.swh_swhid.specs.Core.{core_text, accepts}
use Rattle.swh_swhid.specs.Number.{range_text, IsRange}
use Rattle.swh_swhid.specs.Qualifier.{key_word}

-- a qualifier after its `;`, if there is one
abbrev pub said : Key → Option (List ℕ) → List ℕ
said key None = []
said key (Some value) = 59 ∷ (key_word key ++ value)

-- a qualifier of a range after its `;`, if there is one
abbrev pub said_range : Key → Option (ℕ × Option ℕ) → List ℕ
said_range key None = []
said_range key (Some range) = 59 ∷ (key_word key ++ range_text range.0 range.1)

-- the core identifier, then what is said of origin, visit, anchor, path, lines and bytes
abbrev pub printed : Swhid → List ℕ
printed s =
    ((((((core_text s.core ++ said Origin (option_map escaped s.origin)) ++ said Visit (option_map core_text s.visit)) ++ said Anchor (option_map core_text s.anchor)) ++ said Path (option_map escaped s.path)) ++ said_range Lines s.lines) ++ said_range Bytes s.bytes)

-- Each is a byte.
abbrev pub AreBytes : List ℕ → Type 0
AreBytes bytes = AllByRecursion IsByte bytes

-- The first byte is a `/`.
abbrev pub BeginsWithSlash : List ℕ → Type 0
BeginsWithSlash [] = ⊥
BeginsWithSlash (c ∷ bytes) = c ≡ 47

-- a value that some text spells
pub record IsValue (s : Swhid) : Type 0 where
  pub named : IsName s.core
  pub origin : IfSome s.origin (λ o. (o ≢ []) × AreBytes o)
  pub visit : IfSome s.visit (λ n. IsName n × (accepts AsVisit n.kind ≡ true))
  pub anchor : IfSome s.anchor (λ n. IsName n × (accepts AsAnchor n.kind ≡ true))
  pub path : IfSome s.path (λ p. BeginsWithSlash p × AreBytes p)
  pub lines : IfSome s.lines (λ r. IsRange 1 r.0 r.1)
  pub bytes : IfSome s.bytes (λ r. IsRange 0 r.0 r.1)
