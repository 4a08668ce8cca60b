-- Which names a request's body lists: a JSON array (RFC 8259) of core identifiers (SWHID v1.2, core identifiers).
use Rattle.std.specs.Prelude.{◌≡◌, ℕ, ◌≤◌, List, [], ◌∷◌, ◌++◌, map, length, IsUtf8}
use Rattle.std.specs.List.{AllByRecursion}
use Rattle.json.specs.Token as token
use Rattle.json.specs.Token.{Token}
use Rattle.json.specs.Lex.{tokens}
use Rattle.swh_base.specs.declared.name.Name.{Name}
use Rattle.swh_base.specs.Name.{IsName}
use Rattle.swh_swhid.specs.Core.{core_text}

-- how many names a request may list
abbrev pub names_limit : ℕ
names_limit = 1000

-- the core identifier of a name, as a JSON string
abbrev pub name_token : Name → Token
name_token name = token.string (core_text name)

-- the strings of an array's names, and the bracket that closes it
abbrev pub later_tokens : List Name → List Token
later_tokens names = map name_token names ++ token.end_array ∷ []

-- The body is a JSON array of the core identifiers of these names, and they are not too many.
pub record ListsNames (body : List ℕ) (names : List Name) : Type 0 where
  pub utf8 : IsUtf8 body
  pub array : tokens body ≡ token.begin_array ∷ later_tokens names
  pub are_names : AllByRecursion IsName names
  pub few : length names ≤ names_limit

-- The body lists no names.
abbrev pub ListsNone : List ℕ → Type 0
ListsNone body = (names : List Name) → ListsNames body names → ⊥

-- The tokens that are left of an array are those of no list of names.
abbrev pub EndsNone : List Token → Type 0
EndsNone left = (names : List Name) → AllByRecursion IsName names → left ≡ later_tokens names → ⊥

-- More tokens are left than those of so many names.
abbrev pub EndsNoneOf : ℕ → List Token → Type 0
EndsNoneOf most left = (names : List Name) → AllByRecursion IsName names → length names ≤ most → left ≡ later_tokens names → ⊥
