-- How a command is spelled.
use Rattle.std.specs.Prelude.{◌≡◌, ◌≢◌, ◌==◌, ◌&&◌, ℕ, Bool, true, false, List, [], ◌∷◌, Option, Some, None, IsSomeAnd, option_map, if◌then◌else◌, codes, chars}
use Rattle.std.specs.Str.{bytes_eq}
use Rattle.clap.specs.Words.{first_of, subcommand_of}
use Rattle.swh_base.specs.declared.kind.Kind.{Kind}
use Rattle.swh_words.specs.Definition.{program_app}
use Rattle.swh_base.specs.Kind.{kind_letters}

-- one character or more
abbrev pub is_nonempty : List ℕ → Bool
is_nonempty [] = false
is_nonempty (c ∷ rest) = true

-- the word is a `-` (45) with a character or more after it
abbrev pub is_flag : List ℕ → Bool
is_flag [] = false
is_flag (b ∷ rest) = b == 45 && is_nonempty (chars rest)

-- The values that words give. Up to the first `--` each word is a value, and where one of these is a flag there are
-- none; the `--` itself is no value, and behind it each word is one.
abbrev pub values_given : List (List ℕ) → Option (List (List ℕ))
values_given [] = Some []
values_given (word ∷ rest) =
    if bytes_eq word (codes "--") then Some rest
    else if is_flag word then None
    else option_map (λ values. word ∷ values) (values_given rest)

-- the first word, and the values that the words after it give
abbrev pub spelling_of : List (List ℕ) → Option (List (List ℕ))
spelling_of [] = None
spelling_of (name ∷ rest) = option_map (λ values. name ∷ values) (values_given rest)

-- the letters of no kind
abbrev pub IsNoKind : List ℕ → Type 0
IsNoKind letters = (kind : Kind) → letters ≢ kind_letters kind

-- `identify`, of no kind
abbrev pub NamesNoKind : List (List ℕ) → Type 0
NamesNoKind words =
    IsSomeAnd (subcommand_of program_app words) (λ given. (given.0 ≡ codes "identify") × IsSomeAnd (first_of (codes "kind") given.1) IsNoKind)
