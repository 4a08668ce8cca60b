-- What a writer of JSON has written.
use Rattle.std.specs.Prelude.{◌≡◌, ℕ, List, ◌∷◌, ◌++◌, map, String}
use Rattle.std.specs.declared.alloc.Global.{Global}
use Rattle.json.specs.Token.{Token, key}
use Rattle.json.specs.Tree.{json_tokens}
use Rattle.json.specs.Written.{Written}
use Rattle.serde_json.specs.Data.{Data, Members}
use Rattle.serde_json.specs.View.{members_of}
use Rattle.serde_json.specs.Written.{outline}
use Rattle.swh_snpfmt.specs.declared.branch.SpelledTarget.{SpelledTarget}
use Rattle.swh_snpfmt.specs.Branches.{target_spelled}
use Rattle.swh_replies.specs.Json.{target_data}

-- These tokens stand behind those before, and what stood before all tokens stays.
pub record Adds (old : Written) (more : List Token) (new : Written) : Type 0 where
  pub before : new.before ≡ old.before
  pub tokens : new.tokens ≡ old.tokens ++ more

-- The tokens that are added are the value's.
abbrev pub WritesValue : Written → Data → Written → Type 0
WritesValue old value new = Adds old (json_tokens (outline value)) new

-- The tokens that are added are a key and the value's.
abbrev pub WritesMember : Written → List ℕ → Data → Written → Type 0
WritesMember old name value new = Adds old (key name ∷ json_tokens (outline value)) new

-- what branches lead to, by their names
abbrev pub targets_data : List (String Global × SpelledTarget) → Members
targets_data targets = members_of (map (λ t. (t.0, target_data (target_spelled t.1))) targets)
