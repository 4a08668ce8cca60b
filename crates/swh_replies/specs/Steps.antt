-- What comes next in an array of names.
use Rattle.std.specs.Prelude.{◌≡◌, ℕ, List, ◌∷◌}
use Rattle.json.specs.Token as token
use Rattle.json.specs.Token.{Token}
use Rattle.swh_base.specs.declared.name.Name.{Name}
use Rattle.swh_base.specs.Name.{IsName}
use Rattle.swh_swhid.specs.Core.{core_text}
use Rattle.swh_replies.specs.Known.{name_token, EndsNone}
use Rattle.swh_replies.specs.declared.known.Step.{Step}
use Rattle.swh_replies.specs.declared.known.Step.TheVariants.{Next, End, No}

-- The text is a name's core identifier, or none.
abbrev pub IsStepOf : List ℕ → Step → Type 0
IsStepOf text (Next name) = IsName name × (text ≡ core_text name)
IsStepOf text End = ⊥
IsStepOf text No = (name : Name) → IsName name → text ≡ core_text name → ⊥

-- Of the tokens that were left one was taken, which is a name or closes the array; or they are those of no list of names.
abbrev pub Steps : List Token → Step → List Token → Type 0
Steps old (Next name) new = IsName name × (old ≡ name_token name ∷ new)
Steps old End new = old ≡ token.end_array ∷ new
Steps old No new = EndsNone old
