-- Arrays of names: what goes on from the tokens that were read.
use Rattle.std.proofs.Common.{◌≡◌, ◌≢◌, ℕ, ◌<◌, ◌≤◌, Option, Some, None, IfSome, IfNone, Vec, Global, Bor, subst, List, [], ◌∷◌, ◌++◌, map, length, refl, sym, ap, ◌∙◌, arith, append_assoc}
use Rattle.std.proofs.lemmas.List.{map_push}
use Rattle.std.specs.List.{AllByRecursion}
use Rattle.json.specs.Token as token
use Rattle.json.specs.Token.{Token}
use Rattle.json.specs.Reads.{token_of}
use Rattle.json.specs.declared.token.Token.{Token as Read}
use Rattle.json.specs.declared.token.Token.TheVariants as read
use Rattle.swh_base.specs.declared.name.Name.{Name}
use Rattle.swh_base.specs.Name.{IsName}
use Rattle.swh_swhid.specs.Core.{core_text}
use Rattle.swh_replies.specs.Known.{names_limit, name_token, later_tokens, EndsNone, EndsNoneOf}
use Rattle.swh_replies.specs.Steps.{IsStepOf, Steps}
use Rattle.swh_replies.specs.declared.known.Step.{Step}
use Rattle.swh_replies.specs.declared.known.Step.TheVariants.{Next, End, No}

-- ---- tokens of no list of names

pub other_text : (left rest : List Token) (text : List ℕ) → left ≡ token.string text ∷ rest → ((name : Name) → IsName name → text ≡ core_text name → ⊥) → EndsNone left
other_text left rest text e none [] good is = absurd (let both = sym e ∙ is in cc)
other_text left rest text e none (n ∷ names) good is =
    let both = sym e ∙ is in
    let same : text ≡ core_text n = cc in
    none n good.0 same

-- a token that is no string and closes no array
pub record IsOther (t : Token) : Type 0 where
  pub no_string : (text : List ℕ) → t ≢ token.string text
  pub no_end : t ≢ token.end_array

pub other_token : (left rest : List Token) (t : Token) → left ≡ t ∷ rest → IsOther t → EndsNone left
other_token left rest t e other [] good is =
    let both = sym e ∙ is in
    let same : t ≡ token.end_array = cc in
    other.no_end same
other_token left rest t e other (n ∷ names) good is =
    let both = sym e ∙ is in
    let same : t ≡ token.string (core_text n) = cc in
    other.no_string (core_text n) same

-- ---- after the names so far

-- the names so far, and no list of names behind them
pub names_then_none : (so_far : List Name) (old left : List Token) (most : ℕ) → old ≡ map name_token so_far ++ left → EndsNone left → EndsNoneOf most old
names_then_none [] old left most e none names good few is = none names good (sym e ∙ is)
names_then_none (m ∷ so_far) old left most e none [] good few is = absurd (let both = sym e ∙ is in cc)
names_then_none (m ∷ so_far) old left most e none (n ∷ names) good few is =
    let both = sym e ∙ is in
    let tails : map name_token so_far ++ left ≡ later_tokens names = cc in
    names_then_none so_far (map name_token so_far ++ left) left most refl none names good.1 (omega arith) tails

-- something stands behind the bracket that closes the array
pub names_then_more : (so_far : List Name) (old left : List Token) (most : ℕ) → old ≡ map name_token so_far ++ token.end_array ∷ left → left ≢ [] → EndsNoneOf most old
names_then_more [] old left most e more [] good few is = more (let both = sym e ∙ is in cc)
names_then_more [] old left most e more (n ∷ names) good few is = absurd (let both = sym e ∙ is in cc)
names_then_more (m ∷ so_far) old left most e more [] good few is = absurd (let both = sym e ∙ is in cc)
names_then_more (m ∷ so_far) old left most e more (n ∷ names) good few is =
    let both = sym e ∙ is in
    let tails : map name_token so_far ++ token.end_array ∷ left ≡ later_tokens names = cc in
    names_then_more so_far (map name_token so_far ++ token.end_array ∷ left) left most refl more names good.1 (omega arith) tails

-- more names stand there than those of a list
longer : (so_far : List Name) (left : List Token) (names : List Name) → length names < length so_far → map name_token so_far ++ left ≡ later_tokens names → ⊥
longer [] left names over is = omega arith
longer (m ∷ so_far) left [] over is = cc
longer (m ∷ so_far) left (n ∷ names) over is =
    let tails : map name_token so_far ++ left ≡ later_tokens names = cc in
    longer so_far left names (omega arith) tails

pub names_too_many : (so_far : List Name) (old left : List Token) (most : ℕ) → old ≡ map name_token so_far ++ left → most < length so_far → EndsNoneOf most old
names_too_many so_far old left most e over names good few is = longer so_far left names (omega arith) (sym e ∙ is)

-- ---- one more name

pub one_more : (so_far : List Name) (name : Name) (old left rest : List Token) → old ≡ map name_token so_far ++ left → left ≡ name_token name ∷ rest → old ≡ map name_token (so_far ++ name ∷ []) ++ rest
one_more so_far name old left rest e is =
    e ∙ ap (λ (ts : List Token). map name_token so_far ++ ts) is
    ∙ sym (append_assoc (map name_token so_far) (name_token name ∷ []) rest)
    ∙ ap (λ (ts : List Token). ts ++ rest) (sym (map_push name_token so_far name))

pub all_more : (so_far : List Name) (name : Name) → AllByRecursion IsName so_far → IsName name → AllByRecursion IsName (so_far ++ name ∷ [])
all_more [] name good is = (is, tt)
all_more (m ∷ so_far) name good is = (good.0, all_more so_far name good.1 is)

-- ---- one step

pub string_steps : (old new : List Token) (text : List ℕ) (step : Step) → old ≡ token.string text ∷ new → IsStepOf text step → Steps old step new
string_steps old new text (Next name) e h = (h.0, e ∙ ap (λ (t : List ℕ). token.string t ∷ new) h.1)
string_steps old new text End e h = absurd h
string_steps old new text No e h = other_text old new text e h

pub default_steps : (old new : List Token) (t : Read) → old ≡ token_of t ∷ new → t ≢ read.EndArray → ((text : Bor (List ℕ)) → t ≢ read.String text) → EndsNone old
default_steps old new read.EndArray e no_end no_string = absurd (no_end refl)
default_steps old new (read.String text) e no_end no_string = absurd (no_string text refl)
default_steps old new read.BeginObject e no_end no_string = other_token old new token.begin_object e (record { no_string = λ text same. cc; no_end = λ same. cc })
default_steps old new read.EndObject e no_end no_string = other_token old new token.end_object e (record { no_string = λ text same. cc; no_end = λ same. cc })
default_steps old new read.BeginArray e no_end no_string = other_token old new token.begin_array e (record { no_string = λ text same. cc; no_end = λ same. cc })
default_steps old new (read.Key k) e no_end no_string = other_token old new (token.key k.now) e (record { no_string = λ text same. cc; no_end = λ same. cc })
default_steps old new (read.Number n) e no_end no_string = other_token old new (token.number n.now) e (record { no_string = λ text same. cc; no_end = λ same. cc })
default_steps old new (read.Bool b) e no_end no_string = other_token old new (token.boolean b) e (record { no_string = λ text same. cc; no_end = λ same. cc })
default_steps old new read.Null e no_end no_string = other_token old new token.null e (record { no_string = λ text same. cc; no_end = λ same. cc })
default_steps old new read.Bad e no_end no_string = other_token old new token.bad e (record { no_string = λ text same. cc; no_end = λ same. cc })

-- ---- the end

module _ (names : Vec Name Global) (old middle left : List Token) (so_far : old ≡ map name_token names.items ++ middle) (closes : middle ≡ token.end_array ∷ left) where
  pub ended_some : (r : Option (Vec Name Global)) → AllByRecursion IsName names.items → length names.items ≤ 1000 → IfSome r (λ list. (list ≡ names) × (left ≡ []))
      → IfSome r (λ list. AllByRecursion IsName list.items × (old ≡ later_tokens list.items) × (length list.items ≤ names_limit))
  ended_some None good few h = tt
  ended_some (Some list) good few h =
      let whole : old ≡ later_tokens names.items = so_far ∙ ap (λ (ts : List Token). map name_token names.items ++ ts) (closes ∙ ap (λ (ts : List Token). token.end_array ∷ ts) h.1) in
      subst (λ (v : Vec Name Global). AllByRecursion IsName v.items × (old ≡ later_tokens v.items) × (length v.items ≤ names_limit)) (sym h.0) (good, whole, few)

  pub ended_none : (r : Option (Vec Name Global)) → IfNone r (left ≢ []) → IfNone r (EndsNoneOf names_limit old)
  ended_none None more = names_then_more names.items old left names_limit (so_far ∙ ap (λ (ts : List Token). map name_token names.items ++ ts) closes) more
  ended_none (Some list) more = tt
