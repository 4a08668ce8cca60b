-- What a word is: a flag, which is refused, or a value.
use Rattle.std.proofs.Common.{◌≡◌, ◌∙◌, ◌==◌, ◌∷◌, ℕ, Bool, true, false, List, [], refl, sym, ap, subst, true≢false, rules, Option, Some, None, length, chars, drop, encode_utf8, IfSome, slice_get}
use Rattle.std.proofs.lemmas.Bool.{eqb-true}
use Rattle.std.specs.Prelude.{if◌then◌else◌, ◌&&◌, option_and_then}
use Rattle.std.specs.List.{AllByRecursion}
use Rattle.std.specs.Option.{option_map_or}
use Rattle.std.specs.Str.{bytes_eq}
use Rattle.clap.specs.Lexer.{name_and_value, long_of, long_of_rest, short_of, short_of_rest, strip_byte}
use Rattle.clap.specs.Faults.{bundle_fault, bundle_step_fault, flags_fault, flag_word_fault, long_fault, other_fault, short_fault, word_fault}
use Rattle.clap.specs.Kinds.{Kinds, or_else}
use Rattle.clap.specs.Walk.{Held, Names, Rule, Text, Waiting, after_flag, Outcome, bundle_met, bundle_step, arg_by_long, arg_by_short, bundle, idle, long_or_other, option, plain, plain_word, positional, short_or_plain, subcommand_met, subcommand_or_other, trailing, value, word_met}
use Rattle.clap.specs.Simple.{Shape}
use Rattle.clap.proofs.OnLiterals.{clap_on_literals}
use Rattle.swh_words.specs.Spelling.{is_flag, is_nonempty}

-- ---- faults

abbrev pub is_clean : Kinds → Bool
is_clean [] = true
is_clean (k ∷ rest) = false

pub refused : (fault : Kinds) → is_clean fault ≡ false → fault ≡ [] → ⊥
refused fault bad none = true≢false (sym (ap is_clean none) ∙ bad)

pub first_clean : (first next : Kinds) → or_else first next ≡ [] → first ≡ []
first_clean [] next clean = refl
first_clean (k ∷ rest) next clean = clean

pub first_bad : (first next : Kinds) → is_clean first ≡ false → is_clean (or_else first next) ≡ false
first_bad [] next bad = absurd (true≢false bad)
first_bad (k ∷ rest) next bad = refl

pub next_bad : (first next : Kinds) → is_clean next ≡ false → is_clean (or_else first next) ≡ false
next_bad [] next bad = bad
next_bad (k ∷ rest) next bad = refl

pub or_else-nil : (k : Kinds) → or_else k [] ≡ k
or_else-nil [] = refl
or_else-nil (x ∷ k) = refl

-- ---- what a word is

abbrev pub dashes : Text
dashes = 45 ∷ 45 ∷ []

hyphen_spelled : (rest : Text) → is_nonempty (chars (45 ∷ rest)) ≡ true
unfolding clap_on_literals
hyphen_spelled [] = refl
hyphen_spelled (b ∷ rest) = refl

is_empty : (text : Text) → is_nonempty text ≡ false → text ≡ []
is_empty [] none = refl
is_empty (c ∷ rest) none = absurd (true≢false none)

-- after a hyphen there is neither a long flag nor a bundle of a character or more
hyphen_value : (rest : Text) → bytes_eq (45 ∷ rest) dashes ≡ false → is_flag (45 ∷ rest) ≡ false
    → (long_of (45 ∷ rest) ≡ None) × IfSome (short_of (45 ∷ rest)) (λ flags. chars flags ≡ [])
hyphen_value [] no_dashes no_flag = (refl, tt)
hyphen_value (b ∷ rest) no_dashes no_flag = go (b == 45) refl
  where
    go : (t : Bool) → (b == 45) ≡ t → (long_of (45 ∷ b ∷ rest) ≡ None) × IfSome (short_of (45 ∷ b ∷ rest)) (λ flags. chars flags ≡ [])
    go true same =
        absurd (true≢false (sym (ap (λ (n : ℕ). is_nonempty (chars (n ∷ rest))) (eqb-true b 45 same) ∙ hyphen_spelled rest) ∙ no_flag))
    go false other = (
      ap (λ (t : Bool). option_and_then long_of_rest (if t then Some rest else None)) other,
      subst (λ (t : Bool). IfSome (if t then None else Some (b ∷ rest)) (λ flags. chars flags ≡ [])) (sym other) (is_empty (chars (b ∷ rest)) no_flag),
    )

value_looks : (word : Text) → bytes_eq word dashes ≡ false → is_flag word ≡ false
    → (long_of word ≡ None) × IfSome (short_of word) (λ flags. chars flags ≡ [])
value_looks [] no_dashes no_flag = (refl, tt)
value_looks (b ∷ rest) no_dashes no_flag = go (b == 45) refl
  where
    go : (t : Bool) → (b == 45) ≡ t → (long_of (b ∷ rest) ≡ None) × IfSome (short_of (b ∷ rest)) (λ flags. chars flags ≡ [])
    go true same =
        subst (λ (n : ℕ). bytes_eq (n ∷ rest) dashes ≡ false → is_flag (n ∷ rest) ≡ false
        → (long_of (n ∷ rest) ≡ None) × IfSome (short_of (n ∷ rest)) (λ flags. chars flags ≡ []))
        (sym (eqb-true b 45 same)) (hyphen_value rest) no_dashes no_flag
    go false other = (
      ap (λ (t : Bool). option_and_then long_of_rest (option_and_then (strip_byte 45) (if t then Some rest else None))) other,
      subst (λ (t : Bool). IfSome (option_and_then short_of_rest (if t then Some rest else None)) (λ flags. chars flags ≡ [])) (sym other) tt,
    )

-- ---- a word that is no flag is a value

abbrev pub IsNoOption : Waiting → Type 0
IsNoOption idle = Unit {0}
IsNoOption (option id) = ⊥
IsNoOption positional = Unit {0}

plain_stays : (rules : List Rule) (waiting : Waiting) (word : Text) (h : Held) → IsNoOption waiting → plain_word rules waiting word h ≡ (h, value)
plain_stays rules idle word h free = refl
plain_stays rules (option id) word h free = absurd free
plain_stays rules positional word h free = refl

bundle_is_plain : (rules : List Rule) (flags : Text) (h : Held) → h.skip ≡ 0 → chars flags ≡ [] → bundle rules flags h ≡ (h, plain)
unfolding clap_on_literals
bundle_is_plain rules [] h skips none = ap (λ (k : ℕ). (record h { skip = k }, plain)) (sym skips)
bundle_is_plain rules (b ∷ rest) h skips none =
    ap (λ (cs : Text). bundle_step rules (slice_get cs 0) (b ∷ rest) h.skip plain (record h { skip = 0 }) (bundle_met rules (length rest))) none
    ∙ ap (λ (k : ℕ). (record h { skip = k }, plain)) (sym skips)

short_is_plain : (rules : List Rule) (waiting : Waiting) (word : Text) (h : Held) (short : Option Text) → IsNoOption waiting → h.skip ≡ 0
    → IfSome short (λ flags. chars flags ≡ []) → short_or_plain rules waiting word short h ≡ (h, value)
short_is_plain rules waiting word h None free skips none = plain_stays rules waiting word h free
short_is_plain rules waiting word h (Some flags) free skips none =
    ap (λ (met : Held × Outcome). after_flag rules waiting word met.0 met.1) (bundle_is_plain rules flags h skips none)
    ∙ plain_stays rules waiting word h free

short_passes : (rules : List Rule) (again : Bool) (h : Held) (short : Option Text) → IfSome short (λ flags. chars flags ≡ [])
    → option_map_or (λ flags. bundle_fault rules again flags h) short [] ≡ []
unfolding clap_on_literals
short_passes rules again h None none = refl
short_passes rules again h (Some []) none = refl
short_passes rules again h (Some (b ∷ rest)) none =
    ap (λ (cs : Text). bundle_step_fault rules again (slice_get cs 0) (b ∷ rest) h.skip (record h { skip = 0 }) (flags_fault rules again (length rest))) none

pub value_met : (rules : List Rule) (names : Names) (waiting : Waiting) (position : ℕ) (word : Text) (h : Held) → IsNoOption waiting → h.skip ≡ 0
    → subcommand_met names waiting word ≡ None → bytes_eq word dashes ≡ false → is_flag word ≡ false
    → word_met rules names false waiting position word h ≡ (h, value)
value_met rules names waiting position word h free skips none no_dashes no_flag =
    let looks = value_looks word no_dashes no_flag in
    ap (λ name. subcommand_or_other rules name waiting position word h) none
    ∙ ap (λ (t : Bool). if t then (h, trailing position) else long_or_other rules waiting word (long_of word) h) no_dashes
    ∙ ap (λ long. long_or_other rules waiting word long h) looks.0
    ∙ short_is_plain rules waiting word h (short_of word) free skips looks.1

pub value_passes : (s : Shape) (names : Names) (waiting : Waiting) (word : Text) (h : Held)
    → subcommand_met names waiting word ≡ None → bytes_eq word dashes ≡ false → is_flag word ≡ false → word_fault s names false waiting word h ≡ []
value_passes s names waiting word h none no_dashes no_flag =
    let looks = value_looks word no_dashes no_flag in
    ap (λ name. other_fault s name word h) none
    ∙ ap (λ (t : Bool). if t then [] else flag_word_fault s.rules s.args_override_self (long_of word) word h) no_dashes
    ∙ ap (λ long. flag_word_fault s.rules s.args_override_self long word h) looks.0
    ∙ short_passes s.rules s.args_override_self h (short_of word) looks.1

-- ---- rules of values alone

pub record HasValuesOnly (rules : List Rule) : Type 0 where
  pub no_long : (name : Text) → arg_by_long rules name ≡ None
  pub no_short : (c : ℕ) → arg_by_short rules c ≡ None
  pub no_trail : AllByRecursion (λ (a : Rule). a.trailing_var_arg ≡ false) rules

-- ---- a flag is refused

module _ (rules : List Rule) (again : Bool) (only : HasValuesOnly rules) where
  long_refused : (p : Text × Option Text) (h : Held) → is_clean (long_fault rules again (arg_by_long rules p.0) p.1 h) ≡ false
  long_refused p h = ap (λ (a : Option Rule). is_clean (long_fault rules again a p.1 h)) (only.no_long p.0)

  step_refused : (cs flags : Text) (skip : ℕ) (h : Held) (next : Text → ℕ → Held → Kinds) → skip ≡ 0 → is_nonempty cs ≡ true
      → is_clean (bundle_step_fault rules again (slice_get cs 0) flags skip h next) ≡ false
  step_refused [] flags skip h next none some = absurd (true≢false (sym some))
  step_refused (c ∷ cs) flags skip h next none some =
      let rest : Text = drop (length (encode_utf8 c)) flags in
      ap (λ (k : ℕ). is_clean (bundle_step_fault rules again (Some c) flags k h next)) none
      ∙ ap (λ (a : Option Rule). is_clean (short_fault rules again a rest h (next rest 0))) (only.no_short c)

  bundle_refused : (b : ℕ) (rest : Text) (h : Held) → h.skip ≡ 0 → is_nonempty (chars (b ∷ rest)) ≡ true
      → is_clean (bundle_fault rules again (b ∷ rest) h) ≡ false
  unfolding clap_on_literals
  bundle_refused b rest h skips some =
      step_refused (chars (b ∷ rest)) (b ∷ rest) h.skip (record h { skip = 0 }) (flags_fault rules again (length rest)) skips some

  hyphen_refused : (rest : Text) (h : Held) → h.skip ≡ 0 → bytes_eq (45 ∷ rest) dashes ≡ false → is_flag (45 ∷ rest) ≡ true
      → is_clean (flag_word_fault rules again (long_of (45 ∷ rest)) (45 ∷ rest) h) ≡ false
  unfolding clap_on_literals
  hyphen_refused [] h skips no_dashes flag = absurd (true≢false (sym flag))
  hyphen_refused (b ∷ rest) h skips no_dashes flag = go (b == 45) refl
    where
      long : (xs : Text) → bytes_eq (45 ∷ 45 ∷ xs) dashes ≡ false → is_clean (flag_word_fault rules again (long_of (45 ∷ 45 ∷ xs)) (45 ∷ 45 ∷ xs) h) ≡ false
      long [] no_dashes = absurd (true≢false no_dashes)
      long (x ∷ xs) no_dashes = long_refused (name_and_value (x ∷ xs)) h

      go : (t : Bool) → (b == 45) ≡ t → is_clean (flag_word_fault rules again (long_of (45 ∷ b ∷ rest)) (45 ∷ b ∷ rest) h) ≡ false
      go true same =
          subst (λ (n : ℕ). bytes_eq (45 ∷ n ∷ rest) dashes ≡ false → is_clean (flag_word_fault rules again (long_of (45 ∷ n ∷ rest)) (45 ∷ n ∷ rest) h) ≡ false)
          (sym (eqb-true b 45 same)) (long rest) no_dashes
      go false other =
          ap (λ (t : Bool). is_clean (flag_word_fault rules again (option_and_then long_of_rest (if t then Some rest else None)) (45 ∷ b ∷ rest) h)) other
          ∙ ap (λ (t : Bool). is_clean (option_map_or (λ flags. bundle_fault rules again flags h) (if t then None else Some (b ∷ rest)) [])) other
          ∙ bundle_refused b rest h skips flag

  flag_refused : (word : Text) (h : Held) → h.skip ≡ 0 → bytes_eq word dashes ≡ false → is_flag word ≡ true
      → is_clean (flag_word_fault rules again (long_of word) word h) ≡ false
  flag_refused [] h skips no_dashes flag = absurd (true≢false (sym flag))
  flag_refused (b ∷ rest) h skips no_dashes flag = go (b == 45) refl
    where
      go : (t : Bool) → (b == 45) ≡ t → is_clean (flag_word_fault rules again (long_of (b ∷ rest)) (b ∷ rest) h) ≡ false
      go true same =
          subst (λ (n : ℕ). bytes_eq (n ∷ rest) dashes ≡ false → is_flag (n ∷ rest) ≡ true
          → is_clean (flag_word_fault rules again (long_of (n ∷ rest)) (n ∷ rest) h) ≡ false)
          (sym (eqb-true b 45 same)) (λ d f. hyphen_refused rest h skips d f) no_dashes flag
      go false other = absurd (true≢false (sym flag ∙ ap (λ (t : Bool). t && is_nonempty (chars rest)) other))

pub word_refused : (s : Shape) (names : Names) (waiting : Waiting) (word : Text) (h : Held) → HasValuesOnly s.rules → h.skip ≡ 0
    → subcommand_met names waiting word ≡ None → bytes_eq word dashes ≡ false → is_flag word ≡ true
    → is_clean (word_fault s names false waiting word h) ≡ false
word_refused s names waiting word h only skips none no_dashes flag =
    ap (λ name. is_clean (other_fault s name word h)) none
    ∙ ap (λ (t : Bool). is_clean (if t then [] else flag_word_fault s.rules s.args_override_self (long_of word) word h)) no_dashes
    ∙ flag_refused s.rules s.args_override_self only word h skips no_dashes flag
