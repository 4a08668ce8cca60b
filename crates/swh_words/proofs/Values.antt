-- Words of a subcommand fail and leave as their values do after a `--`.
use Rattle.std.proofs.Common.{◌≡◌, ◌∙◌, ◌∷◌, ℕ, Bool, true, false, List, [], refl, sym, ap, ap₂, subst, true≢false, rules, Option, Some, None, find, IfSome}
use Rattle.std.specs.Prelude.{◌||◌, option_map, unwrap_or, is_some, if◌then◌else◌, ◌&&◌}
use Rattle.std.specs.List.{AllByRecursion, fold}
use Rattle.std.specs.Option.{option_map_or}
use Rattle.std.specs.Str.{bytes_eq}
use Rattle.clap.specs.Lexer.{long_of}
use Rattle.clap.specs.Faults.{flag_word_fault, other_fault, step_fault, turn_fault, walk_fault, word_fault}
use Rattle.clap.specs.Kinds.{Kinds, or_else}
use Rattle.clap.specs.Walk.{Held, Names, Rule, Step, Text, Waiting, Walk, after_step, arg_by_index, idle, is_multiple, is_pending, long_or_other, next_position, option, positional, positional_held, pushed, settled, subcommand_met, subcommand_or_other, takes_several, to_positional, trailing, value, walked, word_met}
use Rattle.clap.specs.Simple.{Shape}
use Rattle.clap.proofs.OnLiterals.{clap_on_literals}
use Rattle.swh_words.specs.Spelling.{is_flag, values_given}
use Rattle.swh_words.proofs.Flags.{HasValuesOnly, IsNoOption, dashes, first_bad, is_clean, next_bad, value_met, value_passes, word_refused}

-- ---- a value goes to a positional

abbrev pub stands : Bool → Held → Waiting → ℕ → Walk
stands trails h waiting position = record { held = h; waiting = waiting; position = position; is_trailing = trails; stopped = None }

abbrev held_by : List Rule → Option Rule → Text → Held → Held
held_by rules place word h = option_map_or (λ a. positional_held rules a word h) place h

abbrev waiting_by : Option Rule → Waiting → Waiting
waiting_by place waiting = option_map_or (λ a. if is_multiple a then positional else idle) place waiting

abbrev position_by : Option Rule → ℕ → ℕ
position_by place position = option_map_or (λ a. next_position a position) place position

-- where the walk stands after a value
abbrev after_value : List Rule → Bool → Held → Waiting → ℕ → Text → Walk
after_value rules trails h waiting position word =
    let place = arg_by_index rules position in
    stands trails (held_by rules place word h) (waiting_by place waiting) (position_by place position)

or-false : (t : Bool) → (t || false) ≡ t
or-false true = refl
or-false false = refl

found_keeps : (IsKept : Rule → Type 0) (test : Rule → Bool) (rules : List Rule) → AllByRecursion IsKept rules → IfSome (find test rules) IsKept
found_keeps IsKept test [] all = tt
found_keeps IsKept test (r ∷ rest) all = go (test r) (found_keeps IsKept test rest all.1)
  where
    go : (t : Bool) → IfSome (find test rest) IsKept → IfSome (if t then Some r else find test rest) IsKept
    go true later = all.0
    go false later = later

to_place : (rules : List Rule) (place : Option Rule) (word : Text) (trails : Bool) (h : Held) (waiting : Waiting) (position : ℕ)
    → IfSome place (λ a. a.trailing_var_arg ≡ false)
    → to_positional rules place word (stands trails h waiting position) h
    ≡ stands trails (held_by rules place word h) (waiting_by place waiting) (position_by place position)
to_place rules None word trails h waiting position no_trail = refl
to_place rules (Some a) word trails h waiting position no_trail =
    let at : Bool → Walk = λ t. stands t (positional_held rules a word h) (if is_multiple a then positional else idle) (next_position a position) in
    ap (λ (t : Bool). at (trails || t)) no_trail ∙ ap at (or-false trails)

no_option_after : (place : Option Rule) (waiting : Waiting) → IsNoOption waiting → IsNoOption (waiting_by place waiting)
no_option_after None waiting free = free
no_option_after (Some a) waiting free = go (is_multiple a)
  where
    go : (t : Bool) → IsNoOption (if t then positional else idle)
    go true = tt
    go false = tt

skip_after : (rules : List Rule) (place : Option Rule) (word : Text) (h : Held) → (held_by rules place word h).skip ≡ h.skip
skip_after rules None word h = refl
skip_after rules (Some a) word h = go (is_pending a h.pending && takes_several a)
  where
    go : (t : Bool) → (pushed a.id word (if t then h else settled rules h)).skip ≡ h.skip
    go true = refl
    go false = refl

walked_by : (rules : List Rule) (names : Names) (trails : Bool) (h : Held) (waiting : Waiting) (position : ℕ) (word : Text) → HasValuesOnly rules
    → word_met rules names trails waiting position word h ≡ (h, value)
    → walked rules names (stands trails h waiting position) word ≡ after_value rules trails h waiting position word
unfolding clap_on_literals
walked_by rules names trails h waiting position word only met =
    ap (λ (m : Held × Step). after_step rules word (stands trails h waiting position) m.0 m.1) met
    ∙ to_place rules (arg_by_index rules position) word trails h waiting position (found_keeps (λ a. a.trailing_var_arg ≡ false) _ rules only.no_trail)

pub turned_by : (s : Shape) (names : Names) (trails : Bool) (h : Held) (waiting : Waiting) (position : ℕ) (word : Text)
    → word_met s.rules names trails waiting position word h ≡ (h, value) → word_fault s names trails waiting word h ≡ []
    → turn_fault s names (stands trails h waiting position) word ≡ step_fault s position h value
turned_by s names trails h waiting position word met passes =
    ap₂ (λ (fault : Kinds) (m : Held × Step). or_else fault (step_fault s position m.0 m.1)) passes met

-- ---- words come to what their values come to after `--`

no_name : (waiting : Waiting) (word : Text) → subcommand_met [] waiting word ≡ None
no_name idle word = refl
no_name (option id) word = refl
no_name positional word = refl

pub some≢none : (T : Type 0) (x : T) → Some x ≡ None → ⊥
some≢none T x e = true≢false (ap is_some e)

-- the words give values: the first is `--`, or it is a value itself
pub given_by : (G : Type 0) (word : Text) (more values : List Text) → values_given (word ∷ more) ≡ Some values
    → (bytes_eq word dashes ≡ true → more ≡ values → G)
    → (bytes_eq word dashes ≡ false → is_flag word ≡ false → (vs : List Text) → values_given more ≡ Some vs → word ∷ vs ≡ values → G) → G
given_by G word more values given marked plainly = go (bytes_eq word dashes) (is_flag word) (values_given more) refl refl refl given
  where
    go : (d f : Bool) (o : Option (List Text)) → bytes_eq word dashes ≡ d → is_flag word ≡ f → values_given more ≡ o
        → (if d then Some more else if f then None else option_map (λ values. word ∷ values) o) ≡ Some values → G
    go true f o is_d is_f is_o e = marked is_d (ap (λ o. unwrap_or o []) e)
    go false true o is_d is_f is_o e = absurd (some≢none (List Text) values (sym e))
    go false false None is_d is_f is_o e = absurd (some≢none (List Text) values (sym e))
    go false false (Some vs) is_d is_f is_o e = plainly is_d is_f vs is_o (ap (λ o. unwrap_or o []) e)

-- they give none: the first is a flag, or it is a value and the others give none
none_by : (G : Type 0) (word : Text) (more : List Text) → values_given (word ∷ more) ≡ None
    → (bytes_eq word dashes ≡ false → is_flag word ≡ true → G)
    → (bytes_eq word dashes ≡ false → is_flag word ≡ false → values_given more ≡ None → G) → G
none_by G word more none flag later = go (bytes_eq word dashes) (is_flag word) (values_given more) refl refl refl none
  where
    go : (d f : Bool) (o : Option (List Text)) → bytes_eq word dashes ≡ d → is_flag word ≡ f → values_given more ≡ o
        → (if d then Some more else if f then None else option_map (λ values. word ∷ values) o) ≡ None → G
    go true f o is_d is_f is_o e = absurd (some≢none (List Text) more e)
    go false true o is_d is_f is_o e = flag is_d is_f
    go false false None is_d is_f is_o e = later is_d is_f is_o
    go false false (Some vs) is_d is_f is_o e = absurd (some≢none (List Text) (word ∷ vs) e)

module _ (s : Shape) (only : HasValuesOnly s.rules) where
  -- the words fail and leave as the values do
  pub record IsAs (h : Held) (waiting : Waiting) (position : ℕ) (words values : List Text) : Type 0 where
    pub fault : walk_fault s [] (stands false h waiting position) words ≡ walk_fault s [] (stands true h waiting position) values
    pub held : (fold (walked s.rules []) (stands false h waiting position) words).held ≡ (fold (walked s.rules []) (stands true h waiting position) values).held

  as_marked : (h : Held) (waiting : Waiting) (position : ℕ) (word : Text) (more : List Text) → bytes_eq word dashes ≡ true
      → IsAs h waiting position (word ∷ more) more
  unfolding clap_on_literals
  as_marked h waiting position word more marked =
      let met : word_met s.rules [] false waiting position word h ≡ (h, trailing position) =
      ap (λ name. subcommand_or_other s.rules name waiting position word h) (no_name waiting word)
      ∙ ap (λ (t : Bool). if t then (h, trailing position) else long_or_other s.rules waiting word (long_of word) h) marked in
      let passes : word_fault s [] false waiting word h ≡ [] =
      ap (λ name. other_fault s name word h) (no_name waiting word)
      ∙ ap (λ (t : Bool). if t then [] else flag_word_fault s.rules s.args_override_self (long_of word) word h) marked in
      let moved : walked s.rules [] (stands false h waiting position) word ≡ stands true h waiting position =
      ap (λ (m : Held × Step). after_step s.rules word (stands false h waiting position) m.0 m.1) met in
      let turned : turn_fault s [] (stands false h waiting position) word ≡ [] =
      ap₂ (λ (fault : Kinds) (m : Held × Step). or_else fault (step_fault s position m.0 m.1)) passes met in
      record {
        fault = ap₂ (λ (fault : Kinds) (w : Walk). or_else fault (walk_fault s [] w more)) turned moved;
        held = ap (λ (w : Walk). (fold (walked s.rules []) w more).held) moved;
      }

  as_value : (h : Held) (waiting : Waiting) (position : ℕ) (word : Text) (more values : List Text) → IsNoOption waiting → h.skip ≡ 0
      → bytes_eq word dashes ≡ false → is_flag word ≡ false
      → IsAs (held_by s.rules (arg_by_index s.rules position) word h) (waiting_by (arg_by_index s.rules position) waiting)
      (position_by (arg_by_index s.rules position) position) more values
      → IsAs h waiting position (word ∷ more) (word ∷ values)
  unfolding clap_on_literals
  as_value h waiting position word more values free skips no_dashes no_flag rest =
      let met = value_met s.rules [] waiting position word h free skips (no_name waiting word) no_dashes no_flag in
      let moved = walked_by s.rules [] false h waiting position word only met in
      let moved_behind = walked_by s.rules [] true h waiting position word only refl in
      let turned = turned_by s [] false h waiting position word met (value_passes s [] waiting word h (no_name waiting word) no_dashes no_flag) in
      record {
        fault = ap₂ (λ (fault : Kinds) (w : Walk). or_else fault (walk_fault s [] w more)) turned moved
            ∙ ap (or_else (step_fault s position h value)) rest.fault
            ∙ ap (λ (w : Walk). or_else (step_fault s position h value) (walk_fault s [] w values)) (sym moved_behind);
        held = ap (λ (w : Walk). (fold (walked s.rules []) w more).held) moved
            ∙ rest.held
            ∙ ap (λ (w : Walk). (fold (walked s.rules []) w values).held) (sym moved_behind);
      }

  pub as_values : (words values : List Text) (h : Held) (waiting : Waiting) (position : ℕ) → IsNoOption waiting → h.skip ≡ 0
      → values_given words ≡ Some values → IsAs h waiting position words values
  unfolding clap_on_literals
  as_values [] values h waiting position free skips given =
      subst (λ (vs : List Text). IsAs h waiting position [] vs) (ap (λ o. unwrap_or o []) given) (record { fault = refl; held = refl })
  as_values (word ∷ more) values h waiting position free skips given =
      let place = arg_by_index s.rules position in
      given_by (IsAs h waiting position (word ∷ more) values) word more values given
      (λ marked same. subst (λ (vs : List Text). IsAs h waiting position (word ∷ more) vs) same (as_marked h waiting position word more marked))
      (λ no_dashes no_flag vs rest same. subst (λ (l : List Text). IsAs h waiting position (word ∷ more) l) same
      (as_value h waiting position word more vs free skips no_dashes no_flag
      (as_values more vs (held_by s.rules place word h) (waiting_by place waiting) (position_by place position)
      (no_option_after place waiting free) (skip_after s.rules place word h ∙ skips) rest)))

  -- words with a flag before any `--` are refused
  pub flags_refused : (words : List Text) (h : Held) (waiting : Waiting) (position : ℕ) → IsNoOption waiting → h.skip ≡ 0
      → values_given words ≡ None → is_clean (walk_fault s [] (stands false h waiting position) words) ≡ false
  unfolding clap_on_literals
  flags_refused [] h waiting position free skips none = absurd (some≢none (List Text) [] none)
  flags_refused (word ∷ more) h waiting position free skips none =
      let place = arg_by_index s.rules position in
      let met = word_met s.rules [] false waiting position word h in
      none_by (is_clean (walk_fault s [] (stands false h waiting position) (word ∷ more)) ≡ false) word more none
      (λ no_dashes flag. first_bad _ _ (first_bad (word_fault s [] false waiting word h) (step_fault s position met.0 met.1)
      (word_refused s [] waiting word h only skips (no_name waiting word) no_dashes flag)))
      (λ no_dashes no_flag rest. next_bad (turn_fault s [] (stands false h waiting position) word) _
      (ap (λ (w : Walk). is_clean (walk_fault s [] w more))
      (walked_by s.rules [] false h waiting position word only
      (value_met s.rules [] waiting position word h free skips (no_name waiting word) no_dashes no_flag))
      ∙ flags_refused more (held_by s.rules place word h) (waiting_by place waiting) (position_by place position)
      (no_option_after place waiting free) (skip_after s.rules place word h ∙ skips) rest))
