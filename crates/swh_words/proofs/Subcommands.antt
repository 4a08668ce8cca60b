-- What each subcommand of the program makes of its words.
use Rattle.std.proofs.Common.{◌≡◌, ◌∙◌, ◌<◌, ◌==◌, ◌++◌, ◌∷◌, ℕ, Bool, true, false, arith, List, [], refl, sym, ap, ap₂, rules, ◌^◌, Option, Some, None, length, append-nil, append_assoc}
use Rattle.std.proofs.lemmas.Bool.{ne_eqb}
use Rattle.std.specs.Prelude.{codes, nat_lt, is_some}
use Rattle.std.specs.List.{fold}
use Rattle.clap.specs.declared.builder.value_parser.Reading.TheVariants.{AsWritten}
use Rattle.clap.specs.declared.builder.value_parser.ValueParser.TheVariants.{String}
use Rattle.clap.specs.declared.parser.matches.ValueSource.TheVariants.{CommandLine}
use Rattle.clap.specs.Lexer.{usize_max}
use Rattle.clap.specs.Faults.{check_fault, defaults_fault, entered_fault, fault_of, settle_fault, turn_fault, walk_fault}
use Rattle.clap.specs.Kinds.{Kinds, or_else, range_kinds, values_kinds}
use Rattle.clap.specs.Walk.{Held, Names, Row, Rule, Text, Walk, finished, idle, nothing_held, positional, settled, walk_from, walked}
use Rattle.clap.specs.Simple.{Shape, built, built_leaf, entered, inherited, marked_built, names_of, subcommand_of, with_leaf_noted}
use Rattle.clap.specs.Words.{App}
use Rattle.clap.proofs.OnLiterals.{clap_on_literals}
use Rattle.swh_words.specs.Definition.{ask_app, check_app, cook_app, identify_app, init_app, load_app, program_app}
use Rattle.swh_words.specs.Spelling.{values_given}
use Rattle.swh_words.proofs.Flags.{HasValuesOnly, first_clean, or_else-nil, refused}
use Rattle.swh_words.proofs.Values.{as_values, flags_refused, stands}

-- ---- after the subcommand's name

-- a walk that has stopped keeps the words that are left
stopped_walk : (rules : List Rule) (names : Names) (w : Walk) (name : Text) (before rest : List Text)
    → fold (walked rules names) (record w { stopped = Some (name, before) }) rest ≡ record w { stopped = Some (name, before ++ rest) }
unfolding clap_on_literals
stopped_walk rules names w name before [] = ap (λ l. record w { stopped = Some (name, l) }) (sym (append-nil before))
stopped_walk rules names w name before (word ∷ rest) =
    stopped_walk rules names w name (before ++ word ∷ []) rest ∙ ap (λ l. record w { stopped = Some (name, l) }) (append_assoc before (word ∷ []) rest)

-- and refuses none of them
stopped_fault : (s : Shape) (names : Names) (w : Walk) (name : Text) (before rest : List Text)
    → walk_fault s names (record w { stopped = Some (name, before) }) rest ≡ []
unfolding clap_on_literals
stopped_fault s names w name before [] = refl
stopped_fault s names w name before (word ∷ rest) = stopped_fault s names w name (before ++ word ∷ []) rest

-- a subcommand as the program builds it
abbrev pub built_sub : App → Shape
built_sub a = built_leaf (inherited (with_leaf_noted (marked_built program_app.top)) a.top)

-- what is wrong at the end of a walk
abbrev end_fault : Shape → Held → Kinds
end_fault s h = or_else (settle_fault s.rules s.args_override_self h)
    (or_else (defaults_fault (settled s.rules h).rows s.rules) (check_fault s (finished s.rules h) false))

abbrev held_in : App → Bool → List Text → Held
held_in a trails words = (fold (walked (built_sub a).rules []) (stands trails nothing_held idle 1) words).held

abbrev pub fault_in : App → Bool → List Text → Kinds
fault_in a trails words = or_else (walk_fault (built_sub a) [] (stands trails nothing_held idle 1) words) (end_fault (built_sub a) (held_in a trails words))

abbrev pub rows_in : App → Bool → List Text → List Row
rows_in a trails words = finished (built_sub a).rules (held_in a trails words)

abbrev pub program : App
program = built program_app

-- where the walk and its fault are these
abbrev program_fault : Walk → Kinds → Kinds
program_fault w fault = or_else fault (or_else (entered_fault program w.stopped)
    (or_else (settle_fault program.top.rules program.top.args_override_self w.held)
    (or_else (defaults_fault (settled program.top.rules w.held).rows program.top.rules)
    (check_fault program.top (finished program.top.rules w.held) (is_some (entered program w.stopped))))))

abbrev stopped_at : Text → List Text → Walk
stopped_at name rest = record (walk_from nothing_held) { stopped = Some (name, rest) }

-- the word names a subcommand, which has the words that follow
pub record Enters (name : Text) (sub : App) : Type 0 where
  pub fault : (rest : List Text) → fault_of program_app (name ∷ rest) ≡ fault_in sub false rest
  pub rows : (rest : List Text) → subcommand_of program_app (name ∷ rest) ≡ Some (name, rows_in sub false rest)

named_fault : (name : Text) (rest : List Text) → walked program.top.rules (names_of program) (walk_from nothing_held) name ≡ stopped_at name []
    → turn_fault program.top (names_of program) (walk_from nothing_held) name ≡ []
    → fault_of program_app (name ∷ rest) ≡ program_fault (stopped_at name rest) []
unfolding clap_on_literals
named_fault name rest stops passes =
    ap₂ (λ (fault : Kinds) (w : Walk). program_fault (fold (walked program.top.rules (names_of program)) w rest)
    (or_else fault (walk_fault program.top (names_of program) w rest))) passes stops
    ∙ ap₂ program_fault (stopped_walk program.top.rules (names_of program) (walk_from nothing_held) name [] rest)
    (stopped_fault program.top (names_of program) (walk_from nothing_held) name [] rest)

named_rows : (name : Text) (rest : List Text) → walked program.top.rules (names_of program) (walk_from nothing_held) name ≡ stopped_at name []
    → subcommand_of program_app (name ∷ rest) ≡ entered program (Some (name, rest))
unfolding clap_on_literals
named_rows name rest stops =
    ap (λ (w : Walk). entered program (fold (walked program.top.rules (names_of program)) w rest).stopped) stops
    ∙ ap (λ (w : Walk). entered program w.stopped) (stopped_walk program.top.rules (names_of program) (walk_from nothing_held) name [] rest)

-- where the program stops at the name, and enters the subcommand
enters_at : (name : Text) (sub : App) → walked program.top.rules (names_of program) (walk_from nothing_held) name ≡ stopped_at name []
    → turn_fault program.top (names_of program) (walk_from nothing_held) name ≡ []
    → ((rest : List Text) → program_fault (stopped_at name rest) [] ≡ or_else (fault_in sub false rest) [])
    → ((rest : List Text) → entered program (Some (name, rest)) ≡ Some (name, rows_in sub false rest)) → Enters name sub
enters_at name sub stops passes fault rows = record {
  fault = λ rest. named_fault name rest stops passes ∙ fault rest ∙ or_else-nil (fault_in sub false rest);
  rows = λ rest. named_rows name rest stops ∙ rows rest;
}

pub enters_init : Enters (codes "init") init_app
unfolding clap_on_literals
enters_init = enters_at (codes "init") init_app refl refl (λ rest. refl) (λ rest. refl)

pub enters_load : Enters (codes "load") load_app
unfolding clap_on_literals
enters_load = enters_at (codes "load") load_app refl refl (λ rest. refl) (λ rest. refl)

pub enters_ask : Enters (codes "ask") ask_app
unfolding clap_on_literals
enters_ask = enters_at (codes "ask") ask_app refl refl (λ rest. refl) (λ rest. refl)

pub enters_check : Enters (codes "check") check_app
unfolding clap_on_literals
enters_check = enters_at (codes "check") check_app refl refl (λ rest. refl) (λ rest. refl)

pub enters_cook : Enters (codes "cook") cook_app
unfolding clap_on_literals
enters_cook = enters_at (codes "cook") cook_app refl refl (λ rest. refl) (λ rest. refl)

pub enters_identify : Enters (codes "identify") identify_app
unfolding clap_on_literals
enters_identify = enters_at (codes "identify") identify_app refl refl (λ rest. refl) (λ rest. refl)

-- the words give the subcommand's rules values alone
pub record Reads (sub : App) (words values : List Text) : Type 0 where
  pub fault : fault_in sub false words ≡ fault_in sub true values
  pub rows : rows_in sub false words ≡ rows_in sub true values

pub reads : (sub : App) (words values : List Text) → HasValuesOnly (built_sub sub).rules → values_given words ≡ Some values → Reads sub words values
reads sub words values only given =
    let same = as_values (built_sub sub) only words values nothing_held idle 1 tt refl given in
    record {
      fault = ap₂ (λ (fault : Kinds) (h : Held). or_else fault (end_fault (built_sub sub) h)) same.fault same.held;
      rows = ap (finished (built_sub sub).rules) same.held;
    }

-- where the words are taken, they give values, which are taken
pub taken_values : (G : Type 0) (sub : App) (words : List Text) → HasValuesOnly (built_sub sub).rules → fault_in sub false words ≡ []
    → ((values : List Text) → values_given words ≡ Some values → fault_in sub true values ≡ [] → rows_in sub false words ≡ rows_in sub true values → G) → G
taken_values G sub words only clean next = go (values_given words) refl
  where
    go : (o : Option (List Text)) → values_given words ≡ o → G
    go None none = absurd (refused (walk_fault (built_sub sub) [] (stands false nothing_held idle 1) words)
        (flags_refused (built_sub sub) only words nothing_held idle 1 tt refl none) (first_clean _ _ clean))
    go (Some values) given =
        let same = reads sub words values only given in
        next values given (sym same.fault ∙ clean) same.rows

pub only_init : HasValuesOnly (built_sub init_app).rules
only_init = record { no_long = λ name. refl; no_short = λ c. refl; no_trail = (refl, tt) }

pub only_load : HasValuesOnly (built_sub load_app).rules
only_load = record { no_long = λ name. refl; no_short = λ c. refl; no_trail = (refl, (refl, tt)) }

pub only_ask : HasValuesOnly (built_sub ask_app).rules
only_ask = record { no_long = λ name. refl; no_short = λ c. refl; no_trail = (refl, (refl, tt)) }

pub only_check : HasValuesOnly (built_sub check_app).rules
only_check = record { no_long = λ name. refl; no_short = λ c. refl; no_trail = (refl, tt) }

pub only_cook : HasValuesOnly (built_sub cook_app).rules
only_cook = record { no_long = λ name. refl; no_short = λ c. refl; no_trail = (refl, (refl, (refl, tt))) }

pub only_identify : HasValuesOnly (built_sub identify_app).rules
only_identify = record { no_long = λ name. refl; no_short = λ c. refl; no_trail = (refl, (refl, tt)) }

-- ---- what each subcommand makes of values

-- what the words give a positional
abbrev given_row : Text → List Text → Row
given_row id values = record { id = id; values = values; count = None; source = Some CommandLine; reading = AsWritten }

pub init_taken : (dir : Text) → fault_in init_app true (dir ∷ []) ≡ []
unfolding clap_on_literals
init_taken dir = refl

pub init_rows : (dir : Text) → rows_in init_app true (dir ∷ []) ≡ given_row (codes "dir") (dir ∷ []) ∷ []
unfolding clap_on_literals
init_rows dir = refl

pub load_taken : (dir jobs : Text) → fault_in load_app true (dir ∷ jobs ∷ []) ≡ []
unfolding clap_on_literals
load_taken dir jobs = refl

pub load_rows : (dir jobs : Text)
    → rows_in load_app true (dir ∷ jobs ∷ []) ≡ given_row (codes "dir") (dir ∷ []) ∷ given_row (codes "jobs") (jobs ∷ []) ∷ []
unfolding clap_on_literals
load_rows dir jobs = refl

pub check_taken : (dir : Text) → fault_in check_app true (dir ∷ []) ≡ []
unfolding clap_on_literals
check_taken dir = refl

pub check_rows : (dir : Text) → rows_in check_app true (dir ∷ []) ≡ given_row (codes "dir") (dir ∷ []) ∷ []
unfolding clap_on_literals
check_rows dir = refl

pub cook_taken : (dir swhid out : Text) → fault_in cook_app true (dir ∷ swhid ∷ out ∷ []) ≡ []
unfolding clap_on_literals
cook_taken dir swhid out = refl

pub cook_rows : (dir swhid out : Text)
    → rows_in cook_app true (dir ∷ swhid ∷ out ∷ [])
    ≡ given_row (codes "dir") (dir ∷ []) ∷ given_row (codes "swhid") (swhid ∷ []) ∷ given_row (codes "out") (out ∷ []) ∷ []
unfolding clap_on_literals
cook_rows dir swhid out = refl

pub identify_taken : (kind path : Text) → fault_in identify_app true (kind ∷ path ∷ []) ≡ []
unfolding clap_on_literals
identify_taken kind path = refl

pub identify_rows : (kind path : Text)
    → rows_in identify_app true (kind ∷ path ∷ []) ≡ given_row (codes "kind") (kind ∷ []) ∷ given_row (codes "path") (path ∷ []) ∷ []
unfolding clap_on_literals
identify_rows kind path = refl

-- ---- one path or more

-- where the walk stands after these paths
abbrev at_paths : Text → List Text → Walk
at_paths dir paths =
    stands true (record { rows = given_row (codes "dir") (dir ∷ []) ∷ []; pending = Some (codes "path", paths); skip = 0 }) positional 2

paths_walk : (dir : Text) (paths more : List Text)
    → fold (walked (built_sub ask_app).rules []) (at_paths dir paths) more ≡ at_paths dir (paths ++ more)
unfolding clap_on_literals
paths_walk dir paths [] = ap (at_paths dir) (sym (append-nil paths))
paths_walk dir paths (path ∷ more) = paths_walk dir (paths ++ path ∷ []) more ∙ ap (at_paths dir) (append_assoc paths (path ∷ []) more)

paths_fault : (dir : Text) (paths more : List Text) → walk_fault (built_sub ask_app) [] (at_paths dir paths) more ≡ []
unfolding clap_on_literals
paths_fault dir paths [] = refl
paths_fault dir paths (path ∷ more) = paths_fault dir (paths ++ path ∷ []) more

any_values : (values : List Text) → values_kinds false String values ≡ []
any_values [] = refl
any_values (v ∷ vs) = any_values vs

any_number : (n : ℕ) → 0 < n → n < 2 ^ 64 → range_kinds 1 usize_max n ≡ []
any_number n some few =
    let not_none : (n == 0) ≡ false = ne_eqb n 0 (λ none. absurd (omega arith)) in
    let enough : nat_lt n 1 ≡ false = search (arith, rules) in
    let not_too_many : nat_lt usize_max n ≡ false = search (arith, rules) in
    rw (not_none, enough, not_too_many) refl

paths_pass : (dir path : Text) (more : List Text) → length (path ∷ more) < 2 ^ 64 → end_fault (built_sub ask_app) (at_paths dir (path ∷ more)).held ≡ []
unfolding clap_on_literals
paths_pass dir path more few =
    ap₂ (λ (range values : Kinds). or_else (or_else range values) []) (any_number (length (path ∷ more)) (omega arith) few) (any_values (path ∷ more))

pub ask_taken : (dir path : Text) (more : List Text) → length (path ∷ more) < 2 ^ 64 → fault_in ask_app true (dir ∷ path ∷ more) ≡ []
unfolding clap_on_literals
ask_taken dir path more few =
    ap₂ (λ (fault : Kinds) (w : Walk). or_else fault (end_fault (built_sub ask_app) w.held)) (paths_fault dir (path ∷ []) more) (paths_walk dir (path ∷ []) more)
    ∙ paths_pass dir path more few

pub ask_rows : (dir path : Text) (more : List Text)
    → rows_in ask_app true (dir ∷ path ∷ more) ≡ given_row (codes "dir") (dir ∷ []) ∷ given_row (codes "path") (path ∷ more) ∷ []
unfolding clap_on_literals
ask_rows dir path more = ap (λ (w : Walk). finished (built_sub ask_app).rules w.held) (paths_walk dir (path ∷ []) more)

-- ---- how many values each subcommand has

pub init_by : (Holds : List Text → Type 0) → ((dir : Text) → Holds (dir ∷ [])) → (values : List Text) → fault_in init_app true values ≡ [] → Holds values
unfolding clap_on_literals
init_by Holds one [] clean = absurd (refused (fault_in init_app true []) refl clean)
init_by Holds one (dir ∷ []) clean = one dir
init_by Holds one (dir ∷ more ∷ rest) clean = absurd (refused (fault_in init_app true (dir ∷ more ∷ rest)) refl clean)

pub load_by : (Holds : List Text → Type 0) → ((dir jobs : Text) → Holds (dir ∷ jobs ∷ [])) → (values : List Text) → fault_in load_app true values ≡ []
    → Holds values
unfolding clap_on_literals
load_by Holds two [] clean = absurd (refused (fault_in load_app true []) refl clean)
load_by Holds two (dir ∷ []) clean = absurd (refused (fault_in load_app true (dir ∷ [])) refl clean)
load_by Holds two (dir ∷ jobs ∷ []) clean = two dir jobs
load_by Holds two (dir ∷ jobs ∷ more ∷ rest) clean = absurd (refused (fault_in load_app true (dir ∷ jobs ∷ more ∷ rest)) refl clean)

pub ask_by : (Holds : List Text → Type 0) → ((dir path : Text) (more : List Text) → Holds (dir ∷ path ∷ more)) → (values : List Text)
    → fault_in ask_app true values ≡ [] → Holds values
unfolding clap_on_literals
ask_by Holds some [] clean = absurd (refused (fault_in ask_app true []) refl clean)
ask_by Holds some (dir ∷ []) clean = absurd (refused (fault_in ask_app true (dir ∷ [])) refl clean)
ask_by Holds some (dir ∷ path ∷ more) clean = some dir path more

pub check_by : (Holds : List Text → Type 0) → ((dir : Text) → Holds (dir ∷ [])) → (values : List Text) → fault_in check_app true values ≡ [] → Holds values
unfolding clap_on_literals
check_by Holds one [] clean = absurd (refused (fault_in check_app true []) refl clean)
check_by Holds one (dir ∷ []) clean = one dir
check_by Holds one (dir ∷ more ∷ rest) clean = absurd (refused (fault_in check_app true (dir ∷ more ∷ rest)) refl clean)

pub cook_by : (Holds : List Text → Type 0) → ((dir swhid out : Text) → Holds (dir ∷ swhid ∷ out ∷ [])) → (values : List Text)
    → fault_in cook_app true values ≡ [] → Holds values
unfolding clap_on_literals
cook_by Holds three [] clean = absurd (refused (fault_in cook_app true []) refl clean)
cook_by Holds three (dir ∷ []) clean = absurd (refused (fault_in cook_app true (dir ∷ [])) refl clean)
cook_by Holds three (dir ∷ swhid ∷ []) clean = absurd (refused (fault_in cook_app true (dir ∷ swhid ∷ [])) refl clean)
cook_by Holds three (dir ∷ swhid ∷ out ∷ []) clean = three dir swhid out
cook_by Holds three (dir ∷ swhid ∷ out ∷ more ∷ rest) clean = absurd (refused (fault_in cook_app true (dir ∷ swhid ∷ out ∷ more ∷ rest)) refl clean)

pub identify_by : (Holds : List Text → Type 0) → ((kind path : Text) → Holds (kind ∷ path ∷ [])) → (values : List Text)
    → fault_in identify_app true values ≡ [] → Holds values
unfolding clap_on_literals
identify_by Holds two [] clean = absurd (refused (fault_in identify_app true []) refl clean)
identify_by Holds two (kind ∷ []) clean = absurd (refused (fault_in identify_app true (kind ∷ [])) refl clean)
identify_by Holds two (kind ∷ path ∷ []) clean = two kind path
identify_by Holds two (kind ∷ path ∷ more ∷ rest) clean = absurd (refused (fault_in identify_app true (kind ∷ path ∷ more ∷ rest)) refl clean)
