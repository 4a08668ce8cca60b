-- Words are a command exactly where they spell it, and none exactly where clap refuses them, or they name no kind.
use Rattle.std.proofs.Common.{◌≡◌, ◌∙◌, ◌<◌, ◌≤◌, ◌∷◌, Bool, true, false, arith, List, [], refl, sym, ap, subst, inl, inr, ◌^◌, Option, Some, None, length, eq-eqb, ◌≢◌, ◌==◌, true≢false}
use Rattle.std.proofs.lemmas.Slice.Eq.{bytes_eq-Decides}
use Rattle.std.specs.Prelude.{codes, ◌⊎◌, ◌↔◌, ◌||◌, option_map, unwrap_or, IsSomeAnd, if◌then◌else◌}
use Rattle.std.specs.Str.{bytes_eq}
use Rattle.clap.specs.Faults.{fault_of, turn_fault, walk_fault, word_fault}
use Rattle.clap.specs.Walk.{Row, Text, idle, nothing_held, subcommand_met, walk_from, walked}
use Rattle.clap.specs.Simple.{names_of, subcommand_of}
use Rattle.clap.specs.Words.{App, first_of}
use Rattle.clap.proofs.OnLiterals.{clap_on_literals}
use Rattle.swh_words.specs.Definition.{ask_app, check_app, cook_app, identify_app, init_app, load_app, program_app}
use Rattle.swh_words.proofs.Commands.{kind_from, identified, offered, read, read-given}
use Rattle.swh_words.specs.Spelling.{is_flag, spelling_of, values_given, IsNoKind, NamesNoKind}
use Rattle.swh_words.specs.Words.{Wanted, ToInit, ToLoad, ToAsk, ToCheck, ToCook, ToIdentify, ToIdentifyFolder, AsksFor, IsCommand, IsGiven, IsOffered, spelled_command}
use Rattle.swh_base.specs.declared.kind.Kind.{Kind}
use Rattle.swh_base.specs.declared.kind.Kind.TheVariants.{Content, Directory, Revision, Release, Snapshot}
use Rattle.swh_base.specs.Kind.{kind_letters}
use Rattle.swh_words.proofs.Flags.{HasValuesOnly, dashes, first_bad, first_clean, is_clean, refused, value_met, value_passes, word_refused}
use Rattle.swh_words.proofs.Values.{given_by, some≢none, turned_by}
use Rattle.swh_words.proofs.Subcommands.{Enters, ask_rows, ask_taken, built_sub, check_rows, check_taken, cook_rows, cook_taken, enters_ask, enters_check, enters_cook, enters_identify, enters_init, enters_load, fault_in, identify_rows, identify_taken, init_rows, init_taken, load_rows, load_taken, only_ask, only_check, only_cook, only_identify, only_init, only_load, program, reads, rows_in, taken_values, init_by, load_by, ask_by, check_by, cook_by, identify_by}
use Rattle.clap.specs.Kinds.{Kinds}

-- ---- words that spell a command are one

first_text : List Text → Text
first_text [] = []
first_text (word ∷ rest) = word

later_texts : List Text → List Text
later_texts [] = []
later_texts (word ∷ rest) = rest

values_few : (words values : List Text) → values_given words ≡ Some values → length values ≤ length words
values_few [] values given = subst (λ (l : List Text). length l ≤ 0) (ap (λ o. unwrap_or o []) given) (omega arith)
values_few (word ∷ more) values given =
    given_by (length values ≤ length (word ∷ more)) word more values given
    (λ marked same. subst (λ (l : List Text). length l ≤ length (word ∷ more)) same (omega arith))
    (λ no_dashes no_flag vs rest same. subst (λ (l : List Text). length l ≤ length (word ∷ more)) same
    (let few : length vs ≤ length more = values_few more vs rest in omega arith))

command_of : (name : Text) (sub : App) (rest values : List Text) (rows : List Row) (wanted : Wanted) → Enters name sub
    → HasValuesOnly (built_sub sub).rules → values_given rest ≡ Some values → fault_in sub true values ≡ [] → rows_in sub true values ≡ rows
    → AsksFor (name, rows) wanted → IsCommand (name ∷ rest) wanted
command_of name sub rest values rows wanted enters only given passes are asked =
    let same = reads sub rest values only given in
    record {
      taken = enters.fault rest ∙ same.fault ∙ passes;
      asked = subst (λ (o : Option (Text × List Row)). IsSomeAnd o (λ given. AsksFor given wanted))
          (sym (enters.rows rest ∙ ap (λ (r : List Row). Some (name, r)) (same.rows ∙ are))) asked;
    }

-- the name and the values are these
given_as : (rest values : List Text) (name expected : Text) (expected_values : List Text) → values_given rest ≡ Some values
    → name ∷ values ≡ expected ∷ expected_values → values_given rest ≡ Some expected_values
unfolding later_texts
given_as rest values name expected expected_values given same = given ∙ ap (λ l. Some l) (ap later_texts same)

named_as : (rest values : List Text) (name expected : Text) (expected_values : List Text) (wanted : Wanted)
    → name ∷ values ≡ expected ∷ expected_values → IsCommand (expected ∷ rest) wanted → IsCommand (name ∷ rest) wanted
unfolding first_text
named_as rest values name expected expected_values wanted same = subst (λ (n : Text). IsCommand (n ∷ rest) wanted) (sym (ap first_text same))

spelled_is_command : (wanted : Wanted) (name : Text) (rest values : List Text) → values_given rest ≡ Some values → name ∷ values ≡ spelled_command wanted
    → length values < 2 ^ 64 → IsOffered wanted → IsCommand (name ∷ rest) wanted
unfolding later_texts
spelled_is_command (ToInit dir) name rest values given same few offered =
    named_as rest values name (codes "init") (dir ∷ []) (ToInit dir) same
    (command_of (codes "init") init_app rest (dir ∷ []) _ (ToInit dir) enters_init only_init (given_as rest values name _ _ given same)
    (init_taken dir) (init_rows dir) (record { is_given = (refl, refl); offered = offered }))
spelled_is_command (ToLoad dir jobs) name rest values given same few offered =
    named_as rest values name (codes "load") (dir ∷ jobs ∷ []) (ToLoad dir jobs) same
    (command_of (codes "load") load_app rest (dir ∷ jobs ∷ []) _ (ToLoad dir jobs) enters_load only_load (given_as rest values name _ _ given same)
    (load_taken dir jobs) (load_rows dir jobs) (record { is_given = (refl, refl, refl); offered = offered }))
spelled_is_command (ToAsk dir []) name rest values given same few offered = absurd (omega arith)
spelled_is_command (ToAsk dir (path ∷ more)) name rest values given same few offered =
    let few_paths : length (dir ∷ path ∷ more) < 2 ^ 64 = subst (λ (l : List Text). length l < 2 ^ 64) (ap later_texts same) few in
    named_as rest values name (codes "ask") (dir ∷ path ∷ more) (ToAsk dir (path ∷ more)) same
    (command_of (codes "ask") ask_app rest (dir ∷ path ∷ more) _ (ToAsk dir (path ∷ more)) enters_ask only_ask (given_as rest values name _ _ given same)
    (ask_taken dir path more (omega arith)) (ask_rows dir path more) (record { is_given = (refl, refl, refl); offered = offered }))
spelled_is_command (ToCheck dir) name rest values given same few offered =
    named_as rest values name (codes "check") (dir ∷ []) (ToCheck dir) same
    (command_of (codes "check") check_app rest (dir ∷ []) _ (ToCheck dir) enters_check only_check (given_as rest values name _ _ given same)
    (check_taken dir) (check_rows dir) (record { is_given = (refl, refl); offered = offered }))
spelled_is_command (ToCook dir swhid out) name rest values given same few offered =
    named_as rest values name (codes "cook") (dir ∷ swhid ∷ out ∷ []) (ToCook dir swhid out) same
    (command_of (codes "cook") cook_app rest (dir ∷ swhid ∷ out ∷ []) _ (ToCook dir swhid out) enters_cook only_cook (given_as rest values name _ _ given same)
    (cook_taken dir swhid out) (cook_rows dir swhid out) (record { is_given = (refl, refl, refl, refl); offered = offered }))
spelled_is_command (ToIdentify kind path) name rest values given same few offered =
    named_as rest values name (codes "identify") (kind_letters kind ∷ path ∷ []) (ToIdentify kind path) same
    (command_of (codes "identify") identify_app rest (kind_letters kind ∷ path ∷ []) _ (ToIdentify kind path) enters_identify only_identify
    (given_as rest values name _ _ given same) (identify_taken (kind_letters kind) path) (identify_rows (kind_letters kind) path)
    (record { is_given = (refl, refl, refl); offered = offered }))
spelled_is_command (ToIdentifyFolder path) name rest values given same few offered =
    named_as rest values name (codes "identify") (kind_letters Directory ∷ path ∷ []) (ToIdentifyFolder path) same
    (command_of (codes "identify") identify_app rest (kind_letters Directory ∷ path ∷ []) _ (ToIdentifyFolder path) enters_identify only_identify
    (given_as rest values name _ _ given same) (identify_taken (kind_letters Directory) path) (identify_rows (kind_letters Directory) path)
    (record { is_given = (refl, refl, refl); offered = offered }))

spelling_is_command : (words : List Text) (wanted : Wanted) → length words < 2 ^ 64 → spelling_of words ≡ Some (spelled_command wanted) → IsOffered wanted
    → IsCommand words wanted
spelling_is_command [] wanted few spells offered = absurd (some≢none (List Text) (spelled_command wanted) (sym spells))
spelling_is_command (name ∷ rest) wanted few spells offered = go (values_given rest) refl spells
  where
    go : (o : Option (List Text)) → values_given rest ≡ o → option_map (λ values. name ∷ values) o ≡ Some (spelled_command wanted) → IsCommand (name ∷ rest) wanted
    go None given same = absurd (some≢none (List Text) (spelled_command wanted) (sym same))
    go (Some values) given same =
        let fewer : length values ≤ length rest = values_few rest values given in
        spelled_is_command wanted name rest values given (ap (λ o. unwrap_or o []) same) (omega arith) offered

-- ---- words that are a command spell it

-- what is asked of a subcommand's rows is what they are read as
read_as_wanted : (name : Text) (rows known : List Row) (wanted : Wanted) → rows ≡ known → AsksFor (name, rows) wanted → read (name, known) ≡ wanted
read_as_wanted name rows known wanted are asked =
    sym (ap (λ (r : List Row). read (name, r)) are) ∙ read-given (name, rows) wanted asked.is_given asked.offered

-- values that ask a subcommand for something spell it
abbrev Spells : Text → App → Wanted → List Text → Type 0
Spells name sub wanted values = AsksFor (name, rows_in sub true values) wanted → name ∷ values ≡ spelled_command wanted

init_spells : (wanted : Wanted) (values : List Text) → fault_in init_app true values ≡ [] → Spells (codes "init") init_app wanted values
init_spells wanted = init_by (Spells (codes "init") init_app wanted)
    (λ dir asked. ap spelled_command (read_as_wanted (codes "init") _ _ wanted (init_rows dir) asked))

load_spells : (wanted : Wanted) (values : List Text) → fault_in load_app true values ≡ [] → Spells (codes "load") load_app wanted values
load_spells wanted = load_by (Spells (codes "load") load_app wanted)
    (λ dir jobs asked. ap spelled_command (read_as_wanted (codes "load") _ _ wanted (load_rows dir jobs) asked))

ask_spells : (wanted : Wanted) (values : List Text) → fault_in ask_app true values ≡ [] → Spells (codes "ask") ask_app wanted values
ask_spells wanted = ask_by (Spells (codes "ask") ask_app wanted)
    (λ dir path more asked. ap spelled_command (read_as_wanted (codes "ask") _ _ wanted (ask_rows dir path more) asked))

check_spells : (wanted : Wanted) (values : List Text) → fault_in check_app true values ≡ [] → Spells (codes "check") check_app wanted values
check_spells wanted = check_by (Spells (codes "check") check_app wanted)
    (λ dir asked. ap spelled_command (read_as_wanted (codes "check") _ _ wanted (check_rows dir) asked))

cook_spells : (wanted : Wanted) (values : List Text) → fault_in cook_app true values ≡ [] → Spells (codes "cook") cook_app wanted values
cook_spells wanted = cook_by (Spells (codes "cook") cook_app wanted)
    (λ dir swhid out asked. ap spelled_command (read_as_wanted (codes "cook") _ _ wanted (cook_rows dir swhid out) asked))

spelled_identified : (kind : Kind) (path : Text) → spelled_command (identified kind path) ≡ codes "identify" ∷ kind_letters kind ∷ path ∷ []
spelled_identified Content path = refl
spelled_identified Directory path = refl
spelled_identified Revision path = refl
spelled_identified Release path = refl
spelled_identified Snapshot path = refl

given_letters : (rows : List Row) (kind : Kind) (path : Text) → IsGiven (codes "identify", rows) (identified kind path)
    → first_of (codes "kind") rows ≡ Some (kind_letters kind)
given_letters rows Content path given = given.1
given_letters rows Directory path given = given.1
given_letters rows Revision path given = given.1
given_letters rows Release path given = given.1
given_letters rows Snapshot path given = given.1

-- the letters of what is identified are its kind's
identify_letters : (rows : List Row) (letters path : Text) (wanted : Wanted) → first_of (codes "kind") rows ≡ Some letters
    → identified (kind_from letters) path ≡ wanted → IsGiven (codes "identify", rows) wanted
    → codes "identify" ∷ letters ∷ path ∷ [] ≡ spelled_command wanted
identify_letters rows letters path wanted is_first are given =
    let back : IsGiven (codes "identify", rows) (identified (kind_from letters) path) = subst (IsGiven (codes "identify", rows)) (sym are) given in
    ap (λ (o : Option Text). codes "identify" ∷ unwrap_or o [] ∷ path ∷ []) (sym is_first ∙ given_letters rows (kind_from letters) path back)
    ∙ sym (spelled_identified (kind_from letters) path) ∙ ap spelled_command are

identify_spells : (wanted : Wanted) (values : List Text) → fault_in identify_app true values ≡ []
    → Spells (codes "identify") identify_app wanted values
identify_spells wanted = identify_by (Spells (codes "identify") identify_app wanted) (λ kind path asked.
    identify_letters (rows_in identify_app true (kind ∷ path ∷ [])) kind path wanted (ap (first_of (codes "kind")) (identify_rows kind path))
    (read_as_wanted (codes "identify") _ _ wanted (identify_rows kind path) asked) asked.is_given)

-- a word that names no subcommand is refused
abbrev name_met : Bool → Bool → Bool → Bool → Bool → Bool → Option Text
name_met is_init is_load is_ask is_check is_cook is_identify = option_map (λ (s : Text × List Text). s.0)
    (if is_init || false then Some (codes "init", [])
    else if is_load || false then Some (codes "load", [])
    else if is_ask || false then Some (codes "ask", [])
    else if is_check || false then Some (codes "check", [])
    else if is_cook || false then Some (codes "cook", [])
    else if is_identify || false then Some (codes "identify", [])
    else None)

only_program : HasValuesOnly program.top.rules
only_program = record { no_long = λ name. refl; no_short = λ c. refl; no_trail = tt }

-- no word stands after a `--` that is the first
marked_refused : (rest : List Text) → is_clean (fault_of program_app (dashes ∷ rest)) ≡ false
unfolding clap_on_literals
marked_refused [] = refl
marked_refused (word ∷ rest) = refl

other_turn : (name : Text) → subcommand_met (names_of program) idle name ≡ None → bytes_eq name dashes ≡ false
    → is_clean (turn_fault program.top (names_of program) (walk_from nothing_held) name) ≡ false
other_turn name none no_dashes = go (is_flag name) refl
  where
    go : (f : Bool) → is_flag name ≡ f → is_clean (turn_fault program.top (names_of program) (walk_from nothing_held) name) ≡ false
    go true flag = first_bad (word_fault program.top (names_of program) false idle name nothing_held) _
        (word_refused program.top (names_of program) idle name nothing_held only_program refl none no_dashes flag)
    go false no_flag = ap is_clean (turned_by program.top (names_of program) false nothing_held idle 1 name
        (value_met program.top.rules (names_of program) idle 1 name nothing_held tt refl none no_dashes no_flag)
        (value_passes program.top (names_of program) idle name nothing_held none no_dashes no_flag))

other_name : (name : Text) (rest : List Text) → bytes_eq (codes "init") name ≡ false → bytes_eq (codes "load") name ≡ false
    → bytes_eq (codes "ask") name ≡ false → bytes_eq (codes "check") name ≡ false
    → bytes_eq (codes "cook") name ≡ false → bytes_eq (codes "identify") name ≡ false → fault_of program_app (name ∷ rest) ≡ [] → ⊥
unfolding clap_on_literals
other_name name rest no_init no_load no_ask no_check no_cook no_identify clean = go (bytes_eq name dashes) refl
  where
    none : subcommand_met (names_of program) idle name ≡ None
    none = λ i. name_met (no_init i) (no_load i) (no_ask i) (no_check i) (no_cook i) (no_identify i)

    go : (d : Bool) → bytes_eq name dashes ≡ d → ⊥
    go true same = refused (fault_of program_app (name ∷ rest))
        (subst (λ (n : Text). is_clean (fault_of program_app (n ∷ rest)) ≡ false) (sym ((bytes_eq-Decides name dashes).0 same)) (marked_refused rest)) clean
    go false no_dashes = refused (turn_fault program.top (names_of program) (walk_from nothing_held) name) (other_turn name none no_dashes)
        (first_clean _ (walk_fault program.top (names_of program) (walked program.top.rules (names_of program) (walk_from nothing_held) name) rest)
        (first_clean _ _ clean))

same_or_not : (expected name : Text) → (expected ≡ name) ⊎ (bytes_eq expected name ≡ false)
same_or_not expected name = go (bytes_eq expected name) refl
  where
    go : (b : Bool) → bytes_eq expected name ≡ b → (expected ≡ name) ⊎ (bytes_eq expected name ≡ false)
    go true same = inl ((bytes_eq-Decides expected name).0 same)
    go false other = inr other

-- what holds of the words of each subcommand holds of all words that are taken
pub taken_by : (Holds : List Text → Type 0)
    → ((rest : List Text) → fault_of program_app (codes "init" ∷ rest) ≡ [] → Holds (codes "init" ∷ rest))
    → ((rest : List Text) → fault_of program_app (codes "load" ∷ rest) ≡ [] → Holds (codes "load" ∷ rest))
    → ((rest : List Text) → fault_of program_app (codes "ask" ∷ rest) ≡ [] → Holds (codes "ask" ∷ rest))
    → ((rest : List Text) → fault_of program_app (codes "check" ∷ rest) ≡ [] → Holds (codes "check" ∷ rest))
    → ((rest : List Text) → fault_of program_app (codes "cook" ∷ rest) ≡ [] → Holds (codes "cook" ∷ rest))
    → ((rest : List Text) → fault_of program_app (codes "identify" ∷ rest) ≡ [] → Holds (codes "identify" ∷ rest))
    → (words : List Text) → fault_of program_app words ≡ [] → Holds words
unfolding clap_on_literals
taken_by Holds of_init of_load of_ask of_check of_cook of_identify [] clean = absurd (refused (fault_of program_app []) refl clean)
taken_by Holds of_init of_load of_ask of_check of_cook of_identify (name ∷ rest) clean = elim (same_or_not (codes "init") name) [
  | inl same ↦ as_name (codes "init") of_init same
  | inr no_init ↦ elim (same_or_not (codes "load") name) [
    | inl same ↦ as_name (codes "load") of_load same
    | inr no_load ↦ elim (same_or_not (codes "ask") name) [
      | inl same ↦ as_name (codes "ask") of_ask same
      | inr no_ask ↦ elim (same_or_not (codes "check") name) [
        | inl same ↦ as_name (codes "check") of_check same
        | inr no_check ↦ elim (same_or_not (codes "cook") name) [
          | inl same ↦ as_name (codes "cook") of_cook same
          | inr no_cook ↦ elim (same_or_not (codes "identify") name) [
            | inl same ↦ as_name (codes "identify") of_identify same
            | inr no_identify ↦ absurd (other_name name rest no_init no_load no_ask no_check no_cook no_identify clean)
          ]
        ]
      ]
    ]
  ]
]
  where
    as_name : (expected : Text) → ((rest : List Text) → fault_of program_app (expected ∷ rest) ≡ [] → Holds (expected ∷ rest)) → expected ≡ name
        → Holds (name ∷ rest)
    as_name expected holds same =
        subst (λ (n : Text). fault_of program_app (n ∷ rest) ≡ [] → Holds (n ∷ rest)) same (holds rest) clean

-- the subcommand's values, and what is asked of them
pub named_by : (G : Type 0) (name : Text) (sub : App) (rest : List Text) → Enters name sub → HasValuesOnly (built_sub sub).rules
    → fault_of program_app (name ∷ rest) ≡ []
    → ((values : List Text) → values_given rest ≡ Some values → fault_in sub true values ≡ []
    → subcommand_of program_app (name ∷ rest) ≡ Some (name, rows_in sub true values) → G) → G
named_by G name sub rest enters only clean next =
    taken_values G sub rest only (sym (enters.fault rest) ∙ clean)
    (λ values given passes are. next values given passes (enters.rows rest ∙ ap (λ (r : List Row). Some (name, r)) are))

abbrev pub IsAskedBy : Option (Text × List Row) → Wanted → Type 0
IsAskedBy o wanted = IsSomeAnd o (λ given. AsksFor given wanted)

abbrev SpellsWhatItIs : Wanted → List Text → Type 0
SpellsWhatItIs wanted words = IsAskedBy (subcommand_of program_app words) wanted → spelling_of words ≡ Some (spelled_command wanted)

named_spells : (name : Text) (sub : App) (wanted : Wanted) → Enters name sub → HasValuesOnly (built_sub sub).rules
    → ((values : List Text) → fault_in sub true values ≡ [] → Spells name sub wanted values)
    → (rest : List Text) → fault_of program_app (name ∷ rest) ≡ [] → SpellsWhatItIs wanted (name ∷ rest)
named_spells name sub wanted enters only spells rest clean asked =
    named_by (spelling_of (name ∷ rest) ≡ Some (spelled_command wanted)) name sub rest enters only clean
    (λ values given passes are. ap (option_map (λ vs. name ∷ vs)) given
    ∙ ap (λ l. Some l) (spells values passes (subst (λ (o : Option (Text × List Row)). IsAskedBy o wanted) are asked)))

command_is_spelled : (words : List Text) (wanted : Wanted) → IsCommand words wanted → spelling_of words ≡ Some (spelled_command wanted)
command_is_spelled words wanted is = taken_by (SpellsWhatItIs wanted)
    (named_spells (codes "init") init_app wanted enters_init only_init (init_spells wanted))
    (named_spells (codes "load") load_app wanted enters_load only_load (load_spells wanted))
    (named_spells (codes "ask") ask_app wanted enters_ask only_ask (ask_spells wanted))
    (named_spells (codes "check") check_app wanted enters_check only_check (check_spells wanted))
    (named_spells (codes "cook") cook_app wanted enters_cook only_cook (cook_spells wanted))
    (named_spells (codes "identify") identify_app wanted enters_identify only_identify (identify_spells wanted)) words is.taken is.asked

pub spelled_words : (words : List Text) (wanted : Wanted) → length words < 2 ^ 64
    → IsCommand words wanted ↔ ((spelling_of words ≡ Some (spelled_command wanted)) × IsOffered wanted)
spelled_words words wanted few = (
  λ is. (command_is_spelled words wanted is, offered words wanted is),
  λ (h : (spelling_of words ≡ Some (spelled_command wanted)) × IsOffered wanted). spelling_is_command words wanted few h.0 h.1,
)

-- ---- words that are no command

abbrev AsksNothing : Text → App → List Text → Type 0
AsksNothing name sub values = (wanted : Wanted) → AsksFor (name, rows_in sub true values) wanted → ⊥

-- where nothing is asked of words that are taken, they name no kind
abbrev NamesNoKindIfNone : List Text → Type 0
NamesNoKindIfNone words = ((wanted : Wanted) → IsAskedBy (subcommand_of program_app words) wanted → ⊥) → NamesNoKind words

named_asks : (name : Text) (sub : App) → Enters name sub → HasValuesOnly (built_sub sub).rules
    → ((values : List Text) → fault_in sub true values ≡ [] → AsksNothing name sub values → ⊥)
    → (rest : List Text) → fault_of program_app (name ∷ rest) ≡ [] → NamesNoKindIfNone (name ∷ rest)
named_asks name sub enters only asks rest clean none =
    absurd (named_by ⊥ name sub rest enters only clean (λ values given passes are. asks values passes
    (λ wanted asked. none wanted (subst (λ (o : Option (Text × List Row)). IsAskedBy o wanted) (sym are) asked))))

init_asks : (values : List Text) → fault_in init_app true values ≡ [] → AsksNothing (codes "init") init_app values → ⊥
unfolding clap_on_literals
init_asks = init_by (λ values. AsksNothing (codes "init") init_app values → ⊥)
    (λ dir none. none (ToInit dir) (record { is_given = (refl, refl); offered = tt }))

load_asks : (values : List Text) → fault_in load_app true values ≡ [] → AsksNothing (codes "load") load_app values → ⊥
unfolding clap_on_literals
load_asks = load_by (λ values. AsksNothing (codes "load") load_app values → ⊥)
    (λ dir jobs none. none (ToLoad dir jobs) (record { is_given = (refl, refl, refl); offered = tt }))

ask_asks : (values : List Text) → fault_in ask_app true values ≡ [] → AsksNothing (codes "ask") ask_app values → ⊥
ask_asks = ask_by (λ values. AsksNothing (codes "ask") ask_app values → ⊥) (λ dir path more none. none (ToAsk dir (path ∷ more))
    (subst (λ (rows : List Row). AsksFor (codes "ask", rows) (ToAsk dir (path ∷ more))) (sym (ask_rows dir path more))
    (record { is_given = (refl, refl, refl); offered = omega arith })))

check_asks : (values : List Text) → fault_in check_app true values ≡ [] → AsksNothing (codes "check") check_app values → ⊥
unfolding clap_on_literals
check_asks = check_by (λ values. AsksNothing (codes "check") check_app values → ⊥)
    (λ dir none. none (ToCheck dir) (record { is_given = (refl, refl); offered = tt }))

cook_asks : (values : List Text) → fault_in cook_app true values ≡ [] → AsksNothing (codes "cook") cook_app values → ⊥
unfolding clap_on_literals
cook_asks = cook_by (λ values. AsksNothing (codes "cook") cook_app values → ⊥)
    (λ dir swhid out none. none (ToCook dir swhid out) (record { is_given = (refl, refl, refl, refl); offered = tt }))

no_kind : (letters path : Text) → AsksNothing (codes "identify") identify_app (letters ∷ path ∷ []) → IsNoKind letters
unfolding clap_on_literals
no_kind letters path none Content same = none (ToIdentify Content path) (record { is_given = (refl, ap (λ l. Some l) same, refl); offered = λ e. cc })
no_kind letters path none Directory same = none (ToIdentifyFolder path) (record { is_given = (refl, ap (λ l. Some l) same, refl); offered = tt })
no_kind letters path none Revision same = none (ToIdentify Revision path) (record { is_given = (refl, ap (λ l. Some l) same, refl); offered = λ e. cc })
no_kind letters path none Release same = none (ToIdentify Release path) (record { is_given = (refl, ap (λ l. Some l) same, refl); offered = λ e. cc })
no_kind letters path none Snapshot same = none (ToIdentify Snapshot path) (record { is_given = (refl, ap (λ l. Some l) same, refl); offered = λ e. cc })

identify_asks : (values : List Text) → fault_in identify_app true values ≡ [] → AsksNothing (codes "identify") identify_app values
    → IsSomeAnd (first_of (codes "kind") (rows_in identify_app true values)) IsNoKind
unfolding clap_on_literals
identify_asks = identify_by
    (λ values. AsksNothing (codes "identify") identify_app values → IsSomeAnd (first_of (codes "kind") (rows_in identify_app true values)) IsNoKind) no_kind

identify_names : (rest : List Text) → fault_of program_app (codes "identify" ∷ rest) ≡ [] → NamesNoKindIfNone (codes "identify" ∷ rest)
identify_names rest clean none =
    named_by (NamesNoKind (codes "identify" ∷ rest)) (codes "identify") identify_app rest enters_identify only_identify clean
    (λ values given passes are. subst (λ (o : Option (Text × List Row)).
    IsSomeAnd o (λ given. (given.0 ≡ codes "identify") × IsSomeAnd (first_of (codes "kind") given.1) IsNoKind)) (sym are) (
      refl,
      identify_asks values passes
          (λ wanted asked. none wanted (subst (λ (o : Option (Text × List Row)). IsAskedBy o wanted) (sym are) asked)),
    ))

no_command : (words : List Text) → ((wanted : Wanted) → IsCommand words wanted → ⊥) → (fault_of program_app words ≢ []) ⊎ NamesNoKind words
no_command words none = go (fault_of program_app words) refl
  where
    go : (fault : Kinds) → fault_of program_app words ≡ fault → (fault_of program_app words ≢ []) ⊎ NamesNoKind words
    go [] clean = inr (taken_by NamesNoKindIfNone (named_asks (codes "init") init_app enters_init only_init init_asks)
        (named_asks (codes "load") load_app enters_load only_load load_asks)
        (named_asks (codes "ask") ask_app enters_ask only_ask ask_asks) (named_asks (codes "check") check_app enters_check only_check check_asks)
        (named_asks (codes "cook") cook_app enters_cook only_cook cook_asks)
        identify_names words clean
        (λ wanted asked. none wanted (record { taken = clean; asked = asked })))
    go (k ∷ rest) bad = inl (refused (fault_of program_app words) (ap is_clean bad))

-- names of other lengths are others
no_other_name : (name a b : Text) → (length a == length b) ≡ false → name ≡ a → name ≡ b → ⊥
no_other_name name a b differ is_a is_b = true≢false (sym (eq-eqb (length a) (length b) (ap length (sym is_a ∙ is_b))) ∙ differ)

pub names_no_command : (o : Option (Text × List Row)) (wanted : Wanted)
    → IsSomeAnd o (λ given. (given.0 ≡ codes "identify") × IsSomeAnd (first_of (codes "kind") given.1) IsNoKind) → IsAskedBy o wanted → ⊥
names_no_command None wanted names asked = absurd names
names_no_command (Some given) (ToInit dir) names asked = no_other_name given.0 (codes "init") (codes "identify") refl asked.is_given.0 names.0
names_no_command (Some given) (ToLoad dir jobs) names asked = no_other_name given.0 (codes "load") (codes "identify") refl asked.is_given.0 names.0
names_no_command (Some given) (ToAsk dir paths) names asked = no_other_name given.0 (codes "ask") (codes "identify") refl asked.is_given.0 names.0
names_no_command (Some given) (ToCheck dir) names asked = no_other_name given.0 (codes "check") (codes "identify") refl asked.is_given.0 names.0
names_no_command (Some given) (ToCook dir swhid out) names asked = no_other_name given.0 (codes "cook") (codes "identify") refl asked.is_given.0 names.0
names_no_command (Some given) (ToIdentify kind path) names asked =
    subst (λ (o : Option Text). IsSomeAnd o IsNoKind) asked.is_given.1 names.1 kind refl
names_no_command (Some given) (ToIdentifyFolder path) names asked =
    subst (λ (o : Option Text). IsSomeAnd o IsNoKind) asked.is_given.1 names.1 Directory refl

pub refused_words : (words : List Text) → ((wanted : Wanted) → IsCommand words wanted → ⊥) ↔ ((fault_of program_app words ≢ []) ⊎ NamesNoKind words)
refused_words words = (
  no_command words,
  λ (h : (fault_of program_app words ≢ []) ⊎ NamesNoKind words) wanted is. elim h [
    | inl bad ↦ bad is.taken
    | inr names ↦ names_no_command (subcommand_of program_app words) wanted names is.asked
  ],
)
