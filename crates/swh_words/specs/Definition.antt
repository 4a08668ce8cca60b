-- The program's definition for clap: its subcommands and their words.
use Rattle.std.specs.Prelude.{◌≡◌, true, false, Some, codes}
use Rattle.clap.specs.Lexer.{usize_max}
use Rattle.clap.specs.Words.{App, Rule, Shape, Text, app_of, new_app, new_rule, with_rule, with_subcommand}
use Rattle.clap.specs.declared.Command.{Command}
use Rattle.clap.specs.declared.Command.TheViews.{out-Command}

-- a word that has to be there
abbrev pub one_word : Text → Rule
one_word id = record (new_rule id) { required = true }

-- one word or more
abbrev pub some_words : Text → Rule
some_words id = record (one_word id) { range = Some (record { start_inclusive = 1; end_inclusive = usize_max }) }

-- `init` and a folder
abbrev pub init_app : App
init_app = with_rule (new_app (codes "init")) (one_word (codes "dir"))

-- `load`, a folder and a job file
abbrev pub load_app : App
load_app = with_rule (with_rule (new_app (codes "load")) (one_word (codes "dir"))) (one_word (codes "jobs"))

-- `ask`, a folder, and one path or more
abbrev pub ask_app : App
ask_app = with_rule (with_rule (new_app (codes "ask")) (one_word (codes "dir"))) (some_words (codes "path"))

-- `check` and a folder
abbrev pub check_app : App
check_app = with_rule (new_app (codes "check")) (one_word (codes "dir"))

-- `cook`, a folder, a SWHID and a path
abbrev pub cook_app : App
cook_app = with_rule (with_rule (with_rule (new_app (codes "cook")) (one_word (codes "dir"))) (one_word (codes "swhid"))) (one_word (codes "out"))

-- `identify`, a kind and a path
abbrev pub identify_app : App
identify_app = with_rule (with_rule (new_app (codes "identify")) (one_word (codes "kind"))) (one_word (codes "path"))

-- a program whose words begin with a subcommand, and that has no help and no version
abbrev pub bare_shape : Shape → Shape
bare_shape s = record s {
  no_binary_name = true;
  disable_help_flag = true;
  disable_help_subcommand = true;
  disable_version_flag = true;
  subcommand_required = true;
}

-- a definition with that shape
abbrev pub bare_app : App → App
bare_app a = record a { top = bare_shape a.top }

-- the program: its six subcommands
abbrev pub program_app : App
program_app =
    let bare = bare_app (new_app (codes "swharc")) in
    with_subcommand (with_subcommand (with_subcommand (with_subcommand (with_subcommand (with_subcommand bare init_app.top) load_app.top) ask_app.top) check_app.top)
    cook_app.top) identify_app.top

-- the command has this definition, and no argument that its subcommands share
pub record IsDefinedAs (app : App) (command : Command) : Type 0 where
  pub app_is : app_of command ≡ app
  pub local : (out-Command command).has_globals ≡ false
