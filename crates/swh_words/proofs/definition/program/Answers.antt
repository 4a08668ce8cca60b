use Rattle.std.proofs.lemmas.Result.{IfOk-weaker}
use Rattle.std.specs.Prelude.{codes}
use Rattle.clap.specs.Words.{App, new_app, with_subcommand}
use Rattle.swh_words.specs.Definition.{ask_app, bare_app, check_app, cook_app, identify_app, init_app, load_app}
use Rattle.swh_words.proofs.Definitions.{joined}
use Rattle.swh_words.proofs.definition.program.Goals as goal

abbrev bare : App
bare = bare_app (new_app (codes "swharc"))

abbrev with_init : App
with_init = with_subcommand bare init_app.top

abbrev with_load : App
with_load = with_subcommand with_init load_app.top

abbrev with_ask : App
with_ask = with_subcommand with_load ask_app.top

abbrev with_check : App
with_check = with_subcommand with_ask check_app.top

abbrev with_cook : App
with_cook = with_subcommand with_check cook_app.top

pub returns : goal.returns
returns c =
    let one = joined _ _ _ bare init_app c.in_ok-subcommand.ensures c.bare_command.ensures c.in_ok-init_command.ensures in
    let two = joined _ _ _ with_init load_app c.in_ok-subcommand-2.ensures one c.in_ok-load_command.ensures in
    let three = joined _ _ _ with_load ask_app c.in_ok-subcommand-3.ensures two c.in_ok-ask_command.ensures in
    let four = joined _ _ _ with_ask check_app c.in_ok-subcommand-4.ensures three c.in_ok-check_command.ensures in
    let five = joined _ _ _ with_check cook_app c.in_ok-subcommand-5.ensures four c.in_ok-cook_command.ensures in
    IfOk-weaker c.subcommand-6.result _ _ (λ command adds. joined _ _ command with_cook identify_app adds five c.in_ok-identify_command.ensures) c.subcommand-6.ensures
