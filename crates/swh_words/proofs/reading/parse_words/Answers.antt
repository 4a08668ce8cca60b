use Rattle.std.proofs.Common.{◌≡◌, ◌∙◌, ap, sym, subst, map, List, Option, string_bytes}
use Rattle.std.specs.Prelude.{IsSomeAnd}
use Rattle.clap.specs.Words.{Row, Text, is_simple, subcommand_of, subcommand_rows_of}
use Rattle.swh_words.specs.Definition.{program_app}
use Rattle.swh_words.specs.Words.{AsksFor}
use Rattle.swh_words.proofs.Commands.{none_of_answer}
use Rattle.swh_words.proofs.Definitions.{program_is_simple}
use Rattle.swh_words.proofs.reading.parse_words.Goals as goal

pub returns-in-Ok-clause-err : goal.returns-in-Ok-clause-err
returns-in-Ok-clause-err c =
    let texts = map string_bytes c.args.words.now in
    let app_is = c.in_ok-program.ensures.app_is in
    let rows : subcommand_rows_of c.in-Ok.matches ≡ subcommand_of program_app texts =
    (c.in-Ok.ensures.matches (ap is_simple app_is ∙ program_is_simple)).1 ∙ ap (λ app. subcommand_of app texts) app_is in
    none_of_answer c.command_given.result _ _ (λ wanted is. subst (λ (o : Option (Text × List Row)). IsSomeAnd o (λ given. AsksFor given wanted)) (sym rows) is.asked) c.command_given.ensures
