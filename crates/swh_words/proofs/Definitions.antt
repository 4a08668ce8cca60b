-- The program's definition: it is put together a subcommand at a time, and clap's clauses on simple commands hold of it.
use Rattle.std.proofs.Common.{◌≡◌, ◌∙◌, true, refl, ap, ap₂}
use Rattle.clap.specs.Words.{AddsSubcommand, App, is_simple, with_subcommand}
use Rattle.clap.specs.declared.Command.{Command}
use Rattle.clap.proofs.OnLiterals.{clap_on_literals}
use Rattle.swh_words.specs.Definition.{IsDefinedAs, program_app}

pub joined : (old sub new : Command) (a b : App) → AddsSubcommand old sub new → IsDefinedAs a old → IsDefinedAs b sub → IsDefinedAs (with_subcommand a b.top) new
joined old sub new a b adds of_old of_sub = record {
  app_is = adds.shape of_sub.local ∙ ap₂ with_subcommand of_old.app_is (ap (λ (x : App). x.top) of_sub.app_is);
  local = adds.globals ∙ rw (of_old.local, of_sub.local) refl;
}

pub program_is_simple : is_simple program_app ≡ true
unfolding clap_on_literals
program_is_simple = refl
