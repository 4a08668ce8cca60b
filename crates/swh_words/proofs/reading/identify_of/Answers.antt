use Rattle.std.proofs.Common.{Option, Some, refl, subst}
use Rattle.std.specs.Prelude.{codes, IsSomeAnd}
use Rattle.clap.specs.Words.{Text, found_of, rows_of}
use Rattle.swh_words.specs.Spelling.{IsNoKind}
use Rattle.swh_words.proofs.Spelling.{names_no_command}
use Rattle.swh_words.proofs.reading.identify_of.Goals as goal

pub returns-in_default-kind_of : goal.returns-in_default-kind_of
returns-in_default-kind_of c wanted asked =
    let none : IsNoKind c.in-Some.letters.now = c.kind_of.ensures.none c.in_default-kind_of.is in
    names_no_command (Some (codes "identify", rows_of (found_of c.args.values.now))) wanted (
      refl,
      subst (λ (o : Option Text). IsSomeAnd o IsNoKind) c.in-Some.ensures none,
    ) asked
