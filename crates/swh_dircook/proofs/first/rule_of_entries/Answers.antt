use Rattle.swh_dirfmt.specs.Entries.{entries_in_body}
use Rattle.swh_dircook.specs.Rules.{IsLongOver}
use Rattle.swh_dircook.proofs.Rules.{of_names}
use Rattle.swh_dircook.proofs.first.rule_of_entries.Goals as goal

pub returns-in-Some : goal.returns-in-Some
returns-in-Some c = of_names c.args.entries.now (IsLongOver c.args.way (entries_in_body c.args.entries.now)) c.in-Some.why c.in-Some.ensures
