use Rattle.std.proofs.Common.{ap, ◌∙◌}
use Rattle.swh_dirfmt.specs.Entries.{entry_of}
use Rattle.swh_dircook.specs.Weights.{listed_weight}
use Rattle.swh_dircook.proofs.Sums.{project_weight}
use Rattle.swh_dircook.proofs.weights.ListedLinesWeigh.weigh.Goals as goal

pub returns-then-entry-eq160000 : goal.returns-then-entry-eq160000
returns-then-entry-eq160000 c = c.line_of-then-entry-eq160000.ensures ∙ ap listed_weight c.project_line.ensures ∙ project_weight (entry_of c.args.entry.now) c.if-entry-eq160000.true
