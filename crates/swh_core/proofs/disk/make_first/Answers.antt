use Rattle.std.proofs.Common.{List, ap, ◌∙◌}
use Rattle.swh_outside.specs.Files.{FileCall}
use Rattle.swh_core.specs.World.{called}
use Rattle.swh_core.proofs.Files.{calls_taken}
use Rattle.swh_core.proofs.disk.make_first.Goals as goal

pub returns : goal.returns
returns c = c.in_ok-do_calls.ensures ∙ ap (λ (l : List FileCall). called l c.args.disks.now) (calls_taken c.args.number c.at_most-count.result c.args.calls.now c.at_most-count.ensures)
