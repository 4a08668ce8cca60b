use Rattle.std.proofs.Common.{ap, ◌∙◌, List, ℕ}
use Rattle.swh_forest.specs.PathMap.{same}
use Rattle.swh_forest.proofs.Steps.{text-at}
use Rattle.swh_forest.proofs.node.is_name.Goals as goal

pub returns : goal.returns
returns c = rw (text-at c.args.names.now c.args.number c.index-names-number.result c.requires c.index-names-number.is) (c.eq.ensures ∙ ap (λ (t : List ℕ). same t c.args.name.now) c.as_slice.ensures.value)
