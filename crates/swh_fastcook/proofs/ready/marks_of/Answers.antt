use Rattle.std.proofs.Common.{List, subst}
use Rattle.std.specs.Prelude.{Contains}
use Rattle.swh_base.specs.declared.name.Name.{Name}
use Rattle.swh_fastcook.proofs.Acyclic.{all_once}
use Rattle.swh_fastcook.proofs.ready.marks_of.Goals as goal

pub new-requires : goal.new-requires
new-requires g c = all_once (g.L.Graph.children_of c.args.look.now) c.args.root c.in-Ok.order.items c.in-Ok.ensures.ok

pub returns-clause-acyclic : goal.returns-clause-acyclic
returns-clause-acyclic g c = λ n there. c.in-Ok.ensures.acyclic n (subst (λ (ns : List Name). Contains ns n) c.in_ok-new.ensures there)
