use Rattle.std.proofs.Common.{IfOk, List, subst}
use Rattle.swh_base.specs.declared.entry.Entry.{Entry}
use Rattle.swh_store.specs.Adding.{Joins}
use Rattle.swh_store.proofs.distinct.Distinct.join.Goals as goal

pub returns-clause-ok : goal.returns-clause-ok
returns-clause-ok c = subst (λ (es : List Entry). IfOk c.join.result (Joins es c.join.new.held.entries.items c.args.entry)) c.self.view_is c.join.ensures.ok
