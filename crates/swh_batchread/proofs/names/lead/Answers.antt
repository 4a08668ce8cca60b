use Rattle.std.proofs.Common.{sym, ◌∙◌}
use Rattle.swh_batchread.proofs.NamesKnown.{leads_known, leads_new}
use Rattle.swh_batchread.proofs.names.lead.Goals as goal

pub returns-then-contains_key : goal.returns-then-contains_key
returns-then-contains_key c = leads_known c.args.name c.args.first.now.entries (sym c.contains_key.ensures ∙ c.if-contains_key.true)

pub returns : goal.returns
returns c = leads_new c.args.name c.args.first.now.entries c.insert.new.self.entries (sym c.contains_key.ensures ∙ c.if-contains_key.false) c.in_ok-insert.ensures.updates.0
