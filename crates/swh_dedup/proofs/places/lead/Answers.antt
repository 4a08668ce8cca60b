use Rattle.std.proofs.Common.{sym, ◌∙◌}
use Rattle.swh_dedup.proofs.Seens.{put_new, put_back}
use Rattle.swh_dedup.proofs.places.lead.Goals as goal

pub returns-in_default-clause-new : goal.returns-in_default-clause-new
returns-in_default-clause-new c =
    put_new c.args.digest c.args.place c.args.first.now.entries c.insert.new.self.entries (sym c.in_ok-known.ensures.old ∙ c.in_default.is) c.in_ok-known.ensures.updates.0

pub returns-clause-known : goal.returns-clause-known
returns-clause-known c =
    put_back c.args.digest c.args.place c.in-Some.known c.args.first.now.entries c.insert.new.self.entries c.insert-2.new.self.entries (sym c.in_ok-known.ensures.old ∙ c.in-Some.is) c.in_ok-known.ensures.updates.0 c.in-Ok.ensures.updates.0
