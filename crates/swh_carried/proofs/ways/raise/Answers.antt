use Rattle.std.proofs.Common.{◌≡◌, true, false, sym, ◌∙◌}
use Rattle.swh_carried.proofs.WayCounts.{put_raises, stays_raised}
use Rattle.swh_carried.proofs.ways.raise.Goals as goal

pub returns-then-is_known : goal.returns-then-is_known
returns-then-is_known c =
    let known = c.is_known.ensures.known c.if-is_known.true in
    stays_raised c.args.name c.args.way known.0 c.args.ways.now.entries known.1 known.2

pub returns : goal.returns
returns c =
    put_raises c.args.name c.args.way c.args.ways.now.entries c.insert.new.self.entries c.in_ok-insert.ensures.updates.0
    (c.is_known.ensures.less (λ t. let e : true ≡ false = sym t ∙ c.if-is_known.false in cc))
