use Rattle.std.proofs.Common.{◌≤◌, ◌-◌, length, take, drop, arith, ap, ◌∙◌}
use Rattle.swh_fastlex.specs.Line.{Held}
use Rattle.swh_fastlex.proofs.Windows.{skip_is}
use Rattle.swh_fastlex.proofs.window.Window.skip.Goals as goal

pub returns-clause-bytes : goal.returns-clause-bytes
returns-clause-bytes c =
    let bytes = ap (λ (h : Held). h.bytes) c.self.view_is in
    let fits : c.args.count ≤ length (take (c.self.inside.end - c.self.inside.start) (drop c.self.inside.start c.self.inside.buffer.items)) = omega (arith, ap length bytes, c.requires.within) in
    skip_is c.self.inside.buffer.items c.self.inside.start c.self.inside.end c.args.count c.self.invariant.0 fits ∙ ap (drop c.args.count) bytes
