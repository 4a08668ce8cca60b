use Rattle.std.proofs.Common.{rules, arith, ◌≤◌, length}
use Rattle.std.proofs.lemmas.Bool.{ltb-true, ltb-false}
use Rattle.std.proofs.lemmas.Grind.{common_steps}
use Rattle.swh_fastlex.proofs.Windows.{held_some}
use Rattle.swh_fastlex.proofs.window.Window.fill.Goals as goal

pub returns-clause-some : goal.returns-clause-some
returns-clause-some g c =
    let low : c.if-self.self-inside.start ≤ c.if-self.self-inside.end = first_of (search rules, grind (arith, common_steps)) in
    let high : c.if-self.self-inside.end ≤ length c.if-self.self-inside.buffer.items = first_of (search rules, grind (arith, common_steps)) in
    held_some c.if-self.self-inside.buffer.items c.if-self.self-inside.start c.if-self.self-inside.end _ (ltb-true c.if-self.self-inside.start c.if-self.self-inside.end) (ltb-false c.if-self.self-inside.start c.if-self.self-inside.end) low high
