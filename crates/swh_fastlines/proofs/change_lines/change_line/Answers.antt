use Rattle.std.proofs.Common.{IfOk, List, ℕ, sym, subst}
use Rattle.swh_fastlines.proofs.ChangeLines.{Reads}
use Rattle.swh_fastlines.proofs.change_lines.change_line.Goals as goal

pub returns-in-Some : goal.returns-in-Some
returns-in-Some c = subst (λ (l : List ℕ). IfOk c.set_line.result (Reads l)) (sym c.in-Some.ensures.some) c.set_line.ensures

pub returns-in-Some-behind : goal.returns-in-Some-behind
returns-in-Some-behind c = subst (λ (l : List ℕ). IfOk c.delete_line.result (Reads l)) (sym c.in-Some-behind.ensures.some) c.delete_line.ensures

pub returns-in-Some-behind-2 : goal.returns-in-Some-behind-2
returns-in-Some-behind-2 c = subst (λ (l : List ℕ). IfOk c.copy_line.result (Reads l)) (sym c.in-Some-behind-2.ensures.some) c.copy_line.ensures

pub returns-in-Some-behind-3 : goal.returns-in-Some-behind-3
returns-in-Some-behind-3 c = subst (λ (l : List ℕ). IfOk c.move_line.result (Reads l)) (sym c.in-Some-behind-3.ensures.some) c.move_line.ensures
