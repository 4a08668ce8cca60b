use Rattle.std.proofs.Common.{◌≡◌, length, List, ap, subst, arith}
use Rattle.std.specs.List.{position_or_len}
use Rattle.swh_memory_input.specs.Outside.{is_for}
use Rattle.swh_memory_input.proofs.Absent.{input_at-absent}
use Rattle.swh_memory_input.specs.declared.input.Input.{Input}
use Rattle.swh_memory_input.proofs.origins.MemoryOriginsOrigins.file.Goals as goal

pub returns-then-i-len-clause-absent : goal.returns-then-i-len-clause-absent
returns-then-i-len-clause-absent c not_found =
    let p = is_for c.args.path.now in
    let inputs = c.args.self.now.inputs.items in
    let e = c.deref.ensures.value in
    let first = subst (λ (l : List Input). c.find_input-i.result ≡ position_or_len p l) e c.find_input-i.ensures.first in
    let none : position_or_len p inputs ≡ length inputs = omega (arith, first, ap length e, c.if-i-len.true, c.len.ensures, c.deref.ensures.len) in
    input_at-absent inputs c.args.path.now none
