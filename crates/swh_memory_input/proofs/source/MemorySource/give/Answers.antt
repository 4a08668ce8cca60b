use Rattle.std.proofs.Common.{◌≡◌, ◌++◌, take, drop, List, ℕ, sym, ◌∙◌, ap, arith}
use Rattle.std.proofs.lemmas.Grind.{common_steps}
use Rattle.std.proofs.Math.Seq.{take-add}
use Rattle.swh_memory_input.proofs.source.MemorySource.give.Goals as goal

pub returns-else-count-eq0-clause-given : goal.returns-else-count-eq0-clause-given
returns-else-count-eq0-clause-given c =
    let bytes = c.args.self.now.bytes.items in
    let at = c.args.self.now.at in
    let n = c.min-count.result in
    let piece : take n (c.copy_from_slice.new.self ++ drop n c.args.out.now) ≡ take n (drop at bytes) = grind (arith, common_steps, c.copy_from_slice.ensures, c.deref.ensures) in
    take-add at n bytes ∙ ap (λ (l : List ℕ). take at bytes ++ l) (sym piece)
