-- Why a part of an input is not read: it breaks so, the source failed, or memory ran out.
use Rattle.std.specs.Prelude.{ℕ}
use Rattle.swh_outside.specs.Faults.{Rose}
use Rattle.swh_batchread.specs.declared.fault.BatchFault.{BatchFault}
use Rattle.swh_batchread.specs.declared.fault.BatchFault.TheVariants.{BadBatch, WrongName, BadRefs, NoObject, Limit, ReadFault, Memory}

-- Some input may break so, whatever its source tells; and where the source tells what it gives, this one breaks so.
pub record BreaksSo (tells : Type 0) (may breaks : Type 0) : Type 0 where
  pub possible : may
  pub told : tells → breaks

-- Why a part is not read: it breaks in one of the ways that there are; or the source failed, and its count of faults rose from
-- `old` to `new`; or memory ran out, of which nothing is said.
abbrev pub Fails : Type 0 → (BatchFault → Type 0) → (BatchFault → Type 0) → ℕ → ℕ → BatchFault → Type 0
Fails tells May Breaks old new ReadFault = Rose old new
Fails tells May Breaks old new Memory = Unit {0}
Fails tells May Breaks old new (BadBatch at) = BreaksSo tells (May (BadBatch at)) (Breaks (BadBatch at))
Fails tells May Breaks old new (WrongName given got) = BreaksSo tells (May (WrongName given got)) (Breaks (WrongName given got))
Fails tells May Breaks old new (BadRefs line) = BreaksSo tells (May (BadRefs line)) (Breaks (BadRefs line))
Fails tells May Breaks old new (NoObject id) = BreaksSo tells (May (NoObject id)) (Breaks (NoObject id))
Fails tells May Breaks old new (Limit which number) = BreaksSo tells (May (Limit which number)) (Breaks (Limit which number))
