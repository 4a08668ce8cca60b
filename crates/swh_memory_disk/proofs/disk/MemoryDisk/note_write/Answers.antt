use Rattle.std.proofs.Common.{rules, ◌≡◌, ◌+◌, ◌++◌, length, refl, ◌∙◌, ap, arith}
use Rattle.swh_memory_disk.specs.Record.{sizes_of}
use Rattle.swh_memory_disk.specs.declared.record.MemoryRecord.{MemoryRecord}
use Rattle.swh_memory_disk.specs.declared.record.MemoryCall.TheVariants.{Written}
use Rattle.swh_memory_disk.proofs.RecordLaws.{sizes_of-push}
use Rattle.swh_memory_disk.proofs.PastLaws.{file-push, moments-push, recorded_write_failed, recorded_write, sees_written}
use Rattle.swh_memory_disk.proofs.disk.MemoryDisk.note_write.Goals as goal

pub invariant_of-self-clause-sizes : goal.invariant_of-self-clause-sizes
invariant_of-self-clause-sizes c =
    let d = c.args.self.now in
    let r : MemoryRecord = record { call = Written c.args.at (length c.args.bytes.now); failed = c.args.failed } in
    let size : length c.extend_from_slice.new.self.items ≡ length d.written.items + length c.args.bytes.now = search rules in
    ap sizes_of c.push_reserved.ensures.items ∙ sizes_of-push d.calls.items r ∙ omega (arith, d.sizes, size)

pub invariant_of-self-clause-recorded : goal.invariant_of-self-clause-recorded
invariant_of-self-clause-recorded c =
    let d = c.args.self.now in
    let kept : c.extend_from_slice.new.self.items ≡ d.written.items ++ c.args.bytes.now = search rules in
    recorded_write_failed d.made.items d.calls.items d.written.items d.base.items d.ranges.items d.longest d.bytes.items c.args.at c.args.bytes.now c.args.failed _ _ _ _
    d.sizes d.recorded c.if-failed.true c.push_reserved.ensures.items kept c.push_reserved-2.ensures.items c.max-self.ensures

pub returns-then-failed-clause-file : goal.returns-then-failed-clause-file
returns-then-failed-clause-file c =
    let d = c.args.self.now in
    let r : MemoryRecord = record { call = Written c.args.at (length c.args.bytes.now); failed = c.args.failed } in
    let kept : c.extend_from_slice.new.self.items ≡ d.written.items ++ c.args.bytes.now = search rules in
    file-push d.made.items d.calls.items d.written.items d.base.items d.ranges.items d.longest d.bytes.items r c.args.bytes.now _ _ d.base.items _ _ d.bytes.items
    d.sizes refl c.push_reserved.ensures.items kept d.recorded
    (recorded_write_failed d.made.items d.calls.items d.written.items d.base.items d.ranges.items d.longest d.bytes.items c.args.at c.args.bytes.now c.args.failed _ _ _ _
    d.sizes d.recorded c.if-failed.true c.push_reserved.ensures.items kept c.push_reserved-2.ensures.items c.max-self.ensures)

pub returns-then-failed-clause-past : goal.returns-then-failed-clause-past
returns-then-failed-clause-past c =
    let d = c.args.self.now in
    let r : MemoryRecord = record { call = Written c.args.at (length c.args.bytes.now); failed = c.args.failed } in
    let kept : c.extend_from_slice.new.self.items ≡ d.written.items ++ c.args.bytes.now = search rules in
    record { same = λ n le. moments-push d.made.items d.calls.items d.written.items r c.args.bytes.now _ _ n d.sizes c.push_reserved.ensures.items kept le }

pub invariant_of-self-2-clause-sizes : goal.invariant_of-self-2-clause-sizes
invariant_of-self-2-clause-sizes c =
    let d = c.args.self.now in
    let r : MemoryRecord = record { call = Written c.args.at (length c.args.bytes.now); failed = c.args.failed } in
    let size : length c.extend_from_slice.new.self.items ≡ length d.written.items + length c.args.bytes.now = search rules in
    ap sizes_of c.push_reserved.ensures.items ∙ sizes_of-push d.calls.items r ∙ omega (arith, d.sizes, size)

pub invariant_of-self-2-clause-sees_image : goal.invariant_of-self-2-clause-sees_image
invariant_of-self-2-clause-sees_image c =
    let d = c.args.self.now in
    sees_written d.base.items d.ranges.items d.longest d.bytes.items c.args.at c.args.bytes.now _ _ _ d.sees_image c.requires.inside c.push_reserved-2.ensures.items c.max-self.ensures c.patch.ensures.items

pub invariant_of-self-2-clause-recorded : goal.invariant_of-self-2-clause-recorded
invariant_of-self-2-clause-recorded c =
    let d = c.args.self.now in
    let kept : c.extend_from_slice.new.self.items ≡ d.written.items ++ c.args.bytes.now = search rules in
    recorded_write d.made.items d.calls.items d.written.items d.base.items d.ranges.items d.longest d.bytes.items c.args.at c.args.bytes.now c.args.failed _ _ _ _ _
    d.sizes d.recorded c.if-failed.false c.push_reserved.ensures.items kept c.push_reserved-2.ensures.items c.max-self.ensures c.patch.ensures.items

pub returns-clause-file : goal.returns-clause-file
returns-clause-file c =
    let d = c.args.self.now in
    let r : MemoryRecord = record { call = Written c.args.at (length c.args.bytes.now); failed = c.args.failed } in
    let kept : c.extend_from_slice.new.self.items ≡ d.written.items ++ c.args.bytes.now = search rules in
    file-push d.made.items d.calls.items d.written.items d.base.items d.ranges.items d.longest d.bytes.items r c.args.bytes.now _ _ d.base.items _ _ _
    d.sizes refl c.push_reserved.ensures.items kept d.recorded
    (recorded_write d.made.items d.calls.items d.written.items d.base.items d.ranges.items d.longest d.bytes.items c.args.at c.args.bytes.now c.args.failed _ _ _ _ _
    d.sizes d.recorded c.if-failed.false c.push_reserved.ensures.items kept c.push_reserved-2.ensures.items c.max-self.ensures c.patch.ensures.items)

pub returns-clause-past : goal.returns-clause-past
returns-clause-past c =
    let d = c.args.self.now in
    let r : MemoryRecord = record { call = Written c.args.at (length c.args.bytes.now); failed = c.args.failed } in
    let kept : c.extend_from_slice.new.self.items ≡ d.written.items ++ c.args.bytes.now = search rules in
    record { same = λ n le. moments-push d.made.items d.calls.items d.written.items r c.args.bytes.now _ _ n d.sizes c.push_reserved.ensures.items kept le }
