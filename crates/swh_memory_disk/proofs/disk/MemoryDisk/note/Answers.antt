use Rattle.std.proofs.Common.{rules, ◌≡◌, length, ◌∙◌, ap, arith}
use Rattle.swh_memory_disk.specs.Record.{sizes_of}
use Rattle.swh_memory_disk.specs.declared.record.MemoryRecord.{MemoryRecord}
use Rattle.swh_memory_disk.proofs.RecordLaws.{sizes_of-push}
use Rattle.swh_memory_disk.proofs.PastLaws.{bare-size, recorded_bare_failed, recorded_bare, recorded_synced, file-push_bare}
use Rattle.swh_memory_disk.proofs.disk.MemoryDisk.note.Goals as goal

pub invariant_of-self-clause-sizes : goal.invariant_of-self-clause-sizes
invariant_of-self-clause-sizes c =
    let r : MemoryRecord = record { call = c.args.call; failed = c.args.failed } in
    ap sizes_of c.push_reserved.ensures.items ∙ sizes_of-push c.args.self.now.calls.items r ∙ (omega (arith, bare-size c.args.call c.requires.bare, c.args.self.now.sizes))

pub invariant_of-self-clause-recorded : goal.invariant_of-self-clause-recorded
invariant_of-self-clause-recorded c =
    let d = c.args.self.now in
    recorded_bare_failed d.made.items d.calls.items d.written.items d.base.items d.ranges.items d.longest d.bytes.items c.args.call c.args.failed _ d.sizes d.recorded c.requires.bare c.if-failed.true c.push_reserved.ensures.items

pub returns-then-failed-clause-file : goal.returns-then-failed-clause-file
returns-then-failed-clause-file c =
    let d = c.args.self.now in
    file-push_bare d.made.items d.calls.items d.written.items d.base.items d.ranges.items d.longest d.bytes.items c.args.call c.args.failed _ d.base.items d.ranges.items d.longest d.bytes.items
    d.sizes c.requires.bare c.push_reserved.ensures.items d.recorded
    (recorded_bare_failed d.made.items d.calls.items d.written.items d.base.items d.ranges.items d.longest d.bytes.items c.args.call c.args.failed _ d.sizes d.recorded c.requires.bare c.if-failed.true c.push_reserved.ensures.items)

pub invariant_of-self-in_default-clause-sizes : goal.invariant_of-self-in_default-clause-sizes
invariant_of-self-in_default-clause-sizes c =
    let r : MemoryRecord = record { call = c.args.call; failed = c.args.failed } in
    ap sizes_of c.push_reserved.ensures.items ∙ sizes_of-push c.args.self.now.calls.items r ∙ (omega (arith, bare-size c.args.call c.requires.bare, c.args.self.now.sizes))

pub invariant_of-self-in_default-clause-recorded : goal.invariant_of-self-in_default-clause-recorded
invariant_of-self-in_default-clause-recorded c =
    let d = c.args.self.now in
    recorded_bare d.made.items d.calls.items d.written.items d.base.items d.ranges.items d.longest d.bytes.items c.args.call c.args.failed _ d.sizes d.recorded c.requires.bare c.in_default.not-Synced c.push_reserved.ensures.items

pub returns-in_default-clause-file : goal.returns-in_default-clause-file
returns-in_default-clause-file c =
    let d = c.args.self.now in
    file-push_bare d.made.items d.calls.items d.written.items d.base.items d.ranges.items d.longest d.bytes.items c.args.call c.args.failed _ d.base.items d.ranges.items d.longest d.bytes.items
    d.sizes c.requires.bare c.push_reserved.ensures.items d.recorded
    (recorded_bare d.made.items d.calls.items d.written.items d.base.items d.ranges.items d.longest d.bytes.items c.args.call c.args.failed _ d.sizes d.recorded c.requires.bare c.in_default.not-Synced c.push_reserved.ensures.items)

pub invariant_of-self-2-clause-sizes : goal.invariant_of-self-2-clause-sizes
invariant_of-self-2-clause-sizes c =
    let r : MemoryRecord = record { call = c.args.call; failed = c.args.failed } in
    ap sizes_of c.push_reserved.ensures.items ∙ sizes_of-push c.args.self.now.calls.items r ∙ (omega (arith, bare-size c.args.call c.requires.bare, c.args.self.now.sizes))

pub invariant_of-self-2-clause-recorded : goal.invariant_of-self-2-clause-recorded
invariant_of-self-2-clause-recorded c =
    let d = c.args.self.now in
    let size : c.len-self.result ≡ length d.bytes.items = search rules in
    recorded_synced d.made.items d.calls.items d.written.items d.base.items d.ranges.items d.longest d.bytes.items c.args.call c.args.failed _ _ _ _
    d.sizes d.recorded c.in-Synced.is c.if-failed.false c.push_reserved.ensures.items (c.settle.ensures.settled ∙ c.deref.ensures.value) c.settle.ensures.no_ranges size

pub returns-clause-file : goal.returns-clause-file
returns-clause-file c =
    let d = c.args.self.now in
    let size : c.len-self.result ≡ length d.bytes.items = search rules in
    file-push_bare d.made.items d.calls.items d.written.items d.base.items d.ranges.items d.longest d.bytes.items c.args.call c.args.failed _ _ _ _ d.bytes.items
    d.sizes c.requires.bare c.push_reserved.ensures.items d.recorded
    (recorded_synced d.made.items d.calls.items d.written.items d.base.items d.ranges.items d.longest d.bytes.items c.args.call c.args.failed _ _ _ _
    d.sizes d.recorded c.in-Synced.is c.if-failed.false c.push_reserved.ensures.items (c.settle.ensures.settled ∙ c.deref.ensures.value) c.settle.ensures.no_ranges size)
