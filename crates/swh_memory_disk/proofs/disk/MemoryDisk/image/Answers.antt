use Rattle.std.proofs.Common.{rules, ◌≡◌, ◌≤◌, List, ℕ, length, take, min, Vec, Global, Result, Ok, Err, IfOk, ◌∙◌, ap, subst, arith}
use Rattle.std.proofs.lemmas.List.{take_min, take_all}
use Rattle.swh_outside.specs.Disk.{File, IsImage}
use Rattle.swh_memory_disk.specs.Kept.{resting}
use Rattle.swh_memory_disk.specs.Memory.{moment_file, memory_file}
use Rattle.swh_memory_disk.specs.Moments.{IsOfFile}
use Rattle.swh_memory_disk.specs.Past.{file_after, IsNearest}
use Rattle.swh_memory_disk.specs.Record.{sizes_of}
use Rattle.swh_memory_disk.specs.declared.disk.MemoryDisk.{MemoryDisk}
use Rattle.swh_memory_disk.specs.declared.record.MemoryRecord.{MemoryRecord}
use Rattle.swh_memory_disk.proofs.PastLaws.{sizes_of-take, recorded_file}
use Rattle.swh_memory_disk.proofs.disk.MemoryDisk.image.Goals as goal

pub after-requires : goal.after-requires
after-requires c = omega (arith, sizes_of-take c.min-count.result c.deref-2.result.now, ap sizes_of c.deref-2.ensures.value, ap length c.deref-3.ensures.value, c.args.self.now.sizes)

-- after all calls it is the file as it is
now : (d : MemoryDisk) (moment : ℕ) → length d.calls.items ≤ moment → moment_file d moment ≡ memory_file d
now d moment le =
    ap (λ (l : List MemoryRecord). file_after l d.written.items (resting d.made.items)) (take_all moment d.calls.items le)
    ∙ recorded_file d.made.items d.calls.items d.written.items d.base.items d.ranges.items d.longest d.bytes.items d.recorded

pub returns-in_err-past-clause-now : goal.returns-in_err-past-clause-now
returns-in_err-past-clause-now c le = now c.args.self.now c.args.moment le

pub returns-clause-now : goal.returns-clause-now
returns-clause-now c le = now c.args.self.now c.args.moment le

-- the nearest image is one
is_image : {E : Type 0} (file : File) (choice : List ℕ) (result : Result (Vec ℕ Global) E) → IfOk result (λ image. IsNearest file choice image.items) → IfOk result (λ image. IsImage file image.items)
is_image file choice (Ok image) is = is.is_image
is_image file choice (Err e) is = tt

pub returns-clause-image : goal.returns-clause-image
returns-clause-image c =
    let d = c.args.self.now in
    let size : c.len.result ≡ length d.calls.items = search rules in
    let calls_are : take c.min-count.result c.deref-2.result.now ≡ take c.args.moment d.calls.items =
    ap (λ (l : List MemoryRecord). take c.min-count.result l) c.deref-2.ensures.value ∙ ap (λ (n : ℕ). take n d.calls.items) (c.min-count.ensures ∙ ap (λ (n : ℕ). min c.args.moment n) size) ∙ take_min c.args.moment d.calls.items in
    let file_is : file_after (take c.min-count.result c.deref-2.result.now) c.deref-3.result.now (resting c.deref.result.now) ≡ moment_file d c.args.moment =
    ap (λ (l : List MemoryRecord). file_after l c.deref-3.result.now (resting c.deref.result.now)) calls_are
    ∙ ap (λ (l : List ℕ). file_after (take c.args.moment d.calls.items) l (resting c.deref.result.now)) c.deref-3.ensures.value
    ∙ ap (λ (l : List ℕ). file_after (take c.args.moment d.calls.items) d.written.items (resting l)) c.deref.ensures.value in
    let of_file : IsOfFile (moment_file d c.args.moment) c.in_ok-past.past = subst (λ (f : File). IsOfFile f c.in_ok-past.past) file_is c.in_ok-past.ensures in
    is_image (moment_file d c.args.moment) c.args.choice.now c.image_near.result (c.image_near.ensures.nearest (moment_file d c.args.moment) of_file)
