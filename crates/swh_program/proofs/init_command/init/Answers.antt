use Rattle.std.proofs.Common.{rules, sym, ap, ◌∙◌, subst, IsErr}
use Rattle.std.specs.Prelude.{IsErrOf}
use Rattle.swh_segment.specs.declared.fault.MakeFault.TheVariants.{Made as Before, Disk}
use Rattle.swh_outside.specs.Files.{Files, files_of}
use Rattle.swh_segment.specs.Making.{IsMade, IsEmptyArchive}
use Rattle.swh_segment.proofs.Crash.{made_empty}
use Rattle.swh_exit.specs.declared.answer.Answer.TheVariants.{Made, AlreadyMade, OutsideDisk, Memory}
use Rattle.swh_program.proofs.Ends.{ends_at}
use Rattle.swh_program.proofs.Archived.{not_both}
use Rattle.swh_exit.proofs.Owned.{at_err, keeps_same}
use Rattle.swh_program.proofs.Owned.{sees_at, keeps_making}
use Rattle.swh_program.proofs.init_command.init.Goals as goal

pub returns-in-Ok-made-clause-ends : goal.returns-in-Ok-made-clause-ends
returns-in-Ok-made-clause-ends g c told =
    let disks_tell = c.in-Ok.ensures.disks_tell told in
    let not_made = c.in-Ok-made.ensures.not_made disks_tell in
    let done = (c.in-Ok-made.ensures.calls disks_tell).ok in
    ends_at _ _ _ _ Made (c.in-Ok.ensures.given told) (c.close_files.ensures.taken told)
    (record { not_made = not_made; empty = subst IsEmptyArchive (sym done) (made_empty (files_of (g.P.D.Disk.file c.in-Ok.files.ledger) (g.P.D.Disk.file c.in-Ok.files.store)) not_made); done = done })

pub returns-in-Err-Made-clause-ends : goal.returns-in-Err-Made-clause-ends
returns-in-Err-Made-clause-ends g c told =
    let disks_tell = c.in-Ok.ensures.disks_tell told in
    let is : IsErrOf c.make-made.result Before = search rules in
    ends_at _ _ _ _ AlreadyMade (c.in-Ok.ensures.given told) (c.close_files.ensures.taken told)
    (record { made = c.make-made.ensures.made disks_tell is; same = (c.make-made.ensures.calls disks_tell).made is })

pub returns-in-Err-Disk-clause-ends : goal.returns-in-Err-Disk-clause-ends
returns-in-Err-Disk-clause-ends g c told =
    let disks_tell = c.in-Ok.ensures.disks_tell told in
    let is : IsErrOf c.make-made.result Disk = search rules in
    ends_at _ _ _ _ OutsideDisk (c.in-Ok.ensures.given told) (c.close_files.ensures.taken told) ((c.make-made.ensures.calls disks_tell).failed is)

pub returns-in-Ok-made-clause-spared : goal.returns-in-Ok-made-clause-spared
returns-in-Ok-made-clause-spared g c told made = absurd (not_both _ made (returns-in-Ok-made-clause-ends g c told).not_made)

pub returns-in-Err-Made-clause-spared : goal.returns-in-Err-Made-clause-spared
returns-in-Err-Made-clause-spared g c told made = (returns-in-Err-Made-clause-ends g c told).same

pub returns-in-Err-Disk-clause-spared : goal.returns-in-Err-Disk-clause-spared
returns-in-Err-Disk-clause-spared g c told made =
    let given = c.in-Ok.ensures.given told in
    let here = subst IsMade (sym (ap (λ (f : Files). (f 0).seen) given)) made in
    let is : IsErr c.make-made.result = search rules in
    c.close_files.ensures.taken told ∙ at_err _ c.make-made.result is (c.make-made.ensures.spared (c.in-Ok.ensures.disks_tell told) here) ∙ given

pub returns-in-Err-Failed-clause-own : goal.returns-in-Err-Failed-clause-own
returns-in-Err-Failed-clause-own g c told id_of =
    let is : IsErr c.open_files.result = search rules in
    keeps_same id_of _ _ OutsideDisk (at_err _ c.open_files.result is (c.open_files.ensures.refused told)) tt (λ opened. opened)

pub returns-in-Err-Memory-clause-own : goal.returns-in-Err-Memory-clause-own
returns-in-Err-Memory-clause-own g c told id_of =
    let is : IsErr c.open_files.result = search rules in
    keeps_same id_of _ _ Memory (at_err _ c.open_files.result is (c.open_files.ensures.refused told)) tt (λ opened. opened)

pub returns-in-Ok-made-clause-own : goal.returns-in-Ok-made-clause-own
returns-in-Ok-made-clause-own g c told id_of =
    keeps_making id_of _ _ (sees_at _ _ (c.close_files.ensures.taken told) (c.see_images.ensures (c.in-Ok.ensures.disks_tell told)))
    (returns-in-Ok-made-clause-spared g c told) Made (returns-in-Ok-made-clause-ends g c told)

pub returns-in-Err-Made-clause-own : goal.returns-in-Err-Made-clause-own
returns-in-Err-Made-clause-own g c told id_of =
    keeps_making id_of _ _ (sees_at _ _ (c.close_files.ensures.taken told) (c.see_images.ensures (c.in-Ok.ensures.disks_tell told)))
    (returns-in-Err-Made-clause-spared g c told) AlreadyMade (returns-in-Err-Made-clause-ends g c told)

pub returns-in-Err-Disk-clause-own : goal.returns-in-Err-Disk-clause-own
returns-in-Err-Disk-clause-own g c told id_of =
    keeps_making id_of _ _ (sees_at _ _ (c.close_files.ensures.taken told) (c.see_images.ensures (c.in-Ok.ensures.disks_tell told)))
    (returns-in-Err-Disk-clause-spared g c told) OutsideDisk (returns-in-Err-Disk-clause-ends g c told)
