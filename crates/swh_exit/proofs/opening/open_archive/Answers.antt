use Rattle.std.proofs.Common.{rules, inl, subst, IsErr}
use Rattle.swh_outside.specs.Files.{Files, AreImages}
use Rattle.swh_segment.specs.Settled.{seen_of}
use Rattle.swh_exit.specs.declared.answer.Answer.TheVariants.{OutsideDisk, Memory}
use Rattle.swh_exit.proofs.Owned.{at_err, keeps_same}
use Rattle.swh_exit.proofs.Opened.{archive_kept, no_other_archive, made_here, opened_here, refused_here, refused_own}
use Rattle.swh_exit.proofs.opening.open_archive.Goals as goal

pub returns-in-Ok-open-clause-opened : goal.returns-in-Ok-open-clause-opened
returns-in-Ok-open-clause-opened g c told =
    let id_of = g.N.Namer.id_of in
    let given = c.in-Ok.ensures.given told in
    let tells = c.in-Ok.ensures.disks_tell told in
    let o = c.in-Ok-open.ensures in
    let standing = c.history-history.ensures.kept.standing o.unwounded tells in
    record {
      archive = archive_kept id_of _ _ _ given _ _ _ (o.calls tells) standing.stand c.history-history.ensures.kept.history;
      no_other = no_other_archive id_of _ _ _ given _ (o.history tells);
      made = made_here id_of _ _ _ given (o.made tells);
      opened = opened_here id_of _ _ _ given _ (o.calls tells);
      sees = subst (λ (files : Files). AreImages files (seen_of files)) given (c.see_images.ensures tells);
    }

pub returns-in-Err-clause-refused : goal.returns-in-Err-clause-refused
returns-in-Err-clause-refused g c told =
    let given = c.in-Ok.ensures.given told in
    let tells = c.in-Ok.ensures.disks_tell told in
    let taken = c.close_files.ensures.taken told in
    let e = c.in-Err.ensures in
    let r = c.refused_by.ensures in
    record {
      ends = refused_here g.N.Namer.id_of _ _ _ given _ _ _ taken e.why (e.not_made tells) (e.damaged tells) (e.left tells) _ r.refusal;
      own = refused_own g.N.Namer.id_of _ _ _ given _ _ _ taken (e.undamaged tells) (e.own tells) _ r.refusal r.one_of;
    }

pub returns-in-Err-Failed-clause-refused : goal.returns-in-Err-Failed-clause-refused
returns-in-Err-Failed-clause-refused g c told =
    let is : IsErr c.open_files.result = search rules in
    let same = at_err _ c.open_files.result is (c.open_files.ensures.refused told) in
    record { ends = inl (inl same); own = keeps_same g.N.Namer.id_of _ _ OutsideDisk same tt (λ opened. opened) }

pub returns-in-Err-Memory-clause-refused : goal.returns-in-Err-Memory-clause-refused
returns-in-Err-Memory-clause-refused g c told =
    let is : IsErr c.open_files.result = search rules in
    let same = at_err _ c.open_files.result is (c.open_files.ensures.refused told) in
    record { ends = inl same; own = keeps_same g.N.Namer.id_of _ _ Memory same tt (λ opened. opened) }
