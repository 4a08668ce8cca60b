use Rattle.std.proofs.Common.{refl, ◌∙◌, ap, ap₂}
use Rattle.swh_outside.specs.Files.{files_of}
use Rattle.swh_program.specs.Reading.{OfHistory, OfArchive}
use Rattle.swh_program.proofs.Cooked.{leaves_refused, leaves_looked}
use Rattle.swh_program.proofs.Rises.{rose_since, rose_above}
use Rattle.swh_program.proofs.Owned.{keeps_by_end}
use Rattle.swh_program.proofs.ReadOnly.{one_refused, one_told, refused_ends, told_ends}
use Rattle.swh_program.proofs.reading.read_archive.Goals as goal

pub returns-in-Err-clause-one_of : goal.returns-in-Err-clause-one_of
returns-in-Err-clause-one_of g c = one_refused g.N.Namer.id_of _ c.in-Err.answer c.in-Err.ensures.one_of

pub returns-in-Err-clause-ends : goal.returns-in-Err-clause-ends
returns-in-Err-clause-ends g c told = refused_ends g.N.Namer.id_of _ _ _ c.in-Err.answer (c.in-Err.ensures.refused told).ends

pub returns-in-Err-clause-own : goal.returns-in-Err-clause-own
returns-in-Err-clause-own g c told = (c.in-Err.ensures.refused told).own

pub returns-clause-one_of : goal.returns-clause-one_of
returns-clause-one_of g c = one_told g.N.Namer.id_of _ _ c.in-Ok.ensures.happens c.look-answer.result c.look-answer.ensures.told

pub returns-clause-ends : goal.returns-clause-ends
returns-clause-ends g c told =
    let tells = c.in-Ok.ensures.disks_tell told in
    let same = c.look-answer.ensures.left.same in
    let kept = ap₂ files_of (ap g.P.D.Disk.file same.ledger) (same.store tells) in
    let opened = c.close_archive.ensures.taken told ∙ kept ∙ (c.in-Ok.ensures.opened told).opened in
    told_ends g.N.Namer.id_of _ _ _ _ (c.in-Ok.ensures.opened told).archive opened c.look-answer.result c.look-answer.ensures.told (c.look-answer.ensures.undamaged tells)

pub returns-clause-own : goal.returns-clause-own
returns-clause-own g c told =
    let tells = c.in-Ok.ensures.disks_tell told in
    keeps_by_end g.N.Namer.id_of _ _ c.look-answer.result (c.look-answer.ensures.undamaged tells) (c.close_archive.ensures.own tells told)

pub returns-clause-cause : goal.returns-clause-cause
returns-clause-cause g c disk =
    rose_since _ _ _ c.in-Ok.ensures.later (c.close_archive.ensures.store_cause (rose_above _ _ (c.look-answer.ensures.left.cause disk)))

pub returns-in-Err-clause-leaves : goal.returns-in-Err-clause-leaves
returns-in-Err-clause-leaves g c = leaves_refused (OfHistory g.N.Namer.id_of) _ c.args.reading.now c.in-Err.answer refl c.in-Err.ensures.one_of

pub returns-in-Err-clause-leaves_there : goal.returns-in-Err-clause-leaves_there
returns-in-Err-clause-leaves_there g c told = leaves_refused (OfArchive g.N.Namer.id_of _) _ c.args.reading.now c.in-Err.answer refl c.in-Err.ensures.one_of

pub returns-clause-leaves : goal.returns-clause-leaves
returns-clause-leaves g c =
    leaves_looked (OfHistory g.N.Namer.id_of) _ _ (λ Is is. record { history = c.in-Ok.keeper.history; happens = c.in-Ok.ensures.happens; is = is }) c.args.reading.now c.look-answer.result c.look-answer.ensures.leaves

pub returns-clause-leaves_there : goal.returns-clause-leaves_there
returns-clause-leaves_there g c told =
    leaves_looked (OfArchive g.N.Namer.id_of _) _ _ (λ Is is. record { history = c.in-Ok.keeper.history; archive = (c.in-Ok.ensures.opened told).archive; is = is }) c.args.reading.now c.look-answer.result c.look-answer.ensures.leaves
