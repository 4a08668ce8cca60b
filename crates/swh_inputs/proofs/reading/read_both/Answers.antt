use Rattle.std.proofs.Common.{◌≡◌, ◌⊎◌, inl, inr, Some}
use Rattle.swh_base.specs.declared.visit.VisitKind.TheVariants.{Batch}
use Rattle.swh_outside.specs.Faults.{Rose}
use Rattle.swh_batchread.specs.BatchFault.{BreaksBatch, MayBreakBatch}
use Rattle.swh_batchread.specs.RefsFault.{BreaksRefs, MayBreakRefs}
use Rattle.swh_inputs.specs.Input.InputText.{BatchText}
use Rattle.swh_inputs.specs.Reading.{GivesSo, told_of_batch}
use Rattle.swh_batchread.specs.declared.fault.BatchFault.TheVariants as of_batch
use Rattle.swh_inputs.proofs.Gives.{told_so, told_whole, batch_heard, pair_gives, pair_means}
use Rattle.swh_inputs.proofs.reading.read_both.Goals as goal

pub returns-in-Err-clause-read : goal.returns-in-Err-clause-read
returns-in-Err-clause-read g c =
    let id = g.N.Namer.id_of in
    let text = g.S.Source.left c.args.objects.now in
    let refs = g.S.Source.left c.args.refs.now in
    let old = g.S.Source.faults c.args.objects.now in
    let now = g.S.Source.faults c.read_batch.new.source in
    let others = g.S.Source.faults c.args.refs.now in
    told_so id c.told_of_batch.result (told_of_batch c.in-Err.fault) (GivesSo id Batch g.S.Source.tells (Some (BatchText text refs)) (Rose old now ⊎ Rose others others)) c.told_of_batch.ensures.told
    (pair_gives g.row.N.Denot id g.S.Source.tells text refs MayBreakBatch (BreaksBatch id text) old now (Rose old now ⊎ Rose others others) c.in-Err.fault inl (λ t. inl) inl c.in-Err.ensures.err)

pub returns-in-Err-clause-whole : goal.returns-in-Err-clause-whole
returns-in-Err-clause-whole g c = told_whole g.N.Namer.id_of c.told_of_batch.result (told_of_batch c.in-Err.fault) c.told_of_batch.ensures.told

pub returns-in-Ok-read_refs-clause-read : goal.returns-in-Ok-read_refs-clause-read
returns-in-Ok-read_refs-clause-read g c = λ t.
    pair_means g.N.Namer.id_of (g.S.Source.left c.args.objects.now) (g.S.Source.left c.args.refs.now) c.in-Ok.of_batch.items c.in-Ok-read_refs.made (c.in-Ok.ensures.ok t) c.in-Ok.ensures.good
    (c.in-Ok-read_refs.ensures.ok t) c.in-Ok-read_refs.ensures.whole

pub returns-in-Err-read_refs-clause-read : goal.returns-in-Err-read_refs-clause-read
returns-in-Err-read_refs-clause-read g c =
    let id = g.N.Namer.id_of in
    let text = g.S.Source.left c.args.objects.now in
    let refs = g.S.Source.left c.args.refs.now in
    let objects = c.in-Ok.of_batch.items in
    let first = Rose (g.S.Source.faults c.args.objects.now) (g.S.Source.faults c.read_batch.new.source) in
    let old = g.S.Source.faults c.args.refs.now in
    let now = g.S.Source.faults c.read_refs.new.source in
    told_so id c.told_of_batch-in-Err-read_refs.result (told_of_batch c.in-Err-read_refs.fault) (GivesSo id Batch g.S.Source.tells (Some (BatchText text refs)) (first ⊎ Rose old now)) c.told_of_batch-in-Err-read_refs.ensures.told
    (pair_gives g.row.N.Denot id g.S.Source.tells text refs (MayBreakRefs objects) (BreaksRefs refs objects) old now (first ⊎ Rose old now) c.in-Err-read_refs.fault (λ may. inr (objects, may))
    (λ t breaks. inr (objects, record { means = c.in-Ok.ensures.ok t; each = c.in-Ok.ensures.good }, breaks)) inr c.in-Err-read_refs.ensures.err)

pub returns-in-Err-read_refs-clause-whole : goal.returns-in-Err-read_refs-clause-whole
returns-in-Err-read_refs-clause-whole g c = told_whole g.N.Namer.id_of c.told_of_batch-in-Err-read_refs.result (told_of_batch c.in-Err-read_refs.fault) c.told_of_batch-in-Err-read_refs.ensures.told

pub returns-in-Err-clause-quiet : goal.returns-in-Err-clause-quiet
returns-in-Err-clause-quiet g c = λ untold. c.in-Err.ensures.on.quiet (λ e. untold (batch_heard c.told_of_batch.result c.in-Err.fault c.told_of_batch.ensures.told c.told_of_batch.ensures.memory (let same : c.in-Err.fault ≡ of_batch.ReadFault = cc in same)))

pub returns-in-Err-read_refs-clause-quiet_refs : goal.returns-in-Err-read_refs-clause-quiet_refs
returns-in-Err-read_refs-clause-quiet_refs g c = λ untold. c.in-Err-read_refs.ensures.on.quiet (λ e. untold (batch_heard c.told_of_batch-in-Err-read_refs.result c.in-Err-read_refs.fault c.told_of_batch-in-Err-read_refs.ensures.told c.told_of_batch-in-Err-read_refs.ensures.memory (let same : c.in-Err-read_refs.fault ≡ of_batch.ReadFault = cc in same)))
