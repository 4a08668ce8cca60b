use Rattle.std.proofs.Common.{◌≡◌, List, ℕ, Option, Some, subst}
use Rattle.swh_base.specs.declared.visit.VisitKind.TheVariants.{Fast}
use Rattle.swh_outside.specs.Faults.{Rose}
use Rattle.swh_outside.specs.Views.{sources}
use Rattle.swh_fastload.specs.Input.{Means}
use Rattle.swh_fastload.specs.Loaded.{making_of}
use Rattle.swh_fastload.specs.Sourced.{ExplainsSource}
use Rattle.swh_fastload.specs.declared.bad.InputFault.TheVariants as of_stream
use Rattle.swh_inputs.specs.Input.InputText.{StreamText}
use Rattle.swh_inputs.specs.Reading.{GivesSo, told_of_stream}
use Rattle.swh_inputs.proofs.Gives.{told_so, told_whole, stream_gives, stream_heard, stream_means}
use Rattle.swh_inputs.proofs.reading.read_stream.Goals as goal

pub returns-in-Ok-clause-read : goal.returns-in-Ok-clause-read
returns-in-Ok-clause-read g c = λ t.
    let left = g.S.Source.left c.args.source.now in
    stream_means g.N.Namer.id_of c.args.head.now left c.in-Ok.objects (subst (λ (h : Option (List ℕ)). Means g.N.Namer.id_of h left (making_of c.in-Ok.objects)) c.head_of.ensures (c.in-Ok.ensures.ok t))

pub returns-in-Err-clause-read : goal.returns-in-Err-clause-read
returns-in-Err-clause-read g c =
    let id = g.N.Namer.id_of in
    let s = c.args.source.now in
    let now = c.load_source.new.source in
    let from = sources g.S.Source.tells g.S.Source.left g.S.Source.faults g.S.Source.path in
    let why = subst (λ (h : Option (List ℕ)). ExplainsSource id h from s now c.in-Err.fault) c.head_of.ensures c.in-Err.ensures.err in
    told_so id c.told_of_stream.result (told_of_stream c.in-Err.fault) (GivesSo id Fast g.S.Source.tells (Some (StreamText c.args.head.now (g.S.Source.left s))) (Rose (g.S.Source.faults s) (g.S.Source.faults now))) c.told_of_stream.ensures.told
    (stream_gives g.row.N.Denot id c.args.head.now from s now c.in-Err.fault why)

pub returns-in-Err-clause-whole : goal.returns-in-Err-clause-whole
returns-in-Err-clause-whole g c = told_whole g.N.Namer.id_of c.told_of_stream.result (told_of_stream c.in-Err.fault) c.told_of_stream.ensures.told

pub returns-in-Err-clause-quiet : goal.returns-in-Err-clause-quiet
returns-in-Err-clause-quiet g c = λ untold. c.in-Err.ensures.quiet (λ e. untold (stream_heard c.told_of_stream.result c.in-Err.fault c.told_of_stream.ensures.told c.told_of_stream.ensures.memory (let same : c.in-Err.fault ≡ of_stream.ReadFault = cc in same)))
