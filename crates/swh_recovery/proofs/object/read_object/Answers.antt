use Rattle.std.proofs.Common.{◌≡◌, ◌+◌, ap, ◌∙◌}
use Rattle.swh_outside.specs.Disk.{File}
use Rattle.swh_recovery.specs.declared.harm.Found.{Found}
use Rattle.swh_recovery.specs.Reading.{window}
use Rattle.swh_recovery.proofs.FrameLemmas.{exits}
use Rattle.swh_recovery.proofs.BodyLemmas.{harmed_map, size_harms, body_harms, begins_with}
use Rattle.swh_recovery.proofs.object.read_object.Goals as goal

pub returns-in_err-body-clause-harm : goal.returns-in_err-body-clause-harm
returns-in_err-body-clause-harm g c told =
    let seen = (g.D.Disk.file c.args.store.now).seen in
    exits _ _ c.in_err-body.field-0.0 c.from_residual-in_err-body.ensures.1
    (harmed_map c.in_err-body.field-0.0 _ _ (λ (x : Found). λ h. size_harms seen c.args.at c.args.have c.in_ok-head.head c.in_ok-head.ensures.whole (c.requires.stands told) (c.in_ok-head.ensures.ok told) g.N.Namer.id_of x h) c.in_err-body.ensures.harm)

pub returns-in_err-entry-clause-harm : goal.returns-in_err-entry-clause-harm
returns-in_err-entry-clause-harm g c told =
    let seen = (g.D.Disk.file c.args.store.now).seen in
    let same : c.in_ok-body.body.items ≡ window seen (c.args.at + 29) c.in_ok-head.head.size =
    c.in_ok-body.ensures.ok told ∙ ap (λ (f : File). window f.seen (c.args.at + 29) c.in_ok-head.head.size) (c.in_ok-head.ensures.reads.same told) in
    exits _ _ c.in_err-entry.field-0.0 c.from_residual-in_err-entry.ensures.1
    (harmed_map c.in_err-entry.field-0.0 _ _
    (λ (x : Found). λ h. body_harms seen c.args.at c.args.have c.in_ok-head.head c.in_ok-head.ensures.whole (c.requires.stands told) (c.in_ok-head.ensures.ok told) g.N.Namer.id_of c.in_ok-body.body.items same c.in_ok-body.ensures.whole.0 x h) c.in_err-entry.ensures.harm)

pub returns-clause-ok : goal.returns-clause-ok
returns-clause-ok g c told =
    let seen = (g.D.Disk.file c.args.store.now).seen in
    let same : c.in_ok-body.body.items ≡ window seen (c.args.at + 29) c.in_ok-head.head.size =
    c.in_ok-body.ensures.ok told ∙ ap (λ (f : File). window f.seen (c.args.at + 29) c.in_ok-head.head.size) (c.in_ok-head.ensures.reads.same told) in
    begins_with seen c.args.at c.args.have c.in_ok-head.head c.in_ok-head.ensures.whole (c.requires.stands told) (c.in_ok-head.ensures.ok told) g.N.Namer.id_of
    c.in_ok-body.body.items c.in_ok-entry.entry same c.in_ok-body.ensures.whole.0 c.in_ok-entry.ensures.ok c.entry_is_codable.ensures
