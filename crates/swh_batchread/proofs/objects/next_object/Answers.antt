use Rattle.std.proofs.Common.{ℕ, ◌∙◌, subst}
use Rattle.swh_fastlex.specs.Line.{unread}
use Rattle.swh_batchread.specs.BatchFault.{MayBreakBatch, ObjectBreaks, BreaksBehind, BreaksHere}
use Rattle.swh_batchread.proofs.ReadsOn.{not_read, left_by}
use Rattle.swh_batchread.proofs.Reaching.{exits, object_fails, here_behind, here_object, takes_object}
use Rattle.swh_batchread.proofs.objects.next_object.Goals as goal

pub returns-in_err-object-clause-err : goal.returns-in_err-object-clause-err
returns-in_err-object-clause-err g c =
    let id = g.N.Namer.id_of in
    let h = c.in-Some.header in
    let left = g.S.Source.left c.args.source.now in
    let middle = g.S.Source.left c.next_header.new.source in
    let rest = g.S.Source.left c.next_body.new.source in
    let is = rw c.in-Some.is at c.in_ok-header.ensures.is in
    let low = rw c.in-Some.is at c.in_ok-header.ensures.within in
    exits c.from_residual-in_err-object.result _ c.in_err-object.field-0.0 c.from_residual-in_err-object.ensures.1
    (object_fails g.S.Source.tells MayBreakBatch (ObjectBreaks id c.place-start.result h c.in_ok-body.body.items) (BreaksHere id c.args.window.now.place (unread c.args.window.now left)) (g.S.Source.faults c.args.source.now) (g.S.Source.faults c.next_body.new.source) c.in_err-object.field-0.0
    (λ told fault breaks.
    let head = c.in_ok-header.ensures.taken told in
    here_behind id c.args.window.now c.next_header.new.window left middle h fault is (rw c.in-Some.is at head) low
    (subst (λ (n : ℕ). BreaksBehind id n h c.next_header.new.window.place (unread c.next_header.new.window middle) fault) c.place-start.ensures
    (here_object id c.place-start.result h c.next_header.new.window c.next_body.new.window middle rest c.in_ok-body.body.items fault c.in_ok-body.ensures.size c.in_ok-body.ensures.short (c.in_ok-body.ensures.taken told) c.in_ok-body.ensures.within breaks)))
    c.in_err-object.ensures.err)

pub returns-in_err-object-clause-on : goal.returns-in_err-object-clause-on
returns-in_err-object-clause-on g c =
    let head = c.in_ok-header.ensures.on in
    let body = c.in_ok-body.ensures.on in
    left_by g.S.Source.path g.S.Source.faults c.args.source.now c.next_body.new.source c.from_residual-in_err-object.result (body.same_path ∙ head.same_path) c.in_err-object.field-0.0 c.from_residual-in_err-object.ensures.1 (body.quiet (λ e. cc) ∙ head.quiet (λ e. cc))
    (not_read MayBreakBatch (ObjectBreaks g.N.Namer.id_of c.place-start.result c.in-Some.header c.in_ok-body.body.items) c.in_err-object.field-0.0 c.in_err-object.ensures.err)

pub returns-clause-taken : goal.returns-clause-taken
returns-clause-taken g c = λ told.
    let head = c.in_ok-header.ensures.taken told in
    takes_object g.N.Namer.id_of c.args.window.now c.next_header.new.window c.next_body.new.window (g.S.Source.left c.args.source.now) (g.S.Source.left c.next_header.new.source) (g.S.Source.left c.next_body.new.source) c.in-Some.header c.in_ok-body.body.items c.in_ok-object.object
    (rw c.in-Some.is at c.in_ok-header.ensures.is) c.in_ok-body.ensures.size c.in_ok-body.ensures.short (rw c.in-Some.is at head) (c.in_ok-body.ensures.taken told) c.in_ok-object.ensures.made c.in_ok-object.ensures.object c.in_ok-object.ensures.named
