use Rattle.std.proofs.Common.{inl, inr, ap, ◌∙◌, ◌++◌, subst}
use Rattle.swh_outside.specs.Views.{sources}
use Rattle.swh_fastlex.specs.Line.{IsAtEnd}
use Rattle.swh_dedup.specs.Making.{made_from}
use Rattle.swh_batchread.specs.Giving.{BatchState}
use Rattle.swh_batchread.specs.Refs.{MeansRefs}
use Rattle.swh_batchread.specs.RefsFault.{ExplainsRefs}
use Rattle.swh_batchread.specs.RefSteps.{knowing}
use Rattle.swh_batchread.proofs.Givings.{all_given, breaks_behind, goes_more, quiet_but}
use Rattle.swh_batchread.proofs.Reaching.{nothing_left}
use Rattle.swh_batchread.proofs.giving.next_part.Goals as goal

pub returns-in-Ok-clause-given : goal.returns-in-Ok-clause-given
returns-in-Ok-clause-given g c = λ source others given h.
    let id = g.N.Namer.id_of in
    let from = sources g.S.Source.tells g.S.Source.left g.S.Source.faults g.S.Source.path in
    let before = c.args.window.now in
    let now = c.next_object.new.window in
    let left = from.left c.args.objects.now in
    let left_now = from.left c.next_object.new.source in
    let ended : g.S.Source.tells → IsAtEnd before now left left_now = λ told. rw c.in-Ok-None.field-0-is at (c.in-Ok-None.ensures.none told) in
    record {
      all = all_given id from source others given (record { held = before; kept = c.args.stock.now.seen; known = knowing c.args.stock.now.known }) c.args.objects.now c.args.refs.now now c.next_object.new.source h ended;
      means = λ told. subst (λ (x : g.row.S.Denot). MeansRefs (from.left x) given (given ++ c.in-Ok.last.objects.items) c.in-Ok.last.snapshot) h.same_refs (c.in-Ok.ensures.ok told given h.are.known_are);
      whole = c.in-Ok.ensures.whole given h.are.known_are h.are.each;
      read = λ told. nothing_left now.bytes left_now (ended told).nothing_now;
      read_refs = c.in-Ok.ensures.read;
      same_path = c.next_object.ensures.on.same_path ∙ h.same_path;
      same_refs_path = c.last_part.ensures.on.same_path ∙ ap from.path h.same_refs;
      quiet = c.in-Ok-None.ensures.on.quiet (λ e. cc) ∙ h.quiet;
      quiet_refs = c.in-Ok.ensures.on.quiet (λ e. cc) ∙ ap from.faults h.same_refs;
    }

pub returns-in-Ok-give-clause-given : goal.returns-in-Ok-give-clause-given
returns-in-Ok-give-clause-given g c = λ source others given h.
    let id = g.N.Namer.id_of in
    let from = sources g.S.Source.tells g.S.Source.left g.S.Source.faults g.S.Source.path in
    goes_more id from source others given c.in-Ok-give.part.items (record { held = c.args.window.now; kept = c.args.stock.now.seen; known = knowing c.args.stock.now.known }) (record { held = c.next_object.new.window; kept = c.give.new.stock.seen; known = knowing c.give.new.stock.known }) c.args.objects.now c.next_object.new.source c.args.refs.now (made_from c.in-Ok-Some.object) h
    (c.in-Ok-give.ensures given h.are) (rw c.in-Ok-Some.field-0-is at c.in-Ok-Some.ensures.within)
    (λ told. rw c.in-Ok-Some.field-0-is at (c.in-Ok-Some.ensures.taken told))
    c.next_object.ensures.on.same_path (c.in-Ok-Some.ensures.on.quiet (λ e. cc))

pub returns-in-Err-last_part-clause-err : goal.returns-in-Err-last_part-clause-err
returns-in-Err-last_part-clause-err g c = λ source others given h.
    let id = g.N.Namer.id_of in
    let from = sources g.S.Source.tells g.S.Source.left g.S.Source.faults g.S.Source.path in
    let state : BatchState = record { held = c.args.window.now; kept = c.args.stock.now.seen; known = knowing c.args.stock.now.known } in
    inr (record {
      all = all_given id from source others given state c.args.objects.now c.args.refs.now c.next_object.new.window c.next_object.new.source h (λ told. rw c.in-Ok-None.field-0-is at (c.in-Ok-None.ensures.none told));
      explains = subst (λ (x : g.row.S.Denot). ExplainsRefs from x given c.last_part.new.refs c.in-Err-last_part.fault) h.same_refs (c.in-Err-last_part.ensures.err given h.are.known_are);
      quiet = c.in-Ok-None.ensures.on.quiet (λ e. cc) ∙ h.quiet;
      quiet_refs = λ other. quiet_but c.last_part.result c.in-Err-last_part.fault _ _ c.in-Err-last_part.is c.last_part.ensures.on.quiet other ∙ ap from.faults h.same_refs;
    })

pub returns-in-Err-clause-err : goal.returns-in-Err-clause-err
returns-in-Err-clause-err g c = λ source others given h.
    let id = g.N.Namer.id_of in
    let from = sources g.S.Source.tells g.S.Source.left g.S.Source.faults g.S.Source.path in
    let state : BatchState = record { held = c.args.window.now; kept = c.args.stock.now.seen; known = knowing c.args.stock.now.known } in
    inl (record {
      explains = breaks_behind id from source others given state c.args.objects.now c.args.refs.now c.next_object.new.source c.in-Err.fault h c.in-Err.ensures.err;
      same_refs = h.same_refs;
      quiet = λ other. quiet_but c.next_object.result c.in-Err.fault _ _ c.in-Err.is c.next_object.ensures.on.quiet other ∙ h.quiet;
    })
