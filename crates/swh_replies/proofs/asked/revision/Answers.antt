use Rattle.std.proofs.Common.{◌≢◌, codes, true≢false, sym, ◌∙◌}
use Rattle.std.proofs.lemmas.Bool.Decides.{Decides-eqb}
use Rattle.std.proofs.lemmas.Slice.Eq.{slice_eq-Decides}
use Rattle.swh_replies.proofs.Shapes.{no_revision_id, no_revision, not_empty}
use Rattle.swh_replies.proofs.asked.revision.Goals as goal

pub returns-in_default-clause-none : goal.returns-in_default-clause-none
returns-in_default-clause-none c = no_revision_id c.args.tail.now c.in_default.ensures.none

pub returns-clause-none : goal.returns-clause-none
returns-clause-none c =
    let cut = c.in-Some.ensures.some in
    let some = not_empty c.in-Some.rest.now (sym c.is_empty.ensures ∙ c.if-is_empty.false) in
    let decides = slice_eq-Decides Decides-eqb _ _ _ c.eq.ensures in
    let no_log : c.in-Some.rest.now ≢ codes "log/" = λ same. absurd (true≢false (sym (decides.1 (same ∙ sym c.as_slice.ensures)) ∙ c.if-eq.false)) in
    no_revision c.args.tail.now c.in-Some.id.now c.in-Some.rest.now cut.0 cut.1 some no_log
