use Rattle.std.proofs.Common.{◌∙◌, ap}
use Rattle.swh_base.specs.Visit.{status_word}
use Rattle.swh_replies.proofs.Listed.{where_ok, one, then}
use Rattle.swh_replies.proofs.Shown.{visit_written}
use Rattle.swh_replies.proofs.visits.put_visit.Goals as goal

pub returns : goal.returns
returns c =
    let opened = one {new = c.begin_object.new.self} c.in_ok-begin_object.ensures.ok c.in_ok-begin_object.ensures.room.0 in
    let last = c.last_mark-status.ensures in
    where_ok c.end_object.result
    (λ closed origin is. visit_written origin c.args.visit.now c.args.escaped.now c.word_of_status.result.now c.kind_of_visit.result.now c.last_mark-status.result.1 is
    (c.word_of_status.ensures ∙ ap (λ m. status_word m.0) last) (ap (λ m. m.1) last) c.kind_of_visit.ensures
    (then opened (then c.in_ok-put_number.ensures (then c.in_ok-put_text.ensures (then c.in_ok-put_snapshot.ensures (then c.in_ok-put_text-2.ensures (then c.in_ok-put_text-3.ensures (then c.in_ok-put_number-2.ensures (one {new = c.end_object.new.self} closed c.end_object.ensures.room.0))))))))) c.end_object.ensures.ok
