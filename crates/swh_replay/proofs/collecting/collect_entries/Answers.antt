use Rattle.std.proofs.Common.{List, ◌++◌, sym, ap, ◌∙◌}
use Rattle.swh_base.specs.declared.entry.Entry.{Entry}
use Rattle.swh_model.specs.Entries.{entries_of}
use Rattle.swh_replay.proofs.Collected.{collected-more}
use Rattle.swh_replay.proofs.collecting.collect_entries.Goals as goal

pub loop-event-preserved : goal.loop-event-preserved
loop-event-preserved c =
    let before = c.loop-event.all.items in
    c.in_ok-push_all.ensures ∙ ap (λ (l : List Entry). before ++ l) c.entries.ensures ∙ ap (λ (l : List Entry). l ++ entries_of c.event-item.result.what) c.loop-event.invariant
    ∙ sym (collected-more c.args.events.now c.loop-event.event-index c.event-item.result c.loop-event-test.true c.event-item.is)
