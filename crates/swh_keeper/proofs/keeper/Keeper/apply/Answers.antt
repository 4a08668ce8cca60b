use Rattle.std.proofs.Common.{subst, ◌≡◌, ◌+◌, Some, None, Err, List, length, ap, ◌∙◌}
use Rattle.swh_model.specs.declared.event.Event.{Event}
use Rattle.swh_keeper.specs.declared.adding.AddFault.{AddFault}
use Rattle.swh_keeper.specs.declared.adding.AddFault.TheVariants.{Disk}
use Rattle.swh_keeper.proofs.ApplyLemmas.{may_of_plan, may_advance, keeping-push, keeping-doubt, calls_are}
use Rattle.swh_outside.specs.Files.{FileCall, FilesBreaks, files_of}
use Rattle.swh_keeper.specs.Keeping.{IsBrokenOff}
use Rattle.swh_keeper.specs.Kept.{Kept}
use Rattle.swh_plan.specs.Plan.{wish_of}
use Rattle.swh_keeper.proofs.keeper.Keeper.apply.Goals as goal

pub add_event-added-requires-clause-may : goal.add_event-added-requires-clause-may
add_event-added-requires-clause-may g c κs within =
    let k = c.self.inside in
    let is = c.self.invariant.keeping.replayed_is c.in_default.is in
    let planned = c.in-Ok.ensures.ok k.history.items is (ap (λ (l : List Event). length l + 1) c.as_slice.ensures.value) in
    may_advance g.N.Namer.id_of k.replayed k.history.items c.in-Ok.planned.event is
    (may_of_plan g.N.Namer.id_of k.history.items c.args.by (wish_of c.args.plan) c.in-Ok.planned.event c.in-Ok.planned.outcome c.in-Ok.ensures.good planned.verdict)

pub invariant_of-self-in-Ok-added : goal.invariant_of-self-in-Ok-added
invariant_of-self-in-Ok-added g c =
    let k = c.self.inside in
    let is = c.self.invariant.keeping.replayed_is c.in_default.is in
    let planned = c.in-Ok.ensures.ok k.history.items is (ap (λ (l : List Event). length l + 1) c.as_slice.ensures.value) in
    let may = may_of_plan g.N.Namer.id_of k.history.items c.args.by (wish_of c.args.plan) c.in-Ok.planned.event c.in-Ok.planned.outcome c.in-Ok.ensures.good planned.verdict in
    let added = c.in-Ok-added.ensures in
    rw c.in_default.is
    (record {
      keeping = keeping-push g.N.Namer.id_of g.D.Disk.tells (g.D.Disk.file c.add_event-added.new.ledger.disk) (g.D.Disk.file c.add_event-added.new.store.disk) c.add_event-added.new.replayed k.history.items c.add_event-added.new.history.items
          c.in-Ok.planned.event c.self.invariant.keeping.history may added.added.history added.added.replay added.added.in_files added.settled;
      ends = λ _. added.ends;
    })

pub invariant_of-self-in-Disk : goal.invariant_of-self-in-Disk
invariant_of-self-in-Disk g c =
    let k = c.self.inside in
    let is = c.self.invariant.keeping.replayed_is c.in_default.is in
    let planned = c.in-Ok.ensures.ok k.history.items is (ap (λ (l : List Event). length l + 1) c.as_slice.ensures.value) in
    let may = may_of_plan g.N.Namer.id_of k.history.items c.args.by (wish_of c.args.plan) c.in-Ok.planned.event c.in-Ok.planned.outcome c.in-Ok.ensures.good planned.verdict in
    let failed = c.in-Err-added.is in
    let same = rw failed at c.add_event-added.ensures.not_added in
    let disk : c.add_event-added.result ≡ Err Disk = failed ∙ ap (λ (x : AddFault). Err x) c.in-Disk.is in
    record {
      keeping = keeping-doubt g.N.Namer.id_of g.D.Disk.tells (g.D.Disk.file c.add_event-added.new.ledger.disk) (g.D.Disk.file c.add_event-added.new.store.disk) k.replayed c.add_event-added.new.replayed k.history.items c.add_event-added.new.history.items
          c.in-Ok.planned.event (length c.as_slice.result.now + 1) c.self.invariant.keeping.history may same.history c.self.invariant.keeping.in_files same.store_end same.ledger_end (λ told. c.add_event-added.ensures.left told disk);
      ends = λ none. absurd (let f : Some (length c.as_slice.result.now + 1) ≡ None = none in cc);
    }

pub returns-in-Disk-clause-broken : goal.returns-in-Disk-clause-broken
returns-in-Disk-clause-broken g c told _ =
    let k = c.self.inside in
    let is = c.self.invariant.keeping.replayed_is c.in_default.is in
    let planned = c.in-Ok.ensures.ok k.history.items is (ap (λ (l : List Event). length l + 1) c.as_slice.ensures.value) in
    let disk : c.add_event-added.result ≡ Err Disk = c.in-Err-added.is ∙ ap (λ (x : AddFault). Err x) c.in-Disk.is in
    let new = files_of (g.D.Disk.file c.add_event-added.new.ledger.disk) (g.D.Disk.file c.add_event-added.new.store.disk) in
    subst (λ (v : Kept g.row.D.Denot). IsBrokenOff v.history c.args.by (wish_of c.args.plan) (files_of (g.D.Disk.file v.ledger) (g.D.Disk.file v.store)) new) c.self.view_is
    (record {
      event = c.in-Ok.planned.event;
      outcome = c.in-Ok.planned.outcome;
      verdict = planned.verdict;
      breaks = subst (λ (plan : List FileCall). FilesBreaks plan (files_of (g.D.Disk.file k.ledger.disk) (g.D.Disk.file k.store.disk)) new)
          (calls_are k.replayed k.history.items c.in-Ok.planned.event c.in-Ok.planned.bytes.items is planned.record_is) (c.add_event-added.ensures.broken told disk);
    })
