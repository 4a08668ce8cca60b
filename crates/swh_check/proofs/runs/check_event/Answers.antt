use Rattle.std.proofs.Common.{rules, ◌≡◌, ◌+◌, ℕ, List, take, drop, get_or, sym, ap, ◌∙◌, subst, arith, length}
use Rattle.swh_model.specs.declared.event.Event.{Event}
use Rattle.swh_model.specs.Archive.{empty_archive}
use Rattle.swh_model.specs.Limits.{stored_length}
use Rattle.swh_model.specs.Step.{replay}
use Rattle.swh_model.proofs.PlainLengths.{store-next}
use Rattle.swh_format.specs.EventRecord.{packed_objects}
use Rattle.swh_format.specs.Stands.{coded_runs}
use Rattle.swh_keeper.proofs.HeldBodies.{held-at, run-there, run-within, same-item}
use Rattle.swh_check.specs.Bodies.{IsHeldKind, HasItsIds, IsCompared}
use Rattle.swh_check.specs.Counts.{bodies_by}
use Rattle.swh_check.proofs.BodyCounts.{bodies-next, few}
use Rattle.swh_check.proofs.BodyFaults.{body-fault, no-disk}
use Rattle.swh_check.proofs.runs.check_event.Goals as goal

pub stored_bytes-requires-clause-within : goal.stored_bytes-requires-clause-within
stored_bytes-requires-clause-within g c κs within =
    let h = c.args.keeper.now.history in
    let e = c.index-history-place.result in
    let is = subst (λ (l : List Event). e ≡ get_or l c.args.place e) c.history.ensures.value c.index-history-place.is in
    let there = run-within h c.args.place e c.requires.place is in
    let at = c.requires.done.at in
    let size = c.in_ok-size.ensures ∙ ap (λ (x : Event). stored_length x.what) (sym c.index-history-place.is) in
    omega (arith, there, at, size)

pub check_objects-requires-clause-held : goal.check_objects-requires-clause-held
check_objects-requires-clause-held g c κs long =
    let id_of = g.N.Namer.id_of in
    let h = c.args.keeper.now.history in
    let f = c.index-history-place-2.result in
    let is = subst (λ (l : List Event). f ≡ get_or l c.args.place f) (c.history-2.ensures.value ∙ c.in_ok-run.ensures.reads.same.history) c.index-history-place-2.is in (
      (replay h).bodies,
      subst (λ (x : Event). IsHeldKind id_of (replay h).bodies x.what) c.index-history-place-2.is (held-at id_of empty_archive h c.args.place f c.history.ensures.kept.history c.requires.place is),
    )

pub overflow_add-result : goal.overflow_add-result
overflow_add-result g c =
    let h = c.args.keeper.now.history in
    let e = c.index-history-place.result in
    let f = c.index-history-place-2.result in
    let first = subst (λ (l : List Event). e ≡ get_or l c.args.place e) c.history.ensures.value c.index-history-place.is in
    let is = subst (λ (l : List Event). f ≡ get_or l c.args.place f) (c.history-2.ensures.value ∙ c.in_ok-run.ensures.reads.same.history) c.index-history-place-2.is in
    let size = c.in_ok-size.ensures ∙ ap (λ (x : Event). stored_length x.what) (sym c.index-history-place.is) in
    let count = c.in-Ok.ensures.count ∙ ap (λ (x : Event). bodies_by x.what) (sym c.index-history-place-2.is) in
    let next_store = store-next h c.args.place e c.requires.place first in
    let next_bodies = bodies-next h c.args.place f c.requires.place is in
    let enough = few (take (c.args.place + 1) h) in
    let at = c.requires.done.at in
    let bodies = c.requires.done.bodies in
    let end = c.in_ok-at.ensures in
    omega (arith, size, count, next_store, next_bodies, enough, at, bodies, end)

pub returns-in-Ok-clause-done : goal.returns-in-Ok-clause-done
returns-in-Ok-clause-done g c =
    let h = c.args.keeper.now.history in
    let e = c.index-history-place.result in
    let f = c.index-history-place-2.result in
    let first = subst (λ (l : List Event). e ≡ get_or l c.args.place e) c.history.ensures.value c.index-history-place.is in
    let is = subst (λ (l : List Event). f ≡ get_or l c.args.place f) (c.history-2.ensures.value ∙ c.in_ok-run.ensures.reads.same.history) c.index-history-place-2.is in
    let size = c.in_ok-size.ensures ∙ ap (λ (x : Event). stored_length x.what) (sym c.index-history-place.is) in
    let count = c.in-Ok.ensures.count ∙ ap (λ (x : Event). bodies_by x.what) (sym c.index-history-place-2.is) in
    record {
      at = let next = store-next h c.args.place e c.requires.place first in let at = c.requires.done.at in let end = c.in_ok-at.ensures in omega (arith, next, at, size, end);
      bodies = let next = bodies-next h c.args.place f c.requires.place is in let bodies = c.requires.done.bodies in omega (arith, next, bodies, count);
    }

pub returns-in-Ok-clause-compared : goal.returns-in-Ok-clause-compared
returns-in-Ok-clause-compared g c event event_is =
    let id_of = g.N.Namer.id_of in
    let h = c.args.keeper.now.history in
    let e = c.index-history-place.result in
    let f = c.index-history-place-2.result in
    let less = c.requires.place in
    let is = subst (λ (l : List Event). f ≡ get_or l c.args.place f) (c.history-2.ensures.value ∙ c.in_ok-run.ensures.reads.same.history) c.index-history-place-2.is in
    let first = subst (λ (l : List Event). e ≡ get_or l c.args.place e) c.history.ensures.value c.index-history-place.is in
    let size = c.in_ok-size.ensures ∙ ap (λ (x : Event). stored_length x.what) (sym c.index-history-place.is ∙ same-item h c.args.place e f less first is) in
    subst (IsCompared id_of g.D.Disk.tells) (same-item h c.args.place f event less is event_is) (
    record {
      run = c.deref.result.now;
      long = let same = ap length c.deref.ensures.value in let few = c.in_ok-run.ensures.size in omega (arith, same, few, size);
      ids = subst (λ (x : Event). HasItsIds id_of c.deref.result.now x.what) (sym c.index-history-place-2.is) c.in-Ok.ensures.ok;
      stored = λ told.
          c.deref.ensures.value ∙ c.in_ok-run.ensures.bytes told
          ∙ ap (λ (n : ℕ). take n (drop c.args.done.at (coded_runs h))) size
          ∙ ap (λ (n : ℕ). take (stored_length f.what) (drop n (coded_runs h))) c.requires.done.at
          ∙ run-there h c.args.place f less is;
    }
    )

pub returns-clause-again : goal.returns-clause-again
returns-clause-again g c =
    let id_of = g.N.Namer.id_of in
    let h = c.args.keeper.now.history in
    let e = c.index-history-place.result in
    let f = c.index-history-place-2.result in
    let less = c.requires.place in
    let is = subst (λ (l : List Event). f ≡ get_or l c.args.place f) (c.history-2.ensures.value ∙ c.in_ok-run.ensures.reads.same.history) c.index-history-place-2.is in
    let first = subst (λ (l : List Event). e ≡ get_or l c.args.place e) c.history.ensures.value c.index-history-place.is in
    let held = subst (λ (x : Event). IsHeldKind id_of (replay h).bodies x.what) c.index-history-place-2.is (held-at id_of empty_archive h c.args.place f c.history.ensures.kept.history less is) in
    let size = c.in_ok-size.ensures ∙ ap (λ (x : Event). stored_length x.what) (sym c.index-history-place.is ∙ same-item h c.args.place e f less first is) in
    record {
      fault = body-fault id_of (replay h).bodies c.in-Err.fault (c.in-Err.ensures.damaged (replay h).bodies held);
      told = λ told. absurd (
          c.in-Err.ensures.told (replay h).bodies held (
          c.deref.ensures.value ∙ c.in_ok-run.ensures.bytes told
          ∙ ap (λ (n : ℕ). take n (drop c.args.done.at (coded_runs h))) size
          ∙ ap (λ (n : ℕ). take (stored_length f.what) (drop n (coded_runs h))) c.requires.done.at
          ∙ run-there h c.args.place f less is ∙ ap (λ (x : Event). packed_objects x.what) c.index-history-place-2.is
          )
          );
      same = search rules;
      later = search rules;
      cause = λ disk. absurd (no-disk id_of (replay h).bodies c.in-Err.fault (c.in-Err.ensures.damaged (replay h).bodies held) disk);
      quiet = search rules;
      quiet_fault = search rules;
    }
