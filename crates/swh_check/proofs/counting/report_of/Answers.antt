use Rattle.std.proofs.Common.{◌≡◌, inl, inr, ℕ, List, take, sym, ap, ◌∙◌, subst, arith}
use Rattle.std.specs.FinMap as finite
use Rattle.std.proofs.lemmas.List.{take_all}
use Rattle.swh_base.specs.Name.{name_cmp}
use Rattle.swh_base.specs.Snapshot.{snapshot_name}
use Rattle.swh_model.specs.declared.event.Event.{Event}
use Rattle.swh_model.specs.Archive.{Bodies, empty_archive, IsGraphOf}
use Rattle.swh_model.specs.Step.{replay}
use Rattle.swh_model.proofs.Graphs.{reaches-same, closed-same}
use Rattle.swh_store.specs.Stored.{children_in}
use Rattle.swh_check.specs.Counts.{opened_in, IsFullIn}
use Rattle.swh_check.proofs.BodyCounts.{counted as counted-bodies}
use Rattle.swh_check.proofs.FullMarks.{full-in, full-next, closed-full, none-full}
use Rattle.swh_check.proofs.VisitCounts.{counted, none-counted, opened-next, opened_once}
use Rattle.swh_check.proofs.counting.report_of.Goals as goal

pub join_full-requires-clause-closed : goal.join_full-requires-clause-closed
join_full-requires-clause-closed c id full =
    let h = c.args.history.now in
    let graph = children_in c.args.store.now in
    let graph_is = subst (λ (b : Bodies). IsGraphOf b graph) c.requires.replayed c.is_graph.ensures in
    (closed-same (replay h).bodies graph graph_is (snapshot_name id)).0
    (closed-full c.requires.history.id_of id empty_archive h c.loop-event.event-index c.event-item.result c.requires.history.is c.loop-event-test.true c.event-item.is full)

pub loop-event-preserved : goal.loop-event-preserved
loop-event-preserved c =
    let h = c.args.history.now in
    let i = c.loop-event.event-index in
    let e = c.event-item.result in
    let less = c.loop-event-test.true in
    let next = opened-next h i e less c.event-item.is in
    let once = opened_once e.what in
    let opened = c.visits_opened-visits.ensures in
    let so_far = c.loop-event.invariant.visits in
    let few = c.loop-event.invariant.few in
    record {
      visits = omega (arith, next, opened, so_far);
      few = omega (arith, once, opened, few);
      whole = c.in_ok-join_full.ensures.whole;
      closed = λ n.
          let joins = c.in_ok-join_full.ensures.joins n in
          let known = c.loop-event.invariant.closed n in (
            λ there. elim (joins.0 there) [
              | inl old ↦ let k = known.0 old in (k.0, (full-next h i e k.0 less c.event-item.is).1 (inl k.1), k.2)
              | inr new ↦ (new.0, (full-next h i e new.0 less c.event-item.is).1 (inr new.1), new.2)
            ],
            λ full. elim ((full-next h i e full.0 less c.event-item.is).0 full.1) [
              | inl old ↦ joins.1 (inl (known.1 (full.0, old, full.2)))
              | inr now ↦ joins.1 (inr (full.0, now, full.2))
            ],
          );
    }

pub returns : goal.returns
returns c =
    let h = c.args.history.now in
    let a = replay h in
    let graph = children_in c.args.store.now in
    let graph_is = subst (λ (b : Bodies). IsGraphOf b graph) c.requires.replayed c.is_graph.ensures in
    let whole : take c.loop-event.event-index h ≡ h = take_all c.loop-event.event-index h c.loop-event-test.false in
    let all = counted empty_archive h in
    let so_far = c.loop-event.invariant.visits ∙ ap opened_in whole in
    record {
      objects = let objects = counted-bodies c.requires.history.id_of empty_archive h c.requires.history.is in let none = finite.len-empty name_cmp (List ℕ) in let given = c.requires.counted in omega (arith, objects, none, given);
      visits = omega (arith, all, so_far, none-counted);
      names = c.loop-event.closed;
      ascending = c.len.ensures.ascending;
      are = λ n.
          let known = c.loop-event.invariant.closed n in (
            λ there.
                let k = known.0 there in
                record {
                  snapshot = k.0;
                  full = (full-in c.requires.history.id_of k.0 empty_archive h c.requires.history.is (none-full k.0)).1 (subst (λ (g : List Event). IsFullIn g k.0) whole k.1);
                  reached = (reaches-same a.bodies graph graph_is (snapshot_name k.0) n).1 k.2;
                },
            λ is. known.1 (
              is.snapshot,
              subst (λ (g : List Event). IsFullIn g is.snapshot) (sym whole) ((full-in c.requires.history.id_of is.snapshot empty_archive h c.requires.history.is (none-full is.snapshot)).0 is.full),
              (reaches-same a.bodies graph graph_is (snapshot_name is.snapshot) n).0 is.reached,
            ),
          );
      closed = c.len.ensures.value;
    }
