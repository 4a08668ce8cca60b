use Rattle.std.specs.Prelude.{IsTrue, ◌↔◌, Contains}
use Rattle.swh_base.specs.Reach.{IsHeldIn, IsChildIn, ReachesIn, IsClosedIn}
use Rattle.swh_base.specs.declared.name.Name.{Name}
use Rattle.swh_closure.proofs.Wholes.{whole-grows}
use Rattle.swh_model.specs.Archive.{IsHeld, IsChild, Reaches, IsClosed}
use Rattle.swh_model.proofs.Graphs.{held-in, held-out, child-in, child-out, reaches-same, closed-same}
use Rattle.swh_model.proofs.Results.{on_ok, if_ok_then}
use Rattle.swh_store.specs.Stored.{children_in}
use Rattle.swh_replay.proofs.happening.is_closed.Goals as goal

pub close-requires : goal.close-requires
close-requires c =
    let bodies = c.args.preloaded.now.shown.bodies in
    let graph = children_in c.args.preloaded.now.shown in
    whole-grows (IsHeld bodies) (IsChild bodies) (IsHeldIn graph) (IsChildIn graph) c.args.closed.now
    (record { held = held-in bodies graph c.is_graph.ensures; kids = λ n child _ is. child-out bodies graph c.is_graph.ensures n child is }) c.requires

pub returns-clause-value : goal.returns-clause-value
returns-clause-value c =
    let bodies = c.args.preloaded.now.shown.bodies in
    let graph = children_in c.args.preloaded.now.shown in
    let same = closed-same bodies graph c.is_graph.ensures c.args.name in
    if_ok_then c.close.result (λ yes. IsTrue yes ↔ IsClosedIn graph c.args.name) (λ yes. IsTrue yes ↔ IsClosed bodies c.args.name) c.close.ensures.value
    (λ yes is. (λ t. same.1 (is.0 t), λ closed. is.1 (same.0 closed)))

pub returns-clause-whole : goal.returns-clause-whole
returns-clause-whole c =
    let bodies = c.args.preloaded.now.shown.bodies in
    let graph = children_in c.args.preloaded.now.shown in
    on_ok c.close.result c.close.ensures.whole
    (λ whole. whole-grows (IsHeldIn graph) (IsChildIn graph) (IsHeld bodies) (IsChild bodies) c.close.new.closed
    (record { held = held-out bodies graph c.is_graph.ensures; kids = λ n child _ is. child-in bodies graph c.is_graph.ensures n child is }) whole)

pub returns-clause-joins : goal.returns-clause-joins
returns-clause-joins c =
    let bodies = c.args.preloaded.now.shown.bodies in
    let graph = children_in c.args.preloaded.now.shown in
    let same = reaches-same bodies graph c.is_graph.ensures c.args.name in
    if_ok_then c.close.result (λ yes. IsTrue yes → (n : Name) → ReachesIn graph c.args.name n → Contains c.close.new.closed n) (λ yes. IsTrue yes → (n : Name) → Reaches bodies c.args.name n → Contains c.close.new.closed n) c.close.ensures.all
    (λ yes all t n reached. all t n ((same n).0 reached))
