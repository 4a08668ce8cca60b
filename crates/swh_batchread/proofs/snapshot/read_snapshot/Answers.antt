use Rattle.std.proofs.Common.{inl, inr, refl}
use Rattle.swh_batchread.specs.Failing.{Fails}
use Rattle.swh_batchread.specs.RefsFault.{BreaksLines, SnapshotBreaks, BreaksRefs, MayBreakLines, MayBreakSnapshot, MayBreakRefs}
use Rattle.swh_batchread.proofs.Breaking.{fails_as}
use Rattle.swh_batchread.proofs.ReadsOn.{ended_by}
use Rattle.swh_batchread.proofs.Reaching.{exits, object_fails}
use Rattle.swh_batchread.proofs.SnapshotMade.{err_each, means_refs}
use Rattle.swh_batchread.proofs.snapshot.read_snapshot.Goals as goal

pub returns-clause-ok : goal.returns-clause-ok
returns-clause-ok g c = λ told objects knows.
    let gives = c.in_ok-refs.ensures.ok in
    means_refs c.end_refs.result (g.S.Source.left c.args.source.now) objects gives.lines (record { are = gives.are; spelled = gives.told told }) (c.end_refs.ensures.ok objects knows gives.lines gives.are gives.held)

pub returns-clause-err : goal.returns-clause-err
returns-clause-err g c = λ objects knows.
    let gives = c.in_ok-refs.ensures.ok in
    let left = g.S.Source.left c.args.source.now in
    let old = g.S.Source.faults c.args.source.now in
    let new = g.S.Source.faults c.read_lines.new.source in
    err_each (λ n. Fails (Unit {0}) (MayBreakSnapshot objects) (SnapshotBreaks gives.lines objects) n n) (Fails g.S.Source.tells (MayBreakRefs objects) (BreaksRefs left objects) old new) c.end_refs.result (c.end_refs.ensures.err objects knows gives.lines gives.are gives.held)
    (λ e h.
    fails_as g.S.Source.tells (MayBreakSnapshot objects) (MayBreakRefs objects) (BreaksRefs left objects) (BreaksRefs left objects) old old new e (λ f m. inr m) (λ t f b. b) refl
    (object_fails g.S.Source.tells (MayBreakSnapshot objects) (SnapshotBreaks gives.lines objects) (BreaksRefs left objects) old new e (λ t fault b. inr (gives.lines, record { are = gives.are; spelled = gives.told t }, b)) h))

pub returns-clause-on : goal.returns-clause-on
returns-clause-on g c =
    let lines = c.in_ok-refs.ensures.on in
    ended_by g.S.Source.path g.S.Source.faults c.args.source.now c.read_lines.new.source c.end_refs.result lines.same_path (lines.quiet (λ e. cc)) c.end_refs.ensures.quiet

pub returns-in_err-refs-clause-err : goal.returns-in_err-refs-clause-err
returns-in_err-refs-clause-err g c = λ objects knows.
    let left = g.S.Source.left c.args.source.now in
    let old = g.S.Source.faults c.args.source.now in
    let new = g.S.Source.faults c.read_lines.new.source in
    exits c.from_residual-in_err-refs.result _ c.in_err-refs.field-0.0 c.from_residual-in_err-refs.ensures.1
    (fails_as g.S.Source.tells MayBreakLines (MayBreakRefs objects) (BreaksLines left) (BreaksRefs left objects) old old new c.in_err-refs.field-0.0 (λ f m. inl m) (λ t f b. inl b) refl c.in_err-refs.ensures.err)
