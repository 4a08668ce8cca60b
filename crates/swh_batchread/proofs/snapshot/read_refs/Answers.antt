use Rattle.std.proofs.Common.{List, ap, sym, ◌∙◌, subst}
use Rattle.swh_base.specs.declared.entry.Entry.{Entry}
use Rattle.swh_base.specs.Snapshot.{snapshot_name}
use Rattle.swh_outside.specs.Views.{sources}
use Rattle.swh_batchread.specs.RefsFault.{ExplainsRefs}
use Rattle.swh_batchread.proofs.Reaching.{exits}
use Rattle.swh_batchread.proofs.SnapshotMade.{means_as, whole_as}
use Rattle.swh_batchread.proofs.snapshot.read_refs.Goals as goal

pub returns-clause-ok : goal.returns-clause-ok
returns-clause-ok g c = λ told.
    means_as (g.S.Source.left c.args.source.now) c.args.objects.items c.as_slice.result.now _ c.in_ok-snapshot.snapshot _ c.as_slice.ensures.value c.in_ok-with_snapshot.ensures.objects c.in_ok-with_snapshot.ensures.id
    (c.in_ok-snapshot.ensures.ok told c.as_slice.result.now c.in_ok-known.ensures.known)

pub returns-clause-kept : goal.returns-clause-kept
returns-clause-kept g c = record {
  snapshot = c.in_ok-snapshot.snapshot;
  objects_are = c.in_ok-with_snapshot.ensures.objects;
  named = c.in_ok-snapshot.ensures.named ∙ ap snapshot_name (sym c.in_ok-with_snapshot.ensures.id);
}

pub returns-clause-whole : goal.returns-clause-whole
returns-clause-whole g c =
    whole_as g.N.Namer.id_of c.args.objects.items c.as_slice.result.now c.in_ok-snapshot.snapshot c.in_ok-with_snapshot.field-0 c.as_slice.ensures.value c.in_ok-with_snapshot.ensures.objects c.in_ok-with_snapshot.ensures.id
    (c.in_ok-snapshot.ensures.whole c.as_slice.result.now c.in_ok-known.ensures.known c.in_ok-known.ensures.good)

pub returns-in_err-snapshot-clause-err : goal.returns-in_err-snapshot-clause-err
returns-in_err-snapshot-clause-err g c =
    exits c.from_residual-in_err-snapshot.result _ c.in_err-snapshot.field-0.0 c.from_residual-in_err-snapshot.ensures.1
    (subst (λ (es : List Entry). ExplainsRefs (sources g.S.Source.tells g.S.Source.left g.S.Source.faults g.S.Source.path) c.args.source.now es c.read_snapshot.new.source c.in_err-snapshot.field-0.0) c.as_slice.ensures.value (c.in_err-snapshot.ensures.err c.as_slice.result.now c.in_ok-known.ensures.known))
