use Rattle.std.proofs.Common.{◌+◌, length, ap}
use Rattle.swh_base.specs.declared.kind.Kind.{Kind}
use Rattle.swh_base.specs.Snapshot.{target_kind_word}
use Rattle.swh_batchread.proofs.SnapshotMade.{frame_bytes}
use Rattle.swh_batchread.proofs.snapshot.frame_length.Goals as goal

pub returns-in-Content-clause-length : goal.returns-in-Content-clause-length
returns-in-Content-clause-length c = λ r is. frame_bytes r c.args.kind 32 is (ap (λ (k : Kind). length (target_kind_word k) + 25) c.in-Content.is)

pub returns-in-Directory-clause-length : goal.returns-in-Directory-clause-length
returns-in-Directory-clause-length c = λ r is. frame_bytes r c.args.kind 34 is (ap (λ (k : Kind). length (target_kind_word k) + 25) c.in-Directory.is)

pub returns-in-Revision-clause-length : goal.returns-in-Revision-clause-length
returns-in-Revision-clause-length c = λ r is. frame_bytes r c.args.kind 33 is (ap (λ (k : Kind). length (target_kind_word k) + 25) c.in-Revision.is)

pub returns-in-Release-clause-length : goal.returns-in-Release-clause-length
returns-in-Release-clause-length c = λ r is. frame_bytes r c.args.kind 32 is (ap (λ (k : Kind). length (target_kind_word k) + 25) c.in-Release.is)

pub returns-in-Snapshot-clause-length : goal.returns-in-Snapshot-clause-length
returns-in-Snapshot-clause-length c = λ r is. frame_bytes r c.args.kind 33 is (ap (λ (k : Kind). length (target_kind_word k) + 25) c.in-Snapshot.is)
