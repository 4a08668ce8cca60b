use Rattle.std.proofs.Common.{◌≡◌, take}
use Rattle.swh_base.specs.Snapshot.{snapshot_text}
use Rattle.swh_snpfmt.specs.Branches.{branch_views}
use Rattle.swh_snpfmt.proofs.writing.write_snp.Given as goal

abbrev pub invariant-loop-branch : goal.invariant-loop-branch
invariant-loop-branch l = l.out.items ≡ snapshot_text (branch_views (take l.branch-index l.branch-items))
