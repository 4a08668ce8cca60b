use Rattle.std.proofs.Common.{◌≡◌, ◌++◌, length, map}
use Rattle.std.specs.List.{filter_map}
use Rattle.swh_base.specs.Snapshot.{snapshot_text}
use Rattle.swh_snpfmt.specs.Branches.{branch_views}
use Rattle.swh_batchread.specs.Refs.{branch_with}
use Rattle.swh_batchread.specs.RefSteps.{line_at, kind_in}
use Rattle.swh_batchread.proofs.snapshot.branches_of.Given as goal

-- what is listed, and then the branches of the refs that are left; and how many bytes the listed ones have
abbrev pub invariant-loop-name : goal.invariant-loop-name
invariant-loop-name l = record {
  list : filter_map (branch_with (kind_in l.first.entries)) (map line_at l.fn.refs.entries) ≡ branch_views l.list.items ++ filter_map (branch_with (kind_in l.first.entries)) (map line_at l.name-iterator);
  bytes : l.length ≡ length (snapshot_text (branch_views l.list.items));
}
