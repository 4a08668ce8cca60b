use Rattle.std.proofs.Common.{◌≡◌, ℕ, [], ◌∷◌, length, map, sym, subst}
use Rattle.swh_base.specs.Snapshot.{snapshot_text}
use Rattle.std.specs.List.{filter_map}
use Rattle.swh_snpfmt.specs.Branches.{branch_views}
use Rattle.swh_batchread.specs.Refs.{branch_with}
use Rattle.swh_batchread.specs.RefSteps.{line_at, kind_in}
use Rattle.swh_batchread.proofs.SnapshotMade.{ascend_from, branch_turn, bytes_push}
use Rattle.swh_batchread.proofs.snapshot.branches_of.Goals as goal

pub loop-name-preserved : goal.loop-name-preserved
loop-name-preserved c =
    let f = kind_in c.args.first.now.entries in
    let line = line_at (c.in-Some.name, c.in-Some.id) in
    record {
      list = branch_turn f (filter_map (branch_with f) (map line_at c.args.refs.entries)) (branch_views c.loop-name.list.items) (branch_views c.put_branch.new.list.items) (c.in-Some.name, c.in-Some.id) c.loop-name.name-iterator c.next.new.self c.loop-name.invariant.list c.in-Some.ensures.steps c.in_ok-added.ensures.list;
      bytes =
          subst (λ (n : ℕ). n ≡ length (snapshot_text (branch_views c.put_branch.new.list.items))) (sym c.in_ok-length.ensures)
          (bytes_push (branch_views c.loop-name.list.items) (filter_map (branch_with f) (line ∷ [])) (branch_views c.put_branch.new.list.items) c.loop-name.length c.in_ok-added.added c.loop-name.invariant.bytes c.in_ok-added.ensures.added c.in_ok-added.ensures.list);
    }

pub returns-clause-ascend : goal.returns-clause-ascend
returns-clause-ascend c = ascend_from c.args.refs.entries c.into_iter-name-iterator.ensures.into_iter_gives.5
