use Rattle.std.proofs.Common.{◌≡◌, inr, true, subst, Bool}
use Rattle.std.proofs.lemmas.Result.{err_from_is_err_and}
use Rattle.swh_fastgrammar.proofs.Items.{merge}
use Rattle.swh_fastread.specs.Tail.{ReadsFrom, ReadsAll}
use Rattle.swh_fastread.proofs.ReadChanges.{next_true}
use Rattle.swh_fastread.proofs.tail.read_tail.Goals as goal

pub returns-in_err-changes-clause-fails : goal.returns-in_err-changes-clause-fails
returns-in_err-changes-clause-fails g c = λ told.
    let q = err_from_is_err_and c.from_residual-in_err-changes.result c.from_residual-in_err-changes.ensures.1 in
    let more : c.in_ok-merges.merges.next ≡ true = c.in_err-changes.ensures.some in
    let next : c.in_ok-parent.parent.next ≡ true = next_true c.in_ok-parent.parent.next c.in_ok-merges.merges.next more c.in_ok-merges.ensures.none in
    rw (q.1, q.2) (inr (record {
      first = c.read_parent.new.rows;
      second = c.read_merges.new.rows;
      parent = c.in_ok-parent.parent.commit;
      merges = c.in_ok-merges.merges.commits;
      reads_parent = subst (λ (n : Bool). ReadsFrom c.args.rows.now c.read_parent.new.rows n c.in_ok-parent.parent.commit) next (c.in_ok-parent.ensures.parent told);
      reads_merges = subst (λ (n : Bool). ReadsAll merge c.read_parent.new.rows c.read_merges.new.rows n c.in_ok-merges.merges.commits) more (c.in_ok-merges.ensures.merges told);
      fails = c.in_err-changes.ensures.fails told;
    }))

pub returns-clause-tail : goal.returns-clause-tail
returns-clause-tail g c = λ told. (
  c.in_ok-parent.parent.commit,
  c.start_of.ensures,
  record {
    first = c.read_parent.new.rows;
    second = c.read_merges.new.rows;
    next = c.in_ok-parent.parent.next;
    more = c.in_ok-merges.merges.next;
    reads_parent = c.in_ok-parent.ensures.parent told;
    reads_merges = c.in_ok-merges.ensures.merges told;
    reads_changes = c.in_ok-changes.ensures.changes told;
    none = c.in_ok-merges.ensures.none;
    same = c.read_merges.ensures.still;
    last = c.read_changes.ensures.none;
  },
)
