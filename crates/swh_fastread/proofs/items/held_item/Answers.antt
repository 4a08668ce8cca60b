use Rattle.std.proofs.Common.{refl, arith, ◌≡◌, sym, ap, ◌∙◌, subst, List, ℕ}
use Rattle.std.proofs.lemmas.Result.{err_from_is_err_and}
use Rattle.swh_fastrows.specs.declared.fail.ReadFail.TheVariants.{ReadFault as SourceFailed}
use Rattle.swh_fastrows.specs.Explains.{line_refusal}
use Rattle.swh_fastrows.specs.Places.{ReaderState}
use Rattle.swh_fastgrammar.specs.Grammar.Item.{Promise as Promises, Nothing as Silent}
use Rattle.swh_fastread.specs.Steps.{Whole}
use Rattle.swh_fastrows.specs.Failing.{MayFail}
use Rattle.swh_fastrows.proofs.Failings.{refusal_may}
use Rattle.swh_fastrows.proofs.NextLines.{no_read_fault}
use Rattle.swh_fastread.proofs.ReadItems.{same_line, same_fail, promise_taken, silent_taken, done_ends, ref_passes, line_explains}
use Rattle.swh_fastread.proofs.items.held_item.Goals as goal

pub returns-in_err-read_blob-in-Blob-clause-fails : goal.returns-in_err-read_blob-in-Blob-clause-fails
returns-in_err-read_blob-in-Blob-clause-fails g c = λ told.
    let q = err_from_is_err_and c.from_residual-in_err-read_blob-in-Blob.result c.from_residual-in_err-read_blob-in-Blob.ensures.1 in
    rw (q.1, q.2) (c.in_err-read_blob-in-Blob.ensures.fails told)

pub returns-in_err-read_commit-in-Commit-clause-fails : goal.returns-in_err-read_commit-in-Commit-clause-fails
returns-in_err-read_commit-in-Commit-clause-fails g c = λ told.
    let q = err_from_is_err_and c.from_residual-in_err-read_commit-in-Commit.result c.from_residual-in_err-read_commit-in-Commit.ensures.1 in
    rw (q.1, q.2) (c.in_err-read_commit-in-Commit.ensures.fails told)

pub returns-in_err-read_tag-in-Tag-clause-fails : goal.returns-in_err-read_tag-in-Tag-clause-fails
returns-in_err-read_tag-in-Tag-clause-fails g c = λ told.
    let q = err_from_is_err_and c.from_residual-in_err-read_tag-in-Tag.result c.from_residual-in_err-read_tag-in-Tag.ensures.1 in
    rw (q.1, q.2) (c.in_err-read_tag-in-Tag.ensures.fails told)

pub returns-in_ok-read_commit-in-Commit-clause-item : goal.returns-in_ok-read_commit-in-Commit-clause-item
returns-in_ok-read_commit-in-Commit-clause-item g c = λ told p. c.in_ok-read_commit-in-Commit.ensures.command told

pub returns-in_ok-read_tag-in-Tag-clause-item : goal.returns-in_ok-read_tag-in-Tag-clause-item
returns-in_ok-read_tag-in-Tag-clause-item g c = λ told p. c.in_ok-read_tag-in-Tag.ensures.command told

pub returns-in-Promise-clause-item : goal.returns-in-Promise-clause-item
returns-in-Promise-clause-item g c = λ told p.
    let is = rw c.in-Promise.is at c.in_ok-item_line.ensures in
    subst (λ (b : ReaderState). Whole c.args.rows.now b Promises) (sym c.take.ensures) (promise_taken c.args.rows.now c.line.result.now c.requires.next c.line.ensures is)

pub returns-in-Nothing-clause-item : goal.returns-in-Nothing-clause-item
returns-in-Nothing-clause-item g c = λ told p.
    let is = rw c.in-Nothing.is at c.in_ok-item_line.ensures in
    subst (λ (b : ReaderState). Whole c.args.rows.now b Silent) (sym c.take-in-Nothing.ensures) (silent_taken c.args.rows.now c.line.result.now c.requires.next c.line.ensures is)

pub returns-in-Done-clause-item : goal.returns-in-Done-clause-item
returns-in-Done-clause-item g c = λ told p.
    let is = rw c.in-Done.is at c.in_ok-item_line.ensures in
    done_ends c.args.rows.now c.line.result.now c.requires.next c.line.ensures is p

pub returns-in-Over-clause-fails : goal.returns-in-Over-clause-fails
returns-in-Over-clause-fails g c = λ told p.
    let is = rw c.in-Over.is at c.in_ok-item_line.ensures in
    ref_passes c.args.rows.now c.line.result.now c.in-Over.number c.requires.next c.line.ensures is p

pub returns-in-No-clause-fails : goal.returns-in-No-clause-fails
returns-in-No-clause-fails g c = λ told p.
    let is = rw c.in-No.is at c.in_ok-item_line.ensures in
    let same : c.line-in-No.result.now ≡ c.line.result.now = same_line c.line-in-No.result.now c.line.result.now (sym c.line-in-No.ensures ∙ c.line.ensures) in
    line_explains c.args.rows.now c.line.result.now c.at.result c.refused_line.result c.requires.next c.line.ensures is.0 is.1 c.at.ensures (c.refused_line.ensures ∙ ap (λ (l : List ℕ). line_refusal l c.at.result) same) p

pub returns-in-No-clause-on : goal.returns-in-No-clause-on
returns-in-No-clause-on g c = record {
  same_path = refl;
  later = omega arith;
  quiet = λ _. refl;
  cause = λ e. absurd (no_read_fault c.line-in-No.result.now c.at.result (sym c.refused_line.ensures ∙ same_fail c.refused_line.result SourceFailed _ refl e));
}

pub returns-in-No-clause-may : goal.returns-in-No-clause-may
returns-in-No-clause-may g c = subst MayFail (sym c.refused_line.ensures) (refusal_may c.line-in-No.result.now c.at.result)
