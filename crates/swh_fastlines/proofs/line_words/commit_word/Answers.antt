use Rattle.std.proofs.Common.{rules, inl, inr, drop, sym, subst}
use Rattle.std.proofs.lemmas.List.{take_rest}
use Rattle.swh_fastgrammar.specs.Word.{EndsCommit}
use Rattle.swh_fastlines.proofs.RefRuns.{passes, passes_not, no_commit, branch_commit}
use Rattle.swh_fastlines.proofs.line_words.commit_word.Goals as goal

pub returns-then-run-gt-REF_LIMIT : goal.returns-then-run-gt-REF_LIMIT
returns-then-run-gt-REF_LIMIT c = passes c.args.text.now c.ref_run-run.result _ c.ref_run-run.ensures c.if-run-gt-REF_LIMIT.true

pub returns-then-run-eq0 : goal.returns-then-run-eq0
returns-then-run-eq0 c =
    let text = c.args.text.now in (
      no_commit text c.ref_run-run.result c.in_default.ensures.none c.ref_run-run.ensures (inl c.if-run-eq0.true),
      passes_not text c.ref_run-run.result _ c.ref_run-run.ensures c.if-run-gt-REF_LIMIT.false,
    )

pub returns-then-not-ends_commit : goal.returns-then-not-ends_commit
returns-then-not-ends_commit c =
    let text = c.args.text.now in
    let not_ended : EndsCommit (drop c.ref_run-run.result text) → ⊥ = λ e. let yes = c.if-not-ends_commit.ensures.1 (subst EndsCommit (sym (take_rest text c.ref_run-run.result)) e) in let never = c.if-not-ends_commit.true in cc in (
      no_commit text c.ref_run-run.result c.in_default.ensures.none c.ref_run-run.ensures (inr not_ended),
      passes_not text c.ref_run-run.result _ c.ref_run-run.ensures c.if-run-gt-REF_LIMIT.false,
    )

pub returns : goal.returns
returns c =
    let text = c.args.text.now in
    let ends = subst EndsCommit (take_rest text c.ref_run-run.result) (c.if-not-ends_commit.ensures.0 (search rules)) in (
      branch_commit text c.from_vec.result c.ref_run-run.result c.ref_run-run.ensures c.if-run-gt-REF_LIMIT.false c.if-run-eq0.false ends (search rules),
      passes_not text c.ref_run-run.result _ c.ref_run-run.ensures c.if-run-gt-REF_LIMIT.false,
    )
