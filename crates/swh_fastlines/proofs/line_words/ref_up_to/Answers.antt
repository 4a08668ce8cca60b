use Rattle.std.proofs.Common.{rules, ◌≡◌, sym, subst}
use Rattle.swh_fastgrammar.specs.Word.{IsRefUpTo}
use Rattle.swh_fastlines.proofs.RefRuns.{passes, passes_not, no_ref_up_to, is_ref_up_to, weaker}
use Rattle.swh_fastlines.proofs.line_words.ref_up_to.Goals as goal

pub returns-then-run-limit : goal.returns-then-run-limit
returns-then-run-limit c = passes c.args.text.now c.ref_run-run.result c.args.limit c.ref_run-run.ensures c.if-run-limit.true

pub returns-then-run-eq0 : goal.returns-then-run-eq0
returns-then-run-eq0 c = (
  no_ref_up_to c.args.text.now c.ref_run-run.result c.args.limit c.ref_run-run.ensures (weaker c.then-run-eq0.either),
  passes_not c.args.text.now c.ref_run-run.result c.args.limit c.ref_run-run.ensures c.if-run-limit.false,
)

pub returns : goal.returns
returns c =
    let text = c.args.text.now in
    let same : c.from_vec.result ≡ text = search rules in (
      subst (IsRefUpTo c.args.limit text) (sym same) (is_ref_up_to text c.ref_run-run.result c.args.limit c.requires c.ref_run-run.ensures c.if-run-limit.false c.if-run-eq0.false (search rules)),
      passes_not text c.ref_run-run.result c.args.limit c.ref_run-run.ensures c.if-run-limit.false,
    )
