use Rattle.std.proofs.Common.{refl, sym, ◌∙◌, inr}
use Rattle.swh_batchread.specs.RefSteps.{line_of}
use Rattle.swh_batchread.proofs.RefsHeld.{takes_peeled, takes_ref, met_again, passes_refs}
use Rattle.swh_batchread.proofs.refs.take_line.Goals as goal

pub returns-then-is_peeled-clause-ok : goal.returns-then-is_peeled-clause-ok
returns-then-is_peeled-clause-ok c = λ rs h.
    takes_peeled rs c.args.line.now (line_of c.in-Some.found) c.args.refs.now h c.in-Some.ensures.0 c.in-Some.ensures.1 (sym c.is_peeled.ensures ∙ c.if-is_peeled.true)

pub returns-then-has_name-clause-err : goal.returns-then-has_name-clause-err
returns-then-has_name-clause-err c = λ rs h faults.
    record {
      possible = (c.requires.first, c.requires.last);
      told = λ t. (refl, met_again rs c.args.line.now (line_of c.in-Some.found) c.in-Some.ensures.0 c.in-Some.ensures.1 (sym c.is_peeled.ensures ∙ c.if-is_peeled.false) (c.has_name.ensures.met rs h c.if-has_name.true));
    }

pub returns-then-counted-gt-REFS_LIMIT-clause-err : goal.returns-then-counted-gt-REFS_LIMIT-clause-err
returns-then-counted-gt-REFS_LIMIT-clause-err c = λ rs h faults.
    record {
      possible = inr (inr (refl, refl));
      told = λ t. (refl, refl, passes_refs rs c.args.line.now (line_of c.in-Some.found) c.count_with-counted.result c.args.refs.now h c.in-Some.ensures.0 c.in-Some.ensures.1 (sym c.is_peeled.ensures ∙ c.if-is_peeled.false) (c.has_name.ensures.none c.if-has_name.false) c.count_with-counted.ensures c.if-counted-gt-REFS_LIMIT.true);
    }

pub returns-clause-ok : goal.returns-clause-ok
returns-clause-ok c = λ rs h.
    takes_ref rs c.args.line.now (line_of c.in-Some.found) c.count_with-counted.result c.args.refs.now c.put_ref.new.refs h c.in-Some.ensures.0 c.in-Some.ensures.1 (sym c.is_peeled.ensures ∙ c.if-is_peeled.false) (c.has_name.ensures.none c.if-has_name.false) c.in_ok-put_ref.ensures c.count_with-counted.ensures c.if-counted-gt-REFS_LIMIT.false
