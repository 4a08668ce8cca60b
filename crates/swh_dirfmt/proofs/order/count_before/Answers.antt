use Rattle.std.proofs.Common.{◌++◌, arith, sym, ◌∙◌}
use Rattle.swh_base.specs.Directory.{suffix_of}
use Rattle.swh_dirfmt.proofs.Places.{before-from, others-from}
use Rattle.swh_dirfmt.proofs.order.count_before.Goals as goal

pub halves-preserved-then-is_before : goal.halves-preserved-then-is_before
halves-preserved-then-is_before c = record {
  ordered = omega arith;
  within = omega arith;
  before = before-from c.args.entries.now (c.args.name.now ++ suffix_of c.args.mode) _ _ c.requires (omega arith) (sym c.is_before.ensures ∙ c.if-is_before.true);
  others = c.halves.invariant.others;
}

pub halves-preserved : goal.halves-preserved
halves-preserved c = record {
  ordered = omega arith;
  within = omega arith;
  before = c.halves.invariant.before;
  others = others-from c.args.entries.now (c.args.name.now ++ suffix_of c.args.mode) _ _ c.requires (omega arith) (sym c.is_before.ensures ∙ c.if-is_before.false);
}
