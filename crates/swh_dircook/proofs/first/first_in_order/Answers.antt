use Rattle.std.proofs.Common.{subst}
use Rattle.std.specs.Prelude.{Contains}
use Rattle.swh_base.proofs.Elementary.{only}
use Rattle.swh_dircook.proofs.first.first_in_order.Goals as goal

pub ways_from-requires : goal.ways_from-requires
ways_from-requires g c = record {
  preceded = c.requires.preceded;
  once = c.requires.once;
  there = λ n one. subst (Contains c.args.order.now) (only c.args.root n one) c.requires.there;
}
