use Rattle.std.proofs.Common.{map, slice_get, ap, ◌∙◌, arith}
use borrow.Author.Count.{below_more}
use Rattle.swh_dedup.specs.Seen.{kept_made}
use Rattle.swh_dedup.proofs.Seens.{number_at, not_true}
use Rattle.swh_dedup.proofs.seen.place_among.Goals as goal

pub loop-place-init : goal.loop-place-init
loop-place-init c k l = absurd (omega arith)

pub returns-then-here-clause-found : goal.returns-then-here-clause-found
returns-then-here-clause-found c = c.stands_at-here.ensures.0 c.if-here.true

pub loop-place-preserved : goal.loop-place-preserved
loop-place-preserved c = below_more _ _ c.loop-place.invariant (λ e. not_true _ (c.stands_at-here.ensures.1 e) c.if-here.false)

pub returns-clause-none : goal.returns-clause-none
returns-clause-none c k h e =
    c.loop-place.invariant h.0 (omega (arith, h.1)) (ap (slice_get (map kept_made c.args.made.now)) (number_at c.args.places.now k h) ∙ e)
