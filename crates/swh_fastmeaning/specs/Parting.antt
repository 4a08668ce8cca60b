-- The parts of a loader, and why an object is not made.
use Rattle.std.specs.Prelude.{◌≡◌, ℕ, ◌<◌, List, length}
use Rattle.swh_base.specs.declared.visit.Which.TheVariants.{Body}
use Rattle.swh_base.specs.Limits.{body_limit}
use Rattle.swh_fastmeaning.specs.declared.feed_fault.FeedFault.{FeedFault}
use Rattle.swh_fastmeaning.specs.declared.feed_fault.FeedFault.TheVariants.{BadStream, Limit, Memory}
use Rattle.swh_fastmeaning.specs.declared.parts.Parts.{Parts}
use Rattle.swh_fastmeaning.specs.Stock.{Stock, stock}

-- what the parts hold
abbrev pub stock_of : {N : Type 0} → Parts N → Stock
stock_of p = stock p.trees p.aims p.seen

-- Why a body is refused: the fault is its length, which is above the limit. Of want of memory nothing is said.
abbrev pub ExplainsBody : List ℕ → FeedFault → Type 0
ExplainsBody body (BadStream at why) = ⊥
ExplainsBody body (Limit which number) = (which ≡ Body) × (number ≡ length body) × (body_limit < number)
ExplainsBody body Memory = Unit {0}
