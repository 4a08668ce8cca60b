-- What a refusal says of what is missing.
use Rattle.std.specs.Prelude.{◌≡◌, Result, Err}
use Rattle.swh_fastmeaning.specs.Aims.{Missing}
use Rattle.swh_fastmeaning.specs.declared.feed_fault.FeedFault.{FeedFault}
use Rattle.swh_fastmeaning.specs.declared.feed_fault.FeedFault.TheVariants.{BadStream, Limit, Memory}

-- The fault tells what is missing: its place, and why.
abbrev pub ExplainsMissing : {X : Type 0} → Result X Missing → FeedFault → Type 0
ExplainsMissing found (BadStream at why) = found ≡ Err (record { at = at; why = why })
ExplainsMissing found (Limit which number) = ⊥
ExplainsMissing found Memory = ⊥
