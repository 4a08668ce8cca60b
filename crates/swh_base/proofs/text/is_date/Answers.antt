use Rattle.std.proofs.Common.{rules}
use Rattle.swh_base.specs.Text.{IsSeconds}
use Rattle.swh_base.proofs.Persons.{date-no_space, date_parts, whole_date}
use Rattle.swh_base.proofs.text.is_date.Goals as goal

pub returns-in_default-split_at_byte : goal.returns-in_default-split_at_byte
returns-in_default-split_at_byte c =
    (λ t. absurd cc, λ h. absurd (date-no_space c.args.text.now c.in-Some.rest.now c.in-Some.ensures.some c.in_default-split_at_byte.ensures.none h))

pub returns-then-not-are_seconds : goal.returns-then-not-are_seconds
returns-then-not-are_seconds c =
    let cut = c.in-Some-split_at_byte.ensures.some in (
      λ t. absurd cc,
      λ h. let parts = date_parts c.args.text.now c.in-Some.rest.now c.in-Some-split_at_byte.seconds.now c.in-Some-split_at_byte.zone.now c.in-Some.ensures.some cut.0 cut.1 h in
          let yes = c.if-not-are_seconds.ensures.1 parts.are_seconds in let no = c.if-not-are_seconds.true in cc,
    )

pub returns : goal.returns
returns c =
    let cut = c.in-Some-split_at_byte.ensures.some in
    let seconds : IsSeconds c.in-Some-split_at_byte.seconds.now = c.if-not-are_seconds.ensures.0 (search rules) in (
      λ t. whole_date c.args.text.now c.in-Some.rest.now c.in-Some-split_at_byte.seconds.now c.in-Some-split_at_byte.zone.now c.in-Some.ensures.some cut.1 seconds (c.is_zone.ensures.0 t),
      λ h. let parts = date_parts c.args.text.now c.in-Some.rest.now c.in-Some-split_at_byte.seconds.now c.in-Some-split_at_byte.zone.now c.in-Some.ensures.some cut.0 cut.1 h in c.is_zone.ensures.1 parts.is_zone,
    )
