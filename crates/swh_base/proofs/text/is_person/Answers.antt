use Rattle.std.proofs.Common.{rules}
use Rattle.std.specs.List.{AllPass}
use Rattle.swh_base.specs.Text.{is_person_byte}
use Rattle.swh_base.specs.Text.{IsNamed}
use Rattle.swh_base.proofs.Persons.{person-no_open, person-no_close, person_parts, whole_person}
use Rattle.swh_base.proofs.text.is_person.Goals as goal

pub returns-in_default : goal.returns-in_default
returns-in_default c = (λ t. absurd cc, λ h. absurd (person-no_open c.args.text.now c.in_default.ensures.none h))

pub returns-in_default-split_at_byte : goal.returns-in_default-split_at_byte
returns-in_default-split_at_byte c =
    let open_cut = c.in-Some.ensures.some in
    (λ t. absurd cc, λ h. absurd (person-no_close c.args.text.now c.in-Some.name.now c.in-Some.rest.now open_cut.0 open_cut.1 c.in_default-split_at_byte.ensures.none h))

pub returns-then-not-is_named : goal.returns-then-not-is_named
returns-then-not-is_named c =
    let open_cut = c.in-Some.ensures.some in
    let close_cut = c.in-Some-split_at_byte.ensures.some in (
      λ t. absurd cc,
      λ h. let parts = person_parts c.args.text.now c.in-Some.name.now c.in-Some.rest.now c.in-Some-split_at_byte.email.now c.in-Some-split_at_byte.date.now open_cut.0 open_cut.1 close_cut.0 close_cut.1 h in
          let yes = c.if-not-is_named.ensures.1 parts.is_named in let no = c.if-not-is_named.true in cc,
    )

pub returns-then-not-are_person_bytes : goal.returns-then-not-are_person_bytes
returns-then-not-are_person_bytes c =
    let open_cut = c.in-Some.ensures.some in
    let close_cut = c.in-Some-split_at_byte.ensures.some in (
      λ t. absurd cc,
      λ h. let parts = person_parts c.args.text.now c.in-Some.name.now c.in-Some.rest.now c.in-Some-split_at_byte.email.now c.in-Some-split_at_byte.date.now open_cut.0 open_cut.1 close_cut.0 close_cut.1 h in
          let yes = c.if-not-are_person_bytes.ensures.1 parts.email_bytes in let no = c.if-not-are_person_bytes.true in cc,
    )

pub returns : goal.returns
returns c =
    let open_cut = c.in-Some.ensures.some in
    let close_cut = c.in-Some-split_at_byte.ensures.some in
    let named : IsNamed c.in-Some.name.now = c.if-not-is_named.ensures.0 (search rules) in
    let email : AllPass is_person_byte c.in-Some-split_at_byte.email.now = c.if-not-are_person_bytes.ensures.0 (search rules) in (
      λ t. whole_person c.args.text.now c.in-Some.name.now c.in-Some.rest.now c.in-Some-split_at_byte.email.now c.in-Some-split_at_byte.date.now open_cut.1 close_cut.1 named email (c.is_date.ensures.0 t),
      λ h. let parts = person_parts c.args.text.now c.in-Some.name.now c.in-Some.rest.now c.in-Some-split_at_byte.email.now c.in-Some-split_at_byte.date.now open_cut.0 open_cut.1 close_cut.0 close_cut.1 h in c.is_date.ensures.1 parts.is_date,
    )
