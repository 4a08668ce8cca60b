use Rattle.std.proofs.Common.{rules, eq-eqb}
use Rattle.std.specs.List.{AllPass}
use Rattle.std.proofs.lemmas.Bool.{eqb-true}
use Rattle.swh_base.specs.Text.{is_person_byte}
use Rattle.swh_base.proofs.Persons.{named-last, named_from}
use Rattle.swh_base.proofs.text.is_named.Goals as goal

pub returns-in-Some : goal.returns-in-Some
returns-in-Some c =
    let bytes : AllPass is_person_byte c.args.text.now = c.if-not-are_person_bytes.ensures.0 (search rules) in
    let cut = c.in-Some.ensures.cases.0 in (
      λ t. named_from c.args.text.now c.in-Some.field-0-1.now c.in-Some.last.now cut (eqb-true c.in-Some.last.now 32 t) bytes,
      λ h. eq-eqb c.in-Some.last.now 32 (named-last c.args.text.now c.in-Some.field-0-1.now c.in-Some.last.now cut h),
    )
