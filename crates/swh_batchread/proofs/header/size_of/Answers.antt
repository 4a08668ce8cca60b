use Rattle.std.proofs.Common.{rules, ◌≡◌, decimal, true, ap, sym, ◌∙◌}
use Rattle.std.proofs.lemmas.Fmt.{IsAscii-decimal}
use Rattle.std.proofs.lemmas.Str.{IsUtf8-from_ascii}
use Rattle.swh_snpfmt.proofs.Numbers.{not_refused, parsed_as}
use Rattle.swh_batchread.proofs.header.size_of.Goals as goal

pub returns-in_default-clause-none : goal.returns-in_default-clause-none
returns-in_default-clause-none c = λ n small e. c.in_default.ensures.cases.0 (rw e (IsUtf8-from_ascii (decimal n) (IsAscii-decimal n small)))

pub returns-in_default-parse-clause-none : goal.returns-in_default-parse-clause-none
returns-in_default-parse-clause-none c = λ n small e. not_refused n c.in-Ok.text.now c.in_default-parse.field-0 small (c.in-Ok.ensures.cases.0 ∙ e) c.in_default-parse.ensures.value.0

pub returns-else-eq-clause-none : goal.returns-else-eq-clause-none
returns-else-eq-clause-none c = λ n small e.
    let number = parsed_as n c.in-Ok-parse.number c.in-Ok.text.now small (c.in-Ok.ensures.cases.0 ∙ e) c.in-Ok-parse.ensures.value.0 in
    let same : c.as_bytes.result.now ≡ c.args.digits.now = c.as_bytes.ensures.value ∙ c.format.ensures.text ∙ ap decimal number ∙ sym e in
    let yes : c.eq.result ≡ true = search rules in
    absurd cc
