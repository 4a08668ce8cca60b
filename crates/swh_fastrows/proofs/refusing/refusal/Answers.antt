use Rattle.std.proofs.Common.{sym, ap, ◌∙◌, ℕ}
use Rattle.swh_fastrows.specs.Explains.{line_refusal}
use Rattle.swh_fastrows.proofs.NextLines.{refused_line, refused_end, no_read_fault}
use Rattle.swh_fastrows.proofs.refusing.refusal.Goals as goal

pub returns-in-Ok-true-clause-refusal : goal.returns-in-Ok-true-clause-refusal
returns-in-Ok-true-clause-refusal g c = λ told counts.
    refused_line c.args.rows.now c.peek.new.rows c.line.result.now c.refused_line.result (c.in-Ok-true.ensures.took told) counts (c.in-Ok-true.ensures.line c.in-Ok-true.field-0-test) c.line.ensures (c.refused_line.ensures ∙ ap (λ (n : ℕ). line_refusal c.line.result.now n) c.at.ensures)

pub returns-in-Ok-true-clause-cause : goal.returns-in-Ok-true-clause-cause
returns-in-Ok-true-clause-cause g c = λ e. absurd (no_read_fault c.line.result.now c.at.result (sym c.refused_line.ensures ∙ e))

pub returns-in-Ok-false-clause-refusal : goal.returns-in-Ok-false-clause-refusal
returns-in-Ok-false-clause-refusal g c = λ told counts.
    refused_end c.args.rows.now c.peek.new.rows c.end.result (c.in-Ok-false.ensures.took told) counts (c.in-Ok-false.ensures.end told c.in-Ok-false.field-0-test) c.end.ensures
