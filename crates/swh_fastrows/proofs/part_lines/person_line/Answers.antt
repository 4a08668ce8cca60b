use Rattle.std.proofs.Common.{rules, ◌≡◌, sym, ◌∙◌, subst}
use Rattle.swh_base.specs.Text.{IsPerson}
use Rattle.swh_fastgrammar.proofs.Rows.{same_tail}
use Rattle.swh_fastrows.proofs.part_lines.person_line.Goals as goal

pub returns-else-is_person-clause-none : goal.returns-else-is_person-clause-none
returns-else-is_person-clause-none c = λ text x e h.
    let same : text ≡ c.in_ok-text.text.now = same_tail c.args.word.now text c.in_ok-text.text.now (sym e ∙ search rules) in
    let person : IsPerson c.in_ok-text.text.now = subst IsPerson (sym h.0 ∙ same) h.1 in
    let yes = c.is_person.ensures.1 person in
    let no = c.if-is_person.false in
    absurd cc
