use Rattle.std.proofs.Common.{rules, List, ℕ, ◌≡◌, sym, ◌∙◌, subst}
use Rattle.swh_fastgrammar.specs.Word.{NamesCommit}
use Rattle.swh_fastlines.proofs.LongRefs.{long_names_none}
use Rattle.swh_fastgrammar.proofs.Rows.{same_tail}
use Rattle.swh_fastrows.proofs.part_lines.commit_line.Goals as goal

pub returns-in-Over-clause-none : goal.returns-in-Over-clause-none
returns-in-Over-clause-none c = λ text x e h.
    let same : text ≡ c.in-Some.text.now = same_tail c.args.word.now text c.in-Some.text.now (sym e ∙ search rules) in
    let over = rw c.in-Over.is at c.in_ok-commit.ensures in
    long_names_none c.in-Some.text.now c.in-Over.field-0 x over (subst (λ (t : List ℕ). NamesCommit t x) same h)

pub returns-in-No-clause-none : goal.returns-in-No-clause-none
returns-in-No-clause-none c = λ text x e h.
    let same : text ≡ c.in-Some.text.now = same_tail c.args.word.now text c.in-Some.text.now (sym e ∙ search rules) in
    let none = rw c.in-No.is at c.in_ok-commit.ensures in
    none.0 x (subst (λ (t : List ℕ). NamesCommit t x) same h)
