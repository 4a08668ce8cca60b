use Rattle.std.proofs.Common.{List, ℕ, drop, subst}
use Rattle.std.proofs.lemmas.List.{take_rest}
use Rattle.swh_fastlines.proofs.ChangeLines.{IsPathOf, NoPath, pair_no_source, pair_no_long_source, pair_no_path, pair_passes_not}
use Rattle.swh_fastlines.proofs.change_lines.pair_word.Goals as goal

pub returns-in-No : goal.returns-in-No
returns-in-No c =
    let found = rw c.in-No.is at c.in_ok-source.ensures.word in (
      λ other h. pair_no_source c.args.text.now found other.source other.path h,
      pair_no_long_source c.args.text.now found,
    )

pub returns-in-Is-2 : goal.returns-in-Is-2
returns-in-Is-2 c =
    let text = c.args.text.now in
    let rest = drop c.in-Is.source.length text in
    let source = rw c.in-Is.is at c.in_ok-source.ensures.word in
    let found = rw c.in-Is-2.is at c.in_ok-path.ensures in
    let path = subst (λ (t : List ℕ). IsPathOf t c.in-Is-2.path) (take_rest text c.in-Is.source.length) found in
    ((rest, source.0, path.0), pair_passes_not text c.in-Is.source.path rest source path.1)

pub returns-in-No-2 : goal.returns-in-No-2
returns-in-No-2 c =
    let text = c.args.text.now in
    let rest = drop c.in-Is.source.length text in
    let source = rw c.in-Is.is at c.in_ok-source.ensures.word in
    let found = rw c.in-No-2.is at c.in_ok-path.ensures in
    let none = subst NoPath (take_rest text c.in-Is.source.length) found in (
      λ other h. pair_no_path text c.in-Is.source.path rest source none other.source other.path h,
      pair_passes_not text c.in-Is.source.path rest source none.1,
    )
