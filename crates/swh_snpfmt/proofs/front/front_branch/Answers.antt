use Rattle.std.proofs.Common.{rules, sym, ◌∙◌}
use Rattle.std.proofs.lemmas.Bool.{eqb-true}
use Rattle.swh_snpfmt.proofs.Fronts.{nil, branch-no_space, branch-no_nul, branch-empty_name, branch-not_sized, branch-no_target, whole_branch}
use Rattle.swh_snpfmt.proofs.front.front_branch.Goals as goal

pub returns-in_default-clause-none : goal.returns-in_default-clause-none
returns-in_default-clause-none c = branch-no_space c.args.bytes.now c.in_default.ensures.none

pub returns-in_default-split_at_byte-clause-none : goal.returns-in_default-split_at_byte-clause-none
returns-in_default-split_at_byte-clause-none c =
    let word = c.in-Some.ensures.some in
    branch-no_nul c.args.bytes.now c.in-Some.word.now c.in-Some.rest.now word.0 word.1 c.in_default-split_at_byte.ensures.none

pub returns-then-is_empty-clause-none : goal.returns-then-is_empty-clause-none
returns-then-is_empty-clause-none c =
    let word = c.in-Some.ensures.some in
    let name = c.in-Some-split_at_byte.ensures.some in
    branch-empty_name c.args.bytes.now c.in-Some.word.now c.in-Some.rest.now c.in-Some-split_at_byte.name.now c.in-Some-split_at_byte.rest.now word.0 word.1 name.0 name.1 (nil (c.in-Some-split_at_byte.name.now) (eqb-true _ 0 (sym c.is_empty.ensures ∙ c.if-is_empty.true)))

pub returns-in_default-sized-clause-none : goal.returns-in_default-sized-clause-none
returns-in_default-sized-clause-none c =
    let word = c.in-Some.ensures.some in
    let name = c.in-Some-split_at_byte.ensures.some in
    branch-not_sized c.args.bytes.now c.in-Some.word.now c.in-Some.rest.now c.in-Some-split_at_byte.name.now c.in-Some-split_at_byte.rest.now word.0 word.1 name.0 name.1 c.in_default-sized.ensures.none

pub returns-in_default-target_from-clause-none : goal.returns-in_default-target_from-clause-none
returns-in_default-target_from-clause-none c =
    let word = c.in-Some.ensures.some in
    let name = c.in-Some-split_at_byte.ensures.some in
    branch-no_target c.args.bytes.now c.in-Some.word.now c.in-Some.rest.now c.in-Some-split_at_byte.name.now c.in-Some-split_at_byte.rest.now c.in-Some-sized.content.now c.in-Some-sized.rest.now word.0 word.1 name.0 name.1 c.in-Some-sized.ensures.some.1 c.in-Some-sized.ensures.some.0 c.in_default-target_from.ensures.none

pub returns-clause-some : goal.returns-clause-some
returns-clause-some c =
    let word = c.in-Some.ensures.some in
    let name = c.in-Some-split_at_byte.ensures.some in
    let target = c.in-Some-target_from.ensures.some in
    whole_branch c.args.bytes.now c.in-Some.word.now c.in-Some.rest.now c.in-Some-split_at_byte.name.now c.in-Some-split_at_byte.rest.now c.in-Some-sized.content.now c.in-Some-sized.rest.now _ word.1 name.0 name.1 (search rules) c.in-Some-sized.ensures.some.0 target.0 target.1 target.2
