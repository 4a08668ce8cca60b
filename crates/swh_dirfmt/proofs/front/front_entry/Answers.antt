use Rattle.std.proofs.Common.{rules, ◌<◌, length}
use Rattle.swh_base.specs.Directory.{IsEntryName}
use Rattle.swh_dirfmt.proofs.Fronts.{after_mode, after_name, whole_entry, not-BeginsMode-none, not-BeginsMode-other, not-BeginsName-none, not-BeginsName-other, not-BeginsEntry-short}
use Rattle.swh_dirfmt.proofs.front.front_entry.Goals as goal

pub returns-in_default-clause-err : goal.returns-in_default-clause-err
returns-in_default-clause-err c = λ _. (c.requires, not-BeginsMode-none c.args.bytes.now c.in_default.ensures.none)

pub returns-in_default-mode_of-clause-err : goal.returns-in_default-mode_of-clause-err
returns-in_default-mode_of-clause-err c =
    let cut = c.in-Some.ensures.some in
    λ _. (c.requires, not-BeginsMode-other c.args.bytes.now c.in-Some.digits.now c.in-Some.rest.now cut.0 cut.1 c.in_default-mode_of.ensures.none)

pub returns-in_default-split_at_byte-clause-err : goal.returns-in_default-split_at_byte-clause-err
returns-in_default-split_at_byte-clause-err c =
    let mode = c.in-Some-mode_of.ensures.some in
    let text = after_mode c.args.bytes.now c.in-Some.digits.now c.in-Some.rest.now c.in-Some-mode_of.mode c.in-Some.ensures.some.1 mode.1 in
    λ _. (
      record { mode = c.in-Some-mode_of.mode; rest = c.in-Some.rest.now; is_mode = mode.0; text = text },
      not-BeginsName-none c.args.bytes.now c.in-Some-mode_of.mode c.in-Some.rest.now mode.0 text c.in_default-split_at_byte.ensures.none,
    )

pub returns-then-not-is_name-clause-err : goal.returns-then-not-is_name-clause-err
returns-then-not-is_name-clause-err c =
    let mode = c.in-Some-mode_of.ensures.some in
    let text = after_mode c.args.bytes.now c.in-Some.digits.now c.in-Some.rest.now c.in-Some-mode_of.mode c.in-Some.ensures.some.1 mode.1 in
    let cut = c.in-Some-split_at_byte.ensures.some in
    let other : IsEntryName c.in-Some-split_at_byte.name.now → ⊥ = λ h. let t = c.if-not-is_name.ensures.1 h in let f = c.if-not-is_name.true in cc in
    λ _. (
      record { mode = c.in-Some-mode_of.mode; rest = c.in-Some.rest.now; is_mode = mode.0; text = text },
      not-BeginsName-other c.args.bytes.now c.in-Some-mode_of.mode c.in-Some.rest.now c.in-Some-split_at_byte.name.now c.in-Some-split_at_byte.rest.now mode.0 text cut.0 cut.1 other,
    )

pub returns-in_default-split_first_chunk-clause-err :
    goal.returns-in_default-split_first_chunk-clause-err
returns-in_default-split_first_chunk-clause-err c =
    let mode = c.in-Some-mode_of.ensures.some in
    let cut = c.in-Some-split_at_byte.ensures.some in
    let name : IsEntryName c.in-Some-split_at_byte.name.now = c.if-not-is_name.ensures.0 (search rules) in
    let short : length c.in-Some-split_at_byte.rest.now < 20 = c.in_default-split_first_chunk.ensures.cases in
    let text = after_name c.args.bytes.now c.in-Some.digits.now c.in-Some.rest.now c.in-Some-mode_of.mode c.in-Some-split_at_byte.name.now c.in-Some-split_at_byte.rest.now c.in-Some.ensures.some.1 mode.1 cut.1 in
    λ _. (
      record { mode = c.in-Some-mode_of.mode; name = c.in-Some-split_at_byte.name.now; rest = c.in-Some-split_at_byte.rest.now; is_mode = mode.0; is_name = name; text = text },
      not-BeginsEntry-short c.args.bytes.now c.in-Some-mode_of.mode c.in-Some-split_at_byte.name.now c.in-Some-split_at_byte.rest.now mode.0 name text short,
    )

pub returns-clause-ok : goal.returns-clause-ok
returns-clause-ok c =
    let mode = c.in-Some-mode_of.ensures.some in
    let cut = c.in-Some-split_at_byte.ensures.some in
    let name : IsEntryName c.in-Some-split_at_byte.name.now = c.if-not-is_name.ensures.0 (search rules) in
    let chunk = c.in-Some-split_first_chunk.ensures.cases in
    let text = after_name c.args.bytes.now c.in-Some.digits.now c.in-Some.rest.now c.in-Some-mode_of.mode c.in-Some-split_at_byte.name.now c.in-Some-split_at_byte.rest.now c.in-Some.ensures.some.1 mode.1 cut.1 in
    whole_entry c.args.bytes.now c.in-Some-mode_of.mode c.in-Some-split_at_byte.name.now c.in-Some-split_at_byte.rest.now c.in-Some-split_first_chunk.id.now c.in-Some-split_first_chunk.rest.now mode.0 name text chunk.0 chunk.1 (search rules)
