use Rattle.std.proofs.Common.{refl}
use Rattle.swh_base.proofs.Ids.{IsId-from_text}
use Rattle.swh_batchread.proofs.Headers.{line-no_space, line-no_id, line-no_word, line-no_kind, line-no_size, whole_line}
use Rattle.swh_batchread.proofs.header.header_of.Goals as goal

pub returns-in_default-clause-none : goal.returns-in_default-clause-none
returns-in_default-clause-none c = line-no_space c.args.line.now c.in_default.ensures.none

pub returns-in_default-from_hex-clause-none : goal.returns-in_default-from_hex-clause-none
returns-in_default-from_hex-clause-none c =
    let hex = c.in-Some.ensures.some in
    line-no_id c.args.line.now c.in-Some.hex.now c.in-Some.rest.now hex.0 hex.1 (λ t. let yes = c.in_default-from_hex.ensures.found.1 t in cc)

pub returns-in_default-split_at_byte-clause-none : goal.returns-in_default-split_at_byte-clause-none
returns-in_default-split_at_byte-clause-none c =
    let hex = c.in-Some.ensures.some in
    line-no_word c.args.line.now c.in-Some.hex.now c.in-Some.rest.now hex.0 hex.1 c.in_default-split_at_byte.ensures.none

pub returns-in_default-kind_of-clause-none : goal.returns-in_default-kind_of-clause-none
returns-in_default-kind_of-clause-none c =
    let hex = c.in-Some.ensures.some in
    let word = c.in-Some-split_at_byte.ensures.some in
    line-no_kind c.args.line.now c.in-Some.hex.now c.in-Some.rest.now c.in-Some-split_at_byte.word.now c.in-Some-split_at_byte.digits.now hex.0 hex.1 word.0 word.1 c.in_default-kind_of.ensures.none

pub returns-in_default-size_of-clause-none : goal.returns-in_default-size_of-clause-none
returns-in_default-size_of-clause-none c =
    let hex = c.in-Some.ensures.some in
    let word = c.in-Some-split_at_byte.ensures.some in
    line-no_size c.args.line.now c.in-Some.hex.now c.in-Some.rest.now c.in-Some-split_at_byte.word.now c.in-Some-split_at_byte.digits.now hex.0 hex.1 word.0 word.1 c.in_default-size_of.ensures.none

pub returns-clause-some : goal.returns-clause-some
returns-clause-some c =
    let hex = c.in-Some.ensures.some in
    let named = c.in-Some-from_hex.ensures.some in
    let word = c.in-Some-split_at_byte.ensures.some in
    let kind = c.in-Some-kind_of.ensures.some in
    let size = c.in-Some-size_of.ensures in (
      record {
        id = IsId-from_text c.in-Some.hex.now c.in-Some-from_hex.name.id (c.in-Some-from_hex.ensures.found.0 refl) named.1;
        kind = kind.1;
        size = size.small;
      },
      whole_line c.args.line.now c.in-Some.hex.now c.in-Some.rest.now c.in-Some-split_at_byte.word.now c.in-Some-split_at_byte.digits.now c.in-Some-from_hex.name.id c.in-Some-kind_of.kind c.in-Some-size_of.size hex.1 named.1 word.1 kind.0 size.some,
    )
