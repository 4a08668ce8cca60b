use Rattle.std.proofs.Common.{rules}
use Rattle.swh_graph.proofs.Nameds.{no_space_none, no_nul_none, short_none, takes_first, is_shorter}
use Rattle.swh_graph.proofs.named.first_entry.Goals as goal

pub returns-in_default-clause-none : goal.returns-in_default-clause-none
returns-in_default-clause-none c = no_space_none c.args.bytes.now c.in_default.ensures.none

pub returns-in_default-split_at_byte-clause-none : goal.returns-in_default-split_at_byte-clause-none
returns-in_default-split_at_byte-clause-none c =
    let cut = c.in-Some.ensures.some in
    no_nul_none c.args.bytes.now c.in-Some.digits.now c.in-Some.behind.now cut.0 cut.1 c.in_default-split_at_byte.ensures.none

pub returns-in_default-split_first_chunk-clause-none : goal.returns-in_default-split_first_chunk-clause-none
returns-in_default-split_first_chunk-clause-none c =
    let cut = c.in-Some.ensures.some in
    let part = c.in-Some-split_at_byte.ensures.some in
    short_none c.args.bytes.now c.in-Some.digits.now c.in-Some.behind.now c.in-Some-split_at_byte.name.now c.in-Some-split_at_byte.after.now cut.0 cut.1 part.0 part.1 c.in_default-split_first_chunk.ensures.cases

pub returns-clause-some : goal.returns-clause-some
returns-clause-some c =
    let cut = c.in-Some.ensures.some in
    let part = c.in-Some-split_at_byte.ensures.some in
    let chunk = c.in-Some-split_first_chunk.ensures.cases in
    takes_first c.args.bytes.now c.in-Some.digits.now c.in-Some.behind.now c.in-Some-split_at_byte.name.now c.in-Some-split_at_byte.after.now c.in-Some-split_first_chunk.id.now c.in-Some-split_first_chunk.rest.now
    c.mode_of-mode.result cut.0 cut.1 part.0 part.1 chunk.0 chunk.1 (search rules) c.mode_of-mode.ensures

pub returns-clause-shorter : goal.returns-clause-shorter
returns-clause-shorter c =
    let cut = c.in-Some.ensures.some in
    let part = c.in-Some-split_at_byte.ensures.some in
    is_shorter c.args.bytes.now c.in-Some.digits.now c.in-Some.behind.now c.in-Some-split_at_byte.name.now c.in-Some-split_at_byte.after.now c.in-Some-split_first_chunk.rest.now cut.1 part.1 c.in-Some-split_first_chunk.ensures.cases.1
