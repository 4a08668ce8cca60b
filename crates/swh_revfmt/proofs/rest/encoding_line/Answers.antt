use Rattle.std.proofs.Common.{arith, Contains}
use Rattle.std.proofs.lemmas.Bool.{eqb-true}
use Rattle.swh_revfmt.proofs.Rests.{long_encoding, nul_encoding}
use Rattle.swh_revfmt.proofs.rest.encoding_line.Goals as goal

pub returns-then-line-clause-none : goal.returns-then-line-clause-none
returns-then-line-clause-none c =
    let line = c.in-Some.ensures.some in
    long_encoding c.args.bytes.now c.in-Some.line.text.now c.in-Some.line.rest.now line.0 line.1 (omega arith)

pub returns-then-contains-clause-none : goal.returns-then-contains-clause-none
returns-then-contains-clause-none c =
    let line = c.in-Some.ensures.some in
    let nul : Contains c.in-Some.line.text.now 0 = let found = c.if-contains.ensures.cases in (found.0, found.1, eqb-true _ 0 (found.2 0)) in
    nul_encoding c.args.bytes.now c.in-Some.line.text.now c.in-Some.line.rest.now line.0 line.1 nul
