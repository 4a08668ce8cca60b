use Rattle.std.proofs.Common.{rules, ◌+◌, arith}
use Rattle.swh_recovery.specs.Fields.{FieldsBreak}
use Rattle.swh_format.specs.Kinds.{payload_fields}
use Rattle.swh_recovery.specs.LedgerHarm.{IsFrame}
use Rattle.swh_recovery.proofs.FrameLemmas.{exits, frame_fits, fields_then}
use Rattle.swh_recovery.proofs.frame.take_record.Goals as goal

pub overflow_add-at : goal.overflow_add-at
overflow_add-at c =
    let frame : IsFrame c.args.bytes.now c.in_ok-parts.parts = search rules in
    omega (arith, frame_fits c.args.bytes.now c.in_ok-parts.parts c.args.at frame c.requires)

pub check_payload-requires : goal.check_payload-requires
check_payload-requires c =
    let frame : IsFrame c.args.bytes.now c.in_ok-parts.parts = search rules in
    frame_fits c.args.bytes.now c.in_ok-parts.parts c.args.at frame c.requires

pub returns-in_err-check_payload-clause-err : goal.returns-in_err-check_payload-clause-err
returns-in_err-check_payload-clause-err c =
    let frame : IsFrame c.args.bytes.now c.in_ok-parts.parts = search rules in
    let x = c.in_err-check_payload.field-0.0 in
    let breaks : FieldsBreak (payload_fields c.in_ok-parts.parts.kind) c.in_ok-parts.parts.payload.now (c.args.at + 5) x = search rules in
    exits _ _ x c.from_residual-in_err-check_payload.ensures.1 (fields_then _ c.in_ok-parts.parts c.args.at x frame breaks)
