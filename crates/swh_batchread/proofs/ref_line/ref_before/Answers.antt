use Rattle.std.proofs.Common.{refl}
use Rattle.swh_base.proofs.Ids.{IsId-from_text}
use Rattle.swh_batchread.proofs.RefLines.{ref-no_space, ref-no_id, ref-no_name, whole_ref}
use Rattle.swh_batchread.proofs.ref_line.ref_before.Goals as goal

pub returns-in_default : goal.returns-in_default
returns-in_default c = ref-no_space c.args.line.now c.in_default.ensures.none

pub returns-in_default-from_hex : goal.returns-in_default-from_hex
returns-in_default-from_hex c =
    let hex = c.in-Some.ensures.some in
    ref-no_id c.args.line.now c.in-Some.hex.now c.in-Some.name.now hex.0 hex.1 (λ t. let yes = c.in_default-from_hex.ensures.found.1 t in cc)

pub returns-then-not-is_name : goal.returns-then-not-is_name
returns-then-not-is_name c =
    let hex = c.in-Some.ensures.some in
    ref-no_name c.args.line.now c.in-Some.hex.now c.in-Some.name.now hex.0 hex.1 (λ h. let yes = c.is_name.ensures.1 h in let no = c.if-not-is_name.true in cc)

pub returns : goal.returns
returns c =
    let hex = c.in-Some.ensures.some in
    let named = c.in-Some-from_hex.ensures.some in
    let name = c.is_name.ensures.0 c.if-not-is_name.false in
    (IsId-from_text c.in-Some.hex.now c.in-Some-from_hex.found.id (c.in-Some-from_hex.ensures.found.0 refl) named.1, name.0, name.1, whole_ref c.args.line.now c.in-Some.hex.now c.in-Some.name.now c.in-Some-from_hex.found.id hex.1 named.1)
