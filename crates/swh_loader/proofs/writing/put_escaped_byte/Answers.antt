use Rattle.std.proofs.Common.{◌≡◌, length, ap, ◌∙◌, arith}
use Rattle.swh_loader.proofs.Escapes.{three}
use Rattle.swh_loader.proofs.writing.put_escaped_byte.Goals as goal

pub put-requires : goal.put-requires
put-requires c =
    let long : length c.as_bytes.result.now ≡ 3 = ap length (c.as_bytes.ensures.value ∙ c.percent_encode_byte.ensures) ∙ three c.args.byte in
    let room = c.requires in
    omega (arith, room, long)

pub returns-then-is_escaped-clause-short : goal.returns-then-is_escaped-clause-short
returns-then-is_escaped-clause-short c =
    let long : length c.as_bytes.result.now ≡ 3 = ap length (c.as_bytes.ensures.value ∙ c.percent_encode_byte.ensures) ∙ three c.args.byte in
    let len = c.put.ensures.len in
    omega (arith, len, long)
