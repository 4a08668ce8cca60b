use Rattle.std.proofs.Common.{◌≡◌, length, ap, ◌∙◌, arith}
use Rattle.swh_format.specs.EventRecord.{payload_of}
use Rattle.swh_format.proofs.KindLaws.{payload-short}
use Rattle.swh_format.proofs.told.record_of_event.Goals as goal

pub framed_record-requires : goal.framed_record-requires
framed_record-requires c =
    let short = payload-short c.args.at c.args.event.now c.requires.codable in
    let size : length c.deref.result.now ≡ length (payload_of c.args.at c.args.event.now) = ap length (c.deref.ensures.value ∙ c.in_ok-payload.ensures) in
    omega (arith, short, size)
