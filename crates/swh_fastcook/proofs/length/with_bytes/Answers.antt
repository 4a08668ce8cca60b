use Rattle.std.proofs.Common.{◌+◌, inl, refl}
use Rattle.swh_fastcook.proofs.length.with_bytes.Goals as goal

pub returns : goal.returns
returns c = c.plus-2.ensures (c.args.front + c.args.bytes) c.args.more (c.plus.ensures c.args.front c.args.bytes (inl refl) (inl refl)) (inl refl)
