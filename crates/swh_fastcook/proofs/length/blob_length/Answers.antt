use Rattle.std.proofs.Common.{ℕ, subst}
use Rattle.swh_pathsums.specs.Lengths.{IsUpTo}
use Rattle.swh_fastcook.proofs.Lengths.{blob_count}
use Rattle.swh_fastcook.proofs.length.blob_length.Goals as goal

pub returns : goal.returns
returns c = subst (λ (n : ℕ). IsUpTo n c.with_bytes.result) (blob_count c.args.mark c.args.body.now c.in_ok-front.front c.in_ok-front.ensures) c.with_bytes.ensures
