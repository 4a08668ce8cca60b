use Rattle.std.proofs.Common.{refl}
use Rattle.swh_serve.proofs.laws.head_has_no_body.Goals as goal

pub returns : goal.returns
returns c = λ request reply keep same. rw same refl
