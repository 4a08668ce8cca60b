-- The digits of the mode that most files have.
use Rattle.std.proofs.Common.{◌≡◌, refl, codes, decimal}
use Rattle.std.specs.Fmt.{digits}

pub plain_mode : decimal 100644 ≡ codes "100644"
unfolding digits
plain_mode = refl
