use Rattle.swh_fastload.proofs.InputLaws.{unbroken}
use Rattle.swh_fastload.proofs.laws.never_both.Goals as goal

pub returns : goal.returns
returns c id head text m bad h b = unbroken id head text m bad h b
