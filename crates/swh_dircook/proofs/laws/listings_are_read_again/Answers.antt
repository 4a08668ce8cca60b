use Rattle.swh_dircook.proofs.Reread.{reread}
use Rattle.swh_dircook.proofs.laws.listings_are_read_again.Goals as goal

pub returns : goal.returns
returns c = reread
