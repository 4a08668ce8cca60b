use Rattle.swh_rows.proofs.PlaceLemmas.{placed-none}
use Rattle.swh_rows.proofs.places.Places.new.Goals as goal

pub returns : goal.returns
returns c = placed-none _
