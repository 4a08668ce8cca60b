use Rattle.std.proofs.Common.{List, ℕ, ap}
use Rattle.std.specs.Map.{lookup}
use Rattle.swh_base.specs.Name.{name_key}
use Rattle.swh_store.proofs.IndexLemmas.{at}
use Rattle.swh_store.proofs.PlaceLemmas.{placed-none}
use Rattle.swh_store.proofs.places.Places.new.Goals as goal

pub returns : goal.returns
returns c = placed-none _ (λ n. ap (λ (es : List (List ℕ × ℕ)). lookup (at (name_key n)) es) c.new-2.ensures.empty)
