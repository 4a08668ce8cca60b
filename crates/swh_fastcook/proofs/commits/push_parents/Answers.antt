use Rattle.std.proofs.Common.{ℕ, List, sym, subst}
use Rattle.std.specs.Prelude.{Contains}
use Rattle.swh_postorder.proofs.Trips.{later_in}
use Rattle.swh_fastcook.proofs.commits.push_parents.Goals as goal

pub push_merges-requires : goal.push_merges-requires
push_merges-requires c = λ id there.
    c.requires id (subst (λ (ids : List (List ℕ)). Contains ids id) (sym c.in-Some.ensures.some) (later_in c.in-Some.first.now c.in-Some.further.now id there))
