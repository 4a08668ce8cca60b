use Rattle.std.proofs.Common.{◌≡◌, ℕ, ◌<◌, Some, map, slice_get, get_or}
use Rattle.swh_model.specs.Meaning.{Made}
use Rattle.swh_dedup.specs.Seen.{kept_made}
use Rattle.swh_dedup.proofs.seen.place_among.Given as goal

abbrev pub invariant-loop-place : goal.invariant-loop-place
invariant-loop-place l =
    let m : Made = record { kind = l.kind; body = l.body } in
    (k : ℕ) → k < l.place-index → slice_get (map kept_made l.made) (get_or l.places k 0) ≡ Some m → ⊥
