-- Slots of digests, and the places that an object may have by its slot or by the maps.
use Rattle.std.proofs.Common.{◌≡◌, ◌⊎◌, inl, inr, ℕ, ◌<◌, ◌%◌, Contains, List, [], ◌∷◌, Option, Some, None, ap, ◌∙◌}
use Rattle.swh_dedup.specs.Seen.{led_and}
use Rattle.swh_dedup.proofs.Elements.{first_or_later, later_is}

pub and_cases : (o : Option ℕ) (xs : List ℕ) (k : ℕ) → Contains (led_and o xs) k → (o ≡ Some k) ⊎ Contains xs k
and_cases None xs k c = inr c
and_cases (Some place) xs k c = by_place (first_or_later place xs k c)
  where
    by_place : (place ≡ k) ⊎ Contains xs k → (Some place ≡ Some k) ⊎ Contains xs k
    by_place (inl e) = inl (ap Some e)
    by_place (inr d) = inr d

pub and_later : (o : Option ℕ) (xs : List ℕ) (k : ℕ) → Contains xs k → Contains (led_and o xs) k
and_later None xs k c = c
and_later (Some place) xs k c = later_is place xs k c
