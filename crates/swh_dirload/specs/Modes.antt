-- The source of a listing that may lack, as a call takes it and as it leaves it.
use Rattle.std.proofs.Common.{inl, inr}
use Rattle.std.specs.Prelude.{◌≡◌, ◌≤◌, ◌⊎◌, ℕ, List, [], Option, Some, None}
use Rattle.std.specs.Borrow.{MutBor}
use Rattle.swh_outside.specs.Faults.{Rose}

-- what is left behind an `Option<&mut S>` at the return
abbrev pub Left : Type 0 → Type 0
Left S = Unit {0} ⊎ ((MutBor S × Unit {0}) ⊎ ⊥)

module _ {S : Type 0} where
  -- The source tells what it has, if it is there.
  abbrev pub Tells : Type 0 → Option (MutBor S) → Type 0
  Tells tells (Some source) = tells
  Tells tells None = Unit {0}

  -- the text of the listing: one that is not there has no lines
  abbrev pub text_of : (S → List ℕ) → Option (MutBor S) → List ℕ
  text_of left (Some source) = left source.now
  text_of left None = []

  module _ (path : S → List ℕ) (faults : S → ℕ) where
    -- The source has its path still, and its count of faults did not fall.
    abbrev pub IsLeft : Option (MutBor S) → Left S → Type 0
    IsLeft (Some source) (inr (inl left)) = (path left.0.now ≡ path source.now) × (faults source.now ≤ faults left.0.now)
    IsLeft (Some source) _ = ⊥
    IsLeft None _ = Unit {0}

  module _ (faults : S → ℕ) where
    -- The count of faults of the source is as it was.
    abbrev pub IsQuietIn : Option (MutBor S) → Left S → Type 0
    IsQuietIn (Some source) (inr (inl left)) = faults left.0.now ≡ faults source.now
    IsQuietIn (Some source) _ = ⊥
    IsQuietIn None _ = Unit {0}

    -- The count of faults of the source rose.
    abbrev pub RoseIn : Option (MutBor S) → Left S → Type 0
    RoseIn (Some source) (inr (inl left)) = Rose (faults source.now) (faults left.0.now)
    RoseIn (Some source) _ = ⊥
    RoseIn None _ = ⊥
