-- The numbers of the spots that stand in one folder.
use Rattle.std.specs.Prelude.{◌≡◌, ◌-◌, ◌==◌, ◌⊎◌, ℕ, zero, suc, Bool, true, false, List, [], ◌∷◌, length}
use Rattle.swh_dirmade.specs.declared.member.Member.{Member}
use Rattle.swh_dirmade.specs.declared.member.Member.TheVariants as stands
use Rattle.swh_dirmade.specs.declared.spot.Spot.{Spot}
use Rattle.swh_dirmade.specs.Spots.{above_at, place_at}

-- the number and those behind it, where it is one of them
abbrev pub with_number : Bool → ℕ → List ℕ → List ℕ
with_number true number behind = number ∷ behind
with_number false number behind = behind

-- of so many numbers from one on those of the spots in the folder of a number
abbrev pub numbers_in : List Spot → ℕ → ℕ → ℕ → List ℕ
numbers_in spots folder from zero = []
numbers_in spots folder from (suc more) = with_number (above_at spots from == folder) from (numbers_in spots folder (suc from) more)

-- those from a number on
abbrev pub numbers_from : List Spot → ℕ → ℕ → List ℕ
numbers_from spots folder from = numbers_in spots folder from (length spots - from)

-- A folder has this number: the first one is the folder itself.
abbrev pub IsFolderAt : List Member → ℕ → Type 0
IsFolderAt standing number = (number ≡ 0) ⊎ (place_at standing number ≡ stands.Folder)
