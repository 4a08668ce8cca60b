-- How long directories are, by the table of what stands in their folders.
use Rattle.std.specs.Prelude.{◌≡◌, ◌<◌, ◌≤◌, ℕ, List, length, slice_index_or}
use Rattle.std.specs.List.{sum_by}
use Rattle.swh_base.specs.Limits.{body_limit}
use Rattle.swh_dirmade.specs.declared.member.Member.{Member}
use Rattle.swh_dirmade.specs.declared.spot.Spot.{Spot}
use Rattle.swh_dirmade.specs.Spots.{name_at, place_at}
use Rattle.swh_dirmade.specs.Directories.{entry_size}
use Rattle.swh_dirmade.specs.Numbers.{numbers_from, IsFolderAt}

-- the size of the entry of a spot
abbrev pub size_at : List Spot → List Member → ℕ → ℕ
size_at spots standing number = entry_size (name_at spots number) (place_at standing number)

-- how long the entries in a folder are, of the spots from a number on
abbrev pub size_from : List Spot → List Member → ℕ → ℕ → ℕ
size_from spots standing folder from = sum_by (size_at spots standing) (numbers_from spots folder from)

-- how long the directory of a folder is
abbrev pub size_of : List Spot → List Member → ℕ → ℕ
size_of spots standing folder = size_from spots standing folder 1

-- These are the sizes of the entries in each folder, of the spots from a number on.
pub record AreSizes (spots : List Spot) (standing : List Member) (from : ℕ) (sizes : List ℕ) : Type 0 where
  pub count : length sizes ≡ length spots
  pub each : (folder : ℕ) → folder < length spots → slice_index_or sizes folder 0 ≡ size_from spots standing folder from

-- No directory of these folders is longer than a body may be.
abbrev pub AreShortBelow : List Spot → List Member → ℕ → Type 0
AreShortBelow spots standing count = (number : ℕ) → number < count → IsFolderAt standing number → size_of spots standing number ≤ body_limit

-- No directory is longer than a body may be.
abbrev pub AreShort : List Spot → List Member → Type 0
AreShort spots standing = AreShortBelow spots standing (length spots)

-- The first of the table that is too long has this size.
pub record IsFirstLong (spots : List Spot) (standing : List Member) (size : ℕ) : Type 0 where
  pub number : ℕ
  pub within : number < length spots
  pub folder : IsFolderAt standing number
  pub is : size ≡ size_of spots standing number
  pub long : body_limit < size
  pub before : AreShortBelow spots standing number
