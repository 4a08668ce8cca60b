-- What reading takes of a source: all that is left, a front of it, or no more than shows that it is too long.
use Rattle.std.specs.Prelude.{◌≡◌, ◌<◌, ◌≤◌, ℕ, List, [], ◌++◌, length}

-- all that was left was taken
pub record IsAllThatWasLeft (left now bytes : List ℕ) : Type 0 where
  pub bytes_are : bytes ≡ left
  pub at_end : now ≡ []

-- the bytes that were left begin with these, which are all of them where they are not more than the limit
pub record IsFront (left now : List ℕ) (limit : ℕ) (bytes : List ℕ) : Type 0 where
  pub cut : left ≡ bytes ++ now
  pub whole : length bytes ≤ limit → now ≡ []

-- The bytes taken were the first that were left, more than the limit and no more than this many.
pub record IsCutAbove (left now : List ℕ) (limit most : ℕ) : Type 0 where
  pub taken : List ℕ
  pub cut : left ≡ taken ++ now
  pub above : limit < length taken
  pub within : length taken ≤ most

-- The source gave no more than this many bytes after those that it had given.
pub record GivesAtMost (given now : List ℕ) (most : ℕ) : Type 0 where
  pub piece : List ℕ
  pub more : now ≡ given ++ piece
  pub within : length piece ≤ most

-- The first bytes that were left were given and stand after those taken before; there are none only at the end.
pub record TakesMore (left now given given_now bytes more : List ℕ) (n : ℕ) : Type 0 where
  pub piece : List ℕ
  pub count : length piece ≡ n
  pub cut : left ≡ piece ++ now
  pub gave : given_now ≡ given ++ piece
  pub taken : more ≡ bytes ++ piece
  pub some : 0 < length left → 0 < n
