-- A stream that is made of a seed: the numbers that are drawn, and the commits that they fill (git-fast-import(1),
-- commit). A linear congruential generator over 64 bits, of whose states the upper 32 bits are drawn.
use Rattle.std.specs.Prelude.{ℕ, zero, suc, ◌+◌, ◌*◌, ◌/◌, ◌%◌, ◌^◌, List, [], ◌++◌, length, codes, decimal}

unfoldable pub state_after : ℕ → ℕ
state_after x = (6364136223846793005 * x + 1442695040888963407) % 2 ^ 64

abbrev pub drawn : ℕ → ℕ
drawn x = x / 2 ^ 32

-- a number as a file's contents, with their length before them, and the LF that ends the data
unfoldable pub data_text : ℕ → List ℕ
data_text number =
    decimal (length (decimal number) + 1) ++ codes "\n" ++ decimal number ++ codes "\n\n"

-- The commit of this place sets the file `f<file>` to a number and an LF.
unfoldable pub commit_text : ℕ → ℕ → ℕ → List ℕ
commit_text place file number =
    codes "commit refs/heads/main\ncommitter G <g@e.org> " ++ decimal (1000000000 + place)
    ++ codes " +0000\ndata 0\nM 644 inline f" ++ decimal file
    ++ codes "\ndata " ++ data_text number

-- the commit of this place, drawn after a state
abbrev pub drawn_commit : ℕ → ℕ → List ℕ
drawn_commit place x =
    commit_text place (drawn (state_after x) % 16) (drawn (state_after (state_after x)))

-- so many commits from a place and a state on
unfoldable pub commits_from : ℕ → ℕ → ℕ → List ℕ
commits_from zero place x = []
commits_from (suc n) place x =
    drawn_commit place x ++ commits_from n (place + 1) (state_after (state_after x))

-- the stream of the job `i` of a seed
abbrev pub job_text : ℕ → ℕ → ℕ → List ℕ
job_text seed i size = commits_from size 0 ((seed + i) % 2 ^ 64)
