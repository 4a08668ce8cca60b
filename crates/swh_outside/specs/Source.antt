-- What a source gives.
use Rattle.std.specs.Prelude.{◌≡◌, ◌<◌, ◌≤◌, ◌==◌, ◌||◌, ◌++◌, ℕ, Bool, false, List, [], length, take, drop, Result, IfOk, OnErr}

-- the first n bytes that were left stand in out, and none only at the end
pub record IsGot (left : List ℕ) (n : ℕ) (out now : List ℕ) : Type 0 where
  pub bytes : take n out ≡ take n left
  pub within : n ≤ length left
  pub now_left : now ≡ drop n left
  pub some : 0 < length left → 0 < n

-- the first few bytes are gone
pub record LosesSome (left now : List ℕ) : Type 0 where
  pub count : ℕ
  pub is : now ≡ drop count left

-- what was given before and whether the end was met before, with the bytes of one more call
pub record IsHeard {E : Type 0} (given : List ℕ) (ended : Bool) (out given_now : List ℕ) (ended_now : Bool) (result : Result ℕ E) : Type 0 where
  pub more : IfOk result (λ n. given_now ≡ given ++ take n out)
  pub end : IfOk result (λ n. ended_now ≡ (ended || (n == 0)))
  pub none : OnErr result (given_now ≡ given)
  pub same_end : OnErr result (ended_now ≡ ended)

-- what is left of a source, what it gave, and whether its end was met
pub record Heard : Type 0 where
  pub left : List ℕ
  pub given : List ℕ
  pub ended : Bool

-- what is heard of what is no source
abbrev pub nothing_heard : Heard
nothing_heard = record { left = []; given = []; ended = false }
