-- Where an origin is: 1 to 2,048 bytes, none below a space and no DEL.
use Rattle.std.specs.Prelude.{ℕ, ◌≤◌, ◌==◌, Bool, ◌&&◌, not, nat_le, List, length}
use Rattle.std.specs.List.{AllPass}
use Rattle.swh_base.specs.Limits.{url_limit}

-- a byte that is not below a space and no DEL
abbrev pub is_url_byte : ℕ → Bool
is_url_byte c = nat_le 32 c && not (c == 127)

-- The text may name an origin: 1 to 2,048 such bytes.
pub record IsUrl (text : List ℕ) : Type 0 where
  pub some : 1 ≤ length text
  pub short : length text ≤ url_limit
  pub bytes : AllPass is_url_byte text
