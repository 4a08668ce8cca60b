-- Origins as the ledger has them.
use Rattle.std.specs.Prelude.{ℕ, List, IsUtf8}
use Rattle.swh_base.specs.Url.{IsUrl}

-- An origin's bytes are a URL, which is text.
pub record IsOrigin (origin : List ℕ) : Type 0 where
  pub url : IsUrl origin
  pub utf8 : IsUtf8 origin
