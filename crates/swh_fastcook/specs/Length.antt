-- That a stream has a text, and how long that may be.
use Rattle.std.specs.Prelude.{ℕ, ◌<◌, ◌^◌, List, length}
use Rattle.swh_base.specs.declared.name.Name.{Name}
use Rattle.swh_model.specs.Archive.{Bodies}
use Rattle.swh_fastcook.specs.Stream.{IsStreamText}

-- The stream of all in the order has more than 2 to the 32nd bytes.
pub record IsLongStream (bodies : Bodies) (order : List Name) (root : Name) : Type 0 where
  pub text : List ℕ
  pub is : IsStreamText bodies order root text
  pub long : 2 ^ 32 < length text

-- The stream of all in the order has a text.
pub record HasText (bodies : Bodies) (order : List Name) (root : Name) : Type 0 where
  pub text : List ℕ
  pub is : IsStreamText bodies order root text
