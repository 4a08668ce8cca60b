-- What contracts see of the yard over a run.
use Rattle.swh_dircook.specs.Made.{Yarded, yarded}
use Rattle.swh_exit.specs.Seen.{Span, YardFailed}

-- a yard over a run: whether it tells what is made in it, what it tells at the start and at the end, that it is as it was,
-- and that it failed
pub record Yards : Type 1 where
  pub tells : Type 0
  pub old : Yarded
  pub new : Yarded
  pub same : Type 0
  pub failed : Type 0

-- the yard of such parts
abbrev pub yards : Type 0 → Yarded → Yarded → Type 0 → Type 0 → Yards
yards tells old new same failed = record { tells = tells; old = old; new = new; same = same; failed = failed }

-- the yard of a run
abbrev pub yards_of : Span → Yards
yards_of s =
    yards s.told.yard (yarded s.old.yard.begun s.old.yard.taken) (yarded s.new.yard.begun s.new.yard.taken) s.same.yard (YardFailed s)
