-- How the events of loads lie in a history, however many workers load: each is by a worker, and those by one are its jobs' own.
use Rattle.std.specs.Prelude.{◌≡◌, ℕ, ◌<◌, ◌≤◌, ◌==◌, List, [], ◌∷◌, ◌++◌, filter, flat_map}
use Rattle.std.specs.List.{AllByRecursion}
use Rattle.swh_model.specs.declared.event.Event.{Event}
use Rattle.swh_pool.specs.Stops.{HaveNoMemoryStop}
use Rattle.swh_program.specs.Lines.{LoadedJob, outcomes}

-- Workers have the numbers from 1 on.
abbrev pub IsWorker : ℕ → ℕ → Type 0
IsWorker workers by = (0 < by) × (by ≤ workers)

-- the events by one worker, in their order
abbrev pub by_one : ℕ → List Event → List Event
by_one by events = filter (λ e. e.by == by) events

-- the loads of one worker, in their order
abbrev pub loads_by : ℕ → List LoadedJob → List LoadedJob
loads_by by loads = filter (λ l. l.by == by) loads

-- the own events of the jobs that one worker loaded, one job after the other
abbrev pub own_of : ℕ → List LoadedJob → List Event
own_of by loads = flat_map (λ l. l.own) (loads_by by loads)

-- All of the first stand among the second, in their order.
abbrev pub AreInOrder : {X : Type 0} → List X → List X → Type 0
AreInOrder [] ys = Unit {0}
AreInOrder {X} (x ∷ xs) ys = (skipped : List X) × (rest : List X) × (ys ≡ skipped ++ x ∷ rest) × AreInOrder xs rest

-- Each load is by a worker, and so is each of these events. Those by one worker have its jobs' own among them, one job
-- after the other; and they are these alone, unless a load stopped for want of memory.
pub record AreShared (workers : ℕ) (loads : List LoadedJob) (events : List Event) : Type 0 where
  pub loaders : AllByRecursion (λ l. IsWorker workers l.by) loads
  pub by_workers : AllByRecursion (λ e. IsWorker workers e.by) events
  pub among : (by : ℕ) → AreInOrder (own_of by loads) (by_one by events)
  pub alone : HaveNoMemoryStop (outcomes loads) → (by : ℕ) → by_one by events ≡ own_of by loads
