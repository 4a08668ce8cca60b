-- The visits in memory as the finite map of the archive, and what stands against a status.
use Rattle.std.specs.Prelude.{◌≡◌, ◌≢◌, ◌⊎◌, ℕ, ◌<◌, List, [], length, map}
use Rattle.std.specs.Borrow.{Bor}
use Rattle.std.specs.Coded.{Coded, coded_ℕ, coded_list}
use Rattle.std.specs.FinMap as finite
use Rattle.std.specs.Global.{Vec}
use Rattle.swh_base.specs.Visit.{IsFinal, last_status}
use Rattle.swh_model.specs.contracts.event.Visit as a_visit
use Rattle.swh_model.specs.declared.event.Visit.{Visit}
use Rattle.swh_model.specs.Archive.{Origins}
pub use Rattle.swh_model.specs.Judged.{IsAt, MayBeMarked}
use Rattle.swh_visits.specs.declared.fault.VisitFault.{VisitFault}
use Rattle.swh_visits.specs.declared.fault.VisitFault.TheVariants.{NoVisit, NotYours, Ended, Memory}

-- how maps of visits are told apart
abbrev pub origins_code : Coded Origins
origins_code = finite.code (coded_list coded_ℕ) (coded_list a_visit.the_row.coded)

-- an origin's bytes and its visits
abbrev pub with_visits : Vec ℕ × Vec Visit → List ℕ × List Visit
with_visits p = (p.0.items, p.1.items)

-- the map of the visits in memory
abbrev pub origins_of : List (Vec ℕ × Vec Visit) → Origins
origins_of es = finite.from_entries (map with_visits es)

-- What is given are these visits, one or more.
pub record IsAll (visits : List Visit) (given : Bor (List Visit)) : Type 0 where
  pub same : given.now ≡ visits
  pub some : visits ≢ []

-- What stands against a status: the first of what is looked for.
abbrev pub IsRefusal : List Visit → ℕ → ℕ → VisitFault → Type 0
-- the number is not among the origin's
IsRefusal visits by number (NoVisit have) = (have ≡ length visits) × ((number ≡ 0) ⊎ (have < number))
-- the visit is there, and another opened it
IsRefusal visits by number (NotYours other) = (v : Visit) × IsAt visits number v × (other ≡ v.by) × (v.by ≢ by)
-- the worker `by` opened it, and its last status is an end
IsRefusal visits by number (Ended last) = (v : Visit) × IsAt visits number v × (v.by ≡ by) × (last ≡ last_status v.statuses) × IsFinal last
IsRefusal visits by number Memory = ⊥

-- Why there is no status: what stands against one, or where nothing does, want of memory.
abbrev pub IsVisitFault : List Visit → ℕ → ℕ → VisitFault → Type 0
IsVisitFault visits by number Memory = MayBeMarked visits by number
IsVisitFault visits by number fault = IsRefusal visits by number fault
