-- Where the body of a name stands among the runs of a history.
use Rattle.std.specs.Prelude.{◌≡◌, ◌≢◌, ℕ, ◌+◌, ◌<◌, List, length, take, get_or}
use Rattle.std.specs.List.{AllByRecursion}
use Rattle.swh_base.specs.declared.name.Name.{Name}
use Rattle.swh_base.specs.declared.entry.Entry.{Entry}
use Rattle.swh_model.specs.declared.event.Event.{Event}
use Rattle.swh_model.specs.Entries.{entries_of}
use Rattle.swh_model.specs.Limits.{run_length, store_length}
use Rattle.swh_keeper.specs.declared.finding.Extent.{Extent}

-- The place is that of the body of an object with this name in the run of these, which begins at a place.
pub record IsPlaceIn (start : ℕ) (entries : List Entry) (n : Name) (p : Extent) : Type 0 where
  pub number : ℕ
  pub entry : Entry
  pub within : number < length entries
  pub is : entry ≡ get_or entries number entry
  pub name : entry.name ≡ n
  pub at : p.at ≡ start + run_length (take number entries) + (9 + length entry.name.id)
  pub size : p.size ≡ length entry.body

-- The same of the runs of a history.
pub record IsPlaceOf (h : List Event) (n : Name) (p : Extent) : Type 0 where
  pub number : ℕ
  pub event : Event
  pub within : number < length h
  pub is : event ≡ get_or h number event
  pub place : IsPlaceIn (store_length (take number h)) (entries_of event.what) n p

-- No object has the name.
abbrev pub IsUnnamed : Name → List Entry → Type 0
IsUnnamed n entries = AllByRecursion (λ e. e.name ≢ n) entries

-- No object of a history has the name.
abbrev pub AreUnnamed : Name → List Event → Type 0
AreUnnamed n h = AllByRecursion (λ e. IsUnnamed n (entries_of e.what)) h
