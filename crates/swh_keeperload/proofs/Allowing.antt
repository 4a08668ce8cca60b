-- What a load leaves is left also where more batches are allowed.
use Rattle.std.proofs.Common.{ℕ, inl, inr, true, List, [], ◌∷◌, ◌++◌}
use Rattle.swh_base.specs.declared.kind.Kind.{Kind}
use Rattle.swh_base.specs.declared.entry.Entry.{Entry}
use Rattle.swh_base.proofs.Elementary.{all_as}
use Rattle.swh_outside.specs.Views.{Disks}
use Rattle.swh_model.specs.declared.event.Event.{Event}
use Rattle.swh_model.specs.declared.event.EventKind.{EventKind}
use Rattle.swh_model.specs.declared.event.EventKind.TheVariants.{Batch, Open, Mark}
use Rattle.swh_keeper.specs.Kept.{Kept}
use Rattle.swh_ingest.specs.declared.end.LoadFault.{LoadFault}
use Rattle.swh_ingest.specs.declared.stop.Stop.{Stop}
use Rattle.swh_ingest.specs.declared.stop.Stop.TheVariants as why
use Rattle.swh_ingest.specs.Loading.{IsOwn}
use Rattle.swh_ingest.specs.Owning.{Attempt}
use Rattle.swh_ingest.specs.Visiting.{next_visit}
use Rattle.swh_keeperload.specs.Leaving.{StopsFor}
use Rattle.swh_keeperload.specs.Loading.{IsOwnEvent, AreOfVisit, AddsVisit, MakesVisitCalls, Stops}
use Rattle.swh_keeperload.proofs.Calls.{of_as}

module _ (P Q : List Entry → Type 0) (t : Attempt) (more : (entries : List Entry) → P entries → Q entries) where
  own_kind : (number : ℕ) (what : EventKind) → IsOwn true P t number what → IsOwn true Q t number what
  own_kind number (Batch entries) is = (is.0, more entries is.1)
  own_kind number (Mark origin visit status snapshot) is = is
  own_kind number (Open origin kind date) is = absurd is

  own_event : (number : ℕ) (e : Event) → IsOwnEvent P t number e → IsOwnEvent Q t number e
  own_event number e is = record { by_one = is.by_one; added = own_kind number e.what is.added }

  of_visit : (number : ℕ) (es : List Event) → AreOfVisit P t number es → AreOfVisit Q t number es
  of_visit number [] are = tt
  of_visit number (e ∷ es) are = (are.0, all_as (IsOwnEvent P t number) (IsOwnEvent Q t number) (own_event number) es are.1)

  pub adds_visit : (h h' : List Event) → AddsVisit P t h h' → AddsVisit Q t h h'
  adds_visit h h' adds = record { more = adds.more; behind = adds.behind; are = of_visit (next_visit h t.origin) adds.more adds.are }

  module _ {D : Type 0} (id : Kind → List ℕ → List ℕ) (disks : Disks D) (old new : Kept D) where
    pub visit_calls : MakesVisitCalls id disks P t old new → MakesVisitCalls id disks Q t old new
    visit_calls calls events behind =
        of_as id disks.file (λ next. AreOfVisit P t (next_visit old.history t.origin) (events ++ next ∷ [])) (λ next. AreOfVisit Q t (next_visit old.history t.origin) (events ++ next ∷ [])) events old new
        (λ e. of_visit (next_visit old.history t.origin) (events ++ e ∷ [])) (calls events behind)

    stops_for : (number : ℕ) (stop : Stop) → StopsFor id disks.faults (IsOwnEvent P t number) old new stop → StopsFor id disks.faults (IsOwnEvent Q t number) old new stop
    stops_for number (why.Ended status) s = s
    stops_for number why.DiskFault s = record { before_it = s.before_it; wounded = s.wounded; rose = s.rose }
    stops_for number why.Wounded s = record { first = s.first; wounded = s.wounded; same = s.same }
    stops_for number (why.Limit which size) s = record { before_it = s.before_it; unwounded = s.unwounded; event = s.event; tried = own_event number s.event s.tried; may = s.may; passes = s.passes }
    stops_for number why.Memory s = s

    pub stops_as : (fault : LoadFault) → Stops id disks P t old new fault → Stops id disks Q t old new fault
    stops_as fault (inl once) = inl once
    stops_as fault (inr later) = inr (record { visit = later.visit; more = later.more; opened = later.opened; unended = later.unended; stops = stops_for fault.visit fault.why later.stops })
