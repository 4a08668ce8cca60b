-- How loads end once a disk has failed.
use Rattle.std.proofs.Common.{◌≡◌, ◌≢◌, inl, inr, ℕ, Bool, true, false, Option, Some, None, is_some, Result, Ok, Err, List, [], ◌∷◌, map, refl, sym, ap, ◌∙◌, subst}
use Rattle.swh_model.specs.declared.event.Event.{Event}
use Rattle.swh_keeper.specs.Kept.{Kept}
use Rattle.swh_loader.specs.declared.end.Loaded.{Loaded}
use Rattle.swh_ingest.specs.declared.end.LoadFault.{LoadFault}
use Rattle.swh_ingest.specs.declared.stop.Stop.{Stop}
use Rattle.swh_ingest.specs.declared.stop.Stop.TheVariants.{Ended, DiskFault, Wounded, Limit, Memory}
use Rattle.swh_keeperload.specs.Leaving.{StopsFor}
use Rattle.swh_keeperload.specs.Loading.{IsHeldBack}
use Rattle.swh_pool.specs.Loads.{OneLoad, Loading, IsLoadOutcome, IsOneLoad, AreLoads}
use Rattle.swh_pool.specs.Stops.{IsStoppedAtOnce, IsUnwounded, is_fault, is_disk_fault, AreStops, HaveNoDiskFault}

some_none : (n : ℕ) → Some n ≡ None → ⊥
some_none n e = let f : Some n ≡ None = e in cc

none_of : (w : Option ℕ) → is_some w ≡ false → w ≡ None
none_of None e = refl
none_of (Some n) e = let f : true ≡ false = e in absurd cc

-- a load that is held back is stopped at once, and changes nothing
held_back : {D : Type 0} (old new : Kept D) (outcome : Result Loaded LoadFault) → IsHeldBack old new outcome → (new ≡ old) × IsStoppedAtOnce outcome
held_back old new (Ok loaded) h = absurd h
held_back old new (Err fault) h = (h.1.same, (h.0, h.1.cause))

module _ {S F D : Type 0} (given : Loading S F D) where
  -- on a whole disk a load says itself whether one failed
  stopped_whole : (IsTried : Event → Type 0) (old new : Kept D) (why : Stop) → old.wounded ≡ None → StopsFor given.id given.disks.faults IsTried old new why → (why ≢ Wounded) × (is_some new.wounded ≡ is_fault why)
  stopped_whole IsTried old new (Ended status) whole stops = absurd stops
  stopped_whole IsTried old new DiskFault whole stops = (λ e. let f : DiskFault ≡ Wounded = e in cc, ap is_some stops.wounded)
  stopped_whole IsTried old new Wounded whole stops = absurd (some_none stops.first (sym stops.wounded ∙ whole))
  stopped_whole IsTried old new (Limit which number) whole stops = (λ e. let f : Limit which number ≡ Wounded = e in cc, ap is_some stops.unwounded)
  stopped_whole IsTried old new Memory whole stops = (λ e. let f : Memory ≡ Wounded = e in cc, ap is_some (stops ∙ whole))

  outcome_whole : (l : OneLoad S F) (old new : Kept D) (outcome : Result Loaded LoadFault) → old.wounded ≡ None → IsLoadOutcome given l old new outcome
      → IsUnwounded outcome × (is_some new.wounded ≡ is_disk_fault outcome)
  outcome_whole l old new (Ok loaded) whole ends = (tt, ap is_some ends.on.unwounded)
  outcome_whole l old new (Err fault) whole (inl at_once) = stopped_whole _ old new fault.why whole at_once.stops
  outcome_whole l old new (Err fault) whole (inr later) = stopped_whole _ old new fault.why whole later.stops

  load_whole : (l : OneLoad S F) (old new : Kept D) → old.wounded ≡ None → IsOneLoad given l old new → IsUnwounded l.outcome × (is_some new.wounded ≡ is_disk_fault l.outcome)
  load_whole l old new whole one = outcome_whole l old new l.outcome whole one.ends

  stops_next : (l : OneLoad S F) (old new : Kept D) (w : Option ℕ) (outcomes : List (Result Loaded LoadFault)) → old.wounded ≡ w → IsOneLoad given l old new
      → AreStops (is_some new.wounded) outcomes → AreStops (is_some w) (l.outcome ∷ outcomes)
  stops_next l old new None outcomes is one h = let whole = load_whole l old new is one in (whole.0, subst (λ (failed : Bool). AreStops failed outcomes) whole.1 h)
  stops_next l old new (Some n) outcomes is one h =
      let wounded = held_back old new l.outcome (one.wounded n is) in
      (wounded.1, subst (λ (failed : Bool). AreStops failed outcomes) (ap (λ (k : Kept D). is_some k.wounded) wounded.0 ∙ ap is_some is) h)

  -- once a disk has failed, each later load is stopped at once
  pub stops_of : (loads : List (OneLoad S F)) (old new : Kept D) → AreLoads given loads old new → AreStops (is_some old.wounded) (map (λ l. l.outcome) loads)
  stops_of [] old new h = tt
  stops_of (l ∷ loads) old new h = stops_next l old h.0 old.wounded (map (λ l. l.outcome) loads) refl h.1 (stops_of loads h.0 new h.2)

  whole_before : (l : OneLoad S F) (old new : Kept D) (w : Option ℕ) → old.wounded ≡ w → IsOneLoad given l old new → new.wounded ≡ None → (w ≡ None) × (is_disk_fault l.outcome ≡ false)
  whole_before l old new None is one whole = (refl, sym (load_whole l old new is one).1 ∙ ap is_some whole)
  whole_before l old new (Some n) is one whole = absurd (some_none n (sym is ∙ sym (ap (λ (k : Kept D). k.wounded) (held_back old new l.outcome (one.wounded n is)).0) ∙ whole))

  -- where no disk has failed afterwards, none had before, and no load says so
  pub whole_since : (loads : List (OneLoad S F)) (old new : Kept D) → AreLoads given loads old new → new.wounded ≡ None → (old.wounded ≡ None) × HaveNoDiskFault (map (λ l. l.outcome) loads)
  whole_since [] old new is whole = (ap (λ (k : Kept D). k.wounded) (sym is) ∙ whole, tt)
  whole_since (l ∷ loads) old new h whole =
      let later = whole_since loads h.0 new h.2 whole in
      let first = whole_before l old h.0 old.wounded refl h.1 later.0 in
      (first.0, (first.1, later.1))

  -- and the other way round
  pub whole_still : (loads : List (OneLoad S F)) (old new : Kept D) → AreLoads given loads old new → old.wounded ≡ None → HaveNoDiskFault (map (λ l. l.outcome) loads) → new.wounded ≡ None
  whole_still [] old new is whole none = ap (λ (k : Kept D). k.wounded) is ∙ whole
  whole_still (l ∷ loads) old new h whole none = whole_still loads h.0 new h.2 (none_of h.0.wounded ((load_whole l old h.0 whole h.1).1 ∙ none.0)) none.1
