-- What a load of an input leaves of which one part is all.
use Rattle.std.proofs.Common.{◌≡◌, ◌⊎◌, inl, inr, ℕ, Some, None, Option, Result, Ok, Err, List, sym, ap, subst}
use Rattle.std.specs.Prelude.{IfOk, IfErr, IfSome}
use Rattle.std.specs.List.{AllByRecursion}
use Rattle.swh_base.specs.declared.kind.Kind.{Kind}
use Rattle.swh_base.specs.declared.entry.Entry.{Entry}
use Rattle.swh_base.specs.declared.memory.Memory.{Memory}
use Rattle.swh_outside.specs.Views.{Disks}
use Rattle.swh_model.specs.Archive.{Bodies}
use Rattle.swh_dedup.specs.declared.objects.Objects.{Objects}
use Rattle.swh_dedup.specs.Whole.{HasAllThatIsReached}
use Rattle.swh_fastload.specs.Loaded.{making_of}
use Rattle.swh_keeper.specs.Kept.{Kept}
use Rattle.swh_ingest.specs.declared.end.End as walk
use Rattle.swh_ingest.specs.declared.end.End.TheVariants.{Full, NotFound, Unread, Bad, Met}
use Rattle.swh_ingest.specs.declared.end.Loaded.{Loaded}
use Rattle.swh_ingest.specs.declared.end.LoadFault.{LoadFault}
use Rattle.swh_ingest.specs.declared.input.Opening.{Opening}
use Rattle.swh_ingest.specs.declared.input.Opening.TheVariants as opening
use Rattle.swh_ingest.specs.declared.parts.Next.{Next}
use Rattle.swh_ingest.specs.declared.parts.Next.TheVariants as next
use Rattle.swh_ingest.specs.Loading.{StopsFailing, statuses_of}
use Rattle.swh_ingest.specs.Owning.{Attempt, AreAmong}
use Rattle.swh_ingest.specs.Parts as walking
use Rattle.swh_ingest.specs.Sending.{AllHeld, IsMet}
use Rattle.swh_ingest.proofs.Closes.{whole_good}
use Rattle.swh_ingest.proofs.Wholes.{all_at_once, broke_at_once, given_at_once, none_at_once, read_at_once}
use Rattle.swh_keeperload.specs.Alone.{alone_protocol}
use Rattle.swh_keeperload.specs.Loading.{AddsVisit, EndsVisit, IsHeldBack, MakesVisitCalls, NoCountFell, Stops}
use Rattle.swh_inputs.specs.Input.{InputText, MeansInput}
use Rattle.swh_inputs.specs.Opening.{opening_of}
use Rattle.swh_inputs.specs.Parts.{Parts, TellAll, text_of, IsQuiet, IsSameInput}
use Rattle.swh_inputs.specs.Reading.{IsRead, IsReadFault}
use Rattle.swh_inputs.proofs.Streamings.{meant_given}
use Rattle.swh_inputs.specs.declared.bad.InputFault.{InputFault}
use Rattle.swh_inputs.specs.declared.bad.InputFault.TheVariants as fault
use Rattle.swh_inputs.specs.declared.input.Input.{Input}
use Rattle.swh_loader.specs.Ending.{MeansObjects, MayGiveObjects, IsFull, IsGivenBy, Collided, IsEndOf, IsEndAt, IsQuietEnd, end_for, held_bodies, outcome_for}
use Rattle.swh_loader.specs.Leaving.{AreAllowedAt, IsLoadOf}
use Rattle.swh_loader.proofs.Leaves.{as_it_was, broken_quiet, given_by, quiet_as_it_was}
use Rattle.swh_loader.proofs.Outcomes.{load_of}

-- what is said of a text that is told
told_as : (text : Option InputText) (P Q : InputText → Type 0) → ((held : InputText) → P held → Q held) → IfSome text P → IfSome text Q
told_as (Some text) P Q f h = f text h
told_as None P Q f h = h

-- nothing comes behind all of an input
pub no_more : {N E : Type 0} (id : Kind → List ℕ → List ℕ) (found : Result (Next N InputFault) E) (P : Type 0) → IfOk found (walking.IsWhole id) → IfOk found (λ next. walking.IsMore next → P)
no_more id (Ok (next.Part objects)) P w = absurd w
no_more id (Ok (next.Last last)) P w = λ more. absurd more
no_more id (Ok (next.Bad bad)) P w = λ more. absurd more
no_more id (Err fault) P w = tt

-- `Gives` is a way to read inputs, each as one part.
module _ {S F N : Type 0} (id : Kind → List ℕ → List ℕ) (p : Parts S F) (Gives : Input S F → Result (Next N InputFault) Memory → Input S F → Type 0)
    (read : (i now : Input S F) (x : Next N InputFault) → Gives i (Ok x) now → IsRead id p i now x)
    (whole : (i now : Input S F) (x : Next N InputFault) → Gives i (Ok x) now → walking.IsWhole id x) (i : Input S F) where
  -- what is made of it, with all that is reached from its snapshot
  module _ (now : Input S F) (made : Objects N) (gives : Gives i (Ok (next.Last made)) now) where
    good : HasAllThatIsReached id made
    good = whole i now (next.Last made) gives

    means_made : (text : InputText) → MeansInput id text (making_of made) → MeansObjects id text made.objects.items made.snapshot
    means_made text m = record { meaning = m; good = whole_good id made.objects.items good.objects.each }

    may_made : (text : InputText) → MeansInput id text (making_of made) → MayGiveObjects id text made.objects.items
    may_made text m = record { given = meant_given id text (making_of made) m; good = whole_good id made.objects.items good.objects.each }

    if_means : (P : InputText → Type 0) → ((text : InputText) → MeansInput id text (making_of made) → P text) → TellAll p i → IfSome (text_of p i) P
    if_means P f told = told_as (text_of p i) (λ text. MeansInput id text (making_of made)) P f (read i now (next.Last made) gives told)

  -- the batches
  allowed_at : (o : Opening) (entries : List Entry) → walking.AreAllowed Gives o i entries → AreAllowedAt id p i o entries
  allowed_at opening.Found entries are =
      let g = given_at_once id Gives whole i are.objects are.now are.given in
      let among : AreAmong g.1.made.objects.items entries = subst (λ (es : List Entry). AreAmong es entries) g.1.are are.among in
      if_means are.now g.1.made g.1.gives (λ text. AllByRecursion (IsGivenBy id text) entries)
      (λ text m. given_by id text g.1.made.objects.items (may_made are.now g.1.made g.1.gives text m) entries among)
  allowed_at opening.NotFound entries are = absurd are
  allowed_at opening.Failed entries are = absurd are
  allowed_at opening.Memory entries are = absurd are

  -- the end
  found_end : (bodies : Bodies) (now : Input S F) (end : walk.End InputFault) → walking.IsGivenEnd Gives bodies i now end → IsEndOf id p bodies i now (end_for end)
  found_end bodies now (Full snapshot) h =
      let g = all_at_once id Gives whole i h.0 snapshot now h.1 in
      let held : AllHeld bodies g.made.objects.items = subst (AllHeld bodies) g.are h.2 in
      if_means now g.made g.gives (λ text. IsFull id text bodies snapshot)
      (λ text m. record { objects = g.made.objects.items; means = subst (MeansObjects id text g.made.objects.items) (sym g.root) (means_made now g.made g.gives text m); held = held })
  found_end bodies now (Met name) h =
      let g = given_at_once id Gives whole i h.0 now h.1 in
      let met : IsMet bodies g.1.made.objects.items name = subst (λ (es : List Entry). IsMet bodies es name) g.1.are h.2 in
      if_means now g.1.made g.1.gives (λ text. Collided id text bodies name)
      (λ text m. record { objects = g.1.made.objects.items; may = may_made now g.1.made g.1.gives text m; collision = met })
  found_end bodies now (Bad (fault.Bad bad)) h = read i now (next.Bad (fault.Bad bad)) (broke_at_once id Gives whole i (fault.Bad bad) now h.broke)
  found_end bodies now (Bad fault.ReadFault) h = read i now (next.Bad fault.ReadFault) (broke_at_once id Gives whole i fault.ReadFault now h.broke)
  found_end bodies now NotFound h = absurd h
  found_end bodies now Unread h = absurd h

  end_at : (o : Opening) (bodies : Bodies) (now : Input S F) (end : walk.End InputFault) → walking.IsGivenEndAt Gives o bodies i now end → IsEndAt id p bodies o i now (end_for end)
  end_at opening.Found bodies now end h = found_end bodies now end h
  end_at opening.NotFound bodies now end h = ap (λ (e : walk.End InputFault). end_for e) h.0
  end_at opening.Failed bodies now end h = ap (λ (e : walk.End InputFault). end_for e) h.0
  end_at opening.Memory bodies now end h = absurd h

  -- Where reading tells each failure, so does the load.
  module _ (hears : (i now : Input S F) (found : Result (Next N InputFault) Memory) → Gives i found now → (IsReadFault found → ⊥) → IsQuiet p i now) where
    found_quiet : (bodies : Bodies) (now : Input S F) (end : walk.End InputFault) → walking.IsGivenEnd Gives bodies i now end → IsQuietEnd p i now (end_for end)
    found_quiet bodies now (Full snapshot) h =
        let g = all_at_once id Gives whole i h.0 snapshot now h.1 in
        hears i now (Ok (next.Last g.made)) g.gives (λ e. absurd cc)
    found_quiet bodies now (Met name) h =
        let g = given_at_once id Gives whole i h.0 now h.1 in
        hears i now (Ok (next.Last g.1.made)) g.1.gives (λ e. absurd cc)
    found_quiet bodies now (Bad bad) h = broken_quiet p i now bad (λ untold. hears i now (Ok (next.Bad bad)) (broke_at_once id Gives whole i bad now h.broke) (λ e. untold (let same : bad ≡ fault.ReadFault = cc in same)))
    found_quiet bodies now NotFound h = absurd h
    found_quiet bodies now Unread h = absurd h

    quiet_at : (o : Opening) (bodies : Bodies) (now : Input S F) (end : walk.End InputFault) → walking.IsGivenEndAt Gives o bodies i now end → IsQuietEnd p i now (end_for end)
    quiet_at opening.Found bodies now end h = found_quiet bodies now end h
    quiet_at opening.NotFound bodies now end h = subst (λ (e : walk.End InputFault). IsQuietEnd p i now (end_for e)) (sym h.0) (subst (IsQuiet p i) (sym h.1) (quiet_as_it_was p i))
    quiet_at opening.Failed bodies now end h = subst (λ (e : walk.End InputFault). IsQuietEnd p i now (end_for e)) (sym h.0) tt
    quiet_at opening.Memory bodies now end h = absurd h

    -- And where it stopped.
    whole_calm : (now : Input S F) → walking.IsSameOrUnbroken Gives i now → IsQuiet p i now
    whole_calm now (inl still) = subst (IsQuiet p i) (sym still) (quiet_as_it_was p i)
    whole_calm now (inr (inl (objects, given))) = let g = given_at_once id Gives whole i objects now given in hears i now (Ok (next.Last g.1.made)) g.1.gives (λ e. absurd cc)
    whole_calm now (inr (inr none)) = hears i now (Err none.fault) (none_at_once id Gives whole i now none) (λ e. absurd cc)

    -- The parts of the input are the same.
    module _ (same : (i now : Input S F) (found : Result (Next N InputFault) Memory) → Gives i found now → IsSameInput p i now) where
      same_read : (now : Input S F) → (now ≡ i) ⊎ ((found : Result (Next N InputFault) Memory) × Gives i found now) → IsSameInput p i now
      same_read now (inl still) = subst (IsSameInput p i) (sym still) (as_it_was p i)
      same_read now (inr read) = same i now read.0 read.1

      same_input : (o : Opening) (now : Input S F) → walking.IsSameOrReadOn Gives o i now → IsSameInput p i now
      same_input o now (inl still) = same_read now (inl still)
      same_input o now (inr was) = same_read now (read_at_once id Gives whole i now was.read)

      -- All that is said of the load.
      pub whole_load : {D : Type 0} (disks : Disks D) (a : Attempt) (old new : Kept D) (now : Input S F) (result : Result (Loaded InputFault) LoadFault)
          → IfOk result (λ loaded. EndsVisit a old new loaded.visit (statuses_of loaded.end)) → IfOk result (λ loaded. walking.IsGivenEndAt Gives (opening_of i) (held_bodies new) i now loaded.end)
          → AddsVisit (walking.AreAllowed Gives (opening_of i) i) a old.history new.history → (disks.tells → MakesVisitCalls id disks (walking.AreAllowed Gives (opening_of i) i) a old new) → ((n : ℕ) → old.wounded ≡ Some n → IsHeldBack old new result)
          → IfErr result (Stops id disks (walking.AreAllowed Gives (opening_of i) i) a old new) → NoCountFell disks old new → walking.IsSameOrReadOn Gives (opening_of i) i now → IfErr result (λ fault. walking.IsSameOrUnbroken Gives i now ⊎ StopsFailing id (alone_protocol id disks a.by) a fault.visit new fault.why)
          → IsLoadOf id p disks a i now old new (outcome_for result)
      whole_load disks a old new now result ended end adds calls wounded stops later was heard =
          load_of id p disks a i now old new (walking.AreAllowed Gives (opening_of i) i) (walking.IsGivenEndAt Gives (opening_of i) (held_bodies new) i now)
          (allowed_at (opening_of i)) (end_at (opening_of i) (held_bodies new) now) (quiet_at (opening_of i) (held_bodies new) now) (walking.IsSameOrUnbroken Gives i now) (whole_calm now) result ended end adds calls wounded stops later (same_input (opening_of i) now was) heard
