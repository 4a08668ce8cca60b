-- What loads of inputs add, and that no name of them collides.
use Rattle.std.proofs.Common.{◌≡◌, inr, ℕ, false, Some, List, [], ◌∷◌, ◌++◌, Contains, sym, subst}
use Rattle.std.specs.List.{AllByRecursion}
use Rattle.swh_base.specs.declared.kind.Kind.{Kind}
use Rattle.swh_base.specs.declared.name.Name.{Name}
use Rattle.swh_base.specs.declared.entry.Entry.{Entry}
use Rattle.swh_model.specs.declared.event.Event.{Event}
use Rattle.swh_model.specs.declared.event.EventKind.{EventKind}
use Rattle.swh_model.specs.declared.event.EventKind.TheVariants.{Batch}
use Rattle.swh_model.specs.Archive.{Archive, Bodies, empty_archive, body_of}
use Rattle.swh_model.specs.Meaning.{Made}
use Rattle.swh_model.specs.Step.{IsHistory, after, after_kind, after_all, replay, HasItsChildrenAndName}
use Rattle.swh_model.proofs.Histories.{fronts}
use Rattle.swh_model.proofs.Maps.{added-all}
use Rattle.swh_inputs.specs.Input.{InputText}
use Rattle.swh_inputs.specs.Streaming.{MayGiveInput}
use Rattle.swh_dedup.specs.Making.{made_from, made}
use Rattle.swh_ingest.specs.Owning.{Attempt}
use Rattle.swh_ingest.specs.Loading.{IsOwn}
use Rattle.swh_ingest.specs.Walking.{IsBy}
use Rattle.swh_loader.specs.Ending.{MayGiveObjects, IsGivenBy, Collided}
use Rattle.swh_ingest.proofs.Batches.{at_element}
use Rattle.swh_program.specs.JobLoad.{AreOwnEvents}
use Rattle.swh_program.specs.Complete.{AreMade, MakesBody, HasBodyOrMakes, HasOneBody}
use Rattle.swh_program.proofs.Elements.{map_contains}

-- Whatever is held now was held before, or is made.
abbrev pub Had : (Kind → List ℕ → List ℕ) → Bodies → List Made → Bodies → Type 0
Had id_of bodies objects now = (n : Name) (body : List ℕ) → body_of now n ≡ Some body → HasBodyOrMakes id_of bodies objects n body

module _ (id_of : Kind → List ℕ → List ℕ) (objects : List Made) where
  -- All that the text may give is among the objects.
  abbrev pub GivesWithin : InputText → Type 0
  GivesWithin text = (given : List Made) → MayGiveInput id_of text given → (o : Made) → Contains given o → Contains objects o

  module _ (text : InputText) (within : GivesWithin text) where
    gives_body : (es : List Entry) → MayGiveObjects id_of text es → (e : Entry) → Contains es e → MakesBody id_of objects e.name e.body
    gives_body es m e among = (
      within (made es) m.given (made_from e) (map_contains made_from es e among),
      (at_element (HasItsChildrenAndName id_of) es e m.good among).named,
    )

    -- a batch of what the text may give
    pub are_made : (entries : List Entry) → AllByRecursion (IsGivenBy id_of text) entries → AreMade id_of objects entries
    are_made [] all = tt
    are_made (e ∷ entries) all = (gives_body all.0.objects all.0.may e all.0.among, are_made entries all.1)

    -- no name collides where each has one body
    pub none_collides : (bodies now : Bodies) (name : Name) → Had id_of bodies objects now → HasOneBody id_of bodies objects → Collided id_of text now name → ⊥
    none_collides bodies now name had one collided =
        let c = collided.collision in
        let makes = gives_body collided.objects collided.may c.entry c.among in
        let other = c.other.0 in
        c.other.2 (one.one c.entry.name other c.entry.body (had c.entry.name other c.other.1) (inr makes))

  -- A batch is of what is made.
  abbrev IsMadeBatch : EventKind → Type 0
  IsMadeBatch (Batch entries) = AreMade id_of objects entries
  IsMadeBatch what = Unit {0}

  -- The event adds nothing but what is made.
  abbrev pub AddsMade : Event → Type 0
  AddsMade e = IsMadeBatch e.what

  -- So does a load whose batches are made.
  module _ (P : List Entry → Type 0) (of_made : (entries : List Entry) → P entries → AreMade id_of objects entries) (a : Attempt) (number : ℕ) where
    adds_kind : (what : EventKind) → IsOwn false P a number what → IsMadeBatch what
    adds_kind (Batch entries) own = of_made entries own.1
    adds_kind what own = tt

    adds_own : (es : List Event) → AllByRecursion (IsBy a.by (IsOwn false P a number)) es → AllByRecursion AddsMade es
    adds_own [] own = tt
    adds_own (e ∷ es) own = (adds_kind e.what own.0.added, adds_own es own.1)

    pub adds_made : (own : List Event) → AreOwnEvents P a number own → AllByRecursion AddsMade own
    adds_made [] are = tt
    adds_made (e ∷ es) are = (subst AddsMade (sym are.0) tt, adds_own es are.1)

  -- what is held stays held, or was made
  module _ (bodies : Bodies) where
    makes_all : (entries : List Entry) → AreMade id_of objects entries → AllByRecursion (λ e. HasBodyOrMakes id_of bodies objects e.name e.body) entries
    makes_all [] all = tt
    makes_all (e ∷ entries) all = (inr all.0, makes_all entries all.1)

    had_kind : (a : Archive) (by : ℕ) (what : EventKind) → IsMadeBatch what → Had id_of bodies objects a.bodies → Had id_of bodies objects (after_kind a by what).bodies
    had_kind a by (Batch entries) made had = added-all (HasBodyOrMakes id_of bodies objects) a.bodies entries had (makes_all entries made)
    had_kind a by what made had = had

    had_all : (a : Archive) (es : List Event) → AllByRecursion AddsMade es → Had id_of bodies objects a.bodies → Had id_of bodies objects (after_all a es).bodies
    had_all a [] made had = had
    had_all a (e ∷ es) made had = had_all (after a e) es made.1 (had_kind a e.by e.what made.0 had)

    -- which the archive holds after them
    pub had_after : (h more : List Event) → IsHistory id_of (h ++ more) → AllByRecursion AddsMade more → Had id_of bodies objects (replay h).bodies → Had id_of bodies objects (replay (h ++ more)).bodies
    had_after h more history made had =
        subst (λ (a : Archive). Had id_of bodies objects a.bodies) (sym (fronts id_of empty_archive h more history).2) (had_all (replay h) more made had)
