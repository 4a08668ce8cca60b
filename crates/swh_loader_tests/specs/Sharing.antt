-- What is said of a keeper to which another loader adds.
use Rattle.std.specs.Prelude.{◌≡◌, ◌==◌, ℕ, ◌+◌, if◌then◌else◌, false, None, List, [], ◌∷◌, length}
use Rattle.swh_base.specs.declared.kind.Kind.{Kind}
use Rattle.swh_model.specs.declared.event.Event.{Event}
use Rattle.swh_keeper.specs.Kept.{Kept}
use Rattle.swh_ingest.specs.Knowing.{Known, Protocol, Follows, Runs}

-- the number of this loader
abbrev pub this : ℕ
this = 2

-- how many events of a history are by this loader
abbrev pub made_in : List Event → ℕ
made_in [] = 0
made_in (e ∷ h) = (if e.by == this then 1 else 0) + made_in h

module _ {D : Type 0} (id : Kind → List ℕ → List ℕ) where
  -- Others may have added something.
  pub record IsOthers (old new : Kept D) : Type 0 where
    pub follows : Follows id false old.history new.history
    pub made : made_in new.history ≡ made_in old.history

  -- These own events were added, among those of others. No disk has failed.
  pub record AddsAmong (own : List Event) (old new : Kept D) : Type 0 where
    pub runs : Runs id false old.history own new.history
    pub made : made_in new.history ≡ made_in old.history + length own
    pub unwounded : new.wounded ≡ None

  -- what is known of a keeper by one of those who add to it
  abbrev pub known_to : Kept D → Known
  known_to k = record { number = this; front = k.history; made = made_in k.history }

  -- what is said of writers in which a keeper stands so
  abbrev pub shared_protocol : {S : Type 0} → (S → Kept D) → Protocol S
  shared_protocol at = record {
    alone = false;
    known = λ s. known_to (at s);
    ready = λ s. (at s).wounded ≡ None;
    adds = λ own a b. AddsAmong own (at a) (at b);
    fails = λ wish refusal a b. Unit {0};
  }
