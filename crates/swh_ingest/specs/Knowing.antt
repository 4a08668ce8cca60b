-- What a loader knows of an archive, and what the answers to its plans tell it.
use Rattle.std.specs.Prelude.{◌≡◌, ℕ, ◌+◌, Bool, true, Ok, Err, List, [], ◌∷◌, ◌++◌, length}
use Rattle.swh_base.specs.declared.kind.Kind.{Kind}
use Rattle.swh_model.specs.declared.event.Event.{Event}
use Rattle.swh_model.specs.declared.event.Wish.{Wish}
use Rattle.swh_model.specs.declared.event.Outcome.{Outcome}
use Rattle.swh_model.specs.Archive.{Bodies}
use Rattle.swh_model.specs.Step.{May, MayAll, replay}
use Rattle.swh_model.specs.Judge.{IsVerdict}
use Rattle.swh_ingest.specs.declared.refusal.Refusal.{Refusal}
use Rattle.swh_ingest.specs.declared.refusal.Refusal.TheVariants.{No, Memory}

-- a loader's number, the front of the history that it has seen, and how many events it made
pub record Known : Type 0 where
  pub number : ℕ
  pub front : List Event
  pub made : ℕ

-- the bodies that are held in a front
abbrev pub held_in : Known → Bodies
held_in k = (replay k.front).bodies

-- The protocol of a destination with its writers: whether nobody else adds events; what a writer knows; whether it may look;
-- that these own events were added between two states of it; and that a plan was refused so between two.
pub record Protocol (S : Type 0) : Type 1 where
  pub alone : Bool
  pub known : S → Known
  pub ready : S → Type 0
  pub adds : List Event → S → S → Type 0
  pub fails : Wish → Refusal → S → S → Type 0

module _ (id : Kind → List ℕ → List ℕ) (alone : Bool) where
  -- The second history begins with the first. What others added since may happen behind it; where nobody else adds there
  -- is nothing of it.
  pub record Follows (g h : List Event) : Type 0 where
    pub gap : List Event
    pub behind : h ≡ g ++ gap
    pub may : MayAll id (replay g) gap
    pub quiet : alone ≡ true → gap ≡ []

  -- These events were added in this order, each behind a history that begins with the one before; others may stand
  -- between.
  abbrev pub Runs : List Event → List Event → List Event → Type 0
  Runs g [] h = Follows g h
  Runs g (e ∷ es) h = (base : List Event) × Follows g base × May id (replay base) e × Runs (base ++ e ∷ []) es h

  -- One has seen its own events, which it made, and perhaps those of others.
  pub record Grows (own : List Event) (k k' : Known) : Type 0 where
    pub runs : Runs k.front own k'.front
    pub number : k'.number ≡ k.number
    pub made : k'.made ≡ k.made + length own

-- how many events stand unseen after a refusal
abbrev pub unseen : Refusal → ℕ
unseen (Memory true) = 1
unseen refusal = 0

module _ {S : Type 0} (id : Kind → List ℕ → List ℕ) (w : Protocol S) where
  -- Own events are added one after another, by a writer that may look. Each stands in the front.
  pub record IsLawful : Type 0 where
    pub none : (s : S) → w.ready s → w.adds [] s s
    pub further : (xs ys : List Event) (a b c : S) → w.adds xs a b → w.adds ys b c → w.adds (xs ++ ys) a c
    pub ready : (xs : List Event) (a b : S) → w.adds xs a b → w.ready b
    pub grows : (xs : List Event) (a b : S) → w.adds xs a b → Grows id w.alone xs (w.known a) (w.known b)

  -- The plan was judged at a history that begins with the front, and its event is the newest in the new one.
  pub record CarriesOut (wish : Wish) (a b : S) (outcome : Outcome) : Type 0 where
    pub base : List Event
    pub follows : Follows id w.alone (w.known a).front base
    pub event : Event
    pub verdict : IsVerdict base (w.known a).number wish (Ok (event, outcome))
    pub may : May id (replay base) event
    pub front : (w.known b).front ≡ base ++ event ∷ []
    pub adds : w.adds (event ∷ []) a b

  -- A cause is judged at the new front, and nothing was added.
  abbrev pub IsAgainst : Wish → S → S → Refusal → Type 0
  IsAgainst wish a b (No cause) = IsVerdict (w.known b).front (w.known a).number wish (Err cause) × w.adds [] a b
  IsAgainst wish a b refusal = Unit {0}

  -- The plan was refused, or its event is not seen. Where nobody else adds, none stands unseen.
  pub record RefusesPlan (wish : Wish) (a b : S) (refusal : Refusal) : Type 0 where
    pub against : IsAgainst wish a b refusal
    pub follows : Follows id w.alone (w.known a).front (w.known b).front
    pub number : (w.known b).number ≡ (w.known a).number
    pub made : (w.known b).made ≡ (w.known a).made + unseen refusal
    pub seen : w.alone ≡ true → unseen refusal ≡ 0
    pub fails : w.fails wish refusal a b
