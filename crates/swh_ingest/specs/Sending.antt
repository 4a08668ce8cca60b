-- What a load's input adds to what is held.
use Rattle.std.specs.Prelude.{◌≡◌, ◌⊎◌, ℕ, ◌+◌, ◌<◌, ◌≤◌, Bool, true, Option, Some, None, List, [], ◌∷◌, ◌++◌, length, sum_by, Contains}
use Rattle.std.specs.List.{AllByRecursion}
use Rattle.std.specs.FinMap as finite
use Rattle.swh_base.specs.declared.kind.Kind.{Kind}
use Rattle.swh_base.specs.declared.name.Name.{Name}
use Rattle.swh_base.specs.declared.entry.Entry.{Entry}
use Rattle.swh_base.specs.Limits.{objects_limit, bytes_limit}
use Rattle.swh_model.specs.Archive.{Bodies, body_of}
use Rattle.swh_model.specs.Limits.{IsWithinLimits}
use Rattle.swh_model.specs.Step.{AreNew, HasItsChildrenAndName}
use Rattle.swh_store.specs.Entries.{bodies_in, IsPutIn}
use Rattle.swh_store.specs.Adding.{HasOther}
use Rattle.swh_store.specs.declared.adding.Standing.{Standing}
use Rattle.swh_store.specs.declared.adding.Standing.TheVariants.{New, Known, Other}
use Rattle.swh_ingest.specs.Owning.{AreAmong}
use Rattle.swh_ingest.specs.declared.pending.Pending.{Pending}
use Rattle.swh_ingest.specs.declared.sending.Taken.{Taken}
use Rattle.swh_ingest.specs.declared.sending.Taken.TheVariants.{Waits, Collides}

-- The entry is held with its body.
abbrev pub IsHeldWhole : Bodies → Entry → Type 0
IsHeldWhole bodies e = body_of bodies e.name ≡ Some e.body

-- Each of these is held with its body.
abbrev pub AllHeld : Bodies → List Entry → Type 0
AllHeld bodies entries = AllByRecursion (IsHeldWhole bodies) entries

-- An object of these has this name, under which another body is held.
pub record IsMet (bodies : Bodies) (objects : List Entry) (name : Name) : Type 0 where
  pub entry : Entry
  pub among : Contains objects entry
  pub named : name ≡ entry.name
  pub other : HasOther bodies entry

-- All are held, or one collides.
abbrev pub AreSent : Bodies → List Entry → Option Name → Type 0
AreSent bodies objects None = AllHeld bodies objects
AreSent bodies objects (Some name) = IsMet bodies objects name

-- A batch has room for one more entry after what waits.
pub record BatchHasRoom {N : Type 0} (p : Pending N) : Type 0 where
  pub few : length p.objects.items < objects_limit
  pub small : p.bytes ≤ bytes_limit

-- Nothing waited under the entry's name, and now it waits.
pub record IsJoined {N : Type 0} (p q : Pending N) (e : Entry) : Type 0 where
  pub put : IsPutIn p.held q.held e
  pub objects : q.objects.items ≡ p.objects.items ++ e ∷ []
  pub bytes : q.bytes ≡ p.bytes + length e.body

-- What comes of an entry that joins what waits: where nothing waits under its name it does, and else nothing changes.
abbrev pub JoinsBatch : {N : Type 0} → Pending N → Pending N → Entry → Standing → Type 0
JoinsBatch p q e New = IsJoined p q e
JoinsBatch p q e Known = (body_of (bodies_in p.held) e.name ≡ Some e.body) × (q ≡ p)
JoinsBatch p q e Other = HasOther (bodies_in p.held) e × (q ≡ p)

-- What waits is good and named, and a batch within the limits; no two of it have one name; and it is new where nobody else
-- adds.
pub record IsPendingBatch {N : Type 0} (id : Kind → List ℕ → List ℕ) (alone : Bool) (bodies : Bodies) (p : Pending N) : Type 0 where
  pub held : p.held ≡ p.objects.items
  pub apart : AreNew finite.empty p.objects.items
  pub new : alone ≡ true → AreNew bodies p.objects.items
  pub good : AllByRecursion (HasItsChildrenAndName id) p.objects.items
  pub limits : IsWithinLimits p.objects.items
  pub counted : p.bytes ≡ sum_by (λ e. length e.body) p.objects.items

-- The entry's body is held under its name, or waits under it.
abbrev pub IsInHand : {N : Type 0} → Bodies → Pending N → Entry → Type 0
IsInHand bodies p e = IsHeldWhole bodies e ⊎ IsHeldWhole (bodies_in p.objects.items) e

-- What was in hand is in hand.
abbrev pub KeepsInHand : {N : Type 0} → Bodies → Pending N → Bodies → Pending N → Type 0
KeepsInHand before p bodies q = (e : Entry) → IsInHand before p e → IsInHand bodies q e

-- There is room for one more entry: what waited was sent, or waits still.
pub record HasRoomNow {N : Type 0} (id : Kind → List ℕ → List ℕ) (alone : Bool) (before : Bodies) (p : Pending N) (bodies : Bodies) (q : Pending N) : Type 0 where
  pub room : BatchHasRoom q
  pub among : AreAmong p.objects.items q.objects.items
  pub waiting : IsPendingBatch id alone bodies q
  pub keeps : KeepsInHand before p bodies q

-- The entry is in hand, after those that were before.
pub record IsTakenIn {N : Type 0} (id : Kind → List ℕ → List ℕ) (alone : Bool) (before : Bodies) (p : Pending N) (e : Entry) (bodies : Bodies) (q : Pending N) : Type 0 where
  pub waiting : IsPendingBatch id alone bodies q
  pub among : AreAmong (p.objects.items ++ e ∷ []) q.objects.items
  pub keeps : KeepsInHand before p bodies q
  pub taken : IsInHand bodies q e

-- What became of an object, after those that wait.
abbrev pub TakesEntry : {N : Type 0} → (Kind → List ℕ → List ℕ) → Bool → Bodies → Pending N → Entry → Bodies → Taken N → Type 0
TakesEntry id alone before p e bodies (Waits q) = IsTakenIn id alone before p e bodies q
TakesEntry id alone before p e bodies (Collides name) = IsMet bodies (p.objects.items ++ e ∷ []) name

-- What became of the room for one more object.
abbrev pub MakesRoom : {N : Type 0} → (Kind → List ℕ → List ℕ) → Bool → Bodies → Pending N → Bodies → Taken N → Type 0
MakesRoom id alone before p bodies (Waits q) = HasRoomNow id alone before p bodies q
MakesRoom id alone before p bodies (Collides name) = IsMet bodies p.objects.items name

-- The entries are in hand, after those that were before.
pub record AreTakenIn {N : Type 0} (id : Kind → List ℕ → List ℕ) (alone : Bool) (before : Bodies) (p : Pending N) (es : List Entry) (bodies : Bodies) (q : Pending N) : Type 0 where
  pub waiting : IsPendingBatch id alone bodies q
  pub among : AreAmong (p.objects.items ++ es) q.objects.items
  pub keeps : KeepsInHand before p bodies q
  pub taken : AllByRecursion (IsInHand bodies q) es

-- What became of some objects, after those that wait.
abbrev pub TakesPart : {N : Type 0} → (Kind → List ℕ → List ℕ) → Bool → Bodies → Pending N → List Entry → Bodies → Taken N → Type 0
TakesPart id alone before p es bodies (Waits q) = AreTakenIn id alone before p es bodies q
TakesPart id alone before p es bodies (Collides name) = IsMet bodies (p.objects.items ++ es) name

-- Each of these objects is held, but for those of a batch that waits.
pub record AreSentButABatch (bodies : Bodies) (objects : List Entry) : Type 0 where
  pub waiting : List Entry
  pub among : AreAmong objects waiting
  pub limits : IsWithinLimits waiting
  pub each : AllByRecursion (λ e. IsHeldWhole bodies e ⊎ IsHeldWhole (bodies_in waiting) e) objects

-- What was in hand is held.
abbrev pub HoldsInHand : {N : Type 0} → Bodies → Pending N → Bodies → Type 0
HoldsInHand before p bodies = (e : Entry) → IsInHand before p e → IsHeldWhole bodies e

-- All are held after what was in hand, or one collides.
abbrev pub AreSentAfter : {N : Type 0} → Bodies → Pending N → List Entry → Bodies → Option Name → Type 0
AreSentAfter before p es bodies None = HoldsInHand before p bodies × AllHeld bodies es
AreSentAfter before p es bodies (Some name) = IsMet bodies (p.objects.items ++ es) name
