-- How an entry stands to what is held, and what comes of it.
use Rattle.std.specs.Prelude.{◌≡◌, ◌≢◌, ◌⊎◌, ℕ, Some, None, List}
use Rattle.swh_base.specs.declared.entry.Entry.{Entry}
use Rattle.swh_model.specs.Archive.{Bodies, body_of}
use Rattle.swh_model.specs.Judge.{Collides}
use Rattle.swh_store.specs.Entries.{bodies_in, IsPutIn}
use Rattle.swh_store.specs.declared.adding.Standing.{Standing}
use Rattle.swh_store.specs.declared.adding.Standing.TheVariants.{New, Known, Other}
use Rattle.swh_store.specs.declared.fault.StoreFault.{StoreFault}
use Rattle.swh_store.specs.declared.fault.StoreFault.TheVariants.{Collision, Memory}

-- Another body is held under the entry's name.
abbrev pub HasOther : Bodies → Entry → Type 0
HasOther bodies e = (body : List ℕ) × (body_of bodies e.name ≡ Some body) × (body ≢ e.body)

-- How the entry stands to the bodies.
abbrev pub IsStanding : Bodies → Entry → Standing → Type 0
IsStanding bodies e New = body_of bodies e.name ≡ None
IsStanding bodies e Known = body_of bodies e.name ≡ Some e.body
IsStanding bodies e Other = HasOther bodies e

-- The entry was known, and nothing changed.
pub record IsKnown (before now : List Entry) (e : Entry) : Type 0 where
  pub there : body_of (bodies_in before) e.name ≡ Some e.body
  pub same : now ≡ before

-- What comes of an entry that joins: one that is new is added, and else nothing changes.
abbrev pub Joins : List Entry → List Entry → Entry → Standing → Type 0
Joins before now e New = IsPutIn before now e
Joins before now e Known = IsKnown before now e
Joins before now e Other = HasOther (bodies_in before) e × (now ≡ before)

-- The entry was new and is added, or it was known and nothing changed.
abbrev pub IsTakenUp : List Entry → List Entry → Entry → Type 0
IsTakenUp before now e = IsPutIn before now e ⊎ IsKnown before now e

-- Why one entry is refused: it says nothing where memory ran out.
abbrev pub IsEntryFault : Bodies → Entry → StoreFault → Type 0
IsEntryFault bodies e (Collision name) = (name ≡ e.name) × HasOther bodies e
IsEntryFault bodies e Memory = Unit {0}

-- Why a batch is refused: it says nothing where memory ran out.
abbrev pub IsStoreFault : Bodies → List Entry → StoreFault → Type 0
IsStoreFault bodies entries (Collision name) = Collides bodies entries name
IsStoreFault bodies entries Memory = Unit {0}
