-- What reading the store again leaves, and what it has of bodies.
use Rattle.std.specs.Prelude.{◌≡◌, ◌≤◌, ℕ, ◌+◌, Some, List, length, take, drop, Result, OnOk, IfErr, IsErrOf}
use Rattle.std.specs.Global.{Vec}
use Rattle.std.specs.List.{AllByRecursion}
use Rattle.swh_base.specs.declared.kind.Kind.{Kind}
use Rattle.swh_base.specs.declared.name.Name.{Name}
use Rattle.swh_base.specs.declared.entry.Entry.{Entry}
use Rattle.swh_outside.specs.Disk.{File}
use Rattle.swh_outside.specs.Faults.{Rose}
use Rattle.swh_model.specs.declared.event.EventKind.{EventKind}
use Rattle.swh_model.specs.Entries.{entries_of}
use Rattle.swh_model.specs.Archive.{Bodies, body_of}
use Rattle.swh_keeper.specs.Kept.{Kept}
use Rattle.swh_keeper.specs.declared.stored.StoredFault.{StoredFault}
use Rattle.swh_keeper.specs.declared.stored.StoredFault.TheVariants.{DiskFault, Memory}

-- All is as it was, but that the store's disk was read.
pub record IsReadAgain {D : Type 0} (tells : Type 0) (file : D → File) (old new : Kept D) : Type 0 where
  pub history : new.history ≡ old.history
  pub wounded : new.wounded ≡ old.wounded
  pub ledger : new.ledger ≡ old.ledger
  pub store : tells → file new.store ≡ file old.store

-- P, unless the disk failed
abbrev pub UnlessUnread : StoredFault → Type 0 → Type 0
UnlessUnread DiskFault P = Unit {0}
UnlessUnread Memory P = P

-- What reading stored bytes leaves of a keeper: all is as it was, but that the store's disk was read, whose count of faults rose
-- where it is told that it failed, and is as it was where it did not fail.
pub record OnlyReadsStore {D T : Type 0} (tells : Type 0) (file : D → File) (faults : D → ℕ) (old new : Kept D) (result : Result T StoredFault) : Type 0 where
  pub same : IsReadAgain tells file old new
  pub later : faults old.store ≤ faults new.store
  pub cause : IsErrOf result DiskFault → Rose (faults old.store) (faults new.store)
  pub quiet : OnOk result (faults new.store ≡ faults old.store)
  pub quiet_fault : IfErr result (λ fault. UnlessUnread fault (faults new.store ≡ faults old.store))

-- the bytes where the body of an object stands in front: behind its kind, its length and its id
abbrev pub body_in : List ℕ → Entry → List ℕ
body_in bytes e = take (length e.body) (drop (9 + length e.name.id) bytes)

module _ (id_of : Kind → List ℕ → List ℕ) where
  -- The object's body is held under its name, which is its id.
  pub record IsHeldNamed (bodies : Bodies) (e : Entry) : Type 0 where
    pub held : body_of bodies e.name ≡ Some e.body
    pub named : e.name.id ≡ id_of e.name.kind e.body

  -- The same of what an event added.
  abbrev pub IsHeldKind : Bodies → EventKind → Type 0
  IsHeldKind bodies what = AllByRecursion (IsHeldNamed bodies) (entries_of what)

-- The bytes are as many at most as the body has that is held under the name.
pub record IsNoLonger (bodies : Bodies) (n : Name) (bytes : Vec ℕ) : Type 0 where
  pub body : List ℕ
  pub held : body_of bodies n ≡ Some body
  pub long : length bytes.items ≤ length body
