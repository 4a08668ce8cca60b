-- Bodies that were read again, and their ids.
use Rattle.std.specs.Prelude.{◌≡◌, ◌≢◌, ◌≤◌, ℕ, Some, List, [], ◌∷◌, length, drop}
use Rattle.std.specs.List.{AllByRecursion}
use Rattle.swh_base.specs.declared.kind.Kind.{Kind}
use Rattle.swh_base.specs.declared.name.Name.{Name}
use Rattle.swh_base.specs.declared.entry.Entry.{Entry}
use Rattle.swh_model.specs.declared.event.Event.{Event}
use Rattle.swh_model.specs.declared.event.EventKind.{EventKind}
use Rattle.swh_model.specs.Entries.{entries_of}
use Rattle.swh_model.specs.Archive.{Bodies, body_of}
use Rattle.swh_model.specs.Limits.{object_length, stored_length}
use Rattle.swh_format.specs.EventRecord.{packed_objects}
pub use Rattle.swh_keeper.specs.Stored.{body_in, IsHeldNamed, IsHeldKind}
use Rattle.swh_check.specs.declared.fault.CheckFault.{CheckFault}
use Rattle.swh_check.specs.declared.fault.CheckFault.TheVariants.{Damaged, DiskFault, Memory}

module _ (id_of : Kind → List ℕ → List ℕ) where
  -- Where the bodies of these objects stand the bytes are bodies with their ids.
  abbrev pub HaveTheirIds : List ℕ → List Entry → Type 0
  HaveTheirIds bytes [] = Unit {0}
  HaveTheirIds bytes (e ∷ es) = (id_of e.name.kind (body_in bytes e) ≡ e.name.id) × HaveTheirIds (drop (object_length e) bytes) es

  -- Where the bodies of the objects that the event added stand the bytes are bodies with their ids.
  abbrev pub HasItsIds : List ℕ → EventKind → Type 0
  HasItsIds bytes what = HaveTheirIds bytes (entries_of what)

  -- The run of the event was read again: bytes no longer than it, in which each body has its object's id, and which are the
  -- run where the disks tell.
  pub record IsCompared (tells : Type 0) (e : Event) : Type 0 where
    pub run : List ℕ
    pub long : length run ≤ stored_length e.what
    pub ids : HasItsIds run e.what
    pub stored : tells → run ≡ packed_objects e.what

  -- The run of each of the events was read again, and compared so.
  abbrev pub AreCompared : Type 0 → List Event → Type 0
  AreCompared tells = AllByRecursion (IsCompared tells)

  -- Bytes no longer than the body that is held under the name were read for it, and have another id, which is this one.
  pub record IsDamage (bodies : Bodies) (name : Name) (found : List ℕ) : Type 0 where
    pub body : List ℕ
    pub held : body_of bodies name ≡ Some body
    pub bytes : List ℕ
    pub long : length bytes ≤ length body
    pub found_is : found ≡ id_of name.kind bytes
    pub apart : found ≢ name.id

  -- Which body is damaged and how.
  abbrev pub IsBodyFault : Bodies → CheckFault → Type 0
  IsBodyFault bodies (Damaged name found) = IsDamage bodies name found
  IsBodyFault bodies DiskFault = ⊥
  IsBodyFault bodies Memory = ⊥

  -- Which body is damaged and how; of a disk that failed and of want of memory it says nothing.
  abbrev pub IsCheckFault : Bodies → CheckFault → Type 0
  IsCheckFault bodies (Damaged name found) = IsDamage bodies name found
  IsCheckFault bodies DiskFault = Unit {0}
  IsCheckFault bodies Memory = Unit {0}
