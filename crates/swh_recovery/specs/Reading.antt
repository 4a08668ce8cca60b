-- What the readers of the store answer.
use Rattle.std.specs.Prelude.{◌≡◌, ◌≢◌, ◌⊎◌, ◌+◌, ◌-◌, ◌≤◌, ◌<◌, ◌^◌, ℕ, List, ◌∷◌, ◌++◌, length, take, drop}
use Rattle.std.specs.Int.{w64, to_be_bytes}
use Rattle.swh_base.specs.declared.kind.Kind.{Kind}
use Rattle.swh_base.specs.declared.entry.Entry.{Entry}
use Rattle.swh_base.specs.Name.{kind_number}
use Rattle.swh_base.specs.Limits.{body_limit}
use Rattle.swh_base.specs.Manifest.{IsWellFormed}
use Rattle.swh_object.specs.Object.{IsObject}
use Rattle.swh_format.specs.StoredObject.{coded_entry, IsCodableEntry}
use Rattle.swh_recovery.specs.declared.harm.Harm.TheVariants.{Short, Body, Name}
use Rattle.swh_recovery.specs.declared.harm.Found.{Found}
use Rattle.swh_recovery.specs.declared.fault.ReadFault.{ReadFault}
use Rattle.swh_recovery.specs.declared.fault.ReadFault.TheVariants.{DiskFailed, Memory, Harmed}
use Rattle.swh_recovery.specs.declared.object.Head.{Head}
use Rattle.swh_recovery.specs.Fields.{found_at}
use Rattle.swh_recovery.specs.StoreHarm.{IsRefusedBody}

-- Where the fault is a harm, it has P.
abbrev pub IfHarmed : ReadFault → (Found → Type 0) → Type 0
IfHarmed DiskFailed P = Unit {0}
IfHarmed Memory P = Unit {0}
IfHarmed (Harmed found) P = P found

-- P, unless the disk failed.
abbrev pub UnlessDisk : ReadFault → Type 0 → Type 0
UnlessDisk DiskFailed P = Unit {0}
UnlessDisk Memory P = P
UnlessDisk (Harmed found) P = P

-- The fault is none of the disk's.
abbrev pub IsNoDiskFault : ReadFault → Type 0
IsNoDiskFault DiskFailed = ⊥
IsNoDiskFault Memory = Unit {0}
IsNoDiskFault (Harmed found) = Unit {0}

-- as many bytes as stand from a place on
abbrev pub window : List ℕ → ℕ → ℕ → List ℕ
window seen at have = take have (drop at seen)

-- The bytes are an object's head and what is behind it.
pub record IsHeadOf (bytes : List ℕ) (h : Head) (rest : List ℕ) : Type 0 where
  pub spelled : bytes ≡ kind_number h.kind ∷ (to_be_bytes w64 h.size ++ (h.id ++ rest))
  pub twenty : length h.id ≡ 20
  pub fits : h.size < 2 ^ 64

-- The bytes begin with an object's head.
pub record BeginsWithHead (bytes : List ℕ) (h : Head) : Type 0 where
  pub rest : List ℕ
  pub is : IsHeadOf bytes h rest

-- After a head fewer bytes stand than its body has, or its body is above the limit.
abbrev pub BodyHarmsAt : ℕ → ℕ → ℕ → Found → Type 0
BodyHarmsAt at have size found =
    ((have - 29 < size) × (found ≡ found_at (at + 29) (Short (have - 29) size)))
    ⊎ ((size ≤ have - 29) × (body_limit < size) × (found ≡ found_at (at + 29) (Body body_limit)))

module _ (id_of : Kind → List ℕ → List ℕ) where
  -- The body is refused, or else its id is another than the one that stands there, of an object that stands from this
  -- place on.
  abbrev pub BodyHarms : Head → List ℕ → ℕ → Found → Type 0
  BodyHarms h body at found =
      ((place : ℕ) × IsRefusedBody h.kind body place × (found ≡ found_at (at + 29) (Body place)))
      ⊎ (IsWellFormed h.kind body × (length body ≤ body_limit) × (h.id ≢ id_of h.kind body) × (found ≡ found_at (at + 9) (Name h.id (id_of h.kind body))))

  -- The entry is the object of this head and body.
  pub record IsEntryOf (h : Head) (body : List ℕ) (e : Entry) : Type 0 where
    pub kind_is : e.name.kind ≡ h.kind
    pub id_is : e.name.id ≡ h.id
    pub body_is : e.body ≡ body
    pub good : IsObject id_of e

  -- The bytes begin with this object.
  pub record BeginsWith (bytes : List ℕ) (e : Entry) : Type 0 where
    pub good : IsObject id_of e
    pub codable : IsCodableEntry e
    pub rest : List ℕ
    pub spelled : bytes ≡ coded_entry e ++ rest
