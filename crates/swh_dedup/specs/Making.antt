-- What objects are made from, the names that they get, and why one is not made.
use Rattle.std.specs.Prelude.{◌≡◌, ℕ, ◌<◌, List, length, map, Contains}
use Rattle.swh_base.specs.declared.kind.Kind.{Kind}
use Rattle.swh_base.specs.declared.name.Name.{Name}
use Rattle.swh_base.specs.declared.entry.Entry.{Entry}
use Rattle.swh_base.specs.Limits.{body_limit}
use Rattle.swh_base.specs.Name.{IsId}
use Rattle.swh_model.specs.Meaning.{Made}
use Rattle.swh_dedup.specs.declared.fault.MakeFault.{MakeFault}
use Rattle.swh_dedup.specs.declared.fault.MakeFault.TheVariants.{TooLong, Memory}

-- an object of this kind and body
abbrev pub object_of : Kind → List ℕ → Made
object_of kind body = record { kind = kind; body = body }

-- what an object is
abbrev pub made_from : Entry → Made
made_from object = record { kind = object.name.kind; body = object.body }

-- the kinds and bodies of these objects
abbrev pub made : List Entry → List Made
made objects = map made_from objects

module _ (id : Kind → List ℕ → List ℕ) where
  -- the name of an object
  abbrev pub name_of : Made → Name
  name_of m = record { kind = m.kind; id = id m.kind m.body }

  -- the names of objects
  abbrev pub names_of_made : List Made → List Name
  names_of_made given = map name_of given

  -- Their ids have twenty bytes.
  abbrev pub HaveIds : List Made → Type 0
  HaveIds given = (m : Made) → Contains given m → IsId (id m.kind m.body)

-- Why a body of its kind makes no object: the fault is its length, which is above the limit. Of want of memory nothing is
-- said.
abbrev pub ExplainsMake : List ℕ → MakeFault → Type 0
ExplainsMake body (TooLong len) = (len ≡ length body) × (body_limit < len)
ExplainsMake body Memory = Unit {0}
