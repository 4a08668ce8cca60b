-- Objects with all that their bodies name.
use Rattle.std.specs.Prelude.{ℕ, List, map, Contains}
use Rattle.std.specs.List.{AllByRecursion}
use Rattle.swh_base.specs.declared.kind.Kind.{Kind}
use Rattle.swh_base.specs.declared.kind.Kind.TheVariants.{Content}
use Rattle.swh_base.specs.declared.name.Name.{Name}
use Rattle.swh_base.specs.declared.entry.Entry.{Entry}
use Rattle.swh_base.specs.Snapshot.{snapshot_name}
use Rattle.swh_object.specs.Object.{IsObject}
use Rattle.swh_dedup.specs.declared.objects.Objects.{Objects}

-- the names of these entries
abbrev pub names_of : List Entry → List Name
names_of objects = map (λ e. e.name) objects

-- the name of a content of this id
abbrev pub content_name : List ℕ → Name
content_name id = record { kind = Content; id = id }

-- Each child of the entry is one of these.
abbrev pub HasChildrenAmong : List Name → Entry → Type 0
HasChildrenAmong names e = AllByRecursion (Contains names) e.kids

-- Each is an object, and each child of one is the name of one.
pub record AreWhole (id : Kind → List ℕ → List ℕ) (objects : List Entry) : Type 0 where
  pub each : AllByRecursion (IsObject id) objects
  pub kids : AllByRecursion (HasChildrenAmong (names_of objects)) objects

-- All that the snapshot reaches is among the objects, which have all of their children.
pub record HasAllThatIsReached {N : Type 0} (id : Kind → List ℕ → List ℕ) (loaded : Objects N) : Type 0 where
  pub objects : AreWhole id loaded.objects.items
  pub snapshot : Contains (names_of loaded.objects.items) (snapshot_name loaded.snapshot)
