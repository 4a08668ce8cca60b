-- Objects that are given out where they are new, each once and after all that it names.
use Rattle.std.specs.Prelude.{◌≡◌, ℕ, List, [], ◌∷◌, ◌++◌, map, Contains}
use Rattle.std.specs.List.{AllByRecursion}
use Rattle.swh_base.specs.declared.kind.Kind.{Kind}
use Rattle.swh_base.specs.declared.name.Name.{Name}
use Rattle.swh_base.specs.declared.entry.Entry.{Entry}
use Rattle.swh_base.specs.Manifest.{AreChildren}
use Rattle.swh_object.specs.Object.{IsObject}
use Rattle.swh_model.specs.Meaning.{Made}
use Rattle.swh_dedup.specs.Making.{made_from, made, name_of, names_of_made, HaveIds}

module _ (id : Kind → List ℕ → List ℕ) where
  -- Each is an object that was not given before, and each of its children is the name of one that was.
  abbrev pub AreNew : List Made → List Entry → Type 0
  AreNew before [] = Unit {0}
  AreNew before (e ∷ es) = (Contains before (made_from e) → ⊥) × IsObject id e × AllByRecursion (Contains (map (name_of id) before)) e.kids × AreNew (before ++ made_from e ∷ []) es

  -- The children of the object's body are names of these, whose ids have twenty bytes.
  abbrev pub IsReady : List Made → Made → Type 0
  IsReady before m = HaveIds id before → (kids : List Name) → AreChildren m.kind m.body kids → AllByRecursion (Contains (names_of_made id before)) kids

  -- Each object's children are among these and the objects before it.
  abbrev pub AreReady : List Made → List Made → Type 0
  AreReady before [] = Unit {0}
  AreReady before (m ∷ ms) = IsReady before m × AreReady (before ++ m ∷ []) ms

  -- Of the objects `ms` those are given that were not given before.
  pub record Gives (ms old new : List Made) (objects : List Entry) : Type 0 where
    pub given : new ≡ old ++ made objects
    pub each : AllByRecursion (λ e. Contains ms (made_from e)) objects
    pub all : (m : Made) → Contains ms m → Contains new m
    pub fresh : AreNew old objects
    pub ids : HaveIds id new
