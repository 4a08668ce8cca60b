-- What is asked of an archive's bodies.
use Rattle.std.specs.Prelude.{◌≡◌, ℕ, ◌≤◌, Option, Some, List, [], ◌∷◌, Contains, length}
use Rattle.std.specs.List.{AllByRecursion}
use Rattle.swh_base.specs.Limits.{body_limit}
use Rattle.swh_base.specs.declared.kind.Kind.{Kind}
use Rattle.swh_base.specs.declared.kind.Kind.TheVariants.{Directory}
use Rattle.swh_base.specs.declared.name.Name.{Name}
use Rattle.swh_base.specs.Name.{IsByte}
use Rattle.swh_base.specs.Reach.{ReachesIn}
use Rattle.swh_model.specs.Archive.{Bodies, body_of}
use Rattle.swh_model.specs.Entries.{entries_of}
use Rattle.swh_model.specs.declared.event.Event.{Event}

-- Of a directory the body, if one is held, is made of bytes: each name in a path has its digits then, and each id.
abbrev pub IsOfBytes : Bodies → Name → Type 0
IsOfBytes bodies n = (body : List ℕ) → n.kind ≡ Directory → body_of bodies n ≡ Some body → AllByRecursion IsByte body

-- The same of each of some names.
abbrev pub AreOfBytes : Bodies → List Name → Type 0
AreOfBytes bodies names = (n : Name) → Contains names n → IsOfBytes bodies n

-- Of each directory that is reached from the root the body, if one is held, is made of bytes.
abbrev pub AreReachedOfBytes : Bodies → (Name → Option (List Name)) → Name → Type 0
AreReachedOfBytes bodies children_of root = (n : Name) → ReachesIn children_of root n → IsOfBytes bodies n

-- No held body is longer than one may be.
abbrev pub AreInLimit : Bodies → Type 0
AreInLimit bodies = (n : Name) (body : List ℕ) → body_of bodies n ≡ Some body → length body ≤ body_limit

-- Each stands under its name.
abbrev pub AreNamed : (Kind → List ℕ → List ℕ) → Bodies → Type 0
AreNamed id bodies = (n : Name) (body : List ℕ) → body_of bodies n ≡ Some body → n.id ≡ id n.kind body

-- The body of each entry of the events is made of bytes, as those of a machine are.
abbrev pub AreMadeOfBytes : List Event → Type 0
AreMadeOfBytes [] = Unit {0}
AreMadeOfBytes (e ∷ events) = AllByRecursion (λ entry. AllByRecursion IsByte entry.body) (entries_of e.what) × AreMadeOfBytes events
