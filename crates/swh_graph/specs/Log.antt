-- The log of a revision: it, its parents in their order, their parents in the order of these, and so on, each name once.
use Rattle.std.specs.Prelude.{◌≡◌, ℕ, ◌<◌, ◌≤◌, List, [], ◌∷◌, ◌++◌, None, Contains, length, map}
use Rattle.std.specs.List.{AllByRecursion}
use Rattle.swh_base.specs.declared.name.Name.{Name}
use Rattle.swh_base.specs.Reach.{IsAmong}
use Rattle.swh_base.specs.Revision.{Revision, revision_name}
use Rattle.swh_model.specs.Archive.{Bodies, body_of, IsHeld}
use Rattle.swh_graph.specs.Answer.{GraphAnswer, Found, Missing, Nowhere}
use Rattle.swh_graph.specs.Holding.{HoldsRevision}

-- A revision is held under the name, and has these parents in this order.
pub record HasParents (bodies : Bodies) (name : Name) (parents : List Name) : Type 0 where
  pub revision : Revision
  pub holds : HoldsRevision bodies name revision
  pub are : parents ≡ map revision_name revision.parents

-- Revisions are held under these names, and these are the parents of the first, then those of the second, and so on.
abbrev pub HaveParents : Bodies → List Name → List Name → Type 0
HaveParents bodies [] parents = parents ≡ []
HaveParents bodies (n ∷ ns) parents =
    (first : List Name) × ((more : List Name) × (HasParents bodies n first × HaveParents bodies ns more × (parents ≡ first ++ more)))

-- Of the root and the parents of those before it, in their order, the name is the first that is none of those before it.
pub record ComesNext (bodies : Bodies) (root : Name) (before : List Name) (name : Name) : Type 0 where
  pub parents : List Name
  pub have : HaveParents bodies before parents
  pub earlier : List Name
  pub later : List Name
  pub order : root ∷ parents ≡ earlier ++ name ∷ later
  pub listed : IsAmong earlier before
  pub fresh : Contains before name → ⊥

-- Each of the names comes next after those before it.
abbrev pub AreNext : Bodies → Name → List Name → List Name → Type 0
AreNext bodies root before [] = Unit {0}
AreNext bodies root before (n ∷ ns) = ComesNext bodies root before n × AreNext bodies root (before ++ n ∷ []) ns

-- The names stand in the order of the log, and are held.
pub record IsLogFront (bodies : Bodies) (root : Name) (names : List Name) : Type 0 where
  pub order : AreNext bodies root [] names
  pub held : AllByRecursion (IsHeld bodies) names

-- The names are the log, up to the limit.
pub record IsLog (bodies : Bodies) (root : Name) (limit : ℕ) (names : List Name) : Type 0 where
  pub front : IsLogFront bodies root names
  pub few : length names ≤ limit
  pub whole : length names < limit → (name : Name) → ComesNext bodies root names name → ⊥

-- The name is the first of the log, up to the limit, that is not held.
pub record IsLogGap (bodies : Bodies) (root : Name) (limit : ℕ) (name : Name) : Type 0 where
  pub before : List Name
  pub front : IsLogFront bodies root before
  pub few : length before < limit
  pub next : ComesNext bodies root before name
  pub missing : body_of bodies name ≡ None

-- what is answered to who asks for at most so many names of the root's log
abbrev pub IsLogAnswer : Bodies → Name → ℕ → GraphAnswer (List Name) → Type 0
IsLogAnswer bodies root limit (Found names) = IsLog bodies root limit names
IsLogAnswer bodies root limit (Missing name) = IsLogGap bodies root limit name
IsLogAnswer bodies root limit (Nowhere component) = ⊥
