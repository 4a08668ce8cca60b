-- What a SWHID resolves to (SWHID v1.2, qualified identifiers): its core object, where what it names is held, and its path
-- leads there from the root of its anchor.
use Rattle.std.specs.Prelude.{◌≡◌, ◌≢◌, ℕ, ◌⊎◌, List, [], ◌∷◌, ◌++◌, Some, None, length, drop, option_to_list}
use Rattle.std.specs.List.{AllByRecursion}
use Rattle.swh_base.specs.declared.name.Name.{Name}
use Rattle.swh_model.specs.Archive.{Bodies, body_of, IsHeld}
use Rattle.swh_swhid.specs.declared.swhid.Swhid.{Swhid}
use Rattle.swh_graph.specs.Answer.{GraphAnswer, Found, Missing, Nowhere}
use Rattle.swh_graph.specs.Path.{AreComponents, Follows, IsPathGap, IsPathEnd}
use Rattle.swh_graph.specs.Root.{IsRoot, IsRootGap, HasNoRoot}

-- the names in a SWHID: its core, its visit and its anchor
abbrev pub names_in : Swhid → List Name
names_in s = s.core ∷ (option_to_list s.visit ++ option_to_list s.anchor)

-- The name is the first of these that is not held.
pub record IsFirstMissing (bodies : Bodies) (names : List Name) (name : Name) : Type 0 where
  pub before : List Name
  pub behind : List Name
  pub cut : names ≡ before ++ name ∷ behind
  pub held : AllByRecursion (IsHeld bodies) before
  pub missing : body_of bodies name ≡ None

-- what stands behind the slash that a SWHID's path begins with
abbrev pub behind_slash : List ℕ → List ℕ
behind_slash path = drop 1 path

-- These are the components behind the slash, and none where nothing stands there.
abbrev pub AreComponentsOf : List ℕ → List (List ℕ) → Type 0
AreComponentsOf path components =
    ((behind_slash path ≡ []) × (components ≡ [])) ⊎ ((behind_slash path ≢ []) × AreComponents (behind_slash path) components)

-- The SWHID has an anchor, and a path of these components.
pub record HasWay (swhid : Swhid) (anchor : Name) (components : List (List ℕ)) : Type 0 where
  pub anchor_is : swhid.anchor ≡ Some anchor
  pub path : List ℕ
  pub path_is : swhid.path ≡ Some path
  pub are : AreComponentsOf path components

-- The components lead from the anchor's root to the object.
pub record LeadsTo (bodies : Bodies) (anchor : Name) (components : List (List ℕ)) (object : Name) : Type 0 where
  pub root : Name
  pub is_root : IsRoot bodies anchor root
  pub follows : Follows bodies root components object

-- The name is the first that is not held on the way to the anchor's root, and from there over the components.
abbrev pub IsWayGap : Bodies → Name → List (List ℕ) → Name → Type 0
IsWayGap bodies anchor components name =
    IsRootGap bodies anchor name ⊎ ((root : Name) × (IsRoot bodies anchor root × IsPathGap bodies root components name))

-- The components lead to another object, whose number stands for their end.
pub record EndsElsewhere (bodies : Bodies) (root : Name) (components : List (List ℕ)) (object : Name) (number : ℕ) : Type 0 where
  pub end : Name
  pub follows : Follows bodies root components end
  pub other : end ≢ object
  pub number_is : number ≡ length components

-- There is no root, or the component of this number is the first that leads nowhere, or the end is another object.
abbrev pub IsWayEnd : Bodies → Name → List (List ℕ) → Name → ℕ → Type 0
IsWayEnd bodies anchor components object number =
    (HasNoRoot bodies anchor × (number ≡ 0))
    ⊎ ((root : Name) × (IsRoot bodies anchor root × (IsPathEnd bodies root components number ⊎ EndsElsewhere bodies root components object number)))

-- All names in the SWHID are held, and where it has an anchor and a path, these lead to its core object.
pub record Resolves (bodies : Bodies) (swhid : Swhid) (name : Name) : Type 0 where
  pub core : name ≡ swhid.core
  pub held : AllByRecursion (IsHeld bodies) (names_in swhid)
  pub leads : (anchor : Name) (components : List (List ℕ)) → HasWay swhid anchor components → LeadsTo bodies anchor components swhid.core

-- All names in the SWHID are held, and on its way one is not.
pub record MissesOnWay (bodies : Bodies) (swhid : Swhid) (name : Name) : Type 0 where
  pub held : AllByRecursion (IsHeld bodies) (names_in swhid)
  pub anchor : Name
  pub components : List (List ℕ)
  pub way : HasWay swhid anchor components
  pub gap : IsWayGap bodies anchor components name

-- All names in the SWHID are held, and its way ends at this number.
pub record EndsOnWay (bodies : Bodies) (swhid : Swhid) (number : ℕ) : Type 0 where
  pub held : AllByRecursion (IsHeld bodies) (names_in swhid)
  pub anchor : Name
  pub components : List (List ℕ)
  pub way : HasWay swhid anchor components
  pub end : IsWayEnd bodies anchor components swhid.core number

-- what is answered to who asks what a SWHID resolves to
abbrev pub IsResolveAnswer : Bodies → Swhid → GraphAnswer Name → Type 0
IsResolveAnswer bodies swhid (Found name) = Resolves bodies swhid name
IsResolveAnswer bodies swhid (Missing name) = IsFirstMissing bodies (names_in swhid) name ⊎ MissesOnWay bodies swhid name
IsResolveAnswer bodies swhid (Nowhere number) = EndsOnWay bodies swhid number
