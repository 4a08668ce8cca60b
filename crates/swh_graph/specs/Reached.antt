-- All that is reached from a name.
use Rattle.std.specs.Prelude.{◌≡◌, ◌≢◌, ◌↔◌, List, None, Contains}
use Rattle.std.specs.declared.cmp.Ordering.TheVariants.{Greater}
use Rattle.std.specs.List.Sorted.{IsStrictlySortedBy}
use Rattle.swh_base.specs.declared.name.Name.{Name}
use Rattle.swh_base.specs.Name.{name_cmp}
use Rattle.swh_model.specs.Archive.{Bodies, body_of, Reaches, IsClosed}
use Rattle.swh_graph.specs.Answer.{GraphAnswer, Found, Missing, Nowhere}

-- The names are those that are reached, in ascending order, and all of them are held.
pub record IsReach (bodies : Bodies) (root : Name) (names : List Name) : Type 0 where
  pub ascending : IsStrictlySortedBy name_cmp names
  pub are : (name : Name) → Contains names name ↔ Reaches bodies root name
  pub closed : IsClosed bodies root

-- The name is reached and not held, and no name before it is.
pub record IsReachGap (bodies : Bodies) (root name : Name) : Type 0 where
  pub reached : Reaches bodies root name
  pub missing : body_of bodies name ≡ None
  pub first : (other : Name) → Reaches bodies root other → body_of bodies other ≡ None → name_cmp name other ≢ Greater

-- what is answered to who asks for all that is reached from the root
abbrev pub IsReachAnswer : Bodies → Name → GraphAnswer (List Name) → Type 0
IsReachAnswer bodies root (Found names) = IsReach bodies root names
IsReachAnswer bodies root (Missing name) = IsReachGap bodies root name
IsReachAnswer bodies root (Nowhere number) = ⊥
