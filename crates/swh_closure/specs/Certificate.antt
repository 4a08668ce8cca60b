-- What speaks against a certificate, and against that all that is reached from a name is held. A graph is the function that
-- has the children of each held name.
use Rattle.std.specs.Prelude.{◌≡◌, Option, Some, None, List, Contains}
use Rattle.std.specs.List.Sorted.{IsSorted}
use Rattle.swh_base.specs.declared.name.Name.{Name}
use Rattle.swh_base.specs.Name.{name_cmp}
use Rattle.swh_base.specs.Reach.{IsHeldIn, IsChildIn, IsCovered, ReachesIn}
use Rattle.swh_closure.specs.declared.certificate.Gap.{Gap}
use Rattle.swh_closure.specs.declared.certificate.Gap.TheVariants.{NotHeld, Unlisted}
use Rattle.swh_closure.specs.declared.walking.WalkFault.{WalkFault}
use Rattle.swh_closure.specs.declared.walking.WalkFault.TheVariants.{Missing, Memory}

-- What speaks against these names as a certificate of the root.
abbrev pub IsGap : (Name → Option (List Name)) → List Name → List Name → Name → Gap → Type 0
-- a listed name is not held
IsGap children_of closed names root (NotHeld name) = Contains names name × (children_of name ≡ None)
-- the root is neither listed nor closed
IsGap children_of closed names root (Unlisted None child) = (child ≡ root) × (IsCovered closed names child → ⊥)
-- a listed name has a child that is neither
IsGap children_of closed names root (Unlisted (Some parent) child) =
    Contains names parent × IsChildIn children_of parent child × (IsCovered closed names child → ⊥)

-- A child that is not held is reached from the root.
abbrev pub IsMissing : (Name → Option (List Name)) → Name → Option Name → Name → Type 0
-- it is the root
IsMissing children_of root None child = (child ≡ root) × (children_of child ≡ None)
-- it is a child of a name that is reached and held; the root is held too
IsMissing children_of root (Some parent) child =
    IsHeldIn children_of root × ReachesIn children_of root parent × IsChildIn children_of parent child × (children_of child ≡ None)

-- What a walk refuses for: it says nothing where memory ran out.
abbrev pub IsWalkFault : (Name → Option (List Name)) → Name → WalkFault → Type 0
IsWalkFault children_of root (Missing parent child) = IsMissing children_of root parent child
IsWalkFault children_of root Memory = Unit {0}

-- No name is before the one that stands before it.
abbrev pub IsAscending : List Name → Type 0
IsAscending = IsSorted name_cmp
