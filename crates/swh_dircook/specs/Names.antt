-- Names that no folder can have.
use Rattle.std.specs.Prelude.{◌≢◌, ℕ, List, [], ◌∷◌, Option, Some, None, Contains}
use Rattle.std.specs.Str.{IsUtf8}
use Rattle.swh_dirfmt.specs.declared.entry.SpelledEntry.{SpelledEntry}
use Rattle.swh_carried.specs.declared.fault.Why.{Why}
use Rattle.swh_carried.specs.declared.fault.Why.TheVariants.{Cycle, Revision, Release, Empty, Dots, Text, Path, Branch, Tagless, Refs, Length}
use Rattle.swh_carried.specs.Rules.{IsDots}

-- The name is neither `.` nor `..`.
unfoldable pub IsPlainName : List ℕ → Type 0
IsPlainName name = (name ≢ 46 ∷ []) × (name ≢ 46 ∷ 46 ∷ [])

-- One of the entries is `.` or `..`.
abbrev pub HaveDots : List SpelledEntry → Type 0
HaveDots es = (e : SpelledEntry) × Contains es e × IsDots e.name.now

-- One of the entries has a name that is no UTF-8.
abbrev pub HaveOtherText : List SpelledEntry → Type 0
HaveOtherText es = (e : SpelledEntry) × Contains es e × (IsUtf8 e.name.now → ⊥)

-- the first of the two rules that the entries break, if they break one
abbrev pub BreaksByName : List SpelledEntry → Option Why → Type 0
BreaksByName es None = (HaveDots es → ⊥) × (HaveOtherText es → ⊥)
BreaksByName es (Some Dots) = HaveDots es
BreaksByName es (Some Text) = (HaveDots es → ⊥) × HaveOtherText es
BreaksByName es (Some Cycle) = ⊥
BreaksByName es (Some Revision) = ⊥
BreaksByName es (Some Release) = ⊥
BreaksByName es (Some Empty) = ⊥
BreaksByName es (Some Path) = ⊥
BreaksByName es (Some Branch) = ⊥
BreaksByName es (Some Tagless) = ⊥
BreaksByName es (Some Refs) = ⊥
BreaksByName es (Some Length) = ⊥
