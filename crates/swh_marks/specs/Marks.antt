-- The marks of objects (git-fast-import(1), mark): those that are written, in their order, from 1.
use Rattle.std.specs.Prelude.{◌≡◌, ℕ, ◌+◌, Bool, true, false, if◌then◌else◌, List, [], ◌∷◌, ◌++◌, length, filter}
use Rattle.std.specs.BTreeMap.{is_at}
use Rattle.swh_base.specs.declared.kind.Kind.{Kind}
use Rattle.swh_base.specs.declared.kind.Kind.TheVariants.{Content, Directory, Revision, Release, Snapshot}
use Rattle.swh_base.specs.declared.name.Name.{Name}
use Rattle.swh_base.specs.Name.{name_cmp}
use Rattle.swh_postorder.specs.Postorder.{Precedes}

-- contents, revisions and releases have a command of their own
abbrev pub is_written_kind : Kind → Bool
is_written_kind Content = true
is_written_kind Directory = false
is_written_kind Revision = true
is_written_kind Release = true
is_written_kind Snapshot = false

-- whether the name's object has a command of its own
abbrev pub is_written : Name → Bool
is_written name = is_written_kind name.kind

-- those of the names that are written
abbrev pub written : List Name → List Name
written names = filter is_written names

-- The mark is one more than the number of the written names that stand before this one.
pub record HasMark (order : List Name) (name : Name) (mark : ℕ) : Type 0 where
  pub before : List Name
  pub behind : List Name
  pub cut : order ≡ before ++ name ∷ behind
  pub number : mark ≡ length (written before) + 1

-- one for a name that is written, and nothing for another
abbrev pub mark_step : Bool → ℕ
mark_step true = 1
mark_step false = 0

-- the mark of a name in the order: one more than the number of the written names that stand before it
abbrev pub mark_of : List Name → Name → ℕ
mark_of [] name = 0
mark_of (n ∷ ns) name = if is_at (name_cmp n) name then 1 else mark_step (is_written n) + mark_of ns name

-- No name stands twice.
abbrev pub StandOnce : List Name → Type 0
StandOnce order = (name : Name) → Precedes order name name → ⊥
