-- What marks and refs lead to while a stream is read (git-fast-import(1), mark, reset and tag).
use Rattle.std.specs.Prelude.{ℕ, List, Option, Some, None, Result, Ok, Err, [], map}
use Rattle.std.specs.Ordering.{nat_cmp}
use Rattle.std.specs.Cmp.Lexicographic.{slice_cmp}
use Rattle.std.specs.BTreeMap.{insert_entry, is_at}
use Rattle.std.specs.Map.{lookup, remove_entry}
use Rattle.swh_base.specs.declared.kind.Kind.TheVariants.{Content, Directory, Revision, Release, Snapshot}
use Rattle.swh_base.specs.declared.name.Name.{Name}
use Rattle.swh_fastgrammar.specs.declared.command.Commitish.{Commitish}
use Rattle.swh_fastgrammar.specs.declared.command.Commitish.TheVariants.{Mark, Branch}
use Rattle.swh_fastgrammar.specs.declared.fault.StreamWhy.{StreamWhy}
use Rattle.swh_fastgrammar.specs.declared.fault.StreamWhy.TheVariants.{Mark as NoMark, Branch as NoBranch}

-- what is not there: the place of the line that names it, and whether it is a mark, a ref's tip, or a path
pub record Missing : Type 0 where
  pub at : ℕ
  pub why : StreamWhy

-- what is there, or why it is not
abbrev pub or_missing : {X : Type 0} → Option X → ℕ → StreamWhy → Result X Missing
or_missing None at why = Err (record { at = at; why = why })
or_missing (Some x) at why = Ok x

-- an object, and where it is a commit its tree, in whatever form trees have
pub record Aim (T : Type 0) : Type 0 where
  pub name : Name
  pub tree : T

-- what the marks and the refs with a tip lead to; a later setting replaces an earlier one
pub record AllAims (T : Type 0) : Type 0 where
  pub marks : List (ℕ × Aim T)
  pub tips : List (List ℕ × Aim T)

module _ {T : Type 0} where
  -- nothing is set
  abbrev pub no_aims : AllAims T
  no_aims = record { marks = []; tips = [] }

  -- what the mark leads to
  abbrev pub mark_at : ℕ → AllAims T → Option (Aim T)
  mark_at mark aims = lookup (is_at (nat_cmp mark)) aims.marks

  -- the tip of the ref
  abbrev pub tip_at : List ℕ → AllAims T → Option (Aim T)
  tip_at ref aims = lookup (is_at (slice_cmp nat_cmp ref)) aims.tips

  -- with this mark, where one is given
  abbrev pub with_mark : Option ℕ → Aim T → AllAims T → AllAims T
  with_mark None aim aims = aims
  with_mark (Some mark) aim aims = record { marks = insert_entry nat_cmp aims.marks mark aim; tips = aims.tips }

  -- with this tip of the ref
  abbrev pub with_tip : List ℕ → Aim T → AllAims T → AllAims T
  with_tip ref aim aims = record { marks = aims.marks; tips = insert_entry (slice_cmp nat_cmp) aims.tips ref aim }

  -- without a tip of the ref
  abbrev pub without_tip : List ℕ → AllAims T → AllAims T
  without_tip ref aims = record { marks = aims.marks; tips = remove_entry (is_at (slice_cmp nat_cmp ref)) aims.tips }

  -- the object, where there is one and it is a commit
  abbrev pub if_commit : Option (Aim T) → Option (Aim T)
  if_commit None = None
  if_commit (Some aim) = elim aim.name.kind [ Content ↦ None | Directory ↦ None | Revision ↦ Some aim | Release ↦ None | Snapshot ↦ None ]

  -- the object, where there is one and it is a blob
  abbrev pub if_blob : Option (Aim T) → Option (Aim T)
  if_blob None = None
  if_blob (Some aim) = elim aim.name.kind [ Content ↦ Some aim | Directory ↦ None | Revision ↦ None | Release ↦ None | Snapshot ↦ None ]

  -- the commit that a line names
  abbrev pub commit_at : AllAims T → ℕ → Commitish → Result (Aim T) Missing
  commit_at aims at (Mark mark) = or_missing (if_commit (mark_at mark aims)) at NoMark
  commit_at aims at (Branch ref) = or_missing (if_commit (tip_at ref aims)) at NoBranch

  -- what a tag is of: a commit by its ref, or any object by its mark
  abbrev pub object_at : AllAims T → ℕ → Commitish → Result (Aim T) Missing
  object_at aims at (Mark mark) = or_missing (mark_at mark aims) at NoMark
  object_at aims at (Branch ref) = or_missing (if_commit (tip_at ref aims)) at NoBranch

  -- the blob that a change names by its mark
  abbrev pub blob_at : AllAims T → ℕ → ℕ → Result (Aim T) Missing
  blob_at aims at mark = or_missing (if_blob (mark_at mark aims)) at NoMark

-- an object with another form of its tree
abbrev pub aim_with : {T U : Type 0} → (T → U) → Aim T → Aim U
aim_with f aim = record { name = aim.name; tree = f aim.tree }

-- all of them, with another form of their trees
abbrev pub aims_with : {T U : Type 0} → (T → U) → AllAims T → AllAims U
aims_with f aims = record { marks = map (λ e. (e.0, aim_with f e.1)) aims.marks; tips = map (λ e. (e.0, aim_with f e.1)) aims.tips }
