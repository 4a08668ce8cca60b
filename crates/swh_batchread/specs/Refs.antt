-- Files of refs (git-show-ref(1), with --head and --dereference): a line for each ref; and the snapshot of the refs of a batch.
use Rattle.std.specs.Prelude.{◌≡◌, ◌≢◌, ◌↔◌, ℕ, ◌≤◌, Bool, false, not, nat_eq, List, ◌∷◌, ◌++◌, [], length, map, filter, Contains, Option, IsSome, codes}
use Rattle.std.specs.List.{AllByRecursion, flat_map, filter_map, ends_with}
use Rattle.std.specs.Option.{option_map}
use Rattle.std.specs.Ordering.{nat_cmp}
use Rattle.std.specs.Cmp.Lexicographic.{slice_cmp}
use Rattle.std.specs.Map.{lookup}
use Rattle.std.specs.BTreeMap.{is_at}
use Rattle.hex.specs.Hex.{encode_lower}
use Rattle.swh_base.specs.declared.entry.Entry.{Entry}
use Rattle.swh_base.specs.declared.kind.Kind.{Kind}
use Rattle.swh_base.specs.declared.kind.Kind.TheVariants.{Snapshot}
use Rattle.swh_base.specs.declared.name.Name.{Name}
use Rattle.swh_base.specs.Limits.{body_limit, line_limit}
use Rattle.swh_base.specs.Name.{IsId}
use Rattle.swh_base.specs.Snapshot.{SnapshotBranch, AreBranches, snapshot_name, snapshot_text}
use Rattle.swh_base.specs.Snapshot.BranchTarget.{ToObject}
use Rattle.swh_dedup.specs.Making.{made_from, object_of}
use Rattle.swh_dedup.specs.Whole.{names_of, HasChildrenAmong}
use Rattle.swh_batchread.specs.declared.limits.TheConstants.{REFS_LIMIT}
use Rattle.swh_batchread.specs.Batch.{input_limit}

-- the refs that a file may have, but for `HEAD`: 65,536
abbrev pub refs_limit : ℕ
refs_limit = REFS_LIMIT

-- what a line says: the id that a ref leads to, and the ref's name
pub record RefLine : Type 0 where
  pub id : List ℕ
  pub name : List ℕ

-- the id in hexadecimal digits, a space and the name
abbrev pub ref_line : RefLine → List ℕ
ref_line r = encode_lower r.id ++ 32 ∷ r.name

-- the line of a ref
abbrev pub ref_text : RefLine → List ℕ
ref_text r = ref_line r ++ 10 ∷ []

-- the lines, one after another
abbrev pub refs_text : List RefLine → List ℕ
refs_text rs = flat_map ref_text rs

-- The id has twenty bytes, the name is not empty and has no NUL and no LF, and the line is within the limit.
pub record IsRefLine (r : RefLine) : Type 0 where
  pub id : IsId r.id
  pub some : r.name ≢ []
  pub no_nul : Contains r.name 0 → ⊥
  pub no_feed : Contains r.name 10 → ⊥
  pub short : length (ref_text r) ≤ line_limit

-- A name with `^{}` at its end is that of no ref: the line tells what a tag leads to in the end.
abbrev pub is_peeled : List ℕ → Bool
is_peeled name = ends_with nat_eq name (codes "^{}")

-- the refs among the lines
abbrev pub kept_refs : List RefLine → List RefLine
kept_refs rs = filter (λ r. not (is_peeled r.name)) rs

-- the refs that count
abbrev pub counted_refs : List RefLine → List RefLine
counted_refs rs = filter (λ r. not (is_at (slice_cmp nat_cmp (codes "HEAD")) r.name)) (kept_refs rs)

-- No ref of this name was met, where the line is one of a ref.
abbrev pub IsNewRef : List RefLine → RefLine → Type 0
IsNewRef before r = is_peeled r.name ≡ false → Contains (map (λ o. o.name) (kept_refs before)) r.name → ⊥

-- A line may follow these: it is a line, a ref of its name was not met, and no limit is passed.
pub record MayFollowRefs (before : List RefLine) (r : RefLine) : Type 0 where
  pub line : IsRefLine r
  pub new : IsNewRef before r
  pub within : length (refs_text (before ++ r ∷ [])) ≤ input_limit
  pub few : length (counted_refs (before ++ r ∷ [])) ≤ refs_limit

-- Each line may follow those before it.
abbrev pub AreRefLines : List RefLine → Type 0
AreRefLines rs = (before : List RefLine) (r : RefLine) (more : List RefLine) → rs ≡ before ++ r ∷ more → MayFollowRefs before r

-- the ids to which the refs among the lines lead, in the order of the lines
abbrev pub ref_ids : List RefLine → List (List ℕ)
ref_ids rs = map (λ r. r.id) (kept_refs rs)

-- the kind of the first of these names that has this id
abbrev pub kind_at : List Name → List ℕ → Option Kind
kind_at names id = lookup (is_at (slice_cmp nat_cmp id)) (map (λ n. (n.id, n.kind)) names)

-- One of these names has this id.
abbrev pub HasId : List Name → List ℕ → Type 0
HasId names id = IsSome (kind_at names id)

-- a branch of this name to the object of this kind and id
abbrev pub branch_to : RefLine → Kind → SnapshotBranch
branch_to r kind = record { name = r.name; target = ToObject (record { kind = kind; id = r.id }) }

-- the branch of a ref, where its id has a kind
abbrev pub branch_with : (List ℕ → Option Kind) → RefLine → Option SnapshotBranch
branch_with kind_of r = option_map (branch_to r) (kind_of r.id)

-- the branch of a ref: to the first object of its id
abbrev pub branch_of : List Name → RefLine → Option SnapshotBranch
branch_of names r = branch_with (kind_at names) r

-- These are the branches of the refs, in the order of their names.
pub record AreBranchesOf (names : List Name) (rs : List RefLine) (branches : List SnapshotBranch) : Type 0 where
  pub good : AreBranches branches
  pub same : (b : SnapshotBranch) → Contains branches b ↔ Contains (filter_map (branch_of names) (kept_refs rs)) b

-- All that the refs lead to, and all children of the objects, are names of objects.
pub record AreAllThere (objects : List Entry) (rs : List RefLine) : Type 0 where
  pub refs : AllByRecursion (HasId (names_of objects)) (ref_ids rs)
  pub kids : AllByRecursion (HasChildrenAmong (names_of objects)) objects

-- The text is a file of these lines.
pub record AreRefs (text : List ℕ) (refs : List RefLine) : Type 0 where
  pub are : AreRefLines refs
  pub spelled : text ≡ refs_text refs

-- All that the refs and the objects name is there, and what is given is the objects, and behind them the snapshot of the refs,
-- with its id.
pub record GivesSnapshot (refs : List RefLine) (objects given : List Entry) (id : List ℕ) : Type 0 where
  pub there : AreAllThere objects refs
  pub branches : List SnapshotBranch
  pub branches_are : AreBranchesOf (names_of objects) refs branches
  pub short : length (snapshot_text branches) ≤ body_limit
  pub snapshot : Entry
  pub made : made_from snapshot ≡ object_of Snapshot (snapshot_text branches)
  pub objects_are : given ≡ objects ++ snapshot ∷ []
  pub id_is : id ≡ snapshot.name.id

-- What is given is the objects, and behind them a snapshot, with its id.
pub record EndsWithSnapshot (objects given : List Entry) (id : List ℕ) : Type 0 where
  pub snapshot : Entry
  pub objects_are : given ≡ objects ++ snapshot ∷ []
  pub named : snapshot.name ≡ snapshot_name id

-- The text is a file of refs, and with these objects this is what it gives.
pub record MeansRefs (text : List ℕ) (objects given : List Entry) (id : List ℕ) : Type 0 where
  pub refs : List RefLine
  pub are : AreRefs text refs
  pub gives : GivesSnapshot refs objects given id
