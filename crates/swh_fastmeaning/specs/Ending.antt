-- The end of a stream: the branches of its snapshot on both sides of `HEAD`, and why there is none.
use Rattle.std.specs.Prelude.{◌≡◌, ◌⊎◌, ℕ, ◌<◌, ◌≤◌, Bool, true, false, List, [], ◌∷◌, length, filter, codes, Option, Some, None, IfSome, Result, Ok}
use Rattle.std.specs.List.{AllByRecursion}
use Rattle.std.specs.Ordering.{nat_cmp, is_lt, is_eq}
use Rattle.std.specs.declared.cmp.Ordering.{Ordering}
use Rattle.std.specs.declared.cmp.Ordering.TheVariants.{Less, Equal, Greater}
use Rattle.std.specs.Cmp.Lexicographic.{slice_cmp}
use Rattle.swh_base.specs.declared.entry.Entry.{Entry}
use Rattle.swh_base.specs.declared.visit.Which.{Which}
use Rattle.swh_base.specs.declared.visit.Which.TheVariants.{Body, Refs}
use Rattle.swh_base.specs.Limits.{body_limit}
use Rattle.swh_base.specs.Text.{IsRef}
use Rattle.swh_base.specs.Snapshot.{SnapshotBranch, BranchIsBefore}
use Rattle.swh_snpfmt.specs.Branches.{branch_views}
use Rattle.swh_dedup.specs.Making.{made_from}
use Rattle.swh_fastmeaning.specs.Aims.{AllAims}
use Rattle.swh_fastmeaning.specs.Feeding.{Loading}
use Rattle.swh_fastmeaning.specs.Snapshots.{snapshot_of, refs_of}
use Rattle.swh_fastmeaning.specs.declared.sides.Sides.{Sides}
use Rattle.swh_fastmeaning.specs.declared.sides.TheConstants.{REFS_LIMIT}
use Rattle.swh_fastmeaning.specs.declared.feed_fault.FeedFault.{FeedFault}
use Rattle.swh_fastmeaning.specs.declared.feed_fault.FeedFault.TheVariants.{BadStream, Limit, Memory}

-- the refs with a tip, but for `HEAD`: 65,536
abbrev pub refs_limit : ℕ
refs_limit = REFS_LIMIT

abbrev pub is_greater : Ordering → Bool
is_greater Less = false
is_greater Equal = false
is_greater Greater = true

-- how `HEAD` compares with the branch's name
abbrev pub head_to : SnapshotBranch → Ordering
head_to b = slice_cmp nat_cmp (codes "HEAD") b.name

-- The branches, in the order of their names, strictly ascend.
abbrev pub Ascend : List SnapshotBranch → Type 0
Ascend [] = Unit {0}
Ascend (b ∷ bs) = AllByRecursion (BranchIsBefore b) bs × Ascend bs

-- These are the parts of all branches: those whose names come before `HEAD`, those of that name, and those whose names
-- come after it.
pub record AreSides (all : List SnapshotBranch) (s : Sides) : Type 0 where
  pub before : branch_views s.before.items ≡ filter (λ b. is_greater (head_to b)) all
  pub same : branch_views s.same.items ≡ filter (λ b. is_eq (head_to b)) all
  pub after : branch_views s.after.items ≡ filter (λ b. is_lt (head_to b)) all

-- what stands at the name `HEAD`
abbrev pub middle : Option SnapshotBranch → List SnapshotBranch → List SnapshotBranch
middle None same = same
middle (Some head) same = head ∷ []

-- A head is a ref.
abbrev pub IsHead : Option (List ℕ) → Type 0
IsHead head = IfSome head IsRef

-- The object is the snapshot, and no more refs than may have a tip.
pub record EndsParts (head : Option (List ℕ)) (l : Loading) (object : Entry) : Type 0 where
  pub snapshot : made_from object ≡ snapshot_of head l.aims
  pub few : length (refs_of l.aims) ≤ refs_limit

-- The object is the snapshot, and the load stays as it is.
pub record EndsWith (head : Option (List ℕ)) (l : Loading) (state : Result Loading FeedFault) (object : Entry) : Type 0 where
  pub ends : EndsParts head l object
  pub stays : state ≡ Ok l

-- So many refs have a tip, more than may; or no more than may, and their snapshot has so many bytes, above the limit.
abbrev pub PassesEnd : {T : Type 0} → Option (List ℕ) → AllAims T → Which → ℕ → Type 0
PassesEnd head aims which number =
    ((which ≡ Refs) × (number ≡ length (refs_of aims)) × (refs_limit < number))
    ⊎ ((which ≡ Body) × (length (refs_of aims) ≤ refs_limit) × (number ≡ length (snapshot_of head aims).body) × (body_limit < number))

-- Why a stream's end is refused: too many refs have a tip, or else the snapshot's body is above the limit. Of want of
-- memory nothing is said.
abbrev pub ExplainsEnd : {T : Type 0} → Option (List ℕ) → AllAims T → FeedFault → Type 0
ExplainsEnd head aims (BadStream at why) = ⊥
ExplainsEnd head aims (Limit which number) = PassesEnd head aims which number
ExplainsEnd head aims Memory = Unit {0}
