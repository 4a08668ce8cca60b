-- The snapshot of the tips at the end of a stream: a branch for each ref with a tip, and where a head is named `HEAD` as
-- an alias to it, in place of a ref `HEAD`.
use Rattle.std.specs.Prelude.{ℕ, not, List, map, filter, Option, codes}
use Rattle.std.specs.Ordering.{nat_cmp}
use Rattle.std.specs.BTreeMap.{is_at}
use Rattle.std.specs.Cmp.Lexicographic.{slice_cmp}
use Rattle.swh_base.specs.declared.kind.Kind.TheVariants.{Snapshot}
use Rattle.swh_base.specs.Snapshot.{SnapshotBranch, snapshot_text}
use Rattle.swh_base.specs.Snapshot.BranchTarget.{ToObject}
use Rattle.swh_model.specs.Meaning.{Made, with_head}
use Rattle.swh_fastmeaning.specs.Aims.{Aim, AllAims}

-- the branch of a tip
abbrev pub tip_branch : {T : Type 0} → List ℕ × Aim T → SnapshotBranch
tip_branch e = record { name = e.0; target = ToObject e.1.name }

-- the branches, in the order of their names
abbrev pub branches_of : {T : Type 0} → Option (List ℕ) → AllAims T → List SnapshotBranch
branches_of head aims = with_head head (map tip_branch aims.tips)

-- the refs with a tip, but for `HEAD`
abbrev pub refs_of : {T : Type 0} → AllAims T → List (List ℕ × Aim T)
refs_of aims = filter (λ e. not (is_at (slice_cmp nat_cmp (codes "HEAD")) e.0)) aims.tips

-- the snapshot of a head, where one is named, and of the tips
abbrev pub snapshot_of : {T : Type 0} → Option (List ℕ) → AllAims T → Made
snapshot_of head aims = record { kind = Snapshot; body = snapshot_text (branches_of head aims) }
