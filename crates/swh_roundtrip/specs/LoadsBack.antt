-- What a text that was cooked loads back as.
use Rattle.std.specs.Prelude.{◌≡◌, ◌⊎◌, ℕ, List, [], ◌∷◌, Option, Contains}
use Rattle.swh_base.specs.declared.kind.Kind.{Kind}
use Rattle.swh_base.specs.declared.kind.Kind.TheVariants.{Content, Directory, Revision as RevisionKind, Release as ReleaseKind, Snapshot}
use Rattle.swh_base.specs.declared.name.Name.{Name}
use Rattle.swh_base.specs.Release.{Release}
use Rattle.swh_base.specs.Snapshot.{SnapshotBranch, ToObject, snapshot_text}
use Rattle.swh_model.specs.Archive.{Bodies}
use Rattle.swh_model.specs.Meaning.{Made, StreamMeaning}
use Rattle.swh_graph.specs.Holding.{HoldsRelease}
use Rattle.swh_fastcarried.specs.Rules.{tag_branch}
use Rattle.swh_fastload.specs.Input.{Means}
use Rattle.swh_fastcook.specs.Loaded.{AreLoadedOf, main_branch}
use Rattle.swh_roundtrip.specs.Made.{IsHeldMade}

module _ (id : Kind → List ℕ → List ℕ) (bodies : Bodies) (root : Name) where
  -- One of the branches is the release's own.
  pub record LoadsTag (snapshot : List ℕ) : Type 0 where
    pub branches : List SnapshotBranch
    pub is : snapshot ≡ id Snapshot (snapshot_text branches)
    pub release : Release
    pub holds : HoldsRelease bodies root release
    pub there : Contains branches (record { name = tag_branch release.tag; target = ToObject root })

  -- The id is that of the snapshot that a root of this kind loads as: a snapshot as itself; a revision as the snapshot of the one
  -- branch `refs/heads/main` to it; a release as a snapshot whose branch `refs/tags/` and its name is it.
  abbrev pub LoadsAs : Kind → List ℕ → Type 0
  LoadsAs Content snapshot = ⊥
  LoadsAs Directory snapshot = ⊥
  LoadsAs RevisionKind snapshot = snapshot ≡ id Snapshot (snapshot_text (main_branch root ∷ []))
  LoadsAs ReleaseKind snapshot = LoadsTag snapshot
  LoadsAs Snapshot snapshot = snapshot ≡ root.id

-- The text, with this head, is a stream within the limits, and is carried out; its snapshot is the one that the root loads as,
-- with the branches that are loaded; and what is made beside it is held.
pub record LoadsBack (id : Kind → List ℕ → List ℕ) (bodies : Bodies) (order : List Name) (root : Name) (head : Option (List ℕ)) (text : List ℕ) : Type 0 where
  pub meaning : StreamMeaning
  pub means : Means id head text meaning
  pub as_root : LoadsAs id bodies root root.kind meaning.snapshot
  pub branches : List SnapshotBranch
  pub loaded : AreLoadedOf bodies order root root.kind branches
  pub snapshot : meaning.snapshot ≡ id Snapshot (snapshot_text branches)
  pub objects : (o : Made) → Contains meaning.objects o → IsHeldMade bodies o ⊎ (o ≡ record { kind = Snapshot; body = snapshot_text branches })
