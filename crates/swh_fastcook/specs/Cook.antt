-- What a name is cooked to, and what of it a stream cannot carry.
use Rattle.std.specs.Prelude.{◌≡◌, ◌≢◌, ℕ, Option, Some, None, List, Contains, codes}
use Rattle.swh_base.specs.declared.kind.Kind.{Kind}
use Rattle.swh_base.specs.declared.kind.Kind.TheVariants.{Content, Directory, Revision, Release, Snapshot}
use Rattle.swh_base.specs.declared.name.Name.{Name}
use Rattle.swh_base.specs.Snapshot.{SnapshotBranch, ToBranch}
use Rattle.swh_model.specs.Archive.{Bodies, body_of}
use Rattle.swh_graph.specs.Holding.{HoldsSnapshot}
use Rattle.swh_postorder.specs.Postorder.{IsPostorder}
use Rattle.swh_carried.specs.Uncarried.{IsUncarried, AreCarried}
use Rattle.swh_carried.specs.declared.fault.Why.{Why}
use Rattle.swh_fastcarried.specs.Rules.{BreaksIn}
use Rattle.swh_fastcook.specs.Length.{IsLongStream}
use Rattle.swh_fastcook.specs.Loaded.{LoadsMany}
use Rattle.swh_fastcook.specs.Stream.{IsStreamOf}

-- which of a stream's rules a name breaks, where these are reached from the root, in their order. A content is written as its
-- bytes, which no rule limits.
abbrev pub BreaksStream : Bodies → Name → List Name → Name → Why → Type 0
BreaksStream bodies root order = BreaksIn bodies root order (LoadsMany bodies order root) ((root.kind ≢ Content) × IsLongStream bodies order root)

-- The alias `HEAD` of a snapshot that is held leads to this branch.
pub record LeadsHead (bodies : Bodies) (root : Name) (target : List ℕ) : Type 0 where
  pub kind : root.kind ≡ Snapshot
  pub branches : List SnapshotBranch
  pub holds : HoldsSnapshot bodies root branches
  pub there : Contains branches (record { name = codes "HEAD"; target = ToBranch target })

-- where that alias leads, if there is one
abbrev pub IsHeadOf : Bodies → Name → Option (List ℕ) → Type 0
IsHeadOf bodies root None = (target : List ℕ) → LeadsHead bodies root target → ⊥
IsHeadOf bodies root (Some target) = LeadsHead bodies root target

module _ (bodies : Bodies) (children_of : Name → Option (List Name)) (root : Name) where
  -- All that is reached is held, and a stream carries it.
  pub record IsCarriedStream : Type 0 where
    pub order : List Name
    pub is_order : IsPostorder children_of root order
    pub carried : AreCarried children_of (BreaksStream bodies root order) order

  -- All that is reached is held, and of it this is the first that a stream cannot carry.
  pub record IsUncarriedStream (name : Name) (why : Why) : Type 0 where
    pub order : List Name
    pub is_order : IsPostorder children_of root order
    pub is : IsUncarried children_of (BreaksStream bodies root order) order name why

  -- what is written of a root of this kind: a content's body, or the stream of all that is reached
  abbrev pub IsTextOfKind : Kind → List ℕ → Type 0
  IsTextOfKind Content text = body_of bodies root ≡ Some text
  IsTextOfKind Directory text = IsStreamOf bodies children_of root text
  IsTextOfKind Revision text = IsStreamOf bodies children_of root text
  IsTextOfKind Release text = IsStreamOf bodies children_of root text
  IsTextOfKind Snapshot text = IsStreamOf bodies children_of root text

  -- the same, by the kind of the root itself
  abbrev pub IsCookedText : List ℕ → Type 0
  IsCookedText text = IsTextOfKind root.kind text
