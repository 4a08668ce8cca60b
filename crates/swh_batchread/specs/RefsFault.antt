-- The first fault of a file of refs, the first limit that it passes, or the first name that no object of its batch has. A line
-- is judged in this order: its bytes by the limits, then its form, then its name, then the number of refs.
use Rattle.std.specs.Prelude.{◌≡◌, ◌≢◌, ◌⊎◌, ℕ, ◌+◌, ◌<◌, ◌≤◌, List, [], ◌∷◌, ◌++◌, length, Contains}
use Rattle.std.specs.List.{AllByRecursion, flat_map}
use Rattle.swh_base.specs.declared.entry.Entry.{Entry}
use Rattle.swh_base.specs.declared.name.Name.{Name}
use Rattle.swh_base.specs.declared.visit.Which.TheVariants.{Body, Line, Refs}
use Rattle.swh_base.specs.Limits.{body_limit, line_limit}
use Rattle.swh_base.specs.Snapshot.{SnapshotBranch, snapshot_text}
use Rattle.swh_outside.specs.Views.{Sources}
use Rattle.swh_fastlex.specs.Line.{IsLine}
use Rattle.swh_dedup.specs.Whole.{names_of}
use Rattle.swh_dedup.specs.declared.objects.Objects.{Objects}
use Rattle.swh_batchread.specs.declared.fault.BatchFault.{BatchFault}
use Rattle.swh_batchread.specs.declared.fault.BatchFault.TheVariants.{BadBatch, WrongName, BadRefs, NoObject, Limit, ReadFault, Memory}
use Rattle.swh_batchread.specs.Batch.{input_limit}
use Rattle.swh_batchread.specs.BatchFault.{IsPastInput, LinePasses}
use Rattle.swh_batchread.specs.Failing.{Fails}
use Rattle.swh_batchread.specs.Refs.{RefLine, ref_text, refs_text, refs_limit, counted_refs, ref_ids, HasId, IsNewRef, IsRefLine, AreRefLines, AreRefs, AreAllThere, AreBranchesOf, MeansRefs}

-- The text begins, within the limits of a file in which this stands at `at`, with this line, and then comes the rest.
pub record BeginsWithWhole (at : ℕ) (text line rest : List ℕ) : Type 0 where
  pub is : IsLine line
  pub cut : text ≡ line ++ rest
  pub short : length line ≤ line_limit
  pub within : at + length line ≤ input_limit

-- Something stands here, within the limits, and no LF.
pub record HasNoFeed (at : ℕ) (text : List ℕ) : Type 0 where
  pub some : text ≢ []
  pub no_feed : Contains text 10 → ⊥
  pub short : length text ≤ line_limit
  pub within : at + length text ≤ input_limit

-- The first bytes here, as many as a line may have, have no LF, and more follows.
pub record LineIsLong (text : List ℕ) : Type 0 where
  pub line : List ℕ
  pub rest : List ℕ
  pub cut : text ≡ line ++ rest
  pub no_feed : Contains line 10 → ⊥
  pub long : length line ≡ line_limit
  pub more : rest ≢ []

-- The line here has the byte after the last that a file may have, and no byte before it that no line may have.
abbrev pub PassesInput : ℕ → List ℕ → Type 0
PassesInput at text = LinePasses at text ⊎ ((input_limit ≤ at + line_limit) × LineIsLong text)

-- The line here has the byte after the last that a line may have, and no byte before it that no file may have.
abbrev pub PassesLine : ℕ → List ℕ → Type 0
PassesLine at text = (at + line_limit < input_limit) × LineIsLong text

-- What breaks where a line of this number is to begin.
abbrev pub LineBreaks : ℕ → ℕ → List ℕ → BatchFault → Type 0
LineBreaks number at text (BadRefs line) = (line ≡ number) × HasNoFeed at text
LineBreaks number at text (Limit which count) = (IsPastInput which count × PassesInput at text) ⊎ ((which ≡ Line) × (count ≡ line_limit + 1) × PassesLine at text)
LineBreaks number at text (BadBatch place) = ⊥
LineBreaks number at text (WrongName given got) = ⊥
LineBreaks number at text (NoObject id) = ⊥
LineBreaks number at text ReadFault = ⊥
LineBreaks number at text Memory = ⊥

-- One ref more than a file may have.
pub record PassesRefs (before : List RefLine) (line : List ℕ) : Type 0 where
  pub ref : RefLine
  pub is : IsRefLine ref
  pub spelled : line ≡ ref_text ref
  pub new : IsNewRef before ref
  pub above : refs_limit < length (counted_refs (before ++ ref ∷ []))

-- What is wrong with a whole line of this number, behind these.
abbrev pub RefBreaks : List RefLine → ℕ → List ℕ → BatchFault → Type 0
RefBreaks before number line (BadRefs n) = (n ≡ number) × ((r : RefLine) → IsRefLine r → line ≡ ref_text r → IsNewRef before r → ⊥)
RefBreaks before number line (Limit which count) = (which ≡ Refs) × (count ≡ refs_limit + 1) × PassesRefs before line
RefBreaks before number line (BadBatch place) = ⊥
RefBreaks before number line (WrongName given got) = ⊥
RefBreaks before number line (NoObject id) = ⊥
RefBreaks before number line ReadFault = ⊥
RefBreaks before number line Memory = ⊥

-- What breaks here, behind these lines.
abbrev pub RefsBreakHere : List RefLine → ℕ → List ℕ → BatchFault → Type 0
RefsBreakHere before at text fault = LineBreaks (length before + 1) at text fault ⊎ ((line : List ℕ) × (rest : List ℕ) × BeginsWithWhole at text line rest × RefBreaks before (length before + 1) line fault)

-- The text begins with these lines of refs, and what follows them begins at `at`.
pub record ReachesLine (text : List ℕ) (before : List RefLine) (at : ℕ) (rest : List ℕ) : Type 0 where
  pub are : AreRefLines before
  pub cut : text ≡ refs_text before ++ rest
  pub here : at ≡ length (refs_text before)

-- A line breaks, behind others that do not.
pub record BreaksLines (text : List ℕ) (fault : BatchFault) : Type 0 where
  pub before : List RefLine
  pub at : ℕ
  pub rest : List ℕ
  pub reaches : ReachesLine text before at rest
  pub breaks : RefsBreakHere before at rest fault

-- x is the first of these that is not there.
pub record IsFirstLacking {X : Type 0} (IsThere : X → Type 0) (xs : List X) (x : X) : Type 0 where
  pub before : List X
  pub after : List X
  pub cut : xs ≡ before ++ x ∷ after
  pub found : AllByRecursion IsThere before
  pub none : IsThere x → ⊥

-- the children of the objects, in the order of the objects
abbrev pub kids_of : List Entry → List Name
kids_of objects = flat_map (λ e. e.kids) objects

-- This is the id of the first child that is no object's name.
pub record LacksKid (names : List Name) (objects : List Entry) (id : List ℕ) : Type 0 where
  pub kid : Name
  pub first : IsFirstLacking (Contains names) (kids_of objects) kid
  pub id_is : id ≡ kid.id

-- The first id that is named and that none of these names has: among these ids of refs, and then of the children of objects.
abbrev pub Lacks : List Name → List (List ℕ) → List Entry → List ℕ → Type 0
Lacks names ids objects id = IsFirstLacking (HasId names) ids id ⊎ (AllByRecursion (HasId names) ids × LacksKid names objects id)

-- All is there, and the snapshot is longer than a body may be.
pub record SnapshotIsLong (refs : List RefLine) (objects : List Entry) (number : ℕ) : Type 0 where
  pub there : AreAllThere objects refs
  pub branches : List SnapshotBranch
  pub branches_are : AreBranchesOf (names_of objects) refs branches
  pub long : number ≡ length (snapshot_text branches)
  pub above : body_limit < number

-- These refs give no snapshot with these objects: something that is named is not there, or else the snapshot is too long.
abbrev pub SnapshotBreaks : List RefLine → List Entry → BatchFault → Type 0
SnapshotBreaks refs objects (NoObject id) = Lacks (names_of objects) (ref_ids refs) objects id
SnapshotBreaks refs objects (Limit which number) = (which ≡ Body) × SnapshotIsLong refs objects number
SnapshotBreaks refs objects (BadRefs line) = ⊥
SnapshotBreaks refs objects (BadBatch at) = ⊥
SnapshotBreaks refs objects (WrongName given got) = ⊥
SnapshotBreaks refs objects ReadFault = ⊥
SnapshotBreaks refs objects Memory = ⊥

-- The refs of these objects break so: in a line, or where each line is good by what they name.
abbrev pub BreaksRefs : List ℕ → List Entry → BatchFault → Type 0
BreaksRefs text objects fault = BreaksLines text fault ⊎ ((refs : List RefLine) × AreRefs text refs × SnapshotBreaks refs objects fault)

-- Some line of refs may break so, whatever their source tells.
abbrev pub MayBreakLines : BatchFault → Type 0
MayBreakLines (BadRefs line) = (1 ≤ line) × (line ≤ input_limit + 1)
MayBreakLines (Limit which number) = IsPastInput which number ⊎ (((which ≡ Line) × (number ≡ line_limit + 1)) ⊎ ((which ≡ Refs) × (number ≡ refs_limit + 1)))
MayBreakLines (NoObject id) = ⊥
MayBreakLines (BadBatch at) = ⊥
MayBreakLines (WrongName given got) = ⊥
MayBreakLines ReadFault = ⊥
MayBreakLines Memory = ⊥

-- These objects may have no snapshot, whatever refs lead to them: a ref leads to an id that none of them has, or this is the id of
-- their first child that is none of them; or the snapshot is too long.
abbrev pub MayBreakSnapshot : List Entry → BatchFault → Type 0
MayBreakSnapshot objects (NoObject id) = (HasId (names_of objects) id → ⊥) ⊎ LacksKid (names_of objects) objects id
MayBreakSnapshot objects (Limit which number) = (which ≡ Body) × (body_limit < number)
MayBreakSnapshot objects (BadRefs line) = ⊥
MayBreakSnapshot objects (BadBatch at) = ⊥
MayBreakSnapshot objects (WrongName given got) = ⊥
MayBreakSnapshot objects ReadFault = ⊥
MayBreakSnapshot objects Memory = ⊥

-- Some refs of these objects may break so, whatever their source tells.
abbrev pub MayBreakRefs : List Entry → BatchFault → Type 0
MayBreakRefs objects fault = MayBreakLines fault ⊎ MayBreakSnapshot objects fault

module _ {S : Type 0} (sources : Sources S) (s : S) where
  -- Where the source tells what is left of it, with these objects those bytes give this.
  abbrev pub MeansRefsLeft : {N : Type 0} → List Entry → Objects N → Type 0
  MeansRefsLeft objects given = sources.tells → MeansRefs (sources.left s) objects given.objects.items given.snapshot

  -- Why a source, `s` before the reading and `now` after it, gives no snapshot of these objects: what was left of it breaks so, or
  -- it failed and its count of faults rose, or memory ran out.
  abbrev pub ExplainsRefs : List Entry → S → BatchFault → Type 0
  ExplainsRefs objects now fault = Fails sources.tells (MayBreakRefs objects) (BreaksRefs (sources.left s) objects) (sources.faults s) (sources.faults now) fault
