-- An input that is read part by part: what it may have given where its reading stopped.
use Rattle.std.specs.Prelude.{◌≡◌, ◌≢◌, ◌⊎◌, ℕ, Bool, true, Result, Ok, Err, None, List, [], ◌∷◌, ◌++◌, Contains, IsPermutation, IsSorted}
use Rattle.std.specs.Global.{Vec}
use Rattle.swh_base.specs.declared.kind.Kind.{Kind}
use Rattle.swh_base.specs.declared.entry.Entry.{Entry}
use Rattle.swh_base.specs.Name.{name_cmp}
use Rattle.swh_base.specs.Snapshot.{snapshot_name}
use Rattle.swh_base.specs.declared.name.Name.{Name}
use Rattle.swh_model.specs.declared.event.EventKind.{EventKind}
use Rattle.swh_model.specs.declared.event.EventKind.TheVariants.{Batch}
use Rattle.swh_model.specs.declared.event.Wish.{Wish}
use Rattle.swh_model.specs.declared.event.Wish.TheVariants as wished
use Rattle.swh_model.specs.Archive.{Bodies}
use Rattle.swh_dedup.specs.declared.objects.Objects.{Objects}
use Rattle.swh_dedup.specs.Whole.{AreWhole, HasAllThatIsReached, names_of}
use Rattle.swh_ingest.specs.declared.end.End.{End}
use Rattle.swh_ingest.specs.declared.end.End.TheVariants as ended
use Rattle.swh_ingest.specs.declared.input.Opening.{Opening}
use Rattle.swh_ingest.specs.declared.input.Opening.TheVariants as opening
use Rattle.swh_ingest.specs.declared.parts.Next.{Next}
use Rattle.swh_ingest.specs.declared.parts.Next.TheVariants as next
use Rattle.swh_ingest.specs.declared.sending_parts.Sent.{Sent}
use Rattle.swh_ingest.specs.declared.sending_parts.Sent.TheVariants as sent
use Rattle.swh_ingest.specs.declared.pending.Pending.{Pending}
use Rattle.swh_ingest.specs.Owning.{AreAmong}
use Rattle.swh_ingest.specs.Sending.{AllHeld, AreSentAfter, AreSentButABatch, IsMet}

-- There is more of the input behind this.
abbrev pub IsMore : {N B : Type 0} → Next N B → Type 0
IsMore (next.Part objects) = Unit {0}
IsMore _ = ⊥

-- This is all of the input: the last objects, with all that is reached from their snapshot, or why the input is bad.
abbrev pub IsWhole : {N B : Type 0} → (Kind → List ℕ → List ℕ) → Next N B → Type 0
IsWhole id (next.Part objects) = ⊥
IsWhole id (next.Last last) = HasAllThatIsReached id last
IsWhole id (next.Bad bad) = Unit {0}

-- the objects of parts, in order
abbrev pub objects_in : List (List Entry) → List Entry
objects_in [] = []
objects_in (part ∷ parts) = part ++ objects_in parts

-- The same names, each as often, in ascending order.
pub record AreInOrder (names sorted : List Name) : Type 0 where
  pub same : IsPermutation names sorted
  pub ascending : IsSorted name_cmp sorted

-- The objects have all that is reached from the snapshot.
pub record ReachesAll (id : Kind → List ℕ → List ℕ) (objects : List Entry) (snapshot : List ℕ) : Type 0 where
  pub whole : AreWhole id objects
  pub root : Contains (names_of objects) (snapshot_name snapshot)

module _ {I N B E : Type 0} (Gives : I → Result (Next N B) E → I → Type 0) where
  -- The input gave this part, and there is more of it.
  pub record IsPart (i : I) (part : List Entry) (now : I) : Type 0 where
    pub objects : Vec Entry
    pub are : objects.items ≡ part
    pub gives : Gives i (Ok (next.Part objects)) now

  -- The input gave these parts, one after another.
  abbrev pub Gave : List (List Entry) → I → I → Type 0
  Gave [] i now = now ≡ i
  Gave (part ∷ parts) i now = (mid : I) × IsPart i part mid × Gave parts mid now

  -- The input gave these objects so far, and there is more of it.
  pub record GaveSoFar (i : I) (objects : List Entry) (now : I) : Type 0 where
    pub parts : List (List Entry)
    pub are : objects ≡ objects_in parts
    pub gave : Gave parts i now

  -- The input gave these objects, the last ones among them, and this snapshot.
  pub record GaveAll (i : I) (objects : List Entry) (snapshot : List ℕ) (now : I) : Type 0 where
    pub front : List Entry
    pub mid : I
    pub so_far : GaveSoFar i front mid
    pub last : Objects N
    pub gives : Gives mid (Ok (next.Last last)) now
    pub are : objects ≡ front ++ last.objects.items
    pub root : snapshot ≡ last.snapshot

  -- The input gave some objects, and is bad.
  pub record Broke (i : I) (bad : B) (now : I) : Type 0 where
    pub front : List Entry
    pub mid : I
    pub so_far : GaveSoFar i front mid
    pub gives : Gives mid (Ok (next.Bad bad)) now

  -- The input gave some objects, and is bad; those that it gave are held, but for a batch at most.
  pub record BrokeBehind (bodies : Bodies) (i : I) (bad : B) (now : I) : Type 0 where
    pub broke : Broke i bad now
    pub sent : AreSentButABatch bodies broke.front

  -- The input gave these objects, some of them just now, and there is more of it.
  pub record GaveSome (i : I) (objects : List Entry) (now : I) : Type 0 where
    pub front : List Entry
    pub mid : I
    pub so_far : GaveSoFar i front mid
    pub part : Vec Entry
    pub gives : Gives mid (Ok (next.Part part)) now
    pub are : objects ≡ front ++ part.items

  -- What an input may have given where its reading stopped: a part of it, with all before, or all of it.
  abbrev pub MayHaveGiven : I → List Entry → I → Type 0
  MayHaveGiven i objects now = GaveSome i objects now ⊎ ((snapshot : List ℕ) × GaveAll i objects snapshot now)

  -- These are objects that the input may have given.
  pub record AreGiven (i : I) (entries : List Entry) : Type 0 where
    pub objects : List Entry
    pub now : I
    pub given : MayHaveGiven i objects now
    pub among : AreAmong objects entries

  -- The batches of a load hold only what its input may have given; without an input there are none.
  abbrev pub AreAllowed : Opening → I → List Entry → Type 0
  AreAllowed opening.Found i entries = AreGiven i entries
  AreAllowed _ i entries = ⊥

  -- The input was read up to here: some parts of it, and perhaps once more.
  pub record IsReadOn (i now : I) : Type 0 where
    pub front : List Entry
    pub mid : I
    pub so_far : GaveSoFar i front mid
    pub rest : (now ≡ mid) ⊎ ((found : Result (Next N B) E) × Gives mid found now)

  -- There was no memory for what the input gives next.
  pub record HadNoMemory (i now : I) : Type 0 where
    pub front : List Entry
    pub mid : I
    pub so_far : GaveSoFar i front mid
    pub fault : E
    pub gives : Gives mid (Err fault) now

  -- The input was read up to here, and was not found bad: it gave objects, perhaps all, or there was no memory for more.
  abbrev pub IsUnbroken : I → I → Type 0
  IsUnbroken i now = ((objects : List Entry) × MayHaveGiven i objects now) ⊎ HadNoMemory i now

  -- The input is as it was, or was read up to here, and was not found bad.
  abbrev pub IsSameOrUnbroken : I → I → Type 0
  IsSameOrUnbroken i now = (now ≡ i) ⊎ IsUnbroken i now

  -- What became of the objects of an input: all were given and are held, and these are their names; or one of those that were given collides, or the input
  -- is bad and those that were given are held, but for a batch at most.
  abbrev pub IsSentSo : Bodies → I → I → Sent B → Type 0
  IsSentSo bodies i now (sent.All reached) = (objects : List Entry) × GaveAll i objects reached.snapshot now × AllHeld bodies objects × AreInOrder (names_of objects) reached.names.items
  IsSentSo bodies i now (sent.Met name) = (objects : List Entry) × MayHaveGiven i objects now × IsMet bodies objects name
  IsSentSo bodies i now (sent.Bad bad) = BrokeBehind bodies i bad now

  -- The visit ended as what the input gave has it.
  abbrev pub IsGivenEnd : Bodies → I → I → End B → Type 0
  IsGivenEnd bodies i now (ended.Full snapshot) = (objects : List Entry) × GaveAll i objects snapshot now × AllHeld bodies objects
  IsGivenEnd bodies i now (ended.Met name) = (objects : List Entry) × MayHaveGiven i objects now × IsMet bodies objects name
  IsGivenEnd bodies i now (ended.Bad bad) = BrokeBehind bodies i bad now
  IsGivenEnd bodies i now _ = ⊥

  -- What the end says of an input that was found so.
  abbrev pub IsGivenEndAt : Opening → Bodies → I → I → End B → Type 0
  IsGivenEndAt opening.Found bodies i now end = IsGivenEnd bodies i now end
  IsGivenEndAt opening.NotFound bodies i now end = (end ≡ ended.NotFound) × (now ≡ i)
  IsGivenEndAt opening.Failed bodies i now end = (end ≡ ended.Unread) × (now ≡ i)
  IsGivenEndAt opening.Memory bodies i now end = ⊥

  -- The input was found, and read up to here.
  pub record WasReadOn (is : Opening) (i now : I) : Type 0 where
    pub found : is ≡ opening.Found
    pub read : IsReadOn i now

  -- The input is as it was, or was read up to here.
  abbrev pub IsSameOrReadOn : Opening → I → I → Type 0
  IsSameOrReadOn is i now = (now ≡ i) ⊎ WasReadOn is i now

-- A batch that is allowed was added. It may be empty where others added its objects since they were looked at.
pub record IsBatchFor (alone : Bool) (IsAllowed : List Entry → Type 0) (what : EventKind) : Type 0 where
  pub entries : List Entry
  pub is : what ≡ Batch entries
  pub some : alone ≡ true → entries ≢ []
  pub allowed : IsAllowed entries

-- It was asked to add a batch that is allowed.
pub record IsBatchAskedFor (IsAllowed : List Entry → Type 0) (wish : Wish) : Type 0 where
  pub entries : List Entry
  pub is : wish ≡ wished.Batch entries
  pub some : entries ≢ []
  pub allowed : IsAllowed entries

-- What became of the last objects, after those that wait.
abbrev pub IsLastSent : {N B : Type 0} → Bodies → Pending N → Objects N → Bodies → Sent B → Type 0
IsLastSent before p made bodies (sent.All reached) = (reached.snapshot ≡ made.snapshot) × AreSentAfter before p made.objects.items bodies None
IsLastSent before p made bodies (sent.Met name) = IsMet bodies (p.objects.items ++ made.objects.items) name
IsLastSent before p made bodies (sent.Bad bad) = ⊥

-- the end of a visit of whose input this became
abbrev pub end_of : {B : Type 0} → Sent B → End B
end_of (sent.All reached) = ended.Full reached.snapshot
end_of (sent.Met name) = ended.Met name
end_of (sent.Bad bad) = ended.Bad bad

-- Where all was sent, these are the names of all objects.
abbrev pub IsNamed : {B : Type 0} → List Name → Sent B → Type 0
IsNamed names (sent.All reached) = AreInOrder names reached.names.items
IsNamed names _ = Unit {0}

-- Where the input is bad, this holds.
abbrev pub IfBad : {B : Type 0} → Sent B → Type 0 → Type 0
IfBad (sent.Bad bad) P = P
IfBad _ P = Unit {0}

-- Where all was sent, this holds of the snapshot.
abbrev pub IfAll : {B : Type 0} → Sent B → (List ℕ → Type 0) → Type 0
IfAll (sent.All reached) P = P reached.snapshot
IfAll _ P = Unit {0}
