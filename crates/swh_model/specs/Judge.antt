-- How a wish is judged over a history: the first cause against it, or its event and what comes of it.
use Rattle.std.specs.Prelude.{◌≡◌, ◌≢◌, ℕ, ◌+◌, ◌<◌, ◌⊎◌, if◌then◌else◌, nat_lt, is_some, true, Option, Some, None, Result, Ok, Err, List, [], ◌∷◌, length, Contains}
use Rattle.std.specs.List.{AllByRecursion}
use Rattle.std.specs.FinMap as map
use Rattle.swh_base.specs.declared.kind.Kind.{Kind}
use Rattle.swh_base.specs.declared.kind.Kind.TheVariants.{Content}
use Rattle.swh_base.specs.declared.name.Name.{Name}
use Rattle.swh_base.specs.declared.entry.Entry.{Entry}
use Rattle.swh_base.specs.declared.visit.Status.{Status}
use Rattle.swh_base.specs.declared.visit.Status.TheVariants.{Created, Ongoing, Full, Partial, NotFound, Failed}
use Rattle.swh_base.specs.declared.visit.Which.{Which}
use Rattle.swh_base.specs.declared.visit.Which.TheVariants.{Body, Objects, Bytes, Store, Ledger}
use Rattle.swh_model.specs.declared.event.Visit.{Visit}
use Rattle.swh_model.specs.declared.event.Event.{Event}
use Rattle.swh_model.specs.declared.event.Wish.{Wish}
use Rattle.swh_model.specs.declared.event.Wish.TheVariants.{Batch, Open, Mark}
use Rattle.swh_model.specs.declared.event.EventKind.{EventKind}
use Rattle.swh_model.specs.declared.event.EventKind.TheVariants as happened
use Rattle.swh_model.specs.declared.event.Outcome.{Outcome}
use Rattle.swh_model.specs.declared.event.Outcome.TheVariants.{Added, Opened, Marked}
use Rattle.swh_model.specs.declared.event.No.{No}
use Rattle.swh_model.specs.declared.event.No.TheVariants.{Limit, NoVisit, NotYours, Ended, NoSnapshot, NotClosed, Collision}
use Rattle.swh_model.specs.Archive.{Archive, Bodies, body_of, visits_of, IsChild, Reaches}
use Rattle.swh_base.specs.Limits.{body_limit, objects_limit, bytes_limit, file_limit}
use Rattle.swh_model.specs.Limits.{bytes_before_last, stored_length, store_length, payload_length, ledger_length}
use Rattle.swh_model.specs.Step.{visit_at, replay, HasItsChildrenAndName}
use Rattle.swh_base.specs.Snapshot.{snapshot_name}
use Rattle.swh_base.specs.Visit.{IsFinal, last_status}

-- the entries that are not held, each once, in order
abbrev pub not_held : Bodies → List Entry → List Entry
not_held bodies [] = []
not_held bodies (e ∷ es) = if is_some (body_of bodies e.name) then not_held bodies es else e ∷ not_held (map.insert bodies e.name e.body) es

-- the event that a wish becomes: of a batch, only the objects that are not held
abbrev pub event_of : Archive → Wish → EventKind
event_of a (Batch entries) = happened.Batch (not_held a.bodies entries)
event_of a (Open origin kind date) = happened.Open origin kind date
event_of a (Mark origin visit status snapshot) = happened.Mark origin visit status snapshot

-- the length of the first body above the limit
abbrev pub first_long : List Entry → Option ℕ
first_long [] = None
first_long (e ∷ es) = if nat_lt body_limit (length e.body) then Some (length e.body) else first_long es

-- This number, which is counted for a batch, passes its limit.
abbrev pub BatchPasses : List Entry → Which → ℕ → Type 0
BatchPasses entries Body number = first_long entries ≡ Some number
BatchPasses entries Objects number = (number ≡ length entries) × (objects_limit < number)
BatchPasses entries Bytes number = (number ≡ bytes_before_last entries) × (bytes_limit < number)
BatchPasses entries _ number = ⊥

-- With the event the file of this limit would end at this number, which is past the limit.
abbrev pub FilePasses : List Event → EventKind → Which → ℕ → Type 0
FilePasses history event Store number = (number ≡ store_length history + stored_length event) × (file_limit < number)
FilePasses history event Ledger number = (number ≡ (ledger_length history + 6) + payload_length event) × (file_limit < number)
FilePasses history event _ number = ⊥

-- A body that is held under the name, or stands in the batch under it.
abbrev pub HasBodyOrAdds : Bodies → List Entry → Name → List ℕ → Type 0
HasBodyOrAdds bodies entries n body = (body_of bodies n ≡ Some body) ⊎ ((e : Entry) × Contains entries e × (e.name ≡ n) × (e.body ≡ body))

-- The name would have two bodies.
abbrev pub Collides : Bodies → List Entry → Name → Type 0
Collides bodies entries n = (a b : List ℕ) × HasBodyOrAdds bodies entries n a × HasBodyOrAdds bodies entries n b × (a ≢ b)

-- The origin has a visit of this number, and it is `v`.
abbrev pub IsThere : Archive → List ℕ → ℕ → Visit → Type 0
IsThere a origin number v = (0 < number) × (visit_at (visits_of a.origins origin) number ≡ Some v)

-- A cause against adding entries.
abbrev pub BatchCause : List Event → List Entry → No → Type 0
BatchCause h entries (Limit which number) = BatchPasses entries which number ⊎ FilePasses h (event_of (replay h) (Batch entries)) which number
BatchCause h entries (Collision name) = Collides (replay h).bodies entries name
BatchCause h entries _ = ⊥

-- A cause against opening a visit.
abbrev pub OpenCause : List Event → EventKind → No → Type 0
OpenCause h event (Limit which number) = FilePasses h event which number
OpenCause h event _ = ⊥

-- A cause against marking a visit.
abbrev pub MarkCause : List Event → ℕ → EventKind → List ℕ → ℕ → Status → Option (List ℕ) → No → Type 0
MarkCause h by event origin number status snapshot (Limit which counted) = FilePasses h event which counted
-- the number is not among the origin's
MarkCause h by event origin number status snapshot (NoVisit have) =
    (have ≡ length (visits_of (replay h).origins origin)) × ((number ≡ 0) ⊎ (have < number))
-- another opened it
MarkCause h by event origin number status snapshot (NotYours other) =
    (v : Visit) × IsThere (replay h) origin number v × (other ≡ v.by) × (v.by ≢ by)
-- its last status is an end
MarkCause h by event origin number status snapshot (Ended last) =
    (v : Visit) × IsThere (replay h) origin number v × (last ≡ last_status v.statuses) × IsFinal last
-- the named snapshot is not held
MarkCause h by event origin number status snapshot (NoSnapshot name) =
    (id : List ℕ) × (snapshot ≡ Some id) × (name ≡ snapshot_name id) × (body_of (replay h).bodies name ≡ None)
-- of a full visit's snapshot a name is reached that is not held
MarkCause h by event origin number status snapshot (NotClosed parent child) =
    (status ≡ Full) × (id : List ℕ) × (snapshot ≡ Some id) × Reaches (replay h).bodies (snapshot_name id) parent
    × IsChild (replay h).bodies parent child × (body_of (replay h).bodies child ≡ None)
MarkCause h by event origin number status snapshot (Collision name) = ⊥

-- A cause against the wish.
abbrev pub IsCause : List Event → ℕ → Wish → No → Type 0
IsCause h by (Batch entries) cause = BatchCause h entries cause
IsCause h by (Open origin kind date) cause = OpenCause h (happened.Open origin kind date) cause
IsCause h by (Mark origin number status snapshot) cause = MarkCause h by (happened.Mark origin number status snapshot) origin number status snapshot cause

-- the order in which limits are looked for
abbrev pub which_rank : Which → ℕ
which_rank Body = 0
which_rank Objects = 1
which_rank Bytes = 2
which_rank Store = 3
which_rank Ledger = 4
-- no wish can pass another limit
which_rank _ = 4

-- the order in which causes are looked for: by their variant, and limits by the limit
abbrev pub rank : No → ℕ × ℕ
rank (Limit which number) = (0, which_rank which)
rank (NoVisit have) = (1, 0)
rank (NotYours by) = (2, 0)
rank (Ended status) = (3, 0)
rank (NoSnapshot name) = (4, 0)
rank (NotClosed parent child) = (5, 0)
rank (Collision name) = (6, 0)

-- The first of two causes is looked for before the second.
abbrev pub ComesBefore : No → No → Type 0
ComesBefore a b = ((rank a).0 < (rank b).0) ⊎ (((rank a).0 ≡ (rank b).0) × ((rank a).1 < (rank b).1))

-- what comes of the wish where nothing stands against it
abbrev pub outcome_of : List Event → Wish → Outcome
outcome_of h (Batch entries) = Added (length h + 1) (length (not_held (replay h).bodies entries))
outcome_of h (Open origin kind date) = Opened (length h + 1) (length (visits_of (replay h).origins origin) + 1)
outcome_of h (Mark origin number status snapshot) = Marked (length h + 1)

-- The verdict: the first cause, else the event and what comes of it.
abbrev pub IsVerdict : List Event → ℕ → Wish → Result (Event × Outcome) No → Type 0
IsVerdict h by wish (Ok given) =
    ((cause : No) → IsCause h by wish cause → ⊥) × (given.0 ≡ record { by = by; what = event_of (replay h) wish }) × (given.1 ≡ outcome_of h wish)
IsVerdict h by wish (Err cause) = IsCause h by wish cause × ((other : No) → ComesBefore other cause → IsCause h by wish other → ⊥)

-- The status and the snapshot are those that a visit may be marked with.
abbrev pub StatusAllows : Status → Option (List ℕ) → Type 0
StatusAllows Created snapshot = ⊥
StatusAllows Ongoing snapshot = snapshot ≡ None
StatusAllows Full snapshot = is_some snapshot ≡ true
StatusAllows Partial snapshot = Unit {0}
StatusAllows NotFound snapshot = snapshot ≡ None
StatusAllows Failed snapshot = snapshot ≡ None

-- What judging asks of a wish: each entry of a batch has its children and its name, and a status and its snapshot fit.
abbrev pub IsWish : (Kind → List ℕ → List ℕ) → Wish → Type 0
IsWish id_of (Batch entries) = AllByRecursion (HasItsChildrenAndName id_of) entries
IsWish id_of (Open origin kind date) = Unit {0}
IsWish id_of (Mark origin number status snapshot) = StatusAllows status snapshot

-- no name at all
abbrev pub unnamed : Name
unnamed = record { kind = Content; id = [] }

-- a cause without the names that a refusal may choose: where a snapshot is open, and which name has two bodies
abbrev pub without_names : No → No
without_names (NotClosed parent child) = NotClosed unnamed unnamed
without_names (Collision name) = Collision unnamed
without_names cause = cause

-- Both give the same, or both refuse for the same cause, up to the names that a refusal may choose.
abbrev pub AgreeOnVerdict : Result (Event × Outcome) No → Result (Event × Outcome) No → Type 0
AgreeOnVerdict (Ok a) (Ok b) = a ≡ b
AgreeOnVerdict (Ok a) (Err f) = ⊥
AgreeOnVerdict (Err e) (Ok b) = ⊥
AgreeOnVerdict (Err e) (Err f) = without_names e ≡ without_names f

-- Of the snapshot that the wish names this parent is reached, and its child is not held.
abbrev pub IsOpenAt : List Event → Wish → Name → Name → Type 0
IsOpenAt h (Batch entries) parent child = ⊥
IsOpenAt h (Open origin kind date) parent child = ⊥
IsOpenAt h (Mark origin number status snapshot) parent child =
    (id : List ℕ) × (snapshot ≡ Some id) × Reaches (replay h).bodies (snapshot_name id) parent × IsChild (replay h).bodies parent child × (body_of (replay h).bodies child ≡ None)
