-- What goes by the kind of an event or of a record: what is said of an event fits the fields of its kind, is as long as the
-- limits count it, and is said of no other.
use Rattle.std.specs.Prelude.{◌==◌, if◌then◌else◌}
use Rattle.std.proofs.Common.{◌≡◌, ℕ, ◌+◌, ◌<◌, ◌≤◌, ◌^◌, Option, Some, None, List, [], length, map, refl, sym, ap, ◌∙◌, subst, inl, inr, arith, length-append}
use Rattle.std.specs.List.{AllByRecursion}
use Rattle.swh_base.specs.declared.entry.Entry.{Entry}
use Rattle.swh_base.specs.declared.visit.VisitKind.{VisitKind}
use Rattle.swh_base.specs.declared.visit.VisitKind.TheVariants.{Fast, Dir, Batch as BatchVisit}
use Rattle.swh_base.specs.declared.visit.Status.{Status}
use Rattle.swh_base.specs.declared.visit.Status.TheVariants.{Created, Ongoing, Full, Partial, NotFound, Failed}
use Rattle.swh_model.specs.declared.event.Event.{Event}
use Rattle.swh_model.specs.declared.event.EventKind.{EventKind}
use Rattle.swh_model.specs.declared.event.EventKind.TheVariants.{Batch, Open, Mark}
use Rattle.swh_model.specs.Alike.{without_children, bare_kind}
use Rattle.swh_model.specs.Entries.{entries_of}
use Rattle.swh_model.specs.Limits.{snapshot_length, payload_length}
use Rattle.swh_format.specs.declared.kinds.Choice.TheVariants as choice
use Rattle.swh_format.specs.declared.kinds.RecordKind.{RecordKind}
use Rattle.swh_format.specs.declared.kinds.RecordKind.TheVariants as kind
use Rattle.swh_format.specs.Fields.{IsAmong, IsSnapshotId, Contents, text, coded_snapshot, AreFit, FieldsHold}
use Rattle.swh_format.specs.Kinds.{byte_of, choices, told_fields, fields_of, payload_fields}
use Rattle.swh_format.specs.declared.kinds.Field.{Field}
use Rattle.swh_format.specs.StoredObject.{coded_run, IsCodableEntry}
use Rattle.swh_format.specs.OpenRecord.{visit_kind_number, open_contents}
use Rattle.swh_format.specs.MarkRecord.{status_number, mark_contents, IsMarkStatus}
use Rattle.swh_format.specs.Origin.{IsOrigin}
use Rattle.swh_format.specs.EventRecord.{packed_objects, kind_of, event_byte, contents_of, behind_fields, event_payload, payload_of, IsCodableKind, IsCodable}
use Rattle.swh_format.specs.Tells.{IsNotTold}
use Rattle.swh_format.proofs.Contents.{one_text, text_holds, text_short, width, widths}

pub byte_among : (what : EventKind) → IsAmong (event_byte what) (choices choice.Record)
byte_among (Batch es) = inl refl
byte_among (Open o k d) = inr (inl refl)
byte_among (Mark o v s n) = inr (inr (inl refl))

pub visit_among : (k : VisitKind) → IsAmong (visit_kind_number k) (choices choice.Visit)
visit_among Fast = inl refl
visit_among Dir = inr (inl refl)
visit_among BatchVisit = inr (inr (inl refl))

pub status_among : (s : Status) → IsMarkStatus s → IsAmong (status_number s) (choices choice.Status)
status_among Created h = absurd h
status_among Ongoing h = inl refl
status_among Full h = inr (inl refl)
status_among Partial h = inr (inr (inl refl))
status_among NotFound h = inr (inr (inr (inl refl)))
status_among Failed h = inr (inr (inr (inr (inl refl))))

-- what is said of an event fits its kind's fields
pub said_fits : (at : ℕ) (what : EventKind) → IsCodableKind at what → AreFit (told_fields (kind_of what)) (contents_of at what)
said_fits at (Batch es) h = let end = h.end in (omega (arith, end), (h.end, (h.number, tt)))
said_fits at (Open o k d) h = (visit_among k, (h.date_fits, tt))
said_fits at (Mark o v s n) h = (status_among s h.is_status, (h.visit_fits, (h.is_snapshot, tt)))

origin_short : (at : ℕ) (what : EventKind) → IsCodableKind at what → length (behind_fields what) ≤ 2048
origin_short at (Batch es) h = omega arith
origin_short at (Open o k d) h = h.is_origin.url.short
origin_short at (Mark o v s n) h = h.is_origin.url.short

fields_short : (k : RecordKind) → widths (fields_of k) ≤ 34
unfolding widths width
fields_short kind.Batch = omega arith
fields_short kind.Open = omega arith
fields_short kind.Mark = omega arith

pub payload-short : (at : ℕ) (e : Event) → IsCodable at e → length (payload_of at e) < 2 ^ 32
payload-short at e h =
    let long = text_short (fields_of (kind_of e.what)) (e.by, contents_of at e.what) (behind_fields e.what) (h.0, said_fits at e.what h.1) in
    let origin = origin_short at e.what h.1 in
    let few = fields_short (kind_of e.what) in
    omega (arith, long, origin, few)

snapshot-length : (s : Option (List ℕ)) → length (coded_snapshot s) ≡ snapshot_length s
snapshot-length None = refl
snapshot-length (Some id) = omega arith

-- what is said of an event is as long as the limits count it
pub kind-length : (at : ℕ) (what : EventKind) → 4 + length (event_payload at what) ≡ payload_length what
kind-length at (Batch entries) = refl
kind-length at (Open origin kind date) = omega arith
kind-length at (Mark origin visit status snapshot) = let s = snapshot-length snapshot in omega (arith, s, length-append (coded_snapshot snapshot) origin)

-- what an event adds to the store is the run of its entries
pub packed : (what : EventKind) → packed_objects what ≡ coded_run (entries_of what)
packed (Batch entries) = refl
packed what = refl

pub entries_codable : (at : ℕ) (what : EventKind) → IsCodableKind at what → AllByRecursion IsCodableEntry (entries_of what)
entries_codable at (Batch entries) codable = codable.entries_codable
entries_codable at what codable = tt

byte_fields : (k : RecordKind) → payload_fields (byte_of k) ≡ fields_of k
byte_fields kind.Batch = refl
byte_fields kind.Open = refl
byte_fields kind.Mark = refl

-- an event's payload begins with the fields of its kind
pub payload_holds : (at : ℕ) (e : Event) → IsCodable at e → FieldsHold (payload_fields (event_byte e.what)) (payload_of at e)
payload_holds at e h =
    subst (λ (fs : List Field). FieldsHold fs (payload_of at e)) (sym (byte_fields (kind_of e.what)))
    (text_holds (fields_of (kind_of e.what)) (e.by, contents_of at e.what) (behind_fields e.what) (h.0, said_fits at e.what h.1))

abbrev visit_kind_of : ℕ → VisitKind
visit_kind_of n = if n == 1 then Fast else if n == 2 then Dir else BatchVisit

visit_kind_of-number : (k : VisitKind) → visit_kind_of (visit_kind_number k) ≡ k
visit_kind_of-number Fast = refl
visit_kind_of-number Dir = refl
visit_kind_of-number BatchVisit = refl

pub visit_kind_same : (a b : VisitKind) → visit_kind_number a ≡ visit_kind_number b → a ≡ b
visit_kind_same a b e = sym (visit_kind_of-number a) ∙ ap visit_kind_of e ∙ visit_kind_of-number b

abbrev status_of : ℕ → Status
status_of n = if n == 1 then Created else if n == 2 then Ongoing else if n == 3 then Full else if n == 4 then Partial else if n == 5 then NotFound else Failed

status_of-number : (s : Status) → status_of (status_number s) ≡ s
status_of-number Created = refl
status_of-number Ongoing = refl
status_of-number Full = refl
status_of-number Partial = refl
status_of-number NotFound = refl
status_of-number Failed = refl

pub status_same : (a b : Status) → status_number a ≡ status_number b → a ≡ b
status_same a b e = sym (status_of-number a) ∙ ap status_of e ∙ status_of-number b

-- ---- what is not told of an event

-- where a payload is not that of an opening, none is told of
pub no_open : (told : List ℕ) → ((visit_kind : VisitKind) (date : ℕ) (origin : List ℕ) → told ≡ text (told_fields kind.Open) (open_contents visit_kind date) origin → ⊥) → IsNotTold (byte_of kind.Open) told
no_open told none at (Open o k d) codable byte said = none k d o said
no_open told none at what codable byte said = absurd (omega (arith, byte))

-- and of a mark
pub no_mark : (told : List ℕ) → ((status : Status) (visit : ℕ) (snapshot : Option (List ℕ)) (origin : List ℕ) → IsMarkStatus status → IsSnapshotId snapshot → told ≡ text (told_fields kind.Mark) (mark_contents status visit snapshot) origin → ⊥)
    → IsNotTold (byte_of kind.Mark) told
no_mark told none at (Mark o v s n) codable byte said = none s v n o codable.is_status codable.is_snapshot said
no_mark told none at what codable byte said = absurd (omega (arith, byte))

abbrev kind_of_byte : ℕ → RecordKind
kind_of_byte b = if b == 66 then kind.Batch else if b == 79 then kind.Open else kind.Mark

kind_of_byte-byte : (k : RecordKind) → kind_of_byte (byte_of k) ≡ k
kind_of_byte-byte kind.Batch = refl
kind_of_byte-byte kind.Open = refl
kind_of_byte-byte kind.Mark = refl

kind_same : (j k : RecordKind) → byte_of j ≡ byte_of k → j ≡ k
kind_same j k e = sym (kind_of_byte-byte j) ∙ ap kind_of_byte e ∙ kind_of_byte-byte k

-- An origin is behind the fields of every kind but a batch.
abbrev pub HasOrigin : RecordKind → Type 0
HasOrigin kind.Batch = ⊥
HasOrigin _ = Unit {0}

origin_behind : (at : ℕ) (what : EventKind) → IsCodableKind at what → HasOrigin (kind_of what) → IsOrigin (behind_fields what)
origin_behind at (Batch es) codable h = absurd h
origin_behind at (Open o k d) codable h = codable.is_origin
origin_behind at (Mark o v s n) codable h = codable.is_origin

-- No event of the kind is told of.
abbrev NoneOf : RecordKind → List ℕ → List ℕ → Type 0
NoneOf k told origin = (c : Contents (told_fields k)) → told ≡ text (told_fields k) c origin → AreFit (told_fields k) c → HasOrigin k → (IsOrigin origin → ⊥) → ⊥

none_of_event : (at : ℕ) (what : EventKind) (told origin : List ℕ) → IsCodableKind at what → told ≡ event_payload at what → NoneOf (kind_of what) told origin
none_of_event at what told origin codable said c is fit has none =
    none (subst IsOrigin (sym (one_text (told_fields (kind_of what)) c (contents_of at what) origin (behind_fields what) fit (said_fits at what codable) (sym is ∙ said)).1) (origin_behind at what codable has))

-- where what is behind the fields is no origin, no event of a kind that has one is told of
pub no_origin : (k : RecordKind) (told origin : List ℕ) (c : Contents (told_fields k)) → told ≡ text (told_fields k) c origin → AreFit (told_fields k) c → HasOrigin k → (IsOrigin origin → ⊥) → IsNotTold (byte_of k) told
no_origin k told origin c is fit has none at what codable byte said =
    subst (λ (j : RecordKind). NoneOf j told origin) (kind_same (kind_of what) k (sym byte)) (none_of_event at what told origin codable said) c is fit has none

-- ---- what is said alike is said of the same

-- The events have as many entries, and are the same up to the children where their entries are.
pub record SameSaid (a b : EventKind) : Type 0 where
  pub number : length (entries_of a) ≡ length (entries_of b)
  pub same : map without_children (entries_of a) ≡ map without_children (entries_of b) → bare_kind a ≡ bare_kind b

pub same_said : (at : ℕ) (a b : EventKind) → IsCodableKind at a → IsCodableKind at b → event_byte a ≡ event_byte b → event_payload at a ≡ event_payload at b → SameSaid a b
same_said at (Batch es) (Batch fs) ha hb k t =
    let told = one_text (told_fields kind.Batch) (contents_of at (Batch es)) (contents_of at (Batch fs)) [] [] (said_fits at (Batch es) ha) (said_fits at (Batch fs) hb) t in
    record { number = ap (λ (c : Contents (told_fields kind.Batch)). c.1.1.0) told.0; same = λ alike. ap (λ (l : List Entry). Batch l) alike }
same_said at (Open o j d) (Open p l e) ha hb k t =
    let told = one_text (told_fields kind.Open) (contents_of at (Open o j d)) (contents_of at (Open p l e)) o p (said_fits at (Open o j d) ha) (said_fits at (Open p l e) hb) t in
    let kinds = visit_kind_same j l (ap (λ (c : Contents (told_fields kind.Open)). c.0) told.0) in
    record { number = refl; same = λ _ i. Open (told.1 i) (kinds i) (told.0 i).1.0 }
same_said at (Mark o m s a) (Mark p n r b) ha hb k t =
    let told = one_text (told_fields kind.Mark) (contents_of at (Mark o m s a)) (contents_of at (Mark p n r b)) o p (said_fits at (Mark o m s a) ha) (said_fits at (Mark p n r b) hb) t in
    let statuses = status_same s r (ap (λ (c : Contents (told_fields kind.Mark)). c.0) told.0) in
    record { number = refl; same = λ _ i. Mark (told.1 i) (told.0 i).1.0 (statuses i) (told.0 i).1.1.0 }
same_said at a b ha hb k t = absurd (omega (arith, k))
