-- What loads add to the two files is within the room for what their inputs make.
use Rattle.std.proofs.Common.{◌≡◌, ◌≢◌, ℕ, ◌+◌, ◌*◌, ◌≤◌, true, Option, Some, None, List, [], ◌∷◌, ◌++◌, length, refl, sym, ap, ◌∙◌, subst, arith, append_assoc}
use Rattle.std.specs.Prelude.{sum_by}
use Rattle.std.specs.List.{AllByRecursion}
use Rattle.std.proofs.lemmas.List.{append_cancel_left}
use Rattle.std.proofs.lemmas.List.Sums.{sum_by-cons}
use Rattle.swh_base.specs.declared.kind.Kind.{Kind}
use Rattle.swh_base.specs.declared.name.Name.{Name}
use Rattle.swh_base.specs.declared.entry.Entry.{Entry}
use Rattle.swh_base.specs.declared.visit.Status.{Status}
use Rattle.swh_base.specs.declared.visit.Status.TheVariants.{Created, Ongoing, Full, Partial, NotFound, Failed}
use Rattle.swh_base.specs.declared.visit.Which.{Which}
use Rattle.swh_base.specs.declared.visit.Which.TheVariants.{Store, Ledger}
use Rattle.swh_model.specs.declared.event.Event.{Event}
use Rattle.swh_model.specs.declared.event.EventKind.{EventKind}
use Rattle.swh_model.specs.declared.event.EventKind.TheVariants.{Batch, Open, Mark}
use Rattle.swh_model.specs.Archive.{Archive, Bodies, body_of, empty_archive}
use Rattle.swh_format.specs.EventRecord.{packed_objects, IsCodableKind, AreCodable}
use Rattle.swh_format.specs.StoredObject.{IsCodableEntry}
use Rattle.swh_model.specs.Judge.{FilePasses}
use Rattle.swh_model.specs.Limits.{stored_length, store_length, snapshot_length, payload_length, records_length, ledger_length}
use Rattle.swh_base.specs.Limits.{file_limit}
use Rattle.swh_model.specs.Meaning.{Made}
use Rattle.swh_model.specs.Step.{FitsStatus, May, May_kind, MayAll, IsHistory, after, after_kind, after_all, replay}
use Rattle.swh_base.specs.Snapshot.{snapshot_name}
use Rattle.swh_model.proofs.Entries.{none-empty}
use Rattle.swh_model.proofs.Histories.{fronts}
use Rattle.swh_model.proofs.Maps.{added-all}
use Rattle.swh_model.proofs.Visits.{all-map}
use Rattle.swh_ingest.specs.Loading.{IsOwn}
use Rattle.swh_ingest.specs.Owning.{Attempt}
use Rattle.swh_ingest.specs.Visiting.{next_visit}
use Rattle.swh_keeperload.specs.Loading.{AddsVisit, AreOfVisit, IsOwnEvent}
use Rattle.swh_loader.specs.Room.{longest_record, batch_record, ledger_growth, stored_object, store_growth}
use Rattle.swh_loader.proofs.Missing.{IsMadeOf, missing, missing-most, added_all, run_size, of_batch, some_size}
use Rattle.swh_segment.proofs.Moments.{codable_front}
use Rattle.swh_loader.proofs.Marks.{other_kind, others}

-- The event's record is no longer than the longest: its URL is within its limit, and so is its snapshot.
abbrev IsShort : EventKind → Type 0
IsShort (Batch entries) = Unit {0}
IsShort (Open origin kind date) = length origin ≤ 2048
IsShort (Mark origin visit status snapshot) = (length origin ≤ 2048) × (snapshot_length snapshot ≤ 21)

-- Each held name has twenty bytes.
abbrev pub HasShortNames : Bodies → Type 0
HasShortNames bodies = (n : Name) (body : List ℕ) → body_of bodies n ≡ Some body → length n.id ≡ 20

module _ (id_of : Kind → List ℕ → List ℕ) (objects : List Made) where
  -- A batch is not empty, and is made of these objects.
  abbrev IsBatchMade : EventKind → Type 0
  IsBatchMade (Batch entries) = (entries ≢ []) × AllByRecursion (IsMadeOf id_of objects) entries
  IsBatchMade what = Unit {0}

  abbrev left_in_ledger : Bodies → ℕ
  left_in_ledger bodies = missing id_of (of_batch id_of) bodies objects

  abbrev left_in_store : Bodies → ℕ
  left_in_store bodies = missing id_of (stored_object id_of) bodies objects

  -- One event more takes no more room than is left of what is made, and of openings and marks.
  store_step : (a : Archive) (by : ℕ) (what : EventKind) → May_kind id_of a by what → IsBatchMade what → stored_length what + left_in_store (after_kind a by what).bodies ≤ left_in_store a.bodies
  store_step a by (Batch entries) may made =
      let run = run_size id_of objects entries made.1 in
      let less = added_all id_of (stored_object id_of) objects a.bodies entries may.new made.1 in
      omega (arith, run, less)
  store_step a by what may made = omega arith

  ledger_step : (a : Archive) (by : ℕ) (what : EventKind) → May_kind id_of a by what → IsBatchMade what → IsShort what
      → (6 + payload_length what) + left_in_ledger (after_kind a by what).bodies ≤ left_in_ledger a.bodies + other_kind what * longest_record
  ledger_step a by (Batch entries) may made short =
      let one = some_size id_of entries made.0 in
      let less = added_all id_of (of_batch id_of) objects a.bodies entries may.new made.1 in
      omega (arith, one, less)
  ledger_step a by (Open origin kind date) may made short = omega (arith, short)
  ledger_step a by (Mark origin visit status snapshot) may made short = let u = short.0 in let s = short.1 in omega (arith, u, s)

  -- And so do several.
  store_all : (a : Archive) (es : List Event) → MayAll id_of a es → AllByRecursion (λ e. IsBatchMade e.what) es → store_length es + left_in_store (after_all a es).bodies ≤ left_in_store a.bodies
  store_all a [] may made = omega arith
  store_all a (e ∷ es) may made =
      let here = store_step a e.by e.what may.0 made.0 in
      let rest = store_all (after a e) es may.1 made.1 in
      omega (arith, here, rest)

  ledger_all : (a : Archive) (es : List Event) → MayAll id_of a es → AllByRecursion (λ e. IsBatchMade e.what) es → AllByRecursion (λ e. IsShort e.what) es
      → records_length es + left_in_ledger (after_all a es).bodies ≤ left_in_ledger a.bodies + others es * longest_record
  ledger_all a [] may made short = omega arith
  ledger_all a (e ∷ es) may made short =
      let here = ledger_step a e.by e.what may.0 made.0 short.0 in
      let rest = ledger_all (after a e) es may.1 made.1 short.1 in
      omega (arith, here, rest)

store-append : (h more : List Event) → store_length (h ++ more) ≡ store_length h + store_length more
store-append [] more = omega arith
store-append (e ∷ h) more = let rest = store-append h more in omega (arith, rest)

records-append : (h more : List Event) → records_length (h ++ more) ≡ records_length h + records_length more
records-append [] more = omega arith
records-append (e ∷ h) more = let rest = records-append h more in omega (arith, rest)

-- Events that fit their fields are short.
short_kind : (at : ℕ) (what : EventKind) → IsCodableKind at what → IsShort what
short_kind at (Batch entries) fits = tt
short_kind at (Open origin kind date) fits = fits.is_origin.url.short
short_kind at (Mark origin visit status None) fits = (fits.is_origin.url.short, omega arith)
short_kind at (Mark origin visit status (Some id)) fits = let twenty = fits.is_snapshot in (fits.is_origin.url.short, omega (arith, twenty))

all_short : (at : ℕ) (es : List Event) → AreCodable at es → AllByRecursion (λ e. IsShort e.what) es
all_short at [] fits = tt
all_short at (e ∷ es) fits = (short_kind at e.what fits.0.1, all_short (at + length (packed_objects e.what)) es fits.1)

all_behind : {X : Type 0} (P : X → Type 0) (xs ys : List X) → AllByRecursion P (xs ++ ys) → AllByRecursion P ys
all_behind P [] ys all = all
all_behind P (x ∷ xs) ys all = all_behind P xs ys all.1

-- All names that are held after such events have twenty bytes.
names_kind : (at : ℕ) (a : Archive) (by : ℕ) (what : EventKind) → IsCodableKind at what → HasShortNames a.bodies → HasShortNames (after_kind a by what).bodies
names_kind at a by (Batch entries) fits held = added-all (λ n body. length n.id ≡ 20) a.bodies entries held (all-map IsCodableEntry (λ e. length e.name.id ≡ 20) (λ e is. is.id) entries fits.entries_codable)
names_kind at a by what fits held = held

names_all : (at : ℕ) (a : Archive) (es : List Event) → AreCodable at es → HasShortNames a.bodies → HasShortNames (after_all a es).bodies
names_all at a [] fits held = held
names_all at a (e ∷ es) fits held = names_all (at + length (packed_objects e.what)) (after a e) es fits.1 (names_kind at a e.by e.what fits.0.1 held)

short_names : (h : List Event) → AreCodable 0 h → HasShortNames (replay h).bodies
short_names h fits = names_all 0 empty_archive h fits (λ n body is. absurd (let e : None ≡ Some body = sym (none-empty n) ∙ is in cc))

-- A snapshot that is held has twenty bytes.
fitting : (bodies : Bodies) (status : Status) (snapshot : Option (List ℕ)) → HasShortNames bodies → FitsStatus bodies status snapshot → snapshot_length snapshot ≤ 21
fitting bodies status None held fits = omega arith
fitting bodies Created (Some id) held fits = absurd fits
fitting bodies Ongoing (Some id) held fits = absurd (let e : Some id ≡ None = fits in cc)
fitting bodies Full (Some id) held fits = let h = fits (snapshot_name id) ([], refl) in let twenty = held (snapshot_name id) h.0 h.1 in omega (arith, twenty)
fitting bodies Partial (Some id) held fits = let twenty = held (snapshot_name id) fits.0 fits.1 in omega (arith, twenty)
fitting bodies NotFound (Some id) held fits = absurd (let e : Some id ≡ None = fits in cc)
fitting bodies Failed (Some id) held fits = absurd (let e : Some id ≡ None = fits in cc)

module _ (id_of : Kind → List ℕ → List ℕ) (objects : List Made) where
  -- Both files have room after the history for this many openings and marks, and for all that is made and not held.
  pub record HasRoomLeft (h : List Event) (marks : ℕ) : Type 0 where
    pub ledger : ledger_length h + (marks * longest_record + left_in_ledger id_of objects (replay h).bodies) ≤ file_limit
    pub store : store_length h + left_in_store id_of objects (replay h).bodies ≤ file_limit

  batches : (os : List Made) → sum_by (of_batch id_of) os ≡ length os * batch_record
  batches [] = refl
  batches (o ∷ os) = let rest = batches os in let all = sum_by-cons (of_batch id_of) o os in omega (arith, rest, all)

  -- so they have it where they have room for what loads add at most
  pub room_at_entry : (h : List Event) (loads : ℕ) → ledger_length h + ledger_growth loads objects ≤ file_limit → store_length h + store_growth id_of objects ≤ file_limit → HasRoomLeft h (loads * 3)
  room_at_entry h loads ledger store =
      let records = missing-most id_of (of_batch id_of) (replay h).bodies objects in
      let all = batches objects in
      let bodies = missing-most id_of (stored_object id_of) (replay h).bodies objects in
      record { ledger = omega (arith, ledger, records, all); store = omega (arith, store, bodies) }

  -- and still have it after events that are made and short
  room_behind : (h more : List Event) (marks marks' : ℕ) → IsHistory id_of (h ++ more) → AllByRecursion (λ e. IsBatchMade id_of objects e.what) more → AllByRecursion (λ e. IsShort e.what) more
      → others more + marks' ≤ marks → HasRoomLeft h marks → HasRoomLeft (h ++ more) marks'
  room_behind h more marks marks' history made short enough room =
      let parts = fronts id_of empty_archive h more history in
      let records = ledger_all id_of objects (replay h) more parts.1 made short in
      let bodies = store_all id_of objects (replay h) more parts.1 made in
      let records_now = ap (λ (a : Archive). left_in_ledger id_of objects a.bodies) parts.2 in
      let bodies_now = ap (λ (a : Archive). left_in_store id_of objects a.bodies) parts.2 in
      let ledger = room.ledger in
      let store = room.store in
      let records_added = records-append h more in
      let bodies_added = store-append h more in
      record { ledger = omega (arith, records, records_now, ledger, records_added, enough); store = omega (arith, bodies, bodies_now, store, bodies_added) }

  other_most : (what : EventKind) → other_kind what ≤ 1
  other_most (Batch entries) = omega arith
  other_most what = omega arith

  -- one that may come next passes no file's end
  passes_none : (h : List Event) (e : Event) (which : Which) (number : ℕ) → HasRoomLeft h 1 → May id_of (replay h) e → IsBatchMade id_of objects e.what → IsShort e.what → FilePasses h e.what which number → ⊥
  passes_none h e Store number room may made short passes =
      let step = store_step id_of objects (replay h) e.by e.what may made in
      let store = room.store in
      let at = passes.0 in
      let above = passes.1 in
      omega (arith, step, store, at, above)
  passes_none h e Ledger number room may made short passes =
      let step = ledger_step id_of objects (replay h) e.by e.what may made short in
      let one = other_most e.what in
      let ledger = room.ledger in
      let at = passes.0 in
      let above = passes.1 in
      omega (arith, step, one, ledger, at, above)
  passes_none h e _ number room may made short passes = passes

  -- The events of a load whose batches are made of these objects.
  module _ (t : Attempt) where
    abbrev AreMadeOf : List Entry → Type 0
    AreMadeOf entries = AllByRecursion (IsMadeOf id_of objects) entries

    made_kind : (number : ℕ) (what : EventKind) → IsOwn true AreMadeOf t number what → IsBatchMade id_of objects what
    made_kind number (Batch entries) own = (own.0 refl, own.1)
    made_kind number what own = tt

    made_own : (number : ℕ) (es : List Event) → AllByRecursion (IsOwnEvent AreMadeOf t number) es → AllByRecursion (λ e. IsBatchMade id_of objects e.what) es
    made_own number [] own = tt
    made_own number (e ∷ es) own = (made_kind number e.what own.0.added, made_own number es own.1)

    made_visit : (number : ℕ) (es : List Event) → AreOfVisit AreMadeOf t number es → AllByRecursion (λ e. IsBatchMade id_of objects e.what) es
    made_visit number [] are = tt
    made_visit number (e ∷ es) are = (subst (λ (x : Event). IsBatchMade id_of objects x.what) (sym are.0) tt, made_own number es are.1)

    -- the room that a load leaves
    pub room_after : (h h' later : List Event) (marks marks' : ℕ) → IsHistory id_of h' → AreCodable 0 (h' ++ later) → (adds : AddsVisit AreMadeOf t h h') → others adds.more + marks' ≤ marks
        → HasRoomLeft h marks → HasRoomLeft h' marks'
    room_after h h' later marks marks' history fits adds enough room =
        let short = all_short 0 (h ++ adds.more) (codable_front 0 (h ++ adds.more) later (subst (λ (g : List Event). AreCodable 0 (g ++ later)) adds.behind fits)) in
        subst (λ (g : List Event). HasRoomLeft g marks') (sym adds.behind)
        (room_behind h adds.more marks marks' (subst (IsHistory id_of) adds.behind history) (made_visit (next_visit h t.origin) adds.more adds.are)
        (all_behind (λ e. IsShort e.what) h adds.more short) enough room)

    -- so is its next event, which is made too
    short_kind_next : (number : ℕ) (a : Archive) (by : ℕ) (what : EventKind) → length t.origin ≤ 2048 → HasShortNames a.bodies → IsOwn true AreMadeOf t number what → May_kind id_of a by what → IsShort what
    short_kind_next number a by (Batch entries) url held own may = tt
    short_kind_next number a by (Mark origin visit status snapshot) url held own may =
        let same = ap length own.0 in
        (omega (arith, same, url), fitting a.bodies status snapshot held may.fits)
    short_kind_next number a by what url held own may = absurd own

    module _ (h h' later : List Event) (e : Event) (url : length t.origin ≤ 2048) (fits : AreCodable 0 (h' ++ later)) (may : May id_of (replay h') e) where
      next_made : (more : List Event) → AreOfVisit AreMadeOf t (next_visit h t.origin) (more ++ e ∷ []) → IsBatchMade id_of objects e.what × IsShort e.what
      next_made [] are = (subst (λ (x : Event). IsBatchMade id_of objects x.what) (sym are.0) tt, subst (λ (x : Event). IsShort x.what) (sym are.0) url)
      next_made (x ∷ more) are =
          let number = next_visit h t.origin in
          let own = (all_behind (IsOwnEvent AreMadeOf t number) more (e ∷ []) are.1).0 in
          (made_kind number e.what own.added, short_kind_next number (replay h') e.by e.what url (short_names h' (codable_front 0 h' later fits)) own.added may)

      -- where there is room for one mark, no event that may come next in the load passes a file's end
      pub none_meets_end : AddsVisit AreMadeOf t h h' → AddsVisit AreMadeOf t h (h' ++ e ∷ []) → HasRoomLeft h' 1 → (which : Which) (number : ℕ) → FilePasses h' e.what which number → ⊥
      none_meets_end adds next room which number passes =
          let more : next.more ≡ adds.more ++ e ∷ [] =
          append_cancel_left h next.more (adds.more ++ e ∷ []) (sym next.behind ∙ ap (λ (g : List Event). g ++ e ∷ []) adds.behind ∙ append_assoc h adds.more (e ∷ [])) in
          let made = next_made adds.more (subst (AreOfVisit AreMadeOf t (next_visit h t.origin)) more next.are) in
          passes_none h' e which number room may made.0 made.1 passes
