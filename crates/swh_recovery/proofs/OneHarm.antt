-- The two files have one harm at most, and none where they stand for a history.
use Rattle.std.specs.Prelude.{get_or}
use Rattle.std.proofs.Common.{◌≡◌, ◌≢◌, ℕ, ◌+◌, ◌<◌, ◌≤◌, List, [], ◌∷◌, ◌++◌, length, drop, map, refl, sym, ap, ◌∙◌, subst, inl, inr, arith, length-append, append_assoc}
use Rattle.std.proofs.lemmas.List.{drop-drop, get_or-drop, get_or-take}
use Rattle.std.proofs.Math.ListN.{get_or-append}
use Rattle.std.proofs.lemmas.Bool.{cases_lt}
use Rattle.std.proofs.Math.Seq.{drop-append_seam}
use Rattle.std.specs.List.{AllByRecursion}
use Rattle.std.specs.FinMap.{get-empty}
use Rattle.swh_base.specs.declared.kind.Kind.{Kind}
use Rattle.swh_base.specs.declared.entry.Entry.{Entry}
use Rattle.swh_base.specs.Name.{name_cmp}
use Rattle.swh_base.specs.Limits.{body_limit}
use Rattle.swh_model.specs.declared.event.Event.{Event}
use Rattle.swh_model.specs.declared.event.EventKind.{EventKind}
use Rattle.swh_model.specs.declared.event.EventKind.TheVariants.{Batch}
use Rattle.swh_model.specs.Alike.{without_children, bare_kind, bare_event}
use Rattle.swh_model.specs.Archive.{Archive, empty_archive}
use Rattle.swh_model.specs.Step.{HasItsChildrenAndName, May_kind, MayAll, IsHistory, after}
use Rattle.swh_model.proofs.OneHistory.{one_history}
use Rattle.swh_object.specs.Object.{IsObject}
use Rattle.swh_format.specs.Record.{magic}
use Rattle.swh_format.specs.StoredObject.{coded_run}
use Rattle.swh_format.specs.EventRecord.{event_byte, payload_of, packed_objects, coded_record, IsCodable, AreCodable}
use Rattle.swh_format.specs.Stands.{coded_records, coded_runs, StandsFor}
use Rattle.swh_format.proofs.StandsFrom.{StandsFrom, behind_magic}
use Rattle.swh_format.specs.BatchRecord.{run_from, run_to}
use Rattle.swh_format.proofs.Contents.{spells_hold}
use Rattle.swh_format.proofs.Cuts.{cut, same_head, same_tail}
use Rattle.swh_format.proofs.Unique.{same_event, length_behind}
use Rattle.swh_recovery.specs.declared.harm.Harm.{Harm}
use Rattle.swh_recovery.specs.declared.harm.Found.{Found}
use Rattle.swh_recovery.specs.declared.harm.Harm.TheVariants.{Magic}
use Rattle.swh_format.specs.declared.kinds.RecordKind.TheVariants as of
use Rattle.swh_format.specs.Fields.{FieldsHold, Spells}
use Rattle.swh_format.specs.Kinds.{byte_of, fields_of, payload_fields}
use Rattle.swh_recovery.specs.Fields.{found_at}
use Rattle.swh_recovery.specs.LedgerHarm.{RecordBreaks}
use Rattle.swh_recovery.specs.StoreHarm.{RunBreaks}
use Rattle.swh_model.specs.Entries.{entries_of}
use Rattle.swh_recovery.specs.Harms.{LedgerBreaks, StoreBreaks, IsRefused, NextBreaks, Begin, BreaksAfter, MagicBreaks}
use Rattle.swh_recovery.specs.Records.{IsHarm}
use Rattle.swh_recovery.proofs.ToldLemmas.{one_told, told_of_batch}
use Rattle.swh_recovery.proofs.OneField.{one_record, no_record, same_records, event_frame, record_whole}
use Rattle.swh_recovery.proofs.OneObject.{one_run, no_run, whole_or_broken}

batch_holds : (kind : ℕ) (payload : List ℕ) → kind ≡ byte_of of.Batch → Spells (fields_of of.Batch) payload → FieldsHold (payload_fields kind) payload
batch_holds kind payload is t = subst (λ (n : ℕ). FieldsHold (payload_fields n) payload) (sym is) (spells_hold (fields_of of.Batch) payload t)

behind_run : (at : ℕ) (store p z : List ℕ) → drop at store ≡ p ++ z → drop (at + length p) store ≡ z
behind_run at store p z is = sym (drop-drop (length p) at store) ∙ ap (λ (l : List ℕ). drop (length p) l) is ∙ drop-append_seam p z

-- the byte at a place
byte_at : (at byte : ℕ) (ledger rest : List ℕ) → drop at ledger ≡ byte ∷ rest → get_or ledger at 0 ≡ byte
byte_at at byte ledger rest is =
    ap (λ (n : ℕ). get_or ledger n 0) (let z : at ≡ at + 0 = omega arith in z) ∙ sym (get_or-drop at ledger 0 0) ∙ ap (λ (l : List ℕ). get_or l 0 0) is

-- the magic's bytes are not others
pub no_magic_break : (ledger behind : List ℕ) (file : ℕ) (found : Found) → ledger ≡ magic ++ behind → MagicBreaks ledger file found → ⊥
no_magic_break ledger behind file found is b =
    b.other (sym (byte_at b.at b.byte ledger b.rest b.is) ∙ ap (λ (l : List ℕ). get_or l b.at 0) is ∙ get_or-append magic behind 0 b.at b.inside)

magic_in_front : (ledger : List ℕ) (file file' : ℕ) (x y : Found) (a : MagicBreaks ledger file x) (b : MagicBreaks ledger file' y) → a.at < b.at → ⊥
magic_in_front ledger file file' x y a b less =
    a.other
    (sym (byte_at a.at a.byte ledger a.rest a.is) ∙ sym (get_or-take b.at ledger a.at 0 less) ∙ ap (λ (l : List ℕ). get_or l a.at 0) b.front ∙ get_or-take b.at magic a.at 0 less)

one_magic : (ledger : List ℕ) (file file' : ℕ) (x y : Found) → MagicBreaks ledger file x → MagicBreaks ledger file' y → x ≡ y
one_magic ledger file file' x y a b =
    elim (cases_lt a.at b.at) [
      | inl less ↦ absurd (magic_in_front ledger file file' x y a b less)
      | inr upto ↦ elim (cases_lt b.at a.at) [
        | inl less ↦ absurd (magic_in_front ledger file' file y x b a less)
        | inr over ↦
            (let places : a.at ≡ b.at = omega (arith, upto, over) in
            let bytes = same_head a.byte b.byte a.rest b.rest (sym a.is ∙ ap (λ (n : ℕ). drop n ledger) places ∙ b.is) in
            a.found_is ∙ (λ i. found_at (places i) (Magic (bytes i))) ∙ sym b.found_is)
      ]
    ]

-- the first object of the first event
first_entry : List Event → Entry → Entry
first_entry [] d = d
first_entry (e ∷ h) d = first_of e.what
  where
    first_of : EventKind → Entry
    first_of (Batch []) = d
    first_of (Batch (f ∷ fs)) = f
    first_of _ = d

module _ (id_of : Kind → List ℕ → List ℕ) where
  -- These events' objects are of their kinds and named.
  abbrev pub AreGood : List Event → Type 0
  AreGood = AllByRecursion (λ e. AllByRecursion (IsObject id_of) (entries_of e.what))

  entries_good : (es : List Entry) → AllByRecursion (HasItsChildrenAndName id_of) es → AllByRecursion (λ e. length e.body ≤ body_limit) es → AllByRecursion (IsObject id_of) es
  entries_good [] good short = tt
  entries_good (e ∷ es) good short = (record { kids = good.0.good.kids; named = good.0.named; short = short.0 }, entries_good es good.1 short.1)

  kind_good : (a : Archive) (by : ℕ) (what : EventKind) → May_kind id_of a by what → AllByRecursion (IsObject id_of) (entries_of what)
  kind_good a by (Batch es) may = entries_good es may.good may.limits.bodies
  kind_good a by what may = tt

  -- what may happen is good
  pub history_good : (a : Archive) (h : List Event) → MayAll id_of a h → AreGood h
  history_good a [] may = tt
  history_good a (e ∷ h) may = (kind_good a e.by e.what may.0, history_good (after a e) h may.1)

  -- One object alone is a history, so that its body's children are its own.
  history_of_one : (e : Entry) → IsObject id_of e → IsHistory id_of (record { by = 0; what = Batch (e ∷ []) } ∷ [])
  history_of_one e good = (
    record {
      good = (record { good = record { kids = good.kids }; named = good.named }, tt);
      limits = record { bodies = (good.short, tt); objects = omega arith; bytes = omega arith };
      new = (get-empty name_cmp e.name, tt);
    },
    tt,
  )

  same_object : (e f : Entry) → without_children e ≡ without_children f → IsObject id_of e → IsObject id_of f → e ≡ f
  unfolding first_entry
  same_object e f alike he hf =
      ap (λ (h : List Event). first_entry h e)
      (one_history id_of (record { by = 0; what = Batch (e ∷ []) } ∷ []) (record { by = 0; what = Batch (f ∷ []) } ∷ []) (λ i. record { by = 0; what = Batch (alike i ∷ []) } ∷ []) (history_of_one e he) (history_of_one f hf))

  same_objects : (es fs : List Entry) → map without_children es ≡ map without_children fs → AllByRecursion (IsObject id_of) es → AllByRecursion (IsObject id_of) fs → es ≡ fs
  same_objects [] [] alike he hf = refl
  same_objects [] (f ∷ fs) alike he hf = let e : [] ≡ without_children f ∷ map without_children fs = alike in absurd cc
  same_objects (e ∷ es) [] alike he hf = let f : without_children e ∷ map without_children es ≡ [] = alike in absurd cc
  same_objects (e ∷ es) (f ∷ fs) alike he hf =
      let heads : without_children e ≡ without_children f = cc in
      let tails : map without_children es ≡ map without_children fs = cc in
      let one = same_object e f heads he.0 hf.0 in
      let more = same_objects es fs tails he.1 hf.1 in
      λ i. one i ∷ more i

  same_what : (a b : EventKind) → bare_kind a ≡ bare_kind b → AllByRecursion (IsObject id_of) (entries_of a) → AllByRecursion (IsObject id_of) (entries_of b) → a ≡ b
  same_what (Batch es) (Batch fs) alike ha hb =
      let entries : map without_children es ≡ map without_children fs = cc in
      let one = same_objects es fs entries ha hb in λ i. Batch (one i)
  same_what (Batch es) b alike ha hb = let e : Batch (map without_children es) ≡ bare_kind b = alike in absurd cc
  same_what a (Batch fs) alike ha hb = let e : bare_kind a ≡ Batch (map without_children fs) = alike in absurd cc
  same_what a b alike ha hb = alike

  -- events that are the same up to the children, and good, are the same
  same_event_of : (e f : Event) → bare_event e ≡ bare_event f → AllByRecursion (IsObject id_of) (entries_of e.what) → AllByRecursion (IsObject id_of) (entries_of f.what) → e ≡ f
  same_event_of e f alike he hf =
      let who : e.by ≡ f.by = ap (λ (x : Event). x.by) alike in
      let what = same_what e.what f.what (ap (λ (x : Event). x.what) alike) he hf in
      λ i. record { by = who i; what = what i }

  module _ (store : List ℕ) where
    run_stands : (start by : ℕ) (what : EventKind) (payload y : List ℕ) (t : Spells (fields_of of.Batch) payload) (found : Found) → IsCodable start (record { by = by; what = what }) → event_byte what ≡ byte_of of.Batch → payload ≡ payload_of start (record { by = by; what = what })
        → AllByRecursion (IsObject id_of) (entries_of what) → drop start store ≡ packed_objects what ++ y → RunBreaks id_of (run_from t.holds) (run_to t.holds) store found → ⊥
    run_stands start by (Batch es) payload y t found codable kind_is is good run breaks =
        let same = one_told payload (payload_of start (record { by = by; what = Batch es })) t (told_of_batch start by es codable) is in
        no_run id_of start (start + length (coded_run es)) store y es found (record { good = good; codable = codable.1.entries_codable }) run refl
        (subst (λ (n : ℕ). RunBreaks id_of start n store found) same.1 (subst (λ (n : ℕ). RunBreaks id_of n (run_to t.holds) store found) same.0 breaks))
    run_stands start by what payload y t found codable kind_is is good run breaks = omega (arith, kind_is)

    -- where an event stands, the next does not break
    no_next : (n gate start : ℕ) (records x y : List ℕ) (e : Event) (file : ℕ) (found : Found) → records ≡ 1 ∷ (coded_record start e ++ x) → IsCodable start e → AllByRecursion (IsObject id_of) (entries_of e.what) → drop start store ≡ packed_objects e.what ++ y
        → NextBreaks id_of n gate start records store file found → ⊥
    unfolding event_frame
    no_next n gate start records x y e file found is codable good run breaks =
        elim breaks [
          | inl b ↦ (let l : 0 ≡ length records = ap length (sym b.none) in let m : length records ≡ length (1 ∷ (coded_record start e ++ x)) = ap length is in omega (arith, l, m))
          | inr b ↦ elim b [
            | inl b ↦ record_whole start e b.behind x (gate + 1) found codable (same_tail 1 1 _ _ (sym b.opened ∙ is)) b.breaks
            | inr b ↦ elim b [
              | inl b ↦
                  (let frame = event_frame start e (coded_record start e ++ x) x codable refl in
                  let same = same_records b.behind (coded_record start e ++ x) b.frame frame (same_tail 1 1 _ _ (sym b.opened ∙ is)) in
                  run_stands start e.by e.what b.frame.payload y b.told found codable (sym same.0 ∙ b.batch) same.1 good run b.breaks)
              | inr b ↦
                  (let frame = event_frame start e (coded_record start e ++ x) x codable refl in
                  let same = same_records b.behind (coded_record start e ++ x) b.frame frame (same_tail 1 1 _ _ (sym b.opened ∙ is)) in
                  b.none e y codable same.0 same.1 run)
            ]
          ]
        ]

    -- at a closed gate nothing breaks
    none_at_end : (n gate start shut : ℕ) (records behind : List ℕ) (file : ℕ) (found : Found) → records ≡ shut ∷ behind → shut ≢ 1 → NextBreaks id_of n gate start records store file found → ⊥
    none_at_end n gate start shut records behind file found is closed breaks =
        elim breaks [
          | inl b ↦ (let l : 0 ≡ length records = ap length (sym b.none) in let m : length records ≡ length (shut ∷ behind) = ap length is in omega (arith, l, m))
          | inr b ↦ elim b [
            | inl b ↦ closed (same_head shut 1 _ _ (sym is ∙ b.opened))
            | inr b ↦ elim b [ inl b ↦ closed (same_head shut 1 _ _ (sym is ∙ b.opened)) | inr b ↦ closed (same_head shut 1 _ _ (sym is ∙ b.opened)) ]
          ]
        ]

    open_or_missing : (records behind : List ℕ) → records ≡ [] → records ≡ 1 ∷ behind → ⊥
    open_or_missing records behind none is = let l : length records ≡ 0 = ap length none in let m : length records ≡ length (1 ∷ behind) = ap length is in omega (arith, l, m)

    ledger_or_store : (gate : ℕ) (records : List ℕ) (file file' : ℕ) (x y : Found) → LedgerBreaks gate records file x → StoreBreaks id_of records store file' y → ⊥
    ledger_or_store gate records file file' x y a b =
        no_record b.behind b.frame (gate + 1) x (batch_holds b.frame.kind b.frame.payload b.batch b.told) (subst (λ (l : List ℕ). RecordBreaks l (gate + 1) x) (same_tail 1 1 a.behind b.behind (sym a.opened ∙ b.opened)) a.breaks)

    ledger_or_refused : (n gate start : ℕ) (records : List ℕ) (file file' : ℕ) (x y : Found) → LedgerBreaks gate records file x → IsRefused id_of n gate start records store file' y → ⊥
    ledger_or_refused n gate start records file file' x y a b =
        no_record b.behind b.frame (gate + 1) x b.fields (subst (λ (l : List ℕ). RecordBreaks l (gate + 1) x) (same_tail 1 1 a.behind b.behind (sym a.opened ∙ b.opened)) a.breaks)

    store_or_refused : (n gate start : ℕ) (records : List ℕ) (file file' : ℕ) (x y : Found) → StoreBreaks id_of records store file x → IsRefused id_of n gate start records store file' y → ⊥
    store_or_refused n gate start records file file' x y a b =
        let same = same_records a.behind b.behind a.frame b.frame (same_tail 1 1 a.behind b.behind (sym a.opened ∙ b.opened)) in
        let named = b.run (sym same.0 ∙ a.batch) in
        let told = one_told a.frame.payload b.frame.payload a.told named.told same.1 in
        whole_or_broken id_of (run_from named.told.holds) (run_to named.told.holds) store named.entries x named.run
        (subst (λ (m : ℕ). RunBreaks id_of (run_from named.told.holds) m store x) told.1 (subst (λ (m : ℕ). RunBreaks id_of m (run_to a.told.holds) store x) told.0 a.breaks))

    one_store : (records : List ℕ) (file file' : ℕ) (x y : Found) → StoreBreaks id_of records store file x → StoreBreaks id_of records store file' y → x ≡ y
    one_store records file file' x y a b =
        let same = same_records a.behind b.behind a.frame b.frame (same_tail 1 1 a.behind b.behind (sym a.opened ∙ b.opened)) in
        let told = one_told a.frame.payload b.frame.payload a.told b.told same.1 in
        one_run id_of (run_from b.told.holds) (run_to b.told.holds) store x y
        (subst (λ (m : ℕ). RunBreaks id_of (run_from b.told.holds) m store x) told.1 (subst (λ (m : ℕ). RunBreaks id_of m (run_to a.told.holds) store x) told.0 a.breaks)) b.breaks

    one_ledger : (gate : ℕ) (records : List ℕ) (file file' : ℕ) (x y : Found) → LedgerBreaks gate records file x → LedgerBreaks gate records file' y → x ≡ y
    one_ledger gate records file file' x y a b = one_record b.behind (gate + 1) x y (subst (λ (l : List ℕ). RecordBreaks l (gate + 1) x) (same_tail 1 1 a.behind b.behind (sym a.opened ∙ b.opened)) a.breaks) b.breaks

    one_next : (n gate start : ℕ) (records : List ℕ) (file file' : ℕ) (x y : Found) → NextBreaks id_of n gate start records store file x → NextBreaks id_of n gate start records store file' y → (file ≡ file') × (x ≡ y)
    one_next n gate start records file file' x y a b =
        elim a [
          | inl a ↦ elim b [
            | inl b ↦ (a.file_is ∙ sym b.file_is, a.found_is ∙ sym b.found_is)
            | inr b ↦ absurd (elim b [ inl b ↦ open_or_missing records b.behind a.none b.opened | inr b ↦ elim b [ inl b ↦ open_or_missing records b.behind a.none b.opened | inr b ↦ open_or_missing records b.behind a.none b.opened ] ])
          ]
          | inr a ↦ elim a [
            | inl a ↦ elim b [
              | inl b ↦ absurd (open_or_missing records a.behind b.none a.opened)
              | inr b ↦ elim b [
                | inl b ↦ (a.file_is ∙ sym b.file_is, one_ledger gate records file file' x y a b)
                | inr b ↦ absurd (elim b [ inl b ↦ ledger_or_store gate records file file' x y a b | inr b ↦ ledger_or_refused n gate start records file file' x y a b ])
              ]
            ]
            | inr a ↦ elim a [
              | inl a ↦ elim b [
                | inl b ↦ absurd (open_or_missing records a.behind b.none a.opened)
                | inr b ↦ elim b [
                  | inl b ↦ absurd (ledger_or_store gate records file' file y x b a)
                  | inr b ↦ elim b [ inl b ↦ (a.file_is ∙ sym b.file_is, one_store records file file' x y a b) | inr b ↦ absurd (store_or_refused n gate start records file file' x y a b) ]
                ]
              ]
              | inr a ↦ elim b [
                | inl b ↦ absurd (open_or_missing records a.behind b.none a.opened)
                | inr b ↦ elim b [
                  | inl b ↦ absurd (ledger_or_refused n gate start records file' file y x b a)
                  | inr b ↦ elim b [ inl b ↦ absurd (store_or_refused n gate start records file' file y x b a) | inr b ↦ (a.file_is ∙ sym b.file_is, a.found_is ∙ sym b.found_is) ]
                ]
              ]
            ]
          ]
        ]

    -- From a gate of the ledger and a place of the store on the files have these events, and then break.
    pub record BreaksFrom (n at gate : ℕ) (ledger : List ℕ) (h : List Event) (file : ℕ) (found : Found) : Type 0 where
      pub records : List ℕ
      pub begins : ledger ≡ coded_records at h ++ records
      pub beyond : List ℕ
      pub runs : drop at store ≡ coded_runs h ++ beyond
      pub codable : AreCodable at h
      pub good : AreGood h
      pub next : NextBreaks id_of (n + length h) (gate + length (coded_records at h)) (at + length (coded_runs h)) records store file found

    -- the first event is behind
    behind_event : (n at gate : ℕ) (ledger more : List ℕ) (e : Event) (h : List Event) (file : ℕ) (found : Found) (b : BreaksFrom n at gate ledger (e ∷ h) file found) → coded_records (at + length (packed_objects e.what)) h ++ b.records ≡ more
        → BreaksFrom (n + 1) (at + length (packed_objects e.what)) (gate + (1 + length (coded_record at e))) more h file found
    behind_event n at gate ledger more e h file found b is =
        let run = packed_objects e.what in
        let next = at + length run in
        let number : n + length (e ∷ h) ≡ n + 1 + length h = omega arith in
        let gates : gate + length (1 ∷ (coded_record at e ++ coded_records next h)) ≡ gate + (1 + length (coded_record at e)) + length (coded_records next h) = omega (arith, length-append (coded_record at e) (coded_records next h)) in
        let places : at + length (run ++ coded_runs h) ≡ next + length (coded_runs h) = omega (arith, length-append run (coded_runs h)) in
        record {
          records = b.records;
          begins = sym is;
          beyond = b.beyond;
          runs = behind_run at store run (coded_runs h ++ b.beyond) (b.runs ∙ append_assoc run (coded_runs h) b.beyond);
          codable = b.codable.1;
          good = b.good.1;
          next =
              subst (λ (m : ℕ). NextBreaks id_of (n + 1 + length h) (gate + (1 + length (coded_record at e)) + length (coded_records next h)) m b.records store file found) places
              (subst (λ (m : ℕ). NextBreaks id_of (n + 1 + length h) m (at + length (run ++ coded_runs h)) b.records store file found) gates
              (subst (λ (m : ℕ). NextBreaks id_of m (gate + length (1 ∷ (coded_record at e ++ coded_records next h))) (at + length (run ++ coded_runs h)) b.records store file found) number b.next));
        }

    -- where no event is in front, the next breaks at the place itself
    next_here : (n at gate : ℕ) (ledger : List ℕ) (file : ℕ) (found : Found) → BreaksFrom n at gate ledger [] file found → NextBreaks id_of (n + 0) (gate + 0) at ledger store file found
    next_here n at gate ledger file found b =
        subst (λ (l : List ℕ). NextBreaks id_of (n + 0) (gate + 0) at l store file found) (sym b.begins)
        (subst (λ (m : ℕ). NextBreaks id_of (n + 0) (gate + 0) m b.records store file found) (let z : at + 0 ≡ at = omega arith in z) b.next)

    not_here : (n at gate : ℕ) (ledger x y : List ℕ) (e : Event) (h : List Event) (file : ℕ) (found : Found) → BreaksFrom n at gate ledger [] file found → ledger ≡ coded_records at (e ∷ h) ++ x → drop at store ≡ coded_runs (e ∷ h) ++ y → IsCodable at e
        → AllByRecursion (IsObject id_of) (entries_of e.what) → ⊥
    not_here n at gate ledger x y e h file found b is runs codable good =
        let next = at + length (packed_objects e.what) in
        no_next (n + 0) (gate + 0) at ledger (coded_records next h ++ x) (coded_runs h ++ y) e file found
        (is ∙ ap (λ (l : List ℕ). 1 ∷ l) (append_assoc (coded_record at e) (coded_records next h) x)) codable good (runs ∙ append_assoc (packed_objects e.what) (coded_runs h) y) (next_here n at gate ledger file found b)

    -- two readings of the front event
    fronts : (at : ℕ) (ledger x y u v : List ℕ) (e f : Event) (g h : List Event) → ledger ≡ coded_records at (e ∷ g) ++ x → ledger ≡ coded_records at (f ∷ h) ++ y → drop at store ≡ coded_runs (e ∷ g) ++ u → drop at store ≡ coded_runs (f ∷ h) ++ v → IsCodable at e → IsCodable at f
        → (bare_event e ≡ bare_event f) × (coded_records (at + length (packed_objects e.what)) g ++ x ≡ coded_records (at + length (packed_objects f.what)) h ++ y) × (length (packed_objects e.what) ≡ length (packed_objects f.what)) × (length (coded_record at e) ≡ length (coded_record at f))
    fronts at ledger x y u v e f g h a b runs runs' ce cf =
        let here = at + length (packed_objects e.what) in
        let there = at + length (packed_objects f.what) in
        let records : coded_record at e ++ (coded_records here g ++ x) ≡ coded_record at f ++ (coded_records there h ++ y) =
        sym (append_assoc (coded_record at e) (coded_records here g) x) ∙ same_tail 1 1 _ _ (sym a ∙ b) ∙ append_assoc (coded_record at f) (coded_records there h) y in
        let stored : packed_objects e.what ++ (coded_runs g ++ u) ≡ packed_objects f.what ++ (coded_runs h ++ v) =
        sym (append_assoc (packed_objects e.what) (coded_runs g) u) ∙ sym runs ∙ runs' ∙ append_assoc (packed_objects f.what) (coded_runs h) v in
        let one = same_event at e f _ _ _ _ ce cf records stored in
        (one.0, one.1, length_behind (packed_objects e.what) (packed_objects f.what) _ _ stored one.2, length_behind (coded_record at e) (coded_record at f) _ _ records one.1)

    -- From a gate of the ledger and a place of the store on the files begin with what they have of these events.
    pub record BeginsFrom (at : ℕ) (ledger : List ℕ) (h : List Event) : Type 0 where
      pub records : List ℕ
      pub begins : ledger ≡ coded_records at h ++ records
      pub beyond : List ℕ
      pub runs : drop at store ≡ coded_runs h ++ beyond
      pub codable : AreCodable at h
      pub good : AreGood h

    -- These events are a front of those.
    pub record IsFront (g h : List Event) : Type 0 where
      pub more : List Event
      pub is : g ++ more ≡ h

    begins_behind : (at : ℕ) (ledger more : List ℕ) (e : Event) (h : List Event) (b : BeginsFrom at ledger (e ∷ h)) → coded_records (at + length (packed_objects e.what)) h ++ b.records ≡ more → BeginsFrom (at + length (packed_objects e.what)) more h
    begins_behind at ledger more e h b is = record {
      records = b.records;
      begins = sym is;
      beyond = b.beyond;
      runs = behind_run at store (packed_objects e.what) (coded_runs h ++ b.beyond) (b.runs ∙ append_assoc (packed_objects e.what) (coded_runs h) b.beyond);
      codable = b.codable.1;
      good = b.good.1;
    }

    front_next : (e f : Event) (g h : List Event) → e ≡ f → IsFront g h → IsFront (e ∷ g) (f ∷ h)
    front_next e f g h one rest = record { more = rest.more; is = (λ i. one i ∷ rest.is i) }

    -- of two lists of events with which the files begin the shorter is a front of the other
    pub shorter_is_front : (at : ℕ) (ledger : List ℕ) (g h : List Event) → BeginsFrom at ledger g → BeginsFrom at ledger h → length g ≤ length h → IsFront g h
    shorter_is_front at ledger [] h a b le = record { more = h; is = refl }
    shorter_is_front at ledger (e ∷ g) [] a b le = absurd (omega (arith, le))
    shorter_is_front at ledger (e ∷ g) (f ∷ h) a b le =
        let one = fronts at ledger a.records b.records a.beyond b.beyond e f g h a.begins b.begins a.runs b.runs a.codable.0 b.codable.0 in
        let there = at + length (packed_objects f.what) in
        let more = coded_records there h ++ b.records in
        let first = subst (λ (m : ℕ). BeginsFrom (at + m) more g) one.2 (begins_behind at ledger more e g a one.1) in
        front_next e f g h (same_event_of e f one.0 a.good.0 b.good.0) (shorter_is_front there more g h first (begins_behind at ledger more f h b refl) (omega (arith, le)))

    stands_behind : (at : ℕ) (ledger : List ℕ) (f : Event) (h : List Event) (s : StandsFrom at ledger (drop at store) (f ∷ h))
        → StandsFrom (at + length (packed_objects f.what)) (coded_records (at + length (packed_objects f.what)) h ++ s.gate ∷ s.behind) (drop (at + length (packed_objects f.what)) store) h
    stands_behind at ledger f h s = record {
      gate = s.gate;
      closed = s.closed;
      behind = s.behind;
      records = refl;
      beyond = s.beyond;
      runs = behind_run at store (packed_objects f.what) (coded_runs h ++ s.beyond) (s.runs ∙ append_assoc (packed_objects f.what) (coded_runs h) s.beyond);
      codable = s.codable.1;
    }

    -- and each is a front of the events for which they stand
    pub front_of_standing : (at : ℕ) (ledger : List ℕ) (g h : List Event) → BeginsFrom at ledger g → StandsFrom at ledger (drop at store) h → AreGood h → IsFront g h
    front_of_standing at ledger [] h a s good = record { more = h; is = refl }
    front_of_standing at ledger (e ∷ g) [] a s good = absurd (s.closed (same_head s.gate 1 _ _ (sym s.records ∙ a.begins)))
    front_of_standing at ledger (e ∷ g) (f ∷ h) a s good =
        let one = fronts at ledger a.records (s.gate ∷ s.behind) a.beyond s.beyond e f g h a.begins s.records a.runs s.runs a.codable.0 s.codable.0 in
        let there = at + length (packed_objects f.what) in
        let more = coded_records there h ++ s.gate ∷ s.behind in
        let first = subst (λ (m : ℕ). BeginsFrom (at + m) more g) one.2 (begins_behind at ledger more e g a one.1) in
        front_next e f g h (same_event_of e f one.0 a.good.0 good.0) (front_of_standing there more g h first (stands_behind at ledger f h s) good.1)

    -- files that break stand for no events
    pub no_stand : (n at gate : ℕ) (ledger : List ℕ) (h g : List Event) (file : ℕ) (found : Found) → BreaksFrom n at gate ledger h file found → StandsFrom at ledger (drop at store) g → AreGood g → ⊥
    no_stand n at gate ledger [] [] file found b s good = none_at_end (n + 0) (gate + 0) at s.gate ledger s.behind file found s.records s.closed (next_here n at gate ledger file found b)
    no_stand n at gate ledger [] (f ∷ g) file found b s good = not_here n at gate ledger (s.gate ∷ s.behind) s.beyond f g file found b s.records s.runs s.codable.0 good.0
    no_stand n at gate ledger (e ∷ h) [] file found b s good = s.closed (same_head s.gate 1 _ _ (sym s.records ∙ b.begins))
    no_stand n at gate ledger (e ∷ h) (f ∷ g) file found b s good =
        let here = at + length (packed_objects e.what) in
        let there = at + length (packed_objects f.what) in
        let one = fronts at ledger b.records (s.gate ∷ s.behind) b.beyond s.beyond e f h g b.begins s.records b.runs s.runs b.codable.0 s.codable.0 in
        let more = coded_records there g ++ s.gate ∷ s.behind in
        let stands = stands_behind at ledger f g s in
        no_stand (n + 1) here (gate + (1 + length (coded_record at e))) more h g file found (behind_event n at gate ledger more e h file found b one.1) (subst (λ (m : ℕ). StandsFrom (at + m) more (drop (at + m) store) g) (sym one.2) stands) good.1

    -- nor do they begin with more events
    pub no_more_events : (n at gate : ℕ) (ledger : List ℕ) (g h : List Event) (file : ℕ) (found : Found) → BreaksFrom n at gate ledger g file found → BeginsFrom at ledger h → length g < length h → ⊥
    no_more_events n at gate ledger g [] file found b s less = omega (arith, less)
    no_more_events n at gate ledger [] (f ∷ h) file found b s less = not_here n at gate ledger s.records s.beyond f h file found b s.begins s.runs s.codable.0 s.good.0
    no_more_events n at gate ledger (e ∷ g) (f ∷ h) file found b s less =
        let one = fronts at ledger b.records s.records b.beyond s.beyond e f g h b.begins s.begins b.runs s.runs b.codable.0 s.codable.0 in
        let there = at + length (packed_objects f.what) in
        let more = coded_records there h ++ s.records in
        let first = subst (λ (m : ℕ). BreaksFrom (n + 1) (at + m) (gate + (1 + length (coded_record at e))) more g file found) one.2 (behind_event n at gate ledger more e g file found b one.1) in
        no_more_events (n + 1) there (gate + (1 + length (coded_record at e))) more g h file found first (begins_behind at ledger more f h s refl) (omega (arith, less))

    -- and in one way
    pub one_from : (n at gate : ℕ) (ledger : List ℕ) (g h : List Event) (file file' : ℕ) (x y : Found) → BreaksFrom n at gate ledger g file x → BreaksFrom n at gate ledger h file' y → (g ≡ h) × (file ≡ file') × (x ≡ y)
    one_from n at gate ledger [] [] file file' x y a b = let one = one_next (n + 0) (gate + 0) at ledger file file' x y (next_here n at gate ledger file x a) (next_here n at gate ledger file' y b) in (refl, one.0, one.1)
    one_from n at gate ledger [] (f ∷ h) file file' x y a b = absurd (not_here n at gate ledger b.records b.beyond f h file x a b.begins b.runs b.codable.0 b.good.0)
    one_from n at gate ledger (e ∷ g) [] file file' x y a b = absurd (not_here n at gate ledger a.records a.beyond e g file' y b a.begins a.runs a.codable.0 a.good.0)
    one_from n at gate ledger (e ∷ g) (f ∷ h) file file' x y a b =
        let one = fronts at ledger a.records b.records a.beyond b.beyond e f g h a.begins b.begins a.runs b.runs a.codable.0 b.codable.0 in
        let there = at + length (packed_objects f.what) in
        let more = coded_records there h ++ b.records in
        let first = behind_event n at gate ledger more e g file x a one.1 in
        let second = behind_event n at gate ledger more f h file' y b refl in
        let moved = subst (λ (m : ℕ). BreaksFrom (n + 1) there (gate + (1 + m)) more g file x) one.3 (subst (λ (m : ℕ). BreaksFrom (n + 1) (at + m) (gate + (1 + length (coded_record at e))) more g file x) one.2 first) in
        let rest = one_from (n + 1) there (gate + (1 + length (coded_record at f))) more g h file file' x y moved second in
        let event = same_event_of e f one.0 a.good.0 b.good.0 in
        ((λ i. event i ∷ rest.0 i), rest.1, rest.2)

  -- what breaks after these events breaks behind the magic
  pub from_magic : (ledger store rest : List ℕ) (h : List Event) (file : ℕ) (found : Found) → ledger ≡ magic ++ rest → BreaksAfter id_of h ledger store file found → BreaksFrom store 1 0 8 rest h file found
  from_magic ledger store rest h file found is b =
      let f = b.fronts in
      let number : length h + 1 ≡ 1 + length h = omega arith in
      let place : length (coded_runs h) ≡ 0 + length (coded_runs h) = omega arith in
      record {
        records = f.records;
        begins = (cut magic magic rest (coded_records 0 h ++ f.records) refl (sym is ∙ f.ledger_begins)).1;
        beyond = f.store_rest;
        runs = f.store_begins;
        codable = f.codable;
        good = f.good;
        next =
            subst (λ (m : ℕ). NextBreaks id_of (1 + length h) (8 + length (coded_records 0 h)) m f.records store file found) place
            (subst (λ (m : ℕ). NextBreaks id_of m (8 + length (coded_records 0 h)) (length (coded_runs h)) f.records store file found) number b.next);
      }

  pub begins_from : (ledger store rest : List ℕ) (h : List Event) → ledger ≡ magic ++ rest → Begin id_of ledger store h → BeginsFrom store 0 rest h
  begins_from ledger store rest h is f = record {
    records = f.records;
    begins = (cut magic magic rest (coded_records 0 h ++ f.records) refl (sym is ∙ f.ledger_begins)).1;
    beyond = f.store_rest;
    runs = f.store_begins;
    codable = f.codable;
    good = f.good;
  }

  -- files with a harm stand for no history
  pub no_history : (ledger store : List ℕ) (file at : ℕ) (harm : Harm) (before : List Event) (h : List Event) → IsHarm id_of ledger store file at harm before → StandsFor ledger store h → IsHistory id_of h → ⊥
  no_history ledger store file at harm before h is stands history =
      let s = behind_magic ledger store h stands in
      elim is [
        | inl m ↦ no_magic_break ledger s.rest file (found_at at harm) s.begins m.0
        | inr b ↦ no_stand store 1 0 8 s.rest before h file (found_at at harm) (from_magic ledger store s.rest before file (found_at at harm) s.begins b) s.stands (history_good empty_archive h history)
      ]

  -- Two harms are the same, after the same events.
  pub record IsSameHarm (file at : ℕ) (harm : Harm) (before : List Event) (file' at' : ℕ) (harm' : Harm) (before' : List Event) : Type 0 where
    pub same_file : file ≡ file'
    pub same_found : found_at at harm ≡ found_at at' harm'
    pub same_events : before ≡ before'

  pub same_harm : (ledger store : List ℕ) (file at : ℕ) (harm : Harm) (before : List Event) (file' at' : ℕ) (harm' : Harm) (before' : List Event) → IsHarm id_of ledger store file at harm before → IsHarm id_of ledger store file' at' harm' before'
      → IsSameHarm file at harm before file' at' harm' before'
  same_harm ledger store file at harm before file' at' harm' before' a b =
      elim a [
        | inl a ↦ elim b [
          | inl b ↦ record {
            same_file = a.0.file_is ∙ sym b.0.file_is;
            same_found = one_magic ledger file file' (found_at at harm) (found_at at' harm') a.0 b.0;
            same_events = a.1 ∙ sym b.1;
          }
          | inr b ↦ absurd (no_magic_break ledger (coded_records 0 before' ++ b.fronts.records) file (found_at at harm) b.fronts.ledger_begins a.0)
        ]
        | inr a ↦ elim b [
          | inl b ↦ absurd (no_magic_break ledger (coded_records 0 before ++ a.fronts.records) file' (found_at at' harm') a.fronts.ledger_begins b.0)
          | inr b ↦
              (let rest = coded_records 0 before ++ a.fronts.records in
              let is = a.fronts.ledger_begins in
              let one = one_from store 1 0 8 rest before before' file file' (found_at at harm) (found_at at' harm')
              (from_magic ledger store rest before file (found_at at harm) is a) (from_magic ledger store rest before' file' (found_at at' harm') is b) in
              record { same_file = one.1; same_found = one.2; same_events = one.0 })
        ]
      ]
