-- What is coded in the files is coded in one way.
use Rattle.std.proofs.Common.{◌≡◌, ◌≢◌, ℕ, ◌+◌, ◌<◌, ◌^◌, List, [], ◌∷◌, ◌++◌, length, map, refl, sym, ap, ◌∙◌, subst, arith, append_assoc, length-append}
use Rattle.std.specs.List.{AllByRecursion}
use Rattle.std.specs.Int.{w32, w64, to_be_bytes}
use Rattle.swh_base.specs.declared.name.Name.{Name}
use Rattle.swh_base.specs.declared.entry.Entry.{Entry}
use Rattle.swh_base.specs.Name.{kind_number, name_key-injective}
use Rattle.swh_model.specs.declared.event.Event.{Event}
use Rattle.swh_model.specs.declared.event.EventKind.{EventKind}
use Rattle.swh_model.specs.Entries.{entries_of}
use Rattle.swh_format.specs.Record.{magic, framed}
use Rattle.swh_format.specs.StoredObject.{coded_entry, coded_run, IsCodableEntry}
use Rattle.swh_format.specs.EventRecord.{packed_objects, event_byte, event_payload, payload_of, coded_record, IsCodableKind, IsCodable}
use Rattle.swh_format.specs.Stands.{coded_records, coded_runs, StandsFor}
use Rattle.swh_format.proofs.Cuts.{cut, cut_four, cut_eight, same_head, same_tail}
use Rattle.swh_format.proofs.KindLaws.{payload-short, packed, entries_codable, same_said}
use Rattle.swh_format.proofs.StandsFrom.{StandsFrom, behind_magic, with_magic}
use Rattle.swh_model.specs.Alike.{without_children, bare_kind, bare_event, AreAlike}

pub entry_then : (e : Entry) (x : List ℕ) → coded_entry e ++ x ≡ kind_number e.name.kind ∷ (to_be_bytes w64 (length e.body) ++ (e.name.id ++ (e.body ++ x)))
unfolding coded_entry
entry_then e x =
    ap (λ (l : List ℕ). kind_number e.name.kind ∷ l)
    (append_assoc (to_be_bytes w64 (length e.body)) (e.name.id ++ e.body) x ∙ ap (λ (l : List ℕ). to_be_bytes w64 (length e.body) ++ l) (append_assoc e.name.id e.body x))

named_same : (n m : Name) → kind_number n.kind ≡ kind_number m.kind → n.id ≡ m.id → n ≡ m
named_same n m k i = name_key-injective n m (let a = k in let b = i in cc)

bare_same : (e f : Entry) → e.name ≡ f.name → e.body ≡ f.body → without_children e ≡ without_children f
bare_same e f n b i = record { name = n i; body = b i; kids = [] }

pub same_entry : (e f : Entry) (x y : List ℕ) → IsCodableEntry e → IsCodableEntry f → coded_entry e ++ x ≡ coded_entry f ++ y → (without_children e ≡ without_children f) × (x ≡ y)
same_entry e f x y he hf same =
    let all : kind_number e.name.kind ∷ (to_be_bytes w64 (length e.body) ++ (e.name.id ++ (e.body ++ x))) ≡ kind_number f.name.kind ∷ (to_be_bytes w64 (length f.body) ++ (f.name.id ++ (f.body ++ y))) =
    sym (entry_then e x) ∙ same ∙ entry_then f y in
    let kinds = same_head (kind_number e.name.kind) (kind_number f.name.kind) _ _ all in
    let sizes = cut_eight (length e.body) (length f.body) _ _ he.body hf.body (same_tail (kind_number e.name.kind) (kind_number f.name.kind) _ _ all) in
    let ids = cut e.name.id f.name.id (e.body ++ x) (f.body ++ y) (he.id ∙ sym hf.id) sizes.1 in
    let bodies = cut e.body f.body x y sizes.0 ids.1 in
    (bare_same e f (named_same e.name f.name kinds ids.0) bodies.0, bodies.1)

pub same_run : (es fs : List Entry) (x y : List ℕ) → length es ≡ length fs → AllByRecursion IsCodableEntry es → AllByRecursion IsCodableEntry fs → coded_run es ++ x ≡ coded_run fs ++ y → (map without_children es ≡ map without_children fs) × (x ≡ y)
same_run [] [] x y l he hf same = (refl, same)
same_run [] (f ∷ fs) x y l he hf same = absurd (omega (arith, l))
same_run (e ∷ es) [] x y l he hf same = absurd (omega (arith, l))
same_run (e ∷ es) (f ∷ fs) x y l he hf same =
    let one = same_entry e f (coded_run es ++ x) (coded_run fs ++ y) he.0 hf.0 (sym (append_assoc (coded_entry e) (coded_run es) x) ∙ same ∙ append_assoc (coded_entry f) (coded_run fs) y) in
    let more = same_run es fs x y (omega (arith, l)) he.1 hf.1 one.1 in
    ((λ i. one.0 i ∷ more.0 i), more.1)

pub framed_then : (k : ℕ) (p x : List ℕ) → framed k p ++ x ≡ k ∷ (to_be_bytes w32 (length p) ++ (p ++ x))
unfolding framed
framed_then k p x = ap (λ (l : List ℕ). k ∷ l) (append_assoc (to_be_bytes w32 (length p)) p x)

pub same_frame : (j k : ℕ) (p q x y : List ℕ) → length p < 2 ^ 32 → length q < 2 ^ 32 → framed j p ++ x ≡ framed k q ++ y → (j ≡ k) × (p ≡ q) × (x ≡ y)
same_frame j k p q x y hp hq same =
    let all : j ∷ (to_be_bytes w32 (length p) ++ (p ++ x)) ≡ k ∷ (to_be_bytes w32 (length q) ++ (q ++ y)) = sym (framed_then j p x) ∙ same ∙ framed_then k q y in
    let sizes = cut_four (length p) (length q) (p ++ x) (q ++ y) hp hq (same_tail j k _ _ all) in
    let both = cut p q x y sizes.0 sizes.1 in
    (same_head j k _ _ all, both.0, both.1)

-- Both kinds of event are the same, and so is what is after their runs.
abbrev SameKinds : EventKind → EventKind → List ℕ → List ℕ → Type 0
SameKinds a b u v = (bare_kind a ≡ bare_kind b) × (u ≡ v)

-- what is said alike is said of the same
pub same_kinds : (at : ℕ) (a b : EventKind) (u v : List ℕ) → IsCodableKind at a → IsCodableKind at b → event_byte a ≡ event_byte b → event_payload at a ≡ event_payload at b → packed_objects a ++ u ≡ packed_objects b ++ v → SameKinds a b u v
same_kinds at a b u v ha hb k t runs =
    let said = same_said at a b ha hb k t in
    let behind = ap (λ (l : List ℕ). l ++ u) (sym (packed a)) ∙ runs ∙ ap (λ (l : List ℕ). l ++ v) (packed b) in
    let both = same_run (entries_of a) (entries_of b) u v said.number (entries_codable at a ha) (entries_codable at b hb) behind in
    (said.same both.0, both.1)

-- One record, with what is after it and after its run.
pub same_event : (at : ℕ) (e f : Event) (x y u v : List ℕ) → IsCodable at e → IsCodable at f → coded_record at e ++ x ≡ coded_record at f ++ y → packed_objects e.what ++ u ≡ packed_objects f.what ++ v
    → (bare_event e ≡ bare_event f) × (x ≡ y) × (u ≡ v)
same_event at e f x y u v he hf records runs =
    let frames = same_frame (event_byte e.what) (event_byte f.what) (payload_of at e) (payload_of at f) x y (payload-short at e he) (payload-short at f hf) records in
    let whos = cut_four e.by f.by (event_payload at e.what) (event_payload at f.what) he.0 hf.0 frames.1 in
    let whats = same_kinds at e.what f.what u v he.1 hf.1 frames.0 whos.1 runs in
    ((λ i. record { by = whos.0 i; what = whats.0 i }), frames.2, whats.1)

-- what is in front of the same is as long
pub length_behind : (a b u v : List ℕ) → a ++ u ≡ b ++ v → u ≡ v → length a ≡ length b
length_behind a b u v e f = let p : length (a ++ u) ≡ length (b ++ v) = ap length e in let q : length u ≡ length v = ap length f in omega (arith, p, q, length-append a u, length-append b v)

pub alike_from : (at : ℕ) (g h : List Event) (ledger store : List ℕ) → StandsFrom at ledger store g → StandsFrom at ledger store h → AreAlike g h
alike_from at [] [] ledger store a b = refl
alike_from at [] (f ∷ h) ledger store a b = absurd (a.closed (same_head a.gate 1 _ _ (sym a.records ∙ b.records)))
alike_from at (e ∷ g) [] ledger store a b = absurd (b.closed (same_head b.gate 1 _ _ (sym b.records ∙ a.records)))
alike_from at (e ∷ g) (f ∷ h) ledger store a b =
    let ra = append_assoc (coded_record at e) (coded_records (at + length (packed_objects e.what)) g) (a.gate ∷ a.behind) in
    let rb = append_assoc (coded_record at f) (coded_records (at + length (packed_objects f.what)) h) (b.gate ∷ b.behind) in
    let ua = append_assoc (packed_objects e.what) (coded_runs g) a.beyond in
    let ub = append_assoc (packed_objects f.what) (coded_runs h) b.beyond in
    let runs = sym ua ∙ sym a.runs ∙ b.runs ∙ ub in
    let one = same_event at e f _ _ _ _ a.codable.0 b.codable.0 (sym ra ∙ same_tail 1 1 _ _ (sym a.records ∙ b.records) ∙ rb) runs in
    let places : at + length (packed_objects e.what) ≡ at + length (packed_objects f.what) = ap (λ (n : ℕ). at + n) (length_behind (packed_objects e.what) (packed_objects f.what) _ _ runs one.2) in
    let here : StandsFrom (at + length (packed_objects f.what)) (coded_records (at + length (packed_objects f.what)) h ++ b.gate ∷ b.behind) (coded_runs h ++ b.beyond) h =
    record { gate = b.gate; closed = b.closed; behind = b.behind; records = refl; beyond = b.beyond; runs = refl; codable = b.codable.1 } in
    let there : StandsFrom (at + length (packed_objects e.what)) (coded_records (at + length (packed_objects f.what)) h ++ b.gate ∷ b.behind) (coded_runs h ++ b.beyond) g =
    record { gate = a.gate; closed = a.closed; behind = a.behind; records = sym one.1; beyond = a.beyond; runs = sym one.2; codable = a.codable.1 } in
    let more = alike_from (at + length (packed_objects f.what)) g h _ _ (subst (λ (n : ℕ). StandsFrom n (coded_records (at + length (packed_objects f.what)) h ++ b.gate ∷ b.behind) (coded_runs h ++ b.beyond) g) places there) here in
    λ i. one.0 i ∷ more i

pub alike : (ledger store : List ℕ) (g h : List Event) → StandsFor ledger store g → StandsFor ledger store h → AreAlike g h
alike ledger store g h one other =
    let a = behind_magic ledger store g one in
    let b = behind_magic ledger store h other in
    let rests = cut magic magic a.rest b.rest refl (sym a.begins ∙ b.begins) in
    alike_from 0 g h b.rest store (subst (λ (l : List ℕ). StandsFrom 0 l store g) rests.1 a.stands) b.stands

-- A closed gate after the magic: no event.
pub none_from : (gate : ℕ) (rest ledger store : List ℕ) → gate ≢ 1 → ledger ≡ magic ++ gate ∷ rest → StandsFor ledger store []
none_from gate rest ledger store shut is =
    with_magic ledger store [] (record { rest = gate ∷ rest; begins = is; stands = record { gate = gate; closed = shut; behind = rest; records = refl; beyond = store; runs = refl; codable = tt } })

none_alike : (h : List Event) → AreAlike [] h → h ≡ []
none_alike [] e = refl
none_alike (f ∷ h) e = let f : [] ≡ bare_event f ∷ map bare_event h = e in cc

pub none_only : (gate : ℕ) (rest ledger store : List ℕ) (h : List Event) → gate ≢ 1 → ledger ≡ magic ++ gate ∷ rest → StandsFor ledger store h → h ≡ []
none_only gate rest ledger store h shut is stands = none_alike h (alike ledger store [] h (none_from gate rest ledger store shut is) stands)
