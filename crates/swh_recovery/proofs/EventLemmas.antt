-- The record of a batch, with the run that it names.
use Rattle.std.proofs.Common.{◌≡◌, ℕ, ◌+◌, ◌<◌, ◌^◌, List, [], ◌∷◌, ◌++◌, length, drop, refl, sym, ap, ◌∙◌, inl, inr, arith, length-append, append_assoc, subst}
use Rattle.std.proofs.lemmas.List.{drop-drop}
use Rattle.std.proofs.Math.Seq.{drop-append_seam}
use Rattle.std.specs.List.{AllByRecursion}
use Rattle.std.specs.Int.{w32, to_be_bytes}
use Rattle.swh_base.specs.declared.kind.Kind.{Kind}
use Rattle.swh_base.specs.declared.entry.Entry.{Entry}
use Rattle.swh_model.specs.declared.event.Event.{Event}
use Rattle.swh_model.specs.declared.event.EventKind.{EventKind}
use Rattle.swh_model.specs.declared.event.EventKind.TheVariants.{Batch}
use Rattle.swh_object.specs.Object.{IsObject}
use Rattle.swh_format.specs.declared.batch_record.RunTold.{RunTold}
use Rattle.swh_format.specs.declared.frame.RecordParts.{RecordParts}
use Rattle.swh_format.specs.Record.{framed}
use Rattle.swh_format.specs.declared.kinds.RecordKind.TheVariants as of
use Rattle.swh_format.specs.Fields.{text, Says, Spells}
use Rattle.swh_format.specs.Kinds.{byte_of, fields_of}
use Rattle.swh_format.specs.BatchRecord.{batch_contents}
use Rattle.swh_format.specs.StoredObject.{coded_entry, coded_run, IsCodableEntry}
use Rattle.swh_format.specs.EventRecord.{event_byte, event_payload, payload_of, packed_objects, coded_record, IsCodable, IsCodableKind}
use Rattle.swh_format.proofs.Lengths.{object-length}
use Rattle.swh_format.proofs.Unique.{same_entry, length_behind}
use Rattle.swh_recovery.specs.declared.harm.Harm.TheVariants.{Refused}
use Rattle.swh_recovery.specs.declared.harm.Found.{Found}
use Rattle.swh_recovery.specs.Fields.{found_at}
use Rattle.swh_recovery.specs.LedgerHarm.{BeginsRecord}
use Rattle.swh_model.specs.Entries.{entries_of}
use Rattle.swh_recovery.specs.StoreHarm.{IsRun, HoldsRun, RunBreaks}
use Rattle.swh_recovery.specs.Records.{IsWholeRecord, IsToldExactly, IsEventRead, EventBreaks}
use Rattle.swh_recovery.proofs.ToldLemmas.{one_told, told_of_batch}

-- runs of the same bytes have as many objects
same_count : (es fs : List Entry) (x y : List ℕ) → AllByRecursion IsCodableEntry es → AllByRecursion IsCodableEntry fs → coded_run es ++ x ≡ coded_run fs ++ y → length (coded_run es) ≡ length (coded_run fs) → length es ≡ length fs
same_count [] [] x y he hf same sizes = refl
same_count [] (f ∷ fs) x y he hf same sizes =
    let one = object-length f in absurd (omega (arith, sizes, one, length-append (coded_entry f) (coded_run fs)))
same_count (e ∷ es) [] x y he hf same sizes =
    let one = object-length e in absurd (omega (arith, sizes, one, length-append (coded_entry e) (coded_run es)))
same_count (e ∷ es) (f ∷ fs) x y he hf same sizes =
    let joined : coded_entry e ++ (coded_run es ++ x) ≡ coded_entry f ++ (coded_run fs ++ y) = sym (append_assoc (coded_entry e) (coded_run es) x) ∙ same ∙ append_assoc (coded_entry f) (coded_run fs) y in
    let one = same_entry e f (coded_run es ++ x) (coded_run fs ++ y) he.0 hf.0 joined in
    let heads = length_behind (coded_entry e) (coded_entry f) _ _ joined one.1 in
    let more = same_count es fs x y he.1 hf.1 one.1 (omega (arith, sizes, heads, length-append (coded_entry e) (coded_run es), length-append (coded_entry f) (coded_run fs))) in
    omega (arith, more)

after_front : (xs p rest : List ℕ) → xs ≡ p ++ rest → xs ≡ p ++ drop (length p) xs
after_front xs p rest is = is ∙ ap (λ (l : List ℕ). p ++ l) (sym (ap (λ (l : List ℕ). drop (length p) l) is ∙ drop-append_seam p rest))

-- the event of a batch
abbrev pub batch_event : ℕ → List Entry → Event
batch_event by es = record { by = by; what = Batch es }

module _ (id_of : Kind → List ℕ → List ℕ) (start : ℕ) (p : RecordParts) (whole : IsWholeRecord p) (batch : p.kind ≡ byte_of of.Batch) (t : RunTold) (told : Says (fields_of of.Batch) (t.by, batch_contents t.from t.to t.number) p.payload.now t.left.now) where
  tells_run : Spells (fields_of of.Batch) p.payload.now
  tells_run = record { holds = (t.by, batch_contents t.from t.to t.number); behind = t.left.now; says = told }

  frame : BeginsRecord (framed p.kind p.payload.now ++ p.rest.now)
  frame = record { kind = p.kind; payload = p.payload.now; rest = p.rest.now; spelled = refl; is_kind = whole.is_kind; fits = whole.short }

  pub run_harm : (store : List ℕ) (number gate : ℕ) (found : Found) → RunBreaks id_of t.from t.to store found → EventBreaks id_of number gate start p store 1 found
  unfolding tells_run frame
  run_harm store number gate found breaks = inl (record {
    behind = framed p.kind p.payload.now ++ p.rest.now;
    opened = refl;
    frame = frame;
    batch = batch;
    told = tells_run;
    file_is = refl;
    breaks = breaks;
  })

  told_only : (by : ℕ) (fs : List Entry) → by < 2 ^ 32 → IsCodableKind start (Batch fs) → p.payload.now ≡ to_be_bytes w32 by ++ event_payload start (Batch fs) → (t.from ≡ start) × (t.to ≡ start + length (coded_run fs)) × (t.number ≡ length fs) × (t.left.now ≡ [])
  unfolding tells_run
  told_only by fs by_fits codable is =
      one_told p.payload.now (payload_of start (batch_event by fs)) tells_run (told_of_batch start by fs (by_fits, codable)) is

  module _ (es : List Entry) (run : IsRun id_of t.from t.to es) (exact : IsToldExactly start (length es) t) where
    pub end_of : t.to ≡ start + length (coded_run es)
    end_of = let f = exact.from_is in let l = exact.to_is in let e = run.ends in omega (arith, f, l, e)

    pub payload_told : p.payload.now ≡ payload_of start (batch_event t.by es)
    payload_told =
        told.spelled ∙ (let ends = end_of in λ i. text (fields_of of.Batch) (t.by, batch_contents (exact.from_is i) (ends i) (exact.number_is i)) (exact.nothing_left i))

    pub codable_batch : IsCodable start (batch_event t.by es)
    codable_batch = (
      told.fit.0,
      record {
        entries_codable = run.objects.codable;
        number = let n = exact.number_is in let f = told.fit.1.1.1.0 in omega (arith, n, f);
        end = let e = end_of in let f = told.fit.1.1.0 in omega (arith, e, f);
      },
    )

    pub ledger_told : framed p.kind p.payload.now ≡ coded_record start (batch_event t.by es)
    ledger_told = let q = payload_told in λ i. framed (batch i) (q i)

    -- so it is read as its event's
    pub batch_read : (e : Event) → e ≡ batch_event t.by es → IsEventRead id_of start p e t.to
    batch_read e is = record {
      codable = subst (λ (e : Event). IsCodable start e) (sym is) codable_batch;
      ledger = ledger_told ∙ ap (λ (e : Event). coded_record start e) (sym is);
      end_is = end_of ∙ ap (λ (e : Event). start + length (packed_objects e.what)) (sym is);
      good = subst (λ (e : Event). AllByRecursion (IsObject id_of) (entries_of e.what)) (sym is) run.objects.good;
    }

    pub run_told : (store : List ℕ) → HoldsRun id_of t.from t.to store es → drop start store ≡ coded_run es ++ drop t.to store
    run_told store holds =
        let begins : drop start store ≡ coded_run es ++ holds.run.rest = ap (λ (n : ℕ). drop n store) (sym exact.from_is) ∙ holds.run.begins in
        after_front (drop start store) (coded_run es) holds.run.rest begins
        ∙ ap (λ (l : List ℕ). coded_run es ++ l) (drop-drop (length (coded_run es)) start store ∙ ap (λ (n : ℕ). drop n store) (sym end_of))

  module _ (store : List ℕ) (es : List Entry) (holds : HoldsRun id_of t.from t.to store es) where
    exactly : (by : ℕ) (what : EventKind) (y : List ℕ) → by < 2 ^ 32 → IsCodableKind start what → p.kind ≡ event_byte what → p.payload.now ≡ to_be_bytes w32 by ++ event_payload start what → drop start store ≡ packed_objects what ++ y → IsToldExactly start (length es) t
    exactly by (Batch fs) y by_fits codable kind_is is run =
        let o = told_only by fs by_fits codable is in
        let from_is = o.0 in
        let to_is = o.1 in
        let ends = holds.ends in
        let sizes : length (coded_run es) ≡ length (coded_run fs) = omega (arith, from_is, to_is, ends) in
        let joined : coded_run es ++ holds.run.rest ≡ coded_run fs ++ y = sym holds.run.begins ∙ ap (λ (n : ℕ). drop n store) from_is ∙ run in
        let count = same_count es fs _ _ holds.run.objects.codable codable.entries_codable joined sizes in
        record { from_is = from_is; to_is = omega (arith, to_is); number_is = o.2 ∙ sym count; nothing_left = o.3 }
    exactly by what y by_fits codable kind_is is run = absurd (omega (arith, kind_is, batch))

    pub run_refused : (number gate : ℕ) → (IsToldExactly start (length es) t → ⊥) → EventBreaks id_of number gate start p store 0 (found_at gate (Refused number))
    unfolding tells_run frame
    run_refused number gate other = inr (record {
      behind = framed p.kind p.payload.now ++ p.rest.now;
      opened = refl;
      frame = frame;
      fields = whole.fields_hold;
      run = λ _. record { told = tells_run; entries = es; run = holds };
      none = λ e y codable kind_is payload_is run. other (exactly e.by e.what y codable.0 codable.1 kind_is payload_is run);
      file_is = refl;
      found_is = refl;
    })
