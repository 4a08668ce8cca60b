-- The record of an opening or a mark.
use Rattle.std.proofs.Common.{◌≡◌, ◌≢◌, ℕ, List, [], ◌++◌, length, drop, refl, sym, ap, ◌∙◌, subst, inr, arith}
use Rattle.std.specs.List.{AllByRecursion}
use Rattle.std.specs.Int.{w32, to_be_bytes}
use Rattle.swh_base.specs.declared.kind.Kind.{Kind}
use Rattle.swh_model.specs.declared.event.Event.{Event}
use Rattle.swh_model.specs.declared.event.EventKind.{EventKind}
use Rattle.swh_model.specs.declared.event.EventKind.TheVariants.{Batch}
use Rattle.swh_object.specs.Object.{IsObject}
use Rattle.swh_format.specs.declared.frame.RecordParts.{RecordParts}
use Rattle.swh_format.specs.Record.{framed}
use Rattle.swh_format.specs.declared.kinds.RecordKind.TheVariants as of
use Rattle.swh_format.specs.Kinds.{byte_of}
use Rattle.swh_format.specs.Tells.{TellsWhole}
use Rattle.swh_format.specs.EventRecord.{event_byte, event_payload, packed_objects, IsCodableKind}
use Rattle.swh_recovery.specs.declared.harm.Found.{Found}
use Rattle.swh_model.specs.Entries.{entries_of}
use Rattle.swh_recovery.specs.Records.{IsWholeRecord, IsEventRead, EventBreaks, HoldsEvent, IsWholeRead, IsNotTold}

-- What is told wherever a run would begin.
record ToldWhole (start kind : ℕ) (rest : List ℕ) (what : EventKind) : Type 0 where
  kind_is : kind ≡ event_byte what
  payload : rest ≡ event_payload start what
  codable : IsCodableKind start what
  no_run : packed_objects what ≡ []
  no_entries : entries_of what ≡ []

whole_told : (start kind : ℕ) (rest : List ℕ) (what : EventKind) → TellsWhole kind rest what → ToldWhole start kind rest what
whole_told start kind rest (Batch es) t = absurd t.whole
whole_told start kind rest what t = record { kind_is = t.byte_is; payload = t.spelled; codable = t.codable; no_run = refl; no_entries = refl }

all_none : {X : Type 0} (P : X → Type 0) (xs : List X) → xs ≡ [] → AllByRecursion P xs
all_none P xs is = subst (AllByRecursion P) (sym is) tt

pub whole_read : (id_of : Kind → List ℕ → List ℕ) (start : ℕ) (p : RecordParts) (e : Event) → p.kind ≢ byte_of of.Batch → IsWholeRead p e → IsEventRead id_of start p e start
whole_read id_of start p e other w =
    let f = whole_told start p.kind w.rest e.what w.tells in
    let payload = w.who ∙ ap (λ (l : List ℕ). to_be_bytes w32 e.by ++ l) f.payload in
    record {
      codable = (w.by_fits, f.codable);
      ledger = (λ i. framed (f.kind_is i) (payload i));
      end_is = let n : length (packed_objects e.what) ≡ 0 = ap length f.no_run in omega (arith, n);
      good = all_none (IsObject id_of) (entries_of e.what) f.no_entries;
    }

pub whole_holds : (start : ℕ) (p : RecordParts) (store : List ℕ) (e : Event) → p.kind ≢ byte_of of.Batch → IsWholeRead p e → HoldsEvent start store e start
whole_holds start p store e other w =
    let f = whole_told start p.kind w.rest e.what w.tells in
    record { run = ap (λ (l : List ℕ). l ++ drop start store) (sym f.no_run) }

pub whole_refused : (id_of : Kind → List ℕ → List ℕ) (number gate start : ℕ) (p : RecordParts) (store : List ℕ) (file : ℕ) (found : Found) → p.kind ≢ byte_of of.Batch → IsWholeRecord p → IsNotTold gate number p file found → EventBreaks id_of number gate start p store file found
whole_refused id_of number gate start p store file found other whole n = inr (record {
  behind = framed p.kind p.payload.now ++ p.rest.now;
  opened = refl;
  frame = record { kind = p.kind; payload = p.payload.now; rest = p.rest.now; spelled = refl; is_kind = whole.is_kind; fits = whole.short };
  fields = whole.fields_hold;
  run = λ batch. absurd (other batch);
  none = λ e y codable kind_is payload_is run. n.none start e codable kind_is payload_is;
  file_is = n.file_is;
  found_is = n.found_is;
})
