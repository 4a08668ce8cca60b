-- A record at the front of a ledger's bytes, and its first harm.
use Rattle.std.proofs.Common.{◌≡◌, ℕ, ◌+◌, ◌<◌, ◌^◌, List, [], ◌∷◌, ◌++◌, length, refl, ap, ◌∙◌, inl, inr, arith, length-append, Result, IfErr}
use Rattle.std.specs.Prelude.{IsErrAnd}
use Rattle.std.specs.Int.{w32, to_be_bytes}
use Rattle.std.proofs.lemmas.Result.{err_from_is_err_and}
use Rattle.swh_format.specs.declared.frame.RecordParts.{RecordParts}
use Rattle.swh_format.proofs.Cuts.{four_bytes}
use Rattle.swh_format.proofs.Unique.{framed_then}
use Rattle.swh_format.specs.declared.kinds.Choice.TheVariants as choice
use Rattle.swh_recovery.specs.declared.harm.Found.{Found}
use Rattle.swh_format.specs.Fields.{IsAmong}
use Rattle.swh_format.specs.Kinds.{choices, payload_fields}
use Rattle.swh_recovery.specs.Fields.{IsCut, FieldsBreak}
use Rattle.swh_recovery.specs.LedgerHarm.{IsFrame, FrameBreaks, RecordBreaks}

-- what the exit of a `?` returns is what failed
pub exits : {T E : Type 0} → (r : Result T E) (P : E → Type 0) (x : E) → IsErrAnd r (λ y. y ≡ x) → P x → IfErr r P
exits r P x h p = let e = err_from_is_err_and r h in rw (e.1, e.2) p

module _ (bytes rest : List ℕ) (kind at : ℕ) (found : Found) (is : bytes ≡ kind ∷ rest) (among : IsAmong kind (choices choice.Record)) where
  pub size_breaks : IsCut 4 rest (at + 1) found → FrameBreaks bytes at found
  size_breaks cut = inl (inr (kind ∷ [], rest, is, (kind, refl, among), inl cut))

  pub payload_breaks : (size : ℕ) (more : List ℕ) → rest ≡ to_be_bytes w32 size ++ more → size < 2 ^ 32 → IsCut size more (at + 5) found → FrameBreaks bytes at found
  payload_breaks size more behind fits cut = inr (record {
    frame = record { holds = (kind, (size, tt)); behind = more; says = record { spelled = is ∙ ap (λ (l : List ℕ). kind ∷ l) behind; fit = (among, (fits, tt)) } };
    cut = cut;
  })

pub frame_fits : (bytes : List ℕ) (p : RecordParts) (at : ℕ) → IsFrame bytes p → at + length bytes < 2 ^ 64 → at + 5 + length p.payload.now < 2 ^ 64
frame_fits bytes p at f inside =
    let all : length bytes ≡ length (p.kind ∷ (to_be_bytes w32 (length p.payload.now) ++ (p.payload.now ++ p.rest.now))) = ap length (f.front.spelled ∙ framed_then p.kind p.payload.now p.rest.now) in
    omega (arith, inside, all, length-append (to_be_bytes w32 (length p.payload.now)) (p.payload.now ++ p.rest.now), length-append p.payload.now p.rest.now, four_bytes (length p.payload.now))

pub fields_then : (bytes : List ℕ) (p : RecordParts) (at : ℕ) (found : Found) → IsFrame bytes p → FieldsBreak (payload_fields p.kind) p.payload.now (at + 5) found → RecordBreaks bytes at found
fields_then bytes p at found f breaks = inr (inr (record {
  frame = record { kind = p.kind; payload = p.payload.now; rest = p.rest.now; spelled = f.front.spelled; is_kind = f.is_kind; fits = f.front.short };
  breaks = breaks;
}))
