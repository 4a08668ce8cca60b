-- How loads end together, and the lines that tell them.
use Rattle.std.proofs.Common.{◌≡◌, ◌⊎◌, inl, inr, ⊎_elim, ℕ, ◌≤◌, false, Result, Ok, Err, List, [], ◌∷◌, map, flat_map, refl, sym, ap, ◌∙◌, subst, arith}
use Rattle.std.proofs.lemmas.List.Folds.{flat_map-map}
use Rattle.swh_segment.specs.Makes.{ADiskFailed}
use Rattle.swh_keeper.specs.Kept.{Kept}
use Rattle.swh_keeperload.specs.Loading.{Stops}
use Rattle.swh_loader.specs.Report.{report_of}
use Rattle.swh_loader.specs.declared.end.End.{End}
use Rattle.swh_loader.specs.declared.end.End.TheVariants.{Full, NotFound, Failed}
use Rattle.swh_loader.specs.declared.end.Loaded.{Loaded}
use Rattle.swh_ingest.specs.declared.stop.Stop.{Stop}
use Rattle.swh_ingest.specs.declared.stop.Stop.TheVariants as why
use Rattle.swh_ingest.specs.declared.end.LoadFault.{LoadFault}
use Rattle.swh_pool.specs.Lines.{ended, lines_of}
use Rattle.swh_pool.specs.Loads.{Loading, attempt_at, AreAllowedAt, OneLoad, IsLoadOutcome, AreLoads}
use Rattle.swh_pool.specs.Stops.{IsUnwounded, is_disk_fault, AreStops}
use Rattle.swh_pool.specs.declared.dated.DatedJob.{DatedJob}
use Rattle.swh_program.specs.Lines.{LoadedJob, outcomes, load_line, ending_of_end, ending_of_why, ending_for, worse, ending_of_all, TellsLoads, TellsLoad}
use Rattle.swh_program.specs.Telling.{TellsReport}
use Rattle.swh_exit.specs.declared.answer.Ending.{Ending}
use Rattle.swh_exit.specs.declared.answer.Ending.TheVariants as ending
use Rattle.swh_exit.specs.declared.answer.Answer.{Answer}
use Rattle.swh_program.proofs.Inputs.{url_and_outcome}

-- a disk is told only where one of the two is a disk's
pub worse_disk : (a b : Ending) → worse a b ≡ ending.OutsideDisk → (a ≡ ending.OutsideDisk) ⊎ (b ≡ ending.OutsideDisk)
worse_disk ending.Done b is = inr is
worse_disk ending.OutsideDisk b is = inl refl
worse_disk ending.Wanting ending.Done is = absurd (let f : ending.Wanting ≡ ending.OutsideDisk = is in cc)
worse_disk ending.Wanting ending.Wanting is = absurd (let f : ending.Wanting ≡ ending.OutsideDisk = is in cc)
worse_disk ending.Wanting ending.OutsideDisk is = inr refl
worse_disk ending.Wanting ending.Memory is = absurd (let f : ending.Memory ≡ ending.OutsideDisk = is in cc)
worse_disk ending.Memory ending.Done is = absurd (let f : ending.Memory ≡ ending.OutsideDisk = is in cc)
worse_disk ending.Memory ending.Wanting is = absurd (let f : ending.Memory ≡ ending.OutsideDisk = is in cc)
worse_disk ending.Memory ending.OutsideDisk is = inr refl
worse_disk ending.Memory ending.Memory is = absurd (let f : ending.Memory ≡ ending.OutsideDisk = is in cc)

no_disk_end : (end : End) → ending_of_end end ≡ ending.OutsideDisk → ⊥
no_disk_end (Full snapshot) e = let f : ending.Done ≡ ending.OutsideDisk = e in cc
no_disk_end NotFound e = let f : ending.Wanting ≡ ending.OutsideDisk = e in cc
no_disk_end (Failed bad) e = let f : ending.Wanting ≡ ending.OutsideDisk = e in cc

-- Loads of which one tells of a disk: a count rose.
module _ {S F D : Type 0} (given : Loading S F D) where
  abbrev Raised : Kept D → Kept D → Type 0
  Raised old new = ADiskFailed (given.disks.faults old.store) (given.disks.faults new.store) (given.disks.faults old.ledger) (given.disks.faults new.ledger)

  abbrev Later : Kept D → Kept D → Type 0
  Later old new = (given.disks.faults old.store ≤ given.disks.faults new.store) × (given.disks.faults old.ledger ≤ given.disks.faults new.ledger)

  abbrev All : List (OneLoad S F) → Kept D → Kept D → Type 0
  All loads old new = AreLoads given loads old new

  raised_since : (old between new : Kept D) → Later old between → Raised between new → Raised old new
  raised_since old between new later (inl rose) = inl (omega (arith, later.0, rose))
  raised_since old between new later (inr rose) = inr (omega (arith, later.1, rose))

  raised_until : (old between new : Kept D) → Raised old between → Later between new → Raised old new
  raised_until old between new (inl rose) later = inl (omega (arith, later.0, rose))
  raised_until old between new (inr rose) later = inr (omega (arith, later.1, rose))

  all_later : (loads : List (OneLoad S F)) (old new : Kept D) → All loads old new → Later old new
  all_later [] old new are =
      let store = ap (λ (k : Kept D). given.disks.faults k.store) are in
      let ledger = ap (λ (k : Kept D). given.disks.faults k.ledger) are in
      (omega (arith, store), omega (arith, ledger))
  all_later (l ∷ loads) old new are =
      let rest = all_later loads are.0 new are.2 in
      let store = are.1.store_later in
      let ledger = are.1.ledger_later in
      (omega (arith, store, rest.0), omega (arith, ledger, rest.1))

  -- the first load, by how it ended, and those after it
  module _ (l : OneLoad S F) (rest : List (Result Loaded LoadFault)) (old between new : Kept D) (first : Later old between) (behind : Later between new)
      (later : AreStops false rest → ending_of_all rest ≡ ending.OutsideDisk → Raised between new) where
    from_later : (e : Ending) → (e ≡ ending.OutsideDisk → ⊥) → AreStops false rest → worse e (ending_of_all rest) ≡ ending.OutsideDisk → Raised old new
    from_later e none stops is = ⊎_elim (λ (h : e ≡ ending.OutsideDisk). absurd (none h)) (λ (h : ending_of_all rest ≡ ending.OutsideDisk). raised_since old between new first (later stops h)) (worse_disk e (ending_of_all rest) is)

    by_why : (visit : ℕ) (reason : Stop) → IsUnwounded (Err (record { visit = visit; why = reason })) → Stops given.id given.disks (AreAllowedAt given l) (attempt_at given l) old between (record { visit = visit; why = reason })
        → AreStops (is_disk_fault (Err (record { visit = visit; why = reason }))) rest → worse (ending_of_why reason) (ending_of_all rest) ≡ ending.OutsideDisk → Raised old new
    by_why visit (why.Ended status) unwounded stops more is = from_later ending.Wanting (λ e. cc) more is
    by_why visit why.DiskFault unwounded (inl once) more is = raised_until old between new once.stops.rose behind
    by_why visit why.DiskFault unwounded (inr late) more is = raised_until old between new late.stops.rose behind
    by_why visit why.Wounded unwounded stops more is = absurd (unwounded refl)
    by_why visit (why.Limit which number) unwounded stops more is = from_later ending.Wanting (λ e. cc) more is
    by_why visit why.Memory unwounded stops more is = from_later ending.Memory (λ e. cc) more is

    by_outcome : (o : Result Loaded LoadFault) → IsUnwounded o → IsLoadOutcome given l old between o → AreStops (is_disk_fault o) rest → worse (ending_for o) (ending_of_all rest) ≡ ending.OutsideDisk → Raised old new
    by_outcome (Ok loaded) unwounded ends more is = from_later (ending_of_end loaded.end) (no_disk_end loaded.end) more is
    by_outcome (Err fault) unwounded ends more is = by_why fault.visit fault.why unwounded ends more is

  pub raised : (loads : List (OneLoad S F)) (old new : Kept D) → All loads old new → AreStops false (map (λ l. l.outcome) loads) → ending_of_all (map (λ l. l.outcome) loads) ≡ ending.OutsideDisk → Raised old new
  raised [] old new are stops is = absurd (let f : ending.Done ≡ ending.OutsideDisk = is in cc)
  raised (l ∷ loads) old new are stops is =
      by_outcome l (map (λ m. m.outcome) loads) old are.0 new (are.1.store_later, are.1.ledger_later) (all_later loads are.0 new are.2) (raised loads are.0 new are.2) l.outcome stops.0 are.1.ends stops.1 is

-- the answer that tells a report tells the loads
pub told_loads : {S F : Type 0} (now : List (DatedJob S F)) (ends : List (Result Loaded LoadFault)) (loads : List LoadedJob) (answer : Answer) → ended now ends ≡ map url_and_outcome loads → ends ≡ outcomes loads → TellsReport now ends answer
    → TellsLoad loads answer
told_loads {S} now ends loads answer pairs same told =
    let text : told.text ≡ flat_map load_line loads = told.text_is ∙ ap lines_of pairs ∙ flat_map-map (λ (j : List ℕ × Result Loaded LoadFault). report_of j.0 j.1) url_and_outcome loads in
    let lines : TellsLoads loads told.text (ending_of_all ends) = record { text_is = text; end_is = ap ending_of_all same } in
    subst (TellsLoad loads) (sym told.tells) lines
