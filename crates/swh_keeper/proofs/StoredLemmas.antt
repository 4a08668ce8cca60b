-- What the store's file has of the runs of a history.
use Rattle.std.proofs.Common.{◌≡◌, ℕ, ◌+◌, ◌≤◌, List, ◌++◌, length, take, drop, ap, ◌∙◌, arith, length-drop, length-append}
use Rattle.std.proofs.lemmas.List.{take-append-le, drop-append-le}
use Rattle.swh_outside.specs.Disk.{File}
use Rattle.swh_model.specs.declared.event.Event.{Event}
use Rattle.swh_model.specs.Limits.{store_length}
use Rattle.swh_format.specs.Stands.{coded_runs}
use Rattle.swh_format.proofs.HistoryFiles.{runs-written}
use Rattle.swh_format.proofs.Lengths.{runs-length}
use Rattle.swh_keeper.specs.Keeping.{AreSettledFor}

-- a part of a list, whatever follows
pub part-append : (xs rest : List ℕ) (at size : ℕ) → at + size ≤ length xs → take size (drop at (xs ++ rest)) ≡ take size (drop at xs)
part-append xs rest at size within =
    let here : at ≤ length xs = omega (arith, within) in
    let more : size ≤ length (drop at xs) = let l = length-drop at xs in omega (arith, within, l) in
    ap (λ (l : List ℕ). take size l) (drop-append-le at xs rest here) ∙ take-append-le size (drop at xs) rest more

module _ (ledger store : File) (h : List Event) (m n at size : ℕ) (is : AreSettledFor ledger store h m n) (within : at + size ≤ store_length h) where
  -- the runs stand in the file
  pub runs_within : at + size ≤ length store.seen
  runs_within =
      let begins = ap length (is.settled.begins ∙ ap (λ (l : List ℕ). l ++ is.settled.rest) (runs-written 0 h)) in
      let runs = runs-length h in
      omega (arith, within, begins, runs, length-append (coded_runs h) is.settled.rest)

  pub runs_part : take size (drop at store.seen) ≡ take size (drop at (coded_runs h))
  runs_part =
      ap (λ (l : List ℕ). take size (drop at l)) (is.settled.begins ∙ ap (λ (l : List ℕ). l ++ is.settled.rest) (runs-written 0 h))
      ∙ part-append (coded_runs h) is.settled.rest at size (let runs = runs-length h in omega (arith, within, runs))
