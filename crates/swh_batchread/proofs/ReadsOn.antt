-- What a part of an input that ends a call, and reads nothing, leaves of the source that was read before.
use Rattle.std.proofs.Common.{◌≡◌, ℕ, List, subst, arith}
use Rattle.std.specs.Prelude.{Result, IfErr, IsErrOf}
use Rattle.std.specs.Result.{IsErrAnd}
use Rattle.std.proofs.lemmas.Result.{err_from_is_err_and}
use Rattle.swh_outside.specs.Faults.{Rose}
use Rattle.swh_fastlex.specs.ReadOn.{IsReadOn}
use Rattle.swh_batchread.specs.declared.fault.BatchFault.{BatchFault}
use Rattle.swh_batchread.specs.declared.fault.BatchFault.TheVariants.{ReadFault}
use Rattle.swh_batchread.specs.Failing.{Fails}

none_rose : Rose 0 0 → ⊥
none_rose h = absurd (omega arith)

-- It does not tell that the source failed.
pub not_read : (May B : BatchFault → Type 0) (fault : BatchFault) → ((n : ℕ) → Fails (Unit {0}) May B n n fault) → fault ≡ ReadFault → ⊥
not_read May B fault h e = none_rose (subst (λ (f : BatchFault). Fails (Unit {0}) May B 0 0 f) e (h 0))

-- the same of what the call answers
pub never_read : {T : Type 0} (May B : BatchFault → Type 0) (r : Result T BatchFault) → ((n : ℕ) → IfErr r (Fails (Unit {0}) May B n n)) → IsErrOf r ReadFault → ⊥
never_read May B r h e = none_rose (rw e at (h 0))

module _ {S T : Type 0} (path : S → List ℕ) (faults : S → ℕ) (old new : S) (r : Result T BatchFault) (same : path new ≡ path old) where
  -- where its fault is the one with which a `?` leaves
  pub left_by : (fault : BatchFault) → IsErrAnd r (λ f. f ≡ fault) → faults new ≡ faults old → (fault ≡ ReadFault → ⊥) → IsReadOn path faults old new ReadFault r
  left_by fault is quiet none =
      let q = err_from_is_err_and r is in
      record {
        same_path = same;
        later = omega (arith, quiet);
        quiet = λ other. quiet;
        cause = λ e. absurd (none (let f : fault ≡ ReadFault = cc (e, q.1, q.2) in f));
      }

  -- where it gives the answer
  pub ended_by : faults new ≡ faults old → (IsErrOf r ReadFault → ⊥) → IsReadOn path faults old new ReadFault r
  ended_by quiet none =
      record {
        same_path = same;
        later = omega (arith, quiet);
        quiet = λ other. quiet;
        cause = λ e. absurd (none e);
      }
