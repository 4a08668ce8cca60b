-- What is known of a batch that was asked for.
use Rattle.std.proofs.Common.{◌≡◌, inl, inr, ℕ, ◌≤◌, Bool, true, false, cond, Some, None, List, [], ◌∷◌, length, refl, sym, ap, ◌∙◌, subst, arith}
use Rattle.std.specs.Prelude.{nat_lt}
use Rattle.std.specs.List.{AllByRecursion}
use Rattle.swh_base.specs.declared.kind.Kind.{Kind}
use Rattle.swh_base.specs.declared.entry.Entry.{Entry}
use Rattle.swh_base.specs.declared.visit.Which.{Which}
use Rattle.swh_base.specs.declared.visit.Which.TheVariants.{Body, Objects, Bytes}
use Rattle.swh_base.specs.Limits.{body_limit}
use Rattle.swh_model.specs.declared.event.Event.{Event}
use Rattle.swh_model.specs.declared.event.Wish.TheVariants as wished
use Rattle.swh_model.specs.declared.event.EventKind.TheVariants as happened
use Rattle.swh_model.specs.declared.event.No.TheVariants as cause
use Rattle.swh_model.specs.Limits.{IsWithinLimits}
use Rattle.swh_model.specs.Judge.{first_long, not_held, event_of, BatchPasses, FilePasses, IsCause}
use Rattle.swh_model.specs.Step.{May, replay}
use Rattle.swh_ingest.specs.Walking.{IsReadyBatch}
use Rattle.swh_ingest.proofs.Batches.{fresh-same}
use Rattle.swh_keeperload.proofs.Leaving.{IsSure}

not_above : (m n : ℕ) → n ≤ m → nat_lt m n ≡ false
not_above m n h = grind arith

none_long : (es : List Entry) → AllByRecursion (λ e. length e.body ≤ body_limit) es → first_long es ≡ None
none_long [] h = refl
none_long (e ∷ es) h = ap (λ (b : Bool). cond b (Some (length e.body)) (first_long es)) (not_above body_limit (length e.body) h.0) ∙ none_long es h.1

-- no limit of a batch is passed
none_passes : (es : List Entry) (w : Which) (n : ℕ) → IsWithinLimits es → BatchPasses es w n → ⊥
none_passes es Body n h p = let both : None ≡ Some n = sym (none_long es h.bodies) ∙ p in cc
none_passes es Objects n h p = let few = h.objects in omega (arith, few, p.0, p.1)
none_passes es Bytes n h p = let small = h.bytes in omega (arith, small, p.0, p.1)
none_passes es _ n h p = p

full_file : (h : List Event) (by : ℕ) (entries : List Entry) (which : Which) (number : ℕ) → IsWithinLimits entries → IsCause h by (wished.Batch entries) (cause.Limit which number) → FilePasses h (event_of (replay h) (wished.Batch entries)) which number
full_file h by entries which number within (inl passes) = absurd (none_passes entries which number within passes)
full_file h by entries which number within (inr full) = full

-- a batch that is ready is surely added
pub sure_batch : (id : Kind → List ℕ → List ℕ) (by : ℕ) (Q : Event → Type 0) (h : List Event) (entries : List Entry) → Q (record { by = by; what = happened.Batch entries }) → IsReadyBatch id true (replay h).bodies entries → IsSure id by Q h (wished.Batch entries)
sure_batch id by Q h entries tried ready =
    let fresh : entries ≡ not_held (replay h).bodies entries = sym (fresh-same (replay h).bodies entries (ready.new refl)) in record {
      tried = subst (λ (es : List Entry). Q (record { by = by; what = happened.Batch es })) fresh tried;
      may = subst (λ (es : List Entry). May id (replay h) (record { by = by; what = happened.Batch es })) fresh (record { good = ready.good; limits = ready.limits; new = ready.new refl });
      full = λ which number is. full_file h by entries which number ready.limits is;
      unended = λ status c. c;
    }
