-- What a crash catches, as code finds it.
use Rattle.std.proofs.Common.{◌≡◌, ℕ, Bool, true, false, IsTrue, Option, Some, None, List, subst}
use Rattle.swh_base.specs.declared.kind.Kind.{Kind}
use Rattle.swh_model.specs.declared.event.Wish.{Wish}
use Rattle.swh_core.specs.declared.step.Step.TheVariants.{Crash}
use Rattle.swh_core.specs.Step.{IsMeant}
use Rattle.swh_core.specs.Answers.{IsSomeWish}

pub not_so : (b : Bool) → b ≡ false → IsTrue b → ⊥
not_so true n o = let e : true ≡ false = n in absurd (cc)
not_so false n o = let e : false ≡ true = o in absurd (cc)

pub so : (b : Bool) → b ≡ true → IsTrue b
so b is = is

-- the wish in flight is one
pub some_flight : (id_of : Kind → List ℕ → List ℕ) (actors : ℕ) (flight : Option (ℕ × Wish × ℕ)) (store ledger : List ℕ) → IsMeant id_of actors (Crash flight store ledger) → (f : ℕ × Wish × ℕ) → flight ≡ Some f → IsSomeWish f.1
some_flight id_of actors None store ledger meant f is = absurd (let e : None ≡ Some f = is in cc)
some_flight id_of actors (Some g) store ledger meant f is = subst (λ (h : ℕ × Wish × ℕ). IsSomeWish h.1) (let e : Some g ≡ Some f = is in let one : g ≡ f = cc in one) (record { id_of = id_of; is = meant.1 })
