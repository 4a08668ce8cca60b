-- Own files through an opening that is refused.
use Rattle.std.proofs.Common.{◌≡◌, ℕ, List, sym, subst, Result, Ok, Err, IsErr}
use Rattle.std.specs.Prelude.{OnErr}
use Rattle.swh_base.specs.declared.kind.Kind.{Kind}
use Rattle.swh_outside.specs.Files.{Files}
use Rattle.swh_keeper.specs.Damage.{IfDamagedAt}
use Rattle.swh_keeper.specs.Own.{AreOwn}
use Rattle.swh_keeper.specs.declared.opening.OpenWhy.{OpenWhy}
use Rattle.swh_keeper.specs.declared.opening.OpenWhy.TheVariants as why
use Rattle.swh_keeper.proofs.OwnLemmas.{opening_moments}
use Rattle.swh_exit.specs.Damage.{IsUndamaged}
use Rattle.swh_exit.specs.Opening.{IsOpenRefusal, IsRefusalFor}
use Rattle.swh_exit.specs.Own.{HasOpened, KeepsOwn}
use Rattle.swh_exit.specs.declared.answer.Answer.{Answer}
use Rattle.swh_exit.specs.declared.answer.Answer.TheVariants.{Made, Told, OutsideClock}

-- what holds at an error, where there is one
pub at_err : {T E : Type 0} (P : Type 0) (result : Result T E) → IsErr result → OnErr result P → P
at_err P (Ok x) is holds = cc
at_err P (Err e) is holds = holds

-- an answer that is refused by an opening
not_opened : (answer : Answer) → IsOpenRefusal answer → HasOpened answer → ⊥
not_opened Made is opened = absurd is
not_opened (Told text end) is opened = absurd is
not_opened OutsideClock is opened = absurd is
not_opened _ is opened = absurd opened

undamaged_refusal : (reason : OpenWhy) (answer : Answer) → IsRefusalFor reason answer → IfDamagedAt reason (λ file at harm. ⊥) → IsUndamaged answer
undamaged_refusal why.Made answer is none = absurd is
undamaged_refusal why.NotMade answer is none = subst IsUndamaged (sym is) tt
undamaged_refusal (why.Damaged file at harm) answer is none = absurd none
undamaged_refusal why.DiskFault answer is none = subst IsUndamaged (sym is) tt
undamaged_refusal why.Memory answer is none = subst IsUndamaged (sym is) tt

module _ (id_of : Kind → List ℕ → List ℕ) where
  module _ (old new : Files) where
    -- files that are as they were
    pub keeps_same : (answer : Answer) → new ≡ old → IsUndamaged answer → (HasOpened answer → ⊥) → KeepsOwn id_of old new answer
    keeps_same answer same undamaged unopened = record { undamaged = λ _. undamaged; own = λ own. subst (AreOwn id_of) (sym same) own; opened = λ opened. absurd (unopened opened); opening = opening_moments id_of old }

    -- an opening that the keeper refused
    pub keeps_refused : (reason : OpenWhy) (answer : Answer) → IsRefusalFor reason answer → IsOpenRefusal answer → (AreOwn id_of old → IfDamagedAt reason (λ file at harm. ⊥))
        → (AreOwn id_of old → AreOwn id_of new) → KeepsOwn id_of old new answer
    keeps_refused reason answer is one_of none own = record {
      undamaged = λ was. undamaged_refusal reason answer is (none was);
      own = own;
      opened = λ opened. absurd (not_opened answer one_of opened);
      opening = opening_moments id_of old;
    }
