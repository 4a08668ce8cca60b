-- What an answer is that comes of `load`.
use Rattle.std.proofs.Common.{◌≡◌, ◌⊎◌, inl, inr, ℕ, List, refl, subst}
use Rattle.swh_base.specs.declared.kind.Kind.{Kind}
use Rattle.swh_outside.specs.Files.{Files}
use Rattle.swh_exit.specs.Seen.{FileAt}
use Rattle.swh_program.specs.Lines.{LoadedJob, TellsLoads, TellsLoad}
use Rattle.swh_program.specs.Load.{Givens, IsOpenedArchive, IsUnloaded, LoadEnds}
use Rattle.swh_exit.specs.Opening.{IsOpenRefusal, OpenEnds}
use Rattle.swh_exit.specs.declared.answer.Ending.{Ending}
use Rattle.swh_exit.specs.declared.answer.Answer.{Answer}
use Rattle.swh_exit.specs.declared.answer.Answer.TheVariants.{Told, OutsideFolder, OutsideYard, OutsideClock}

-- loads are told by their lines
pub told_of : (loads : List LoadedJob) (answer : Answer) → TellsLoad loads answer → (text : List ℕ) × (end : Ending) × TellsLoads loads text end × (answer ≡ Told text end)
told_of loads (Told text end) told = (text, end, told, refl)
told_of loads _ told = absurd told

-- no job is loaded where the clock failed or the archive was not opened
pub unloaded_cases : (id_of : Kind → List ℕ → List ℕ) (tells : Type 0) (old new : Files) (answer : Answer) → IsUnloaded id_of tells old new answer → (answer ≡ OutsideClock) ⊎ (IsOpenRefusal answer × (tells → OpenEnds id_of old new answer))
unloaded_cases id_of tells old new OutsideClock is = inl refl
unloaded_cases id_of tells old new _ is = inr is

-- where the clock failed the archive was opened
pub unloaded_clock : (id_of : Kind → List ℕ → List ℕ) (tells : Type 0) (old new : Files) (answer : Answer) → answer ≡ OutsideClock → IsUnloaded id_of tells old new answer → tells → IsOpenedArchive id_of old new
unloaded_clock id_of tells old new answer clock is = subst (IsUnloaded id_of tells old new) clock is

-- a load names neither the folder nor the yard
module _ (g : Givens) (desk_at : FileAt) (path : List ℕ) (old new : Files) where
  none_of_load : LoadEnds g desk_at path old new OutsideFolder → ⊥
  none_of_load (inl run) = elim run.outcome [
    | inl loaded ↦ loaded.told
    | inr none ↦ none.0
  ]
  none_of_load (inr none) = none.one_of

  no_yard_of_load : LoadEnds g desk_at path old new OutsideYard → ⊥
  no_yard_of_load (inl run) = elim run.outcome [
    | inl loaded ↦ loaded.told
    | inr none ↦ none.0
  ]
  no_yard_of_load (inr none) = none.one_of

  pub load_no_yard : (answer : Answer) → LoadEnds g desk_at path old new answer → answer ≡ OutsideYard → ⊥
  load_no_yard answer ends is = no_yard_of_load (subst (LoadEnds g desk_at path old new) is ends)

  pub load_no_folder : (answer : Answer) → LoadEnds g desk_at path old new answer → answer ≡ OutsideFolder → ⊥
  load_no_folder answer ends is = none_of_load (subst (LoadEnds g desk_at path old new) is ends)
