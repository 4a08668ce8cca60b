-- Each status comes exactly of its causes.
use Rattle.std.proofs.Common.{◌⊎◌, inl, inr, ℕ, ◌<◌, ◌≤◌, List, refl, arith}
use Rattle.swh_base.specs.declared.kind.Kind.{Kind}
use Rattle.swh_outside.specs.Files.{Files}
use Rattle.swh_segment.specs.Making.{IsMade}
use Rattle.swh_exit.specs.Answers.{status_of}
use Rattle.swh_exit.specs.Run.{ComesTo, IsExactly}
use Rattle.swh_program.specs.InitCommand.{InitEnds, IsInitAnswer}
use Rattle.swh_exit.specs.Opening.{IsUnusable, IsOpenRefusal, OpenEnds}
use Rattle.swh_exit.specs.declared.answer.Answer.{Answer}
use Rattle.swh_exit.specs.declared.answer.Answer.TheVariants.{Made, AlreadyMade, NotMade, Damaged, OutsideDisk, Memory}
use Rattle.swh_exit.proofs.Statuses.{stopped}
use Rattle.swh_program.proofs.Archived.{not_both, harmed}

-- which statuses `init` has
pub init_statuses : (answer : Answer) → IsInitAnswer answer → (status_of answer < 1) ⊎ (3 ≤ status_of answer)
init_statuses Made is = inl (omega arith)
init_statuses AlreadyMade is = inr (omega arith)
init_statuses OutsideDisk is = inr (omega arith)
init_statuses Memory is = inr (omega arith)
init_statuses _ is = absurd is

-- 3 of `init`
pub init_archive : (old new : Files) (answer : Answer) → InitEnds old new answer → IsExactly 3 (IsMade (old 0).seen) (status_of answer)
init_archive old new AlreadyMade ends = record { only = λ e. ends.made; there = λ made. inl refl }
init_archive old new Made ends = record { only = λ e. absurd (omega (arith, e)); there = λ made. absurd (not_both (old 0).seen made ends.not_made) }
init_archive old new OutsideDisk ends = stopped 3 4 (IsMade (old 0).seen) (λ e. omega (arith, e)) (inr (inl refl))
init_archive old new Memory ends = stopped 3 5 (IsMade (old 0).seen) (λ e. omega (arith, e)) (inr (inr refl))
init_archive old new _ ends = absurd ends

module _ (id_of : Kind → List ℕ → List ℕ) (old new : Files) where
  -- 3 of an opening that is refused
  pub refusal_exactly : (answer : Answer) → IsOpenRefusal answer → OpenEnds id_of old new answer → IsExactly 3 (IsUnusable id_of old) (status_of answer)
  refusal_exactly NotMade is ends = record { only = λ e. inl ends.0; there = λ cause. inl refl }
  refusal_exactly (Damaged text) is ends = record { only = λ e. inr (harmed id_of old text ends.0); there = λ cause. inl refl }
  refusal_exactly OutsideDisk is ends = stopped 3 4 (IsUnusable id_of old) (λ e. omega (arith, e)) (inr (inl refl))
  refusal_exactly Memory is ends = stopped 3 5 (IsUnusable id_of old) (λ e. omega (arith, e)) (inr (inr refl))
  refusal_exactly _ is ends = absurd is

  pub refusal_comes : (answer : Answer) → IsOpenRefusal answer → ComesTo 3 (status_of answer)
  refusal_comes NotMade is = inl refl
  refusal_comes (Damaged text) is = inl refl
  refusal_comes OutsideDisk is = inr (inl refl)
  refusal_comes Memory is = inr (inr refl)
  refusal_comes _ is = absurd is
