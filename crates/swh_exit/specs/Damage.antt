-- The lines that tell a damaged archive.
use Rattle.std.specs.Prelude.{◌≡◌, ◌++◌, ◌∷◌, ℕ, List, codes, decimal}
use Rattle.swh_base.specs.declared.kind.Kind.{Kind}
use Rattle.swh_base.specs.declared.name.Name.{Name}
use Rattle.swh_swhid.specs.Core.{core_text}
use Rattle.swh_outside.specs.Files.{Files}
use Rattle.swh_recovery.specs.declared.harm.Harm.{Harm}
use Rattle.swh_keeper.specs.Damage.{IsDamagedAt}
use Rattle.swh_exit.specs.Refusal.{refusal}
use Rattle.swh_exit.specs.declared.answer.Answer.{Answer}
use Rattle.swh_exit.specs.declared.answer.Answer.TheVariants.{Damaged, Memory}

-- what is printed of the first harm: the number of its file, 0 the ledger and 1 the store, and its byte
abbrev pub damaged_line : ℕ → ℕ → List ℕ
damaged_line file at = refusal (codes "damaged " ++ (decimal file ++ 32 ∷ decimal at))

-- what is printed of a held body that reads otherwise: the core identifier under which it is held
abbrev pub damaged_body_line : Name → List ℕ
damaged_body_line name = refusal (codes "damaged " ++ core_text name)

-- The text is such a line of some file and some byte.
abbrev pub IsDamagedLine : List ℕ → Type 0
IsDamagedLine text = (file : ℕ) × (at : ℕ) × (text ≡ damaged_line file at)

-- The answer tells this line of damage, or memory for it ran out.
abbrev pub TellsDamageLine : List ℕ → Answer → Type 0
TellsDamageLine line (Damaged text) = text ≡ line
TellsDamageLine line Memory = Unit {0}
TellsDamageLine line _ = ⊥

-- The answer is another than damage.
abbrev pub IsUndamaged : Answer → Type 0
IsUndamaged (Damaged text) = ⊥
IsUndamaged _ = Unit {0}

module _ (id_of : Kind → List ℕ → List ℕ) where
  -- The two files stand for no history, and the first harm is at this byte of the file of this number.
  abbrev pub IsHarmedAt : Files → ℕ → ℕ → Type 0
  IsHarmedAt files file at = (harm : Harm) × IsDamagedAt id_of (files 0).seen (files 1).seen file at harm

  -- The text tells the place of the first harm of the two files.
  pub record TellsHarm (files : Files) (text : List ℕ) : Type 0 where
    pub file : ℕ
    pub at : ℕ
    pub harmed : IsHarmedAt files file at
    pub text_is : text ≡ damaged_line file at
