-- What a reading of a word finds: the word, a word that is too long, or none.
use Rattle.std.specs.Prelude.{ℕ}
use Rattle.swh_fastlex.specs.declared.word.Word.{Word}
use Rattle.swh_fastlex.specs.declared.word.Word.TheVariants.{Is, Over, No}

-- What a text is as a word. `Is`: it says this value, and passes no limit. `Over`: it passes a limit, whatever it says.
-- `No`: it says no value, and passes no limit.
abbrev pub IsWord : {X : Type 0} → (X → Type 0) → (ℕ → Type 0) → Word X → Type 0
IsWord {X} Says Passes (Is x) = Says x × ((number : ℕ) → Passes number → ⊥)
IsWord {X} Says Passes (Over number) = Passes number
IsWord {X} Says Passes No = ((x : X) → Says x → ⊥) × ((number : ℕ) → Passes number → ⊥)

-- this, where there is a word
abbrev pub IfWord : {X : Type 0} → (X → Type 0) → Word X → Type 0
IfWord P (Is x) = P x
IfWord P (Over number) = Unit {0}
IfWord P No = Unit {0}
