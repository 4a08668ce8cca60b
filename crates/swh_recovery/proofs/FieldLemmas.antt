-- Fields at the front of bytes.
use Rattle.std.proofs.Common.{◌≡◌, ℕ, List, [], ◌∷◌, ◌++◌, length, refl, ap, ◌∙◌, inl, inr}
use Rattle.swh_format.specs.declared.kinds.Choice.{Choice}
use Rattle.swh_format.specs.declared.kinds.Choice.TheVariants as choice
use Rattle.swh_format.specs.declared.kinds.Field.TheVariants as field
use Rattle.swh_format.specs.Fields.{IsAmong}
use Rattle.swh_format.specs.Kinds.{choices}
use Rattle.swh_recovery.specs.Fields.{IsFieldThen}

pub no_snapshot : (bytes rest : List ℕ) (b : ℕ) → bytes ≡ b ∷ rest → b ≡ 0 → IsFieldThen field.Snapshot bytes rest
no_snapshot bytes rest b is none = record { front = 0 ∷ []; is = is ∙ ap (λ (n : ℕ). n ∷ rest) none; is_field = inl refl }

one_of : (b : ℕ) → IsAmong b (choices choice.Snapshot) → (b ≡ 0 → ⊥) → b ≡ 1
one_of b among other = elim among [ inl h ↦ absurd (other h) | inr h ↦ elim h [ inl h ↦ h | inr h ↦ absurd h ] ]

pub a_snapshot : (bytes more id rest : List ℕ) (b : ℕ) → bytes ≡ b ∷ more → IsAmong b (choices choice.Snapshot) → (b ≡ 0 → ⊥) → more ≡ id ++ rest → length id ≡ 20 → IsFieldThen field.Snapshot bytes rest
a_snapshot bytes more id rest b is among other front twenty =
    let one = one_of b among other in
    record { front = 1 ∷ id; is = is ∙ (λ i. one i ∷ front i); is_field = inr (id, refl, twenty) }

pub a_byte : (bytes rest : List ℕ) (b : ℕ) (c : Choice) → bytes ≡ b ∷ rest → IsAmong b (choices c) → IsFieldThen (field.Byte c) bytes rest
a_byte bytes rest b c is among = record { front = b ∷ []; is = is; is_field = (b, refl, among) }
