-- Files of records and their gates.
use Rattle.std.proofs.Common.{◌≡◌, ◌≢◌, inl, inr, ℕ, List, [], ◌∷◌, ◌++◌, sym, ◌∙◌, ap, arith, append_assoc}
use Rattle.std.proofs.lemmas.List.{append-nil}
use Rattle.std.proofs.lemmas.Bool.{cases_eq}
use Rattle.swh_format.specs.Record.{Record, body, magic, coded, front, Stands, with_or_without}

pub coded-push : (rs : List Record) (r : Record) (rest : List ℕ) → coded (rs ++ r ∷ []) ++ rest ≡ coded rs ++ (1 ∷ body r ++ rest)
coded-push [] r rest = ap (λ (l : List ℕ). 1 ∷ l ++ rest) (append-nil (body r))
coded-push (s ∷ rs) r rest =
    ap (λ (l : List ℕ). 1 ∷ l) (append_assoc (body s) (coded (rs ++ r ∷ [])) rest ∙ ap (λ (l : List ℕ). body s ++ l) (coded-push rs r rest) ∙ sym (append_assoc (body s) (coded rs) (1 ∷ body r ++ rest)))

pub front-push : (rs : List Record) (r : Record) (rest : List ℕ) → front (rs ++ r ∷ []) ++ rest ≡ front rs ++ (1 ∷ body r ++ rest)
front-push rs r rest = append_assoc magic (coded (rs ++ r ∷ [])) rest ∙ ap (λ (l : List ℕ). magic ++ l) (coded-push rs r rest) ∙ sym (append_assoc magic (coded rs) (1 ∷ body r ++ rest))

-- a closed gate ends the records
pub closed_gate : (rs : List Record) (gate : ℕ) (rest file : List ℕ) → gate ≢ 1 → file ≡ front rs ++ gate ∷ rest → Stands file rs
closed_gate rs gate rest file shut is = record { gate = gate; closed = shut; rest = rest; split = is }

-- an open one with a whole record and a closed gate after it is one record more
pub opened_gate : (rs : List Record) (r : Record) (rest file : List ℕ) → file ≡ front rs ++ (1 ∷ body r ++ 0 ∷ rest) → Stands file (rs ++ r ∷ [])
opened_gate rs r rest file is = record { gate = 0; closed = λ e. absurd (omega (arith, e)); rest = rest; split = is ∙ sym (front-push rs r (0 ∷ rest)) }

-- so whatever the gate is, the file stands for the records, with the new one or without
pub any_gate : (rs : List Record) (r : Record) (gate : ℕ) (rest file : List ℕ) → file ≡ front rs ++ (gate ∷ body r ++ 0 ∷ rest) → with_or_without rs r file
any_gate rs r gate rest file is = elim (cases_eq gate 1) [
  | inl open_gate ↦ inr (opened_gate rs r rest file (is ∙ ap (λ (g : ℕ). front rs ++ (g ∷ body r ++ 0 ∷ rest)) open_gate))
  | inr shut ↦ inl (closed_gate rs gate (body r ++ 0 ∷ rest) file shut is)
]
