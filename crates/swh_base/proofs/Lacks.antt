-- Bytes that a text lacks: those that its test refuses, and those that its pieces lack.
use Rattle.std.proofs.Common.{◌≡◌, ℕ, zero, suc, ◌+◌, Bool, true, false, inl, inr, List, [], ◌∷◌, ◌++◌, Contains, refl, subst, arith}
use Rattle.std.specs.List.{AllPass}
use Rattle.swh_base.specs.Text.{IsRef, IsPerson, IsSign, is_ref_byte, is_person_byte, is_digit, named}

-- a byte that fails a test stands nowhere in a text that passes it
pub passes_not : (test : ℕ → Bool) (xs : List ℕ) (c : ℕ) → AllPass test xs → (test c ≡ true → ⊥) → Contains xs c → ⊥
passes_not test xs c all fails h = fails (subst (λ (d : ℕ). test d ≡ true) h.2 (all h.0 c h.1))

pub lacks : (test : ℕ → Bool) (xs : List ℕ) (c : ℕ) → test c ≡ false → AllPass test xs → Contains xs c → ⊥
lacks test xs c never all = passes_not test xs c all (λ t. cc)

pub nothing_in : (c : ℕ) → Contains [] c → ⊥
nothing_in c h = let l = h.1 in absurd (omega (arith, l))

pub not_in_middle : (a b : List ℕ) (s c : ℕ) → (Contains a c → ⊥) → (s ≡ c → ⊥) → (Contains b c → ⊥) → Contains (a ++ s ∷ b) c → ⊥
not_in_middle [] b s c na ns nb (zero, l, e) = ns e
not_in_middle [] b s c na ns nb (suc k, l, e) = nb (k, omega arith, e)
not_in_middle (x ∷ a) b s c na ns nb (zero, l, e) = na (0, omega arith, e)
not_in_middle (x ∷ a) b s c na ns nb (suc k, l, e) = not_in_middle a b s c (λ h. let m = h.1 in na (suc h.0, omega (arith, m), h.2)) ns nb (k, omega arith, e)

pub cons_not : (s c : ℕ) (b : List ℕ) → (s ≡ c → ⊥) → (Contains b c → ⊥) → Contains (s ∷ b) c → ⊥
cons_not s c b ns nb h = not_in_middle [] b s c (nothing_in c) ns nb h

sign-no_feed : (c : ℕ) → IsSign c → c ≡ 10 → ⊥
sign-no_feed c (inl plus) e = absurd (omega arith)
sign-no_feed c (inr minus) e = absurd (omega arith)

-- a ref stands in one line
pub ref-no_feed : (text : List ℕ) → IsRef text → Contains text 10 → ⊥
ref-no_feed text h = lacks is_ref_byte text 10 refl h.bytes

-- a person stands in one line
pub person-no_feed : (text : List ℕ) → IsPerson text → Contains text 10 → ⊥
person-no_feed text h contained =
    let zone = cons_not h.sign 10 h.zone (sign-no_feed h.sign h.is_sign) (lacks is_digit h.zone 10 refl h.zone_digits) in
    let time = not_in_middle h.seconds (h.sign ∷ h.zone) 32 10 (lacks is_digit h.seconds 10 refl h.seconds_digits) (λ e. absurd (omega arith)) zone in
    let email = not_in_middle h.email (32 ∷ (h.seconds ++ 32 ∷ h.sign ∷ h.zone)) 62 10 (lacks is_person_byte h.email 10 refl h.email_bytes) (λ e. absurd (omega arith)) (cons_not 32 10 (h.seconds ++ 32 ∷ h.sign ∷ h.zone) (λ e. absurd (omega arith)) time) in
    not_in_middle (named h.name) (h.email ++ 62 ∷ 32 ∷ (h.seconds ++ 32 ∷ h.sign ∷ h.zone)) 60 10 (lacks is_person_byte (named h.name) 10 refl h.name_bytes) (λ e. absurd (omega arith)) email (subst (λ (t : List ℕ). Contains t 10) h.spelled contained)
