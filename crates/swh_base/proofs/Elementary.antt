-- Elementary facts that several crates cite: of lists, options, orders and tests.
use Rattle.std.proofs.Common.{List, [], ◌∷◌, ap, refl, ℕ, ◌++◌, ◌≡◌, true, false, arith, None, Some, suc, zero, Bool, sym, Option}
use Rattle.std.specs.List.{AllByRecursion}
use Rattle.std.specs.Ordering.{is_eq, is_lt, ordering_reverse}
use Rattle.std.specs.Prelude.{Contains}
use Rattle.std.specs.declared.cmp.Ordering.{Ordering}
use Rattle.std.specs.declared.cmp.Ordering.TheVariants.{Equal, Greater, Less}

pub all_as : {X : Type 0} (P Q : X → Type 0) → ((x : X) → P x → Q x) → (xs : List X) → AllByRecursion P xs → AllByRecursion Q xs
all_as P Q f [] h = tt
all_as P Q f (x ∷ xs) h = (f x h.0, all_as P Q f xs h.1)

pub append_nil : (a : List ℕ) → a ++ [] ≡ a
append_nil [] = refl
append_nil (c ∷ a) = ap (λ (t : List ℕ). c ∷ t) (append_nil a)

pub equal_order : (o : Ordering) → is_eq o ≡ true → o ≡ Equal
equal_order Less e = absurd (cc)
equal_order Equal e = refl
equal_order Greater e = absurd (cc)

pub less_from : (o : Ordering) → is_lt o ≡ true → o ≡ Less
less_from Less e = refl
less_from Equal e = absurd cc
less_from Greater e = absurd cc

pub less_or : (o p : Ordering) → o ≡ ordering_reverse p → is_lt p ≡ false → (o ≡ Equal → ⊥) → o ≡ Less
less_or Less p e h n = refl
less_or Equal p e h n = absurd (n refl)
less_or Greater Less e h n = absurd (cc)
less_or Greater Equal e h n = absurd (cc)
less_or Greater Greater e h n = absurd (cc)

pub none_in : {X : Type 0} → (x : X) → Contains [] x → ⊥
none_in x (k, less, is) = absurd (omega (arith, less))

pub none_some : (n : ℕ) → None ≡ Some n → ⊥
none_some n e = absurd (cc)

pub only : {X : Type 0} → (x y : X) → Contains (x ∷ []) y → x ≡ y
only x y (zero, less, is) = is
only x y (suc k, less, is) = absurd (omega (arith, less))

pub own_reverse : (o : Ordering) → o ≡ ordering_reverse o → o ≡ Equal
own_reverse Less e = absurd (cc)
own_reverse Equal e = refl
own_reverse Greater e = absurd (cc)

pub same_body : (a b : List ℕ) → Some a ≡ Some b → a ≡ b
same_body a b e = cc

pub same_tests : (a b : Bool) → (a ≡ true → b ≡ true) → (b ≡ true → a ≡ true) → a ≡ b
same_tests true true f g = refl
same_tests true false f g = sym (f refl)
same_tests false true f g = g refl
same_tests false false f g = refl

pub some_not_none : (x : List ℕ) (o : Option (List ℕ)) → o ≡ Some x → o ≡ None → ⊥
some_not_none x o s n = cc
