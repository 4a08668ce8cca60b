-- Elements of lists, and what two walks over steps have in common.
use Rattle.std.proofs.Common.{◌≡◌, ◌⊎◌, inl, inr, ℕ, zero, suc, Option, Some, None, List, [], ◌∷◌, ◌++◌, map, refl, sym, ap, ◌∙◌, subst, arith}
use Rattle.std.specs.Prelude.{Contains, Result, IfErr}
use Rattle.std.specs.Result.{IsErrAnd}
use Rattle.std.proofs.lemmas.Result.{err_from_is_err_and}
use Rattle.std.specs.List.{AllByRecursion}
use Rattle.std.proofs.lemmas.List.Elements.{Contains-append_right}
use Rattle.swh_base.specs.Reach.{IsWalk, Reaches}
use Rattle.swh_base.proofs.Elementary.{none_in}

pub in_first : {X : Type 0} → (x : X) (xs : List X) → Contains (x ∷ xs) x
in_first x xs = (0, omega arith, refl)

pub in_rest : {X : Type 0} → (x : X) (xs : List X) (y : X) → Contains xs y → Contains (x ∷ xs) y
in_rest x xs y (k, less, is) = (suc k, omega (arith, less), is)

pub in_cases : {X : Type 0} → (x : X) (xs : List X) (y : X) → Contains (x ∷ xs) y → (x ≡ y) ⊎ Contains xs y
in_cases x xs y (zero, less, is) = inl is
in_cases x xs y (suc k, less, is) = inr (k, omega (arith, less), is)

pub in_middle : {X : Type 0} → (front : List X) (x : X) (rest : List X) → Contains (front ++ x ∷ rest) x
in_middle front x rest = Contains-append_right front (x ∷ rest) x (in_first x rest)

pub all_of : {X : Type 0} (P : X → Type 0) (xs : List X) (x : X) → AllByRecursion P xs → Contains xs x → P x
all_of P [] x all h = absurd (none_in x h)
all_of P (y ∷ ys) x all h = elim (in_cases y ys x h) [ inl is ↦ subst P is all.0 | inr more ↦ all_of P ys x all.1 more ]

-- what a list holds, made into something else
pub in_map : {X Y : Type 0} (f : X → Y) (xs : List X) (x : X) → Contains xs x → Contains (map f xs) (f x)
in_map f [] x h = absurd (none_in x h)
in_map f (y ∷ ys) x h =
    elim (in_cases y ys x h) [ inl is ↦ subst (λ (z : _). Contains (map f (y ∷ ys)) (f z)) is (in_first (f y) (map f ys)) | inr more ↦ in_rest (f y) (map f ys) (f x) (in_map f ys x more) ]

pub from_map : {X Y : Type 0} (f : X → Y) (xs : List X) (y : Y) → Contains (map f xs) y → (x : X) × (Contains xs x × (f x ≡ y))
from_map f [] y h = absurd (none_in y h)
from_map f (x ∷ xs) y h =
    elim (in_cases (f x) (map f xs) y h) [
      | inl is ↦ (x, (in_first x xs, is))
      | inr more ↦ let found = from_map f xs y more in (found.0, (in_rest x xs found.0 found.1.0, found.1.1))
    ]

-- how a call ends that hands a fault on
pub refused : {T E : Type 0} (r : Result T E) (P : E → Type 0) (x : E) → IsErrAnd r (λ y. y ≡ x) → P x → IfErr r P
refused r P x h p = let e = err_from_is_err_and r h in rw (e.1, e.2) p

pub same_some : {X : Type 0} (a b : X) → Some a ≡ Some b → a ≡ b
same_some a b e = cc

pub not_none : {X : Type 0} (o : Option X) (a : X) → o ≡ Some a → o ≡ None → ⊥
not_none o a e f = let g = sym e ∙ f in cc

pub same_or_not : (a b : ℕ) → (a ≡ b) ⊎ (a ≡ b → ⊥)
same_or_not zero zero = inl refl
same_or_not zero (suc b) = inr (λ e. absurd (omega (arith, e)))
same_or_not (suc a) zero = inr (λ e. absurd (omega (arith, e)))
same_or_not (suc a) (suc b) = elim (same_or_not a b) [ inl e ↦ inl (ap suc e) | inr n ↦ inr (λ e. n (omega (arith, e))) ]

pub nothing_there : {X : Type 0} (o : Option X) → ((x : X) × (o ≡ Some x) → ⊥) → o ≡ None
nothing_there None none = refl
nothing_there (Some x) none = absurd (none (x, refl))

-- ---- steps that lead to one place at most

module _ {X : Type 0} (Step : X → X → Type 0) (one : (a b c : X) → Step a b → Step a c → b ≡ c) where
  -- walks that end where no step leads on end at one place
  pub one_end : (ns ms : List X) (a x y : X) → IsWalk Step a ns x → IsWalk Step a ms y → ((z : X) → Step x z → ⊥) → ((z : X) → Step y z → ⊥) → x ≡ y
  one_end [] [] a x y w v stops stays = sym w ∙ v
  one_end [] (m ∷ ms) a x y w v stops stays = absurd (stops m (subst (λ (z : X). Step z m) w v.0))
  one_end (n ∷ ns) [] a x y w v stops stays = absurd (stays n (subst (λ (z : X). Step z n) v w.0))
  one_end (n ∷ ns) (m ∷ ms) a x y w v stops stays =
      one_end ns ms n x y w.1 (subst (λ (z : X). IsWalk Step z ms y) (one a m n v.0 w.0) v.1) stops stays

-- where each step from one of these leads to one of these, so does each walk
pub trapped : {X : Type 0} (Step : X → X → Type 0) (In : X → Type 0) → ((a b : X) → In a → Step a b → In b) → (ns : List X) (a x : X) → In a → IsWalk Step a ns x → In x
trapped Step In keeps [] a x here w = subst In w here
trapped Step In keeps (n ∷ ns) a x here w = trapped Step In keeps ns n x (keeps a n here w.0) w.1

pub walks_on : {X : Type 0} (Step : X → X → Type 0) → (ns : List X) (a x y : X) → IsWalk Step a ns x → Step x y → Reaches Step a y
walks_on Step [] a x y w step = (y ∷ [], (subst (λ z. Step z y) (sym w) step, refl))
walks_on Step (n ∷ ns) a x y w step = let more = walks_on Step ns n x y w.1 step in (n ∷ more.0, (w.0, more.1))
