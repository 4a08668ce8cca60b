-- Sizes of entries, as far as a loop has come.
use Rattle.std.proofs.Common.{◌≡◌, ℕ, zero, suc, ◌+◌, ◌*◌, ◌<◌, ◌≤◌, List, [], ◌∷◌, ◌++◌, length, take, get_or, refl, sym, ap, ◌∙◌, subst, arith}
use Rattle.std.specs.List.{AllByRecursion}
use Rattle.std.proofs.lemmas.List.{take_more}
use Rattle.swh_base.specs.declared.entry.Entry.{Entry}
use Rattle.swh_base.specs.Limits.{body_limit}
use Rattle.swh_model.specs.Limits.{bytes_before_last}

abbrev pub all_bytes : List Entry → ℕ
all_bytes [] = 0
all_bytes (e ∷ es) = length e.body + all_bytes es

abbrev pub AreSmall : List Entry → Type 0
AreSmall es = AllByRecursion (λ (e : Entry). length e.body ≤ body_limit) es

pub record SoFar (es : List Entry) (i before_ last : ℕ) : Type 0 where
  pub small : AreSmall (take i es)
  pub bytes : before_ ≡ bytes_before_last (take i es)
  pub sum : before_ + last ≡ all_bytes (take i es)
  pub bound : before_ + last ≤ i * body_limit
  pub last_one : last ≤ body_limit

all_bytes-push : (es : List Entry) (e : Entry) → all_bytes (es ++ e ∷ []) ≡ all_bytes es + length e.body
all_bytes-push [] e = omega arith
all_bytes-push (x ∷ es) e = let h = all_bytes-push es e in omega (arith, h)

before_last-push : (es : List Entry) (e : Entry) → bytes_before_last (es ++ e ∷ []) ≡ all_bytes es
before_last-push [] e = refl
before_last-push (x ∷ []) e = omega arith
before_last-push (x ∷ y ∷ es) e = let h = before_last-push (y ∷ es) e in omega (arith, h)

small-push : (es : List Entry) (e : Entry) → AreSmall es → length e.body ≤ body_limit → AreSmall (es ++ e ∷ [])
small-push [] e h p = (p, tt)
small-push (x ∷ es) e h p = (h.0, small-push es e h.1 p)

pub small-at : (es : List Entry) (k : ℕ) (e : Entry) → k < length es → e ≡ get_or es k e → AreSmall es → length e.body ≤ body_limit
small-at [] k e less is h = absurd (omega (arith, less))
small-at (x ∷ es) zero e less is h = subst (λ (y : Entry). length y.body ≤ body_limit) (sym is) h.0
small-at (x ∷ es) (suc k) e less is h = small-at es k e (omega (arith, less)) is h.1

take-next : (es : List Entry) (i : ℕ) (e : Entry) → i < length es → e ≡ get_or es i e → take (i + 1) es ≡ take i es ++ e ∷ []
take-next es i e less is = take_more es i e less ∙ ap (λ (x : Entry). take i es ++ x ∷ []) (sym is)

pub so-far-next : (es : List Entry) (i before_ last size : ℕ) (e : Entry) → i < length es → e ≡ get_or es i e → size ≡ length e.body → size ≤ body_limit → SoFar es i before_ last → SoFar es (i + 1) (before_ + last) size
so-far-next es i before_ last size e less is size_is fits h =
    let more : take (i + 1) es ≡ take i es ++ e ∷ [] = take-next es i e less is in
    let s = h.sum in let b = h.bound in
    let p = all_bytes-push (take i es) e in let q = before_last-push (take i es) e in
    record {
      small = subst AreSmall (sym more) (small-push (take i es) e h.small (omega (arith, size_is, fits)));
      bytes = h.sum ∙ sym (before_last-push (take i es) e) ∙ ap bytes_before_last (sym more);
      sum = let t : (before_ + last) + size ≡ all_bytes (take i es ++ e ∷ []) = omega (arith, s, p, size_is) in t ∙ ap all_bytes (sym more);
      bound = omega (arith, b, fits);
      last_one = fits;
    }
