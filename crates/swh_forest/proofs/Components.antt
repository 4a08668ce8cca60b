-- The components of a path are names of entries.
use Rattle.std.proofs.Common.{◌≡◌, ◌≢◌, ℕ, suc, zero, ◌==◌, Bool, true, false, cond, List, [], ◌∷◌, Contains, refl, arith}
use Rattle.std.specs.List.{onto_first, AllByRecursion}
use Rattle.swh_base.specs.Directory.{IsEntryName}
use Rattle.swh_fastlex.specs.Path.{components, IsComponent, IsPath}

abbrev pub NoSlash : List ℕ → Type 0
NoSlash n = AllByRecursion (λ b. b ≡ 47 → ⊥) n

onto-slash : (c : ℕ) (ps : List (List ℕ)) → (c ≡ 47 → ⊥) → AllByRecursion NoSlash ps → AllByRecursion NoSlash (onto_first c ps)
onto-slash c [] n h = ((n, tt), tt)
onto-slash c (p ∷ ps) n h = ((n, h.0), h.1)

slash_case : (b : Bool) (c : ℕ) (ps : List (List ℕ)) → (c == 47) ≡ b → AllByRecursion NoSlash ps → AllByRecursion NoSlash (cond b ([] ∷ ps) (onto_first c ps))
slash_case true c ps e h = (tt, h)
slash_case false c ps e h = onto-slash c ps (λ z. let t : (c == 47) ≡ true = rw z refl in cc) h

no-slashes : (path : List ℕ) → AllByRecursion NoSlash (components path)
no-slashes [] = (tt, tt)
no-slashes (c ∷ path) = slash_case (c == 47) c (components path) refl (no-slashes path)

not-in : (n : List ℕ) → NoSlash n → Contains n 47 → ⊥
not-in [] h has = let lt = has.1 in absurd (omega arith)
not-in (b ∷ n) h (zero, lt, e) = h.0 e
not-in (b ∷ n) h (suc k, lt, e) = not-in n h.1 (k, (let l = lt in omega arith), e)

names-of : (ps : List (List ℕ)) → AllByRecursion IsComponent ps → AllByRecursion NoSlash ps → AllByRecursion IsEntryName ps
names-of [] h k = tt
names-of (p ∷ ps) h k = (record { not_empty = h.0.some; no_nul = h.0.no_nul; no_slash = not-in p k.0 }, names-of ps h.1 k.1)

-- The components of a path are names of entries.
pub path-names : (path : List ℕ) → IsPath path → AllByRecursion IsEntryName (components path)
path-names path h = names-of (components path) h (no-slashes path)

onto-some : (c : ℕ) (ps : List (List ℕ)) → onto_first c ps ≢ []
onto-some c [] e = cc
onto-some c (p ∷ ps) e = cc

some_case : (b : Bool) (c : ℕ) (ps : List (List ℕ)) → cond b ([] ∷ ps) (onto_first c ps) ≢ []
some_case true c ps e = cc
some_case false c ps e = onto-some c ps e

-- There is at least one.
pub components-some : (path : List ℕ) → components path ≢ []
components-some [] e = cc
components-some (c ∷ path) e = some_case (c == 47) c (components path) e
