-- What the paths of a folder say of a name.
use Rattle.std.proofs.Common.{◌≡◌, ◌≢◌, ℕ, Bool, true, false, cond, List, [], ◌∷◌, ◌++◌, map, Option, Some, refl, ap, ◌∙◌}
use Rattle.std.specs.Prelude.{◌&&◌}
use Rattle.swh_entries.specs.declared.entry.Leaf.{Leaf}
use Rattle.swh_forest.specs.Forest.{Forest, Bare, File, Folder, Stands, Nothing, IsFile, IsFolder, child_at, leaf_of, flat, shown}
use Rattle.swh_forest.specs.PathMap.{same, PathMap, same_path, leaf_at, held_by}
use Rattle.swh_forest.specs.Sound.{IsSound}
use Rattle.swh_forest.proofs.Grafts.{same_is}

abbrev pub under : List ℕ → PathMap → PathMap
under n m = map (λ (e : List (List ℕ) × Leaf). (n ∷ e.0, e.1)) m

-- each path has a component
abbrev pub HavePaths : PathMap → Type 0
HavePaths [] = Unit {0}
HavePaths (e ∷ m) = (e.0 ≢ []) × HavePaths m

paths-append : (m k : PathMap) → HavePaths m → HavePaths k → HavePaths (m ++ k)
paths-append [] k h h' = h'
paths-append (e ∷ m) k h h' = (h.0, paths-append m k h.1 h')

paths-under : (n : List ℕ) (m : PathMap) → HavePaths (under n m)
paths-under n [] = tt
paths-under n (e ∷ m) = (λ z. cc, paths-under n m)

pub paths-flat : (f : Forest) → HavePaths (flat f)
paths-flat Bare = tt
paths-flat (File n l f) = (λ z. cc, paths-flat f)
paths-flat (Folder n g f) = paths-append (under n (flat g)) (flat f) (paths-under n (flat g)) (paths-flat f)

cond_none : (b : Bool) (p : List (List ℕ)) (l : Leaf) (x : Option Leaf) → p ≢ [] → cond (b && same_path p []) (Some l) x ≡ x
cond_none true [] l x ne = absurd (ne refl)
cond_none true (c ∷ p) l x ne = refl
cond_none false p l x ne = refl

leaf-under : (n c : List ℕ) (m k : PathMap) → HavePaths m → leaf_at (c ∷ []) (under n m ++ k) ≡ leaf_at (c ∷ []) k
leaf-under n c [] k h = refl
leaf-under n c (e ∷ m) k h = cond_none (same n c) e.0 e.1 (leaf_at (c ∷ []) (under n m ++ k)) h.0 ∙ leaf-under n c m k h.1

leaf_file : (b : Bool) (l : Leaf) (x : Option Leaf) (y : Stands) → x ≡ leaf_of y → cond (b && true) (Some l) x ≡ leaf_of (cond b (IsFile l) y)
leaf_file true l x y h = refl
leaf_file false l x y h = h

-- the folder of a name has no leaf of its own
leaf_folder : (b : Bool) (n c : List ℕ) (g f : Forest) (x : Option Leaf) → same n c ≡ b → child_at n f ≡ Nothing → x ≡ leaf_of (child_at c f) → x ≡ leaf_of (cond b (IsFolder g) (child_at c f))
leaf_folder true n c g f x e fresh h = let is = same_is n c e in let none : child_at c f ≡ Nothing = rw (← is) fresh in h ∙ ap leaf_of none
leaf_folder false n c g f x e fresh h = h

pub leaf-flat : (c : List ℕ) (f : Forest) → IsSound f → leaf_at (c ∷ []) (flat f) ≡ leaf_of (child_at c f)
leaf-flat c Bare s = refl
leaf-flat c (File n l f) s = leaf_file (same n c) l (leaf_at (c ∷ []) (flat f)) (child_at c f) (leaf-flat c f s.4)
leaf-flat c (Folder n g f) s =
    leaf-under n c (flat g) (flat f) (paths-flat g)
    ∙ leaf_folder (same n c) n c g f (leaf_at (c ∷ []) (flat f)) refl s.3 (leaf-flat c f s.5)

held-under_same : (n c : List ℕ) (m k : PathMap) → same n c ≡ true → held_by c (under n m ++ k) ≡ m ++ held_by c k
held-under_same n c [] k e = refl
held-under_same n c (x ∷ m) k e = rw e (ap (λ (r : PathMap). x ∷ r) (held-under_same n c m k e))

held-under_other : (n c : List ℕ) (m k : PathMap) → same n c ≡ false → held_by c (under n m ++ k) ≡ held_by c k
held-under_other n c [] k e = refl
held-under_other n c (x ∷ m) k e = rw e (held-under_other n c m k e)

append-none : (m : PathMap) → m ++ [] ≡ m
append-none [] = refl
append-none (e ∷ m) = ap (λ (r : PathMap). e ∷ r) (append-none m)

held_file : (b : Bool) (n c : List ℕ) (l : Leaf) (f : Forest) → same n c ≡ b → child_at n f ≡ Nothing → held_by c (flat f) ≡ shown (child_at c f) → cond b (([], l) ∷ held_by c (flat f)) (held_by c (flat f)) ≡ shown (cond b (IsFile l) (child_at c f))
held_file true n c l f e fresh h = let is = same_is n c e in let none : child_at c f ≡ Nothing = rw (← is) fresh in let rest : held_by c (flat f) ≡ [] = h ∙ ap shown none in ap (λ (r : PathMap). ([], l) ∷ r) rest
held_file false n c l f e fresh h = h

held_folder : (b : Bool) (n c : List ℕ) (g f : Forest) → same n c ≡ b → child_at n f ≡ Nothing → held_by c (flat f) ≡ shown (child_at c f) → held_by c (under n (flat g) ++ flat f) ≡ shown (cond b (IsFolder g) (child_at c f))
held_folder true n c g f e fresh h =
    let is = same_is n c e in
    let none : child_at c f ≡ Nothing = rw (← is) fresh in
    held-under_same n c (flat g) (flat f) e ∙ ap (λ (r : PathMap). flat g ++ r) (h ∙ ap shown none) ∙ append-none (flat g)
held_folder false n c g f e fresh h = held-under_other n c (flat g) (flat f) e ∙ h

pub held-by : (c : List ℕ) (f : Forest) → IsSound f → held_by c (flat f) ≡ shown (child_at c f)
held-by c Bare s = refl
held-by c (File n l f) s = held_file (same n c) n c l f refl s.2 (held-by c f s.4)
held-by c (Folder n g f) s = held_folder (same n c) n c g f refl s.3 (held-by c f s.5)

append-some : (m k : PathMap) → m ≢ [] → m ++ k ≢ []
append-some [] k ne e = ne refl
append-some (x ∷ m) k ne e = cc

under-some : (n : List ℕ) (m : PathMap) → m ≢ [] → under n m ≢ []
under-some n [] ne e = ne refl
under-some n (x ∷ m) ne e = cc

pub flat-some : (f : Forest) → f ≢ Bare → IsSound f → flat f ≢ []
flat-some Bare ne s e = ne refl
flat-some (File n l f) ne s e = cc
flat-some (Folder n g f) ne s e = append-some (under n (flat g)) (flat f) (under-some n (flat g) (flat-some g s.1 s.2)) e
