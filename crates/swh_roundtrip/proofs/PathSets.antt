-- The paths of a sound folder, set one after another, make its map.
use Rattle.std.proofs.Common.{◌≡◌, ◌≢◌, ℕ, Bool, true, false, not, cond, List, [], ◌∷◌, ◌++◌, refl, sym, ap, ◌∙◌, append_assoc}
use Rattle.std.specs.Prelude.{◌||◌}
use Rattle.std.specs.List.{AllByRecursion}
use Rattle.std.proofs.lemmas.List.{append-nil}
use Rattle.swh_entries.specs.declared.entry.Leaf.{Leaf}
use Rattle.swh_forest.specs.Forest.{Forest, Bare, File, Folder, Nothing, IsFile, IsFolder, Stands, child_at, flat}
use Rattle.swh_forest.specs.PathMap.{PathMap, same, begins, is_path_before, insert_path, cleared, set}
use Rattle.swh_forest.specs.Sound.{IsSound}
use Rattle.swh_forest.proofs.Grafts.{same_self, not_same}
use Rattle.swh_forest.proofs.Flats.{under}
use Rattle.swh_forest.proofs.Canonical.{Ascends, ascends}

-- each of these, behind this path, is set, one after another
abbrev pub sets : List (List ℕ) → PathMap → PathMap → PathMap
sets p [] m = m
sets p (e ∷ k) m = sets p k (set (p ++ e.0) e.1 m)

pub sets-append : (p : List (List ℕ)) (a b m : PathMap) → sets p (a ++ b) m ≡ sets p b (sets p a m)
sets-append p [] b m = refl
sets-append p (e ∷ a) b m = sets-append p a b (set (p ++ e.0) e.1 m)

pub sets-under : (p : List (List ℕ)) (n : List ℕ) (k m : PathMap) → sets p (under n k) m ≡ sets (p ++ n ∷ []) k m
sets-under p n [] m = refl
sets-under p n (e ∷ k) m =
    sets-under p n k (set (p ++ n ∷ e.0) e.1 m)
    ∙ ap (λ (q : List (List ℕ)). sets (p ++ n ∷ []) k (set q e.1 m)) (sym (append_assoc p (n ∷ []) e.0))

-- ## Paths of which none begins another

abbrev pub IsApart : List (List ℕ) → List (List ℕ) × Leaf → Type 0
IsApart p x = (begins p x.0 ≡ false) × (begins x.0 p ≡ false)

abbrev pub AreApart : PathMap → Type 0
AreApart [] = Unit {0}
AreApart (e ∷ m) = AllByRecursion (IsApart e.0) m × AreApart m

-- each path begins with another name
abbrev BeginOther : List ℕ → PathMap → Type 0
BeginOther n m = AllByRecursion (λ (x : List (List ℕ) × Leaf). (c : List ℕ) × (q : List (List ℕ)) × (x.0 ≡ c ∷ q) × (n ≢ c)) m

other-append : (n : List ℕ) (a b : PathMap) → BeginOther n a → BeginOther n b → BeginOther n (a ++ b)
other-append n [] b h k = k
other-append n (e ∷ a) b h k = (h.0, other-append n a b h.1 k)

other-under : (n d : List ℕ) (m : PathMap) → n ≢ d → BeginOther n (under d m)
other-under n d [] ne = tt
other-under n d (e ∷ m) ne = ((d, e.0, refl, ne), other-under n d m ne)

-- the name of the first entry is another, and stands at none of the rest
first_case : (b : Bool) (n d : List ℕ) (x y : Stands) → same d n ≡ b → cond b x y ≡ Nothing → x ≢ Nothing → (n ≢ d) × (y ≡ Nothing)
first_case true n d x y e h some = absurd (some h)
first_case false n d x y e h some = (λ is. let t : same n n ≡ false = ap (λ (w : List ℕ). same w n) is ∙ e in let s = same_self n in let bad : true ≡ false = sym s ∙ t in cc, h)

other-flat : (n : List ℕ) (f : Forest) → child_at n f ≡ Nothing → BeginOther n (flat f)
other-flat n Bare h = tt
other-flat n (File d l f) h = let k = first_case (same d n) n d (IsFile l) (child_at n f) refl h (λ z. cc) in ((d, [], refl, k.0), other-flat n f k.1)
other-flat n (Folder d g f) h = let k = first_case (same d n) n d (IsFolder g) (child_at n f) refl h (λ z. cc) in other-append n (under d (flat g)) (flat f) (other-under n d (flat g) k.0) (other-flat n f k.1)

apart_one : (n : List ℕ) (p : List (List ℕ)) (x : List (List ℕ) × Leaf) (c : List ℕ) (q : List (List ℕ)) → x.0 ≡ c ∷ q → n ≢ c → IsApart (n ∷ p) x
apart_one n p x c q is ne =
    let one : same n c ≡ false = not_same n c ne in
    let two : same c n ≡ false = not_same c n (λ e. ne (sym e)) in
    (rw (is, one) refl, rw (is, two) refl)

apart_other : (n : List ℕ) (p : List (List ℕ)) (m : PathMap) → BeginOther n m → AllByRecursion (IsApart (n ∷ p)) m
apart_other n p [] h = tt
apart_other n p (x ∷ m) h = (apart_one n p x h.0.0 h.0.1 h.0.2 h.0.3, apart_other n p m h.1)

apart_step : (n : List ℕ) (p : List (List ℕ)) (x : List (List ℕ) × Leaf) → IsApart p x → IsApart (n ∷ p) (n ∷ x.0, x.1)
apart_step n p x h = let s = same_self n in (rw s h.0, rw s h.1)

apart_under : (n : List ℕ) (p : List (List ℕ)) (m : PathMap) → AllByRecursion (IsApart p) m → AllByRecursion (IsApart (n ∷ p)) (under n m)
apart_under n p [] h = tt
apart_under n p (x ∷ m) h = (apart_step n p x h.0, apart_under n p m h.1)

all-append : (p : List (List ℕ)) (a b : PathMap) → AllByRecursion (IsApart p) a → AllByRecursion (IsApart p) b → AllByRecursion (IsApart p) (a ++ b)
all-append p [] b h k = k
all-append p (e ∷ a) b h k = (h.0, all-append p a b h.1 k)

joined : (n : List ℕ) (m k : PathMap) → AreApart m → BeginOther n k → AreApart k → AreApart (under n m ++ k)
joined n [] k h o a = a
joined n (e ∷ m) k h o a = (all-append (n ∷ e.0) (under n m) k (apart_under n e.0 m h.0) (apart_other n e.0 k o), joined n m k h.1 o a)

pub apart : (f : Forest) → IsSound f → AreApart (flat f)
apart Bare s = tt
apart (File n l f) s = (apart_other n [] (flat f) (other-flat n f s.2), apart f s.4)
apart (Folder n g f) s = joined n (flat g) (flat f) (apart g s.2) (other-flat n f s.3) (apart f s.5)

-- ## Setting them in their order

-- all of these come before the path, and are apart from it
abbrev AreBefore : List (List ℕ) → PathMap → Type 0
AreBefore p m = AllByRecursion (λ (x : List (List ℕ) × Leaf). (is_path_before x.0 p ≡ true) × (begins p x.0 ≡ false) × (begins x.0 p ≡ false)) m

kept : (b d : Bool) (e : List (List ℕ) × Leaf) (m : PathMap) → b ≡ false → d ≡ false → cond (not (b || d)) (e ∷ m) m ≡ e ∷ m
kept true d e m x y = absurd cc
kept false true e m x y = absurd cc
kept false false e m x y = refl

nothing_cleared : (p : List (List ℕ)) (m : PathMap) → AreBefore p m → cleared p m ≡ m
nothing_cleared p [] h = refl
nothing_cleared p (e ∷ m) h = kept (begins p e.0) (begins e.0 p) e (cleared p m) h.0.1 h.0.2 ∙ ap (λ (k : PathMap). e ∷ k) (nothing_cleared p m h.1)

at_end : (p : List (List ℕ)) (l : Leaf) (m : PathMap) → AreBefore p m → insert_path p l m ≡ m ++ (p, l) ∷ []
at_end p l [] h = refl
at_end p l (e ∷ m) h = rw h.0.0 (ap (λ (k : PathMap). e ∷ k) (at_end p l m h.1))

set_last : (p : List (List ℕ)) (l : Leaf) (m : PathMap) → AreBefore p m → set p l m ≡ m ++ (p, l) ∷ []
set_last p l m h = ap (insert_path p l) (nothing_cleared p m h) ∙ at_end p l m h

-- all of the first come before all of the second, and are apart from them
abbrev AllBefore : PathMap → PathMap → Type 0
AllBefore m k = AllByRecursion (λ (x : List (List ℕ) × Leaf). AreBefore x.0 m) k

before_push : (p : List (List ℕ)) (m : PathMap) (e : List (List ℕ) × Leaf) → AreBefore p m → (is_path_before e.0 p ≡ true) × (begins p e.0 ≡ false) × (begins e.0 p ≡ false) → AreBefore p (m ++ e ∷ [])
before_push p [] e h k = (k, tt)
before_push p (x ∷ m) e h k = (h.0, before_push p m e h.1 k)

all_push : (e : List (List ℕ) × Leaf) (m k : PathMap) → AllBefore m k → AllByRecursion (λ (x : List (List ℕ) × Leaf). is_path_before e.0 x.0 ≡ true) k → AllByRecursion (IsApart e.0) k → AllBefore (m ++ e ∷ []) k
all_push e m [] h a b = tt
all_push e m (x ∷ k) h a b = (before_push x.0 m e h.0 (a.0, b.0.1, b.0.0), all_push e m k h.1 a.1 b.1)

sets_on : (m k : PathMap) → Ascends k → AreApart k → AllBefore m k → sets [] k m ≡ m ++ k
sets_on m [] a b h = sym (append-nil m)
sets_on m (e ∷ k) a b h =
    ap (sets [] k) (set_last e.0 e.1 m h.0)
    ∙ sets_on (m ++ e ∷ []) k a.1 b.1 (all_push e m k h.1 a.0 b.0)
    ∙ append_assoc m (e ∷ []) k

none_before : (k : PathMap) → AllBefore [] k
none_before [] = tt
none_before (e ∷ k) = (tt, none_before k)

-- The paths of a sound folder, set in their order where nothing stood, make its map.
pub sets-flat : (f : Forest) → IsSound f → sets [] (flat f) [] ≡ flat f
sets-flat f s = sets_on [] (flat f) (ascends f s) (apart f s) (none_before (flat f))
