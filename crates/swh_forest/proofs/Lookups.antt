-- What setting and deleting make of a folder is what they make of its map.
use Rattle.std.proofs.Common.{◌≡◌, ◌≢◌, ℕ, Bool, true, false, not, cond, List, [], ◌∷◌, ◌++◌, Option, Some, None, refl, sym, ap, ◌∙◌}
use Rattle.std.specs.Prelude.{◌&&◌, ◌||◌, filter}
use Rattle.swh_entries.specs.declared.entry.Leaf.{Leaf}
use Rattle.swh_forest.specs.Forest.{Forest, Bare, File, Folder, Stands, Nothing, IsFile, IsFolder, child_at, leaf_of, step, found, deleted, deleted_where, at, flat}
use Rattle.swh_forest.specs.PathMap.{same, PathMap, same_path, leaf_at, begins, is_path_before, insert_path, cleared, delete}
use Rattle.swh_forest.specs.Sound.{IsSound}
use Rattle.swh_forest.proofs.Grafts.{same_is, same_self, not_same, graft-under, graft-front, graft-aside}
use Rattle.swh_forest.proofs.Flats.{under, HavePaths, paths-flat}

both : (a b : Bool) → (a && b) ≡ true → (a ≡ true) × (b ≡ true)
both true b h = (refl, h)
both false b h = absurd cc

pub path_is : (p q : List (List ℕ)) → same_path p q ≡ true → p ≡ q
path_is [] [] h = refl
path_is [] (d ∷ q) h = absurd cc
path_is (c ∷ p) [] h = absurd cc
path_is (c ∷ p) (d ∷ q) h = let b = both (same c d) (same_path p q) h in let e = same_is c d b.0 in let r = path_is p q b.1 in cc

pub path_self : (p : List (List ℕ)) → same_path p p ≡ true
path_self [] = refl
path_self (c ∷ p) = rw (same_self c, path_self p) refl

-- ## Lookups in a folder's map

or_else : Option Leaf → Option Leaf → Option Leaf
or_else None y = y
or_else (Some x) y = Some x

else_case : (a b : Bool) (l : Leaf) (x y : Option Leaf) → cond (a && b) (Some l) (cond a (or_else x y) y) ≡ cond a (or_else (cond b (Some l) x) y) y
unfolding or_else
else_case true true l x y = refl
else_case true false l x y = refl
else_case false b l x y = refl

cond_same : (a : Bool) (y : Option Leaf) → y ≡ cond a y y
cond_same true y = refl
cond_same false y = refl

leaf-under : (n c : List ℕ) (q : List (List ℕ)) (m k : PathMap) → leaf_at (c ∷ q) (under n m ++ k) ≡ cond (same n c) (or_else (leaf_at q m) (leaf_at (c ∷ q) k)) (leaf_at (c ∷ q) k)
unfolding or_else
leaf-under n c q [] k = cond_same (same n c) (leaf_at (c ∷ q) k)
leaf-under n c q (e ∷ m) k =
    ap (cond (same n c && same_path e.0 q) (Some e.1)) (leaf-under n c q m k)
    ∙ else_case (same n c) (same_path e.0 q) e.1 (leaf_at q m) (leaf_at (c ∷ q) k)

pub found-nothing : (q : List (List ℕ)) → found q Nothing ≡ Nothing
found-nothing [] = refl
found-nothing (c ∷ q) = found-nothing q

pub found-file : (c : List ℕ) (q : List (List ℕ)) (l : Leaf) → found (c ∷ q) (IsFile l) ≡ Nothing
found-file c q l = found-nothing q

empty_case : (p : List (List ℕ)) (l : Leaf) (x : Option Leaf) → p ≢ [] → cond (same_path p []) (Some l) x ≡ x
empty_case [] l x ne = absurd (ne refl)
empty_case (c ∷ p) l x ne = refl

leaf-empty : (m : PathMap) → HavePaths m → leaf_at [] m ≡ None
leaf-empty [] h = refl
leaf-empty (e ∷ m) h = empty_case e.0 e.1 (leaf_at [] m) h.0 ∙ leaf-empty m h.1

-- at a file of this name
file_at : (b : Bool) (q : List (List ℕ)) (l : Leaf) (x : Option Leaf) (y : Stands) → (b ≡ true → x ≡ None) → x ≡ leaf_of (found q y) → cond (b && same_path [] q) (Some l) x ≡ leaf_of (found q (cond b (IsFile l) y))
file_at true [] l x y fresh h = refl
file_at true (d ∷ q) l x y fresh h = fresh refl ∙ sym (ap leaf_of (found-file d q l))
file_at false q l x y fresh h = h

folder_at : (b : Bool) (q : List (List ℕ)) (g : Forest) (z x : Option Leaf) (y : Stands) → z ≡ leaf_of (found q (IsFolder g)) → (b ≡ true → x ≡ None) → x ≡ leaf_of (found q y) → cond b (or_else z x) x ≡ leaf_of (found q (cond b (IsFolder g) y))
unfolding or_else
folder_at true q g None x y hz fresh h = fresh refl ∙ hz
folder_at true q g (Some l) x y hz fresh h = hz
folder_at false q g z x y hz fresh h = h

-- no path begins with a name that is fresh
fresh_none : (n c : List ℕ) (q : List (List ℕ)) (f : Forest) → child_at n f ≡ Nothing → leaf_at (c ∷ q) (flat f) ≡ leaf_of (found q (child_at c f)) → same n c ≡ true → leaf_at (c ∷ q) (flat f) ≡ None
fresh_none n c q f fresh h e =
    let is = same_is n c e in
    let none : child_at c f ≡ Nothing = rw (← is) fresh in
    h ∙ ap (λ (x : Stands). leaf_of (found q x)) none ∙ ap leaf_of (found-nothing q)

any_path : (q : List (List ℕ)) (g : Forest) → ((c : List ℕ) (r : List (List ℕ)) → leaf_at (c ∷ r) (flat g) ≡ leaf_of (found r (child_at c g))) → leaf_at q (flat g) ≡ leaf_of (found q (IsFolder g))
any_path [] g h = leaf-empty (flat g) (paths-flat g)
any_path (c ∷ q) g h = h c q

pub lookup : (q : List (List ℕ)) (c : List ℕ) (f : Forest) → IsSound f → leaf_at (c ∷ q) (flat f) ≡ leaf_of (found q (child_at c f))
lookup q c Bare s = sym (ap leaf_of (found-nothing q))
lookup q c (File n l f) s = let more = lookup q c f s.4 in file_at (same n c) q l (leaf_at (c ∷ q) (flat f)) (child_at c f) (fresh_none n c q f s.2 more) more
lookup q c (Folder n g f) s =
    let more = lookup q c f s.5 in
    leaf-under n c q (flat g) (flat f) ∙ folder_at (same n c) q g (leaf_at q (flat g)) (leaf_at (c ∷ q) (flat f)) (child_at c f) (any_path q g (λ d r. lookup r d g s.2)) (fresh_none n c q f s.3 more) more

-- The map of a folder holds at each path what stands there.
pub map-at : (q : List (List ℕ)) (f : Forest) → IsSound f → leaf_at q (flat f) ≡ at q (IsFolder f)
map-at q f s = any_path q f (λ c r. lookup r c f s)

-- ## Lookups in an edited map

filtered : (t : List (List ℕ) → Bool) (q p : List (List ℕ)) (l : Leaf) (m : PathMap) (b k : Bool) → b ≡ t p → same_path p q ≡ k → leaf_at q m ≡ leaf_at q m → leaf_at q (cond b ((p, l) ∷ m) m) ≡ cond (b && same_path p q) (Some l) (leaf_at q m)
filtered t q p l m true k e h r = refl
filtered t q p l m false k e h r = refl

filter_case : (a b t : Bool) (l : Leaf) (x y : Option Leaf) → (b ≡ true → a ≡ t) → x ≡ cond t y None → cond (a && b) (Some l) x ≡ cond t (cond b (Some l) y) None
filter_case a true true l x y is h = let e : a ≡ true = is refl in rw e refl
filter_case a true false l x y is h = let e : a ≡ false = is refl in rw e h
filter_case true false t l x y is h = h
filter_case false false t l x y is h = h

pub leaf-filter : (t : List (List ℕ) → Bool) (q : List (List ℕ)) (m : PathMap) → leaf_at q (filter (λ (e : List (List ℕ) × Leaf). t e.0) m) ≡ cond (t q) (leaf_at q m) None
leaf-filter t q [] = cond_same (t q) None
leaf-filter t q (e ∷ m) =
    filtered t q e.0 e.1 (filter (λ (x : List (List ℕ) × Leaf). t x.0) m) (t e.0) (same_path e.0 q) refl refl refl
    ∙ filter_case (t e.0) (same_path e.0 q) (t q) e.1 (leaf_at q (filter (λ (x : List (List ℕ) × Leaf). t x.0) m)) (leaf_at q m) (λ h. ap t (path_is e.0 q h)) (leaf-filter t q m)

pub past_first : (b : Bool) (l : Leaf) (x : Option Leaf) → cond b (Some l) x ≡ None → (b ≡ false) × (x ≡ None)
past_first true l x h = absurd cc
past_first false l x h = (refl, h)

swap_case : (a b : Bool) (k l : Leaf) (x : Option Leaf) → (a ≡ true → b ≡ true → ⊥) → cond a (Some k) (cond b (Some l) x) ≡ cond b (Some l) (cond a (Some k) x)
swap_case true true k l x h = absurd (h refl refl)
swap_case true false k l x h = refl
swap_case false b k l x h = refl

inserted_case : (b : Bool) (q p : List (List ℕ)) (l : Leaf) (e : List (List ℕ) × Leaf) (m m' : PathMap) → leaf_at p (e ∷ m) ≡ None → (leaf_at p m ≡ None → leaf_at q m' ≡ cond (same_path p q) (Some l) (leaf_at q m)) → leaf_at q (cond b (e ∷ m') ((p, l) ∷ e ∷ m)) ≡ cond (same_path p q) (Some l) (leaf_at q (e ∷ m))
inserted_case false q p l e m m' none h = refl
inserted_case true q p l e m m' none h =
    let o = past_first (same_path e.0 p) e.1 (leaf_at p m) none in
    ap (cond (same_path e.0 q) (Some e.1)) (h o.1) ∙ swap_case (same_path e.0 q) (same_path p q) e.1 l (leaf_at q m) (λ x y. let i = path_is e.0 q x in let j = path_is p q y in let k : e.0 ≡ p = cc in let z : same_path e.0 p ≡ true = rw k (path_self p) in let w = o.0 in absurd cc)

pub leaf-insert : (q p : List (List ℕ)) (l : Leaf) (m : PathMap) → leaf_at p m ≡ None → leaf_at q (insert_path p l m) ≡ cond (same_path p q) (Some l) (leaf_at q m)
leaf-insert q p l [] none = refl
leaf-insert q p l (e ∷ m) none = inserted_case (is_path_before e.0 p) q p l e m (insert_path p l m) none (leaf-insert q p l m)

-- ## How two paths stand to each other

pub data Meet (p q : List (List ℕ)) : Type 0 where
  Under : (r : List (List ℕ)) → q ≡ p ++ r → Meet p q
  Front : (c : List ℕ) (r : List (List ℕ)) → p ≡ q ++ c ∷ r → Meet p q
  Aside : (s : List (List ℕ)) (c d : List ℕ) (p' q' : List (List ℕ)) → c ≢ d → p ≡ s ++ c ∷ p' → q ≡ s ++ d ∷ q' → Meet p q

meet_case : (c d : List ℕ) (p q : List (List ℕ)) (b : Bool) → same c d ≡ b → Meet p q → Meet (c ∷ p) (d ∷ q)
meet_case c d p q false e m = Aside [] c d p q (λ is. let t : same c d ≡ true = rw is (same_self d) in absurd cc) refl refl
meet_case c d p q true e (Under r h) = let is = same_is c d e in let w : d ∷ q ≡ c ∷ (p ++ r) = cc in Under r w
meet_case c d p q true e (Front x r h) = let is = same_is c d e in let w : c ∷ p ≡ d ∷ (q ++ x ∷ r) = cc in Front x r w
meet_case c d p q true e (Aside s x y p' q' ne h k) = let is = same_is c d e in let v : c ∷ p ≡ c ∷ (s ++ x ∷ p') = cc in let w : d ∷ q ≡ c ∷ (s ++ y ∷ q') = cc in Aside (c ∷ s) x y p' q' ne v w

pub meet : (p q : List (List ℕ)) → Meet p q
meet [] q = Under q refl
meet (c ∷ p) [] = Front c p refl
meet (c ∷ p) (d ∷ q) = meet_case c d p q (same c d) refl (meet p q)

pub begins-more : (p r : List (List ℕ)) → begins p (p ++ r) ≡ true
begins-more [] r = refl
begins-more (c ∷ p) r = rw (same_self c, begins-more p r) refl

pub begins-front : (q : List (List ℕ)) (c : List ℕ) (r : List (List ℕ)) → begins (q ++ c ∷ r) q ≡ false
begins-front [] c r = refl
begins-front (d ∷ q) c r = rw (same_self d, begins-front q c r) refl

pub begins-aside : (s : List (List ℕ)) (c d : List ℕ) (p q : List (List ℕ)) → c ≢ d → begins (s ++ c ∷ p) (s ++ d ∷ q) ≡ false
begins-aside [] c d p q ne = let e = not_same c d ne in rw e refl
begins-aside (x ∷ s) c d p q ne = rw (same_self x, begins-aside s c d p q ne) refl

-- ## The laws

pub leaf-cleared : (p q : List (List ℕ)) (m : PathMap) → leaf_at q (cleared p m) ≡ cond (not (begins p q || begins q p)) (leaf_at q m) None
leaf-cleared p q m = leaf-filter (λ (x : List (List ℕ)). not (begins p x || begins x p)) q m

pub append_none : (p : List (List ℕ)) → p ++ [] ≡ p
append_none [] = refl
append_none (c ∷ p) = ap (λ (r : List (List ℕ)). c ∷ r) (append_none p)

pub found-append : (p r : List (List ℕ)) (y : Stands) → found (p ++ r) y ≡ found r (found p y)
found-append [] r y = refl
found-append (c ∷ p) r y = found-append p r (step c y)

nothing_under : (p r : List (List ℕ)) (y z : Stands) → found p y ≡ z → at (p ++ r) (deleted_where z p y) ≡ None
nothing_under p r y Nothing is = ap leaf_of (found-append p r y ∙ ap (found r) is ∙ found-nothing r)
nothing_under p r y (IsFile l) is = ap leaf_of (graft-under p r Nothing y ∙ found-nothing r)
nothing_under p r y (IsFolder g) is = ap leaf_of (graft-under p r Nothing y ∙ found-nothing r)

-- a leaf has nothing under it
no_leaf_front : (c : List ℕ) (r : List (List ℕ)) (x : Stands) → (found (c ∷ r) x ≡ Nothing → ⊥) → leaf_of x ≡ None
no_leaf_front c r Nothing some = refl
no_leaf_front c r (IsFile l) some = absurd (some (found-file c r l))
no_leaf_front c r (IsFolder g) some = refl

folder_front : (q : List (List ℕ)) (c : List ℕ) (r : List (List ℕ)) (y z : Stands) → found (q ++ c ∷ r) y ≡ z → at q y ≡ at q (deleted_where z (q ++ c ∷ r) y)
folder_front q c r y Nothing is = refl
folder_front q c r y (IsFile l) is = no_leaf_front c r (found q y) (λ e. let a = found-append q (c ∷ r) y in cc) ∙ sym (graft-front q c r Nothing y)
folder_front q c r y (IsFolder g) is = no_leaf_front c r (found q y) (λ e. let a = found-append q (c ∷ r) y in cc) ∙ sym (graft-front q c r Nothing y)

aside_either : (s : List (List ℕ)) (c d : List ℕ) (p q : List (List ℕ)) (y z : Stands) → c ≢ d → at (s ++ d ∷ q) (deleted_where z (s ++ c ∷ p) y) ≡ at (s ++ d ∷ q) y
aside_either s c d p q y Nothing ne = refl
aside_either s c d p q y (IsFile l) ne = ap leaf_of (graft-aside s c d p q Nothing y ne)
aside_either s c d p q y (IsFolder g) ne = ap leaf_of (graft-aside s c d p q Nothing y ne)

delete_meets : (p q : List (List ℕ)) (y z : Stands) (x : Option Leaf) → found p y ≡ z → Meet p q → x ≡ at q y → cond (not (begins p q)) x None ≡ at q (deleted_where z p y)
delete_meets p q y z x is (Under r e) h = rw (e, begins-more p r) (sym (nothing_under p r y z is))
delete_meets p q y z x is (Front c r e) h = rw (e, begins-front q c r) (h ∙ folder_front q c r y z (rw (← e) is))
delete_meets p q y z x is (Aside s c d p' q' ne e e') h = rw (e, e', begins-aside s c d p' q' ne) ((rw e' at h) ∙ sym (aside_either s c d p' q' y z ne))

-- Deleting in a folder is deleting in its map.
pub delete-is : (p q : List (List ℕ)) (f : Forest) → IsSound f → leaf_at q (delete p (flat f)) ≡ at q (deleted p (IsFolder f))
delete-is p q f s = leaf-filter (λ (x : List (List ℕ)). not (begins p x)) q (flat f) ∙ delete_meets p q (IsFolder f) (found p (IsFolder f)) (leaf_at q (flat f)) refl (meet p q) (map-at q f s)
