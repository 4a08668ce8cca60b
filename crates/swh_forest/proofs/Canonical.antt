-- A folder's map ascends, and maps that ascend and hold the same are the same list.
use Rattle.std.proofs.Common.{◌≡◌, ◌≢◌, ℕ, Bool, true, false, not, cond, List, [], ◌∷◌, ◌++◌, Option, Some, None, refl, sym, ap, ◌∙◌, inl, inr, ◌⊎◌}
use Rattle.std.specs.Prelude.{filter}
use Rattle.std.specs.Ordering.{nat_cmp, is_lt, ordering_then}
use Rattle.std.specs.Cmp.Lexicographic.{slice_cmp}
use Rattle.std.specs.declared.cmp.Ordering.{Ordering}
use Rattle.std.specs.declared.cmp.Ordering.TheVariants.{Less, Equal, Greater}
use Rattle.std.specs.List.{AllByRecursion}
use Rattle.std.proofs.lemmas.Cmp.{nat_list_cmp_total, lists_total}
use Rattle.std.proofs.lemmas.Map.Lookups.{exact_bytes}
use Rattle.swh_entries.specs.declared.entry.Leaf.{Leaf}
use Rattle.swh_forest.specs.Forest.{Forest, Bare, File, Folder, Stands, Nothing, IsFile, IsFolder, child_at, put, folder, forest, step, found, graft, deleted, deleted_where, at, flat}
use Rattle.swh_entries.specs.Keys.{is_before}
use Rattle.swh_forest.specs.Sound.{Follows, IsSound}
use Rattle.swh_forest.specs.PathMap.{PathMap, same_path, leaf_at, begins, keys, is_path_before, insert_path, delete}
use Rattle.swh_base.specs.Directory.{IsEntryName}
use Rattle.swh_forest.proofs.Flats.{under, HavePaths, paths-flat}
use Rattle.swh_forest.proofs.Lookups.{path_is, path_self, map-at, delete-is}
use Rattle.swh_forest.proofs.Sounds.{IsPlain, plain-of, before-trans, snoc-is, plain-end, forest-sound, into-sound}
use Rattle.std.proofs.lemmas.List.{append-nil}

less_path : (o : Ordering) → is_lt o ≡ true → o ≡ Less
less_path Less e = refl
less_path Equal e = absurd cc
less_path Greater e = absurd cc

-- each path comes before the later ones
abbrev pub Ascends : PathMap → Type 0
Ascends [] = Unit {0}
Ascends (e ∷ m) = AllByRecursion (λ (x : List (List ℕ) × Leaf). is_path_before e.0 x.0 ≡ true) m × Ascends m

path-trans : (p q r : List (List ℕ)) → is_path_before p q ≡ true → is_path_before q r ≡ true → is_path_before p r ≡ true
path-trans p q r a b = ap is_lt ((lists_total nat_list_cmp_total).trans (keys p) (keys q) (keys r) (less_path (slice_cmp (slice_cmp nat_cmp) (keys p) (keys q)) a) (less_path (slice_cmp (slice_cmp nat_cmp) (keys q) (keys r)) b))

never : (p : List (List ℕ)) → is_path_before p p ≡ true → ⊥
never p a =
    let e = less_path (slice_cmp (slice_cmp nat_cmp) (keys p) (keys p)) a in
    let t = (lists_total nat_list_cmp_total).antisymm (keys p) (keys p) in
    let bad : Less ≡ Greater = rw e at t in cc

-- what is held stands after what all come after
held-case : (b : Bool) (p q r : List (List ℕ)) (l k : Leaf) (x : Option Leaf) → same_path r q ≡ b → is_path_before p r ≡ true → (x ≡ Some k → is_path_before p q ≡ true) → cond b (Some l) x ≡ Some k → is_path_before p q ≡ true
held-case true p q r l k x e first more h = let is = path_is r q e in rw (← is) first
held-case false p q r l k x e first more h = more h

held-after : (p q : List (List ℕ)) (k : Leaf) (m : PathMap) → AllByRecursion (λ (x : List (List ℕ) × Leaf). is_path_before p x.0 ≡ true) m → leaf_at q m ≡ Some k → is_path_before p q ≡ true
held-after p q k [] all h = absurd cc
held-after p q k (e ∷ m) all h = held-case (same_path e.0 q) p q e.0 e.1 k (leaf_at q m) refl all.0 (held-after p q k m all.1) h

pub own-leaf : (e : List (List ℕ) × Leaf) (m : PathMap) → leaf_at e.0 (e ∷ m) ≡ Some e.1
own-leaf e m = rw (path_self e.0) refl

-- the first path of one is the first of the other
first_case : (b : Bool) (e f : List (List ℕ) × Leaf) (k : PathMap) → same_path f.0 e.0 ≡ b → AllByRecursion (λ (x : List (List ℕ) × Leaf). is_path_before f.0 x.0 ≡ true) k → cond b (Some f.1) (leaf_at e.0 k) ≡ Some e.1 → (f.0 ≡ e.0) ⊎ (is_path_before f.0 e.0 ≡ true)
first_case true e f k s all h = inl (path_is f.0 e.0 s)
first_case false e f k s all h = inr (held-after f.0 e.0 e.1 k all h)

none_case : (x : Option Leaf) → ((k : Leaf) → x ≡ Some k → ⊥) → x ≡ None
none_case None h = refl
none_case (Some k) h = absurd (h k refl)

pub not-later : (p : List (List ℕ)) (m : PathMap) → AllByRecursion (λ (x : List (List ℕ) × Leaf). is_path_before p x.0 ≡ true) m → leaf_at p m ≡ None
not-later p m all = none_case (leaf_at p m) (λ k h. never p (held-after p p k m all h))

rest_case : (b : Bool) (p q : List (List ℕ)) (l : Leaf) (m k : PathMap) → same_path p q ≡ b → leaf_at p m ≡ None → leaf_at p k ≡ None → cond b (Some l) (leaf_at q m) ≡ cond b (Some l) (leaf_at q k) → leaf_at q m ≡ leaf_at q k
rest_case true p q l m k e x y h = let is = path_is p q e in let x' : leaf_at q m ≡ None = rw (← is) x in let y' : leaf_at q k ≡ None = rw (← is) y in x' ∙ sym y'
rest_case false p q l m k e x y h = h

pair_is : (e f : List (List ℕ) × Leaf) → e.0 ≡ f.0 → e.1 ≡ f.1 → e ≡ f
pair_is e f p q =
    let A : List (List ℕ) → List (List ℕ) × Leaf = λ u. (u, e.1) in
    let B : Leaf → List (List ℕ) × Leaf = λ v. (f.0, v) in
    ap A p ∙ ap B q

-- Maps that ascend and hold the same are the same.
pub same-map : (m k : PathMap) → Ascends m → Ascends k → ((q : List (List ℕ)) → leaf_at q m ≡ leaf_at q k) → m ≡ k
same-map [] [] a b h = refl
same-map [] (f ∷ k) a b h = let g = h f.0 ∙ own-leaf f k in absurd cc
same-map (e ∷ m) [] a b h = let g = sym (h e.0) ∙ own-leaf e m in absurd cc
same-map (e ∷ m) (f ∷ k) a b h =
    let one = first_case (same_path f.0 e.0) e f k refl b.0 (sym (h e.0) ∙ own-leaf e m) in
    let two = first_case (same_path e.0 f.0) f e m refl a.0 (h f.0 ∙ own-leaf f k) in
    let path : e.0 ≡ f.0 = elim one [
      | inl is ↦ sym is
      | inr late ↦ elim two [ inl is ↦ is | inr late' ↦ absurd (never e.0 (path-trans e.0 f.0 e.0 late' late)) ]
    ] in
    let leaf : Some e.1 ≡ Some f.1 = sym (own-leaf e m) ∙ h e.0 ∙ ap (λ (q : List (List ℕ)). leaf_at q (f ∷ k)) path ∙ own-leaf f k in
    let value : e.1 ≡ f.1 = cc in
    let own : e ≡ f = pair_is e f path value in
    let none : leaf_at e.0 k ≡ None = rw path (not-later f.0 k b.0) in
    let rest = same-map m k a.1 b.1 (λ q. rest_case (same_path e.0 q) e.0 q e.1 m k refl (not-later e.0 m a.0) none (h q ∙ ap (λ (x : List (List ℕ) × Leaf). leaf_at q (x ∷ k)) (sym own))) in
    cc

-- ## A folder's map ascends

self_cmp : (k : List ℕ) (o : Ordering) → slice_cmp nat_cmp k k ≡ o → o ≡ Equal
self_cmp k Less e = let t = nat_list_cmp_total.antisymm k k in absurd (let bad : Less ≡ Greater = rw e at t in cc)
self_cmp k Equal e = refl
self_cmp k Greater e = let t = nat_list_cmp_total.antisymm k k in absurd (let bad : Greater ≡ Less = rw e at t in cc)

under-before : (n : List ℕ) (p q : List (List ℕ)) → p ≢ [] → q ≢ [] → is_path_before p q ≡ true → is_path_before (n ∷ p) (n ∷ q) ≡ true
under-before n [] q np nq h = absurd (np refl)
under-before n (c ∷ p) [] np nq h = absurd (nq refl)
under-before n (c ∷ p) (d ∷ q) np nq h = let s = self_cmp (n ++ 47 ∷ []) (slice_cmp nat_cmp (n ++ 47 ∷ []) (n ++ 47 ∷ [])) refl in rw s h

all-under : (n : List ℕ) (p : List (List ℕ)) (m : PathMap) → p ≢ [] → HavePaths m → AllByRecursion (λ (x : List (List ℕ) × Leaf). is_path_before p x.0 ≡ true) m → AllByRecursion (λ (x : List (List ℕ) × Leaf). is_path_before (n ∷ p) x.0 ≡ true) (under n m)
all-under n p [] np h all = tt
all-under n p (e ∷ m) np h all = (under-before n p e.0 np h.0 all.0, all-under n p m np h.1 all.1)

-- the first key of a path
abbrev pub lead : List (List ℕ) → List ℕ
lead [] = []
lead (c ∷ []) = c ++ []
lead (c ∷ d ∷ p) = c ++ 47 ∷ []

abbrev pub AllBehind : List ℕ → PathMap → Type 0
AllBehind k m = AllByRecursion (λ (x : List (List ℕ) × Leaf). is_before k (lead x.0) ≡ true) m

lead-under : (n : List ℕ) (p : List (List ℕ)) → p ≢ [] → lead (n ∷ p) ≡ n ++ 47 ∷ []
lead-under n [] ne = absurd (ne refl)
lead-under n (c ∷ p) ne = refl

lead-before : (p q : List (List ℕ)) → p ≢ [] → q ≢ [] → is_before (lead p) (lead q) ≡ true → is_path_before p q ≡ true
lead-before [] q np nq h = absurd (np refl)
lead-before (c ∷ p) [] np nq h = absurd (nq refl)
lead-before (c ∷ []) (d ∷ []) np nq h = let l = less_path (slice_cmp nat_cmp (c ++ []) (d ++ [])) h in rw l refl
lead-before (c ∷ []) (d ∷ y ∷ q) np nq h = let l = less_path (slice_cmp nat_cmp (c ++ []) (d ++ 47 ∷ [])) h in rw l refl
lead-before (c ∷ x ∷ p) (d ∷ []) np nq h = let l = less_path (slice_cmp nat_cmp (c ++ 47 ∷ []) (d ++ [])) h in rw l refl
lead-before (c ∷ x ∷ p) (d ∷ y ∷ q) np nq h = let l = less_path (slice_cmp nat_cmp (c ++ 47 ∷ []) (d ++ 47 ∷ [])) h in rw l refl

behind-append : (k : List ℕ) (m r : PathMap) → AllBehind k m → AllBehind k r → AllBehind k (m ++ r)
behind-append k [] r h h' = h'
behind-append k (e ∷ m) r h h' = (h.0, behind-append k m r h.1 h')

behind-under : (k n : List ℕ) (m : PathMap) → is_before k (n ++ 47 ∷ []) ≡ true → HavePaths m → AllBehind k (under n m)
behind-under k n [] b h = tt
behind-under k n (e ∷ m) b h = (rw (lead-under n e.0 h.0) b, behind-under k n m b h.1)

follow_on : (k j : List ℕ) (f : Forest) → is_before k j ≡ true → Follows j f → Follows k f
follow_on k j Bare p h = tt
follow_on k j (File n l f) p h = before-trans k j (n ++ []) p h
follow_on k j (Folder n g f) p h = before-trans k j (n ++ 47 ∷ []) p h

behind : (k : List ℕ) (f : Forest) → Follows k f → IsSound f → AllBehind k (flat f)
behind k Bare h s = tt
behind k (File n l f) h s = (h, behind k f (follow_on k (n ++ []) f h s.3) s.4)
behind k (Folder n g f) h s = behind-append k (under n (flat g)) (flat f) (behind-under k n (flat g) h (paths-flat g)) (behind k f (follow_on k (n ++ 47 ∷ []) f h s.4) s.5)

after-all : (p : List (List ℕ)) (k : List ℕ) (m : PathMap) → p ≢ [] → lead p ≡ k → HavePaths m → AllBehind k m → AllByRecursion (λ (x : List (List ℕ) × Leaf). is_path_before p x.0 ≡ true) m
after-all p k [] np e h b = tt
after-all p k (x ∷ m) np e h b = (lead-before p x.0 np h.0 (rw e b.0), after-all p k m np e h.1 b.1)

all-append : (p : List (List ℕ)) (m r : PathMap) → AllByRecursion (λ (x : List (List ℕ) × Leaf). is_path_before p x.0 ≡ true) m → AllByRecursion (λ (x : List (List ℕ) × Leaf). is_path_before p x.0 ≡ true) r → AllByRecursion (λ (x : List (List ℕ) × Leaf). is_path_before p x.0 ≡ true) (m ++ r)
all-append p [] r h h' = h'
all-append p (e ∷ m) r h h' = (h.0, all-append p m r h.1 h')

join-ascends : (n : List ℕ) (m r : PathMap) → HavePaths m → Ascends m → HavePaths r → AllBehind (n ++ 47 ∷ []) r → Ascends r → Ascends (under n m ++ r)
join-ascends n [] r hm am hr b ar = ar
join-ascends n (e ∷ m) r hm am hr b ar =
    (all-append (n ∷ e.0) (under n m) r (all-under n e.0 m hm.0 hm.1 am.0) (after-all (n ∷ e.0) (n ++ 47 ∷ []) r (λ z. cc) (lead-under n e.0 hm.0) hr b), join-ascends n m r hm.1 am.1 hr b ar)

pub ascends : (f : Forest) → IsSound f → Ascends (flat f)
ascends Bare s = tt
ascends (File n l f) s = (after-all (n ∷ []) (n ++ []) (flat f) (λ z. cc) refl (paths-flat f) (behind (n ++ []) f s.3 s.4), ascends f s.4)
ascends (Folder n g f) s = join-ascends n (flat g) (flat f) (paths-flat g) (ascends g s.2) (paths-flat f) (behind (n ++ 47 ∷ []) f s.4 s.5) (ascends f s.5)

-- ## Setting and deleting keep the order

abbrev pub ArePlain : PathMap → Type 0
ArePlain m = AllByRecursion (λ (x : List (List ℕ) × Leaf). AllByRecursion IsPlain x.0) m

pub plain-append : (m r : PathMap) → ArePlain m → ArePlain r → ArePlain (m ++ r)
plain-append [] r h h' = h'
plain-append (e ∷ m) r h h' = (h.0, plain-append m r h.1 h')

plain-under : (n : List ℕ) (m : PathMap) → IsPlain n → ArePlain m → ArePlain (under n m)
plain-under n [] p h = tt
plain-under n (e ∷ m) p h = ((p, h.0), plain-under n m p h.1)

pub plain-flat : (f : Forest) → IsSound f → ArePlain (flat f)
plain-flat Bare s = tt
plain-flat (File n l f) s = ((plain-of n s.0, tt), plain-flat f s.4)
plain-flat (Folder n g f) s = plain-append (under n (flat g)) (flat f) (plain-under n (flat g) (plain-of n s.0) (plain-flat g s.2)) (plain-flat f s.5)

keys-some : (c : List ℕ) (p : List (List ℕ)) → keys (c ∷ p) ≢ []
keys-some c [] e = cc
keys-some c (d ∷ p) e = cc

pub keys-is : (p q : List (List ℕ)) → AllByRecursion IsPlain p → AllByRecursion IsPlain q → keys p ≡ keys q → p ≡ q
keys-is [] [] h k e = refl
keys-is [] (d ∷ q) h k e = absurd (keys-some d q (sym e))
keys-is (c ∷ p) [] h k e = absurd (keys-some c p e)
keys-is (c ∷ []) (d ∷ []) h k e = let w : c ++ [] ≡ d ++ [] = cc in let is : c ≡ d = sym (append-nil c) ∙ w ∙ append-nil d in cc
keys-is (c ∷ []) (d ∷ y ∷ q) h k e = let w : c ++ [] ≡ d ++ 47 ∷ [] = cc in absurd (plain-end c d h.0 (sym (append-nil c) ∙ w))
keys-is (c ∷ x ∷ p) (d ∷ []) h k e = let w : d ++ [] ≡ c ++ 47 ∷ [] = cc in absurd (plain-end d c k.0 (sym (append-nil d) ∙ w))
keys-is (c ∷ x ∷ p) (d ∷ y ∷ q) h k e =
    let w : c ++ 47 ∷ [] ≡ d ++ 47 ∷ [] = cc in
    let v : keys (x ∷ p) ≡ keys (y ∷ q) = cc in
    let is = snoc-is c d w h.0 k.0 in
    let rest = keys-is (x ∷ p) (y ∷ q) h.1 k.1 v in cc

exact_case : (x y : List ℕ) (a b : List (List ℕ)) (o : Ordering) → slice_cmp nat_cmp x y ≡ o → ordering_then o (slice_cmp (slice_cmp nat_cmp) a b) ≡ Equal → (slice_cmp (slice_cmp nat_cmp) a b ≡ Equal → a ≡ b) → x ∷ a ≡ y ∷ b
exact_case x y a b Less e h ih = absurd cc
exact_case x y a b Equal e h ih = let is = exact_bytes x y e in let rest = ih h in cc
exact_case x y a b Greater e h ih = absurd cc

exact-keys : (a b : List (List ℕ)) → slice_cmp (slice_cmp nat_cmp) a b ≡ Equal → a ≡ b
exact-keys [] [] e = refl
exact-keys [] (y ∷ b) e = absurd cc
exact-keys (x ∷ a) [] e = absurd cc
exact-keys (x ∷ a) (y ∷ b) e = exact_case x y a b (slice_cmp nat_cmp x y) refl e (exact-keys a b)

path_turn : (a b : List (List ℕ)) (o o' : Ordering) → slice_cmp (slice_cmp nat_cmp) a b ≡ o → slice_cmp (slice_cmp nat_cmp) b a ≡ o' → is_lt o ≡ false → a ≢ b → is_lt o' ≡ true
path_turn a b Less o' e e' h ne = absurd cc
path_turn a b Equal o' e e' h ne = absurd (ne (exact-keys a b e))
path_turn a b Greater Less e e' h ne = refl
path_turn a b Greater Equal e e' h ne = absurd (ne (sym (exact-keys b a e')))
path_turn a b Greater Greater e e' h ne = let t = (lists_total nat_list_cmp_total).antisymm a b in absurd (let bad : Greater ≡ Less = rw (e, e') at t in cc)

-- of two different paths one comes first
pub path-other : (p q : List (List ℕ)) → AllByRecursion IsPlain p → AllByRecursion IsPlain q → p ≢ q → is_path_before p q ≡ false → is_path_before q p ≡ true
path-other p q h k ne b = path_turn (keys p) (keys q) (slice_cmp (slice_cmp nat_cmp) (keys p) (keys q)) (slice_cmp (slice_cmp nat_cmp) (keys q) (keys p)) refl refl b (λ e. ne (keys-is p q h k e))

abbrev pub AreOther : List (List ℕ) → PathMap → Type 0
AreOther p m = AllByRecursion (λ (x : List (List ℕ) × Leaf). is_path_before x.0 p ≡ false → is_path_before p x.0 ≡ true) m

later-of : (p q : List (List ℕ)) (m : PathMap) → is_path_before p q ≡ true → AllByRecursion (λ (x : List (List ℕ) × Leaf). is_path_before q x.0 ≡ true) m → AllByRecursion (λ (x : List (List ℕ) × Leaf). is_path_before p x.0 ≡ true) m
later-of p q [] b h = tt
later-of p q (x ∷ m) b h = (path-trans p q x.0 b h.0, later-of p q m b h.1)

insert_all : (b : Bool) (q p : List (List ℕ)) (l : Leaf) (e : List (List ℕ) × Leaf) (m m' : PathMap) → is_path_before q p ≡ true → is_path_before q e.0 ≡ true → AllByRecursion (λ (x : List (List ℕ) × Leaf). is_path_before q x.0 ≡ true) m → AllByRecursion (λ (x : List (List ℕ) × Leaf). is_path_before q x.0 ≡ true) m' → AllByRecursion (λ (x : List (List ℕ) × Leaf). is_path_before q x.0 ≡ true) (cond b (e ∷ m') ((p, l) ∷ e ∷ m))
insert_all true q p l e m m' hp he h h' = (he, h')
insert_all false q p l e m m' hp he h h' = (hp, (he, h))

insert-all : (q p : List (List ℕ)) (l : Leaf) (m : PathMap) → is_path_before q p ≡ true → AllByRecursion (λ (x : List (List ℕ) × Leaf). is_path_before q x.0 ≡ true) m → AllByRecursion (λ (x : List (List ℕ) × Leaf). is_path_before q x.0 ≡ true) (insert_path p l m)
insert-all q p l [] hp h = (hp, tt)
insert-all q p l (e ∷ m) hp h = insert_all (is_path_before e.0 p) q p l e m (insert_path p l m) hp h.0 h.1 (insert-all q p l m hp h.1)

insert_case : (b : Bool) (p : List (List ℕ)) (l : Leaf) (e : List (List ℕ) × Leaf) (m m' : PathMap) → is_path_before e.0 p ≡ b → Ascends (e ∷ m) → (is_path_before e.0 p ≡ false → is_path_before p e.0 ≡ true) → (is_path_before e.0 p ≡ true → Ascends (e ∷ m')) → Ascends (cond b (e ∷ m') ((p, l) ∷ e ∷ m))
insert_case true p l e m m' is a o h = h is
insert_case false p l e m m' is a o h = ((o is, later-of p e.0 m (o is) a.0), a)

pub insert-ascends : (p : List (List ℕ)) (l : Leaf) (m : PathMap) → Ascends m → AreOther p m → Ascends (insert_path p l m)
insert-ascends p l [] a o = (tt, tt)
insert-ascends p l (e ∷ m) a o = insert_case (is_path_before e.0 p) p l e m (insert_path p l m) refl a o.0 (λ b. (insert-all e.0 p l m b a.0, insert-ascends p l m a.1 o.1))

all_cond : (b : Bool) (q : List (List ℕ)) (e : List (List ℕ) × Leaf) (m : PathMap) → is_path_before q e.0 ≡ true → AllByRecursion (λ (x : List (List ℕ) × Leaf). is_path_before q x.0 ≡ true) m → AllByRecursion (λ (x : List (List ℕ) × Leaf). is_path_before q x.0 ≡ true) (cond b (e ∷ m) m)
all_cond true q e m h h' = (h, h')
all_cond false q e m h h' = h'

ascends_cond : (b : Bool) (e : List (List ℕ) × Leaf) (m : PathMap) → AllByRecursion (λ (x : List (List ℕ) × Leaf). is_path_before e.0 x.0 ≡ true) m → Ascends m → Ascends (cond b (e ∷ m) m)
ascends_cond true e m h a = (h, a)
ascends_cond false e m h a = a

filter_all : (q : List (List ℕ)) (t : List (List ℕ) → Bool) (m : PathMap) → AllByRecursion (λ (x : List (List ℕ) × Leaf). is_path_before q x.0 ≡ true) m → AllByRecursion (λ (x : List (List ℕ) × Leaf). is_path_before q x.0 ≡ true) (filter (λ (e : List (List ℕ) × Leaf). t e.0) m)
filter_all q t [] h = tt
filter_all q t (e ∷ m) h = all_cond (t e.0) q e (filter (λ (x : List (List ℕ) × Leaf). t x.0) m) h.0 (filter_all q t m h.1)

pub filter-ascends : (t : List (List ℕ) → Bool) (m : PathMap) → Ascends m → Ascends (filter (λ (e : List (List ℕ) × Leaf). t e.0) m)
filter-ascends t [] a = tt
filter-ascends t (e ∷ m) a = ascends_cond (t e.0) e (filter (λ (x : List (List ℕ) × Leaf). t x.0) m) (filter_all e.0 t m a.0) (filter-ascends t m a.1)

-- ## The laws of the map

pub leaf-forest : (q : List (List ℕ)) (f : Forest) → at q (IsFolder (forest (folder f))) ≡ at q (folder f)
leaf-forest [] Bare = refl
leaf-forest [] (File n l f) = refl
leaf-forest [] (Folder n g f) = refl
leaf-forest (c ∷ q) Bare = refl
leaf-forest (c ∷ q) (File n l f) = refl
leaf-forest (c ∷ q) (Folder n g f) = refl

pub deleted-sound : (c : List ℕ) (p : List (List ℕ)) (y z : Stands) → AllByRecursion IsEntryName (c ∷ p) → IsSound (forest y) → IsSound (forest (deleted_where z (c ∷ p) y))
deleted-sound c p y Nothing plain s = s
deleted-sound c p y (IsFile l) plain s = forest-sound (graft (c ∷ p) Nothing y) (into-sound c p Nothing y plain tt s)
deleted-sound c p y (IsFolder g) plain s = forest-sound (graft (c ∷ p) Nothing y) (into-sound c p Nothing y plain tt s)

leaf-deleted : (q : List (List ℕ)) (c : List ℕ) (p : List (List ℕ)) (y z : Stands) → at q (IsFolder (forest (deleted_where z (c ∷ p) y))) ≡ at q (deleted_where z (c ∷ p) (IsFolder (forest y)))
leaf-deleted q c p y Nothing = refl
leaf-deleted q c p y (IsFile l) = leaf-forest q (put c (graft p Nothing (step c y)) (forest y))
leaf-deleted q c p y (IsFolder g) = leaf-forest q (put c (graft p Nothing (step c y)) (forest y))

pub delete-here : (p : List (List ℕ)) (y : Stands) → p ≢ [] → AllByRecursion IsEntryName p → IsSound (forest y) → flat (forest (deleted p y)) ≡ delete p (flat (forest y))
delete-here [] y ne plain s = absurd (ne refl)
delete-here (c ∷ p) y ne plain s =
    let z : Stands = found p (child_at c (forest y)) in
    let sound : IsSound (forest (deleted_where z (c ∷ p) y)) = deleted-sound c p y z plain s in
    same-map (flat (forest (deleted_where z (c ∷ p) y))) (delete (c ∷ p) (flat (forest y))) (ascends (forest (deleted_where z (c ∷ p) y)) sound)
    (filter-ascends (λ (q : List (List ℕ)). not (begins (c ∷ p) q)) (flat (forest y)) (ascends (forest y) s))
    (λ q. map-at q (forest (deleted_where z (c ∷ p) y)) sound ∙ leaf-deleted q c p y z ∙ sym (delete-is (c ∷ p) q (forest y) s))
