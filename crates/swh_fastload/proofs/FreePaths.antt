-- Maps in which no path begins another.
use Rattle.std.proofs.Common.{◌≡◌, ◌≢◌, ◌⊎◌, inl, inr, ℕ, Bool, true, false, not, cond, Some, List, [], ◌∷◌, ◌++◌, Contains, refl, sym, ap, ◌∙◌, subst}
use Rattle.std.specs.Prelude.{filter, ◌&&◌, ◌||◌}
use Rattle.std.proofs.lemmas.List.{append-nil}
use Rattle.swh_entries.specs.declared.entry.Leaf.{Leaf}
use Rattle.swh_forest.specs.PathMap.{PathMap, same, same_path, leaf_at, begins, is_path_before, insert_path, cleared, set, delete, rest_beside, held_by, held, insert_under, put_held, copy, rename, HasFolder}
use Rattle.swh_forest.proofs.Grafts.{same_is, same_self}
use Rattle.swh_forest.proofs.Lookups.{path_is, begins-more}
use Rattle.swh_fastmeaning.specs.Stock.{IsFree}
use Rattle.swh_dedup.proofs.Elements.{first_or_later, first_is, later_is, none_is}

abbrev File : Type 0
File = List (List ℕ) × Leaf

abbrev file : List (List ℕ) → Leaf → File
file p l = (p, l)

both_true : (a b : Bool) → a && b ≡ true → (a ≡ true) × (b ≡ true)
both_true true b h = (refl, h)
both_true false b h = absurd cc

neither : (a b : Bool) → not (a || b) ≡ true → (a ≡ false) × (b ≡ false)
neither true b h = absurd cc
neither false true h = absurd cc
neither false false h = (refl, refl)

clash : (b : Bool) → b ≡ true → b ≡ false → ⊥
clash b t f = cc

kept : (test : File → Bool) (m : PathMap) (e : File) → Contains (filter test m) e → Contains m e × (test e ≡ true)
kept test [] e c = absurd (none_is e c)
kept test (f ∷ m) e c = by_test (test f) refl c (kept test m e)
  where
    by_place : test f ≡ true → (f ≡ e) ⊎ Contains (filter test m) e → (Contains (filter test m) e → Contains m e × (test e ≡ true)) → Contains (f ∷ m) e × (test e ≡ true)
    by_place t (inl s) k = (subst (Contains (f ∷ m)) s (first_is f m), ap test (sym s) ∙ t)
    by_place t (inr d) k = let r = k d in (later_is f m e r.0, r.1)

    by_test : (b : Bool) → test f ≡ b → Contains (cond b (f ∷ filter test m) (filter test m)) e → (Contains (filter test m) e → Contains m e × (test e ≡ true)) → Contains (f ∷ m) e × (test e ≡ true)
    by_test true t d k = by_place t (first_or_later f (filter test m) e d) k
    by_test false t d k = let r = k d in (later_is f m e r.0, r.1)

placed : (p : List (List ℕ)) (l : Leaf) (m : PathMap) (e : File) → Contains (insert_path p l m) e → (file p l ≡ e) ⊎ Contains m e
placed p l [] e c = first_or_later (p, l) [] e c
placed p l (f ∷ m) e c = by_test (is_path_before f.0 p) c (placed p l m e)
  where
    later : (file p l ≡ e) ⊎ Contains m e → (file p l ≡ e) ⊎ Contains (f ∷ m) e
    later (inl s) = inl s
    later (inr d) = inr (later_is f m e d)

    by_place : (f ≡ e) ⊎ Contains (insert_path p l m) e → (Contains (insert_path p l m) e → (file p l ≡ e) ⊎ Contains m e) → (file p l ≡ e) ⊎ Contains (f ∷ m) e
    by_place (inl s) k = inr (subst (Contains (f ∷ m)) s (first_is f m))
    by_place (inr d) k = later (k d)

    by_test : (b : Bool) → Contains (cond b (f ∷ insert_path p l m) ((p, l) ∷ f ∷ m)) e → (Contains (insert_path p l m) e → (file p l ≡ e) ⊎ Contains m e) → (file p l ≡ e) ⊎ Contains (f ∷ m) e
    by_test true d k = by_place (first_or_later f (insert_path p l m) e d) k
    by_test false d k = first_or_later (p, l) (f ∷ m) e d

-- ## Fronts of paths

front_of_more : (p q r : List (List ℕ)) → begins (p ++ q) r ≡ true → begins p r ≡ true
front_of_more [] q r h = refl
front_of_more (c ∷ p) q [] h = absurd cc
front_of_more (c ∷ p) q (d ∷ r) h =
    let b = both_true (same c d) (begins (p ++ q) r) h in
    let more = front_of_more p q r b.1 in
    ap (λ (t : Bool). t && begins p r) b.0 ∙ more

comparable : (e p q : List (List ℕ)) → begins e (p ++ q) ≡ true → (begins e p ≡ true) ⊎ (begins p e ≡ true)
comparable [] p q h = inl refl
comparable (c ∷ e) [] q h = inr refl
comparable (c ∷ e) (d ∷ p) q h = by_rest (both_true (same c d) (begins e (p ++ q)) h) (comparable e p q)
  where
    by_more : same c d ≡ true → (begins e p ≡ true) ⊎ (begins p e ≡ true) → (begins (c ∷ e) (d ∷ p) ≡ true) ⊎ (begins (d ∷ p) (c ∷ e) ≡ true)
    by_more s (inl t) = inl (ap (λ (b : Bool). b && begins e p) s ∙ t)
    by_more s (inr t) = inr (ap (λ (x : List ℕ). same d x && begins p e) (same_is c d s) ∙ ap (λ (b : Bool). b && begins p e) (same_self d) ∙ t)

    by_rest : (same c d ≡ true) × (begins e (p ++ q) ≡ true) → (begins e (p ++ q) ≡ true → (begins e p ≡ true) ⊎ (begins p e ≡ true)) → (begins (c ∷ e) (d ∷ p) ≡ true) ⊎ (begins (d ∷ p) (c ∷ e) ≡ true)
    by_rest b k = by_more b.0 (k b.1)

behind_front : (p q r : List (List ℕ)) → begins (p ++ q) (p ++ r) ≡ true → begins q r ≡ true
behind_front [] q r h = h
behind_front (c ∷ p) q r h = behind_front p q r (both_true (same c c) (begins (p ++ q) (p ++ r)) h).1

cancel_front : (p q r : List (List ℕ)) → p ++ q ≡ p ++ r → q ≡ r
cancel_front [] q r e = e
cancel_front (c ∷ p) q r e = let f : p ++ q ≡ p ++ r = cc in cancel_front p q r f

-- ## What is held at a path

held_from_name : (c : List ℕ) (m : PathMap) (q : List (List ℕ)) (l : Leaf) → Contains (held_by c m) (q, l) → Contains m (c ∷ q, l)
held_from_name c [] q l i = absurd (none_is (q, l) i)
held_from_name c ((p, k) ∷ m) q l i = by_path p i (held_from_name c m q l)
  where
    by_path : (p : List (List ℕ)) → Contains (rest_beside c p k (held_by c m)) (q, l) → (Contains (held_by c m) (q, l) → Contains m (c ∷ q, l)) → Contains ((p, k) ∷ m) (c ∷ q, l)
    by_path [] i more = later_is ([], k) m (c ∷ q, l) (more i)
    by_path (d ∷ p) i more = by_test (same d c) refl i
      where
        by_place : same d c ≡ true → (file p k ≡ file q l) ⊎ Contains (held_by c m) (q, l) → Contains ((d ∷ p, k) ∷ m) (c ∷ q, l)
        by_place t (inl s) =
            let whole : file (d ∷ p) k ≡ file (c ∷ q) l = ap (λ (x : List ℕ). let f : File = (x ∷ p, k) in f) (same_is d c t) ∙ ap (λ (f : File). let g : File = (c ∷ f.0, f.1) in g) s in
            subst (Contains ((d ∷ p, k) ∷ m)) whole (first_is (d ∷ p, k) m)
        by_place t (inr e) = later_is (d ∷ p, k) m (c ∷ q, l) (more e)

        by_test : (b : Bool) → same d c ≡ b → Contains (cond b ((p, k) ∷ held_by c m) (held_by c m)) (q, l) → Contains ((d ∷ p, k) ∷ m) (c ∷ q, l)
        by_test true t e = by_place t (first_or_later (p, k) (held_by c m) (q, l) e)
        by_test false t e = later_is (d ∷ p, k) m (c ∷ q, l) (more e)

held_from : (p : List (List ℕ)) (m : PathMap) (q : List (List ℕ)) (l : Leaf) → Contains (held p m) (q, l) → Contains m (p ++ q, l)
held_from [] m q l i = i
held_from (c ∷ p) m q l i = held_from_name c m (p ++ q) l (held_from p (held_by c m) q l i)

pub held_free : (p : List (List ℕ)) (m : PathMap) → IsFree m → IsFree (held p m)
held_free p m f q r k l i j b = cancel_front p q r (f (p ++ q) (p ++ r) k l (held_from p m q k i) (held_from p m r l j) (again p q r b))
  where
    again : (p q r : List (List ℕ)) → begins q r ≡ true → begins (p ++ q) (p ++ r) ≡ true
    again [] q r b = b
    again (c ∷ p) q r b = ap (λ (t : Bool). t && begins (p ++ q) (p ++ r)) (same_self c) ∙ again p q r b

found_there : (p : List (List ℕ)) (l : Leaf) (m : PathMap) → leaf_at p m ≡ Some l → Contains m (p, l)
found_there p l [] e = absurd cc
found_there p l (f ∷ m) e = by_test (same_path f.0 p) refl e (found_there p l m)
  where
    by_test : (b : Bool) → same_path f.0 p ≡ b → cond b (Some f.1) (leaf_at p m) ≡ Some l → (leaf_at p m ≡ Some l → Contains m (p, l)) → Contains (f ∷ m) (p, l)
    by_test true t q k =
        let s : f.1 ≡ l = cc in
        subst (Contains (f ∷ m)) (ap (λ (x : List (List ℕ)). let g : File = (x, f.1) in g) (path_is f.0 p t) ∙ ap (λ (x : Leaf). let g : File = (p, x) in g) s) (first_is f m)
    by_test false t q k = later_is f m (p, l) (k q)

not_longer : (p : List (List ℕ)) (c : List ℕ) (q : List (List ℕ)) → p ≡ p ++ c ∷ q → ⊥
not_longer p c q e = let f = cancel_front p [] (c ∷ q) (append-nil p ∙ e) in cc

-- a folder holds no file at its own place
pub folder_paths : (p : List (List ℕ)) (m : PathMap) → IsFree m → HasFolder m p → ((e : File) → Contains m e → e.0 ≢ []) → (e : File) → Contains (held p m) e → e.0 ≢ []
folder_paths [] m f h some e i = some e i
folder_paths (d ∷ p) m f (c, q, l, there) some (r, k) i = by_path r i
  where
    by_path : (r : List (List ℕ)) → Contains (held (d ∷ p) m) (r, k) → r ≢ []
    by_path r i s =
        let here : Contains m (d ∷ p, k) = subst (λ (x : List (List ℕ)). Contains m (x, k)) (ap (λ (x : List (List ℕ)). (d ∷ p) ++ x) s ∙ append-nil (d ∷ p)) (held_from (d ∷ p) m r k i) in
        not_longer (d ∷ p) c q (f (d ∷ p) ((d ∷ p) ++ c ∷ q) k l here (found_there ((d ∷ p) ++ c ∷ q) l m there) (begins-more (d ∷ p) (c ∷ q)))

-- ## What changes make

filtered_free : (test : File → Bool) (m : PathMap) → IsFree m → IsFree (filter test m)
filtered_free test m f p q k l i j b = f p q k l (kept test m (p, k) i).0 (kept test m (q, l) j).0 b

path_of : (p q : List (List ℕ)) (k l : Leaf) → file p k ≡ file q l → p ≡ q
path_of p q k l e = ap (λ (f : File). f.0) e

-- No path of the map begins the path, nor does the path begin one.
abbrev IsApart : List (List ℕ) → PathMap → Type 0
IsApart p m = (q : List (List ℕ)) (l : Leaf) → Contains m (q, l) → (begins p q ≡ false) × (begins q p ≡ false)

apart : (p : List (List ℕ)) (m : PathMap) → IsApart p (cleared p m)
apart p m q l i = neither (begins p q) (begins q p) (kept (λ e. not (begins p e.0 || begins e.0 p)) m (q, l) i).1

inserted_free : (p : List (List ℕ)) (x : Leaf) (m : PathMap) → IsFree m → IsApart p m → IsFree (insert_path p x m)
inserted_free p x m f a q r k l i j b = by_places (placed p x m (q, k) i) (placed p x m (r, l) j)
  where
    by_places : (file p x ≡ file q k) ⊎ Contains m (q, k) → (file p x ≡ file r l) ⊎ Contains m (r, l) → q ≡ r
    by_places (inl s) (inl t) = sym (path_of p q x k s) ∙ path_of p r x l t
    by_places (inl s) (inr j) = absurd (clash (begins p r) (ap (λ (y : List (List ℕ)). begins y r) (path_of p q x k s) ∙ b) (a r l j).0)
    by_places (inr i) (inl t) = absurd (clash (begins q p) (ap (begins q) (path_of p r x l t) ∙ b) (a q k i).1)
    by_places (inr i) (inr j) = f q r k l i j b

-- what stands under a path after all that is held is put there: what is held, or what stood there
under_from : (p : List (List ℕ)) (h m : PathMap) (q : List (List ℕ)) (l : Leaf) → Contains (insert_under p h m) (q, l) → ((r : List (List ℕ)) × Contains h (r, l) × (q ≡ p ++ r)) ⊎ Contains m (q, l)
under_from p [] m q l i = inr i
under_from p (e ∷ h) m q l i = by_place (placed (p ++ e.0) e.1 (insert_under p h m) (q, l) i) (under_from p h m q l)
  where
    later : ((r : List (List ℕ)) × Contains h (r, l) × (q ≡ p ++ r)) ⊎ Contains m (q, l) → ((r : List (List ℕ)) × Contains (e ∷ h) (r, l) × (q ≡ p ++ r)) ⊎ Contains m (q, l)
    later (inl s) = inl (s.0, later_is e h (s.0, l) s.1, s.2)
    later (inr i) = inr i

    by_place : (file (p ++ e.0) e.1 ≡ file q l) ⊎ Contains (insert_under p h m) (q, l) → (Contains (insert_under p h m) (q, l) → ((r : List (List ℕ)) × Contains h (r, l) × (q ≡ p ++ r)) ⊎ Contains m (q, l))
        → ((r : List (List ℕ)) × Contains (e ∷ h) (r, l) × (q ≡ p ++ r)) ⊎ Contains m (q, l)
    by_place (inl s) k = inl (e.0, subst (λ (x : Leaf). Contains (e ∷ h) (e.0, x)) (ap (λ (f : File). f.1) s) (first_is e h), sym (ap (λ (f : File). f.0) s))
    by_place (inr i) k = later (k i)

put_free : (p : List (List ℕ)) (h m : PathMap) → IsFree h → IsFree m → IsFree (put_held p h m)
put_free p h m g f q r k l i j b = by_places (under_from p h (cleared p m) q k i) (under_from p h (cleared p m) r l j)
  where
    here : IsFree (cleared p m)
    here = filtered_free (λ e. not (begins p e.0 || begins e.0 p)) m f

    one_before : (s : List (List ℕ)) → (begins r p ≡ true) ⊎ (begins p r ≡ true) → Contains (cleared p m) (r, l) → ⊥
    one_before s (inl t) j = clash (begins r p) t (apart p m r l j).1
    one_before s (inr t) j = clash (begins p r) t (apart p m r l j).0

    other_before : (begins q p ≡ true) ⊎ (begins p q ≡ true) → Contains (cleared p m) (q, k) → ⊥
    other_before (inl t) i = clash (begins q p) t (apart p m q k i).1
    other_before (inr t) i = clash (begins p q) t (apart p m q k i).0

    by_places : ((s : List (List ℕ)) × Contains h (s, k) × (q ≡ p ++ s)) ⊎ Contains (cleared p m) (q, k) → ((s : List (List ℕ)) × Contains h (s, l) × (r ≡ p ++ s)) ⊎ Contains (cleared p m) (r, l) → q ≡ r
    by_places (inl s) (inl t) =
        let w : begins (p ++ s.0) (p ++ t.0) ≡ true = ap (λ (x : List (List ℕ)). begins x (p ++ t.0)) (sym s.2) ∙ ap (begins q) (sym t.2) ∙ b in
        s.2 ∙ ap (λ (x : List (List ℕ)). p ++ x) (g s.0 t.0 k l s.1 t.1 (behind_front p s.0 t.0 w)) ∙ sym t.2
    by_places (inl s) (inr j) = absurd (one_before r (inr (front_of_more p s.0 r (ap (λ (x : List (List ℕ)). begins x r) (sym s.2) ∙ b))) j)
    by_places (inr i) (inl t) = absurd (other_before (comparable q p t.0 (ap (begins q) (sym t.2) ∙ b)) i)
    by_places (inr i) (inr j) = here q r k l i j b

pub set_free : (p : List (List ℕ)) (l : Leaf) (m : PathMap) → IsFree m → IsFree (set p l m)
set_free p l m f = inserted_free p l (cleared p m) (filtered_free (λ e. not (begins p e.0 || begins e.0 p)) m f) (apart p m)

pub delete_free : (p : List (List ℕ)) (m : PathMap) → IsFree m → IsFree (delete p m)
delete_free p m f = filtered_free (λ e. not (begins p e.0)) m f

pub copy_free : (source p : List (List ℕ)) (m : PathMap) → IsFree m → IsFree (copy source p m)
copy_free source p m f = put_free p (held source m) m (held_free source m f) f

pub rename_free : (source p : List (List ℕ)) (m : PathMap) → IsFree m → IsFree (rename source p m)
rename_free source p m f = put_free p (held source m) (delete source m) (held_free source m f) (delete_free source m f)

pub none_free : IsFree []
none_free p q k l i j b = absurd (none_is (p, k) i)
