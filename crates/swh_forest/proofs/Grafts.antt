-- What stands at a path after something is put at another.
use Rattle.std.proofs.Common.{◌≡◌, ◌≢◌, ℕ, Bool, true, false, cond, List, [], ◌∷◌, ◌++◌, None, refl, sym, ap, ◌∙◌}
use Rattle.std.proofs.lemmas.Slice.Eq.{bytes_eq-Decides}
use Rattle.std.proofs.lemmas.Bool.{false_from_ne_true as not_true}
use Rattle.swh_entries.specs.declared.entry.Leaf.{Leaf}
use Rattle.swh_forest.specs.Forest.{Forest, Bare, File, Folder, Stands, Nothing, IsFile, IsFolder, beside, child_at, without, key, inserted, put, folder, forest, step, found, graft, leaf_of, at}
use Rattle.swh_entries.specs.Keys.{is_before}
use Rattle.swh_forest.specs.PathMap.{same}

pub same_is : (a b : List ℕ) → same a b ≡ true → a ≡ b
same_is a b h = (bytes_eq-Decides a b).0 h

pub same_self : (a : List ℕ) → same a a ≡ true
same_self a = (bytes_eq-Decides a a).1 refl

pub not_same : (a b : List ℕ) → a ≢ b → same a b ≡ false
not_same a b h = not_true (same a b) (λ e. h (same_is a b e))

-- beside one entry
pub beside-same : (c : List ℕ) (x : Stands) (f : Forest) → child_at c f ≡ Nothing → child_at c (beside c x f) ≡ x
beside-same c Nothing f h = h
beside-same c (IsFile l) f h = rw (same_self c) refl
beside-same c (IsFolder g) f h = rw (same_self c) refl

pub beside-other : (c d : List ℕ) (x : Stands) (f : Forest) → c ≢ d → child_at d (beside c x f) ≡ child_at d f
beside-other c d Nothing f ne = refl
beside-other c d (IsFile l) f ne = let e = not_same c d ne in rw e refl
beside-other c d (IsFolder g) f ne = let e = not_same c d ne in rw e refl

-- of an entry that is dropped or kept
drop_same : (n c : List ℕ) (y : Stands) (f : Forest) (b : Bool) → same n c ≡ b → child_at c f ≡ Nothing → child_at c (cond b f (beside n y f)) ≡ Nothing
drop_same n c y f true e h = h
drop_same n c Nothing f false e h = h
drop_same n c (IsFile l) f false e h = rw e h
drop_same n c (IsFolder g) f false e h = rw e h

pub without-same : (c : List ℕ) (f : Forest) → child_at c (without c f) ≡ Nothing
without-same c Bare = refl
without-same c (File n l f) = drop_same n c (IsFile l) (without c f) (same n c) refl (without-same c f)
without-same c (Folder n g f) = drop_same n c (IsFolder g) (without c f) (same n c) refl (without-same c f)

-- equal at d stay equal after an entry
behind : (n d : List ℕ) (y : Stands) (f f' : Forest) → child_at d f' ≡ child_at d f → child_at d (beside n y f') ≡ child_at d (beside n y f)
behind n d Nothing f f' h = h
behind n d (IsFile l) f f' h = ap (cond (same n d) (IsFile l)) h
behind n d (IsFolder g) f f' h = ap (cond (same n d) (IsFolder g)) h

drop_other : (n c d : List ℕ) (y : Stands) (f f' : Forest) (b : Bool) → same n c ≡ b → c ≢ d → child_at d f' ≡ child_at d f → child_at d (cond b f' (beside n y f')) ≡ child_at d (beside n y f)
drop_other n c d y f f' true e ne h = h ∙ sym (beside-other n d y f (λ is. ne (sym (same_is n c e) ∙ is)))
drop_other n c d y f f' false e ne h = behind n d y f f' h

pub without-other : (c d : List ℕ) (f : Forest) → c ≢ d → child_at d (without c f) ≡ child_at d f
without-other c d Bare ne = refl
without-other c d (File n l f) ne = drop_other n c d (IsFile l) f (without c f) (same n c) refl ne (without-other c d f ne)
without-other c d (Folder n g f) ne = drop_other n c d (IsFolder g) f (without c f) (same n c) refl ne (without-other c d f ne)

behind_file : (b : Bool) (l : Leaf) (old new x : Stands) → cond b (IsFile l) old ≡ Nothing → (old ≡ Nothing → new ≡ x) → cond b (IsFile l) new ≡ x
behind_file true l old new x h more = absurd (cc)
behind_file false l old new x h more = more h

behind_folder : (b : Bool) (g : Forest) (old new x : Stands) → cond b (IsFolder g) old ≡ Nothing → (old ≡ Nothing → new ≡ x) → cond b (IsFolder g) new ≡ x
behind_folder true g old new x h more = absurd (cc)
behind_folder false g old new x h more = more h

-- an entry that does not stand there yet, put before or after one
place_same : (n c : List ℕ) (y x : Stands) (f f' : Forest) (b : Bool) → child_at c (beside n y f) ≡ Nothing → (child_at c f ≡ Nothing → child_at c f' ≡ x) → child_at c (cond b (beside c x (beside n y f)) (beside n y f')) ≡ x
place_same n c y x f f' true h more = beside-same c x (beside n y f) h
place_same n c Nothing x f f' false h more = more h
place_same n c (IsFile l) x f f' false h more = behind_file (same n c) l (child_at c f) (child_at c f') x h more
place_same n c (IsFolder g) x f f' false h more = behind_folder (same n c) g (child_at c f) (child_at c f') x h more

pub inserted-same : (c : List ℕ) (x : Stands) (f : Forest) → child_at c f ≡ Nothing → child_at c (inserted c x f) ≡ x
inserted-same c x Bare h = beside-same c x Bare refl
inserted-same c x (File n l f) h = place_same n c (IsFile l) x f (inserted c x f) (is_before (key c x) (n ++ [])) h (inserted-same c x f)
inserted-same c x (Folder n g f) h = place_same n c (IsFolder g) x f (inserted c x f) (is_before (key c x) (n ++ 47 ∷ [])) h (inserted-same c x f)

place_other : (n c d : List ℕ) (y x : Stands) (f f' : Forest) (b : Bool) → c ≢ d → child_at d f' ≡ child_at d f → child_at d (cond b (beside c x (beside n y f)) (beside n y f')) ≡ child_at d (beside n y f)
place_other n c d y x f f' true ne h = beside-other c d x (beside n y f) ne
place_other n c d y x f f' false ne h = behind n d y f f' h

pub inserted-other : (c d : List ℕ) (x : Stands) (f : Forest) → c ≢ d → child_at d (inserted c x f) ≡ child_at d f
inserted-other c d x Bare ne = beside-other c d x Bare ne
inserted-other c d x (File n l f) ne = place_other n c d (IsFile l) x f (inserted c x f) (is_before (key c x) (n ++ [])) ne (inserted-other c d x f ne)
inserted-other c d x (Folder n g f) ne = place_other n c d (IsFolder g) x f (inserted c x f) (is_before (key c x) (n ++ 47 ∷ [])) ne (inserted-other c d x f ne)

pub put-same : (c : List ℕ) (x : Stands) (f : Forest) → child_at c (put c x f) ≡ x
put-same c x f = inserted-same c x (without c f) (without-same c f)

pub put-other : (c d : List ℕ) (x : Stands) (f : Forest) → c ≢ d → child_at d (put c x f) ≡ child_at d f
put-other c d x f ne = inserted-other c d x (without c f) ne ∙ without-other c d f ne

pub forest-folder : (f : Forest) → forest (folder f) ≡ f
forest-folder Bare = refl
forest-folder (File n l f) = refl
forest-folder (Folder n g f) = refl

no_leaf : (f : Forest) → leaf_of (folder f) ≡ None
no_leaf Bare = refl
no_leaf (File n l f) = refl
no_leaf (Folder n g f) = refl

-- at the path and under it: what was put there
pub graft-under : (p r : List (List ℕ)) (x y : Stands) → found (p ++ r) (graft p x y) ≡ found r x
graft-under [] r x y = refl
graft-under (c ∷ p) r x y =
    ap (λ (f : Forest). found (p ++ r) (child_at c f)) (forest-folder (put c (graft p x (step c y)) (forest y)))
    ∙ ap (found (p ++ r)) (put-same c (graft p x (step c y)) (forest y)) ∙ graft-under p r x (step c y)

-- at a proper front of it: no leaf
pub graft-front : (q : List (List ℕ)) (c : List ℕ) (r : List (List ℕ)) (x y : Stands) → at q (graft (q ++ c ∷ r) x y) ≡ None
graft-front [] c r x y = no_leaf (put c (graft r x (step c y)) (forest y))
graft-front (d ∷ q) c r x y =
    ap (λ (f : Forest). at q (child_at d f)) (forest-folder (put d (graft (q ++ c ∷ r) x (step d y)) (forest y)))
    ∙ ap (at q) (put-same d (graft (q ++ c ∷ r) x (step d y)) (forest y)) ∙ graft-front q c r x (step d y)

-- elsewhere: what was there
pub graft-aside : (s : List (List ℕ)) (c d : List ℕ) (p q : List (List ℕ)) (x y : Stands) → c ≢ d → found (s ++ d ∷ q) (graft (s ++ c ∷ p) x y) ≡ found (s ++ d ∷ q) y
graft-aside [] c d p q x y ne =
    ap (λ (f : Forest). found q (child_at d f)) (forest-folder (put c (graft p x (step c y)) (forest y)))
    ∙ ap (found q) (put-other c d (graft p x (step c y)) (forest y) ne)
graft-aside (e ∷ s) c d p q x y ne =
    ap (λ (f : Forest). found (s ++ d ∷ q) (child_at e f)) (forest-folder (put e (graft (s ++ c ∷ p) x (step e y)) (forest y)))
    ∙ ap (found (s ++ d ∷ q)) (put-same e (graft (s ++ c ∷ p) x (step e y)) (forest y)) ∙ graft-aside s c d p q x (step e y) ne
