-- What is put at a path over what was put there before.
use Rattle.std.proofs.Common.{◌≡◌, ℕ, Bool, true, false, cond, List, [], ◌∷◌, ◌++◌, refl, sym, ap, ◌∙◌}
use Rattle.swh_entries.specs.declared.entry.Leaf.{Leaf}
use Rattle.swh_forest.specs.Forest.{Forest, Bare, File, Folder, Stands, Nothing, IsFile, IsFolder, beside, child_at, without, key, inserted, put, folder, forest, step, found, graft}
use Rattle.swh_entries.specs.Keys.{is_before}
use Rattle.swh_forest.specs.PathMap.{same}
use Rattle.swh_forest.proofs.Grafts.{same_self, without-same, forest-folder, put-same}

kept_file : (n c : List ℕ) (l : Leaf) (f : Forest) (b : Bool) → same n c ≡ b → cond b (IsFile l) (child_at c f) ≡ Nothing → (same n c ≡ false) × (child_at c f ≡ Nothing)
kept_file n c l f true e h = absurd cc
kept_file n c l f false e h = (e, h)

kept_folder : (n c : List ℕ) (g f : Forest) (b : Bool) → same n c ≡ b → cond b (IsFolder g) (child_at c f) ≡ Nothing → (same n c ≡ false) × (child_at c f ≡ Nothing)
kept_folder n c g f true e h = absurd cc
kept_folder n c g f false e h = (e, h)

-- where nothing stands under the name, nothing is dropped
pub without-absent : (c : List ℕ) (f : Forest) → child_at c f ≡ Nothing → without c f ≡ f
without-absent c Bare h = refl
without-absent c (File n l f) h = let k = kept_file n c l f (same n c) refl h in let e = k.0 in rw e (ap (File n l) (without-absent c f k.1))
without-absent c (Folder n g f) h = let k = kept_folder n c g f (same n c) refl h in let e = k.0 in rw e (ap (Folder n g) (without-absent c f k.1))

without-beside : (c : List ℕ) (x : Stands) (f : Forest) → child_at c f ≡ Nothing → without c (beside c x f) ≡ f
without-beside c Nothing f h = without-absent c f h
without-beside c (IsFile l) f h = rw (same_self c) (without-absent c f h)
without-beside c (IsFolder g) f h = rw (same_self c) (without-absent c f h)

past_file : (c n : List ℕ) (l : Leaf) (x : Stands) (f f' : Forest) (b : Bool) → child_at c (File n l f) ≡ Nothing → same n c ≡ false → without c f' ≡ f → without c (cond b (beside c x (File n l f)) (File n l f')) ≡ File n l f
past_file c n l x f f' true h e more = without-beside c x (File n l f) h
past_file c n l x f f' false h e more = rw e (ap (File n l) more)

past_folder : (c n : List ℕ) (g : Forest) (x : Stands) (f f' : Forest) (b : Bool) → child_at c (Folder n g f) ≡ Nothing → same n c ≡ false → without c f' ≡ f → without c (cond b (beside c x (Folder n g f)) (Folder n g f')) ≡ Folder n g f
past_folder c n g x f f' true h e more = without-beside c x (Folder n g f) h
past_folder c n g x f f' false h e more = rw e (ap (Folder n g) more)

-- what was put is dropped again
without-inserted : (c : List ℕ) (x : Stands) (f : Forest) → child_at c f ≡ Nothing → without c (inserted c x f) ≡ f
without-inserted c x Bare h = without-beside c x Bare refl
without-inserted c x (File n l f) h =
    let k = kept_file n c l f (same n c) refl h in
    past_file c n l x f (inserted c x f) (is_before (key c x) (n ++ [])) h k.0 (without-inserted c x f k.1)
without-inserted c x (Folder n g f) h =
    let k = kept_folder n c g f (same n c) refl h in
    past_folder c n g x f (inserted c x f) (is_before (key c x) (n ++ 47 ∷ [])) h k.0 (without-inserted c x f k.1)

put-over : (c : List ℕ) (x y : Stands) (f : Forest) → put c x (put c y f) ≡ put c x f
put-over c x y f = ap (inserted c x) (without-inserted c y (without c f) (without-same c f))

-- what is put over something else at the same path
pub graft-over : (p : List (List ℕ)) (x z y : Stands) → graft p x (graft p z y) ≡ graft p x y
graft-over [] x z y = refl
graft-over (c ∷ p) x z y =
    let under = graft p z (step c y) in
    let there : step c (graft (c ∷ p) z y) ≡ under = ap (child_at c) (forest-folder (put c under (forest y))) ∙ put-same c under (forest y) in
    let rest : forest (graft (c ∷ p) z y) ≡ put c under (forest y) = forest-folder (put c under (forest y)) in
    ap (λ (w : Stands). folder (put c (graft p x w) (forest (graft (c ∷ p) z y)))) there
    ∙ ap (λ (w : Stands). folder (put c w (forest (graft (c ∷ p) z y)))) (graft-over p x z (step c y))
    ∙ ap (λ (f : Forest). folder (put c (graft p x (step c y)) f)) rest
    ∙ ap folder (put-over c (graft p x (step c y)) under (forest y))

-- what is put at a name of the folder at a path
pub graft-last : (p : List (List ℕ)) (c : List ℕ) (x y : Stands) → graft (p ++ c ∷ []) x y ≡ graft p (folder (put c x (forest (found p y)))) y
graft-last [] c x y = refl
graft-last (d ∷ p) c x y = ap (λ (w : Stands). folder (put d w (forest y))) (graft-last p c x (step d y))

pub found-graft : (p : List (List ℕ)) (x y : Stands) → found p (graft p x y) ≡ x
found-graft [] x y = refl
found-graft (c ∷ p) x y =
    ap (λ (f : Forest). found p (child_at c f)) (forest-folder (put c (graft p x (step c y)) (forest y)))
    ∙ ap (found p) (put-same c (graft p x (step c y)) (forest y)) ∙ found-graft p x (step c y)

-- below the root only its folder counts
pub found-same : (p : List (List ℕ)) (y : Stands) → forest (found p (IsFolder (forest y))) ≡ forest (found p y)
found-same [] y = refl
found-same (c ∷ p) y = refl

graft_same : (p : List (List ℕ)) (x y : Stands) → graft p x (IsFolder (forest y)) ≡ graft p x y
graft_same [] x y = refl
graft_same (c ∷ p) x y = refl

pub graft-same : (p : List (List ℕ)) (x y : Stands) → graft p x (IsFolder (forest y)) ≡ graft p x y
graft-same p x y = graft_same p x y

-- A change of the folder at a path, in whose place another stands already, is a change of the tree.
pub change-there : (p : List (List ℕ)) (c : List ℕ) (x : Stands) (f : Forest) (y : Stands) → graft p (folder (put c x f)) y ≡ graft (p ++ c ∷ []) x (IsFolder (forest (graft p (folder f) y)))
change-there p c x f y =
    let z = graft p (folder f) y in
    let own : forest (found p (IsFolder (forest z))) ≡ f = found-same p z ∙ ap forest (found-graft p (folder f) y) ∙ forest-folder f in
    sym (graft-last p c x (IsFolder (forest z))
    ∙ ap (λ (g : Forest). graft p (folder (put c x g)) (IsFolder (forest z))) own
    ∙ graft-same p (folder (put c x f)) z
    ∙ graft-over p (folder (put c x f)) (folder f) y)
