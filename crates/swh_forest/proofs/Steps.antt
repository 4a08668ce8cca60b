-- One entry more of a folder, and what stands under the name of an entry.
use Rattle.std.proofs.Common.{◌≡◌, ◌≢◌, ℕ, ◌<◌, Bool, true, false, cond, List, [], ◌∷◌, ◌++◌, length, suc, zero, get_or, refl, sym, ap, ◌∙◌, arith}
use Rattle.std.proofs.lemmas.List.{get_or-map}
use Rattle.std.specs.Global.{Vec}
use Rattle.swh_entries.specs.declared.entry.Entry.{Entry}
use Rattle.swh_entries.specs.declared.entry.Child.{Child}
use Rattle.swh_entries.specs.declared.entry.Child.TheVariants.{File as FileChild, Folder as FolderChild}
use Rattle.swh_forest.specs.Forest.{Forest, Bare, File, Folder, Stands, Nothing, IsFolder, beside, child_at, without, key, inserted, folder}
use Rattle.swh_entries.specs.Keys.{is_before, name_at, suffix, entry_key, texts}
use Rattle.swh_forest.specs.PathMap.{same}
use Rattle.swh_forest.specs.Sound.{IsSound}
use Rattle.swh_forest.specs.Arena.{stands, forest_of, has_name, entries_without, entries_with, IsLower, IsGood, AreGood}
use Rattle.swh_forest.proofs.Grafts.{same_is, same_self}

pub text-at : (names : List (Vec ℕ)) (i : ℕ) (v : Vec ℕ) → i < length names → v ≡ get_or names i v → name_at (texts names) i ≡ v.items
text-at names i v lt is = get_or-map (λ (w : Vec ℕ). w.items) names i v [] lt ∙ ap (λ (w : Vec ℕ). w.items) (sym is)

pub beside-here : (n c : List ℕ) (k : Child) (at : ℕ → Forest) (f : Forest) → same n c ≡ true → child_at c (beside n (stands at k) f) ≡ stands at k
beside-here n c (FileChild l) at f e = rw e refl
beside-here n c (FolderChild j) at f e = rw e refl

pub beside-past : (n c : List ℕ) (k : Child) (at : ℕ → Forest) (f : Forest) → same n c ≡ false → child_at c (beside n (stands at k) f) ≡ child_at c f
beside-past n c (FileChild l) at f e = rw e refl
beside-past n c (FolderChild j) at f e = rw e refl

pub tail-sound : (n : List ℕ) (k : Child) (at : ℕ → Forest) (f : Forest) → IsSound (beside n (stands at k) f) → (child_at n f ≡ Nothing) × IsSound f
tail-sound n (FileChild l) at f s = (s.2, s.4)
tail-sound n (FolderChild j) at f s = (s.3, s.5)

pub some-child : (at : ℕ → Forest) (c : Child) → stands at c ≢ Nothing
some-child at (FileChild l) e = cc
some-child at (FolderChild j) e = cc

past_case : (b : Bool) (n c : List ℕ) (k k' : Child) (at : ℕ → Forest) (f : Forest) → same n c ≡ b → child_at n f ≡ Nothing → child_at c f ≡ stands at k' → child_at c (beside n (stands at k) f) ≡ stands at k'
past_case true n c k k' at f e fresh h = let is = same_is n c e in let none : child_at c f ≡ Nothing = rw (← is) fresh in absurd (some-child at k' (sym h ∙ none))
past_case false n c k k' at f e fresh h = beside-past n c k at f e ∙ h

-- what stands under an entry's name is the entry's child
pub child-of-entry : (names : List (List ℕ)) (at : ℕ → Forest) (es : List Entry) (k : ℕ) (d : Entry) → k < length es → IsSound (forest_of names at es) → child_at (name_at names (get_or es k d).name) (forest_of names at es) ≡ stands at (get_or es k d).child
child-of-entry names at [] k d lt s = absurd (omega arith)
child-of-entry names at (e ∷ es) zero d lt s = beside-here (name_at names e.name) (name_at names e.name) e.child at (forest_of names at es) (same_self (name_at names e.name))
child-of-entry names at (e ∷ es) (suc k) d lt s =
    let rest = tail-sound (name_at names e.name) e.child at (forest_of names at es) s in
    past_case (same (name_at names e.name) (name_at names (get_or es k d).name)) (name_at names e.name) (name_at names (get_or es k d).name) e.child (get_or es k d).child at (forest_of names at es) refl rest.0
    (child-of-entry names at es k d (omega arith) rest.1)

-- what the entries' edits make of the folder
forest-kept : (names : List (List ℕ)) (c : List ℕ) (at : ℕ → Forest) (n : List ℕ) (k : Child) (es es' : List Entry) (b : Bool) → same n c ≡ b → forest_of names at es' ≡ without c (forest_of names at es) → cond b (forest_of names at es') (beside n (stands at k) (forest_of names at es')) ≡ without c (beside n (stands at k) (forest_of names at es))
forest-kept names c at n (FileChild l) es es' true e h = rw e h
forest-kept names c at n (FolderChild j) es es' true e h = rw e h
forest-kept names c at n (FileChild l) es es' false e h = rw (e, h) refl
forest-kept names c at n (FolderChild j) es es' false e h = rw (e, h) refl

forest-cond : (names : List (List ℕ)) (at : ℕ → Forest) (b : Bool) (e : Entry) (es es' : List Entry) → forest_of names at (cond b es (e ∷ es')) ≡ cond b (forest_of names at es) (beside (name_at names e.name) (stands at e.child) (forest_of names at es'))
forest-cond names at true e es es' = refl
forest-cond names at false e es es' = refl

pub forest-without : (names : List (List ℕ)) (c : List ℕ) (at : ℕ → Forest) (es : List Entry) → forest_of names at (entries_without names c es) ≡ without c (forest_of names at es)
forest-without names c at [] = refl
forest-without names c at (e ∷ es) =
    forest-cond names at (has_name names c e) e (entries_without names c es) (entries_without names c es)
    ∙ forest-kept names c at (name_at names e.name) e.child es (entries_without names c es) (has_name names c e) refl (forest-without names c at es)

key-suffix : (c : List ℕ) (k : Child) (at : ℕ → Forest) → key c (stands at k) ≡ c ++ suffix k
key-suffix c (FileChild l) at = refl
key-suffix c (FolderChild j) at = refl

inserted-past : (c n : List ℕ) (x : Stands) (k : Child) (at : ℕ → Forest) (f : Forest) → inserted c x (beside n (stands at k) f) ≡ cond (is_before (key c x) (n ++ suffix k)) (beside c x (beside n (stands at k) f)) (beside n (stands at k) (inserted c x f))
inserted-past c n x (FileChild l) at f = refl
inserted-past c n x (FolderChild j) at f = refl

pub forest-with : (names : List (List ℕ)) (e : Entry) (at : ℕ → Forest) (es : List Entry) → forest_of names at (entries_with names e es) ≡ inserted (name_at names e.name) (stands at e.child) (forest_of names at es)
forest-with names e at [] = refl
forest-with names e at (f ∷ es) =
    forest-cond names at (is_before (entry_key names e) (entry_key names f)) f (e ∷ f ∷ es) (entries_with names e es)
    ∙ ap (λ (g : Forest). cond (is_before (entry_key names e) (entry_key names f)) (forest_of names at (e ∷ f ∷ es)) (beside (name_at names f.name) (stands at f.child) g)) (forest-with names e at es)
    ∙ ap (λ (k : List ℕ). cond (is_before k (entry_key names f)) (forest_of names at (e ∷ f ∷ es)) (beside (name_at names f.name) (stands at f.child) (inserted (name_at names e.name) (stands at e.child) (forest_of names at es)))) (sym (key-suffix (name_at names e.name) e.child at))
    ∙ sym (inserted-past (name_at names e.name) (name_at names f.name) (stands at e.child) f.child at (forest_of names at es))

pub good-at : (n k : ℕ) (es : List Entry) (i : ℕ) (d : Entry) → AreGood n k es → i < length es → IsLower k (get_or es i d).child
good-at n k [] i d good lt = absurd (omega arith)
good-at n k (e ∷ es) zero d good lt = good.0.child
good-at n k (e ∷ es) (suc i) d good lt = good-at n k es i d good.1 (omega arith)

good_cond : (n k : ℕ) (e : Entry) (es es' : List Entry) (b : Bool) → IsGood n k e → AreGood n k es → AreGood n k es' → AreGood n k (cond b es (e ∷ es'))
good_cond n k e es es' true own h h' = h
good_cond n k e es es' false own h h' = (own, h')

pub without-good : (names : List (List ℕ)) (c : List ℕ) (n k : ℕ) (es : List Entry) → AreGood n k es → AreGood n k (entries_without names c es)
without-good names c n k [] good = tt
without-good names c n k (e ∷ es) good = good_cond n k e (entries_without names c es) (entries_without names c es) (has_name names c e) good.0 (without-good names c n k es good.1) (without-good names c n k es good.1)

pub with-good : (names : List (List ℕ)) (e : Entry) (n k : ℕ) (es : List Entry) → IsGood n k e → AreGood n k es → AreGood n k (entries_with names e es)
with-good names e n k [] own good = (own, tt)
with-good names e n k (f ∷ es) own good = good_cond n k f (e ∷ f ∷ es) (entries_with names e es) (is_before (entry_key names e) (entry_key names f)) good.0 (own, good) (with-good names e n k es own good.1)

beside_bare : (n : List ℕ) (k : Child) (at : ℕ → Forest) (f : Forest) → folder (beside n (stands at k) f) ≡ IsFolder (beside n (stands at k) f)
beside_bare n (FileChild l) at f = refl
beside_bare n (FolderChild j) at f = refl

pub not_bare : (names : List (List ℕ)) (at : ℕ → Forest) (es : List Entry) → 0 < length es → folder (forest_of names at es) ≡ IsFolder (forest_of names at es)
not_bare names at [] lt = absurd (omega arith)
not_bare names at (e ∷ es) lt = beside_bare (name_at names e.name) e.child at (forest_of names at es)

cond_one : (b : Bool) (f f' : Forest) → f' ≡ f → cond b f f' ≡ f
cond_one true f f' h = refl
cond_one false f f' h = h

pub inserted-nothing : (c : List ℕ) (f : Forest) → inserted c Nothing f ≡ f
inserted-nothing c Bare = refl
inserted-nothing c (File n l f) = cond_one (is_before (c ++ []) (n ++ [])) (File n l f) (File n l (inserted c Nothing f)) (ap (File n l) (inserted-nothing c f))
inserted-nothing c (Folder n g f) = cond_one (is_before (c ++ []) (n ++ 47 ∷ [])) (Folder n g f) (Folder n g (inserted c Nothing f)) (ap (Folder n g) (inserted-nothing c f))
