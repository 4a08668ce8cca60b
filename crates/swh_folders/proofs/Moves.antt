-- Entries whose folders were moved.
use Rattle.std.proofs.Common.{◌≡◌, ℕ, suc, zero, ◌+◌, ◌<◌, List, [], ◌∷◌, ◌++◌, length, take, get_or, refl, sym, ap, ◌∙◌, arith}
use Rattle.std.proofs.lemmas.List.{take_more}
use Rattle.swh_entries.specs.declared.entry.Entry.{Entry}
use Rattle.swh_entries.specs.declared.entry.Child.{Child}
use Rattle.swh_entries.specs.declared.entry.Child.TheVariants.{File as FileChild, Folder as FolderChild}
use Rattle.swh_forest.specs.Forest.{Forest, Bare, File, Folder, Stands, beside}
use Rattle.swh_forest.specs.Arena.{stands, forest_of, IsGood, AreGood}
use Rattle.swh_entries.specs.Keys.{name_at}

-- one folder's entries after another's
join : Forest → Forest → Forest
join Bare g = g
join (File n l f) g = File n l (join f g)
join (Folder n k f) g = Folder n k (join f g)

join_beside : (n : List ℕ) (k : Child) (at : ℕ → Forest) (f g : Forest) → join (beside n (stands at k) f) g ≡ beside n (stands at k) (join f g)
unfolding join
join_beside n (FileChild l) at f g = refl
join_beside n (FolderChild j) at f g = refl

forest-append : (names : List (List ℕ)) (at : ℕ → Forest) (es fs : List Entry) → forest_of names at (es ++ fs) ≡ join (forest_of names at es) (forest_of names at fs)
unfolding join
forest-append names at [] fs = refl
forest-append names at (e ∷ es) fs = ap (beside (name_at names e.name) (stands at e.child)) (forest-append names at es fs) ∙ sym (join_beside (name_at names e.name) e.child at (forest_of names at es) (forest_of names at fs))

pub forest-more : (names : List (List ℕ)) (at at' : ℕ → Forest) (es out : List Entry) (i : ℕ) (d f : Entry) → i < length es → f.name ≡ (get_or es i d).name → stands at' f.child ≡ stands at (get_or es i d).child → forest_of names at' out ≡ forest_of names at (take i es) → forest_of names at' (out ++ f ∷ []) ≡ forest_of names at (take (i + 1) es)
forest-more names at at' es out i d f lt name child rest =
    let e : Entry = get_or es i d in
    let one : forest_of names at' (f ∷ []) ≡ forest_of names at (get_or es i d ∷ []) = ap (λ (n : ℕ). beside (name_at names n) (stands at' f.child) Bare) name ∙ ap (λ (x : Stands). beside (name_at names (get_or es i d).name) x Bare) child in
    forest-append names at' out (f ∷ []) ∙ ap (join (forest_of names at' out)) one ∙ ap (λ (g : Forest). join g (forest_of names at (get_or es i d ∷ []))) rest
    ∙ sym (forest-append names at (take i es) (get_or es i d ∷ [])) ∙ ap (forest_of names at) (sym (take_more es i d lt))

pub good-push : (n k : ℕ) (out : List Entry) (f : Entry) → AreGood n k out → IsGood n k f → AreGood n k (out ++ f ∷ [])
good-push n k [] f h own = (own, tt)
good-push n k (e ∷ out) f h own = (h.0, good-push n k out f h.1 own)

pub name-good : (n k : ℕ) (es : List Entry) (i : ℕ) (d : Entry) → AreGood n k es → i < length es → (get_or es i d).name < n
name-good n k [] i d good lt = absurd (omega arith)
name-good n k (e ∷ es) zero d good lt = good.0.name
name-good n k (e ∷ es) (suc i) d good lt = name-good n k es i d good.1 (omega arith)
