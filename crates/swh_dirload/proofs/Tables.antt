-- The paths and the items of a table, number by number.
use Rattle.std.proofs.Common.{◌≡◌, ℕ, zero, suc, ◌+◌, ◌<◌, ◌≤◌, List, [], ◌∷◌, ◌++◌, length, map, get_or, refl, sym, ap, ◌∙◌, subst, arith, length-append}
use Rattle.std.specs.Prelude.{string_bytes, slice_index_or}
use Rattle.std.proofs.lemmas.List.{get_or_append_left, get_or-map}
use Rattle.std.proofs.Math.Seq.{get_or-append_seam}
use Rattle.swh_dirload.specs.declared.found.Found.{Found}
use Rattle.swh_dirmade.specs.Paths.{child}
use Rattle.swh_dirload.specs.Items.{Item}
use Rattle.swh_dirload.specs.Found.{path_at, path_in, item_under, paths_behind, items_behind, paths_of, IsPlaced, ArePlaced, AreBelow, items_under}

pub length_paths : (paths : List (List ℕ)) (found : List Found) → length (paths_behind paths found) ≡ length paths + length found
length_paths paths [] = omega arith
length_paths paths (f ∷ found) = let h = length_paths (paths ++ path_in paths f ∷ []) found in omega (arith, h, length-append paths (path_in paths f ∷ []))

-- a path stays as more is found
stays : (paths : List (List ℕ)) (found : List Found) (k : ℕ) → k < length paths → path_at (paths_behind paths found) k ≡ path_at paths k
stays paths [] k lt = refl
stays paths (f ∷ found) k lt = stays (paths ++ path_in paths f ∷ []) found k (omega (arith, lt, length-append paths (path_in paths f ∷ []))) ∙ get_or_append_left paths (path_in paths f ∷ []) [] k lt

pub paths_push : (paths : List (List ℕ)) (found : List Found) (next : Found) → paths_behind paths (found ++ next ∷ []) ≡ paths_behind paths found ++ path_in (paths_behind paths found) next ∷ []
paths_push paths [] next = refl
paths_push paths (f ∷ found) next = paths_push (paths ++ path_in paths f ∷ []) found next

pub items_push : (paths : List (List ℕ)) (found : List Found) (next : Found) → items_behind paths (found ++ next ∷ []) ≡ items_behind paths found ++ item_under (paths_behind paths found) next ∷ []
items_push paths [] next = refl
items_push paths (f ∷ found) next = ap (λ (items : List Item). item_under paths f ∷ items) (items_push (paths ++ path_in paths f ∷ []) found next)

pub placed_push : (n : ℕ) (found : List Found) (next : Found) → ArePlaced n found → IsPlaced (n + length found) next → ArePlaced n (found ++ next ∷ [])
placed_push n [] next placed h = let e : n + 0 ≡ n = omega arith in (subst (λ (k : ℕ). IsPlaced k next) e h, tt)
placed_push n (f ∷ found) next placed h = let e : n + length (f ∷ found) ≡ n + 1 + length found = omega arith in (placed.0, placed_push (n + 1) found next placed.1 (subst (λ (k : ℕ). IsPlaced k next) e h))

pub placed_at : (n : ℕ) (found : List Found) (k : ℕ) (d : Found) → ArePlaced n found → k < length found → IsPlaced (n + k) (get_or found k d)
placed_at n [] k d placed lt = absurd (omega (arith, lt))
placed_at n (f ∷ found) zero d placed lt = let e : n ≡ n + 0 = omega arith in subst (λ (k : ℕ). IsPlaced k f) e placed.0
placed_at n (f ∷ found) (suc k) d placed lt = let e : n + 1 + k ≡ n + suc k = omega arith in subst (λ (m : ℕ). IsPlaced m (get_or found k d)) e (placed_at (n + 1) found k d placed.1 (omega (arith, lt)))

-- a path is that of its name in its folder
step : (paths : List (List ℕ)) (found : List Found) (k : ℕ) (d : Found) → ArePlaced (length paths) found → 0 < length paths + k → k < length found → path_at (paths_behind paths found) (length paths + k) ≡ path_in (paths_behind paths found) (get_or found k d)
step paths [] k d placed some lt = absurd (omega (arith, lt))
step paths (f ∷ found) zero d placed some lt =
    let more = paths ++ path_in paths f ∷ [] in
    let e : length paths + 0 ≡ length paths = omega arith in
    let above = placed.0.above in
    let below : f.above < length paths = omega (arith, above, some) in
    let here : path_at (paths_behind more found) (length paths) ≡ path_in paths f = stays more found (length paths) (omega (arith, length-append paths (path_in paths f ∷ []))) ∙ get_or-append_seam paths (path_in paths f) [] [] in
    ap (λ (n : ℕ). path_at (paths_behind more found) n) e ∙ here ∙ ap (λ (dir : List ℕ). child dir (string_bytes f.name)) (sym (stays paths (f ∷ found) f.above below))
step paths (f ∷ found) (suc k) d placed some lt =
    let more = paths ++ path_in paths f ∷ [] in
    let l : length more ≡ length paths + 1 = length-append paths (path_in paths f ∷ []) in
    let e : length paths + suc k ≡ length more + k = omega (arith, l) in
    ap (λ (n : ℕ). path_at (paths_behind more found) n) e ∙ step more found k d (subst (λ (n : ℕ). ArePlaced n found) (sym l) placed.1) (omega (arith, l)) (omega (arith, lt))

pub path_step : (found : List Found) (n : ℕ) (d : Found) → ArePlaced 0 found → 0 < n → n < length found → path_at (paths_of found) n ≡ child (path_at (paths_of found) (slice_index_or (map (λ f. f.above) found) n 0)) (string_bytes (get_or found n d).name)
path_step found n d placed some lt =
    let e : 0 + n ≡ n = omega arith in
    let s : path_at (paths_of found) n ≡ path_in (paths_of found) (get_or found n d) = subst (λ (k : ℕ). path_at (paths_of found) k ≡ path_in (paths_of found) (get_or found n d)) e (step [] found n d placed (omega (arith, some)) lt) in
    s ∙ ap (λ (k : ℕ). child (path_at (paths_of found) k) (string_bytes (get_or found n d).name)) (sym (get_or-map (λ (f : Found). f.above) found n d 0 lt))

pub path_first : (found : List Found) → ArePlaced 0 found → path_at (paths_of found) 0 ≡ []
path_first [] placed = refl
path_first (f ∷ found) placed = stays (path_in [] f ∷ []) found 0 (omega arith) ∙ placed.0.first refl

pub under_push : (paths : List (List ℕ)) (path : List ℕ) (waiting : List Found) → AreBelow (length paths) waiting → items_under (paths ++ path ∷ []) waiting ≡ items_under paths waiting
under_push paths path [] below = refl
under_push paths path (w ∷ waiting) below =
    let here : item_under (paths ++ path ∷ []) w ≡ item_under paths w = ap (λ (dir : List ℕ). let item : Item = (child dir (string_bytes w.name), w.what) in item) (get_or_append_left paths (path ∷ []) [] w.above below.0) in
    ap (λ (item : Item). item ∷ items_under (paths ++ path ∷ []) waiting) here ∙ ap (λ (items : List Item). item_under paths w ∷ items) (under_push paths path waiting below.1)

pub below_more : (n m : ℕ) (waiting : List Found) → n ≤ m → AreBelow n waiting → AreBelow m waiting
below_more n m [] le below = tt
below_more n m (w ∷ waiting) le below = let h = below.0 in (omega (arith, h, le), below_more n m waiting le below.1)

pub below_append : (n : ℕ) (xs ys : List Found) → AreBelow n xs → AreBelow n ys → AreBelow n (xs ++ ys)
below_append n [] ys hx hy = hy
below_append n (x ∷ xs) ys hx hy = (hx.0, below_append n xs ys hx.1 hy)
