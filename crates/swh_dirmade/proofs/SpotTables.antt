-- The paths of a table of spots, number by number.
use Rattle.std.proofs.Common.{◌≡◌, ℕ, zero, suc, ◌+◌, ◌<◌, List, [], ◌∷◌, ◌++◌, length, get_or, refl, sym, ap, ◌∙◌, subst, arith, length-append}
use Rattle.std.specs.List.{AllByRecursion}
use Rattle.std.proofs.lemmas.List.{get_or_append_left, get_or-map}
use Rattle.std.proofs.Math.Seq.{get_or-append_seam}
use Rattle.swh_base.specs.Directory.{IsEntryName}
use Rattle.swh_dirmade.specs.declared.spot.Spot.{Spot}
use Rattle.swh_dirmade.specs.Paths.{child}
use Rattle.swh_dirmade.specs.Spots.{path_at, path_in, paths_behind, paths_of, path_to, above_at, name_at, IsPlaced, ArePlaced, AreApart, AreNamed, AreNamedBehind, IsTable}
use Rattle.swh_dirmade.proofs.Trees.{IsTree}

pub length_paths : (paths : List (List ℕ)) (spots : List Spot) → length (paths_behind paths spots) ≡ length paths + length spots
length_paths paths [] = omega arith
length_paths paths (s ∷ spots) = let h = length_paths (paths ++ path_in paths s ∷ []) spots in omega (arith, h, length-append paths (path_in paths s ∷ []))

-- a path stays as more spots come
pub stays : (paths : List (List ℕ)) (spots : List Spot) (k : ℕ) → k < length paths → path_at (paths_behind paths spots) k ≡ path_at paths k
stays paths [] k lt = refl
stays paths (s ∷ spots) k lt = stays (paths ++ path_in paths s ∷ []) spots k (omega (arith, lt, length-append paths (path_in paths s ∷ []))) ∙ get_or_append_left paths (path_in paths s ∷ []) [] k lt

pub paths_push : (paths : List (List ℕ)) (spots : List Spot) (next : Spot) → paths_behind paths (spots ++ next ∷ []) ≡ paths_behind paths spots ++ path_in (paths_behind paths spots) next ∷ []
paths_push paths [] next = refl
paths_push paths (s ∷ spots) next = paths_push (paths ++ path_in paths s ∷ []) spots next

pub placed_push : (n : ℕ) (spots : List Spot) (next : Spot) → ArePlaced n spots → IsPlaced (n + length spots) next → ArePlaced n (spots ++ next ∷ [])
placed_push n [] next placed h = let e : n + 0 ≡ n = omega arith in (subst (λ (k : ℕ). IsPlaced k next) e h, tt)
placed_push n (s ∷ spots) next placed h = let e : n + length (s ∷ spots) ≡ n + 1 + length spots = omega arith in (placed.0, placed_push (n + 1) spots next placed.1 (subst (λ (k : ℕ). IsPlaced k next) e h))

placed_at : (n : ℕ) (spots : List Spot) (k : ℕ) (d : Spot) → ArePlaced n spots → k < length spots → IsPlaced (n + k) (get_or spots k d)
placed_at n [] k d placed lt = absurd (omega (arith, lt))
placed_at n (s ∷ spots) zero d placed lt = let e : n ≡ n + 0 = omega arith in subst (λ (k : ℕ). IsPlaced k s) e placed.0
placed_at n (s ∷ spots) (suc k) d placed lt = let e : n + 1 + k ≡ n + suc k = omega arith in subst (λ (m : ℕ). IsPlaced m (get_or spots k d)) e (placed_at (n + 1) spots k d placed.1 (omega (arith, lt)))

-- a path is that of its name in its folder
step : (paths : List (List ℕ)) (spots : List Spot) (k : ℕ) (d : Spot) → ArePlaced (length paths) spots → 0 < length paths + k → k < length spots → path_at (paths_behind paths spots) (length paths + k) ≡ path_in (paths_behind paths spots) (get_or spots k d)
step paths [] k d placed some lt = absurd (omega (arith, lt))
step paths (s ∷ spots) zero d placed some lt =
    let more = paths ++ path_in paths s ∷ [] in
    let e : length paths + 0 ≡ length paths = omega arith in
    let above = placed.0.above in
    let below : s.above < length paths = omega (arith, above, some) in
    let here : path_at (paths_behind more spots) (length paths) ≡ path_in paths s = stays more spots (length paths) (omega (arith, length-append paths (path_in paths s ∷ []))) ∙ get_or-append_seam paths (path_in paths s) [] [] in
    ap (λ (n : ℕ). path_at (paths_behind more spots) n) e ∙ here ∙ ap (λ (dir : List ℕ). child dir s.name) (sym (stays paths (s ∷ spots) s.above below))
step paths (s ∷ spots) (suc k) d placed some lt =
    let more = paths ++ path_in paths s ∷ [] in
    let l : length more ≡ length paths + 1 = length-append paths (path_in paths s ∷ []) in
    let e : length paths + suc k ≡ length more + k = omega (arith, l) in
    ap (λ (n : ℕ). path_at (paths_behind more spots) n) e ∙ step more spots k d (subst (λ (n : ℕ). ArePlaced n spots) (sym l) placed.1) (omega (arith, l)) (omega (arith, lt))

-- the fields of a spot, by its number
pub above_is : (spots : List Spot) (n : ℕ) (d : Spot) → n < length spots → above_at spots n ≡ (get_or spots n d).above
above_is spots n d lt = get_or-map (λ (s : Spot). s.above) spots n d 0 lt

pub name_is : (spots : List Spot) (n : ℕ) (d : Spot) → n < length spots → name_at spots n ≡ (get_or spots n d).name
name_is spots n d lt = get_or-map (λ (s : Spot). s.name) spots n d [] lt

path_step : (spots : List Spot) (n : ℕ) (d : Spot) → ArePlaced 0 spots → 0 < n → n < length spots → path_to spots n ≡ child (path_to spots (above_at spots n)) (name_at spots n)
path_step spots n d placed some lt =
    let e : 0 + n ≡ n = omega arith in
    let s : path_to spots n ≡ path_in (paths_of spots) (get_or spots n d) = subst (λ (k : ℕ). path_to spots k ≡ path_in (paths_of spots) (get_or spots n d)) e (step [] spots n d placed (omega (arith, some)) lt) in
    s ∙ ap (λ (k : ℕ). child (path_to spots k) (get_or spots n d).name) (sym (above_is spots n d lt)) ∙ ap (λ (name : List ℕ). child (path_to spots (above_at spots n)) name) (sym (name_is spots n d lt))

path_first : (spots : List Spot) → ArePlaced 0 spots → path_to spots 0 ≡ []
path_first [] placed = refl
path_first (s ∷ spots) placed = stays (path_in [] s ∷ []) spots 0 (omega arith) ∙ placed.0.first refl

above_down : (spots : List Spot) (n : ℕ) (d : Spot) → ArePlaced 0 spots → 0 < n → n < length spots → above_at spots n < n
above_down spots n d placed some lt =
    let above = (placed_at 0 spots n d placed lt).above in
    let e = above_is spots n d lt in
    omega (arith, above, some, e)

named_at : (spots : List Spot) (n : ℕ) (d : Spot) → AreNamed spots → n < length spots → IsEntryName (get_or spots n d).name
named_at [] n d named lt = absurd (omega (arith, lt))
named_at (s ∷ spots) zero d named lt = named.0
named_at (s ∷ spots) (suc n) d named lt = named_at spots n d named.2 (omega (arith, lt))

apart_at : (s : Spot) (spots : List Spot) (n : ℕ) (d : Spot) → AllByRecursion (AreApart s) spots → n < length spots → AreApart s (get_or spots n d)
apart_at s [] n d apart lt = absurd (omega (arith, lt))
apart_at s (t ∷ spots) zero d apart lt = apart.0
apart_at s (t ∷ spots) (suc n) d apart lt = apart_at s spots n d apart.1 (omega (arith, lt))

once_at : (spots : List Spot) (n m : ℕ) (d : Spot) → AreNamed spots → n < length spots → m < length spots → (get_or spots n d).above ≡ (get_or spots m d).above → (get_or spots n d).name ≡ (get_or spots m d).name → n ≡ m
once_at [] n m d named nin min a e = absurd (omega (arith, nin))
once_at (s ∷ spots) zero zero d named nin min a e = refl
once_at (s ∷ spots) zero (suc m) d named nin min a e = absurd (apart_at s spots m d named.1 (omega (arith, min)) a e)
once_at (s ∷ spots) (suc n) zero d named nin min a e = absurd (apart_at s spots n d named.1 (omega (arith, nin)) (sym a) (sym e))
once_at (s ∷ spots) (suc n) (suc m) d named nin min a e = ap suc (once_at spots n m d named.2 (omega (arith, nin)) (omega (arith, min)) a e)

behind_named : (spots : List Spot) (n : ℕ) (d : Spot) → AreNamedBehind spots → 0 < n → n < length spots → IsEntryName (get_or spots n d).name
behind_named [] n d named some lt = absurd (omega (arith, lt))
behind_named (s ∷ spots) zero d named some lt = absurd (omega (arith, some))
behind_named (s ∷ spots) (suc n) d named some lt = named_at spots n d named (omega (arith, lt))

behind_once : (spots : List Spot) (n m : ℕ) (d : Spot) → AreNamedBehind spots → 0 < n → n < length spots → 0 < m → m < length spots → (get_or spots n d).above ≡ (get_or spots m d).above → (get_or spots n d).name ≡ (get_or spots m d).name → n ≡ m
behind_once [] n m d named sn nin sm min a e = absurd (omega (arith, nin))
behind_once (s ∷ spots) zero m d named sn nin sm min a e = absurd (omega (arith, sn))
behind_once (s ∷ spots) (suc n) zero d named sn nin sm min a e = absurd (omega (arith, sm))
behind_once (s ∷ spots) (suc n) (suc m) d named sn nin sm min a e = ap suc (once_at spots n m d named (omega (arith, nin)) (omega (arith, min)) a e)

-- the first spot, to read a table by numbers
first_of : (spots : List Spot) → 0 < length spots → Spot
first_of [] some = absurd (omega (arith, some))
first_of (s ∷ spots) some = s

pub entry_name : (spots : List Spot) (n : ℕ) → IsTable spots → 0 < n → n < length spots → IsEntryName (name_at spots n)
entry_name spots n table some lt = let d = first_of spots table.some in subst IsEntryName (sym (name_is spots n d lt)) (behind_named spots n d table.named some lt)

pub tree_of : (spots : List Spot) → IsTable spots → IsTree (length spots) (path_to spots) (above_at spots) (name_at spots)
tree_of spots table =
    let d = first_of spots table.some in
    record {
      first = path_first spots table.placed;
      step = λ n some lt. path_step spots n d table.placed some lt;
      down = λ n some lt. above_down spots n d table.placed some lt;
      some = λ n some lt. (entry_name spots n table some lt).not_empty;
      plain = λ n some lt. (entry_name spots n table some lt).no_slash;
      once = λ n m sn nin sm min a e. behind_once spots n m d table.named sn nin sm min (sym (above_is spots n d nin) ∙ a ∙ above_is spots m d min) (sym (name_is spots n d nin) ∙ e ∙ name_is spots m d min);
    }
