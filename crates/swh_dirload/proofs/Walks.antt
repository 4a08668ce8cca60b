-- Walks, item by item.
use Rattle.std.proofs.Common.{◌≡◌, ℕ, ◌<◌, ◌≤◌, List, [], ◌∷◌, ◌++◌, length, map, refl, sym, ap, ◌∙◌, subst, arith}
use Rattle.std.specs.Prelude.{string_bytes}
use Rattle.std.proofs.lemmas.List.{map-append}
use Rattle.std.proofs.Math.Seq.{get_or-append_seam}
use Rattle.swh_base.specs.Limits.{path_limit}
use Rattle.swh_outside.specs.Folder.{Tree}
use Rattle.swh_outside.specs.Listing.{listed}
use Rattle.swh_outside.specs.declared.folder.Item as listing
use Rattle.swh_outside.specs.declared.folder.What.{What}
use Rattle.swh_outside.specs.declared.folder.What.TheVariants.{File, Folder, Other}
use Rattle.swh_dirload.specs.declared.fault.DirFault.{DirFault}
use Rattle.swh_dirload.specs.declared.fault.DirFault.TheVariants.{OtherKind, BadModes, Limit, ReadFault, Memory}
use Rattle.swh_dirload.specs.declared.found.Found.{Found}
use Rattle.swh_dirmade.specs.Paths.{child}
use Rattle.swh_dirload.specs.Items.{Item, item_in, HasItems, Fits}
use Rattle.swh_dirload.specs.Found.{path_in, item_under, paths_of, items_of, IsPlaced, AreBelow, found_in, items_under}
use Rattle.swh_dirload.specs.Walk.{root, Visits, Takes, AllFit, ComesTo, ExplainsItem, ExplainsWalk}
use Rattle.swh_dirload.proofs.Tables.{length_paths, paths_push, items_push, under_push}

pub takes_push : (tree : Tree) (waiting items : List Item) (item : Item) (rest now : List Item) → Takes tree waiting items (item ∷ rest) → Visits tree item.0 item.1 rest now → Takes tree waiting (items ++ item ∷ []) now
takes_push tree waiting [] item rest now h v = (rest, now, h, v, refl)
takes_push tree waiting (i ∷ items) item rest now h v = (h.0, h.1, h.2, h.3, takes_push tree h.1 items item rest now h.4 v)

pub fit_push : (items : List Item) (item : Item) → AllFit items → Fits item.0 item.1 → AllFit (items ++ item ∷ [])
fit_push [] item h f = (f, tt)
fit_push (i ∷ items) item h f = (h.0, fit_push items item h.1 f)

-- the items of a folder's list, where the folder has this number
listed_under : (paths : List (List ℕ)) (path : List ℕ) (items : List listing.Item) → items_under (paths ++ path ∷ []) (map (found_in (length paths)) items) ≡ map (λ item. item_in path (listed item)) items
listed_under paths path [] = refl
listed_under paths path (i ∷ items) =
    let here : item_under (paths ++ path ∷ []) (found_in (length paths) i) ≡ item_in path (listed i) = ap (λ (dir : List ℕ). let item : Item = (child dir (string_bytes i.name), i.what) in item) (get_or-append_seam paths path [] []) in
    ap (λ (item : Item). item ∷ items_under (paths ++ path ∷ []) (map (found_in (length paths)) items)) here ∙ ap (λ (rest : List Item). item_in path (listed i) ∷ rest) (listed_under paths path items)

-- what waits once a folder was found whose items wait first
pub under_enter : (found : List Found) (next : Found) (items : List listing.Item) (waiting : List Found) → AreBelow (length found) waiting → items_under (paths_of (found ++ next ∷ [])) (map (found_in (length found)) items ++ waiting) ≡ map (λ item. item_in (path_in (paths_of found) next) (listed item)) items ++ items_under (paths_of found) waiting
under_enter found next items waiting below =
    let paths = paths_of found in
    let path = path_in paths next in
    let n : length paths ≡ length found = length_paths [] found ∙ (omega arith) in
    let waits = map (found_in (length found)) items in
    let first : items_under (paths ++ path ∷ []) waits ≡ map (λ item. item_in path (listed item)) items = ap (λ (k : ℕ). items_under (paths ++ path ∷ []) (map (found_in k) items)) (sym n) ∙ listed_under paths path items in
    let then : items_under (paths ++ path ∷ []) waiting ≡ items_under paths waiting = under_push paths path waiting (subst (λ (k : ℕ). AreBelow k waiting) (sym n) below) in
    ap (λ (ps : List (List ℕ)). items_under ps (waits ++ waiting)) (paths_push [] found next) ∙ map-append (item_under (paths ++ path ∷ [])) waits waiting ∙ ap (λ (xs : List Item). xs ++ items_under (paths ++ path ∷ []) waiting) first ∙ ap (λ (xs : List Item). map (λ item. item_in path (listed item)) items ++ xs) then

-- what waits once a file was found
pub under_pass : (found : List Found) (next : Found) (waiting : List Found) → AreBelow (length found) waiting → items_under (paths_of (found ++ next ∷ [])) waiting ≡ items_under (paths_of found) waiting
under_pass found next waiting below =
    let paths = paths_of found in
    let n : length paths ≡ length found = length_paths [] found ∙ (omega arith) in
    ap (λ (ps : List (List ℕ)). items_under ps waiting) (paths_push [] found next) ∙ under_push paths (path_in paths next) waiting (subst (λ (k : ℕ). AreBelow k waiting) (sym n) below)

pub found_below : (n m : ℕ) (items : List listing.Item) → n < m → AreBelow m (map (found_in n) items)
found_below n m [] lt = tt
found_below n m (i ∷ items) lt = (lt, found_below n m items lt)

-- a folder is visited
pub visits_folder : (tree : Tree) (found : List Found) (next : Found) (items : List listing.Item) (waiting : List Found) (found_now waiting_now : List Found) (dir : List ℕ) → AreBelow (length found) waiting → found_now ≡ found ++ next ∷ [] → waiting_now ≡ map (found_in (length found)) items ++ waiting → dir ≡ path_in (paths_of found) next → HasItems tree dir (map (λ item. item_in dir (listed item)) items) → Visits tree (path_in (paths_of found) next) Folder (items_under (paths_of found) waiting) (items_under (paths_of found_now) waiting_now)
visits_folder tree found next items waiting found_now waiting_now dir below pushed waits named has =
    let path = path_in (paths_of found) next in
    let here : HasItems tree path (map (λ item. item_in path (listed item)) items) = subst (λ (d : List ℕ). HasItems tree d (map (λ item. item_in d (listed item)) items)) named has in
    let now : items_under (paths_of found_now) waiting_now ≡ map (λ item. item_in path (listed item)) items ++ items_under (paths_of found) waiting = ap (λ (fs : List Found). items_under (paths_of fs) waiting_now) pushed ∙ ap (λ (ws : List Found). items_under (paths_of (found ++ next ∷ [])) ws) waits ∙ under_enter found next items waiting below in
    (map (λ item. item_in path (listed item)) items, here, now)

-- a file is visited
visits_plain : (tree : Tree) (path : List ℕ) (what : What) (rest now : List Item) → (what ≡ Folder → ⊥) → (what ≡ Other → ⊥) → now ≡ rest → Visits tree path what rest now
visits_plain tree path File rest now f o e = e
visits_plain tree path Folder rest now f o e = absurd (f refl)
visits_plain tree path Other rest now f o e = absurd (o refl)

pub visits_file : (tree : Tree) (found : List Found) (next : Found) (waiting found_now waiting_now : List Found) → AreBelow (length found) waiting → found_now ≡ found ++ next ∷ [] → waiting_now ≡ waiting → (next.what ≡ Folder → ⊥) → (next.what ≡ Other → ⊥) → Visits tree (path_in (paths_of found) next) next.what (items_under (paths_of found) waiting) (items_under (paths_of found_now) waiting_now)
visits_file tree found next waiting found_now waiting_now below pushed waits f o =
    visits_plain tree (path_in (paths_of found) next) next.what (items_under (paths_of found) waiting) (items_under (paths_of found_now) waiting_now) f o
    (ap (λ (fs : List Found). items_under (paths_of fs) waiting_now) pushed ∙ ap (λ (ws : List Found). items_under (paths_of (found ++ next ∷ [])) ws) waits ∙ under_pass found next waiting below)

-- an item that may not stand in a folder is why there is no walk
pub explains_walk : (tree : Tree) (path : List ℕ) (what : What) (before rest : List Item) (fault : DirFault) → Takes tree (root ∷ []) before ((path, what) ∷ rest) → AllFit before → ExplainsItem path what fault → ExplainsWalk tree fault
explains_walk tree path what before rest (OtherKind other) takes fit h =
    let comes : ComesTo tree path what = record { before = before; rest = rest; takes = takes; fit = fit } in
    (subst (λ (p : List ℕ). ComesTo tree p Other) (sym h.1) (subst (λ (w : What). ComesTo tree path w) h.0 comes), subst (λ (p : List ℕ). length p ≤ path_limit) (sym h.1) h.2)
explains_walk tree path what before rest (BadModes line) takes fit h = h
explains_walk tree path what before rest (Limit which number) takes fit h =
    let comes : ComesTo tree path what = record { before = before; rest = rest; takes = takes; fit = fit } in
    (path, what, comes, h)
explains_walk tree path what before rest ReadFault takes fit h = tt
explains_walk tree path what before rest Memory takes fit h = tt

-- what the walk comes to, once an item was visited
pub takes_found : (tree : Tree) (found : List Found) (next : Found) (waiting : List Found) (now : List Item) → Takes tree (root ∷ []) (items_of found) (items_under (paths_of found) (next ∷ waiting)) → Visits tree (path_in (paths_of found) next) next.what (items_under (paths_of found) waiting) now → Takes tree (root ∷ []) (items_of (found ++ next ∷ [])) now
takes_found tree found next waiting now takes visits =
    subst (λ (items : List Item). Takes tree (root ∷ []) items now) (sym (items_push [] found next)) (takes_push tree (root ∷ []) (items_of found) (item_under (paths_of found) next) (items_under (paths_of found) waiting) now takes visits)

pub fit_found : (found : List Found) (next : Found) → AllFit (items_of found) → Fits (path_in (paths_of found) next) next.what → AllFit (items_of (found ++ next ∷ []))
fit_found found next fit fits = subst AllFit (sym (items_push [] found next)) (fit_push (items_of found) (item_under (paths_of found) next) fit fits)

-- what waits below so many is placed behind them
pub below_placed : (n : ℕ) (f : Found) → f.above < n → IsPlaced n f
below_placed n f lt = record { above = omega (arith, lt); first = λ none. absurd (omega (arith, lt, none)) }
