-- The table of what a walk found.
use Rattle.std.proofs.Common.{◌≡◌, ◌≢◌, ℕ, zero, suc, ◌+◌, ◌<◌, ◌≤◌, Bool, cond, Some, None, List, [], ◌∷◌, ◌++◌, length, map, take, get_or, Contains, refl, sym, ap, ◌∙◌, arith, length-append}
use Rattle.std.specs.Prelude.{string_bytes, All}
use Rattle.std.specs.List.{AllByRecursion}
use Rattle.std.proofs.lemmas.List.{length-map, map-append, take_more}
use Rattle.std.proofs.lemmas.Slice.Eq.{bytes_eq-Decides}
use Rattle.std.proofs.Math.Seq.{get_or-append_seam}
use Rattle.swh_base.specs.Directory.{IsEntryName}
use Rattle.swh_outside.specs.Folder.{IsFolderEntryName}
use Rattle.swh_outside.specs.declared.folder.What.TheVariants.{Folder}
use Rattle.swh_dirload.specs.declared.found.Found.{Found}
use Rattle.swh_dirmade.specs.declared.member.Member.{Member}
use Rattle.swh_dirmade.specs.declared.spot.Spot.{Spot}
use Rattle.swh_dirload.specs.Items.{Item}
use Rattle.swh_dirload.specs.Found as found
use Rattle.swh_dirload.specs.Found.{HavePaths}
use Rattle.swh_dirload.specs.Lines.{spot_of}
use Rattle.swh_dirmade.specs.Spots.{path_at, path_in, paths_behind, path_to, above_at, name_at, place_at, ArePlaced, AreApart, AreNamed, AreNamedBehind, IsTable, Stand}
use Rattle.swh_dirload.specs.Places.{places_of}
use Rattle.swh_dirmade.proofs.Trees.{unique}
use Rattle.swh_dirmade.proofs.SpotTables.{stays, tree_of}
use Rattle.swh_dirload.proofs.Indexes.{test_apart}

-- what was found, as a spot
pub spot_in : Found → Spot
spot_in f = spot_of f.above (string_bytes f.name)

-- one more
pub spots_more : (all : List Found) (k : ℕ) (item : Found) (spots now : List Spot) (name : List ℕ) → k < length all → item ≡ get_or all k item → spots ≡ map spot_in (take k all) → name ≡ string_bytes item.name → now ≡ spots ++ spot_of item.above name ∷ [] → now ≡ map spot_in (take (k + 1) all)
unfolding spot_in
spots_more all k item spots now name lt is old named pushed =
    let last : spot_of item.above name ≡ spot_in (get_or all k item) = ap (λ (n : List ℕ). spot_of item.above n) named ∙ ap spot_in is in
    pushed ∙ ap (λ (ss : List Spot). ss ++ spot_of item.above name ∷ []) old ∙ ap (λ (s : Spot). map spot_in (take k all) ++ s ∷ []) last ∙ sym (ap (map spot_in) (take_more all k item lt) ∙ map-append spot_in (take k all) (get_or all k item ∷ []))

take_all : (k : ℕ) (fs : List Found) → length fs ≤ k → take k fs ≡ fs
take_all zero [] le = refl
take_all zero (f ∷ fs) le = absurd (omega (arith, le))
take_all (suc k) [] le = refl
take_all (suc k) (f ∷ fs) le = ap (λ (rest : List Found). f ∷ rest) (take_all k fs (omega (arith, le)))

-- all of them
pub spots_all : (all : List Found) (k : ℕ) (spots : List Spot) → length all ≤ k → spots ≡ map spot_in (take k all) → spots ≡ map spot_in all
spots_all all k spots le is = is ∙ ap (map spot_in) (take_all k all le)

pub length_spots : (fs : List Found) → length (map spot_in fs) ≡ length fs
length_spots fs = length-map fs spot_in

placed_spots : (n : ℕ) (fs : List Found) → found.ArePlaced n fs → ArePlaced n (map spot_in fs)
unfolding spot_in
placed_spots n [] placed = tt
placed_spots n (f ∷ fs) placed = (record { above = placed.0.above; first = placed.0.first }, placed_spots (n + 1) fs placed.1)

none_of : (bytes : List ℕ) (b : ℕ) → All (λ c. c ≢ b) bytes → Contains bytes b → ⊥
none_of bytes b all has = all has.0 b has.1 has.2

good_name : (name : List ℕ) → IsFolderEntryName name → IsEntryName name
good_name name good = record { not_empty = good.some; no_nul = none_of name 0 good.no_end; no_slash = none_of name 47 good.plain }

apart_spots : (f : Found) (fs : List Found) → AllByRecursion (found.AreApart f) fs → AllByRecursion (AreApart (spot_in f)) (map spot_in fs)
unfolding spot_in
apart_spots f [] apart = tt
apart_spots f (g ∷ fs) apart = (apart.0, apart_spots f fs apart.1)

named_spots : (fs : List Found) → found.AreNamed fs → AreNamed (map spot_in fs)
unfolding spot_in
named_spots [] named = tt
named_spots (f ∷ fs) named = (good_name (string_bytes f.name) named.0, apart_spots f fs named.1, named_spots fs named.2)

behind_spots : (fs : List Found) → found.AreNamedBehind fs → AreNamedBehind (map spot_in fs)
behind_spots [] named = tt
behind_spots (f ∷ fs) named = named_spots fs named

pub table_of : (fs : List Found) → 0 < length fs → found.ArePlaced 0 fs → found.AreNamedBehind fs → IsTable (map spot_in fs)
table_of fs some placed named = record {
  some = omega (arith, some, length-map fs spot_in);
  placed = placed_spots 0 fs placed;
  named = behind_spots fs named;
}

-- the path of an item, by its number
item_path : (paths : List (List ℕ)) (fs : List Found) (n : ℕ) (d : Item) → n < length fs → (get_or (found.items_behind paths fs) n d).0 ≡ path_at (paths_behind paths (map spot_in fs)) (length paths + n)
unfolding spot_in
item_path paths [] n d lt = absurd (omega (arith, lt))
item_path paths (f ∷ fs) zero d lt =
    let here = path_in paths (spot_in f) in
    let more = paths ++ here ∷ [] in
    let e : length paths + 0 ≡ length paths = omega arith in
    let at : path_at (paths_behind more (map spot_in fs)) (length paths) ≡ here = stays more (map spot_in fs) (length paths) (omega (arith, length-append paths (here ∷ []))) ∙ get_or-append_seam paths here [] [] in
    sym (ap (path_at (paths_behind more (map spot_in fs))) e ∙ at)
item_path paths (f ∷ fs) (suc n) d lt =
    let here = path_in paths (spot_in f) in
    let more = paths ++ here ∷ [] in
    let e : length more + n ≡ length paths + suc n = omega (arith, length-append paths (here ∷ [])) in
    item_path more fs n d (omega (arith, lt)) ∙ ap (path_at (paths_behind more (map spot_in fs))) e

pub length_items : (paths : List (List ℕ)) (fs : List Found) → length (found.items_behind paths fs) ≡ length fs
length_items paths [] = refl
length_items paths (f ∷ fs) = let h = length_items (paths ++ found.path_in paths f ∷ []) fs in omega (arith, h)

-- the first item of a path tells what stands there
first_match : (items : List Item) (standing : List Member) (path : List ℕ) (n : ℕ) (d : Item) → n < length items → length standing ≡ length items → (get_or items n d).0 ≡ path → ((k : ℕ) → k < n → (get_or items k d).0 ≡ path → ⊥) → places_of items standing path ≡ Some (place_at standing n)
first_match [] standing path n d lt count is first = absurd (omega (arith, lt))
first_match (i ∷ items) [] path n d lt count is first = absurd (omega (arith, count))
first_match (i ∷ items) (s ∷ standing) path zero d lt count is first = ap (λ (b : Bool). cond b (Some s) (places_of items standing path)) ((bytes_eq-Decides path i.0).1 (sym is))
first_match (i ∷ items) (s ∷ standing) path (suc n) d lt count is first =
    ap (λ (b : Bool). cond b (Some s) (places_of items standing path)) (test_apart path i.0 (λ e. first 0 (omega arith) (sym e)))
    ∙ first_match items standing path n d (omega (arith, lt)) (omega (arith, count)) is (λ k low. first (suc k) (omega (arith, low)))

no_match : (items : List Item) (standing : List Member) (path : List ℕ) (d : Item) → ((k : ℕ) → k < length items → (get_or items k d).0 ≡ path → ⊥) → places_of items standing path ≡ None
no_match [] standing path d none = refl
no_match (i ∷ items) [] path d none = refl
no_match (i ∷ items) (s ∷ standing) path d none =
    ap (λ (b : Bool). cond b (Some s) (places_of items standing path)) (test_apart path i.0 (λ e. none 0 (omega arith) (sym e)))
    ∙ no_match items standing path d (λ k low. none (suc k) (omega (arith, low)))

-- the paths of what was found
pub paths_found : (fs : List Found) → HavePaths (map spot_in fs) (found.items_of fs)
paths_found fs = λ k lt.
    let m = length-map fs spot_in in
    let d : Item = ([], Folder) in
    let e : 0 + k ≡ k = omega arith in
    sym (item_path [] fs k d (omega (arith, lt, m)) ∙ ap (path_to (map spot_in fs)) e)

pub stand_found : (fs : List Found) (standing : List Member) → IsTable (map spot_in fs) → length standing ≡ length fs → Stand (map spot_in fs) standing (places_of (found.items_of fs) standing)
stand_found fs standing table count =
    let items = found.items_of fs in
    let n = length_items [] fs in
    let m = length-map fs spot_in in
    let d : Item = ([], Folder) in
    let same : (k : ℕ) → k < length fs → (get_or items k d).0 ≡ path_to (map spot_in fs) k = λ k lt. let e : 0 + k ≡ k = omega arith in item_path [] fs k d lt ∙ ap (path_to (map spot_in fs)) e in
    record {
      there = λ k lt.
          let kin : k < length fs = omega (arith, lt, m) in
          first_match items standing (path_to (map spot_in fs) k) k d (omega (arith, kin, n)) (omega (arith, count, n)) (same k kin) (λ j low e.
          let jin : j < length fs = omega (arith, low, kin) in
          let j_is = unique (length (map spot_in fs)) (path_to (map spot_in fs)) (above_at (map spot_in fs)) (name_at (map spot_in fs)) (tree_of (map spot_in fs) table) j k (omega (arith, jin, m)) lt (sym (same j jin) ∙ e) in
          omega (arith, low, j_is));
      nowhere = λ path free. no_match items standing path d (λ k low e. let kin : k < length fs = omega (arith, low, n) in free k (omega (arith, kin, m)) (sym (same k kin) ∙ e));
    }
