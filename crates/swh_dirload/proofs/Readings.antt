-- Files that are read one after another.
use Rattle.std.proofs.Common.{◌≡◌, ℕ, zero, suc, ◌+◌, ◌<◌, ◌≤◌, List, [], ◌∷◌, ◌++◌, length, take, get_or, refl, sym, ap, ◌∙◌, subst, arith}
use Rattle.std.proofs.lemmas.List.{take_more}
use Rattle.swh_base.specs.declared.kind.Kind.{Kind}
use Rattle.swh_base.specs.declared.entry.Entry.{Entry}
use Rattle.swh_outside.specs.Folder.{Tree}
use Rattle.swh_outside.specs.declared.folder.What.TheVariants.{Other}
use Rattle.swh_dirload.specs.declared.fault.DirFault.{DirFault}
use Rattle.swh_dirload.specs.declared.fault.DirFault.TheVariants.{OtherKind, BadModes, Limit, ReadFault, Memory}
use Rattle.swh_dirload.specs.declared.found.Found.{Found}
use Rattle.swh_dirload.specs.declared.limits.TheConstants.{FILES_LIMIT}
use Rattle.swh_dirmade.specs.declared.member.Member.{Member}
use Rattle.swh_dirload.specs.Found.{path_in, item_under, paths_behind, items_behind, paths_of, items_of, ArePlaced}
use Rattle.swh_dirload.specs.Items.{Item, Fits}
use Rattle.swh_dirload.specs.Walk.{AllFit}
use Rattle.swh_dirload.specs.Reading.{IsRead, ReadsAll, ExplainsRead, ExplainsReading}
use Rattle.swh_dirload.proofs.Tables.{items_push}

pub placed_take : (n : ℕ) (found : List Found) (k : ℕ) → ArePlaced n found → ArePlaced n (take k found)
placed_take n found zero placed = tt
placed_take n [] (suc k) placed = tt
placed_take n (f ∷ found) (suc k) placed = (placed.0, placed_take (n + 1) found k placed.1)

-- the items before one of a table, and those after it
items_around : (paths : List (List ℕ)) (found : List Found) (k : ℕ) (d : Found) → k < length found → (rest : List Item) × (items_behind paths found ≡ items_behind paths (take k found) ++ item_under (paths_behind paths (take k found)) (get_or found k d) ∷ rest)
items_around paths [] k d lt = absurd (omega (arith, lt))
items_around paths (f ∷ found) zero d lt = (items_behind (paths ++ path_in paths f ∷ []) found, refl)
items_around paths (f ∷ found) (suc k) d lt = let h = items_around (paths ++ path_in paths f ∷ []) found k d (omega (arith, lt)) in (h.0, ap (λ (items : List Item). item_under paths f ∷ items) h.1)

fits_middle : (xs : List Item) (y : Item) (ys : List Item) → AllFit (xs ++ y ∷ ys) → Fits y.0 y.1
fits_middle [] y ys fit = fit.0
fits_middle (x ∷ xs) y ys fit = fits_middle xs y ys fit.1

pub fits_at : (found : List Found) (k : ℕ) (d : Found) → AllFit (items_of found) → k < length found → (get_or found k d).what ≡ Other → ⊥
fits_at found k d fit lt = let around = items_around [] found k d lt in (fits_middle (items_of (take k found)) (item_under (paths_of (take k found)) (get_or found k d)) around.0 (subst AllFit around.1 fit)).0

module _ (id : Kind → List ℕ → List ℕ) (tree : Tree) where
  reads_push : (at : ℕ) (old : List Entry) (items : List Item) (places : List Member) (mid : ℕ) (given : List Entry) (item : Item) (count : ℕ) (place : Member) (new : List Entry) → ReadsAll id tree at old items places mid given → IsRead id tree item.0 item.1 count given place new → mid + count ≤ FILES_LIMIT → ReadsAll id tree at old (items ++ item ∷ []) (places ++ place ∷ []) (mid + count) new
  reads_push at old [] [] mid given item count place new h read within =
      let here : IsRead id tree item.0 item.1 count old place new = subst (λ (es : List Entry). IsRead id tree item.0 item.1 count es place new) (sym h.1) read in
      let e = h.0 in
      (count, new, here, omega (arith, e, within), (omega (arith, e), refl))
  reads_push at old [] (p ∷ places) mid given item count place new h read within = absurd h
  reads_push at old (i ∷ items) [] mid given item count place new h read within = absurd h
  reads_push at old (i ∷ items) (p ∷ places) mid given item count place new h read within =
      (h.0, h.1, h.2, h.3, reads_push (at + h.0) h.1 items places mid given item count place new h.4 read within)

  pub reads_more : (old : List Entry) (found : List Found) (k : ℕ) (d : Found) (places : List Member) (mid now : ℕ) (given : List Entry) (path : List ℕ) (place : Member) (new : List Entry) → k < length found → path ≡ path_in (paths_of (take k found)) (get_or found k d) → ReadsAll id tree 0 old (items_of (take k found)) places mid given → ((count : ℕ) × (now ≡ mid + count) × IsRead id tree path (get_or found k d).what count given place new) → now ≤ FILES_LIMIT → ReadsAll id tree 0 old (items_of (take (k + 1) found)) (places ++ place ∷ []) now new
  reads_more old found k d places mid now given path place new lt named h read within =
      let item = item_under (paths_of (take k found)) (get_or found k d) in
      let count = read.0 in
      let e = read.1 in
      let here : IsRead id tree item.0 item.1 count given place new = subst (λ (p : List ℕ). IsRead id tree p (get_or found k d).what count given place new) named read.2 in
      let pushed : ReadsAll id tree 0 old (items_of (take k found) ++ item ∷ []) (places ++ place ∷ []) (mid + count) new = reads_push 0 old (items_of (take k found)) places mid given item count place new h here (omega (arith, e, within)) in
      let items : items_of (take k found) ++ item ∷ [] ≡ items_of (take (k + 1) found) = sym (items_push [] (take k found) (get_or found k d)) ∙ ap items_of (sym (take_more found k d lt)) in
      subst (λ (n : ℕ). ReadsAll id tree 0 old (items_of (take (k + 1) found)) (places ++ place ∷ []) n new) (sym e) (subst (λ (is : List Item). ReadsAll id tree 0 old is (places ++ place ∷ []) (mid + count) new) items pushed)

  pub stops_at : (old : List Entry) (found : List Found) (k : ℕ) (d : Found) (places : List Member) (at : ℕ) (given : List Entry) (path : List ℕ) (fault : DirFault) → k < length found → path ≡ path_in (paths_of (take k found)) (get_or found k d) → ReadsAll id tree 0 old (items_of (take k found)) places at given → ExplainsRead id tree at path (get_or found k d).what fault → ExplainsReading id tree old (items_of found) fault
  stops_at old found k d places at given path (OtherKind other) lt named h bad = bad
  stops_at old found k d places at given path (BadModes line) lt named h bad = bad
  stops_at old found k d places at given path (Limit which number) lt named h bad =
      let here : ExplainsRead id tree at (path_in (paths_of (take k found)) (get_or found k d)) (get_or found k d).what (Limit which number) = subst (λ (p : List ℕ). ExplainsRead id tree at p (get_or found k d).what (Limit which number)) named bad in
      let around = items_around [] found k d lt in
      record {
        before = items_of (take k found);
        path = path_in (paths_of (take k found)) (get_or found k d);
        kind = (get_or found k d).what;
        rest = around.0;
        cut = around.1;
        places = places;
        at = at;
        given = given;
        reads = h;
        breaks = here;
      }
  stops_at old found k d places at given path ReadFault lt named h bad = tt
  stops_at old found k d places at given path Memory lt named h bad = tt
