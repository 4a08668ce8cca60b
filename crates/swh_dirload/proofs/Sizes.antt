-- How long the directories of a table are, by what stands at its paths.
use Rattle.std.proofs.Common.{◌≡◌, ◌≢◌, inl, inr, ℕ, ◌+◌, ◌-◌, ◌<◌, Some, None, List, [], ◌∷◌, length, map, get_or, Contains, refl, sym, ap, ◌∙◌, subst, arith}
use Rattle.std.specs.List.{AllPairs, sum_by}
use Rattle.std.proofs.lemmas.List.{length-map, get_or-map}
use Rattle.std.proofs.lemmas.List.Sums.{sum_by-cons}
use Rattle.swh_base.specs.Directory.{IsEntryName}
use Rattle.swh_dedup.proofs.Elements.{contains_map, from_map}
use Rattle.swh_dirmade.specs.declared.member.Member.{Member}
use Rattle.swh_dirmade.specs.declared.spot.Spot.{Spot}
use Rattle.swh_dirmade.specs.Directories.{Row, row_size, HasSize}
use Rattle.swh_dirmade.specs.Numbers.{numbers_from}
use Rattle.swh_dirmade.specs.Paths.{child}
use Rattle.swh_dirmade.specs.Sizes.{size_at, size_of}
use Rattle.swh_dirmade.specs.Spots.{Places, path_to, above_at, name_at, place_at, IsTable, Stand}
use Rattle.swh_dirmade.proofs.Directories.{find, the_place}
use Rattle.swh_dirmade.proofs.Numbers.{bounds, has_number, names_once}
use Rattle.swh_dirmade.proofs.SpotTables.{tree_of, entry_name}
use Rattle.swh_dirmade.proofs.Trees.{parent}

-- the row of a spot
abbrev pub row_at : List Spot → List Member → ℕ → Row
row_at spots standing number = (name_at spots number, place_at standing number)

none_some : (p : Member) → None ≡ Some p → ⊥
none_some p e = absurd (cc)

sum_rows : (spots : List Spot) (standing : List Member) (ns : List ℕ) → sum_by (size_at spots standing) ns ≡ sum_by row_size (map (row_at spots standing) ns)
sum_rows spots standing [] = refl
sum_rows spots standing (n ∷ ns) =
    let rest = sum_rows spots standing ns in
    sum_by-cons (size_at spots standing) n ns ∙ ap (λ (s : ℕ). size_at spots standing n + s) rest ∙ sym (sum_by-cons row_size (row_at spots standing n) (map (row_at spots standing) ns))

module _ (spots : List Spot) (standing : List Member) (table : IsTable spots) (places : Places) (stand : Stand spots standing places) where
  module _ (folder : ℕ) (within : folder < length spots) where
    rows_once : AllPairs (λ a b. a.0 ≢ b.0) (map (row_at spots standing) (numbers_from spots folder 1))
    rows_once = λ i j d lt high e.
        let numbers = numbers_from spots folder 1 in
        let l = length-map numbers (row_at spots standing) in
        let m = length-map numbers (name_at spots) in
        let jin : j < length numbers = omega (arith, high, l) in
        let iin : i < length numbers = omega (arith, lt, jin) in
        let first : get_or (map (name_at spots) numbers) i d.0 ≡ (get_or (map (row_at spots standing) numbers) i d).0 = get_or-map (name_at spots) numbers i 0 d.0 iin ∙ ap (λ (r : Row). r.0) (sym (get_or-map (row_at spots standing) numbers i 0 d iin)) in
        let second : get_or (map (name_at spots) numbers) j d.0 ≡ (get_or (map (row_at spots standing) numbers) j d).0 = get_or-map (name_at spots) numbers j 0 d.0 jin ∙ ap (λ (r : Row). r.0) (sym (get_or-map (row_at spots standing) numbers j 0 d jin)) in
        names_once spots folder 1 table (omega arith) (omega (arith, within)) i j d.0 lt (omega (arith, jin, m)) (first ∙ e ∙ sym second)

    row_there : (row : Row) → Contains (map (row_at spots standing) (numbers_from spots folder 1)) row → IsEntryName row.0 × (places (child (path_to spots folder) row.0) ≡ Some row.1)
    row_there row c =
        let numbers = numbers_from spots folder 1 in
        let f = from_map (row_at spots standing) numbers row c in
        let i = f.0 in
        let b = bounds spots folder 1 i (omega (arith, within)) f.1 in
        let some = b.0 in
        let named : name_at spots i ≡ row.0 = ap (λ (r : Row). r.0) f.2 in
        let stands : place_at standing i ≡ row.1 = ap (λ (r : Row). r.1) f.2 in
        let path : path_to spots i ≡ child (path_to spots folder) row.0 = (tree_of spots table).step i some b.1.0 ∙ ap (λ (a : ℕ). child (path_to spots a) (name_at spots i)) b.1.1 ∙ ap (child (path_to spots folder)) named in
        (subst IsEntryName named (entry_name spots i table some b.1.0), ap places (sym path) ∙ stand.there i b.1.0 ∙ ap (λ (p : Member). Some p) stands)

    has_row : (row : Row) → IsEntryName row.0 × (places (child (path_to spots folder) row.0) ≡ Some row.1) → Contains (map (row_at spots standing) (numbers_from spots folder 1)) row
    has_row row h = elim (find spots (child (path_to spots folder) row.0)) [
      | inr free ↦ absurd (none_some row.1 (sym (stand.nowhere (child (path_to spots folder) row.0) free) ∙ h.1))
      | inl n ↦
          let i = n.0 in
          let up = parent (length spots) (path_to spots) (above_at spots) (name_at spots) (tree_of spots table) i folder row.0 n.1 within h.0.no_slash h.0.not_empty n.2 in
          let some = up.0 in
          let high = n.1 in
          let stands : place_at standing i ≡ row.1 = the_place (place_at standing i) row.1 (sym (stand.there i n.1) ∙ ap places n.2 ∙ h.1) in
          let is : row_at spots standing i ≡ row = ap (λ (name : List ℕ). let r : Row = (name, place_at standing i) in r) up.1.1 ∙ ap (λ (p : Member). let r : Row = (row.0, p) in r) stands in
          let among : Contains (numbers_from spots folder 1) i = has_number spots folder 1 (length spots - 1) i (omega (arith, some)) (omega (arith, high)) up.1.0 in
          subst (Contains (map (row_at spots standing) (numbers_from spots folder 1))) is (contains_map (row_at spots standing) (numbers_from spots folder 1) i among)
    ]

    pub has_size : HasSize places (path_to spots folder) (size_of spots standing folder)
    has_size = record {
      rows = map (row_at spots standing) (numbers_from spots folder 1);
      once = rows_once;
      all = λ row. (row_there row, has_row row);
      sum = sum_rows spots standing (numbers_from spots folder 1);
    }
