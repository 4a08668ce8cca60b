-- Directories that are too long, in the order of the walk.
use Rattle.std.proofs.Common.{◌≡◌, inl, inr, ℕ, zero, suc, ◌+◌, ◌<◌, ◌≤◌, Some, List, [], ◌∷◌, ◌++◌, length, take, get_or, refl, sym, ap, ◌∙◌, subst, arith}
use Rattle.std.proofs.lemmas.List.{get_or-take, length-take-le, take_all}
use Rattle.swh_base.specs.declared.kind.Kind.{Kind}
use Rattle.swh_base.specs.declared.entry.Entry.{Entry}
use Rattle.swh_base.specs.Limits.{body_limit}
use Rattle.swh_outside.specs.Folder.{Tree}
use Rattle.swh_outside.specs.declared.folder.What.{What}
use Rattle.swh_outside.specs.declared.folder.What.TheVariants as item
use Rattle.swh_dedup.proofs.Elements.{all_from}
use Rattle.swh_dirmade.specs.declared.member.Member.{Member}
use Rattle.swh_dirmade.specs.declared.member.Member.TheVariants as stands
use Rattle.swh_dirmade.specs.declared.spot.Spot.{Spot}
use Rattle.swh_dirmade.specs.Directories.{HasSize}
use Rattle.swh_dirmade.specs.Numbers.{IsFolderAt}
use Rattle.swh_dirmade.specs.Sizes as sizes
use Rattle.swh_dirmade.specs.Spots.{Places, path_to, place_at, IsTable, Stand}
use Rattle.swh_dirmade.proofs.SpotTables.{tree_of}
use Rattle.swh_dirload.specs.Found.{HavePaths, item_at}
use Rattle.swh_dirload.specs.Items.{Item}
use Rattle.swh_dirload.specs.Lines.{GoesOn}
use Rattle.swh_dirload.specs.Meaning.{AreShort, IsFirstLong}
use Rattle.swh_dirload.specs.Reading.{IsRead, ReadsAll}
use Rattle.swh_dirload.specs.Walk.{root, Takes, IsWalk}
use Rattle.swh_dirload.proofs.Sizes.{has_size}

-- what stands at a number is of the kind of its item
pub record HaveKinds (items : List Item) (standing : List Member) : Type 0 where
  pub count : length standing ≡ length items
  pub to : (n : ℕ) → n < length items → (item_at items n).1 ≡ item.Folder → place_at standing n ≡ stands.Folder
  pub from : (n : ℕ) → n < length items → place_at standing n ≡ stands.Folder → (item_at items n).1 ≡ item.Folder

module _ (id : Kind → List ℕ → List ℕ) (tree : Tree) where
  kind_to : (path : List ℕ) (what : What) (count : ℕ) (old : List Entry) (place : Member) (new : List Entry) → IsRead id tree path what count old place new → what ≡ item.Folder → place ≡ stands.Folder
  kind_to path item.File count old place new h e = absurd (cc)
  kind_to path item.Folder count old place new h e = h.1
  kind_to path item.Other count old place new h e = absurd h

  kind_from : (path : List ℕ) (what : What) (count : ℕ) (old : List Entry) (place : Member) (new : List Entry) → IsRead id tree path what count old place new → place ≡ stands.Folder → what ≡ item.Folder
  kind_from path item.File count old place new h e = let f = h.3 in absurd (cc)
  kind_from path item.Folder count old place new h e = refl
  kind_from path item.Other count old place new h e = absurd h

  pub kinds : (at : ℕ) (old : List Entry) (items : List Item) (places : List Member) (now : ℕ) (new : List Entry) → ReadsAll id tree at old items places now new → HaveKinds items places
  kinds at old [] [] now new h = record { count = refl; to = λ n lt is. absurd (omega (arith, lt)); from = λ n lt is. absurd (omega (arith, lt)) }
  kinds at old [] (p ∷ places) now new h = absurd h
  kinds at old (i ∷ items) [] now new h = absurd h
  kinds at old (i ∷ items) (p ∷ places) now new h =
      let rest = kinds (at + h.0) h.1 items places now new h.4 in
      let c = rest.count in
      record { count = omega (arith, c); to = to rest; from = from rest }
    where
      to : HaveKinds items places → (n : ℕ) → n < length (i ∷ items) → (item_at (i ∷ items) n).1 ≡ item.Folder → place_at (p ∷ places) n ≡ stands.Folder
      to rest zero lt is = kind_to i.0 i.1 h.0 old p h.1 h.2 is
      to rest (suc n) lt is = rest.to n (omega (arith, lt)) is

      from : HaveKinds items places → (n : ℕ) → n < length (i ∷ items) → place_at (p ∷ places) n ≡ stands.Folder → (item_at (i ∷ items) n).1 ≡ item.Folder
      from rest zero lt is = kind_from i.0 i.1 h.0 old p h.1 h.2 is
      from rest (suc n) lt is = rest.from n (omega (arith, lt)) is

first_root : (tree : Tree) (items : List Item) → Takes tree (root ∷ []) items [] → item_at items 0 ≡ root
first_root tree [] h = absurd (cc)
first_root tree (i ∷ items) h = let e = h.2 in cc

some_of : (tree : Tree) (items : List Item) → Takes tree (root ∷ []) items [] → 0 < length items
some_of tree [] h = absurd (cc)
some_of tree (i ∷ items) h = omega arith

-- the items before one, it, and those behind it
pub cut_at : (items : List Item) (n : ℕ) → n < length items → (rest : List Item) × (items ≡ take n items ++ item_at items n ∷ rest)
cut_at [] n lt = absurd (omega (arith, lt))
cut_at (i ∷ items) zero lt = (items, refl)
cut_at (i ∷ items) (suc n) lt = let h = cut_at items n (omega (arith, lt)) in (h.0, ap (λ (rest : List Item). i ∷ rest) h.1)

module _ (items : List Item) (spots : List Spot) (standing : List Member) (spots_now : List Spot) (standing_now : List Member) (places : Places) (table : IsTable spots_now) (stand : Stand spots_now standing_now places) (paths : HavePaths spots items) (count : length spots ≡ length items) (kept : HaveKinds items standing) (on : GoesOn spots standing spots_now standing_now) where
  path_is : (n : ℕ) → n < length items → path_to spots_now n ≡ (item_at items n).0
  path_is n lt = on.paths n (omega (arith, lt, count)) ∙ paths n (omega (arith, lt, count))

  -- no folder before a number is too long
  pub short_front : (n : ℕ) → n ≤ length items → sizes.AreShortBelow spots_now standing_now n → AreShort places (take n items)
  short_front n le short = all_from (λ (i : Item). i.1 ≡ item.Folder → (size : ℕ) × HasSize places i.0 size × (size ≤ body_limit)) (take n items) (λ i c folder.
      let k = c.0 in
      let l = length-take-le n items le in
      let lt = c.1 in
      let low : k < n = omega (arith, lt, l) in
      let high : k < length items = omega (arith, low, le) in
      let is : item_at items k ≡ i = any_default items k root i high ∙ sym (get_or-take n items k i low) ∙ c.2 in
      let m = on.more in
      let within : k < length spots_now = omega (arith, high, count, m) in
      let there : place_at standing_now k ≡ stands.Folder = on.stay k (omega (arith, high, count)) (kept.to k high (ap (λ (j : Item). j.1) is ∙ folder)) in
      (sizes.size_of spots_now standing_now k, subst (λ (p : List ℕ). HasSize places p (sizes.size_of spots_now standing_now k)) (path_is k high ∙ ap (λ (j : Item). j.0) is) (has_size spots_now standing_now table places stand k within), short k low (inr there)))
    where
      any_default : (xs : List Item) (k : ℕ) (d e : Item) → k < length xs → get_or xs k d ≡ get_or xs k e
      any_default [] k d e lt = absurd (omega (arith, lt))
      any_default (x ∷ xs) zero d e lt = refl
      any_default (x ∷ xs) (suc k) d e lt = any_default xs k d e (omega (arith, lt))

  -- none is
  pub all_short : sizes.AreShort spots_now standing_now → AreShort places items
  all_short short =
      let m = on.more in
      subst (AreShort places) (take_all (length items) items (omega arith)) (short_front (length items) (omega arith) (λ k lt folder. short k (omega (arith, lt, count, m)) folder))

  folder_item : (tree : Tree) → Takes tree (root ∷ []) items [] → (n : ℕ) → n < length spots_now → IsFolderAt standing_now n → (n < length items) × ((item_at items n).1 ≡ item.Folder)
  folder_item tree takes n lt (inl first) =
      let some = some_of tree items takes in
      (omega (arith, first, some), ap (λ (k : ℕ). (item_at items k).1) first ∙ ap (λ (i : Item). i.1) (first_root tree items takes))
  folder_item tree takes n lt (inr is) =
      let h = on.folders n lt is in
      let low = h.0 in
      let within : n < length items = omega (arith, low, count) in
      (within, kept.from n within h.1)

  -- the first that is too long
  pub first_long : (tree : Tree) (size : ℕ) → IsWalk tree items → sizes.IsFirstLong spots_now standing_now size → IsFirstLong places items size
  first_long tree size walk long =
      let n = long.number in
      let here = folder_item tree walk.all n long.within long.folder in
      let lt = here.0 in
      let cut = cut_at items n here.0 in
      let dir = (item_at items n).0 in
      let is : item_at items n ≡ (dir, item.Folder) = ap (λ (w : What). let i : Item = (dir, w) in i) here.1 in
      record {
        before = take n items;
        dir = dir;
        rest = cut.0;
        cut = cut.1 ∙ ap (λ (i : Item). take n items ++ i ∷ cut.0) is;
        short = short_front n (omega (arith, lt)) long.before;
        is = subst (λ (p : List ℕ). HasSize places p size) (path_is n here.0) (subst (HasSize places (path_to spots_now n)) (sym long.is) (has_size spots_now standing_now table places stand n long.within));
        long = long.long;
      }

  -- the folder itself stands at the empty path
  pub root_stands : (tree : Tree) → Takes tree (root ∷ []) items [] → places [] ≡ Some stands.Folder
  root_stands tree takes =
      let some = some_of tree items takes in
      let m = on.more in
      let first : 0 < length spots = omega (arith, some, count) in
      let there : place_at standing_now 0 ≡ stands.Folder = on.stay 0 first (kept.to 0 some (ap (λ (i : Item). i.1) (first_root tree items takes))) in
      ap places (sym (tree_of spots_now table).first) ∙ stand.there 0 (omega (arith, first, m)) ∙ ap (λ (p : Member). Some p) there
