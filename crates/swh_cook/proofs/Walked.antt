-- The walk of a folder in which what was made of a directory stands.
use Rattle.std.proofs.Common.{◌≡◌, ℕ, ◌≤◌, ◌==◌, Bool, true, false, cond, Option, Some, None, List, [], ◌∷◌, ◌++◌, length, map, Contains, refl, sym, ap, ◌∙◌, subst, arith}
use Rattle.std.specs.List.{filter_map, cons_option}
use Rattle.std.specs.Option.{option_map}
use Rattle.std.proofs.lemmas.Bool.{eqb-true}
use Rattle.std.proofs.lemmas.List.{append_assoc, append-nil}
use Rattle.std.proofs.lemmas.List.Elements.{Contains-append_left, Contains-append_right, filter_map-append}
use Rattle.swh_base.specs.Directory.{DirectoryEntry}
use Rattle.swh_base.specs.Limits.{path_limit}
use Rattle.swh_dedup.proofs.Elements.{first_is, later_is}
use Rattle.swh_outside.specs.Folder.{FolderEntry, Tree as Held}
use Rattle.swh_outside.specs.declared.folder.What.{What}
use Rattle.swh_outside.specs.declared.folder.What.TheVariants.{File, Folder as FolderHere}
use Rattle.swh_model.specs.Archive.{Bodies}
use Rattle.swh_pathwalk.specs.Tree.{Tree, End, Leaf, Folder, entries_in, AreHeldUnder}
use Rattle.swh_dirmade.specs.Paths.{child}
use Rattle.swh_dirload.specs.Items.{Item, item_in, HasItems, Fits}
use Rattle.swh_dirload.specs.Walk.{root, Visits, Takes, AllFit, IsWalk}
use Rattle.swh_cook.proofs.Nodes.{Node, node_at, nodes}
use Rattle.swh_cook.proofs.Listed.{what_of, shown_of, shown}

-- what a folder has for a node: nothing for a revision of another project
abbrev pub item_of : Node → Option Item
item_of n = cond (n.entry.mode == 160000) None (Some (n.path, what_of n.entry.mode))

abbrev pub items_of : List Node → List Item
items_of ns = filter_map item_of ns

item_by : (dir : List ℕ) (e : DirectoryEntry) (p : Bool) → option_map (item_in dir) (cond p None (Some (let g : FolderEntry = record { name = e.name; what = what_of e.mode } in g))) ≡ cond p None (Some (child dir e.name, what_of e.mode))
item_by dir e true = refl
item_by dir e false = refl

-- an entry that is shown is the node's item
item_is : (dir : List ℕ) (e : DirectoryEntry) (inner : Tree) → option_map (item_in dir) (shown_of e) ≡ item_of (node_at dir e inner)
item_is dir e inner = item_by dir e (e.mode == 160000)

map_option : {X Y : Type 0} (f : X → Y) (o : Option X) (xs : List X) → map f (cons_option o xs) ≡ cons_option (option_map f o) (map f xs)
map_option f None xs = refl
map_option f (Some x) xs = refl

module _ (fs : Held) where
  -- a file, or nothing, is passed
  passes : (o : Option Item) → ((i : Item) → o ≡ Some i → i.1 ≡ File) → (waiting items now : List Item) → Takes fs waiting items now → Takes fs (cons_option o waiting) (cons_option o items) now
  passes None file waiting items now t = t
  passes (Some (path, what)) file waiting items now t =
      (waiting, waiting, refl, subst (λ (w : What). Visits fs path w waiting waiting) (sym (file (path, what) refl)) refl, t)

  leaf_by : (path : List ℕ) (mode : ℕ) (p f : Bool) → (mode == 160000) ≡ p → (mode == 40000) ≡ f → (mode ≡ 40000 → ⊥) → (i : Item) → cond p None (Some (path, cond f FolderHere File)) ≡ Some i → i.1 ≡ File
  leaf_by path mode true f a b leaf i e = absurd cc
  leaf_by path mode false true a b leaf i e = absurd (leaf (eqb-true mode 40000 b))
  leaf_by path mode false false a b leaf i e = ap (λ (o : Option Item). elim o [ None ↦ File | Some j ↦ j.1 ]) (sym e)

  leaf_file : (dir : List ℕ) (e : DirectoryEntry) → (e.mode ≡ 40000 → ⊥) → (i : Item) → item_of (node_at dir e End) ≡ Some i → i.1 ≡ File
  leaf_file dir e leaf i is = leaf_by (child dir e.name) e.mode (e.mode == 160000) (e.mode == 40000) refl refl leaf i is

  -- the items of each folder among the nodes are those of its directory
  abbrev pub HaveItems : List Node → Type 0
  HaveItems ns = (n : Node) → Contains ns n → n.entry.mode ≡ 40000 → HasItems fs n.path (map (item_in n.path) (shown (entries_in n.inner)))

  folder_item : (dir : List ℕ) (e : DirectoryEntry) (inner : Tree) → e.mode ≡ 40000 → item_of (node_at dir e inner) ≡ Some (child dir e.name, FolderHere)
  folder_item dir e inner is = ap (λ (m : ℕ). cond (m == 160000) None (Some (child dir e.name, what_of m))) is

  shown_items : (dir : List ℕ) (e : DirectoryEntry) (inner : Tree) (es : List DirectoryEntry) → map (item_in dir) (cons_option (shown_of e) (shown es)) ≡ cons_option (item_of (node_at dir e inner)) (map (item_in dir) (shown es))
  shown_items dir e inner es = map_option (item_in dir) (shown_of e) (shown es) ∙ ap (λ (o : Option Item). cons_option o (map (item_in dir) (shown es))) (item_is dir e inner)

  cons_behind : {X : Type 0} (o : Option X) (xs ys : List X) → cons_option o xs ++ ys ≡ cons_option o (xs ++ ys)
  cons_behind None xs ys = refl
  cons_behind (Some x) xs ys = refl

  module _ (bodies : Bodies) where
    walked : (tree : Tree) (dir : List ℕ) → AreHeldUnder bodies tree → HaveItems (nodes dir tree) → (rest items now : List Item) → Takes fs rest items now
        → Takes fs (map (item_in dir) (shown (entries_in tree)) ++ rest) (items_of (nodes dir tree) ++ items) now
    walked End dir held have rest items now t = t
    walked (Leaf e more) dir (leaf, held) have rest items now t =
        let inner = walked more dir held (λ n there folder. have n (later_is (node_at dir e End) (nodes dir more) n there) folder) rest items now t in
        let kids = map (item_in dir) (shown (entries_in more)) in
        let o = item_of (node_at dir e End) in
        let waiting : map (item_in dir) (cons_option (shown_of e) (shown (entries_in more))) ++ rest ≡ cons_option o (kids ++ rest) =
        ap (λ (l : List Item). l ++ rest) (shown_items dir e End (entries_in more)) ∙ cons_behind o kids rest in
        let taken : cons_option o (items_of (nodes dir more)) ++ items ≡ cons_option o (items_of (nodes dir more) ++ items) = cons_behind o (items_of (nodes dir more)) items in
        subst (λ (l : List Item). Takes fs l (cons_option o (items_of (nodes dir more)) ++ items) now) (sym waiting)
        (subst (λ (l : List Item). Takes fs (cons_option o (kids ++ rest)) l now) (sym taken) (passes o (leaf_file dir e leaf) (kids ++ rest) (items_of (nodes dir more) ++ items) now inner))
    walked (Folder e inner more) dir (is, holds, inside, held) have rest items now t =
        let first = node_at dir e inner in
        let here = nodes (child dir e.name) inner in
        let others = nodes dir more in
        let kids = map (item_in dir) (shown (entries_in more)) in
        let own = map (item_in (child dir e.name)) (shown (entries_in inner)) in
        let o = item_of first in
        let after = walked more dir held (λ n there folder. have n (later_is first (here ++ others) n (Contains-append_right here others n there)) folder) rest items now t in
        let before = walked inner (child dir e.name) inside (λ n there folder. have n (later_is first (here ++ others) n (Contains-append_left here others n there)) folder) (kids ++ rest) (items_of others ++ items) now after in
        let taken : Takes fs (own ++ (kids ++ rest)) (items_of here ++ (items_of others ++ items)) now = before in
        let waiting : map (item_in dir) (cons_option (shown_of e) (shown (entries_in more))) ++ rest ≡ (child dir e.name, FolderHere) ∷ (kids ++ rest) =
        ap (λ (l : List Item). l ++ rest) (shown_items dir e inner (entries_in more)) ∙ cons_behind o kids rest ∙ ap (λ (p : Option Item). cons_option p (kids ++ rest)) (folder_item dir e inner is) in
        let all_items : items_of (first ∷ (here ++ others)) ++ items ≡ (child dir e.name, FolderHere) ∷ (items_of here ++ (items_of others ++ items)) =
        ap (λ (l : List Item). l ++ items) (ap (λ (p : Option Item). cons_option p (items_of (here ++ others))) (folder_item dir e inner is))
        ∙ ap (λ (l : List Item). (child dir e.name, FolderHere) ∷ (l ++ items)) (filter_map-append item_of here others)
        ∙ ap (λ (l : List Item). (child dir e.name, FolderHere) ∷ l) (append_assoc (items_of here) (items_of others) items) in
        subst (λ (l : List Item). Takes fs l (items_of (first ∷ (here ++ others)) ++ items) now) (sym waiting)
        (subst (λ (l : List Item). Takes fs ((child dir e.name, FolderHere) ∷ (kids ++ rest)) l now) (sym all_items)
        (kids ++ rest, own ++ (kids ++ rest), refl, (own, have first (first_is first (here ++ others)) is, refl), taken))

    -- the whole walk
    pub whole_walk : (tree : Tree) → AreHeldUnder bodies tree → HaveItems (nodes [] tree) → HasItems fs [] (map (item_in []) (shown (entries_in tree))) → AllFit (items_of (nodes [] tree)) → IsWalk fs (root ∷ items_of (nodes [] tree))
    whole_walk tree held have top fit =
        let kids = map (item_in []) (shown (entries_in tree)) in
        let t = walked tree [] held have [] [] [] refl in
        record {
          all = ([], kids ++ [], refl, (kids, top, refl), subst (λ (l : List Item). Takes fs (kids ++ []) l []) (append-nil (items_of (nodes [] tree))) t);
          fit = ((λ e. cc, omega arith), fit);
        }

fit_by : (path : List ℕ) (p f : Bool) → length path ≤ path_limit → (i : Item) → cond p None (Some (path, cond f FolderHere File)) ≡ Some i → Fits i.0 i.1
fit_by path true f short i e = absurd cc
fit_by path false true short i e = subst (λ (j : Item). Fits j.0 j.1) (let s : (path, FolderHere) ≡ i = cc in s) (λ d. cc, short)
fit_by path false false short i e = subst (λ (j : Item). Fits j.0 j.1) (let s : (path, File) ≡ i = cc in s) (λ d. cc, short)

fit_option : (o : Option Item) (is : List Item) → ((i : Item) → o ≡ Some i → Fits i.0 i.1) → AllFit is → AllFit (cons_option o is)
fit_option None is one fit = fit
fit_option (Some i) is one fit = (one i refl, fit)

-- no path of the nodes is too long
pub all_fit : (ns : List Node) → ((n : Node) → Contains ns n → length n.path ≤ path_limit) → AllFit (items_of ns)
all_fit [] short = tt
all_fit (n ∷ ns) short =
    fit_option (item_of n) (items_of ns) (fit_by n.path (n.entry.mode == 160000) (n.entry.mode == 40000) (short n (first_is n ns))) (all_fit ns (λ m there. short m (later_is n ns m there)))
