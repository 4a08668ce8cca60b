-- Numbered folders keep their meaning as names and folders are added.
use Rattle.std.proofs.Common.{◌≡◌, ℕ, suc, ◌+◌, ◌<◌, ◌≤◌, eqb, Bool, true, false, cond, List, [], ◌∷◌, ◌++◌, length, map, reverse, get_or, Option, Some, None, refl, sym, ap, subst, ◌∙◌, inl, inr, arith}
use Rattle.std.proofs.Math.Seq.{get_or-append_seam}
use Rattle.std.proofs.lemmas.Bool.{ne_eqb, eqb-false, eqb-true, cases_lt}
use Rattle.std.proofs.lemmas.List.{get_or-map, get_or_append_left, map-append, reverse-append, reverse-reverse, length-reverse, length-map, length-append}
use Rattle.std.proofs.lemmas.List.Elements.{All-from_recursion}
use Rattle.std.specs.Prelude.{if◌then◌else◌, ◌==◌, All, IfOk, Result, Ok, Err}
use Rattle.std.specs.List.{AllByRecursion}
use Rattle.std.specs.Global.{Vec}
use Rattle.swh_entries.specs.declared.entry.Entry.{Entry}
use Rattle.swh_entries.specs.Listed.{Listed}
use Rattle.swh_entries.specs.declared.entry.Child.{Child}
use Rattle.swh_entries.specs.declared.entry.Child.TheVariants.{File as FileChild, Folder as FolderChild}
use Rattle.swh_forest.specs.Forest.{Forest, Stands, IsFolder, forest, inserted, without, put}
use Rattle.swh_forest.specs.Sound.{IsSound}
use Rattle.swh_forest.specs.Roots.{AreSound}
use Rattle.swh_forest.specs.Arena.{stands, stands_of, forest_of, among, IsLower, AreGood, AllGood, layers, tree_at, IsArena, IsIn}
use Rattle.swh_entries.specs.Keys.{name_at, texts}
use Rattle.swh_entries.specs.Named.{Extends}

pub if_ok : {A E : Type 0} {P Q : A → Type 0} (r : Result A E) → ((x : A) → P x → Q x) → IfOk r P → IfOk r Q
if_ok (Ok x) f h = f x h
if_ok (Err e) f h = tt

pub if_ok3 : {A E : Type 0} {P Q R S : A → Type 0} (r : Result A E) → ((x : A) → P x → Q x → R x → S x) → IfOk r P → IfOk r Q → IfOk r R → IfOk r S
if_ok3 (Ok x) f p q r = f x p q r
if_ok3 (Err e) f p q r = tt

eqb_self : (n : ℕ) → eqb n n ≡ true
eqb_self n = grind arith

pub among-older : (names : List (List ℕ)) (es : List Entry) (older : List (List Entry)) (i : ℕ) → i < length older → among names (es ∷ older) i ≡ among names older i
among-older names es older i lt = let ne : eqb i (length older) ≡ false = ne_eqb i (length older) (λ e. omega arith) in rw ne refl

pub among-newest : (names : List (List ℕ)) (es : List Entry) (older : List (List Entry)) → among names (es ∷ older) (length older) ≡ forest_of names (among names older) es
among-newest names es older = rw (eqb_self (length older)) refl

same-stands : (at at' : ℕ → Forest) (k : ℕ) (c : Child) → IsLower k c → ((j : ℕ) → j < k → at j ≡ at' j) → stands at c ≡ stands at' c
same-stands at at' k (FileChild l) low h = refl
same-stands at at' k (FolderChild j) low h = ap IsFolder (h j low)

-- a folder means the same where its names and its folders do
pub same-forest : (names names' : List (List ℕ)) (at at' : ℕ → Forest) (n k : ℕ) (es : List Entry) → AreGood n k es → ((i : ℕ) → i < n → name_at names i ≡ name_at names' i) → ((j : ℕ) → j < k → at j ≡ at' j) → forest_of names at es ≡ forest_of names' at' es
same-forest names names' at at' n k [] good hn ha = refl
same-forest names names' at at' n k (e ∷ es) good hn ha =
    let first = hn e.name good.0.name in
    let second = same-stands at at' k e.child good.0.child ha in
    let rest = same-forest names names' at at' n k es good.1 hn ha in
    cc

pub lower-more : (k k' : ℕ) (c : Child) → k ≤ k' → IsLower k c → IsLower k' c
lower-more k k' (FileChild l) le low = tt
lower-more k k' (FolderChild j) le low = omega arith

pub good-more : (n k n' k' : ℕ) (es : List Entry) → n ≤ n' → k ≤ k' → AreGood n k es → AreGood n' k' es
good-more n k n' k' [] ln lk good = tt
good-more n k n' k' (e ∷ es) ln lk good = (record { name = let lt = good.0.name in omega arith; child = lower-more k k' e.child lk good.0.child }, good-more n k n' k' es ln lk good.1)

pub all-more : (n n' : ℕ) (r : List (List Entry)) → n ≤ n' → AllGood n r → AllGood n' r
all-more n n' [] le good = tt
all-more n n' (es ∷ older) le good = (good-more n (length older) n' (length older) es le (omega arith) good.0, all-more n n' older le good.1)

among_case : (names names' : List (List ℕ)) (es : List Entry) (older : List (List Entry)) (i : ℕ) (b : Bool) → forest_of names (among names older) es ≡ forest_of names' (among names' older) es → among names older i ≡ among names' older i → cond b (forest_of names (among names older) es) (among names older i) ≡ cond b (forest_of names' (among names' older) es) (among names' older i)
among_case names names' es older i true h more = h
among_case names names' es older i false h more = more

pub among-names : (names names' : List (List ℕ)) (n : ℕ) (r : List (List Entry)) → AllGood n r → ((i : ℕ) → i < n → name_at names i ≡ name_at names' i) → (i : ℕ) → among names r i ≡ among names' r i
among-names names names' n [] good h i = refl
among-names names names' n (es ∷ older) good h i =
    among_case names names' es older i (eqb i (length older))
    (same-forest names names' (among names older) (among names' older) n (length older) es good.0 h (λ j lt. among-names names names' n older good.1 h j))
    (among-names names names' n older good.1 h i)

-- the folder of a number
abbrev pub node_in : List (List Entry) → ℕ → List Entry
node_in [] i = []
node_in (es ∷ older) i = if i == length older then es else node_in older i

node_case : (n k : ℕ) (es fs : List Entry) (b : Bool) → AreGood n k es → AreGood n k fs → AreGood n k (cond b es fs)
node_case n k es fs true h h' = h
node_case n k es fs false h h' = h'

pub node-good : (n : ℕ) (r : List (List Entry)) → AllGood n r → (i : ℕ) → AreGood n (length r) (node_in r i)
node-good n [] good i = tt
node-good n (es ∷ older) good i = node_case n (suc (length older)) es (node_in older i) (eqb i (length older)) (good-more n (length older) n (suc (length older)) es (omega arith) (omega arith) good.0) (good-more n (length older) n (suc (length older)) (node_in older i) (omega arith) (omega arith) (node-good n older good.1 i))

low_case : (n k i : ℕ) (es fs : List Entry) (b : Bool) → eqb i k ≡ b → AreGood n k es → (eqb i k ≡ false → AreGood n i fs) → AreGood n i (cond b es fs)
low_case n k i es fs true e h h' = let is : i ≡ k = eqb-true i k e in rw is h
low_case n k i es fs false e h h' = h' e

-- a folder's own folders have lower numbers
pub node-low : (n : ℕ) (r : List (List Entry)) → AllGood n r → (i : ℕ) → i < length r → AreGood n i (node_in r i)
node-low n [] good i lt = tt
node-low n (es ∷ older) good i lt = low_case n (length older) i es (node_in older i) (eqb i (length older)) refl good.0 (λ e. let ne = eqb-false i (length older) e in node-low n older good.1 i (omega (arith, ne)))

pub among-node : (names : List (List ℕ)) (n : ℕ) (r : List (List Entry)) → AllGood n r → (i : ℕ) → i < length r → among names r i ≡ forest_of names (among names r) (node_in r i)
among-node names n [] good i lt = absurd (omega arith)
among-node names n (es ∷ older) good i lt = elim (cases_lt i (length older)) [
  | inl below ↦
      let ne : eqb i (length older) ≡ false = ne_eqb i (length older) (λ e. omega arith) in
      rw ne (among-node names n older good.1 i below ∙ same-forest names names (among names older) (among names (es ∷ older)) n (length older) (node_in older i) (node-good n older good.1 i) (λ j l. refl) (λ j l. sym (among-older names es older j l)))
  | inr top ↦
      let is : i ≡ length older = omega arith in
      rw (is, eqb_self (length older)) (same-forest names names (among names older) (among names (es ∷ older)) n (length older) es good.0 (λ j l. refl) (λ j l. sym (among-older names es older j l)))
]

-- the order of the numbers
pub node-reverse : (r : List (List Entry)) (i : ℕ) → i < length r → node_in r i ≡ get_or (reverse r) i []
node-reverse [] i lt = absurd (omega arith)
node-reverse (es ∷ older) i lt =
    let turn : reverse (es ∷ older) ≡ reverse older ++ es ∷ [] = reverse-append (es ∷ []) older in
    let len = length-reverse older in
    rw turn (elim (cases_lt i (length older)) [
      | inl below ↦
          let ne : eqb i (length older) ≡ false = ne_eqb i (length older) (λ e. omega arith) in
          rw ne (node-reverse older i below ∙ sym (get_or_append_left (reverse older) (es ∷ []) [] i (omega arith)))
      | inr top ↦
          let is : i ≡ length (reverse older) = omega arith in
          let own : eqb i (length older) ≡ true = rw (is, len) (eqb_self (length older)) in
          rw (own, is) (sym (get_or-append_seam (reverse older) es [] []))
    ])

pub length-layers : (nodes : List Listed) → length (layers nodes) ≡ length nodes
length-layers nodes = length-reverse (map (λ v. v.items) nodes) ∙ length-map nodes (λ (v : Listed). v.items)

pub node-layers : (nodes : List Listed) (i : ℕ) (d : Listed) → i < length nodes → node_in (layers nodes) i ≡ (get_or nodes i d).items
node-layers nodes i d lt =
    let len = length-layers nodes in
    node-reverse (layers nodes) i (omega arith) ∙ ap (λ (x : List (List Entry)). get_or x i []) (reverse-reverse (map (λ (v : Listed). v.items) nodes)) ∙ get_or-map (λ (v : Listed). v.items) nodes i d [] lt

pub layers-push : (nodes : List Listed) (v : Listed) → layers (nodes ++ v ∷ []) ≡ v.items ∷ layers nodes
layers-push nodes v = ap reverse (map-append (λ (w : Listed). w.items) nodes (v ∷ [])) ∙ reverse-append (map (λ (w : Listed). w.items) nodes) (v.items ∷ [])

-- the same of what code holds
pub tree-push_old : (names : List (Vec ℕ)) (nodes : List Listed) (v : Listed) (i : ℕ) → i < length nodes → tree_at names (nodes ++ v ∷ []) i ≡ tree_at names nodes i
unfolding tree_at
tree-push_old names nodes v i lt = let len = length-layers nodes in ap (λ (r : List (List Entry)). among (texts names) r i) (layers-push nodes v) ∙ among-older (texts names) v.items (layers nodes) i (omega arith)

pub tree-push_new : (names : List (Vec ℕ)) (nodes : List Listed) (v : Listed) → tree_at names (nodes ++ v ∷ []) (length nodes) ≡ forest_of (texts names) (tree_at names nodes) v.items
unfolding tree_at
tree-push_new names nodes v =
    ap (λ (r : List (List Entry)). among (texts names) r (length nodes)) (layers-push nodes v)
    ∙ ap (λ (i : ℕ). among (texts names) (v.items ∷ layers nodes) i) (sym (length-layers nodes))
    ∙ among-newest (texts names) v.items (layers nodes)

pub tree-names : (names names' : List (Vec ℕ)) (nodes : List Listed) → IsArena names nodes → Extends names names' → (i : ℕ) → tree_at names' nodes i ≡ tree_at names nodes i
unfolding tree_at IsArena
tree-names names names' nodes good more i = among-names (texts names') (texts names) (length names) (layers nodes) good more.same_names i

pub tree-node : (names : List (Vec ℕ)) (nodes : List Listed) (i : ℕ) (v : Listed) → IsArena names nodes → i < length nodes → v ≡ get_or nodes i v → tree_at names nodes i ≡ forest_of (texts names) (tree_at names nodes) v.items
unfolding tree_at IsArena
tree-node names nodes i v good lt is =
    let len = length-layers nodes in
    among-node (texts names) (length names) (layers nodes) good i (omega arith)
    ∙ ap (forest_of (texts names) (λ j. among (texts names) (layers nodes) j)) (node-layers nodes i v lt ∙ ap (λ (w : Listed). w.items) (sym is))

pub entries-good : (names : List (Vec ℕ)) (nodes : List Listed) (i : ℕ) (v : Listed) → IsArena names nodes → i < length nodes → v ≡ get_or nodes i v → AreGood (length names) (length nodes) v.items
unfolding IsArena
entries-good names nodes i v good lt is =
    let P : List Entry → Type 0 = λ es. AreGood (length names) (length nodes) es in
    let Q : ℕ → Type 0 = λ k. AreGood (length names) k (node_in (layers nodes) i) in
    subst P (node-layers nodes i v lt ∙ ap (λ (w : Listed). w.items) (sym is)) (subst Q (length-layers nodes) (node-good (length names) (layers nodes) good i))

pub entries-low : (names : List (Vec ℕ)) (nodes : List Listed) (i : ℕ) (v : Listed) → IsArena names nodes → i < length nodes → v ≡ get_or nodes i v → AreGood (length names) i v.items
unfolding IsArena
entries-low names nodes i v good lt is =
    let P : List Entry → Type 0 = λ es. AreGood (length names) i es in
    let len = length-layers nodes in
    subst P (node-layers nodes i v lt ∙ ap (λ (w : Listed). w.items) (sym is)) (node-low (length names) (layers nodes) good i (omega arith))

pub arena-push : (names : List (Vec ℕ)) (nodes : List Listed) (v : Listed) → IsArena names nodes → AreGood (length names) (length nodes) v.items → IsArena names (nodes ++ v ∷ [])
unfolding IsArena
arena-push names nodes v good own =
    let P : List (List Entry) → Type 0 = λ r. AllGood (length names) r in
    let Q : ℕ → Type 0 = λ k. AreGood (length names) k v.items in
    subst P (sym (layers-push nodes v)) (subst Q (sym (length-layers nodes)) own, good)

pub arena-names : (names names' : List (Vec ℕ)) (nodes : List Listed) → IsArena names nodes → Extends names names' → IsArena names' nodes
unfolding IsArena
arena-names names names' nodes good more = all-more (length names) (length names') (layers nodes) more.longer good

range_of : (n k : ℕ) (es : List Entry) → AreGood n k es → AllByRecursion (λ (e : Entry). e.name < n) es
range_of n k [] good = tt
range_of n k (e ∷ es) good = (good.0.name, range_of n k es good.1)

pub names-in_range : (n k : ℕ) (es : List Entry) → AreGood n k es → All (λ e. e.name < n) es
names-in_range n k es good = All-from_recursion (λ (e : Entry). e.name < n) es (range_of n k es good)

pub same-stands_of : (at at' : ℕ → Forest) (k : ℕ) (c : Option Child) → IsIn k c → ((j : ℕ) → j < k → at j ≡ at' j) → stands_of at c ≡ stands_of at' c
same-stands_of at at' k None low h = refl
same-stands_of at at' k (Some c) low h = same-stands at at' k c low h

pub arena-none : IsArena [] []
unfolding IsArena
arena-none = tt

-- ## Sound folders

pub sound-push : (names : List (Vec ℕ)) (nodes : List Listed) (v : Listed) → AreSound names nodes → IsSound (forest_of (texts names) (tree_at names nodes) v.items) → AreSound names (nodes ++ v ∷ [])
sound-push names nodes v sound own i lt = elim (cases_lt i (length nodes)) [
  | inl below ↦ subst IsSound (sym (tree-push_old names nodes v i below)) (sound i below)
  | inr top ↦
      let more : i < length nodes + 1 = simp length-append at lt in
      let is : i ≡ length nodes = omega arith in
      rw is (subst IsSound (sym (tree-push_new names nodes v)) own)
]

pub sound-names : (names names' : List (Vec ℕ)) (nodes : List Listed) → IsArena names nodes → Extends names names' → AreSound names nodes → AreSound names' nodes
sound-names names names' nodes good more sound i lt = subst IsSound (sym (tree-names names names' nodes good more i)) (sound i lt)

pub under-sound : (names : List (Vec ℕ)) (nodes : List Listed) (c : Option Child) → AreSound names nodes → IsIn (length nodes) c → IsSound (forest (stands_of (tree_at names nodes) c))
under-sound names nodes None sound low = tt
under-sound names nodes (Some (FileChild l)) sound low = tt
under-sound names nodes (Some (FolderChild j)) sound low = sound j low

-- what the entries of a folder are after one was dropped and one was put
pub put-added : (names names' : List (Vec ℕ)) (nodes : List Listed) (child : Option Child) (f : Forest) (name : List ℕ) (kept out : List Entry) → IsArena names nodes → Extends names names' → IsIn (length nodes) child → AreGood (length names) (length nodes) kept → forest_of (texts names') (tree_at names' nodes) out ≡ inserted name (stands_of (tree_at names' nodes) child) (forest_of (texts names) (tree_at names' nodes) kept) → forest_of (texts names) (tree_at names nodes) kept ≡ without name f → forest_of (texts names') (tree_at names' nodes) out ≡ put name (stands_of (tree_at names nodes) child) f
put-added names names' nodes child f name kept out arena more low good added cleared =
    let old = tree_at names nodes in
    let new = tree_at names' nodes in
    let n = length nodes in
    let same = λ (j : ℕ) (lt : j < n). tree-names names names' nodes arena more j in
    added
    ∙ ap (λ (x : Stands). inserted name x (forest_of (texts names) new kept)) (same-stands_of new old n child low same)
    ∙ ap (inserted name (stands_of old child)) (same-forest (texts names) (texts names) new old (length names) n kept good (λ i lt. refl) same ∙ cleared)
