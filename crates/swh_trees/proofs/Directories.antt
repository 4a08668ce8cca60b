-- The directory of a sound folder is that of its map.
use Rattle.std.proofs.Common.{◌≡◌, ◌≢◌, ℕ, zero, suc, ◌+◌, ◌<◌, ◌≤◌, eqb, arith, inl, inr, Bool, true, false, cond, List, [], ◌∷◌, ◌++◌, length, map, Some, None, refl, sym, ap, ◌∙◌}
use Rattle.std.specs.Ordering.{nat_cmp, is_lt}
use Rattle.std.specs.Cmp.Lexicographic.{slice_cmp}
use Rattle.std.specs.declared.cmp.Ordering.{Ordering}
use Rattle.std.specs.declared.cmp.Ordering.TheVariants.{Less, Equal, Greater}
use Rattle.std.proofs.lemmas.Cmp.{nat_list_cmp_total}
use Rattle.swh_entries.specs.declared.entry.Leaf.{Leaf}
use Rattle.swh_forest.specs.Forest.{Forest, Bare, File, Folder, Stands, Nothing, IsFile, IsFolder, child_at, leaf_of, flat, shown}
use Rattle.swh_entries.specs.Keys.{is_before}
use Rattle.swh_trees.specs.Listing.{entry_here, directory}
use Rattle.swh_forest.specs.PathMap.{same, PathMap, leaf_at, held_by}
use Rattle.swh_forest.specs.Sound.{Follows, IsLeaf, IsSound}
use Rattle.swh_trees.specs.Directory.{insert_entry, ordered, first, entry_at, directory_within, depth_of, directory_id, directory_of}
use Rattle.swh_forest.specs.Leaf.{IsLeafMode}
use Rattle.swh_base.specs.declared.kind.Kind.{Kind}
use Rattle.swh_base.specs.Directory.{DirectoryEntry, sort_key}
use Rattle.swh_forest.proofs.Grafts.{same_is, same_self}
use Rattle.swh_forest.proofs.Flats.{under, leaf-flat, held-by, flat-some}

-- ## The order

pub less_is : (o : Ordering) → is_lt o ≡ true → o ≡ Less
less_is Less e = refl
less_is Equal e = absurd cc
less_is Greater e = absurd cc

self-cmp : (k : List ℕ) (o : Ordering) → slice_cmp nat_cmp k k ≡ o → o ≡ Equal
self-cmp k Less e = let t = nat_list_cmp_total.antisymm k k in absurd (let bad : Less ≡ Greater = rw e at t in cc)
self-cmp k Equal e = refl
self-cmp k Greater e = let t = nat_list_cmp_total.antisymm k k in absurd (let bad : Greater ≡ Less = rw e at t in cc)

insert-again : (e : DirectoryEntry) (es : List DirectoryEntry) → insert_entry e (e ∷ es) ≡ e ∷ es
insert-again e es = let s = self-cmp (sort_key e) (slice_cmp nat_cmp (sort_key e) (sort_key e)) refl in rw s refl

insert-first : (e f : DirectoryEntry) (es : List DirectoryEntry) → is_before (sort_key e) (sort_key f) ≡ true → insert_entry e (f ∷ es) ≡ e ∷ f ∷ es
insert-first e f es b = let l = less_is (slice_cmp nat_cmp (sort_key e) (sort_key f)) b in rw l refl

leaf_mode : (mode : ℕ) → IsLeafMode mode → eqb mode 40000 ≡ false
leaf_mode mode (inl e) = rw e refl
leaf_mode mode (inr (inl e)) = rw e refl
leaf_mode mode (inr (inr (inl e))) = rw e refl
leaf_mode mode (inr (inr (inr e))) = rw e refl

-- the key of a file and of a folder
pub file-key : (n : List ℕ) (l : Leaf) (x : List ℕ) → IsLeaf l → sort_key (record { mode = l.mode; name = n; id = x }) ≡ n ++ []
file-key n l x h = rw (leaf_mode l.mode h.mode) refl

insert-front : (id : List DirectoryEntry → List ℕ) (e : DirectoryEntry) (f : Forest) → IsSound f → Follows (sort_key e) f → insert_entry e (directory id f) ≡ e ∷ directory id f
insert-front id e Bare s h = refl
insert-front id e (File n l f) s h = insert-first e (record { mode = l.mode; name = n; id = l.id }) (directory id f) (rw (file-key n l l.id s.1) h)
insert-front id e (Folder n g f) s h = insert-first e (record { mode = 40000; name = n; id = id (directory id g) }) (directory id f) h

-- ## Entry by entry

abbrev pub entries_by : (List ℕ → DirectoryEntry) → PathMap → List DirectoryEntry
entries_by h m = map (λ (e : List (List ℕ) × Leaf). h (first e.0)) m

many : (h : List ℕ → DirectoryEntry) (n : List ℕ) (m k : PathMap) (es : List DirectoryEntry) → ordered (entries_by h k) ≡ es → insert_entry (h n) es ≡ h n ∷ es → m ≢ [] → ordered (entries_by h (under n m ++ k)) ≡ h n ∷ es
many h n [] k es e i ne = absurd (ne refl)
many h n (x ∷ []) k es e i ne = ap (insert_entry (h n)) e ∙ i
many h n (x ∷ y ∷ m) k es e i ne = ap (insert_entry (h n)) (many h n (y ∷ m) k es e i (λ z. cc)) ∙ insert-again (h n) es

abbrev pub Agrees : (List DirectoryEntry → List ℕ) → (List ℕ → DirectoryEntry) → Forest → Type 0
Agrees id h f = (c : List ℕ) (x : Stands) → child_at c f ≡ x → x ≢ Nothing → h c ≡ entry_here id c x

past_one : (b : Bool) (n c : List ℕ) (y x : Stands) (f : Forest) → same n c ≡ b → child_at n f ≡ Nothing → child_at c f ≡ x → x ≢ Nothing → cond b y (child_at c f) ≡ x
past_one true n c y x f e fresh is some = let n-is = same_is n c e in let none : child_at c f ≡ Nothing = rw (← n-is) fresh in absurd (some (sym is ∙ none))
past_one false n c y x f e fresh is some = is

pub directory-ordered : (id : List DirectoryEntry → List ℕ) (h : List ℕ → DirectoryEntry) (f : Forest) → IsSound f → Agrees id h f → ordered (entries_by h (flat f)) ≡ directory id f
directory-ordered id h Bare s a = refl
directory-ordered id h (File n l f) s a =
    let own : h n ≡ entry_here id n (IsFile l) = a n (IsFile l) (rw (same_self n) refl) (λ z. cc) in
    let rest = directory-ordered id h f s.4 (λ c x is some. a c x (past_one (same n c) n c (IsFile l) x f refl s.2 is some) some) in
    let fol : Follows (sort_key (entry_here id n (IsFile l))) f = rw (file-key n l l.id s.1) s.3 in
    ap (λ (e : DirectoryEntry). insert_entry e (ordered (entries_by h (flat f)))) own ∙ ap (insert_entry (entry_here id n (IsFile l))) rest ∙ insert-front id (entry_here id n (IsFile l)) f s.4 fol
directory-ordered id h (Folder n g f) s a =
    let own : h n ≡ entry_here id n (IsFolder g) = a n (IsFolder g) (rw (same_self n) refl) (λ z. cc) in
    let rest = directory-ordered id h f s.5 (λ c x is some. a c x (past_one (same n c) n c (IsFolder g) x f refl s.3 is some) some) in
    let front : insert_entry (h n) (directory id f) ≡ h n ∷ directory id f = rw own (insert-front id (entry_here id n (IsFolder g)) f s.5 s.4) in
    many h n (flat g) (flat f) (directory id f) rest front (flat-some g s.1 s.2) ∙ ap (λ (e : DirectoryEntry). e ∷ directory id f) own

-- no path has more components
abbrev pub IsWithin : ℕ → Forest → Type 0
IsWithin d Bare = Unit {0}
IsWithin zero (File n l f) = ⊥
IsWithin (suc d) (File n l f) = IsWithin (suc d) f
IsWithin zero (Folder n g f) = ⊥
IsWithin (suc d) (Folder n g f) = IsWithin d g × IsWithin (suc d) f

-- a folder in it
within_cond : (b : Bool) (d : ℕ) (x y : Stands) (g : Forest) → cond b x y ≡ IsFolder g → (x ≡ IsFolder g → IsSound g × IsWithin d g) → (y ≡ IsFolder g → IsSound g × IsWithin d g) → IsSound g × IsWithin d g
within_cond true d x y g e h h' = h e
within_cond false d x y g e h h' = h' e

folder_is : (d : ℕ) (g g' : Forest) → IsFolder g ≡ IsFolder g' → IsSound g → IsWithin d g → IsSound g' × IsWithin d g'
folder_is d g g' e s w = let is : g ≡ g' = cc in rw (← is) (s, w)

child-within : (d : ℕ) (c : List ℕ) (f g : Forest) → IsSound f → IsWithin (suc d) f → child_at c f ≡ IsFolder g → IsSound g × IsWithin d g
child-within d c Bare g s w e = absurd cc
child-within d c (File n l f) g s w e = within_cond (same n c) d (IsFile l) (child_at c f) g e (λ z. absurd cc) (λ z. child-within d c f g s.4 w z)
child-within d c (Folder n k f) g s w e = within_cond (same n c) d (IsFolder k) (child_at c f) g e (λ z. folder_is d k g z s.2 w.0) (λ z. child-within d c f g s.5 w.1 z)

here_is : (id : List DirectoryEntry → List ℕ) (d : ℕ) (f : Forest) → ((g : Forest) → IsSound g → IsWithin d g → directory_within id d (flat g) ≡ directory id g) → IsSound f → IsWithin (suc d) f → (c : List ℕ) (x : Stands) → child_at c f ≡ x → x ≢ Nothing → entry_at id c (leaf_at (c ∷ []) (flat f)) (directory_within id d (held_by c (flat f))) ≡ entry_here id c x
here_is id d f ih s w c Nothing is some = absurd (some refl)
here_is id d f ih s w c (IsFile l) is some =
    let leaf : leaf_at (c ∷ []) (flat f) ≡ Some l = leaf-flat c f s ∙ ap leaf_of is in
    rw leaf refl
here_is id d f ih s w c (IsFolder g) is some =
    let leaf : leaf_at (c ∷ []) (flat f) ≡ None = leaf-flat c f s ∙ ap leaf_of is in
    let paths : held_by c (flat f) ≡ flat g = held-by c f s ∙ ap shown is in
    let good = child-within d c f g s w is in
    let dir : directory_within id d (flat g) ≡ directory id g = ih g good.0 good.1 in
    rw (leaf, paths, dir) refl

-- The directory of a folder is that of its paths.
pub directory-is : (id : List DirectoryEntry → List ℕ) (depth : ℕ) (f : Forest) → IsSound f → IsWithin depth f → directory_within id depth (flat f) ≡ directory id f
directory-is id zero Bare s w = refl
directory-is id zero (File n l f) s w = absurd w
directory-is id zero (Folder n g f) s w = absurd w
directory-is id (suc d) f s w = directory-ordered id (λ (c : List ℕ). entry_at id c (leaf_at (c ∷ []) (flat f)) (directory_within id d (held_by c (flat f)))) f s (here_is id d f (λ g. directory-is id d g) s w)

-- ## The depth

depth-append : (m k : PathMap) → depth_of (m ++ k) ≡ depth_of m + depth_of k
depth-append [] k = omega arith
depth-append (e ∷ m) k = let ih = depth-append m k in omega arith

depth-under : (n : List ℕ) (m : PathMap) → depth_of (under n m) ≡ depth_of m + length m
depth-under n [] = refl
depth-under n (e ∷ m) = let ih = depth-under n m in omega arith

within-more : (d d' : ℕ) (f : Forest) → d ≤ d' → IsWithin d f → IsWithin d' f
within-more d d' Bare le w = tt
within-more zero d' (File n l f) le w = absurd w
within-more (suc d) zero (File n l f) le w = absurd (omega arith)
within-more (suc d) (suc d') (File n l f) le w = within-more (suc d) (suc d') f le w
within-more zero d' (Folder n g f) le w = absurd w
within-more (suc d) zero (Folder n g f) le w = absurd (omega arith)
within-more (suc d) (suc d') (Folder n g f) le w = (within-more d d' g (omega arith) w.0, within-more (suc d) (suc d') f le w.1)

some-long : (m : PathMap) → m ≢ [] → 0 < length m
some-long [] ne = absurd (ne refl)
some-long (e ∷ m) ne = omega arith

file_within : (d k : ℕ) (n : List ℕ) (l : Leaf) (f : Forest) → k ≡ suc d → IsWithin d f → IsWithin k (File n l f)
file_within d k n l f e w = rw e (within-more d (suc d) f (omega arith) w)

folder_within : (d a b : ℕ) (n : List ℕ) (g f : Forest) → a < d → b ≤ d → IsWithin a g → IsWithin b f → IsWithin d (Folder n g f)
folder_within zero a b n g f lt le u v = absurd (omega arith)
folder_within (suc d) a b n g f lt le u v = (within-more a d g (omega arith) u, within-more b (suc d) f le v)

pub within-depth : (f : Forest) → IsSound f → IsWithin (depth_of (flat f)) f
within-depth Bare s = tt
within-depth (File n l f) s = file_within (depth_of (flat f)) (depth_of (flat (File n l f))) n l f (omega arith) (within-depth f s.4)
within-depth (Folder n g f) s =
    let sum = depth-append (under n (flat g)) (flat f) in
    let deep = depth-under n (flat g) in
    let some = some-long (flat g) (flat-some g s.1 s.2) in
    folder_within (depth_of (under n (flat g) ++ flat f)) (depth_of (flat g)) (depth_of (flat f)) n g f (omega arith) (omega arith) (within-depth g s.2) (within-depth f s.5)

-- The directory of a sound folder's map.
pub directory-of : (id_of : Kind → List ℕ → List ℕ) (f : Forest) → IsSound f → directory_of id_of (flat f) ≡ directory (directory_id id_of) f
directory-of id_of f s = directory-is (directory_id id_of) (depth_of (flat f)) f s (within-depth f s)
