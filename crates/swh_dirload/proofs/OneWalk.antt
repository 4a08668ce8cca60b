-- A folder has one walk at most, or its walk comes to one item that may not stand in it, and not both.
use Rattle.std.proofs.Common.{◌≡◌, ◌≢◌, ◌⊎◌, inl, inr, ℕ, zero, suc, ◌+◌, ◌<◌, Bool, false, Some, List, [], ◌∷◌, ◌++◌, length, map, get_or, Contains, refl, sym, ap, ◌∙◌, subst, arith}
use Rattle.std.specs.List.{AllByRecursion}
use Rattle.std.specs.List.Sorted.{IsSortedBy}
use Rattle.std.specs.Ordering.{nat_cmp, is_lt, ordering_reverse}
use Rattle.std.specs.declared.cmp.Ordering.{Ordering}
use Rattle.std.specs.declared.cmp.Ordering.TheVariants.{Less, Equal, Greater}
use Rattle.std.specs.Cmp.Lexicographic.{slice_cmp}
use Rattle.std.specs.FinMap.{nat_cmp-IsAntisymmetric, slice_cmp-IsAntisymmetric}
use Rattle.std.proofs.lemmas.Cmp.{nat_list_cmp_total}
use Rattle.std.proofs.lemmas.List.{append-nil}
use Rattle.std.proofs.lemmas.List.MinMax.{ranks_by}
use Rattle.std.proofs.lemmas.List.Sorted.{sorted_far, Contains-permutation, IsPermutation-sym}
use Rattle.swh_base.proofs.Elementary.{less_or}
use Rattle.swh_outside.specs.Folder.{FolderEntry, Tree, AreNames, IsFolderEntryName}
use Rattle.swh_outside.specs.declared.folder.What.{What}
use Rattle.swh_outside.specs.declared.folder.What.TheVariants.{File, Folder, Other}
use Rattle.swh_dedup.proofs.Elements.{all_from, none_is}
use Rattle.swh_dirmade.proofs.Paths.{Plain, not_plain, last_cut}
use Rattle.swh_dirload.specs.Items.{Item, key_end, entry_key, item_in, IsOrder, HasItems, Fits}
use Rattle.swh_dirload.specs.Walk.{root, Visits, Takes, AllFit, IsWalk, ComesTo}
use Rattle.swh_dirload.proofs.Ascending.{IsUp, one_up}
use Rattle.swh_dirload.proofs.Naming.{names_in_order, names_tail}

plain_nil : Plain []
plain_nil c = none_is 47 c

plain_name : (name : List ℕ) → IsFolderEntryName name → Plain name
plain_name name good c = good.plain c.0 47 c.1 c.2

-- names that differ are compared as different
ends_apart : (a b : List ℕ) (p q : What) → Plain a → Plain b → (a ≡ b → ⊥) → a ++ key_end p ≡ b ++ key_end q → ⊥
ends_apart a b File File pa pb apart e = apart (sym (append-nil a) ∙ e ∙ append-nil b)
ends_apart a b File Folder pa pb apart e = not_plain a b [] (sym (append-nil a) ∙ e) pa
ends_apart a b File Other pa pb apart e = apart (sym (append-nil a) ∙ e ∙ append-nil b)
ends_apart a b Folder File pa pb apart e = not_plain b a [] (sym (append-nil b) ∙ sym e) pb
ends_apart a b Folder Folder pa pb apart e = apart (last_cut a b [] [] plain_nil plain_nil e).0
ends_apart a b Folder Other pa pb apart e = not_plain b a [] (sym (append-nil b) ∙ sym e) pb
ends_apart a b Other File pa pb apart e = apart (sym (append-nil a) ∙ e ∙ append-nil b)
ends_apart a b Other Folder pa pb apart e = not_plain a b [] (sym (append-nil a) ∙ e) pa
ends_apart a b Other Other pa pb apart e = apart (sym (append-nil a) ∙ e ∙ append-nil b)

abbrev IsBelow : FolderEntry → FolderEntry → Type 0
IsBelow a b = slice_cmp nat_cmp (entry_key a) (entry_key b) ≡ Less

abbrev lt_keys : FolderEntry → FolderEntry → Bool
lt_keys x y = is_lt (slice_cmp nat_cmp (entry_key x) (entry_key y))

turned : (o p : Ordering) → o ≡ ordering_reverse p → o ≡ Less → p ≡ Less → ⊥
turned Less Less e f g = absurd (cc)
turned Less Equal e f g = absurd (cc)
turned Less Greater e f g = absurd (cc)
turned Equal p e f g = absurd (cc)
turned Greater p e f g = absurd (cc)

one_way : (a b : FolderEntry) → IsBelow a b → IsBelow b a → ⊥
one_way a b = turned (slice_cmp nat_cmp (entry_key a) (entry_key b)) (slice_cmp nat_cmp (entry_key b) (entry_key a)) (nat_list_cmp_total.antisymm (entry_key a) (entry_key b))

below : (a b : FolderEntry) → Plain a.name → Plain b.name → a.name ≢ b.name → lt_keys b a ≡ false → IsBelow a b
below a b pa pb apart h =
    less_or (slice_cmp nat_cmp (entry_key a) (entry_key b)) (slice_cmp nat_cmp (entry_key b) (entry_key a)) (nat_list_cmp_total.antisymm (entry_key a) (entry_key b)) h
    (λ e. ends_apart a.name b.name a.what b.what pa pb apart (slice_cmp-IsAntisymmetric nat_cmp-IsAntisymmetric (entry_key a) (entry_key b) e))

sorted_tail : (e : FolderEntry) (es : List FolderEntry) → IsSortedBy lt_keys (e ∷ es) → IsSortedBy lt_keys es
sorted_tail e es up = λ k d low high.
    let one : suc k + 1 ≡ suc (k + 1) = omega arith in
    subst (λ (n : ℕ). lt_keys (get_or (e ∷ es) n d) (get_or es k d) ≡ false) one (up (suc k) d (omega arith) (omega (arith, high)))

name_at : (es : List FolderEntry) (k : ℕ) (d : FolderEntry) → k < length es → get_or (map (λ e. e.name) es) k [] ≡ (get_or es k d).name
name_at [] k d lt = absurd (omega (arith, lt))
name_at (e ∷ es) zero d lt = refl
name_at (e ∷ es) (suc k) d lt = name_at es k d (omega (arith, lt))

names_length : (es : List FolderEntry) → length (map (λ e. e.name) es) ≡ length es
names_length [] = refl
names_length (e ∷ es) = ap suc (names_length es)

-- entries with good names rise strictly in the order of a directory
up : (es : List FolderEntry) → AreNames (map (λ e. e.name) es) → IsSortedBy lt_keys es → IsUp IsBelow es
up [] names sorted = tt
up (e ∷ es) names sorted =
    (all_from (IsBelow e) es (λ o c. below e o (plain_name e.name (names.each 0 [] (omega arith))) (plain o c) (apart o c) (later o c)), up es (names_tail e.name (map (λ x. x.name) es) names) (sorted_tail e es sorted))
  where
    named : (o : FolderEntry) → (c : Contains es o) → get_or (map (λ x. x.name) es) c.0 [] ≡ o.name
    named o c = name_at es c.0 o c.1 ∙ ap (λ (x : FolderEntry). x.name) c.2

    plain : (o : FolderEntry) → Contains es o → Plain o.name
    plain o c =
        let lt = c.1 in
        let n = names_length es in
        plain_name o.name (subst IsFolderEntryName (named o c) (names.each (suc c.0) [] (omega (arith, lt, n))))

    apart : (o : FolderEntry) → Contains es o → e.name ≢ o.name
    apart o c same =
        let lt = c.1 in
        let n = names_length es in
        names.once 0 (suc c.0) [] (omega arith) (omega (arith, lt, n)) (same ∙ sym (named o c))

    later : (o : FolderEntry) → Contains es o → lt_keys o e ≡ false
    later o c =
        let lt = c.1 in
        ap (λ (x : FolderEntry). lt_keys x e) (sym c.2) ∙ sorted_far lt_keys (ranks_by nat_list_cmp_total entry_key) (e ∷ es) sorted 0 (suc c.0) o (omega arith) (omega (arith, lt))

-- a list has one order
one_order : (entries xs ys : List FolderEntry) → AreNames (map (λ e. e.name) entries) → IsOrder entries xs → IsOrder entries ys → xs ≡ ys
one_order entries xs ys names a b =
    one_up IsBelow one_way xs ys
    (up xs (names_in_order xs (record { entries = entries; order = a; names = names })) a.ascend)
    (up ys (names_in_order ys (record { entries = entries; order = b; names = names })) b.ascend)
    (λ z c. Contains-permutation entries ys z b.same (Contains-permutation xs entries z (IsPermutation-sym entries xs a.same) c))
    (λ z c. Contains-permutation entries xs z a.same (Contains-permutation ys entries z (IsPermutation-sym entries ys b.same) c))

same_some : (a b : List FolderEntry) → Some a ≡ Some b → a ≡ b
same_some a b e = cc

one_items : (tree : Tree) (dir : List ℕ) (items others : List Item) → HasItems tree dir items → HasItems tree dir others → items ≡ others
one_items tree dir items others h k =
    let same : k.entries ≡ h.entries = same_some k.entries h.entries (sym k.are ∙ h.are) in
    let order : IsOrder h.entries k.ordered = subst (λ (es : List FolderEntry). IsOrder es k.ordered) same k.order in
    h.named ∙ ap (map (item_in dir)) (one_order h.entries h.ordered k.ordered h.names h.order order) ∙ sym k.named

one_visit : (tree : Tree) (path : List ℕ) (what : What) (rest now other : List Item) → Visits tree path what rest now → Visits tree path what rest other → now ≡ other
one_visit tree path File rest now other h k = h ∙ sym k
one_visit tree path Folder rest now other h k = h.2 ∙ ap (λ (items : List Item). items ++ rest) (one_items tree path h.0 k.0 h.1 k.1) ∙ sym k.2
one_visit tree path Other rest now other h k = absurd h

-- Of two walks the second goes on where the first ends.
abbrev pub GoesFurther : Tree → List Item → List Item → List Item → List Item → Type 0
GoesFurther tree items now others later = (more : List Item) × (others ≡ items ++ more) × Takes tree now more later

-- of two walks from where the same wait one goes on where the other ends
pub both_walks : (tree : Tree) (waiting items now others later : List Item) → Takes tree waiting items now → Takes tree waiting others later → GoesFurther tree items now others later ⊎ GoesFurther tree others later items now
both_walks tree waiting [] now others later p q = inl (others, refl, subst (λ (w : List Item). Takes tree w others later) p q)
both_walks tree waiting (i ∷ items) now [] later p q = inr (i ∷ items, refl, subst (λ (w : List Item). Takes tree w (i ∷ items) now) q p)
both_walks tree waiting (i ∷ items) now (o ∷ others) later p q = on (both_walks tree p.1 items now others later p.4 (subst (λ (w : List Item). Takes tree w others later) (sym next) q.4))
  where
    heads : i ∷ p.0 ≡ o ∷ q.0
    heads = sym p.2 ∙ q.2

    first : o ≡ i
    first = let h = heads in cc

    rest : q.0 ≡ p.0
    rest = let h = heads in cc

    next : p.1 ≡ q.1
    next = one_visit tree i.0 i.1 p.0 p.1 q.1 p.3 (subst (λ (x : Item). Visits tree x.0 x.1 p.0 q.1) first (subst (λ (r : List Item). Visits tree o.0 o.1 r q.1) rest q.3))

    on : GoesFurther tree items now others later ⊎ GoesFurther tree others later items now → GoesFurther tree (i ∷ items) now (o ∷ others) later ⊎ GoesFurther tree (o ∷ others) later (i ∷ items) now
    on (inl g) = inl (g.0, ap (λ (x : Item). x ∷ others) first ∙ ap (λ (xs : List Item). i ∷ xs) g.1, g.2)
    on (inr g) = inr (g.0, ap (λ (x : Item). x ∷ items) (sym first) ∙ ap (λ (xs : List Item). o ∷ xs) g.1, g.2)

none_waits : (tree : Tree) (more later : List Item) → Takes tree [] more later → (more ≡ []) × (later ≡ [])
none_waits tree [] later h = (refl, sym h)
none_waits tree (i ∷ more) later h = let e = h.2 in absurd (cc)

whole_front : (items others more : List Item) → others ≡ items ++ more → more ≡ [] → items ≡ others
whole_front items others more cut none = sym (append-nil items) ∙ ap (λ (xs : List Item). items ++ xs) (sym none) ∙ sym cut

pub one_walk : (tree : Tree) (items others : List Item) → IsWalk tree items → IsWalk tree others → items ≡ others
one_walk tree items others h k = by_more (both_walks tree (root ∷ []) items [] others [] h.all k.all)
  where
    by_more : GoesFurther tree items [] others [] ⊎ GoesFurther tree others [] items [] → items ≡ others
    by_more (inl g) = whole_front items others g.0 g.1 (none_waits tree g.0 [] g.2).0
    by_more (inr g) = sym (whole_front others items g.0 g.1 (none_waits tree g.0 [] g.2).0)

all_middle : (P : Item → Type 0) (before : List Item) (item : Item) (rest : List Item) → AllByRecursion P (before ++ item ∷ rest) → P item
all_middle P [] item rest h = h.0
all_middle P (b ∷ before) item rest h = all_middle P before item rest h.1

-- what goes on from where an item waits takes that item
takes_it : (tree : Tree) (path : List ℕ) (what : What) (rest before more all later : List Item) → all ≡ before ++ more → Takes tree ((path, what) ∷ rest) more later → AllFit all → (more ≡ [] → ⊥) → Fits path what
takes_it tree path what rest before [] all later cut takes fit some = absurd (some refl)
takes_it tree path what rest before (m ∷ more) all later cut takes fit some =
    let e = takes.2 in
    let first : m ≡ (path, what) = cc in
    let fits : Fits m.0 m.1 = all_middle (λ (i : Item). Fits i.0 i.1) before m more (subst AllFit cut fit) in
    subst (λ (i : Item). Fits i.0 i.1) first fits

ends_there : (tree : Tree) (path : List ℕ) (what : What) (rest more : List Item) → Takes tree ((path, what) ∷ rest) more [] → more ≡ [] → ⊥
ends_there tree path what rest [] takes e = absurd (cc)
ends_there tree path what rest (m ∷ more) takes e = absurd (cc)

-- a walk whose items may all stand in a folder comes to no other
pub comes_to_none : (tree : Tree) (items : List Item) (path : List ℕ) (what : What) → IsWalk tree items → ComesTo tree path what → Fits path what
comes_to_none tree items path what walk comes = by_more (both_walks tree (root ∷ []) items [] comes.before ((path, what) ∷ comes.rest) walk.all comes.takes)
  where
    by_more : GoesFurther tree items [] comes.before ((path, what) ∷ comes.rest) ⊎ GoesFurther tree comes.before ((path, what) ∷ comes.rest) items [] → Fits path what
    by_more (inl g) = let e = (none_waits tree g.0 ((path, what) ∷ comes.rest) g.2).1 in absurd (cc)
    by_more (inr g) = takes_it tree path what comes.rest comes.before g.0 items [] g.1 g.2 walk.fit (ends_there tree path what comes.rest g.0 g.2)

-- two items to which the walk comes, each before which all may stand in a folder, are one, or one of them may stand in it
pub comes_to_one : (tree : Tree) (path other : List ℕ) (what kind : What) → (Fits path what → ⊥) → (Fits other kind → ⊥) → ComesTo tree path what → ComesTo tree other kind → (path ≡ other) × (what ≡ kind)
comes_to_one tree path other what kind unfit misfit a b = by_more (both_walks tree (root ∷ []) a.before ((path, what) ∷ a.rest) b.before ((other, kind) ∷ b.rest) a.takes b.takes)
  where
    heads : (i j : Item) (x y : List Item) → i ∷ x ≡ j ∷ y → (i.0 ≡ j.0) × (i.1 ≡ j.1)
    heads i j x y e = let f : i ≡ j = cc in (ap (λ (k : Item). k.0) f, ap (λ (k : Item). k.1) f)

    at_end : (p q : List ℕ) (w v : What) (x y before more all : List Item) → (Fits p w → ⊥) → all ≡ before ++ more → Takes tree ((p, w) ∷ x) more ((q, v) ∷ y) → AllFit all → (p ≡ q) × (w ≡ v)
    at_end p q w v x y before [] all not cut takes fit = heads (p, w) (q, v) x y takes
    at_end p q w v x y before (m ∷ more) all not cut takes fit = absurd (not (takes_it tree p w x before (m ∷ more) all ((q, v) ∷ y) cut takes fit (λ e. absurd (cc))))

    by_more : GoesFurther tree a.before ((path, what) ∷ a.rest) b.before ((other, kind) ∷ b.rest) ⊎ GoesFurther tree b.before ((other, kind) ∷ b.rest) a.before ((path, what) ∷ a.rest) → (path ≡ other) × (what ≡ kind)
    by_more (inl g) = at_end path other what kind a.rest b.rest a.before g.0 b.before unfit g.1 g.2 b.fit
    by_more (inr g) = let e = at_end other path kind what b.rest a.rest b.before g.0 a.before misfit g.1 g.2 a.fit in (sym e.0, sym e.1)
