-- What is put at a path of a folder is put at that path of its map.
use Rattle.std.proofs.Common.{◌≡◌, ◌≢◌, ℕ, Bool, true, false, not, cond, List, [], ◌∷◌, ◌++◌, Some, None, refl, sym, ap, ◌∙◌}
use Rattle.std.specs.Prelude.{◌&&◌, ◌||◌, filter}
use Rattle.std.specs.List.{AllByRecursion}
use Rattle.swh_base.specs.Directory.{IsEntryName}
use Rattle.swh_entries.specs.declared.entry.Leaf.{Leaf}
use Rattle.swh_forest.specs.PathMap.{PathMap, same, same_path, begins, leaf_at, is_path_before, insert_path, cleared, set, delete, held, insert_under, put_held, copy, rename}
use Rattle.swh_forest.specs.Forest.{Forest, Stands, Nothing, IsFile, IsFolder, child_at, put, folder, forest, step, found, graft, leaf_of, at, deleted_where, flat, shown}
use Rattle.swh_forest.specs.Sound.{IsLeaf, IsSound, IsSoundHere}
use Rattle.swh_forest.proofs.Grafts.{same_self, graft-under, graft-front, graft-aside}
use Rattle.swh_forest.proofs.Sounds.{IsPlain, plains-of, forest-sound, child-sound, into-sound}
use Rattle.swh_forest.proofs.Flats.{held-by, flat-some}
use Rattle.swh_forest.proofs.Lookups.{Meet, Under, Front, Aside, meet, path_self, map-at, leaf-insert, leaf-cleared, past_first, begins-more, begins-front, begins-aside, found-nothing, found-file, append_none}
use Rattle.swh_forest.proofs.Canonical.{Ascends, ascends, ArePlain, AreOther, same-map, leaf-forest, not-later, path-other, plain-flat, insert-ascends, filter-ascends, delete-here}

-- ## What is held

-- no path stands twice
abbrev pub AreDistinct : PathMap → Type 0
AreDistinct [] = Unit {0}
AreDistinct (e ∷ m) = (leaf_at e.0 m ≡ None) × AreDistinct m

ascending-distinct : (m : PathMap) → Ascends m → AreDistinct m
ascending-distinct [] a = tt
ascending-distinct (e ∷ m) a = (not-later e.0 m a.0, ascending-distinct m a.1)

shown-distinct : (x : Stands) → IsSound (forest x) → AreDistinct (shown x)
shown-distinct Nothing s = tt
shown-distinct (IsFile l) s = (refl, tt)
shown-distinct (IsFolder g) s = ascending-distinct (flat g) (ascends g s)

shown-plain : (x : Stands) → IsSound (forest x) → ArePlain (shown x)
shown-plain Nothing s = tt
shown-plain (IsFile l) s = (tt, tt)
shown-plain (IsFolder g) s = plain-flat g s

shown-at : (r : List (List ℕ)) (x : Stands) → IsSound (forest x) → leaf_at r (shown x) ≡ at r x
shown-at r Nothing s = sym (ap leaf_of (found-nothing r))
shown-at [] (IsFile l) s = refl
shown-at (c ∷ r) (IsFile l) s = sym (ap leaf_of (found-file c r l))
shown-at r (IsFolder g) s = map-at r g s

-- what is held at a path of what stands somewhere is what is found there
pub held-here : (p : List (List ℕ)) (x : Stands) → IsSoundHere x → held p (shown x) ≡ shown (found p x)
held-here [] x h = refl
held-here (c ∷ p) Nothing h = held-here p Nothing tt
held-here (c ∷ p) (IsFile l) h = held-here p Nothing tt
held-here (c ∷ p) (IsFolder g) h = ap (held p) (held-by c g h.1) ∙ held-here p (child_at c g) (child-sound c g h.1)

pub held-root : (p : List (List ℕ)) (y : Stands) → p ≢ [] → IsSound (forest y) → held p (flat (forest y)) ≡ shown (found p y)
held-root [] y ne s = absurd (ne refl)
held-root (c ∷ p) y ne s = ap (held p) (held-by c (forest y) s) ∙ held-here p (child_at c (forest y)) (child-sound c (forest y) s)

pub shown-some : (x : Stands) → IsSoundHere x → x ≢ Nothing → shown x ≢ []
shown-some Nothing h ne e = ne refl
shown-some (IsFile l) h ne e = cc
shown-some (IsFolder g) h ne e = flat-some g h.0 h.1 e

-- ## Lookups

same-append : (p a b : List (List ℕ)) → same_path (p ++ a) (p ++ b) ≡ same_path a b
same-append [] a b = refl
same-append (c ∷ p) a b = rw (same_self c) (same-append p a b)

and_false : (b x y : Bool) → (b && x) ≡ false → (x ≡ false → y ≡ false) → (b && y) ≡ false
and_false true x y h more = more h
and_false false x y h more = refl

same-other : (p r q : List (List ℕ)) → begins p q ≡ false → same_path (p ++ r) q ≡ false
same-other [] r q h = absurd cc
same-other (c ∷ p) r [] h = refl
same-other (c ∷ p) r (d ∷ q) h = and_false (same c d) (begins p q) (same_path (p ++ r) q) h (λ e. same-other p r q e)

-- nothing stands at the path or under it
abbrev pub IsFreeUnder : List (List ℕ) → PathMap → Type 0
IsFreeUnder p m = (r : List (List ℕ)) → leaf_at (p ++ r) m ≡ None

inserted-at : (p : List (List ℕ)) (h m : PathMap) → IsFreeUnder p m → AreDistinct h → (r : List (List ℕ)) → leaf_at (p ++ r) (insert_under p h m) ≡ leaf_at r h
inserted-at p [] m none d r = none r
inserted-at p (e ∷ h) m none d r =
    let fresh : leaf_at (p ++ e.0) (insert_under p h m) ≡ None = inserted-at p h m none d.1 e.0 ∙ d.0 in
    leaf-insert (p ++ r) (p ++ e.0) e.1 (insert_under p h m) fresh
    ∙ ap (λ (b : Bool). cond b (Some e.1) (leaf_at (p ++ r) (insert_under p h m))) (same-append p e.0 r)
    ∙ ap (cond (same_path e.0 r) (Some e.1)) (inserted-at p h m none d.1 r)

inserted-fresh : (p : List (List ℕ)) (e : List (List ℕ) × Leaf) (h m : PathMap) → IsFreeUnder p m → AreDistinct (e ∷ h) → leaf_at (p ++ e.0) (insert_under p h m) ≡ None
inserted-fresh p e h m none d = inserted-at p h m none d.1 e.0 ∙ d.0

inserted-aside : (p q : List (List ℕ)) (h m : PathMap) → begins p q ≡ false → IsFreeUnder p m → AreDistinct h → leaf_at q (insert_under p h m) ≡ leaf_at q m
inserted-aside p q [] m b none d = refl
inserted-aside p q (e ∷ h) m b none d =
    let other = same-other p e.0 q b in
    leaf-insert q (p ++ e.0) e.1 (insert_under p h m) (inserted-fresh p e h m none d) ∙ rw other (inserted-aside p q h m b none d.1)

free-cleared : (p : List (List ℕ)) (m : PathMap) → IsFreeUnder p (cleared p m)
free-cleared p m r = let b = begins-more p r in leaf-cleared p (p ++ r) m ∙ rw b refl

put_meets : (p q : List (List ℕ)) (x : Stands) (f : Forest) → IsSound (forest x) → IsSound f → Meet p q → leaf_at q (put_held p (shown x) (flat f)) ≡ at q (graft p x (IsFolder f))
put_meets p q x f sx s (Under r e) = rw e (inserted-at p (shown x) (cleared p (flat f)) (free-cleared p (flat f)) (shown-distinct x sx) r ∙ shown-at r x sx ∙ sym (ap leaf_of (graft-under p r x (IsFolder f))))
put_meets p q x f sx s (Front c r e) =
    let b : begins p q ≡ false = rw e (begins-front q c r) in
    let b' : begins q p ≡ true = rw e (begins-more q (c ∷ r)) in
    inserted-aside p q (shown x) (cleared p (flat f)) b (free-cleared p (flat f)) (shown-distinct x sx) ∙ leaf-cleared p q (flat f) ∙ rw (b, b') (sym (rw e (graft-front q c r x (IsFolder f))))
put_meets p q x f sx s (Aside t c d p' q' ne e e') =
    let b : begins p q ≡ false = rw (e, e') (begins-aside t c d p' q' ne) in
    let b' : begins q p ≡ false = rw (e, e') (begins-aside t d c q' p' (λ z. ne (sym z))) in
    let same_there : at q (IsFolder f) ≡ at q (graft p x (IsFolder f)) = rw (e, e') (sym (ap leaf_of (graft-aside t c d p' q' x (IsFolder f) ne))) in
    inserted-aside p q (shown x) (cleared p (flat f)) b (free-cleared p (flat f)) (shown-distinct x sx) ∙ leaf-cleared p q (flat f) ∙ rw (b, b') (map-at q f s ∙ same_there)

-- ## The order

plain-path : (p q : List (List ℕ)) → AllByRecursion IsPlain p → AllByRecursion IsPlain q → AllByRecursion IsPlain (p ++ q)
plain-path [] q h k = k
plain-path (c ∷ p) q h k = (h.0, plain-path p q h.1 k)

plain_cond : (b : Bool) (m k : PathMap) → ArePlain m → ArePlain k → ArePlain (cond b m k)
plain_cond true m k h h' = h
plain_cond false m k h h' = h'

insert-plain : (p : List (List ℕ)) (l : Leaf) (m : PathMap) → AllByRecursion IsPlain p → ArePlain m → ArePlain (insert_path p l m)
insert-plain p l [] h k = (h, tt)
insert-plain p l (e ∷ m) h k = plain_cond (is_path_before e.0 p) (e ∷ insert_path p l m) ((p, l) ∷ e ∷ m) (k.0, insert-plain p l m h k.1) (h, k)

filter_plain : (b : Bool) (e : List (List ℕ) × Leaf) (m : PathMap) → AllByRecursion IsPlain e.0 → ArePlain m → ArePlain (cond b (e ∷ m) m)
filter_plain true e m h k = (h, k)
filter_plain false e m h k = k

filter-plain : (t : List (List ℕ) → Bool) (m : PathMap) → ArePlain m → ArePlain (filter (λ (e : List (List ℕ) × Leaf). t e.0) m)
filter-plain t [] k = tt
filter-plain t (e ∷ m) k = filter_plain (t e.0) e (filter (λ (x : List (List ℕ) × Leaf). t x.0) m) k.0 (filter-plain t m k.1)

fresh-other : (p : List (List ℕ)) (m : PathMap) → AllByRecursion IsPlain p → ArePlain m → leaf_at p m ≡ None → AreOther p m
fresh-other p [] h k none = tt
fresh-other p (e ∷ m) h k none =
    let o = past_first (same_path e.0 p) e.1 (leaf_at p m) none in
    (λ b. path-other e.0 p k.0 h (λ z. let own : same_path e.0 p ≡ true = rw z (path_self p) in let no = o.0 in cc) b, fresh-other p m h k.1 o.1)

under-ascends : (p : List (List ℕ)) (h m : PathMap) → AllByRecursion IsPlain p → ArePlain h → ArePlain m → IsFreeUnder p m → AreDistinct h → Ascends m → Ascends (insert_under p h m) × ArePlain (insert_under p h m)
under-ascends p [] m pp ph pm none d a = (a, pm)
under-ascends p (e ∷ h) m pp ph pm none d a =
    let ih = under-ascends p h m pp ph.1 pm none d.1 a in
    let own = plain-path p e.0 pp ph.0 in
    (insert-ascends (p ++ e.0) e.1 (insert_under p h m) ih.0 (fresh-other (p ++ e.0) (insert_under p h m) own ih.1 (inserted-fresh p e h m none d)), insert-plain (p ++ e.0) e.1 (insert_under p h m) own ih.1)

put-ascends : (p : List (List ℕ)) (x : Stands) (f : Forest) → AllByRecursion IsPlain p → IsSound (forest x) → IsSound f → Ascends (put_held p (shown x) (flat f))
put-ascends p x f pp sx s =
    (under-ascends p (shown x) (cleared p (flat f)) pp (shown-plain x sx)
    (filter-plain (λ (q : List (List ℕ)). not (begins p q || begins q p)) (flat f) (plain-flat f s))
    (free-cleared p (flat f)) (shown-distinct x sx)
    (filter-ascends (λ (q : List (List ℕ)). not (begins p q || begins q p)) (flat f) (ascends f s))).0

-- ## The laws

-- The folder after something was put at a path.
pub put-here : (p : List (List ℕ)) (x y : Stands) → p ≢ [] → AllByRecursion IsEntryName p → IsSoundHere x → IsSound (forest y) → flat (forest (graft p x y)) ≡ put_held p (shown x) (flat (forest y))
put-here [] x y ne plain hx s = absurd (ne refl)
put-here (c ∷ p) x y ne plain hx s =
    let whole : Forest = put c (graft p x (step c y)) (forest y) in
    let sound : IsSound (forest (folder whole)) = forest-sound (folder whole) (into-sound c p x y plain hx s) in
    let sx = forest-sound x hx in
    same-map (flat (forest (folder whole))) (put_held (c ∷ p) (shown x) (flat (forest y))) (ascends (forest (folder whole)) sound)
    (put-ascends (c ∷ p) x (forest y) (plains-of (c ∷ p) plain) sx s)
    (λ q. map-at q (forest (folder whole)) sound ∙ leaf-forest q whole ∙ sym (put_meets (c ∷ p) q x (forest y) sx s (meet (c ∷ p) q)))

pub set-here : (p : List (List ℕ)) (l : Leaf) (y : Stands) → p ≢ [] → AllByRecursion IsEntryName p → IsLeaf l → IsSound (forest y) → flat (forest (graft p (IsFile l) y)) ≡ set p l (flat (forest y))
set-here p l y ne plain leaf s =
    put-here p (IsFile l) y ne plain leaf s ∙ ap (λ (q : List (List ℕ)). insert_path q l (cleared p (flat (forest y)))) (append_none p)

pub copy-here : (s t : List (List ℕ)) (y : Stands) → s ≢ [] → t ≢ [] → AllByRecursion IsEntryName t → IsSoundHere (found s y) → IsSound (forest y) → flat (forest (graft t (found s y) y)) ≡ copy s t (flat (forest y))
copy-here s t y ns nt plain hx sy =
    put-here t (found s y) y nt plain hx sy ∙ ap (λ (h : PathMap). put_held t h (flat (forest y))) (sym (held-root s y ns sy))

deleted_some : (p : List (List ℕ)) (y z : Stands) → z ≢ Nothing → deleted_where z p y ≡ graft p Nothing y
deleted_some p y Nothing ne = absurd (ne refl)
deleted_some p y (IsFile l) ne = refl
deleted_some p y (IsFolder g) ne = refl

into_forest : (p : List (List ℕ)) (x y : Stands) → p ≢ [] → AllByRecursion IsEntryName p → IsSoundHere x → IsSound (forest y) → IsSound (forest (graft p x y))
into_forest [] x y ne plain hx s = absurd (ne refl)
into_forest (c ∷ p) x y ne plain hx s = forest-sound (graft (c ∷ p) x y) (into-sound c p x y plain hx s)

pub rename-here : (s t : List (List ℕ)) (y : Stands) → s ≢ [] → t ≢ [] → AllByRecursion IsEntryName s → AllByRecursion IsEntryName t → IsSoundHere (found s y) → found s y ≢ Nothing → IsSound (forest y) → flat (forest (graft t (found s y) (graft s Nothing y))) ≡ rename s t (flat (forest y))
rename-here s t y ns nt ps pt hx some sy =
    let gone : flat (forest (graft s Nothing y)) ≡ delete s (flat (forest y)) = ap (λ (z : Stands). flat (forest z)) (sym (deleted_some s y (found s y) some)) ∙ delete-here s y ns ps sy in
    put-here t (found s y) (graft s Nothing y) nt pt hx (into_forest s Nothing y ns ps tt sy)
    ∙ ap (λ (m : PathMap). put_held t (shown (found s y)) m) gone
    ∙ ap (λ (h : PathMap). put_held t h (delete s (flat (forest y)))) (sym (held-root s y ns sy))
