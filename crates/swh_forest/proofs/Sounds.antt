-- What is put into a sound folder leaves it sound.
use Rattle.std.proofs.Common.{◌≡◌, ◌≢◌, ℕ, zero, suc, arith, Contains, Bool, true, false, cond, List, [], ◌∷◌, ◌++◌, refl, sym, ap, ◌∙◌, inl, inr, ◌⊎◌}
use Rattle.std.specs.Ordering.{nat_cmp, is_lt}
use Rattle.std.specs.Cmp.Lexicographic.{slice_cmp}
use Rattle.std.specs.declared.cmp.Ordering.{Ordering}
use Rattle.std.specs.declared.cmp.Ordering.TheVariants.{Less, Equal, Greater}
use Rattle.std.specs.List.{AllByRecursion}
use Rattle.std.proofs.lemmas.Cmp.{nat_list_cmp_total}
use Rattle.std.proofs.lemmas.List.{append-nil}
use Rattle.std.proofs.lemmas.Map.Lookups.{exact_bytes}
use Rattle.swh_entries.specs.declared.entry.Leaf.{Leaf}
use Rattle.swh_forest.specs.Forest.{Forest, Bare, File, Folder, Stands, Nothing, IsFile, IsFolder, beside, child_at, without, key, inserted, put, folder, forest, step, found, graft}
use Rattle.swh_entries.specs.Keys.{is_before}
use Rattle.swh_forest.specs.PathMap.{same}
use Rattle.swh_forest.specs.Sound.{Follows, IsSound, IsSoundHere}
use Rattle.swh_base.specs.Directory.{IsEntryName}
use Rattle.swh_base.proofs.Elementary.{less_from}
use Rattle.swh_forest.proofs.Grafts.{same_is, same_self, without-same, without-other, inserted-other}

pub before-trans : (a b c : List ℕ) → is_before a b ≡ true → is_before b c ≡ true → is_before a c ≡ true
before-trans a b c p q = ap is_lt (nat_list_cmp_total.trans a b c (less_from (slice_cmp nat_cmp a b) p) (less_from (slice_cmp nat_cmp b c) q))

turn : (a b : List ℕ) (o o' : Ordering) → slice_cmp nat_cmp a b ≡ o → slice_cmp nat_cmp b a ≡ o' → is_lt o ≡ false → a ≢ b → is_lt o' ≡ true
turn a b Less o' e e' h ne = absurd cc
turn a b Equal o' e e' h ne = absurd (ne (exact_bytes a b e))
turn a b Greater Less e e' h ne = refl
turn a b Greater Equal e e' h ne = absurd (ne (sym (exact_bytes b a e')))
turn a b Greater Greater e e' h ne = let t = nat_list_cmp_total.antisymm a b in absurd (let bad : Greater ≡ Less = rw (e, e') at t in cc)

-- one of two different keys comes first
before-other : (a b : List ℕ) → is_before a b ≡ false → a ≢ b → is_before b a ≡ true
before-other a b h ne = turn a b (slice_cmp nat_cmp a b) (slice_cmp nat_cmp b a) refl refl h ne

-- no `/` is in it
abbrev pub IsPlain : List ℕ → Type 0
IsPlain n = AllByRecursion (λ b. b ≡ 47 → ⊥) n

plain_tail : (x : ℕ) (n : List ℕ) → (Contains (x ∷ n) 47 → ⊥) → Contains n 47 → ⊥
plain_tail x n h has = h (suc has.0, (let lt = has.1 in omega arith), has.2)

plain_from : (n : List ℕ) → (Contains n 47 → ⊥) → IsPlain n
plain_from [] h = tt
plain_from (x ∷ n) h = (λ e. h (zero, omega arith, e), plain_from n (plain_tail x n h))

pub plain-of : (n : List ℕ) → IsEntryName n → IsPlain n
plain-of n h = plain_from n h.no_slash

pub plains-of : (p : List (List ℕ)) → AllByRecursion IsEntryName p → AllByRecursion IsPlain p
plains-of [] h = tt
plains-of (c ∷ p) h = (plain-of c h.0, plains-of p h.1)

pub plain-end : (c n : List ℕ) → IsPlain c → c ≡ n ++ 47 ∷ [] → ⊥
plain-end [] [] p e = cc
plain-end [] (x ∷ n) p e = cc
plain-end (x ∷ c) [] p e = p.0 cc
plain-end (x ∷ c) (y ∷ n) p e = let t : c ≡ n ++ 47 ∷ [] = cc in plain-end c n p.1 t

pub snoc-is : (c n : List ℕ) → c ++ 47 ∷ [] ≡ n ++ 47 ∷ [] → IsPlain c → IsPlain n → c ≡ n
snoc-is [] [] e p q = refl
snoc-is [] (y ∷ []) e p q = absurd cc
snoc-is [] (y ∷ z ∷ n) e p q = absurd cc
snoc-is (x ∷ []) [] e p q = absurd cc
snoc-is (x ∷ z ∷ c) [] e p q = absurd cc
snoc-is (x ∷ c) (y ∷ n) e p q =
    let h : x ≡ y = cc in
    let t : c ++ 47 ∷ [] ≡ n ++ 47 ∷ [] = cc in
    let m = snoc-is c n t p.1 q.1 in cc

-- the key of an entry is that of its name and kind alone
pub keys-differ : (c n : List ℕ) (x y : Stands) → IsPlain c → IsPlain n → c ≢ n → key c x ≢ key n y
keys-differ c n (IsFolder g) (IsFolder h) p q ne e = ne (snoc-is c n e p q)
keys-differ c n (IsFolder g) (IsFile l) p q ne e = plain-end n c q (sym (append-nil n) ∙ sym e)
keys-differ c n (IsFolder g) Nothing p q ne e = plain-end n c q (sym (append-nil n) ∙ sym e)
keys-differ c n (IsFile k) (IsFolder h) p q ne e = plain-end c n p (sym (append-nil c) ∙ e)
keys-differ c n (IsFile k) (IsFile l) p q ne e = ne (sym (append-nil c) ∙ e ∙ append-nil n)
keys-differ c n (IsFile k) Nothing p q ne e = ne (sym (append-nil c) ∙ e ∙ append-nil n)
keys-differ c n Nothing (IsFolder h) p q ne e = plain-end c n p (sym (append-nil c) ∙ e)
keys-differ c n Nothing (IsFile l) p q ne e = ne (sym (append-nil c) ∙ e ∙ append-nil n)
keys-differ c n Nothing Nothing p q ne e = ne (sym (append-nil c) ∙ e ∙ append-nil n)

pub follows-back : (k j : List ℕ) (f : Forest) → is_before k j ≡ true → Follows j f → Follows k f
follows-back k j Bare p h = tt
follows-back k j (File n l f) p h = before-trans k j (n ++ []) p h
follows-back k j (Folder n g f) p h = before-trans k j (n ++ 47 ∷ []) p h

-- an entry dropped
follows_file : (k n : List ℕ) (l : Leaf) (f : Forest) (b : Bool) → is_before k (n ++ []) ≡ true → Follows k f → Follows k (cond b f (File n l f))
follows_file k n l f true p h = h
follows_file k n l f false p h = p

follows_folder : (k n : List ℕ) (g f : Forest) (b : Bool) → is_before k (n ++ 47 ∷ []) ≡ true → Follows k f → Follows k (cond b f (Folder n g f))
follows_folder k n g f true p h = h
follows_folder k n g f false p h = p

pub without-follows : (k c : List ℕ) (f : Forest) → Follows k f → IsSound f → Follows k (without c f)
without-follows k c Bare h s = tt
without-follows k c (File n l f) h s = follows_file k n l (without c f) (same n c) h (without-follows k c f (follows-back k (n ++ []) f h s.3) s.4)
without-follows k c (Folder n g f) h s = follows_folder k n g (without c f) (same n c) h (without-follows k c f (follows-back k (n ++ 47 ∷ []) f h s.4) s.5)

-- no name comes in
by_name : (b : Bool) (c n : List ℕ) → same c n ≡ b → (c ≡ n) ⊎ (c ≢ n)
by_name true c n e = inl (same_is c n e)
by_name false c n e = inr (λ is. let t : same c n ≡ true = rw is (same_self n) in cc)

without-fresh : (c n : List ℕ) (f : Forest) → child_at n f ≡ Nothing → child_at n (without c f) ≡ Nothing
without-fresh c n f h = elim (by_name (same c n) c n refl) [
  | inl is ↦ rw is (without-same n f)
  | inr ne ↦ without-other c n f ne ∙ h
]

sound_file : (n : List ℕ) (l : Leaf) (f : Forest) (b : Bool) → IsSound f → IsSound (File n l f) → IsSound (cond b f (File n l f))
sound_file n l f true h h' = h
sound_file n l f false h h' = h'

sound_folder : (n : List ℕ) (g f : Forest) (b : Bool) → IsSound f → IsSound (Folder n g f) → IsSound (cond b f (Folder n g f))
sound_folder n g f true h h' = h
sound_folder n g f false h h' = h'

pub without-sound : (c : List ℕ) (f : Forest) → IsSound f → IsSound (without c f)
without-sound c Bare s = tt
without-sound c (File n l f) s =
    let rest = without-sound c f s.4 in
    sound_file n l (without c f) (same n c) rest (s.0, s.1, without-fresh c n f s.2, without-follows (n ++ []) c f s.3 s.4, rest)
without-sound c (Folder n g f) s =
    let rest = without-sound c f s.5 in
    sound_folder n g (without c f) (same n c) rest (s.0, s.1, s.2, without-fresh c n f s.3, without-follows (n ++ 47 ∷ []) c f s.4 s.5, rest)

-- an entry put in front
beside-sound : (c : List ℕ) (x : Stands) (f : Forest) → IsEntryName c → IsSoundHere x → child_at c f ≡ Nothing → Follows (key c x) f → IsSound f → IsSound (beside c x f)
beside-sound c Nothing f p h fresh fol s = s
beside-sound c (IsFile l) f p h fresh fol s = (p, h, fresh, fol, s)
beside-sound c (IsFolder g) f p h fresh fol s = (p, h.0, h.1, fresh, fol, s)

-- what is put after a key stays after it
beside-follows : (k c : List ℕ) (x : Stands) (f : Forest) → is_before k (key c x) ≡ true → Follows k f → Follows k (beside c x f)
beside-follows k c Nothing f p h = h
beside-follows k c (IsFile l) f p h = p
beside-follows k c (IsFolder g) f p h = p

follows_cond : (k : List ℕ) (f f' : Forest) (b : Bool) → Follows k f → Follows k f' → Follows k (cond b f f')
follows_cond k f f' true h h' = h
follows_cond k f f' false h h' = h'

inserted-follows : (k c : List ℕ) (x : Stands) (f : Forest) → is_before k (key c x) ≡ true → Follows k f → Follows k (inserted c x f)
inserted-follows k c x Bare p h = beside-follows k c x Bare p tt
inserted-follows k c x (File n l f) p h = follows_cond k (beside c x (File n l f)) (File n l (inserted c x f)) (is_before (key c x) (n ++ [])) (beside-follows k c x (File n l f) p h) h
inserted-follows k c x (Folder n g f) p h = follows_cond k (beside c x (Folder n g f)) (Folder n g (inserted c x f)) (is_before (key c x) (n ++ 47 ∷ [])) (beside-follows k c x (Folder n g f) p h) h

sound_cond : (f f' : Forest) (b b' : Bool) → b' ≡ b → (b' ≡ true → IsSound f) → (b' ≡ false → IsSound f') → IsSound (cond b f f')
sound_cond f f' true b' e h h' = h e
sound_cond f f' false b' e h h' = h' e

pub other_file : (n c : List ℕ) (l : Leaf) (f : Forest) (b : Bool) → same n c ≡ b → cond b (IsFile l) (child_at c f) ≡ Nothing → (c ≢ n) × (child_at c f ≡ Nothing)
other_file n c l f true e h = absurd cc
other_file n c l f false e h = (λ is. let t : same n c ≡ true = rw is (same_self n) in absurd cc, h)

pub other_folder : (n c : List ℕ) (g f : Forest) (b : Bool) → same n c ≡ b → cond b (IsFolder g) (child_at c f) ≡ Nothing → (c ≢ n) × (child_at c f ≡ Nothing)
other_folder n c g f true e h = absurd cc
other_folder n c g f false e h = (λ is. let t : same n c ≡ true = rw is (same_self n) in absurd cc, h)

pub inserted-sound : (c : List ℕ) (x : Stands) (f : Forest) → IsEntryName c → IsSoundHere x → child_at c f ≡ Nothing → IsSound f → IsSound (inserted c x f)
inserted-sound c x Bare p h fresh s = beside-sound c x Bare p h refl tt tt
inserted-sound c x (File n l f) p h fresh s =
    let o = other_file n c l f (same n c) refl fresh in
    sound_cond (beside c x (File n l f)) (File n l (inserted c x f)) (is_before (key c x) (n ++ [])) (is_before (key c x) (n ++ [])) refl
    (λ b. beside-sound c x (File n l f) p h fresh b s)
    (λ b. let first = before-other (key c x) (n ++ []) b (keys-differ c n x (IsFile l) (plain-of c p) (plain-of n s.0) o.0) in
    (s.0, s.1, inserted-other c n x f o.0 ∙ s.2, inserted-follows (n ++ []) c x f first s.3, inserted-sound c x f p h o.1 s.4))
inserted-sound c x (Folder n g f) p h fresh s =
    let o = other_folder n c g f (same n c) refl fresh in
    sound_cond (beside c x (Folder n g f)) (Folder n g (inserted c x f)) (is_before (key c x) (n ++ 47 ∷ [])) (is_before (key c x) (n ++ 47 ∷ [])) refl
    (λ b. beside-sound c x (Folder n g f) p h fresh b s)
    (λ b. let first = before-other (key c x) (n ++ 47 ∷ []) b (keys-differ c n x (IsFolder g) (plain-of c p) (plain-of n s.0) o.0) in
    (s.0, s.1, s.2, inserted-other c n x f o.0 ∙ s.3, inserted-follows (n ++ 47 ∷ []) c x f first s.4, inserted-sound c x f p h o.1 s.5))

pub put-sound : (c : List ℕ) (x : Stands) (f : Forest) → IsEntryName c → IsSoundHere x → IsSound f → IsSound (put c x f)
put-sound c x f p h s = inserted-sound c x (without c f) p h (without-same c f) (without-sound c f s)

pub forest-sound : (x : Stands) → IsSoundHere x → IsSound (forest x)
forest-sound Nothing h = tt
forest-sound (IsFile l) h = tt
forest-sound (IsFolder g) h = h.1

pub folder-sound : (f : Forest) → IsSound f → IsSoundHere (folder f)
folder-sound Bare s = tt
folder-sound (File n l f) s = (λ e. cc, s)
folder-sound (Folder n g f) s = (λ e. cc, s)

child_case : (b : Bool) (x y : Stands) → IsSoundHere x → IsSoundHere y → IsSoundHere (cond b x y)
child_case true x y h h' = h
child_case false x y h h' = h'

pub child-sound : (c : List ℕ) (f : Forest) → IsSound f → IsSoundHere (child_at c f)
child-sound c Bare s = tt
child-sound c (File n l f) s = child_case (same n c) (IsFile l) (child_at c f) s.1 (child-sound c f s.4)
child-sound c (Folder n g f) s = child_case (same n c) (IsFolder g) (child_at c f) (s.1, s.2) (child-sound c f s.5)

-- what stands at a path of a sound folder is sound
pub found-sound : (p : List (List ℕ)) (x : Stands) → IsSoundHere x → IsSoundHere (found p x)
found-sound [] x h = h
found-sound (c ∷ p) x h = found-sound p (step c x) (child-sound c (forest x) (forest-sound x h))

graft-sound : (p : List (List ℕ)) (x y : Stands) → AllByRecursion IsEntryName p → IsSoundHere x → IsSoundHere y → IsSoundHere (graft p x y)
graft-sound [] x y p hx hy = hx
graft-sound (c ∷ p) x y plain hx hy =
    let under = forest-sound y hy in
    folder-sound (put c (graft p x (step c y)) (forest y)) (put-sound c (graft p x (step c y)) (forest y) plain.0 (graft-sound p x (step c y) plain.1 hx (child-sound c (forest y) under)) under)

-- what is put into a sound folder, below it, leaves it sound
pub into-sound : (c : List ℕ) (p : List (List ℕ)) (x y : Stands) → AllByRecursion IsEntryName (c ∷ p) → IsSoundHere x → IsSound (forest y) → IsSoundHere (graft (c ∷ p) x y)
into-sound c p x y plain hx under = folder-sound (put c (graft p x (step c y)) (forest y)) (put-sound c (graft p x (step c y)) (forest y) plain.0 (graft-sound p x (step c y) plain.1 hx (child-sound c (forest y) under)) under)
