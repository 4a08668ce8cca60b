-- Files as worlds have them, without the calls that were made on them, and what a crash leaves where a call was begun.
use Rattle.std.proofs.Common.{◌≡◌, ◌⊎◌, inl, inr, ⊎_elim, ℕ, zero, suc, ◌+◌, ◌-◌, ◌<◌, ◌≤◌, ◌==◌, Bool, true, false, cond, List, [], ◌∷◌, ◌++◌, length, get_or, take, drop, map, refl, sym, ap, ◌∙◌, subst, arith, add-one, take_all, min, length-drop}
use Rattle.std.proofs.lemmas.Bool.{cases_lt}
use Rattle.std.proofs.Math.Seq.{drop-cons}
use Rattle.std.specs.List.{AllByRecursion}
use Rattle.swh_outside.specs.Disk.{File, Call, Write, Sync, IsImage, IsOutside, IsAtRest, begun, done}
use Rattle.swh_outside.specs.Files.{Files, FileCall, Images, AreImages, EachImages, EachFilesMoment, absent, on, with_file, file_done, files_done}
use Rattle.swh_segment.specs.Settled.{AreAtRest, seen_of}
use Rattle.swh_outside.proofs.Images.{recast}
use Rattle.swh_outside.proofs.Numbered.{files_done-append, with_file_other, with_file_same}
use Rattle.swh_core.specs.declared.call.EventCall.{EventCall}
use Rattle.swh_core.specs.declared.call.EventCall.TheVariants.{Ledger, Store}
use Rattle.swh_core.specs.declared.disk.Disk.{Disk}
use Rattle.swh_core.specs.declared.disk.Disks.{Disks}
use Rattle.swh_core.specs.World.{file_of, files_on, disk_of, disks_in, called, first_begun, failed_at}
use Rattle.swh_core.specs.Answers.{call_of, file_call}

-- a place in one of the ranges is not outside them
pub not_outside : (ranges : List (ℕ × ℕ)) (i k : ℕ) (d : ℕ × ℕ) → i < length ranges → (get_or ranges i d).0 ≤ k → k - (get_or ranges i d).0 < (get_or ranges i d).1 → IsOutside ranges k → ⊥
not_outside [] i k d lt from to out = absurd (omega arith)
not_outside (r ∷ ranges) zero k d lt from to out = ⊎_elim (λ (before : k < r.0). omega arith) (λ (behind : r.0 + r.1 ≤ k). omega arith) out.0
not_outside (r ∷ ranges) (suc i) k d lt from to out = not_outside ranges i k d (omega arith) from to out.1

outside_next : (ranges : List (ℕ × ℕ)) (i k : ℕ) (d : ℕ × ℕ) → i < length ranges → IsOutside (take i ranges) k → (k < (get_or ranges i d).0) ⊎ ((get_or ranges i d).0 + (get_or ranges i d).1 ≤ k) → IsOutside (take (suc i) ranges) k
outside_next [] i k d lt out side = absurd (omega arith)
outside_next (r ∷ ranges) zero k d lt out side = (side, tt)
outside_next (r ∷ ranges) (suc i) k d lt out side = (out.0, outside_next ranges i k d (omega arith) out.1 side)

pub before_range : (ranges : List (ℕ × ℕ)) (i k : ℕ) (d : ℕ × ℕ) → i < length ranges → IsOutside (take i ranges) k → k < (get_or ranges i d).0 → IsOutside (take (i + 1) ranges) k
before_range ranges i k d lt out before = subst (λ (n : ℕ). IsOutside (take n ranges) k) (sym (add-one i)) (outside_next ranges i k d lt out (inl before))

pub behind_range : (ranges : List (ℕ × ℕ)) (i k : ℕ) (d : ℕ × ℕ) → i < length ranges → IsOutside (take i ranges) k → (get_or ranges i d).0 ≤ k → (get_or ranges i d).1 ≤ k - (get_or ranges i d).0 → IsOutside (take (i + 1) ranges) k
behind_range ranges i k d lt out from behind = subst (λ (n : ℕ). IsOutside (take n ranges) k) (sym (add-one i)) (outside_next ranges i k d lt out (inr (omega (arith, from, behind))))

-- Calls on files that differ in the calls made before.

both_from : (f g : Files) → disk_of (f 0) ≡ disk_of (g 0) → disk_of (f 1) ≡ disk_of (g 1) → disks_in f ≡ disks_in g
both_from f g p q = ap (λ (d : Disk). both d (disk_of (f 1))) p ∙ ap (λ (d : Disk). both (disk_of (g 0)) d) q
  where
    both : Disk → Disk → Disks
    both ledger store = record { ledger = ledger; store = store }

same_ledger : (f g : Files) → disks_in f ≡ disks_in g → disk_of (f 0) ≡ disk_of (g 0)
same_ledger f g e = ap (λ (d : Disks). d.ledger) e

same_store : (f g : Files) → disks_in f ≡ disks_in g → disk_of (f 1) ≡ disk_of (g 1)
same_store f g e = ap (λ (d : Disks). d.store) e

done_as : (c : Call) (f : File) → disk_of (done c f) ≡ disk_of (done c (file_of (disk_of f)))
done_as (Write at bytes) f = refl
done_as Sync f = refl

begun_as : (c : Call) (f : File) → disk_of (begun c f) ≡ disk_of (begun c (file_of (disk_of f)))
begun_as (Write at bytes) f = refl
begun_as Sync f = refl

done_same : (c : Call) (f g : File) → disk_of f ≡ disk_of g → disk_of (done c f) ≡ disk_of (done c g)
done_same c f g e = done_as c f ∙ ap (λ (s : Disk). disk_of (done c (file_of s))) e ∙ sym (done_as c g)

begun_same : (c : Call) (f g : File) → disk_of f ≡ disk_of g → disk_of (begun c f) ≡ disk_of (begun c g)
begun_same c f g e = begun_as c f ∙ ap (λ (s : Disk). disk_of (begun c (file_of s))) e ∙ sym (begun_as c g)

call_same : (c : EventCall) (f g : Files) → disks_in f ≡ disks_in g → disks_in (file_done (file_call c) f) ≡ disks_in (file_done (file_call c) g)
call_same (Ledger c) f g e = both_from (file_done (file_call (Ledger c)) f) (file_done (file_call (Ledger c)) g) (done_same (call_of c) (f 0) (g 0) (same_ledger f g e)) (same_store f g e)
call_same (Store c) f g e = both_from (file_done (file_call (Store c)) f) (file_done (file_call (Store c)) g) (same_ledger f g e) (done_same (call_of c) (f 1) (g 1) (same_store f g e))

pub calls_same : (cs : List EventCall) (f g : Files) → disks_in f ≡ disks_in g → disks_in (files_done (map file_call cs) f) ≡ disks_in (files_done (map file_call cs) g)
calls_same [] f g e = e
calls_same (c ∷ cs) f g e = calls_same cs (file_done (file_call c) f) (file_done (file_call c) g) (call_same c f g e)

pub first_same : (cs : List EventCall) (f g : Files) → disks_in f ≡ disks_in g → disks_in (first_begun (map file_call cs) f) ≡ disks_in (first_begun (map file_call cs) g)
first_same [] f g e = e
first_same (Ledger c ∷ cs) f g e = both_from (first_begun (map file_call (Ledger c ∷ cs)) f) (first_begun (map file_call (Ledger c ∷ cs)) g) (begun_same (call_of c) (f 0) (g 0) (same_ledger f g e)) (same_store f g e)
first_same (Store c ∷ cs) f g e = both_from (first_begun (map file_call (Store c ∷ cs)) f) (first_begun (map file_call (Store c ∷ cs)) g) (same_ledger f g e) (begun_same (call_of c) (f 1) (g 1) (same_store f g e))

-- one call more of those that are left
pub one_more_done : (cs : List EventCall) (i : ℕ) (c : EventCall) (now next total : Disks) → i < length cs → get_or cs i c ≡ c → called (map file_call (drop i cs)) now ≡ total → next ≡ called (file_call c ∷ []) now
    → called (map file_call (drop (i + 1) cs)) next ≡ total
one_more_done cs i c now next total lt is so_far done_it =
    let cut : drop i cs ≡ c ∷ drop (i + 1) cs = drop-cons cs i c lt ∙ ap (λ (x : EventCall). x ∷ drop (suc i) cs) is ∙ ap (λ (k : ℕ). c ∷ drop k cs) (sym (add-one i)) in
    calls_same (drop (i + 1) cs) (files_on next) (file_done (file_call c) (files_on now)) done_it ∙ ap (λ (l : List EventCall). called (map file_call l) now) (sym cut) ∙ so_far

-- so many calls of all
map_take : {A B : Type 0} (f : A → B) (n : ℕ) (xs : List A) → map f (take n xs) ≡ take n (map f xs)
map_take f zero xs = refl
map_take f (suc n) [] = refl
map_take f (suc n) (x ∷ xs) = ap (λ (l : List _). f x ∷ l) (map_take f n xs)

map_drop : {A B : Type 0} (f : A → B) (n : ℕ) (xs : List A) → map f (drop n xs) ≡ drop n (map f xs)
map_drop f zero xs = refl
map_drop f (suc n) [] = refl
map_drop f (suc n) (x ∷ xs) = map_drop f n xs

drop_past : {A : Type 0} (n : ℕ) (xs : List A) → length xs ≤ n → drop n xs ≡ []
drop_past zero [] le = refl
drop_past zero (x ∷ xs) le = absurd (omega arith)
drop_past (suc n) [] le = refl
drop_past (suc n) (x ∷ xs) le = drop_past n xs (omega arith)

take_at_most : {A : Type 0} (n k : ℕ) (xs : List A) → k ≡ min n (length xs) → take k xs ≡ take n xs
take_at_most n k xs is = ⊎_elim
    (λ (lt : n < length xs). ap (λ (m : ℕ). take m xs) (omega (arith, is, lt)))
    (λ (ge : length xs ≤ n). take_all k xs (omega (arith, is, ge)) ∙ sym (take_all n xs ge))
    (cases_lt n (length xs))

drop_at_most : {A : Type 0} (n k : ℕ) (xs : List A) → k ≡ min n (length xs) → drop k xs ≡ drop n xs
drop_at_most n k xs is = ⊎_elim
    (λ (lt : n < length xs). ap (λ (m : ℕ). drop m xs) (omega (arith, is, lt)))
    (λ (ge : length xs ≤ n). drop_past k xs (omega (arith, is, ge)) ∙ sym (drop_past n xs ge))
    (cases_lt n (length xs))

pub calls_taken : (n k : ℕ) (cs : List EventCall) → k ≡ min n (length cs) → map file_call (take k cs) ≡ take n (map file_call cs)
calls_taken n k cs is = ap (map file_call) (take_at_most n k cs is) ∙ map_take file_call n cs

pub calls_left : (n k : ℕ) (cs : List EventCall) → k ≡ min n (length cs) → map file_call (drop k cs) ≡ drop n (map file_call cs)
calls_left n k cs is = ap (map file_call) (drop_at_most n k cs is) ∙ map_drop file_call n cs

-- the calls before one, and that one begun
pub failed_same : (number k : ℕ) (cs : List EventCall) (old mid new : Disks) → k ≡ min (number - 1) (length cs) → mid ≡ called (map file_call (take k cs)) old → new ≡ disks_in (first_begun (map file_call (take (length cs - k) (drop k cs))) (files_on mid))
    → new ≡ failed_at number (map file_call cs) old
failed_same number k cs old mid new is made begun_it =
    let rest : take (length cs - k) (drop k cs) ≡ drop k cs = take_all (length cs - k) (drop k cs) (omega (arith, length-drop k cs)) in
    let before = files_done (map file_call (take k cs)) (files_on old) in
    begun_it ∙ ap (λ (l : List EventCall). disks_in (first_begun (map file_call l) (files_on mid))) rest ∙ first_same (drop k cs) (files_on mid) before made
    ∙ ap (λ (l : List FileCall). disks_in (first_begun l before)) (calls_left (number - 1) k cs is)
    ∙ ap (λ (l : List FileCall). disks_in (first_begun (drop (number - 1) (map file_call cs)) (files_done l (files_on old)))) (calls_taken (number - 1) k cs is)

-- Files of which only the ledger and the store are there.

pub record HasTwo (files : Files) : Type 0 where
  pub others : (k : ℕ) → files (suc (suc k)) ≡ absent

two_with : (n : ℕ) (file : File) (files : Files) → n < 2 → HasTwo files → HasTwo (with_file n file files)
two_with n file files lt two = record { others = λ k. with_file_other n file files (suc (suc k)) (λ e. absurd (omega (arith, e, lt))) ∙ two.others k }

two_on : (disks : Disks) → HasTwo (files_on disks)
two_on disks =
    two_with 0 (file_of disks.ledger) (with_file 1 (file_of disks.store) (λ k. absent)) (omega arith)
    (two_with 1 (file_of disks.store) (λ k. absent) (omega arith) (record { others = λ k. refl }))

-- What a crash leaves depends on what a world has of a file.

image_of : (f : File) (image : List ℕ) → IsImage (file_of (disk_of f)) image → IsImage f image
image_of f image i = recast f (file_of (disk_of f)) image refl refl refl i

rest_image : (f : File) → IsAtRest f → IsImage f f.seen
rest_image f r = record {
  stays = λ k lt out. ap (λ (b : List ℕ). get_or b k 0) (sym r.base);
  no_shorter = omega (arith, ap length r.base);
  no_longer = omega (arith, r.longest);
}

none_absent : IsImage absent []
none_absent = record { stays = λ k lt out. refl; no_shorter = omega arith; no_longer = omega arith }

-- with nothing written since a barrier a crash may leave what a read gives
pub rest_images : (disks : Disks) → AreAtRest (files_on disks) → AreImages (files_on disks) (seen_of (files_on disks))
rest_images disks rests = record { each = each }
  where
    each : (k : ℕ) → IsImage (files_on disks k) (files_on disks k).seen
    each zero = rest_image (file_of disks.ledger) rests.ledger
    each (suc zero) = rest_image (file_of disks.store) rests.store
    each (suc (suc k)) = subst (λ (f : File). IsImage f f.seen) (sym ((two_on disks).others k)) none_absent

abbrev pub two_images : List ℕ → List ℕ → Images
two_images ledger store zero = ledger
two_images ledger store (suc zero) = store
two_images ledger store (suc (suc k)) = []

pub are_two : (disks : Disks) (ledger store : List ℕ) → IsImage (file_of disks.ledger) ledger → IsImage (file_of disks.store) store → AreImages (files_on disks) (two_images ledger store)
are_two disks ledger store il is = record { each = each }
  where
    each : (k : ℕ) → IsImage (files_on disks k) (two_images ledger store k)
    each zero = il
    each (suc zero) = is
    each (suc (suc k)) = subst (λ (f : File). IsImage f []) (sym ((two_on disks).others k)) none_absent

-- what a crash leaves of the two files, it leaves of all
pub all_left : (files : Files) (P : Images → Type 0) → HasTwo files → EachImages files P → EachImages (files_on (disks_in files)) P
all_left files P two each = record { has = λ images are. each.has images (record { each = one images are }) }
  where
    one : (images : Images) → AreImages (files_on (disks_in files)) images → (k : ℕ) → IsImage (files k) (images k)
    one images are zero = image_of (files 0) (images 0) (are.each 0)
    one images are (suc zero) = image_of (files 1) (images 1) (are.each 1)
    one images are (suc (suc k)) = subst (λ (f : File). IsImage f (images (suc (suc k)))) ((two_on (disks_in files)).others k ∙ sym (two.others k)) (are.each (suc (suc k)))

two_done : (calls : List FileCall) (files : Files) → AllByRecursion (λ (c : FileCall). c.0 < 2) calls → HasTwo files → HasTwo (files_done calls files)
two_done [] files all two = two
two_done (c ∷ cs) files all two = two_done cs (file_done c files) all.1 (two_with c.0 (done c.1 (files c.0)) files all.0 two)

two_begun : (calls : List FileCall) (files : Files) → AllByRecursion (λ (c : FileCall). c.0 < 2) calls → HasTwo files → HasTwo (first_begun calls files)
two_begun [] files all two = two
two_begun (c ∷ cs) files all two = two_with c.0 (begun c.1 (files c.0)) files all.0 two

pub all_take : {A : Type 0} (P : A → Type 0) (n : ℕ) (xs : List A) → AllByRecursion P xs → AllByRecursion P (take n xs)
all_take P zero xs all = tt
all_take P (suc n) [] all = tt
all_take P (suc n) (x ∷ xs) all = (all.0, all_take P n xs all.1)

all_drop : {A : Type 0} (P : A → Type 0) (n : ℕ) (xs : List A) → AllByRecursion P xs → AllByRecursion P (drop n xs)
all_drop P zero xs all = all
all_drop P (suc n) [] all = tt
all_drop P (suc n) (x ∷ xs) all = all_drop P n xs all.1

pub all_both : {A : Type 0} (P : A → Type 0) (xs ys : List A) → AllByRecursion P xs → AllByRecursion P ys → AllByRecursion P (xs ++ ys)
all_both P [] ys a b = b
all_both P (x ∷ xs) ys a b = (a.0, all_both P xs ys a.1 b)

pub all_on : (n : ℕ) (calls : List Call) → n < 2 → AllByRecursion (λ (c : FileCall). c.0 < 2) (on n calls)
all_on n [] lt = tt
all_on n (c ∷ cs) lt = (lt, all_on n cs lt)

-- A call that was begun leaves what it leaves once it is made, or what was left before it.

cond_image : (b : Bool) (f g other : File) (image : List ℕ) → (IsImage f image → IsImage g image) → IsImage (cond b f other) image → IsImage (cond b g other) image
cond_image true f g other image to i = to i
cond_image false f g other image to i = i

begun_left : (n : ℕ) (call : Call) (files : Files) (P : Images → Type 0) → EachImages files P → EachImages (file_done (n, call) files) P → EachImages (with_file n (begun call (files n)) files) P
begun_left n (Write at bytes) files P before after = record {
  has = λ images are. after.has images (record {
    each = λ k. cond_image (k == n) (begun (Write at bytes) (files n)) (done (Write at bytes) (files n)) (files k) (images k)
        (recast (done (Write at bytes) (files n)) (begun (Write at bytes) (files n)) (images k) refl refl refl) (are.each k);
  });
}
begun_left n Sync files P before after = record {
  has = λ images are. before.has images (subst (λ (f : Files). AreImages f images) (with_file_same n (files n) files refl) (record {
    each = λ k. cond_image (k == n) (begun Sync (files n)) (files n) (files k) (images k)
        (recast (files n) (begun Sync (files n)) (images k) refl refl refl) (are.each k);
  }));
}

take_next : {A : Type 0} (xs : List A) (k : ℕ) (x : A) (rest : List A) → drop k xs ≡ x ∷ rest → take (suc k) xs ≡ take k xs ++ x ∷ []
take_next [] zero x rest e = absurd (cc)
take_next [] (suc k) x rest e = absurd (cc)
take_next (y ∷ xs) zero x rest e = let same : y ≡ x = cc in ap (λ (z : _). z ∷ []) same
take_next (y ∷ xs) (suc k) x rest e = ap (λ (l : List _). y ∷ l) (take_next xs k x rest e)

pub failed_left : (number : ℕ) (calls : List FileCall) (disks : Disks) (P : Images → Type 0) → AllByRecursion (λ (c : FileCall). c.0 < 2) calls → EachFilesMoment calls (files_on disks) P → EachImages (files_on (failed_at number calls disks)) P
failed_left number calls disks P two moments =
    all_left (first_begun (drop (number - 1) calls) before) P
    (two_begun (drop (number - 1) calls) before (all_drop (λ (c : FileCall). c.0 < 2) (number - 1) calls two) (two_done (take (number - 1) calls) files (all_take (λ (c : FileCall). c.0 < 2) (number - 1) calls two) (two_on disks)))
    (by_rest (drop (number - 1) calls) refl)
  where
    files : Files
    files = files_on disks

    before : Files
    before = files_done (take (number - 1) calls) files

    by_rest : (rest : List FileCall) → drop (number - 1) calls ≡ rest → EachImages (first_begun rest before) P
    by_rest [] is = moments.has (number - 1)
    by_rest (c ∷ rest) is =
        let next : files_done (take (suc (number - 1)) calls) files ≡ file_done c before =
        ap (λ (l : List FileCall). files_done l files) (take_next calls (number - 1) c rest is) ∙ files_done-append (take (number - 1) calls) (c ∷ []) files in
        begun_left c.0 c.1 before P (moments.has (number - 1)) (subst (λ (f : Files). EachImages f P) next (moments.has (suc (number - 1))))

-- and so does one that was made
pub called_left : (calls : List FileCall) (disks : Disks) (P : Images → Type 0) → AllByRecursion (λ (c : FileCall). c.0 < 2) calls → EachImages (files_done calls (files_on disks)) P → EachImages (files_on (called calls disks)) P
called_left calls disks P two each = all_left (files_done calls (files_on disks)) P (two_done calls (files_on disks) two (two_on disks)) each
