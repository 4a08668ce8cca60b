-- What a crash leaves of a file at rest, and of one with a single write since.
use Rattle.std.proofs.Common.{◌≡◌, ◌⊎◌, inl, inr, ⊎_elim, ℕ, suc, ◌+◌, ◌-◌, ◌<◌, ◌≤◌, List, [], ◌∷◌, ◌++◌, length, get_or, set, take, drop, refl, sym, ◌∙◌, ap, subst, arith, length-append, length-set, get_or-set_other, get_or-set_same}
use Rattle.std.proofs.lemmas.List.{ext_get_or, get_or-take, get_or-drop, get_or_append_left, get_or-append_right, length-take-le, set_at}
use Rattle.std.proofs.lemmas.Bool.{cases_eq, cases_lt}
use Rattle.swh_outside.specs.Disk.{File, IsImage, IsOutside, Call, Write, Sync, IsAtRest, begun, done, patched, IsFailedCall}

-- what a crash leaves depends on these three alone
pub recast : (m n : File) (image : List ℕ) → n.base ≡ m.base → n.ranges ≡ m.ranges → n.longest ≡ m.longest → IsImage n image → IsImage m image
recast m n image same_base same_ranges same_longest i = record {
  stays = λ k h out. i.stays k (omega (arith, h, ap length same_base)) (subst (λ (rs : List (ℕ × ℕ)). IsOutside rs k) (sym same_ranges) out) ∙ ap (λ (b : List ℕ). get_or b k 0) same_base;
  no_shorter = omega (arith, i.no_shorter, ap length same_base);
  no_longer = omega (arith, i.no_longer);
}

pub at_rest_image : (file : File) (image : List ℕ) → IsAtRest file → IsImage file image → image ≡ file.seen
at_rest_image file image rests i =
    let same = ap length rests.base in
    ext_get_or 0 image file.seen (omega (arith, i.no_shorter, i.no_longer, rests.longest, same)) (λ k h.
    i.stays k (omega (arith, i.no_longer, rests.longest, same)) (subst (λ (rs : List (ℕ × ℕ)). IsOutside rs k) (sym rests.ranges) tt) ∙ ap (λ (b : List ℕ). get_or b k 0) rests.base)

-- all before the place of the one write stays
pub front_stays : (file : File) (image bytes written : List ℕ) (at : ℕ) → IsAtRest file → file.seen ≡ bytes → at ≤ length bytes → IsImage (done (Write at written) file) image → take at image ≡ take at bytes
front_stays file image bytes written at rests is le i =
    let same = ap length rests.base in
    let same' = ap length is in
    let le_image : at ≤ length image = omega (arith, i.no_shorter) in
    let size : length (take at image) ≡ at = length-take-le at image le_image in
    let size' : length (take at bytes) ≡ at = length-take-le at bytes le in
    ext_get_or 0 (take at image) (take at bytes) (size ∙ sym size') (λ k h.
    let lt : k < at = omega (arith, h, size) in
    get_or-take at image k 0 lt ∙ i.stays k (omega arith) (inl lt, subst (λ (rs : List (ℕ × ℕ)). IsOutside rs k) (sym rests.ranges) tt) ∙ ap (λ (b : List ℕ). get_or b k 0) (rests.base ∙ is) ∙ sym (get_or-take at bytes k 0 lt))

-- a write of one byte within the file leaves all but this byte
pub one_byte : (file : File) (front rest image : List ℕ) (old new at : ℕ) → IsAtRest file → file.seen ≡ front ++ old ∷ rest → length front ≡ at → IsImage (done (Write at (new ∷ [])) file) image → image ≡ front ++ get_or image at 0 ∷ rest
one_byte file front rest image old new at rests is at_is i =
    let bytes = front ++ old ∷ rest in
    let gate = get_or image at 0 in
    let same = ap length rests.base in
    let same' = ap length is in
    let size : length bytes ≡ at + suc (length rest) = omega (arith, at_is, length-append front (old ∷ rest)) in
    let same_size : length image ≡ length (set bytes at gate) = omega (arith, i.no_shorter, i.no_longer, rests.longest, size, length-set bytes at gate) in
    ext_get_or 0 image (set bytes at gate) same_size (λ k h.
    let lt : k < length bytes = omega (arith, same_size, length-set bytes at gate) in
    elim (cases_eq k at) [
      | inl same_place ↦ ap (λ (n : ℕ). get_or image n 0) same_place ∙ sym (ap (λ (n : ℕ). get_or (set bytes at gate) n 0) same_place ∙ get_or-set_same bytes at gate 0 (omega (arith, size)))
      | inr other ↦ i.stays k (omega (arith, lt)) (⊎_elim (λ (lt' : k < at). inl lt') (λ (ge : at ≤ k). inr (omega (arith, ge, other))) (cases_lt k at), subst (λ (rs : List (ℕ × ℕ)). IsOutside rs k) (sym rests.ranges) tt)
          ∙ ap (λ (b : List ℕ). get_or b k 0) (rests.base ∙ is) ∙ sym (get_or-set_other bytes at k gate 0 other)
    ])
    ∙ set_at front old rest gate at at_is

-- after a barrier
pub at_rest_done : (file : File) → IsAtRest (done Sync file)
at_rest_done file = record { base = refl; ranges = refl; longest = refl }

-- a call that failed leaves no more than one that succeeded, or than before it
pub broken_image : (call : Call) (old new : File) (image : List ℕ) → IsFailedCall call old new → IsImage new image → IsImage (done call old) image ⊎ IsImage old image
broken_image (Write at bytes) old new image broken i = inl (recast (done (Write at bytes) old) (begun (Write at bytes) old) image refl refl refl (broken.images image i))
broken_image Sync old new image broken i = inr (recast old (begun Sync old) image refl refl refl (broken.images image i))

-- bytes beside those that are written stay
pub beside : (old bytes : List ℕ) (at k : ℕ) → at ≤ length old → (k < at) ⊎ (at + length bytes ≤ k) → get_or (patched old at bytes) k 0 ≡ get_or old k 0
beside old bytes at k le (inl before) =
    get_or_append_left (take at old) (bytes ++ drop (at + length bytes) old) 0 k (omega (arith, before, length-take-le at old le)) ∙ get_or-take at old k 0 before
beside old bytes at k le (inr behind) =
    let size : length (take at old) ≡ at = length-take-le at old le in
    let there : at + length bytes + (k - at - length bytes) ≡ k = omega (arith, behind) in
    get_or-append_right (take at old) (bytes ++ drop (at + length bytes) old) at k 0 size (omega (arith, behind))
    ∙ get_or-append_right bytes (drop (at + length bytes) old) (length bytes) (k - at) 0 refl (omega (arith, behind))
    ∙ get_or-drop (at + length bytes) old (k - at - length bytes) 0
    ∙ ap (λ (n : ℕ). get_or old n 0) there

-- and so is one that has begun, or that a barrier was refused for
pub begun_image : (call : Call) (file : File) (image : List ℕ) → IsImage file image → IsImage (begun call file) image
begun_image (Write at bytes) file image i = record { stays = λ k h out. i.stays k h out.1; no_shorter = i.no_shorter; no_longer = omega (arith, i.no_longer) }
begun_image Sync file image i = recast (begun Sync file) file image refl refl refl i
