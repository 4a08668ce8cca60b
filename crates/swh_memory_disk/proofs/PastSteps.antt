-- The calls on record made again, one after another, and the image nearest to a choice.
use Rattle.std.proofs.Common.{◌≡◌, ◌≢◌, ℕ, ◌+◌, ◌-◌, ◌<◌, ◌≤◌, ⊎_elim, min, max, List, [], ◌∷◌, ◌++◌, length, get_or, drop, reverse, sym, ◌∙◌, ap, subst, arith}
use Rattle.std.proofs.lemmas.List.{ext_get_or, get_or_append_left, get_or-append_right}
use Rattle.std.proofs.lemmas.Bool.{cases_eq}
use Rattle.swh_outside.specs.Disk.{File, IsImage, IsOutside}
use Rattle.swh_memory_disk.specs.Kept.{resting}
use Rattle.swh_memory_disk.specs.Record.{sizes_of}
use Rattle.swh_memory_disk.specs.Past.{file_after, IsNearest, IsByteNear}
use Rattle.swh_memory_disk.specs.Moments.{IsOfFile}
use Rattle.swh_memory_disk.specs.declared.record.MemoryRecord.{MemoryRecord}
use Rattle.swh_memory_disk.specs.declared.past.Past.{Past}

-- what the calls behind make of the file so far is what all of them make of the first one
pub record IsSoFar (made : List ℕ) (calls : List MemoryRecord) (written : List ℕ) (i : ℕ) (rest : List ℕ) (past : Past) : Type 0 where
  pub file : File
  pub kept : IsOfFile file past
  pub whole : file_after (drop i calls) rest file ≡ file_after calls written (resting made)
  pub room : sizes_of (drop i calls) ≤ length rest

-- an image of such bytes is the nearest
pub nearest : (file : File) (past : Past) (choice image : List ℕ) → IsOfFile file past → length past.base.items ≤ past.longest → length image ≡ max (length past.base.items) (min past.longest (length choice))
    → ((i : ℕ) → i < length image → IsByteNear past.base.items past.ranges.items choice i (get_or image i 0)) → IsNearest file choice image
nearest file past choice image is within size each =
    let base = past.base.items in
    let ranges = past.ranges.items in
    let same = ap length is.base_is in
    let longest = is.longest_is in
    record {
      is_image = record {
        stays = λ k h out.
            let lt : k < length base = omega (arith, h, same) in
            let out_now = subst (λ (rs : List (ℕ × ℕ)). IsOutside rs k) is.ranges_are out in
            let inside : k < length image = omega (arith, size, lt) in
            ⊎_elim
            (λ (stays : (k < length base) × IsOutside (reverse ranges) k × (get_or image k 0 ≡ get_or base k 0)). stays.2 ∙ ap (λ (l : List ℕ). get_or l k 0) (sym is.base_is))
            (λ (free : (k < length base → IsOutside (reverse ranges) k → ⊥) × (get_or image k 0 ≡ get_or choice k 0)). absurd (free.0 lt out_now))
            (each k inside);
        no_shorter = omega (arith, size, same);
        no_longer = omega (arith, size, longest, within);
      };
      length_is = size ∙ ap (λ (n : ℕ). max n (min past.longest (length choice))) (sym same) ∙ ap (λ (n : ℕ). max (length file.base) (min n (length choice))) (sym longest);
      free = λ k h other.
          ⊎_elim
          (λ (stays : (k < length base) × IsOutside (reverse ranges) k × (get_or image k 0 ≡ get_or base k 0)). absurd (other (omega (arith, stays.0, same)) (subst (λ (rs : List (ℕ × ℕ)). IsOutside rs k) (sym is.ranges_are) stays.1)))
          (λ (free : (k < length base → IsOutside (reverse ranges) k → ⊥) × (get_or image k 0 ≡ get_or choice k 0)). free.1)
          (each k h);
    }

-- and one that is chosen comes back
pub chosen : (file : File) (past : Past) (choice image : List ℕ) → IsOfFile file past → IsImage file choice → length image ≡ max (length past.base.items) (min past.longest (length choice))
    → ((i : ℕ) → i < length image → IsByteNear past.base.items past.ranges.items choice i (get_or image i 0)) → image ≡ choice
chosen file past choice image is fits size each =
    let base = past.base.items in
    let ranges = past.ranges.items in
    let same = ap length is.base_is in
    let length_is : length image ≡ length choice = omega (arith, size, same, is.longest_is, fits.no_shorter, fits.no_longer) in
    ext_get_or 0 image choice length_is (λ k h.
    ⊎_elim
    (λ (stays : (k < length base) × IsOutside (reverse ranges) k × (get_or image k 0 ≡ get_or base k 0)).
    stays.2 ∙ ap (λ (l : List ℕ). get_or l k 0) (sym is.base_is) ∙ sym (fits.stays k (omega (arith, stays.0, same)) (subst (λ (rs : List (ℕ × ℕ)). IsOutside rs k) (sym is.ranges_are) stays.1)))
    (λ (free : (k < length base → IsOutside (reverse ranges) k → ⊥) × (get_or image k 0 ≡ get_or choice k 0)). free.1)
    (each k h))

-- one byte more
pub near_more : (base : List ℕ) (ranges : List (ℕ × ℕ)) (choice image : List ℕ) (b k : ℕ) (now : List ℕ) → length image ≡ k → ((i : ℕ) → i < k → IsByteNear base ranges choice i (get_or image i 0)) → IsByteNear base ranges choice k b
    → now ≡ image ++ b ∷ [] → (i : ℕ) → i < k + 1 → IsByteNear base ranges choice i (get_or now i 0)
near_more base ranges choice image b k now size each here is i lt =
    ⊎_elim
    (λ (at : i ≡ k).
    let byte : b ≡ get_or now i 0 = sym (ap (λ (l : List ℕ). get_or l i 0) is ∙ get_or-append_right image (b ∷ []) k i 0 size (omega (arith, at)) ∙ (let first : i - k ≡ 0 = omega (arith, at) in ap (λ (n : ℕ). get_or (b ∷ []) n 0) first)) in
    subst (λ (n : ℕ). IsByteNear base ranges choice i n) byte (subst (λ (n : ℕ). IsByteNear base ranges choice n b) (sym at) here))
    (λ (apart : i ≢ k).
    let before : i < k = omega (arith, lt, apart) in
    let byte : get_or image i 0 ≡ get_or now i 0 = sym (ap (λ (l : List ℕ). get_or l i 0) is ∙ get_or_append_left image (b ∷ []) 0 i (omega (arith, size, before))) in
    subst (λ (n : ℕ). IsByteNear base ranges choice i n) byte (each i before))
    (cases_eq i k)
