-- Counts of paths in a list.
use Rattle.std.proofs.Common.{◌≡◌, ◌≢◌, ℕ, ◌<◌, ◌≤◌, Bool, true, false, cond, List, [], ◌∷◌, ◌++◌, length, length-append, get_or, set, string_bytes, refl, sym, ◌∙◌, ap, subst, arith}
use Rattle.std.specs.List.{position_or_len}
use Rattle.std.proofs.lemmas.List.Sums.{fails_before_first}
use Rattle.std.proofs.lemmas.Slice.Eq.{bytes_eq-Decides}
use Rattle.swh_outside.specs.Faults.{one_more}
use Rattle.swh_outside.specs.Counts.{is_of, count_in}
use Rattle.swh_outside.specs.declared.path_counts.PathCount.{PathCount}
use Rattle.swh_outside.proofs.FirstsLaws.{IsFirst, first_of, first_or-at, first_or-set_hit, first_or-set_miss, first_or-push, first_or-none, found_last}

abbrev pub with_faults : PathCount → ℕ → PathCount
with_faults count n = record { path = count.path; faults = n }

-- a path without a count has that of all others
pub count_in-absent : (counts : List PathCount) (others : ℕ) (path : List ℕ) → position_or_len (is_of path) counts ≡ length counts → count_in counts others path ≡ others
count_in-absent [] others path absent = refl
count_in-absent (c ∷ counts) others path absent =
    first_or-none (is_of path) (λ (count : PathCount). count.faults) others (c ∷ counts) c (λ k h. fails_before_first (is_of path) (c ∷ counts) k c (omega (arith, absent, h)))

-- which never falls
pub count_in-later : (counts : List PathCount) (others now : ℕ) (path : List ℕ) → others ≤ now → count_in counts others path ≤ count_in counts now path
count_in-later [] others now path le = le
count_in-later (c ∷ counts) others now path le = at (is_of path c) (count_in-later counts others now path le)
  where
    at : (b : Bool) → count_in counts others path ≤ count_in counts now path → cond b c.faults (count_in counts others path) ≤ cond b c.faults (count_in counts now path)
    at true rest = omega arith
    at false rest = rest

-- and one with a count of its own does not have that
pub count_in-counted : (counts : List PathCount) (others now : ℕ) (path : List ℕ) → position_or_len (is_of path) counts < length counts → count_in counts now path ≡ count_in counts others path
count_in-counted [] others now path inside = absurd (omega (arith, inside))
count_in-counted (c ∷ counts) others now path inside =
    let first = first_of (is_of path) (c ∷ counts) (position_or_len (is_of path) (c ∷ counts)) c refl inside in
    first_or-at (is_of path) (λ (count : PathCount). count.faults) now (c ∷ counts) _ c first ∙ sym (first_or-at (is_of path) (λ (count : PathCount). count.faults) others (c ∷ counts) _ c first)

-- the first count of a path is raised
pub raised : (counts : List PathCount) (i : ℕ) (z : PathCount) (path : List ℕ) (n : ℕ) → IsFirst (is_of path) counts i z → n ≡ one_more (get_or counts i z).faults
    → (others : ℕ) → count_in (set counts i (with_faults (get_or counts i z) n)) others path ≡ one_more (count_in counts others path)
raised counts i z path n first rose others =
    let was = first_or-at (is_of path) (λ (count : PathCount). count.faults) others counts i z first in
    let is = first_or-set_hit (is_of path) (λ (count : PathCount). count.faults) others counts i z (with_faults (get_or counts i z) n) first first.here in
    is ∙ rose ∙ ap one_more (sym was)

-- and that of no other path
pub raised-others : (counts : List PathCount) (i : ℕ) (z : PathCount) (path : List ℕ) (n : ℕ) → IsFirst (is_of path) counts i z
    → (others : ℕ) (p : List ℕ) → p ≢ path → count_in (set counts i (with_faults (get_or counts i z) n)) others p ≡ count_in counts others p
raised-others counts i z path n first others p apart = at (is_of p (get_or counts i z)) refl
  where
    at : (b : Bool) → is_of p (get_or counts i z) ≡ b → count_in (set counts i (with_faults (get_or counts i z) n)) others p ≡ count_in counts others p
    at true hit =
        let mine = (bytes_eq-Decides (string_bytes (get_or counts i z).path) path).0 first.here in
        let yours = (bytes_eq-Decides (string_bytes (get_or counts i z).path) p).0 hit in
        absurd (apart (sym yours ∙ mine))
    at false miss = first_or-set_miss (is_of p) (λ (count : PathCount). count.faults) others counts i z (with_faults (get_or counts i z) n) first.inside miss miss

-- and no count of any path falls
pub raised-later : (counts : List PathCount) (i : ℕ) (z : PathCount) (path : List ℕ) (n : ℕ) → IsFirst (is_of path) counts i z → (get_or counts i z).faults ≤ n
    → (others : ℕ) (p : List ℕ) → count_in counts others p ≤ count_in (set counts i (with_faults (get_or counts i z) n)) others p
raised-later counts i z path n first le others p = at (is_of p (get_or counts i z)) refl
  where
    f : PathCount → ℕ
    f count = count.faults

    at : (b : Bool) → is_of p (get_or counts i z) ≡ b → count_in counts others p ≤ count_in (set counts i (with_faults (get_or counts i z) n)) others p
    at true hit =
        let mine = (bytes_eq-Decides (string_bytes (get_or counts i z).path) path).0 first.here in
        let yours = (bytes_eq-Decides (string_bytes (get_or counts i z).path) p).0 hit in
        let its = subst (λ (q : List ℕ). IsFirst (is_of q) counts i z) (sym mine ∙ yours) first in
        let was = first_or-at (is_of p) (λ (count : PathCount). count.faults) others counts i z its in
        let is = first_or-set_hit (is_of p) (λ (count : PathCount). count.faults) others counts i z (with_faults (get_or counts i z) n) its hit in
        omega (arith, was, is, le)
    at false miss =
        let same = first_or-set_miss (is_of p) (λ (count : PathCount). count.faults) others counts i z (with_faults (get_or counts i z) n) first.inside miss miss in
        omega (arith, same)

-- a new count that says what none says
pub added-same : (counts : List PathCount) (q : PathCount) (others : ℕ) (p : List ℕ) → q.faults ≡ others → count_in (counts ++ q ∷ []) others p ≡ count_in counts others p
added-same counts q others p is = first_or-push (is_of p) (λ (count : PathCount). count.faults) others counts q is

pub added-counted : (counts : List PathCount) (q : PathCount) (path : List ℕ) → position_or_len (is_of path) counts ≡ length counts → string_bytes q.path ≡ path → position_or_len (is_of path) (counts ++ q ∷ []) < length (counts ++ q ∷ [])
added-counted counts q path absent is =
    let here : is_of path q ≡ true = (bytes_eq-Decides (string_bytes q.path) path).1 is in
    omega (arith, found_last (is_of path) counts q absent here, length-append counts (q ∷ []))
