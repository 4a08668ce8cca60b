-- What a file in memory was after a number of its calls.
use Rattle.std.proofs.Common.{◌≡◌, ℕ, zero, suc, ◌+◌, ◌≤◌, Bool, true, false, max, List, [], ◌∷◌, ◌++◌, length, get_or, take, drop, reverse, refl, sym, ◌∙◌, ap, subst, arith, append_assoc, append-nil, length-append, length-drop}
use Rattle.std.proofs.lemmas.List.{take-append-le, drop-append-le, length-take-le, reverse-append}
use Rattle.swh_outside.specs.Disk.{File, Call, IsImage, IsOutside, patched}
use Rattle.swh_outside.proofs.Images.{beside}
use Rattle.swh_memory_disk.specs.Kept.{kept_file, resting}
use Rattle.swh_memory_disk.specs.Record.{size_of, sizes_of, call_of, calls_in, IsBare}
use Rattle.swh_memory_disk.specs.Past.{left_by, file_after, IsKeptAs, IsRecorded}
use Rattle.swh_memory_disk.specs.declared.record.MemoryCall.{MemoryCall}
use Rattle.swh_memory_disk.specs.declared.record.MemoryCall.TheVariants.{Length, Read, Written, Synced}
use Rattle.swh_memory_disk.specs.declared.record.MemoryRecord.{MemoryRecord}

take_whole : (xs : List ℕ) → take (length xs) xs ≡ xs
take_whole [] = refl
take_whole (x ∷ xs) = ap (λ (l : List ℕ). x ∷ l) (take_whole xs)

pub bare-size : (call : MemoryCall) → IsBare call → size_of call ≡ 0
bare-size Length bare = refl
bare-size (Read at count) bare = refl
bare-size (Written at count) bare = absurd bare
bare-size Synced bare = refl

last : (r : MemoryRecord) (written bytes : List ℕ) (file : File) → 0 ≡ length written → size_of r.call ≡ length bytes → file_after (r ∷ []) (written ++ bytes) file ≡ left_by r.call r.failed bytes file
last r [] bytes file none size = ap (λ (l : List ℕ). left_by r.call r.failed l file) (ap (λ (n : ℕ). take n bytes) size ∙ take_whole bytes)
last r (b ∷ written) bytes file none size = absurd (omega (arith, none))

-- one call more on record, with its bytes
pub file_after-push : (calls : List MemoryRecord) (r : MemoryRecord) (written bytes : List ℕ) (file : File) → sizes_of calls ≡ length written → size_of r.call ≡ length bytes
    → file_after (calls ++ r ∷ []) (written ++ bytes) file ≡ left_by r.call r.failed bytes (file_after calls written file)
file_after-push [] r written bytes file sizes size = last r written bytes file sizes size
file_after-push (q ∷ calls) r written bytes file sizes size =
    let n = size_of q.call in
    let le : n ≤ length written = omega (arith, sizes) in
    let rest : sizes_of calls ≡ length (drop n written) = omega (arith, sizes, length-drop n written) in
    ap (λ (l : List ℕ). file_after (calls ++ r ∷ []) (drop n (written ++ bytes)) (left_by q.call q.failed l file)) (take-append-le n written bytes le)
    ∙ ap (λ (l : List ℕ). file_after (calls ++ r ∷ []) l (left_by q.call q.failed (take n written) file)) (drop-append-le n written bytes le)
    ∙ file_after-push calls r (drop n written) bytes (left_by q.call q.failed (take n written) file) rest size

-- it changes nothing of what was before
pub file_after-take : (n : ℕ) (calls more : List MemoryRecord) (written bytes : List ℕ) (file : File) → n ≤ length calls → sizes_of calls ≡ length written
    → file_after (take n (calls ++ more)) (written ++ bytes) file ≡ file_after (take n calls) written file
file_after-take zero calls more written bytes file le sizes = refl
file_after-take (suc n) [] more written bytes file le sizes = absurd (omega (arith, le))
file_after-take (suc n) (q ∷ calls) more written bytes file le sizes =
    let m = size_of q.call in
    let within : m ≤ length written = omega (arith, sizes) in
    let rest : sizes_of calls ≡ length (drop m written) = omega (arith, sizes, length-drop m written) in
    ap (λ (l : List ℕ). file_after (take n (calls ++ more)) (drop m (written ++ bytes)) (left_by q.call q.failed l file)) (take-append-le m written bytes within)
    ∙ ap (λ (l : List ℕ). file_after (take n (calls ++ more)) l (left_by q.call q.failed (take m written) file)) (drop-append-le m written bytes within)
    ∙ file_after-take n calls more (drop m written) bytes (left_by q.call q.failed (take m written) file) (omega (arith, le)) rest

left_calls : (call : MemoryCall) (failed : Bool) (bytes : List ℕ) (file : File) → (left_by call failed bytes file).calls ≡ file.calls ++ call_of call bytes
left_calls Length failed bytes file = sym (append-nil file.calls)
left_calls (Read at count) failed bytes file = sym (append-nil file.calls)
left_calls (Written at count) true bytes file = refl
left_calls (Written at count) false bytes file = refl
left_calls Synced true bytes file = refl
left_calls Synced false bytes file = refl

-- its calls are those on record
pub calls-after : (calls : List MemoryRecord) (written : List ℕ) (file : File) → (file_after calls written file).calls ≡ file.calls ++ calls_in calls written
calls-after [] written file = sym (append-nil file.calls)
calls-after (r ∷ calls) written file =
    let n = size_of r.call in
    calls-after calls (drop n written) (left_by r.call r.failed (take n written) file)
    ∙ ap (λ (l : List Call). l ++ calls_in calls (drop n written)) (left_calls r.call r.failed (take n written) file)
    ∙ append_assoc file.calls (call_of r.call (take n written)) (calls_in calls (drop n written))

-- the file of these fields
file_is : (file : File) (base : List ℕ) (ranges : List (ℕ × ℕ)) (longest : ℕ) (seen : List ℕ) (calls : List Call) → IsKeptAs file base ranges longest seen → file.calls ≡ calls → file ≡ kept_file base ranges longest seen calls
file_is file base ranges longest seen calls kept calls_are =
    ap (λ (l : List ℕ). record { base = l; ranges = file.ranges; longest = file.longest; seen = file.seen; calls = file.calls }) kept.base_is
    ∙ ap (λ (l : List (ℕ × ℕ)). record { base = base; ranges = l; longest = file.longest; seen = file.seen; calls = file.calls }) kept.ranges_are
    ∙ ap (λ (n : ℕ). record { base = base; ranges = reverse ranges; longest = n; seen = file.seen; calls = file.calls }) kept.longest_is
    ∙ ap (λ (l : List ℕ). record { base = base; ranges = reverse ranges; longest = longest; seen = l; calls = file.calls }) kept.seen_is
    ∙ ap (λ (l : List Call). record { base = base; ranges = reverse ranges; longest = longest; seen = seen; calls = l }) calls_are

pub recorded_file : (made : List ℕ) (calls : List MemoryRecord) (written base : List ℕ) (ranges : List (ℕ × ℕ)) (longest : ℕ) (seen : List ℕ) → IsRecorded made calls written base ranges longest seen
    → file_after calls written (resting made) ≡ kept_file base ranges longest seen (calls_in calls written)
recorded_file made calls written base ranges longest seen kept = file_is _ base ranges longest seen (calls_in calls written) kept (calls-after calls written (resting made))

pub sizes_of-take : (n : ℕ) (calls : List MemoryRecord) → sizes_of (take n calls) ≤ sizes_of calls
sizes_of-take zero calls = omega arith
sizes_of-take (suc n) [] = omega arith
sizes_of-take (suc n) (q ∷ calls) = omega (arith, sizes_of-take n calls)

-- the last record of a longer list, and what was kept of it
pub recorded-push : (made : List ℕ) (calls : List MemoryRecord) (written : List ℕ) (r : MemoryRecord) (bytes : List ℕ) (calls_now : List MemoryRecord) (written_now base : List ℕ) (ranges : List (ℕ × ℕ)) (longest : ℕ) (seen : List ℕ)
    → sizes_of calls ≡ length written → size_of r.call ≡ length bytes → calls_now ≡ calls ++ r ∷ [] → written_now ≡ written ++ bytes
    → IsKeptAs (left_by r.call r.failed bytes (file_after calls written (resting made))) base ranges longest seen → IsRecorded made calls_now written_now base ranges longest seen
recorded-push made calls written r bytes calls_now written_now base ranges longest seen sizes size calls_are written_is kept =
    let whole = ap (λ (l : List MemoryRecord). file_after l written_now (resting made)) calls_are ∙ ap (λ (l : List ℕ). file_after (calls ++ r ∷ []) l (resting made)) written_is ∙ file_after-push calls r written bytes (resting made) sizes size in
    subst (λ (f : File). IsKeptAs f base ranges longest seen) (sym whole) kept

-- a call on record leaves of the file before it what the record says
pub file-push : (made : List ℕ) (calls : List MemoryRecord) (written base : List ℕ) (ranges : List (ℕ × ℕ)) (longest : ℕ) (seen : List ℕ) (r : MemoryRecord) (bytes : List ℕ)
    (calls_now : List MemoryRecord) (written_now base_now : List ℕ) (ranges_now : List (ℕ × ℕ)) (longest_now : ℕ) (seen_now : List ℕ)
    → sizes_of calls ≡ length written → size_of r.call ≡ length bytes → calls_now ≡ calls ++ r ∷ [] → written_now ≡ written ++ bytes
    → IsRecorded made calls written base ranges longest seen → IsRecorded made calls_now written_now base_now ranges_now longest_now seen_now
    → kept_file base_now ranges_now longest_now seen_now (calls_in calls_now written_now) ≡ left_by r.call r.failed bytes (kept_file base ranges longest seen (calls_in calls written))
file-push made calls written base ranges longest seen r bytes calls_now written_now base_now ranges_now longest_now seen_now sizes size calls_are written_is before after =
    sym (recorded_file made calls_now written_now base_now ranges_now longest_now seen_now after)
    ∙ ap (λ (l : List MemoryRecord). file_after l written_now (resting made)) calls_are ∙ ap (λ (l : List ℕ). file_after (calls ++ r ∷ []) l (resting made)) written_is ∙ file_after-push calls r written bytes (resting made) sizes size
    ∙ ap (λ (f : File). left_by r.call r.failed bytes f) (recorded_file made calls written base ranges longest seen before)

-- and nothing of what was before that
pub moments-push : (made : List ℕ) (calls : List MemoryRecord) (written : List ℕ) (r : MemoryRecord) (bytes : List ℕ) (calls_now : List MemoryRecord) (written_now : List ℕ) (n : ℕ)
    → sizes_of calls ≡ length written → calls_now ≡ calls ++ r ∷ [] → written_now ≡ written ++ bytes → n ≤ length calls
    → file_after (take n calls_now) written_now (resting made) ≡ file_after (take n calls) written (resting made)
moments-push made calls written r bytes calls_now written_now n sizes calls_are written_is le =
    ap (λ (l : List MemoryRecord). file_after (take n l) written_now (resting made)) calls_are ∙ ap (λ (l : List ℕ). file_after (take n (calls ++ r ∷ [])) l (resting made)) written_is
    ∙ file_after-take n calls (r ∷ []) written bytes (resting made) le sizes

-- what a write leaves of the fields
pub kept_write : (file : File) (base : List ℕ) (ranges : List (ℕ × ℕ)) (longest : ℕ) (seen : List ℕ) (at : ℕ) (bytes : List ℕ) (ranges_now : List (ℕ × ℕ)) (longest_now : ℕ) → IsKeptAs file base ranges longest seen
    → ranges_now ≡ ranges ++ (at, length bytes) ∷ [] → longest_now ≡ max longest (at + length bytes) → IsKeptAs (left_by (Written at (length bytes)) true bytes file) base ranges_now longest_now seen
kept_write file base ranges longest seen at bytes ranges_now longest_now kept ranges_are longest_is = record {
  base_is = kept.base_is;
  ranges_are = ap (λ (l : List (ℕ × ℕ)). (at, length bytes) ∷ l) kept.ranges_are ∙ sym (reverse-append ranges ((at, length bytes) ∷ [])) ∙ ap (λ (l : List (ℕ × ℕ)). reverse l) (sym ranges_are);
  longest_is = ap (λ (n : ℕ). max n (at + length bytes)) kept.longest_is ∙ sym longest_is;
  seen_is = kept.seen_is;
}

pub kept_write_done : (file : File) (base : List ℕ) (ranges : List (ℕ × ℕ)) (longest : ℕ) (seen : List ℕ) (at : ℕ) (bytes : List ℕ) (ranges_now : List (ℕ × ℕ)) (longest_now : ℕ) (seen_now : List ℕ) → IsKeptAs file base ranges longest seen
    → ranges_now ≡ ranges ++ (at, length bytes) ∷ [] → longest_now ≡ max longest (at + length bytes) → seen_now ≡ patched seen at bytes → IsKeptAs (left_by (Written at (length bytes)) false bytes file) base ranges_now longest_now seen_now
kept_write_done file base ranges longest seen at bytes ranges_now longest_now seen_now kept ranges_are longest_is seen_is =
    let begun = kept_write file base ranges longest seen at bytes ranges_now longest_now kept ranges_are longest_is in
    record { base_is = begun.base_is; ranges_are = begun.ranges_are; longest_is = begun.longest_is; seen_is = ap (λ (l : List ℕ). patched l at bytes) kept.seen_is ∙ sym seen_is }

-- and what a read then gives is an image
pub sees_written : (base : List ℕ) (ranges : List (ℕ × ℕ)) (longest : ℕ) (seen : List ℕ) (at : ℕ) (bytes : List ℕ) (ranges_now : List (ℕ × ℕ)) (longest_now : ℕ) (seen_now : List ℕ) → IsImage (kept_file base ranges longest seen []) seen → at ≤ length seen
    → ranges_now ≡ ranges ++ (at, length bytes) ∷ [] → longest_now ≡ max longest (at + length bytes) → seen_now ≡ patched seen at bytes → IsImage (kept_file base ranges_now longest_now seen_now []) seen_now
sees_written base ranges longest seen at bytes ranges_now longest_now seen_now image inside ranges_are longest_is seen_is =
    let turned : reverse ranges_now ≡ (at, length bytes) ∷ reverse ranges = ap (λ (l : List (ℕ × ℕ)). reverse l) ranges_are ∙ reverse-append ranges ((at, length bytes) ∷ []) in
    let size : length seen_now ≡ length (take at seen) + (length bytes + length (drop (at + length bytes) seen)) = omega (arith, ap length seen_is, length-append (take at seen) (bytes ++ drop (at + length bytes) seen), length-append bytes (drop (at + length bytes) seen)) in
    let front : length (take at seen) ≡ at = length-take-le at seen inside in
    let behind = length-drop (at + length bytes) seen in
    record {
      stays = λ k h out.
          let out_now = subst (λ (rs : List (ℕ × ℕ)). IsOutside rs k) turned out in
          ap (λ (l : List ℕ). get_or l k 0) seen_is ∙ beside seen bytes at k inside out_now.0 ∙ image.stays k h out_now.1;
      no_shorter = omega (arith, size, front, behind, image.no_shorter);
      no_longer = omega (arith, size, front, behind, image.no_longer, longest_is);
    }

-- what a call leaves that is no write
pub kept_bare_failed : (call : MemoryCall) (file : File) (base : List ℕ) (ranges : List (ℕ × ℕ)) (longest : ℕ) (seen : List ℕ) → IsBare call → IsKeptAs file base ranges longest seen → IsKeptAs (left_by call true [] file) base ranges longest seen
kept_bare_failed Length file base ranges longest seen bare kept = kept
kept_bare_failed (Read at count) file base ranges longest seen bare kept = kept
kept_bare_failed (Written at count) file base ranges longest seen bare kept = absurd bare
kept_bare_failed Synced file base ranges longest seen bare kept = record { base_is = kept.base_is; ranges_are = kept.ranges_are; longest_is = kept.longest_is; seen_is = kept.seen_is }

pub kept_bare : (call : MemoryCall) (failed : Bool) (file : File) (base : List ℕ) (ranges : List (ℕ × ℕ)) (longest : ℕ) (seen : List ℕ) → IsBare call → (call ≡ Synced → ⊥) → IsKeptAs file base ranges longest seen → IsKeptAs (left_by call failed [] file) base ranges longest seen
kept_bare Length failed file base ranges longest seen bare other kept = kept
kept_bare (Read at count) failed file base ranges longest seen bare other kept = kept
kept_bare (Written at count) failed file base ranges longest seen bare other kept = absurd bare
kept_bare Synced failed file base ranges longest seen bare other kept = absurd (other refl)

pub kept_synced : (file : File) (base : List ℕ) (ranges : List (ℕ × ℕ)) (longest : ℕ) (seen base_now : List ℕ) (ranges_now : List (ℕ × ℕ)) (longest_now : ℕ) → IsKeptAs file base ranges longest seen
    → base_now ≡ seen → ranges_now ≡ [] → longest_now ≡ length seen → IsKeptAs (left_by Synced false [] file) base_now ranges_now longest_now seen
kept_synced file base ranges longest seen base_now ranges_now longest_now kept base_is ranges_are longest_is = record {
  base_is = kept.seen_is ∙ sym base_is;
  ranges_are = ap (λ (l : List (ℕ × ℕ)). reverse l) (sym ranges_are);
  longest_is = ap length kept.seen_is ∙ sym longest_is;
  seen_is = kept.seen_is;
}

-- a write on record that failed, and one that did not
pub recorded_write_failed : (made : List ℕ) (calls : List MemoryRecord) (written base : List ℕ) (ranges : List (ℕ × ℕ)) (longest : ℕ) (seen : List ℕ) (at : ℕ) (bytes : List ℕ) (failed : Bool) (calls_now : List MemoryRecord) (written_now : List ℕ) (ranges_now : List (ℕ × ℕ)) (longest_now : ℕ)
    → sizes_of calls ≡ length written → IsRecorded made calls written base ranges longest seen → failed ≡ true → calls_now ≡ calls ++ record { call = Written at (length bytes); failed = failed } ∷ [] → written_now ≡ written ++ bytes
    → ranges_now ≡ ranges ++ (at, length bytes) ∷ [] → longest_now ≡ max longest (at + length bytes) → IsRecorded made calls_now written_now base ranges_now longest_now seen
recorded_write_failed made calls written base ranges longest seen at bytes failed calls_now written_now ranges_now longest_now sizes recorded failed_is calls_are written_is ranges_are longest_is =
    let file = file_after calls written (resting made) in
    recorded-push made calls written (record { call = Written at (length bytes); failed = failed }) bytes calls_now written_now base ranges_now longest_now seen sizes refl calls_are written_is
    (subst (λ (b : Bool). IsKeptAs (left_by (Written at (length bytes)) b bytes file) base ranges_now longest_now seen) (sym failed_is) (kept_write file base ranges longest seen at bytes ranges_now longest_now recorded ranges_are longest_is))

pub recorded_write : (made : List ℕ) (calls : List MemoryRecord) (written base : List ℕ) (ranges : List (ℕ × ℕ)) (longest : ℕ) (seen : List ℕ) (at : ℕ) (bytes : List ℕ) (failed : Bool) (calls_now : List MemoryRecord) (written_now : List ℕ) (ranges_now : List (ℕ × ℕ)) (longest_now : ℕ) (seen_now : List ℕ)
    → sizes_of calls ≡ length written → IsRecorded made calls written base ranges longest seen → failed ≡ false → calls_now ≡ calls ++ record { call = Written at (length bytes); failed = failed } ∷ [] → written_now ≡ written ++ bytes
    → ranges_now ≡ ranges ++ (at, length bytes) ∷ [] → longest_now ≡ max longest (at + length bytes) → seen_now ≡ patched seen at bytes → IsRecorded made calls_now written_now base ranges_now longest_now seen_now
recorded_write made calls written base ranges longest seen at bytes failed calls_now written_now ranges_now longest_now seen_now sizes recorded failed_is calls_are written_is ranges_are longest_is seen_is =
    let file = file_after calls written (resting made) in
    recorded-push made calls written (record { call = Written at (length bytes); failed = failed }) bytes calls_now written_now base ranges_now longest_now seen_now sizes refl calls_are written_is
    (subst (λ (b : Bool). IsKeptAs (left_by (Written at (length bytes)) b bytes file) base ranges_now longest_now seen_now) (sym failed_is) (kept_write_done file base ranges longest seen at bytes ranges_now longest_now seen_now recorded ranges_are longest_is seen_is))

-- a call on record that carries no bytes: one that failed, one that is no barrier, and a barrier
pub recorded_bare_failed : (made : List ℕ) (calls : List MemoryRecord) (written base : List ℕ) (ranges : List (ℕ × ℕ)) (longest : ℕ) (seen : List ℕ) (call : MemoryCall) (failed : Bool) (calls_now : List MemoryRecord)
    → sizes_of calls ≡ length written → IsRecorded made calls written base ranges longest seen → IsBare call → failed ≡ true → calls_now ≡ calls ++ record { call = call; failed = failed } ∷ [] → IsRecorded made calls_now written base ranges longest seen
recorded_bare_failed made calls written base ranges longest seen call failed calls_now sizes recorded bare failed_is calls_are =
    let file = file_after calls written (resting made) in
    recorded-push made calls written (record { call = call; failed = failed }) [] calls_now written base ranges longest seen sizes (bare-size call bare) calls_are (sym (append-nil written))
    (subst (λ (b : Bool). IsKeptAs (left_by call b [] file) base ranges longest seen) (sym failed_is) (kept_bare_failed call file base ranges longest seen bare recorded))

pub recorded_bare : (made : List ℕ) (calls : List MemoryRecord) (written base : List ℕ) (ranges : List (ℕ × ℕ)) (longest : ℕ) (seen : List ℕ) (call : MemoryCall) (failed : Bool) (calls_now : List MemoryRecord)
    → sizes_of calls ≡ length written → IsRecorded made calls written base ranges longest seen → IsBare call → (call ≡ Synced → ⊥) → calls_now ≡ calls ++ record { call = call; failed = failed } ∷ [] → IsRecorded made calls_now written base ranges longest seen
recorded_bare made calls written base ranges longest seen call failed calls_now sizes recorded bare other calls_are =
    let file = file_after calls written (resting made) in
    recorded-push made calls written (record { call = call; failed = failed }) [] calls_now written base ranges longest seen sizes (bare-size call bare) calls_are (sym (append-nil written))
    (kept_bare call failed file base ranges longest seen bare other recorded)

pub recorded_synced : (made : List ℕ) (calls : List MemoryRecord) (written base : List ℕ) (ranges : List (ℕ × ℕ)) (longest : ℕ) (seen : List ℕ) (call : MemoryCall) (failed : Bool) (calls_now : List MemoryRecord) (base_now : List ℕ) (ranges_now : List (ℕ × ℕ)) (longest_now : ℕ)
    → sizes_of calls ≡ length written → IsRecorded made calls written base ranges longest seen → call ≡ Synced → failed ≡ false → calls_now ≡ calls ++ record { call = call; failed = failed } ∷ []
    → base_now ≡ seen → ranges_now ≡ [] → longest_now ≡ length seen → IsRecorded made calls_now written base_now ranges_now longest_now seen
recorded_synced made calls written base ranges longest seen call failed calls_now base_now ranges_now longest_now sizes recorded call_is failed_is calls_are base_is ranges_are longest_is =
    let file = file_after calls written (resting made) in
    let bare : IsBare call = subst IsBare (sym call_is) tt in
    recorded-push made calls written (record { call = call; failed = failed }) [] calls_now written base_now ranges_now longest_now seen sizes (bare-size call bare) calls_are (sym (append-nil written))
    (subst (λ (b : Bool). IsKeptAs (left_by call b [] file) base_now ranges_now longest_now seen) (sym failed_is)
    (subst (λ (m : MemoryCall). IsKeptAs (left_by m false [] file) base_now ranges_now longest_now seen) (sym call_is) (kept_synced file base ranges longest seen base_now ranges_now longest_now recorded base_is ranges_are longest_is)))

-- what it leaves of the file before it
pub file-push_bare : (made : List ℕ) (calls : List MemoryRecord) (written base : List ℕ) (ranges : List (ℕ × ℕ)) (longest : ℕ) (seen : List ℕ) (call : MemoryCall) (failed : Bool)
    (calls_now : List MemoryRecord) (base_now : List ℕ) (ranges_now : List (ℕ × ℕ)) (longest_now : ℕ) (seen_now : List ℕ)
    → sizes_of calls ≡ length written → IsBare call → calls_now ≡ calls ++ record { call = call; failed = failed } ∷ []
    → IsRecorded made calls written base ranges longest seen → IsRecorded made calls_now written base_now ranges_now longest_now seen_now
    → kept_file base_now ranges_now longest_now seen_now (calls_in calls_now written) ≡ left_by call failed [] (kept_file base ranges longest seen (calls_in calls written))
file-push_bare made calls written base ranges longest seen call failed calls_now base_now ranges_now longest_now seen_now sizes bare calls_are before after =
    file-push made calls written base ranges longest seen (record { call = call; failed = failed }) [] calls_now written base_now ranges_now longest_now seen_now sizes (bare-size call bare) calls_are (sym (append-nil written)) before after
