-- What a crash leaves between the device calls of an append.
use Rattle.std.proofs.Common.{◌≡◌, inl, inr, ℕ, zero, suc, ◌+◌, ◌≤◌, List, [], ◌∷◌, ◌++◌, length, get_or, take, drop, sym, ◌∙◌, ap, subst, arith, append_assoc, length-append, take-append-drop}
use Rattle.std.proofs.lemmas.List.{take_at, drop_at}
use Rattle.swh_outside.specs.Disk.{File, EachImage, EachMoment, IsAtRest, Write, Sync, done, all_done, patched}
use Rattle.swh_outside.proofs.Images.{at_rest_image, at_rest_done, front_stays, one_byte}
use Rattle.swh_format.specs.Record.{Record, body, front, with_or_without, IsReady}
use Rattle.swh_segment.specs.Calls.{append_calls}
use Rattle.swh_segment.specs.Settled.{IsSettled}
use Rattle.swh_format.proofs.Gates.{front-push, closed_gate, opened_gate, any_gate}

pub in_file : (file : File) (rs : List Record) (end : ℕ) → IsSettled file rs end → end + 1 ≤ length file.seen
in_file file rs end settled = omega (arith, settled.end_is, ap length settled.stands.split, length-append (front rs) (settled.stands.gate ∷ settled.stands.rest))

module _ (file : File) (rs : List Record) (r : Record) (end : ℕ) (settled : IsSettled file rs end) where
  abbrev bytes : List ℕ
  bytes = body r ++ 0 ∷ []

  abbrev is : file.seen ≡ front rs ++ settled.stands.gate ∷ settled.stands.rest
  is = settled.stands.split

  abbrev rest_after : List ℕ
  rest_after = drop (end + 1 + length bytes) file.seen

  -- the file with the record after its closed gate, and with the gate open
  abbrev staged : List ℕ
  staged = front rs ++ (settled.stands.gate ∷ body r ++ 0 ∷ rest_after)

  abbrev opened : List ℕ
  opened = front rs ++ (1 ∷ body r ++ 0 ∷ rest_after)

  size : (g : ℕ) → length (front rs ++ g ∷ []) ≡ end + 1
  size g = omega (arith, settled.end_is, length-append (front rs) (g ∷ []))

  to_gate : (g : ℕ) (l : List ℕ) → take (end + 1) (front rs ++ g ∷ l) ≡ front rs ++ g ∷ []
  to_gate g l = ap (λ (m : List ℕ). take (end + 1) m) (sym (append_assoc (front rs) (g ∷ []) l)) ∙ take_at (front rs ++ g ∷ []) l (end + 1) (size g)

  past_gate : (g : ℕ) (l : List ℕ) → drop (end + 1) (front rs ++ g ∷ l) ≡ l
  past_gate g l = ap (λ (m : List ℕ). drop (end + 1) m) (sym (append_assoc (front rs) (g ∷ []) l)) ∙ drop_at (front rs ++ g ∷ []) l (end + 1) (size g)

  patched_staged : patched file.seen (end + 1) bytes ≡ staged
  patched_staged =
      ap (λ (l : List ℕ). take (end + 1) l ++ (bytes ++ rest_after)) is
      ∙ ap (λ (l : List ℕ). l ++ (bytes ++ rest_after)) (to_gate settled.stands.gate settled.stands.rest)
      ∙ append_assoc (front rs) (settled.stands.gate ∷ []) (bytes ++ rest_after)
      ∙ ap (λ (l : List ℕ). front rs ++ settled.stands.gate ∷ l) (append_assoc (body r) (0 ∷ []) rest_after)

  patched_opened : (seen : List ℕ) → seen ≡ staged → patched seen end (1 ∷ []) ≡ opened
  patched_opened seen is_staged =
      ap (λ (l : List ℕ). patched l end (1 ∷ [])) is_staged
      ∙ ap (λ (l : List ℕ). l ++ (1 ∷ drop (end + 1) staged)) (take_at (front rs) (settled.stands.gate ∷ body r ++ 0 ∷ rest_after) end settled.end_is)
      ∙ ap (λ (l : List ℕ). front rs ++ 1 ∷ l) (past_gate settled.stands.gate (body r ++ 0 ∷ rest_after))

  length-opened : length (front (rs ++ r ∷ [])) ≡ end + length bytes
  length-opened =
      let same = ap length (front-push rs r []) in
      omega (arith, same, settled.end_is, length-append (front (rs ++ r ∷ [])) [], length-append (front rs) (1 ∷ body r ++ []), length-append (body r) [], length-append (body r) (0 ∷ []))

  -- while the record is written after the closed gate
  torn_behind : EachImage (done (Write (end + 1) bytes) file) (with_or_without rs r)
  torn_behind = record {
    has = λ image i.
        let there = front rs ++ settled.stands.gate ∷ settled.stands.rest in
        let kept : take (end + 1) image ≡ front rs ++ settled.stands.gate ∷ [] =
        front_stays file image there bytes (end + 1) settled.rests is (omega (arith, in_file file rs end settled, ap length is)) i ∙ to_gate settled.stands.gate settled.stands.rest in
        let tail = drop (end + 1) image in
        inl (closed_gate rs settled.stands.gate tail image settled.stands.closed (sym (take-append-drop (end + 1) image) ∙ ap (λ (l : List ℕ). l ++ tail) kept ∙ append_assoc (front rs) (settled.stands.gate ∷ []) tail));
  }

  -- while the gate is written
  torn_gate : (now : File) → IsAtRest now → now.seen ≡ staged → EachImage (done (Write end (1 ∷ [])) now) (with_or_without rs r)
  torn_gate now rests there = record {
    has = λ image i.
        any_gate rs r (get_or image end 0) rest_after image (one_byte now (front rs) (body r ++ 0 ∷ rest_after) image settled.stands.gate 1 end rests there settled.end_is i);
  }

  -- between a barrier and the next call
  rests_with : (now : File) → IsAtRest now → with_or_without rs r now.seen → EachImage now (with_or_without rs r)
  rests_with now rests stands = record { has = λ image i. subst (with_or_without rs r) (sym (at_rest_image now image rests i)) stands }

  abbrev behind : File
  behind = done Sync (done (Write (end + 1) bytes) file)

  abbrev after : File
  after = done Sync (done (Write end (1 ∷ [])) behind)

  after_is : after.seen ≡ opened
  after_is = patched_opened behind.seen patched_staged

  moment : (n : ℕ) → EachImage (all_done (take n (append_calls end bytes)) file) (with_or_without rs r)
  moment zero = rests_with file settled.rests (inl settled.stands)
  moment (suc zero) = torn_behind
  moment (suc (suc zero)) = rests_with behind (at_rest_done (done (Write (end + 1) bytes) file)) (inl (closed_gate rs settled.stands.gate (body r ++ 0 ∷ rest_after) behind.seen settled.stands.closed patched_staged))
  moment (suc (suc (suc zero))) = torn_gate behind (at_rest_done (done (Write (end + 1) bytes) file)) patched_staged
  moment (suc (suc (suc (suc zero)))) = rests_with after (at_rest_done (done (Write end (1 ∷ [])) behind)) (inr (opened_gate rs r rest_after after.seen after_is))
  moment (suc (suc (suc (suc (suc n))))) = rests_with after (at_rest_done (done (Write end (1 ∷ [])) behind)) (inr (opened_gate rs r rest_after after.seen after_is))

  -- a crash between two calls, or in one, leaves the records with the new one or without
  pub each_moment : (written : List ℕ) → IsReady written r → EachMoment (append_calls end written) file (with_or_without rs r)
  each_moment written ready = subst (λ (b : List ℕ). EachMoment (append_calls end b) file (with_or_without rs r)) (sym ready.is) (record { has = moment })

  -- and after all of them the new one is there
  pub appended : (written : List ℕ) (now : File) → IsReady written r → now ≡ all_done (append_calls end written) file → IsSettled now (rs ++ r ∷ []) (end + length written)
  appended written now ready there =
      let there' : now ≡ after = there ∙ ap (λ (b : List ℕ). all_done (append_calls end b) file) ready.is in
      subst (λ (n : ℕ). IsSettled now (rs ++ r ∷ []) (end + n)) (sym (ap length ready.is))
      (subst (λ (f : File). IsSettled f (rs ++ r ∷ []) (end + length bytes)) (sym there') (record { rests = at_rest_done (done (Write end (1 ∷ [])) behind); stands = opened_gate rs r rest_after after.seen after_is; end_is = length-opened }))
