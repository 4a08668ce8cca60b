-- What a crash leaves between the device calls of the making of an archive.
use Rattle.std.proofs.Common.{rules, ◌≡◌, ◌≢◌, ◌⊎◌, inl, inr, ℕ, zero, suc, ◌<◌, ◌==◌, Bool, true, false, List, [], ◌∷◌, ◌++◌, length, get_or, take, drop, refl, sym, ◌∙◌, ap, subst, arith}
use Rattle.std.proofs.lemmas.Bool.{cases_eq}
use Rattle.std.proofs.lemmas.List.{get_or-take}
use Rattle.swh_outside.specs.Disk.{File, EachImage, EachMoment, IsAtRest, Call, Write, Sync, done, all_done}
use Rattle.swh_outside.specs.Files.{Files, EachImages, EachFilesMoment, on, with_file, files_done}
use Rattle.swh_outside.proofs.Images.{at_rest_image, at_rest_done, front_stays, one_byte}
use Rattle.swh_outside.proofs.Numbered.{files_done-append, files_done-on, files_moments_then, moments_on}
use Rattle.swh_format.specs.Record.{Stands}
use Rattle.swh_segment.specs.Settled.{IsSettled}
use Rattle.swh_segment.specs.Calls.{write_calls}
use Rattle.swh_segment.specs.Making.{IsNotMade, needs_clearing, magic_end, magic_calls, barriers, making_calls, IsNotMadeOrEmpty, IsEmptyArchive, IsCrashSafe}

abbrev P : List ℕ → Type 0
P ledger = IsNotMade ledger ⊎ Stands ledger []

-- a file at rest
rests_with : (now : File) → IsAtRest now → P now.seen → EachImage now P
rests_with now rests p = record { has = λ image i. subst P (sym (at_rest_image now image rests i)) p }

empty : (rest file : List ℕ) → file ≡ 83 ∷ (magic_end ++ rest) → Stands file []
empty rest file is = record { gate = 0; closed = λ e. absurd (omega (arith, e)); rest = rest; split = is }

-- the rest of the magic, and then its first byte, over a first byte that no made ledger has
module _ (file : File) (b : ℕ) (rest : List ℕ) (rests : IsAtRest file) (is : file.seen ≡ b ∷ rest) (other : b ≢ 83) where
  abbrev tail : List ℕ
  tail = drop 9 file.seen

  abbrev behind : File
  behind = done Sync (done (Write 1 magic_end) file)

  abbrev after : File
  after = done Sync (done (Write 0 (83 ∷ [])) behind)

  written : behind.seen ≡ b ∷ (magic_end ++ tail)
  written = ap (λ (l : List ℕ). take 1 l ++ (magic_end ++ tail)) is

  pub opened : after.seen ≡ 83 ∷ (magic_end ++ tail)
  opened = ap (λ (l : List ℕ). 83 ∷ drop 1 l) written

  before : P file.seen
  before = inl (inr (λ e. other (sym (ap (λ (l : List ℕ). get_or l 0 0) is) ∙ e)))

  torn_behind : EachImage (done (Write 1 magic_end) file) P
  torn_behind = record {
    has = λ image i.
        let kept : take 1 image ≡ b ∷ [] = front_stays file image (b ∷ rest) magic_end 1 rests is (omega arith) i in
        let lt : 0 < 1 = omega arith in
        let head : get_or image 0 0 ≡ b = sym (get_or-take 1 image 0 0 lt) ∙ ap (λ (l : List ℕ). get_or l 0 0) kept in
        inl (inr (λ e. other (sym head ∙ e)));
  }

  staged : P behind.seen
  staged = inl (inr (λ e. other (sym (ap (λ (l : List ℕ). get_or l 0 0) written) ∙ e)))

  torn_first : EachImage (done (Write 0 (83 ∷ [])) behind) P
  torn_first = record {
    has = λ image i.
        let whole = one_byte behind [] (magic_end ++ tail) image b 83 0 (at_rest_done (done (Write 1 magic_end) file)) written refl i in
        elim (cases_eq (get_or image 0 0) 83) [
          | inl made ↦ inr (empty tail image (whole ∙ ap (λ (g : ℕ). g ∷ (magic_end ++ tail)) made))
          | inr torn ↦ inl (inr torn)
        ];
  }

  pub moment : (n : ℕ) → EachImage (all_done (take n (write_calls 1 magic_end ++ write_calls 0 (83 ∷ []))) file) P
  moment zero = rests_with file rests before
  moment (suc zero) = torn_behind
  moment (suc (suc zero)) = rests_with behind (at_rest_done (done (Write 1 magic_end) file)) staged
  moment (suc (suc (suc zero))) = torn_first
  moment (suc (suc (suc (suc zero)))) = rests_with after (at_rest_done (done (Write 0 (83 ∷ [])) behind)) (inr (empty tail after.seen opened))
  moment (suc (suc (suc (suc (suc n))))) = rests_with after (at_rest_done (done (Write 0 (83 ∷ [])) behind)) (inr (empty tail after.seen opened))

is_s : (b : ℕ) → (b == 83) ≡ true → b ≡ 83
is_s b e = search rules

is_other : (b : ℕ) → (b == 83) ≡ false → b ≢ 83
is_other b e = search rules

short : (seen : List ℕ) → IsNotMade seen → needs_clearing seen ≡ true → length seen < 9
short [] not_made clears = omega arith
short (b ∷ rest) (inl lt) clears = lt
short (b ∷ rest) (inr ne) clears = absurd (ne (is_s b clears))

-- with the first byte cleared before, where it has to be
module _ (file : File) (rests : IsAtRest file) (not_made : IsNotMade file.seen) where
  abbrev cleared : File
  cleared = done Sync (done (Write 0 (0 ∷ [])) file)

  zero_other : (n : ℕ) → n ≡ 0 → n ≢ 83
  zero_other n is e = absurd (omega (arith, is, e))

  to_clear : needs_clearing file.seen ≡ true → (n : ℕ) → EachImage (all_done (take n (magic_calls true)) file) P
  to_clear clears zero = rests_with file rests (inl not_made)
  to_clear clears (suc zero) = record { has = λ image i. inl (inl (omega (arith, i.no_longer, rests.longest, short file.seen not_made clears))) }
  to_clear clears (suc (suc n)) = moment cleared 0 (drop 1 file.seen) (at_rest_done (done (Write 0 (0 ∷ [])) file)) refl (zero_other 0 refl) n

  is_clear : (seen : List ℕ) → file.seen ≡ seen → needs_clearing seen ≡ false → (n : ℕ) → EachImage (all_done (take n (magic_calls false)) file) P
  is_clear [] is clears n = absurd cc
  is_clear (b ∷ rest) is clears n = moment file b rest rests is (is_other b clears) n

  by_clears : (clears : Bool) → needs_clearing file.seen ≡ clears → (n : ℕ) → EachImage (all_done (take n (magic_calls clears)) file) P
  by_clears true is n = to_clear is n
  by_clears false is n = is_clear file.seen refl is n

  pub magic_moments : EachMoment (magic_calls (needs_clearing file.seen)) file P
  magic_moments = record { has = by_clears (needs_clearing file.seen) refl }

  -- and after all of them the ledger stands for the empty history
  settled_cleared : IsSettled (all_done (magic_calls true) file) [] 8
  settled_cleared = record {
    rests = at_rest_done (done (Write 0 (83 ∷ [])) (behind cleared 0 (drop 1 file.seen) (at_rest_done (done (Write 0 (0 ∷ [])) file)) refl (zero_other 0 refl)));
    stands = empty (drop 9 cleared.seen) _ (opened cleared 0 (drop 1 file.seen) (at_rest_done (done (Write 0 (0 ∷ [])) file)) refl (zero_other 0 refl));
    end_is = refl;
  }

  settled_clear : (seen : List ℕ) → file.seen ≡ seen → needs_clearing seen ≡ false → IsSettled (all_done (magic_calls false) file) [] 8
  settled_clear [] is clears = absurd cc
  settled_clear (b ∷ rest) is clears = record {
    rests = at_rest_done (done (Write 0 (83 ∷ [])) (behind file b rest rests is (is_other b clears)));
    stands = empty (drop 9 file.seen) _ (opened file b rest rests is (is_other b clears));
    end_is = refl;
  }

  settled : (clears : Bool) → needs_clearing file.seen ≡ clears → IsSettled (all_done (magic_calls clears) file) [] 8
  settled true is = settled_cleared
  settled false is = settled_clear file.seen refl is

  pub magic_settled : IsSettled (all_done (magic_calls (needs_clearing file.seen)) file) [] 8
  magic_settled = settled (needs_clearing file.seen) refl

module _ (files : Files) (not_made : IsNotMade (files 0).seen) where
  abbrev still : Files
  still = files_done barriers files

  abbrev calls : List Call
  calls = magic_calls (needs_clearing (files 0).seen)

  pub on_ledger : EachFilesMoment (on 0 calls) still IsNotMadeOrEmpty
  on_ledger = moments_on 0 calls still IsNotMadeOrEmpty (λ images others m i. ((magic_moments (done Sync (files 0)) (at_rest_done (files 0)) not_made).has m).has (images 0) i)

  at_barriers : EachImage (files 0) IsNotMade → EachFilesMoment barriers files IsNotMadeOrEmpty
  at_barriers each = record { has = moments }
    where
      after : EachImages still IsNotMadeOrEmpty
      after = record { has = λ images are. inl (subst IsNotMade (sym (at_rest_image (done Sync (files 0)) (images 0) (at_rest_done (files 0)) (are.each 0))) not_made) }

      moments : (n : ℕ) → EachImages (files_done (take n barriers) files) IsNotMadeOrEmpty
      moments zero = record { has = λ images are. inl (each.has (images 0) (are.each 0)) }
      moments (suc zero) = record { has = λ images are. inl (each.has (images 0) (are.each 0)) }
      moments (suc (suc zero)) = after
      moments (suc (suc (suc n))) = after

  -- a crash at any device call leaves an archive that is not made, or made and empty
  pub making_moments : EachImage (files 0) IsNotMade → IsCrashSafe files
  making_moments each = record { moments = files_moments_then barriers (on 0 calls) files IsNotMadeOrEmpty (at_barriers each) on_ledger }

  made_is : files_done (making_calls (files 0).seen) files ≡ with_file 0 (all_done calls (done Sync (files 0))) still
  made_is = files_done-append barriers (on 0 calls) files ∙ files_done-on 0 calls still

  -- and after all of them both files stand for no record, with nothing written since a barrier
  pub made_empty : IsEmptyArchive (files_done (making_calls (files 0).seen) files)
  made_empty = subst IsEmptyArchive (sym made_is) (record { ledger = magic_settled (done Sync (files 0)) (at_rest_done (files 0)) not_made; store = at_rest_done (files 1) })
