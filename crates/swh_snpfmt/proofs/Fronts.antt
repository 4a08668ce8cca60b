-- What is cut off the front of a branch.
use Rattle.std.proofs.Common.{◌≡◌, ◌≢◌, ℕ, ◌<◌, ◌^◌, List, [], ◌∷◌, ◌++◌, length, Contains, refl, sym, ap, ◌∙◌, subst, arith, decimal, append_assoc, length-append}
use Rattle.std.proofs.lemmas.Fmt.{decimal_injective}
use Rattle.swh_base.specs.Snapshot.{BranchTarget, SnapshotBranch, IsBranch, IsTarget, target_word, target_bytes, branch_text}
use Rattle.swh_base.proofs.Splits.{first_split, sized_split}
use Rattle.swh_base.proofs.SnapshotLemmas.{word-no_space, target-short, decimal-no_colon, branch_then}
use Rattle.swh_base.proofs.Middle.{in_middle}
use Rattle.swh_snpfmt.specs.Fault.{BeginsBranch}
use Rattle.swh_snpfmt.specs.Reading.{sized_text}
use Rattle.swh_snpfmt.proofs.Targets.{NoTarget}

pub nil : (xs : List ℕ) → length xs ≡ 0 → xs ≡ []
nil [] e = refl
nil (x ∷ xs) e = absurd (omega arith)

pub sized_then : (content x : List ℕ) → sized_text content ++ x ≡ decimal (length content) ++ 58 ∷ (content ++ x)
sized_then content x = append_assoc (decimal (length content)) (58 ∷ content) x

-- What no length and colon begin.
abbrev pub NotSized : List ℕ → Type 0
NotSized bytes = (content rest : List ℕ) → length content < 2 ^ 64 → bytes ≡ sized_text content ++ rest → ⊥

pub sized-no_colon : (bytes : List ℕ) → (Contains bytes 58 → ⊥) → NotSized bytes
sized-no_colon bytes none content rest short e = none (subst (λ (t : List ℕ). Contains t 58) (sym (e ∙ sized_then content rest)) (in_middle (decimal (length content)) (content ++ rest) 58))

pub sized-no_number : (bytes digits after : List ℕ) → (Contains digits 58 → ⊥) → bytes ≡ digits ++ 58 ∷ after → ((n : ℕ) → n < 2 ^ 64 → digits ≡ decimal n → ⊥) → NotSized bytes
sized-no_number bytes digits after none e never content rest short f =
    let same = first_split 58 digits (decimal (length content)) after (content ++ rest) none (decimal-no_colon (length content) short) (sym e ∙ f ∙ sized_then content rest) in
    never (length content) short same.0

pub sized-too_long : (bytes digits after : List ℕ) (n : ℕ) → n < 2 ^ 64 → (Contains digits 58 → ⊥) → bytes ≡ digits ++ 58 ∷ after → digits ≡ decimal n → length after < n → NotSized bytes
sized-too_long bytes digits after n small none e d long content rest short f =
    let same = first_split 58 digits (decimal (length content)) after (content ++ rest) none (decimal-no_colon (length content) short) (sym e ∙ f ∙ sized_then content rest) in
    let size : n ≡ length content = decimal_injective n (length content) small short (sym d ∙ same.0) in
    absurd (omega (arith, ap length same.1, length-append content rest, size))

-- a branch cut at its space and its NUL
pub branch_cut : (b : SnapshotBranch) (x : List ℕ) → branch_text b ++ x ≡ target_word b.target ++ 32 ∷ (b.name ++ 0 ∷ (sized_text (target_bytes b.target) ++ x))
branch_cut b x = branch_then b x ∙ ap (λ (t : List ℕ). target_word b.target ++ 32 ∷ (b.name ++ 0 ∷ t)) (sym (sized_then (target_bytes b.target) x))

pub branch-no_space : (bytes : List ℕ) → (Contains bytes 32 → ⊥) → BeginsBranch bytes → ⊥
branch-no_space bytes none h = none (subst (λ (t : List ℕ). Contains t 32) (sym (h.text ∙ branch_cut h.branch h.rest)) (in_middle (target_word h.branch.target) _ 32))

-- what follows the word is what stands after the space
record AfterWord (word after : List ℕ) (b : SnapshotBranch) (rest : List ℕ) : Type 0 where
  same : word ≡ target_word b.target
  behind : after ≡ b.name ++ 0 ∷ (sized_text (target_bytes b.target) ++ rest)

after_word : (bytes word after : List ℕ) → (Contains word 32 → ⊥) → bytes ≡ word ++ 32 ∷ after → (h : BeginsBranch bytes) → AfterWord word after h.branch h.rest
after_word bytes word after none e h =
    let cut = first_split 32 word (target_word h.branch.target) after _ none (word-no_space h.branch.target) (sym e ∙ h.text ∙ branch_cut h.branch h.rest) in
    record { same = cut.0; behind = cut.1 }

pub branch-no_nul : (bytes word after : List ℕ) → (Contains word 32 → ⊥) → bytes ≡ word ++ 32 ∷ after → (Contains after 0 → ⊥) → BeginsBranch bytes → ⊥
branch-no_nul bytes word after none e never h = never (subst (λ (t : List ℕ). Contains t 0) (sym (after_word bytes word after none e h).behind) (in_middle h.branch.name _ 0))

-- and what follows the name is what stands after the NUL
record AfterName (name sized : List ℕ) (b : SnapshotBranch) (rest : List ℕ) : Type 0 where
  same : name ≡ b.name
  behind : sized ≡ sized_text (target_bytes b.target) ++ rest

after_name : (bytes word after name sized : List ℕ) → (Contains word 32 → ⊥) → bytes ≡ word ++ 32 ∷ after → (Contains name 0 → ⊥) → after ≡ name ++ 0 ∷ sized → (h : BeginsBranch bytes) → AfterName name sized h.branch h.rest
after_name bytes word after name sized none e no_nul en h =
    let cut = first_split 0 name h.branch.name sized _ no_nul h.is_branch.no_nul (sym en ∙ (after_word bytes word after none e h).behind) in
    record { same = cut.0; behind = cut.1 }

pub branch-empty_name : (bytes word after name sized : List ℕ) → (Contains word 32 → ⊥) → bytes ≡ word ++ 32 ∷ after → (Contains name 0 → ⊥) → after ≡ name ++ 0 ∷ sized → name ≡ [] → BeginsBranch bytes → ⊥
branch-empty_name bytes word after name sized none e no_nul en empty h = h.is_branch.not_empty (sym (after_name bytes word after name sized none e no_nul en h).same ∙ empty)

pub branch-not_sized : (bytes word after name sized : List ℕ) → (Contains word 32 → ⊥) → bytes ≡ word ++ 32 ∷ after → (Contains name 0 → ⊥) → after ≡ name ++ 0 ∷ sized → NotSized sized → BeginsBranch bytes → ⊥
branch-not_sized bytes word after name sized none e no_nul en never h =
    never (target_bytes h.branch.target) h.rest (target-short h.branch.target h.is_branch.target) (after_name bytes word after name sized none e no_nul en h).behind

pub branch-no_target : (bytes word after name sized content rest : List ℕ) → (Contains word 32 → ⊥) → bytes ≡ word ++ 32 ∷ after → (Contains name 0 → ⊥) → after ≡ name ++ 0 ∷ sized → length content < 2 ^ 64 → sized ≡ sized_text content ++ rest → NoTarget word content → BeginsBranch bytes → ⊥
branch-no_target bytes word after name sized content rest none e no_nul en short es never h =
    let found = target_bytes h.branch.target in
    let found_short = target-short h.branch.target h.is_branch.target in
    let both : decimal (length content) ++ 58 ∷ (content ++ rest) ≡ decimal (length found) ++ 58 ∷ (found ++ h.rest) =
    sym (sized_then content rest) ∙ sym es ∙ (after_name bytes word after name sized none e no_nul en h).behind ∙ sized_then found h.rest in
    let cut = first_split 58 (decimal (length content)) (decimal (length found)) (content ++ rest) (found ++ h.rest) (decimal-no_colon (length content) short) (decimal-no_colon (length found) found_short) both in
    let size = decimal_injective (length content) (length found) short found_short cut.0 in
    never h.branch.target h.is_branch.target (after_word bytes word after none e h).same (sized_split content found rest h.rest size cut.1).0

-- the parts make a branch
pub whole_branch : (bytes word after name sized content rest : List ℕ) (target : BranchTarget) → bytes ≡ word ++ 32 ∷ after → (Contains name 0 → ⊥) → after ≡ name ++ 0 ∷ sized → name ≢ [] → sized ≡ sized_text content ++ rest → IsTarget target → word ≡ target_word target → content ≡ target_bytes target
    → let branch : SnapshotBranch = record { name = name; target = target } in IsBranch branch × (bytes ≡ branch_text branch ++ rest)
whole_branch bytes word after name sized content rest target e no_nul en some es t w c =
    let branch : SnapshotBranch = record { name = name; target = target } in (
      record { not_empty = some; no_nul = no_nul; target = t },
      e ∙ ap (λ (x : List ℕ). x ++ 32 ∷ after) w ∙ ap (λ (x : List ℕ). target_word target ++ 32 ∷ x) (en ∙ ap (λ (x : List ℕ). name ++ 0 ∷ x) (es ∙ ap (λ (x : List ℕ). sized_text x ++ rest) c)) ∙ sym (branch_cut branch rest),
    )
