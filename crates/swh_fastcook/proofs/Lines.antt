-- Lines that stand for the elements of a list, one after another.
use Rattle.std.proofs.Common.{◌≡◌, inl, inr, ℕ, ◌+◌, ◌<◌, List, [], ◌∷◌, ◌++◌, length, take, drop, get_or, refl, sym, ap, ◌∙◌, subst, append_assoc, add-one, drop-cons}
use Rattle.std.specs.Prelude.{Contains}
use Rattle.std.specs.List.{flat_map}
use Rattle.std.proofs.lemmas.List.{append-nil, take-append-drop, take_more}
use Rattle.std.proofs.lemmas.List.Elements.{Contains-append_cases}
use Rattle.std.proofs.lemmas.Grind.{flat_map-append}
use Rattle.std.proofs.lemmas.List.Concat.{flat_map-cons}
use Rattle.swh_base.specs.declared.name.Name.{Name}
use Rattle.swh_base.specs.Snapshot.{SnapshotBranch}
use Rattle.swh_base.proofs.Elementary.{only}
use Rattle.swh_snpfmt.specs.declared.branch.SpelledBranch.{SpelledBranch}
use Rattle.swh_snpfmt.specs.Branches.{branch_of, branches_in_body}
use Rattle.swh_fastwrite.specs.Held.{AddsUp, Kept, Goes}
use Rattle.swh_fastwrite.proofs.Pieces.{goes_both, front_behind, front_none}
use Rattle.swh_fastcook.specs.Stream.{target_tip, tips_text}
use Rattle.swh_fastcook.proofs.Texts.{unsettled}

-- what holds of each of the first, and of the next, holds of each of these
pub each_more : {X : Type 0} (P : X → Type 0) (xs : List X) (i : ℕ) (d : X) → i < length xs → ((x : X) → Contains (take i xs) x → P x) → P (get_or xs i d) → (x : X) → Contains (take (i + 1) xs) x → P x
each_more {X} P xs i d within all one x there =
    elim (Contains-append_cases (take i xs) (get_or xs i d ∷ []) x (subst (λ (l : List X). Contains l x) (take_more xs i d within) there)) [
      | inl was ↦ all x was
      | inr is ↦ subst P (only (get_or xs i d) x is) one
    ]

module _ {X : Type 0} (f : X → List ℕ) (xs : List X) (i : ℕ) (d : X) (within : i < length xs) where
  -- one line more
  pub lines_more : flat_map f (take (i + 1) xs) ≡ flat_map f (take i xs) ++ f (get_or xs i d)
  lines_more =
      ap (flat_map f) (take_more xs i d within) ∙ flat_map-append f (take i xs) (get_or xs i d ∷ [])
      ∙ ap (λ (l : List ℕ). flat_map f (take i xs) ++ l) (flat_map-cons f (get_or xs i d) [] ∙ append-nil (f (get_or xs i d)))

  next_is : drop i xs ≡ get_or xs i d ∷ drop (i + 1) xs
  next_is = rw (add-one, drop-cons xs i d)

  -- the next line, and those behind it
  pub lines_next : flat_map f (drop i xs) ≡ f (get_or xs i d) ++ flat_map f (drop (i + 1) xs)
  lines_next = ap (flat_map f) next_is ∙ flat_map-cons f (get_or xs i d) (drop (i + 1) xs)

-- the lines up to a place, and those from there on
pub lines_cut : {X : Type 0} (f : X → List ℕ) (xs : List X) (i : ℕ) → flat_map f xs ≡ flat_map f (take i xs) ++ flat_map f (drop i xs)
lines_cut f xs i = ap (flat_map f) (sym (take-append-drop i xs)) ∙ flat_map-append f (take i xs) (drop i xs)

-- ---- the tips of branches

abbrev pub tip_of : List Name → SpelledBranch → List ℕ
tip_of order b = target_tip order (branch_of b).name (branch_of b).target

pub tips_are : (order : List Name) (bs : List SpelledBranch) → tips_text order (branches_in_body bs) ≡ flat_map (tip_of order) bs
tips_are order [] = refl
tips_are order (b ∷ bs) =
    flat_map-cons (λ (x : SnapshotBranch). target_tip order x.name x.target) (branch_of b) (branches_in_body bs)
    ∙ ap (λ (l : List ℕ). tip_of order b ++ l) (tips_are order bs) ∙ sym (flat_map-cons (tip_of order) b bs)

module _ {T : Type 0} (takes front : T → List ℕ → T → Type 0) (sums : AddsUp takes front) (order : List Name) (bs : List SpelledBranch) (init mid : Kept T) (i : ℕ) (goes : Goes takes front init (flat_map (tip_of order) (take i bs)) mid) where
  whole : (new : T) → front init.taker (init.held ++ (flat_map (tip_of order) (take i bs) ++ flat_map (tip_of order) (drop i bs))) new → front init.taker (init.held ++ tips_text order (branches_in_body bs)) new
  whole new f = subst (λ (l : List ℕ). front init.taker (init.held ++ l) new) (sym (tips_are order bs ∙ lines_cut (tip_of order) bs i)) f

  -- the next tip was not appended
  pub tips_stopped : front init.taker (init.held ++ tips_text order (branches_in_body bs)) mid.taker
  tips_stopped =
      whole mid.taker
      (front_behind takes front sums init mid mid.taker (flat_map (tip_of order) (take i bs)) (flat_map (tip_of order) (drop i bs)) goes (front_none takes front sums mid (flat_map (tip_of order) (drop i bs))))

  module _ (d : SpelledBranch) (within : i < length bs) where
    -- the next tip was appended, and is not taken
    pub tips_unsettled : (more : List ℕ) (new : T) → more ≡ mid.held ++ tip_of order (get_or bs i d) → front mid.taker (more ++ []) new → front init.taker (init.held ++ tips_text order (branches_in_body bs)) new
    tips_unsettled more new is f =
        whole new
        (front_behind takes front sums init mid new (flat_map (tip_of order) (take i bs)) (flat_map (tip_of order) (drop i bs)) goes
        (subst (λ (l : List ℕ). front mid.taker (mid.held ++ l) new) (sym (lines_next (tip_of order) bs i d within))
        (unsettled takes front sums mid.taker mid.held (tip_of order (get_or bs i d)) more (flat_map (tip_of order) (drop (i + 1) bs)) new is f)))

    pub tips_more : (new : Kept T) → Goes takes front mid (tip_of order (get_or bs i d)) new → Goes takes front init (flat_map (tip_of order) (take (i + 1) bs)) new
    tips_more new g =
        subst (λ (l : List ℕ). Goes takes front init l new) (sym (lines_more (tip_of order) bs i d within))
        (goes_both takes front sums init mid new (flat_map (tip_of order) (take i bs)) (tip_of order (get_or bs i d)) goes g)

-- one line more behind what was held
pub lines_step : {X : Type 0} (f : X → List ℕ) (xs : List X) (i : ℕ) (d : X) → i < length xs → (out held new : List ℕ) → held ≡ out ++ flat_map f (take i xs) → new ≡ held ++ f (get_or xs i d) → new ≡ out ++ flat_map f (take (i + 1) xs)
lines_step f xs i d within out held new e n =
    n ∙ ap (λ (t : List ℕ). t ++ f (get_or xs i d)) e ∙ append_assoc out (flat_map f (take i xs)) (f (get_or xs i d))
    ∙ ap (λ (t : List ℕ). out ++ t) (sym (lines_more f xs i d within))
