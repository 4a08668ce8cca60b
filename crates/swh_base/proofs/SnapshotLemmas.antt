-- A body has one list of branches at most.
use Rattle.std.specs.Prelude.{if◌then◌else◌}
use Rattle.std.proofs.Common.{◌≡◌, ℕ, zero, suc, ◌+◌, ◌<◌, ◌^◌, ◌==◌, List, [], ◌∷◌, ◌++◌, length, get_or, map, Contains, refl, sym, ap, ◌∙◌, subst, arith, decimal, append_assoc, codes}
use Rattle.std.specs.List.{AllByRecursion}
use Rattle.std.specs.Int.Digits.{digits_of}
use Rattle.std.proofs.lemmas.Int.Digits.{all_below_base_digits_of}
use Rattle.std.proofs.lemmas.Fmt.{decimal_injective, decimal-digits_of, decimal_digit}
use Rattle.swh_base.specs.declared.kind.Kind.{Kind}
use Rattle.swh_base.specs.declared.kind.Kind.TheVariants.{Content, Directory, Revision, Release, Snapshot}
use Rattle.swh_base.specs.Snapshot.{BranchTarget, ToObject, ToBranch, ToNothing, SnapshotBranch, target_kind_word, target_word, target_bytes, IsTarget, IsBranch, AreBranches, branch_text, snapshot_text, IsSnapshot}
use Rattle.swh_base.proofs.ItemTexts.{items_on, one_items}
use Rattle.swh_base.proofs.Splits.{first_split, sized_split, absent, not_nil}

kind_word-no_space : (kind : Kind) → Contains (target_kind_word kind) 32 → ⊥
kind_word-no_space Content = absent 32 (codes "content") refl
kind_word-no_space Directory = absent 32 (codes "directory") refl
kind_word-no_space Revision = absent 32 (codes "revision") refl
kind_word-no_space Release = absent 32 (codes "release") refl
kind_word-no_space Snapshot = absent 32 (codes "snapshot") refl

pub word-no_space : (target : BranchTarget) → Contains (target_word target) 32 → ⊥
word-no_space (ToObject n) = kind_word-no_space n.kind
word-no_space (ToBranch name) = absent 32 (codes "alias") refl
word-no_space ToNothing = absent 32 (codes "dangling") refl

-- what a word and the bytes after it say: length and first byte tell the words apart
abbrev target_from : List ℕ → List ℕ → BranchTarget
target_from word bytes =
    if length word == 5 then ToBranch bytes
    else if (length word == 8) then (if get_or word 0 0 == 100 then ToNothing else if get_or word 0 0 == 114 then ToObject (record { kind = Revision; id = bytes }) else ToObject (record { kind = Snapshot; id = bytes }))
    else if length word == 9 then ToObject (record { kind = Directory; id = bytes })
    else if get_or word 0 0 == 99 then ToObject (record { kind = Content; id = bytes })
    else ToObject (record { kind = Release; id = bytes })

object_from : (kind : Kind) (id : List ℕ) → target_from (target_kind_word kind) id ≡ ToObject (record { kind = kind; id = id })
object_from Content id = refl
object_from Directory id = refl
object_from Revision id = refl
object_from Release id = refl
object_from Snapshot id = refl

target_from-word : (target : BranchTarget) → target_from (target_word target) (target_bytes target) ≡ target
target_from-word (ToObject n) = object_from n.kind n.id
target_from-word (ToBranch name) = refl
target_from-word ToNothing = refl

pub one_target : (a b : BranchTarget) → target_word a ≡ target_word b → target_bytes a ≡ target_bytes b → a ≡ b
one_target a b w e = sym (target_from-word a) ∙ ap (λ word. target_from word (target_bytes a)) w ∙ ap (target_from (target_word b)) e ∙ target_from-word b

-- a target's length is one that a machine has
pub target-short : (target : BranchTarget) → IsTarget target → length (target_bytes target) < 2 ^ 64
target-short (ToObject n) h = omega (arith, h)
target-short (ToBranch name) h = h.1
target-short ToNothing h = omega arith

no_colon_in : (ds : List ℕ) → AllByRecursion (λ d. d < 10) ds → Contains (map (λ d. 48 + d) ds) 58 → ⊥
no_colon_in [] all h = let l = h.1 in absurd (omega (arith, l))
no_colon_in (d ∷ ds) all (zero, l, e) = let small = all.0 in absurd (omega (arith, small, e))
no_colon_in (d ∷ ds) all (suc k, l, e) = no_colon_in ds all.1 (k, omega arith, e)

pub decimal-no_colon : (n : ℕ) → n < 2 ^ 64 → Contains (decimal n) 58 → ⊥
decimal-no_colon zero high h = absent 58 (48 ∷ []) refl (subst (λ (ds : List ℕ). Contains ds 58) (decimal_digit 0 (omega arith)) h)
decimal-no_colon (suc n) high h =
    let ds : List ℕ = digits_of 10 (suc n) in
    no_colon_in ds (all_below_base_digits_of 10 (suc n) (omega arith)) (subst (λ (t : List ℕ). Contains t 58) (decimal-digits_of (suc n) (omega arith) high) h)

-- a branch and what follows it, cut at the space, the NUL and the colon
pub branch_then : (b : SnapshotBranch) (x : List ℕ) → branch_text b ++ x ≡ target_word b.target ++ 32 ∷ (b.name ++ 0 ∷ (decimal (length (target_bytes b.target)) ++ 58 ∷ (target_bytes b.target ++ x)))
branch_then b x =
    let size = decimal (length (target_bytes b.target)) in
    append_assoc (target_word b.target) (32 ∷ (b.name ++ 0 ∷ (size ++ 58 ∷ target_bytes b.target))) x
    ∙ ap (λ (t : List ℕ). target_word b.target ++ 32 ∷ t) (append_assoc b.name (0 ∷ (size ++ 58 ∷ target_bytes b.target)) x)
    ∙ ap (λ (t : List ℕ). target_word b.target ++ 32 ∷ (b.name ++ 0 ∷ t)) (append_assoc size (58 ∷ target_bytes b.target) x)

-- no branch's text begins another's
pub one_branch : (a b : SnapshotBranch) (x y : List ℕ) → IsBranch a → IsBranch b → branch_text a ++ x ≡ branch_text b ++ y → (a ≡ b) × (x ≡ y)
one_branch a b x y ha hb e =
    let cut = sym (branch_then a x) ∙ e ∙ branch_then b y in
    let words = first_split 32 (target_word a.target) (target_word b.target) _ _ (word-no_space a.target) (word-no_space b.target) cut in
    let names = first_split 0 a.name b.name _ _ ha.no_nul hb.no_nul words.1 in
    let short_a = target-short a.target ha.target in
    let short_b = target-short b.target hb.target in
    let sizes = first_split 58 (decimal (length (target_bytes a.target))) (decimal (length (target_bytes b.target))) _ _ (decimal-no_colon _ short_a) (decimal-no_colon _ short_b) names.1 in
    let size = decimal_injective _ _ short_a short_b sizes.0 in
    let targets = sized_split (target_bytes a.target) (target_bytes b.target) x y size sizes.1 in
    let name = names.0 in
    let target = one_target a.target b.target words.0 targets.0 in
    (λ i. record { name = name i; target = target i }, targets.1)

pub branch-not_nil : (b : SnapshotBranch) (x : List ℕ) → branch_text b ++ x ≡ [] → ⊥
branch-not_nil b x e = not_nil (target_word b.target) _ 32 (sym (branch_then b x) ∙ e)

pub are-each_branch : (bs : List SnapshotBranch) → AreBranches bs → AllByRecursion IsBranch bs
are-each_branch [] h = tt
are-each_branch (b ∷ bs) h = (h.0, are-each_branch bs h.2)

-- A text of branches that goes on from the text of others has these in front.
pub branches_on : (bs cs : List SnapshotBranch) (rest : List ℕ) → AllByRecursion IsBranch bs → AllByRecursion IsBranch cs → snapshot_text bs ≡ snapshot_text cs ++ rest
    → (more : List SnapshotBranch) × (bs ≡ cs ++ more) × (rest ≡ snapshot_text more)
branches_on = items_on branch_text IsBranch one_branch branch-not_nil

pub one_snapshot : (body : List ℕ) (bs cs : List SnapshotBranch) → IsSnapshot body bs → IsSnapshot body cs → bs ≡ cs
one_snapshot body bs cs hb hc = one_items branch_text IsBranch one_branch branch-not_nil bs cs (are-each_branch bs hb.good) (are-each_branch cs hc.good) (sym hb.text ∙ hc.text)
