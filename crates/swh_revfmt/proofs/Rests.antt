-- Lines of a word and a text, and the rests of plain manifests.
use Rattle.std.proofs.Common.{◌≡◌, ℕ, ◌+◌, ◌≤◌, List, [], ◌∷◌, ◌++◌, length, Option, Some, None, Contains, IfSome, refl, sym, ap, ◌∙◌, subst, arith, append_assoc, length-append, codes}
use Rattle.swh_base.specs.Limits.{line_limit}
use Rattle.swh_base.specs.Text.{IsPerson}
use Rattle.swh_base.proofs.Splits.{first_split, sized_split}
use Rattle.swh_revfmt.specs.Plain.{text_line, optional_line, IsPersonLine, IsEncoding, RevisionRest, IsRevisionRest}
use Rattle.swh_base.proofs.Middle.{in_middle}
use Rattle.swh_base.proofs.Lacks.{person-no_feed}

-- a line and what follows
pub line_cut : (word text x : List ℕ) → text_line word text ++ x ≡ word ++ (text ++ 10 ∷ x)
line_cut word text x = append_assoc word (text ++ 10 ∷ []) x ∙ ap (λ (t : List ℕ). word ++ t) (append_assoc text (10 ∷ []) x)

pub no_line : (word bytes after : List ℕ) → bytes ≡ word ++ after → (Contains after 10 → ⊥) → (text rest : List ℕ) → bytes ≡ text_line word text ++ rest → ⊥
no_line word bytes after cut never text rest e =
    let same = (sized_split word word after (text ++ 10 ∷ rest) refl (sym cut ∙ e ∙ line_cut word text rest)).1 in
    never (subst (λ (t : List ℕ). Contains t 10) (sym same) (in_middle text rest 10))

-- two readings of a line
pub record Same (a b x y : List ℕ) : Type 0 where
  pub text : a ≡ b
  pub rest : x ≡ y

pub same_line : (word bytes a b x y : List ℕ) → (Contains a 10 → ⊥) → (Contains b 10 → ⊥) → bytes ≡ text_line word a ++ x → bytes ≡ text_line word b ++ y → Same a b x y
same_line word bytes a b x y na nb e f =
    let behind = sized_split word word (a ++ 10 ∷ x) (b ++ 10 ∷ y) refl (sym (line_cut word a x) ∙ sym e ∙ f ∙ line_cut word b y) in
    let cut = first_split 10 a b x y na nb behind.1 in
    record { text = cut.0; rest = cut.1 }

length-text_line : (word text : List ℕ) → length (text_line word text) ≡ length word + length text + 1
length-text_line word text = omega (arith, length-append word (text ++ 10 ∷ []), length-append text (10 ∷ []))

-- a line that is too long, and one whose text is no person
pub long_line : (word bytes a x : List ℕ) → (Contains a 10 → ⊥) → bytes ≡ text_line word a ++ x → line_limit ≤ length word + length a → (text rest : List ℕ) → IsPersonLine word text → bytes ≡ text_line word text ++ rest → ⊥
long_line word bytes a x na e long text rest p f =
    let same = (same_line word bytes a text x rest na (person-no_feed text p.person) e f).text in
    let short = p.short in
    absurd (omega (arith, ap length same, length-text_line word text, short))

pub no_person : (word bytes a x : List ℕ) → (Contains a 10 → ⊥) → bytes ≡ text_line word a ++ x → (IsPerson a → ⊥) → (text rest : List ℕ) → IsPersonLine word text → bytes ≡ text_line word text ++ rest → ⊥
no_person word bytes a x na e never text rest p f = never (subst IsPerson (sym (same_line word bytes a text x rest na (person-no_feed text p.person) e f).text) p.person)

pub long_encoding : (bytes a x : List ℕ) → (Contains a 10 → ⊥) → bytes ≡ text_line (codes "encoding ") a ++ x → line_limit ≤ 9 + length a → (text rest : List ℕ) → IsEncoding text → bytes ≡ text_line (codes "encoding ") text ++ rest → ⊥
long_encoding bytes a x na e long text rest p f =
    let same = (same_line (codes "encoding ") bytes a text x rest na p.one_line e f).text in
    let short = p.short in
    absurd (omega (arith, ap length same, length-text_line (codes "encoding ") text, short))

pub nul_encoding : (bytes a x : List ℕ) → (Contains a 10 → ⊥) → bytes ≡ text_line (codes "encoding ") a ++ x → Contains a 0 → (text rest : List ℕ) → IsEncoding text → bytes ≡ text_line (codes "encoding ") text ++ rest → ⊥
nul_encoding bytes a x na e nul text rest p f =
    let same = (same_line (codes "encoding ") bytes a text x rest na p.one_line e f).text in
    p.no_nul (subst (λ (t : List ℕ). Contains t 0) same nul)

-- an optional line after which no empty line stands
pub no_message : (word bytes a x : List ℕ) (P : List ℕ → Type 0) → ((text : List ℕ) → P text → Contains text 10 → ⊥) → (Contains a 10 → ⊥) → bytes ≡ text_line word a ++ x → ((rest : List ℕ) → bytes ≡ 10 ∷ rest → ⊥) → ((rest : List ℕ) → x ≡ 10 ∷ rest → ⊥)
    → (text : Option (List ℕ)) (message : List ℕ) → IfSome text P → bytes ≡ optional_line word text ++ 10 ∷ message → ⊥
no_message word bytes a x P lines na e never none None message h f = never message f
no_message word bytes a x P lines na e never none (Some text) message h f = none message (same_line word bytes a text x (10 ∷ message) na (lines text h) e f).rest

-- the rest of a plain revision, cut after its author and its committer
pub behind_author : (bytes a x : List ℕ) (r : RevisionRest) → IsPersonLine (codes "author ") a → bytes ≡ text_line (codes "author ") a ++ x → IsRevisionRest bytes r → x ≡ text_line (codes "committer ") r.committer ++ (optional_line (codes "encoding ") r.encoding ++ 10 ∷ r.message)
behind_author bytes a x r p e h =
    (same_line (codes "author ") bytes a r.author x (text_line (codes "committer ") r.committer ++ (optional_line (codes "encoding ") r.encoding ++ 10 ∷ r.message)) (person-no_feed a p.person) (person-no_feed r.author h.author.person) e h.text).rest

pub behind_committer : (bytes a x b y : List ℕ) (r : RevisionRest) → IsPersonLine (codes "author ") a → bytes ≡ text_line (codes "author ") a ++ x → IsPersonLine (codes "committer ") b → x ≡ text_line (codes "committer ") b ++ y → IsRevisionRest bytes r → y ≡ optional_line (codes "encoding ") r.encoding ++ 10 ∷ r.message
behind_committer bytes a x b y r p e q f h =
    (same_line (codes "committer ") x b r.committer y (optional_line (codes "encoding ") r.encoding ++ 10 ∷ r.message) (person-no_feed b q.person) (person-no_feed r.committer h.committer.person) f (behind_author bytes a x r p e h)).rest
