-- What stands before a path that is set.
use Rattle.std.proofs.Common.{◌≡◌, ℕ, List, [], ◌∷◌, ◌++◌, Contains, refl, sym, ap, ◌∙◌, subst, arith, codes}
use Rattle.std.specs.List.{AllPass}
use Rattle.swh_base.proofs.Middle.{in_middle}
use Rattle.swh_base.proofs.Ids.{IsIdText-encode}
use Rattle.swh_base.proofs.Splits.{first_split}
use Rattle.swh_base.specs.Name.{is_lower_hex_digit}
use Rattle.swh_fastgrammar.specs.declared.command.Dataref.{Dataref}
use Rattle.swh_fastgrammar.specs.declared.command.Dataref.TheVariants.{Mark, Inline, Hex}
use Rattle.swh_fastgrammar.specs.Grammar.{BeginsSet}
use Rattle.swh_fastlines.specs.Reading.{BeginsFile}
use Rattle.swh_fastgrammar.specs.Word.{IsMark, IsMode, SpellsId}
use Rattle.swh_fastgrammar.proofs.Rows.{same_tail}
use Rattle.swh_fastgrammar.proofs.Words.{mode-no_space, mode-no_link, number-no_space, not_among}
use Rattle.swh_fastgrammar.proofs.Parts.{link_plain}

abbrev first : List ℕ → ℕ
first [] = 0
first (c ∷ cs) = c

-- the text does not begin with the word
abbrev Lacks : List ℕ → List ℕ → Type 0
Lacks word text = (rest : List ℕ) → text ≡ word ++ rest → ⊥

-- nothing before a path that is a mark or `inline`
abbrev pub NoFile : List ℕ → Type 0
NoFile text = (what : Dataref) (rest : List ℕ) → BeginsFile text what rest → ⊥

pub no_file_space : (text marked : List ℕ) → text ≡ codes ":" ++ marked → (Contains marked 32 → ⊥) → NoFile text
no_file_space text marked e none (Mark m) rest h =
    let same : marked ≡ h.0 ++ 32 ∷ rest = same_tail (codes ":") marked (h.0 ++ 32 ∷ rest) (sym e ∙ h.1) in
    none (subst (λ (t : List ℕ). Contains t 32) (sym same) (in_middle h.0 rest 32))
no_file_space text marked e none (Inline bytes) rest h = let n : 58 ≡ 105 = ap first (sym e ∙ h) in absurd (omega (arith, n))
no_file_space text marked e none (Hex id) rest h = h

pub no_file_mark : (text marked number after : List ℕ) → text ≡ codes ":" ++ marked → (Contains number 32 → ⊥) → marked ≡ number ++ 32 ∷ after → ((m : ℕ) → IsMark number m → ⊥) → NoFile text
no_file_mark text marked number after e plain cut none (Mark m) rest h =
    let same = first_split 32 h.0 number rest after (number-no_space h.0 m h.2.number) plain (same_tail (codes ":") (h.0 ++ 32 ∷ rest) (number ++ 32 ∷ after) (sym h.1 ∙ e ∙ ap (λ (t : List ℕ). codes ":" ++ t) cut)) in
    none m (subst (λ (t : List ℕ). IsMark t m) same.0 h.2)
no_file_mark text marked number after e plain cut none (Inline bytes) rest h = let n : 58 ≡ 105 = ap first (sym e ∙ h) in absurd (omega (arith, n))
no_file_mark text marked number after e plain cut none (Hex id) rest h = h

-- nothing before a path that is set
abbrev pub NoFront : List ℕ → Type 0
NoFront text = (mode : ℕ) (what : Dataref) (rest : List ℕ) → BeginsSet text mode what rest → ⊥

-- no mode of a file or a link stands where that of a revision does
no_link_mode : (text a : List ℕ) (m : ℕ) (x : List ℕ) → codes "160000 " ++ text ≡ a ++ 32 ∷ x → IsMode a m → ⊥
no_link_mode text a m x e h = mode-no_link a m h (first_split 32 a (codes "160000") x text (mode-no_space a m h) link_plain (sym e)).0

no_link : (text : List ℕ) → ((id digits rest : List ℕ) → text ≡ digits ++ 32 ∷ rest → SpellsId digits id → ⊥) → NoFront (codes "160000 " ++ text)
no_link text none mode (Mark m) rest h = no_link_mode text h.0 mode _ h.2 h.3
no_link text none mode (Inline bytes) rest h = no_link_mode text h.0 mode _ h.1 h.2
no_link text none mode (Hex id) rest h = none id h.0 rest (same_tail (codes "160000 ") text (h.0 ++ 32 ∷ rest) h.1) h.3

pub no_link_space : (text : List ℕ) → (Contains text 32 → ⊥) → NoFront (codes "160000 " ++ text)
no_link_space text none = no_link text (λ id digits rest e h. none (subst (λ (t : List ℕ). Contains t 32) (sym e) (in_middle digits rest 32)))

id-no_space : (digits id : List ℕ) → SpellsId digits id → Contains digits 32 → ⊥
id-no_space digits id h k = not_among is_lower_hex_digit 32 digits refl (subst (AllPass is_lower_hex_digit) (sym h.0) (IsIdText-encode id h.1).1) k

pub no_link_id : (text word after : List ℕ) → (Contains word 32 → ⊥) → text ≡ word ++ 32 ∷ after → ((id : List ℕ) → SpellsId word id → ⊥) → NoFront (codes "160000 " ++ text)
no_link_id text word after plain cut none =
    no_link text (λ id digits rest e h. none id (subst (λ (t : List ℕ). SpellsId t id) (first_split 32 digits word rest after (id-no_space digits id h) plain (sym e ∙ cut)).0 h))

pub no_front_space : (text : List ℕ) → Lacks (codes "160000 ") text → (Contains text 32 → ⊥) → NoFront text
no_front_space text link none mode (Mark m) rest h = none (subst (λ (t : List ℕ). Contains t 32) (sym h.2) (in_middle h.0 _ 32))
no_front_space text link none mode (Inline bytes) rest h = none (subst (λ (t : List ℕ). Contains t 32) (sym h.1) (in_middle h.0 _ 32))
no_front_space text link none mode (Hex id) rest h = link _ h.1

pub no_front_mode : (text word after : List ℕ) → Lacks (codes "160000 ") text → (Contains word 32 → ⊥) → text ≡ word ++ 32 ∷ after → ((mode : ℕ) → IsMode word mode → ⊥) → NoFront text
no_front_mode text word after link plain cut none mode (Mark m) rest h =
    none mode (subst (λ (t : List ℕ). IsMode t mode) (first_split 32 h.0 word _ after (mode-no_space h.0 mode h.3) plain (sym h.2 ∙ cut)).0 h.3)
no_front_mode text word after link plain cut none mode (Inline bytes) rest h =
    none mode (subst (λ (t : List ℕ). IsMode t mode) (first_split 32 h.0 word _ after (mode-no_space h.0 mode h.2) plain (sym h.1 ∙ cut)).0 h.2)
no_front_mode text word after link plain cut none mode (Hex id) rest h = link _ h.1

pub no_front_file : (text word after : List ℕ) → Lacks (codes "160000 ") text → (Contains word 32 → ⊥) → text ≡ word ++ 32 ∷ after → NoFile after → NoFront text
no_front_file text word after link plain cut none mode (Mark m) rest h =
    none (Mark m) rest (h.1, sym (first_split 32 h.0 word _ after (mode-no_space h.0 mode h.3) plain (sym h.2 ∙ cut)).1, h.4)
no_front_file text word after link plain cut none mode (Inline bytes) rest h =
    none (Inline bytes) rest (sym (first_split 32 h.0 word _ after (mode-no_space h.0 mode h.2) plain (sym h.1 ∙ cut)).1)
no_front_file text word after link plain cut none mode (Hex id) rest h = link _ h.1

pub front_is : (text word after : List ℕ) (mode : ℕ) (what : Dataref) (rest : List ℕ) → text ≡ word ++ 32 ∷ after → IsMode word mode → BeginsFile after what rest → BeginsSet text mode what rest
front_is text word after mode (Mark m) rest cut is h = (word, h.0, cut ∙ ap (λ (t : List ℕ). word ++ 32 ∷ t) h.1, is, h.2)
front_is text word after mode (Inline bytes) rest cut is h = (word, cut ∙ ap (λ (t : List ℕ). word ++ 32 ∷ t) h, is)
front_is text word after mode (Hex id) rest cut is h = absurd h
