-- What a line begins with, and what it says: one thing at most.
use Rattle.std.proofs.Common.{◌≡◌, ℕ, List, [], ◌∷◌, ◌++◌, Contains, refl, sym, ap, ◌∙◌, subst, arith, codes, append_assoc}
use Rattle.hex.specs.Hex.{encode_lower}
use Rattle.swh_base.proofs.Ids.{IsIdText-encode}
use Rattle.swh_base.proofs.Splits.{first_split}
use Rattle.swh_base.specs.Name.{IsId, is_lower_hex_digit}
use Rattle.swh_fastlex.specs.Path.{NamesPath, PassesPath}
use Rattle.swh_fastlex.specs.Word.{IsWord}
use Rattle.swh_fastlex.specs.declared.word.Word.TheVariants.{Is, No}
use Rattle.swh_fastlex.proofs.Runs.{one_run}
use Rattle.swh_fastgrammar.specs.Word.{SpellsId}
use Rattle.swh_fastgrammar.proofs.Rows.{same_tail}
use Rattle.swh_fastgrammar.proofs.Words.{not_among, one_id, one_path}
use Rattle.swh_listing.specs.declared.listed.Listed.{Listed}
use Rattle.swh_listing.specs.declared.listed.Mode.{Mode}
use Rattle.swh_listing.specs.declared.listed.Mode.TheVariants.{Executable, Link, Project}
use Rattle.swh_listing.specs.Line.{mode_text, BeginsMode, SaysListed, PassesPathIn}

abbrev second : List ℕ → ℕ
second [] = 0
second (c ∷ []) = 0
second (c ∷ d ∷ cs) = d

-- the line begins with no mode
abbrev pub NoMode : List ℕ → Type 0
NoMode line = (mode : Mode) (rest : List ℕ) → BeginsMode line mode rest → ⊥

-- what stands between a project's mode and the path
project_cut : (id text : List ℕ) → mode_text (Project id) ++ text ≡ codes "160000 " ++ (encode_lower id ++ 32 ∷ text)
project_cut id text = ap (λ (t : List ℕ). codes "160000 " ++ t) (append_assoc (encode_lower id) (32 ∷ []) text)

id-no_space : (id : List ℕ) → IsId id → Contains (encode_lower id) 32 → ⊥
id-no_space id h k = not_among is_lower_hex_digit 32 (encode_lower id) refl (IsIdText-encode id h).1 k

no_project : (text : List ℕ) → ((id rest : List ℕ) → text ≡ encode_lower id ++ 32 ∷ rest → IsId id → ⊥) → NoMode (codes "160000 " ++ text)
no_project text none Executable rest h = let n : 54 ≡ 48 = ap second h.spelled in absurd (omega (arith, n))
no_project text none Link rest h = let n : 54 ≡ 50 = ap second h.spelled in absurd (omega (arith, n))
no_project text none (Project id) rest h = none id rest (same_tail (codes "160000 ") text (encode_lower id ++ 32 ∷ rest) (h.spelled ∙ project_cut id rest)) h.id

pub no_project_id : (text word after : List ℕ) → (Contains word 32 → ⊥) → text ≡ word ++ 32 ∷ after → ((id : List ℕ) → SpellsId word id → ⊥) → NoMode (codes "160000 " ++ text)
no_project_id text word after plain cut none = no_project text (λ id rest e h. none id (sym (first_split 32 (encode_lower id) word rest after (id-no_space id h) plain (sym e ∙ cut)).0, h))

-- A line begins with one mode at most.
pub one_mode : (line : List ℕ) (m n : Mode) (s t : List ℕ) → BeginsMode line m s → BeginsMode line n t → (m ≡ n) × (s ≡ t)
one_mode line Executable Executable s t a b = (refl, same_tail (codes "100755 ") s t (sym a.spelled ∙ b.spelled))
one_mode line Executable Link s t a b = let n : 48 ≡ 50 = ap second (sym a.spelled ∙ b.spelled) in absurd (omega (arith, n))
one_mode line Executable (Project id) s t a b = let n : 48 ≡ 54 = ap second (sym a.spelled ∙ b.spelled) in absurd (omega (arith, n))
one_mode line Link Executable s t a b = let n : 50 ≡ 48 = ap second (sym a.spelled ∙ b.spelled) in absurd (omega (arith, n))
one_mode line Link Link s t a b = (refl, same_tail (codes "120000 ") s t (sym a.spelled ∙ b.spelled))
one_mode line Link (Project id) s t a b = let n : 50 ≡ 54 = ap second (sym a.spelled ∙ b.spelled) in absurd (omega (arith, n))
one_mode line (Project id) Executable s t a b = let n : 54 ≡ 48 = ap second (sym a.spelled ∙ b.spelled) in absurd (omega (arith, n))
one_mode line (Project id) Link s t a b = let n : 54 ≡ 50 = ap second (sym a.spelled ∙ b.spelled) in absurd (omega (arith, n))
one_mode line (Project i) (Project j) s t a b =
    let whole = same_tail (codes "160000 ") (encode_lower i ++ 32 ∷ s) (encode_lower j ++ 32 ∷ t) (sym (project_cut i s) ∙ sym a.spelled ∙ b.spelled ∙ project_cut j t) in
    let same = first_split 32 (encode_lower i) (encode_lower j) s t (id-no_space i a.id) (id-no_space j b.id) whole in
    (ap Project (one_id (encode_lower i) i j (refl, a.id) (same.0, b.id)), same.1)

-- A line says one thing at most.
pub one_said : (line : List ℕ) (a b : Listed) → SaysListed line a → SaysListed line b → a ≡ b
one_said line a b x y =
    let begins = one_mode line a.mode b.mode x.text y.text x.begins y.begins in
    let path = one_path y.text a.path b.path (subst (λ (t : List ℕ). NamesPath t a.path) begins.1 x.path) y.path in
    λ k. record { mode = begins.0 k; path = path k }

-- It passes the limit of paths by one number at most.
pub one_passed : (line : List ℕ) (m n : ℕ) → PassesPathIn line m → PassesPathIn line n → m ≡ n
one_passed line m n x y =
    let begins = one_mode line x.mode y.mode x.text y.text x.begins y.begins in
    let p : PassesPath 10 y.text m = subst (λ (t : List ℕ). PassesPath 10 t m) begins.1 x.passes in
    let q = y.passes in
    let same = one_run 10 y.text p.path q.path p.rest q.rest p.runs q.runs in
    cc

-- the path of a line whose mode is read tells what the line says
pub line_is : (line : List ℕ) (listed : Listed) (text : List ℕ) → BeginsMode line listed.mode text → NamesPath text listed.path × ((number : ℕ) → PassesPath 10 text number → ⊥) → IsWord (SaysListed line) (PassesPathIn line) (Is listed)
line_is line listed text begins path =
    (record { text = text; begins = begins; path = path.0 }, λ number p. path.1 number (subst (λ (t : List ℕ). PassesPath 10 t number) (one_mode line p.mode listed.mode p.text text p.begins begins).1 p.passes))

pub line_no_path : (line : List ℕ) (mode : Mode) (text : List ℕ) → BeginsMode line mode text → ((path : List ℕ) → NamesPath text path → ⊥) × ((number : ℕ) → PassesPath 10 text number → ⊥) → IsWord (SaysListed line) (PassesPathIn line) No
line_no_path line mode text begins none =
    (λ listed s. none.0 listed.path (subst (λ (t : List ℕ). NamesPath t listed.path) (one_mode line listed.mode mode s.text text s.begins begins).1 s.path), λ number p. none.1 number (subst (λ (t : List ℕ). PassesPath 10 t number) (one_mode line p.mode mode p.text text p.begins begins).1 p.passes))
