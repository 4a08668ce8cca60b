-- The words inside lines (git-fast-import(1), commit, tag, filemodify): marks, refs, commit-ishes, persons, encodings, modes.
use Rattle.std.specs.Prelude.{◌≡◌, ◌≢◌, ◌⊎◌, ℕ, ◌≤◌, false, List, [], ◌∷◌, ◌++◌, length, take, drop, Contains, codes}
use Rattle.std.specs.List.{AllPass}
use Rattle.hex.specs.Hex.{encode_lower}
use Rattle.swh_base.specs.Limits.{tag_limit}
use Rattle.swh_base.specs.Name.{IsId}
use Rattle.swh_base.specs.Text.{IsNumber, IsRef, IsPerson, is_ref_byte}
use Rattle.swh_fastgrammar.specs.declared.command.Commitish.{Commitish}
use Rattle.swh_fastgrammar.specs.declared.command.Commitish.TheVariants.{Mark, Branch}

-- 1 to 18 digits that write 1 or more
pub record IsMark (text : List ℕ) (mark : ℕ) : Type 0 where
  pub number : IsNumber text mark
  pub positive : 1 ≤ mark

-- The text is the ref.
abbrev pub NamesRef : List ℕ → List ℕ → Type 0
NamesRef text ref = (text ≡ ref) × IsRef ref

-- The text is the ref, of so many bytes at most.
abbrev pub IsRefUpTo : ℕ → List ℕ → List ℕ → Type 0
IsRefUpTo limit text ref = (text ≡ ref) × IsRef ref × (length ref ≤ limit)

-- The text begins with so many bytes of a ref, and no more.
pub record IsRefRun (text : List ℕ) (n : ℕ) : Type 0 where
  pub within : n ≤ length text
  pub bytes : AllPass is_ref_byte (take n text)
  pub ends : (c : ℕ) (more : List ℕ) → drop n text ≡ c ∷ more → is_ref_byte c ≡ false

-- The text is a tag's name, so that `refs/tags/` and it are a ref.
abbrev pub NamesTag : List ℕ → List ℕ → Type 0
NamesTag text ref = (text ≡ ref) × IsRef ref × (length ref ≤ tag_limit)

-- The text is the person, carried byte for byte.
abbrev pub NamesPerson : List ℕ → List ℕ → Type 0
NamesPerson text person = (text ≡ person) × IsPerson person

-- The text is an encoding, one byte or more and no NUL.
abbrev pub NamesEncoding : List ℕ → List ℕ → Type 0
NamesEncoding text encoding = (text ≡ encoding) × (encoding ≢ []) × (Contains encoding 0 → ⊥)

-- `:` and a mark, or a ref, which may have `^0` after it
abbrev pub NamesCommit : List ℕ → Commitish → Type 0
NamesCommit text (Mark mark) = (number : List ℕ) × (text ≡ 58 ∷ number) × IsMark number mark
NamesCommit text (Branch ref) = IsRef ref × ((text ≡ ref) ⊎ (text ≡ ref ++ codes "^0"))

-- what may follow a ref that names a commit
abbrev pub EndsCommit : List ℕ → Type 0
EndsCommit rest = (rest ≡ []) ⊎ (rest ≡ codes "^0")

-- the mode of a file or of a link; two have a short form too
abbrev pub IsMode : List ℕ → ℕ → Type 0
IsMode text mode =
    ((text ≡ codes "100644") × (mode ≡ 100644)) ⊎ (((text ≡ codes "644") × (mode ≡ 100644)) ⊎ (((text ≡ codes "100755") × (mode ≡ 100755))
    ⊎ (((text ≡ codes "755") × (mode ≡ 100755)) ⊎ ((text ≡ codes "120000") × (mode ≡ 120000)))))

-- The text is the id in forty lower-case hexadecimal digits.
abbrev pub SpellsId : List ℕ → List ℕ → Type 0
SpellsId text id = (text ≡ encode_lower id) × IsId id
