-- Limits of the words in a line. A line that passes one is told so before its grammar is asked; nothing is said here of
-- whether such a line may come where it stands.
use Rattle.std.specs.Prelude.{◌≡◌, ◌⊎◌, ℕ, ◌<◌, false, List, [], ◌∷◌, ◌++◌, length, Contains, codes}
use Rattle.std.specs.List.{AllPass}
use Rattle.swh_base.specs.Limits.{body_limit, ref_limit, tag_limit}
use Rattle.swh_base.specs.Text.{IsNumber, is_ref_byte}
use Rattle.swh_base.specs.declared.visit.Which.{Which}
use Rattle.swh_base.specs.declared.visit.Which.TheVariants.{Body, Objects, Bytes, Store, Ledger, Stream, Line, Path, Ref, Refs}
use Rattle.swh_fastlex.specs.Path.{NamesPathBefore, PassesPath}
use Rattle.swh_fastgrammar.specs.declared.command.Dataref.{Dataref}
use Rattle.swh_fastgrammar.specs.Grammar.{BeginsSet}

-- The text begins with so many bytes of a ref, no more, and more than there may be.
pub record PassesRef (limit : ℕ) (text : List ℕ) (number : ℕ) : Type 0 where
  pub run : List ℕ
  pub rest : List ℕ
  pub cut : text ≡ run ++ rest
  pub bytes : AllPass is_ref_byte run
  pub ends : (c : ℕ) (more : List ℕ) → rest ≡ c ∷ more → is_ref_byte c ≡ false
  pub count : number ≡ length run
  pub above : limit < number

-- the words after which a ref stands, and how many bytes it may have there
abbrev pub ref_words : List (List ℕ × ℕ)
ref_words = (codes "commit ", ref_limit) ∷ (codes "reset ", ref_limit) ∷ (codes "from ", ref_limit) ∷ (codes "merge ", ref_limit) ∷ (codes "tag ", tag_limit) ∷ []

-- The line passes the limit of refs.
pub record PassesRefs (line : List ℕ) (number : ℕ) : Type 0 where
  pub word : List ℕ
  pub limit : ℕ
  pub text : List ℕ
  pub one : Contains ref_words (word, limit)
  pub spelled : line ≡ word ++ text
  pub passes : PassesRef limit text number

-- The path that is set passes the limit, where what stands before it is as it has to be.
abbrev pub PassesSet : List ℕ → ℕ → Type 0
PassesSet text number = (mode : ℕ) × (what : Dataref) × (rest : List ℕ) × BeginsSet text mode what rest × PassesPath 10 rest number

-- The source passes the limit, or the path after a source that is one does.
abbrev pub PassesPair : List ℕ → ℕ → Type 0
PassesPair text number = PassesPath 32 text number ⊎ ((source : List ℕ) × (rest : List ℕ) × NamesPathBefore 32 text source rest × PassesPath 10 rest number)

-- The line of a change passes the limit of paths.
abbrev pub PassesPaths : List ℕ → ℕ → Type 0
PassesPaths line number =
    ((text : List ℕ) × (line ≡ codes "D " ++ text) × PassesPath 10 text number) ⊎ (((text : List ℕ) × (line ≡ codes "M " ++ text) × PassesSet text number)
    ⊎ ((text : List ℕ) × ((line ≡ codes "C " ++ text) ⊎ (line ≡ codes "R " ++ text)) × PassesPair text number))

-- The line counts more bytes of data than a body may have.
abbrev pub PassesCount : List ℕ → ℕ → Type 0
PassesCount line number = (digits : List ℕ) × (line ≡ codes "data " ++ digits) × IsNumber digits number × (body_limit < number)

-- A word of the line passes this limit, wherever the line stands.
abbrev pub PassesWords : List ℕ → Which → ℕ → Type 0
PassesWords line Body number = PassesCount line number
PassesWords line Objects number = ⊥
PassesWords line Bytes number = ⊥
PassesWords line Store number = ⊥
PassesWords line Ledger number = ⊥
PassesWords line Stream number = ⊥
PassesWords line Line number = ⊥
PassesWords line Path number = PassesPaths line number
PassesWords line Ref number = PassesRefs line number
PassesWords line Refs number = ⊥
