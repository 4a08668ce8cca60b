-- What the reading of a line finds: data that it opens, or a change of the tree.
use Rattle.std.specs.Prelude.{◌≡◌, ◌≢◌, ℕ, Bool, true, false, List, [], ◌∷◌, ◌++◌, Contains, codes}
use Rattle.swh_base.specs.Text.{IsNumber}
use Rattle.swh_fastlines.specs.declared.change_lines.ChangeLine.{ChangeLine}
use Rattle.swh_fastlines.specs.declared.change_lines.ChangeLine.TheVariants.{Whole, Inline, Over, No}
use Rattle.swh_fastgrammar.specs.declared.command.Change.{Change}
use Rattle.swh_fastgrammar.specs.declared.command.Change.TheVariants.{Set, Delete, Copy, Move, Clear}
use Rattle.swh_fastgrammar.specs.declared.command.Dataref.{Dataref}
use Rattle.swh_fastgrammar.specs.declared.command.Dataref.TheVariants as Of
use Rattle.swh_fastlines.specs.declared.data_lines.DataLine.{DataLine}
use Rattle.swh_fastlines.specs.declared.data_lines.DataLine.TheVariants as Data
use Rattle.swh_fastgrammar.specs.Grammar.{change_word, SaysChange}
use Rattle.swh_fastgrammar.specs.Row.{Opens}
use Rattle.swh_fastgrammar.specs.Word.{IsMark}

-- The line opens so many bytes, or the lines up to a delimiter; or it opens no data.
abbrev pub IsDataLine : List ℕ → DataLine → Type 0
IsDataLine line (Data.Counted n) = (text : List ℕ) × (line ≡ codes "data " ++ text) × IsNumber text n
IsDataLine line (Data.Delimited word) = (line ≡ codes "data <<" ++ word.now) × (word.now ≢ []) × (Contains word.now 10 → ⊥)
IsDataLine line Data.No = Opens line → ⊥

-- The line is the change's.
abbrev pub LineSays : List ℕ → Change → Type 0
LineSays line change = (text : List ℕ) × (line ≡ change_word change ++ text) × SaysChange text change

-- whether bytes follow the change's line
abbrev pub is_inline : Change → Bool
is_inline (Set mode (Of.Mark mark) path) = false
is_inline (Set mode (Of.Inline bytes) path) = true
is_inline (Set mode (Of.Hex id) path) = false
is_inline (Delete path) = false
is_inline (Copy source path) = false
is_inline (Move source path) = false
is_inline Clear = false

-- What a text says of a change. `Whole`: it says this change, which no bytes follow. `Inline`: it says that a path is
-- set to the bytes that follow, whatever they are. Both pass no limit. `Over`: it passes a limit, whatever it says.
-- `No`: it says no change, and passes no limit.
abbrev pub IsChangeLine : (Change → Type 0) → (ℕ → Type 0) → ChangeLine → Type 0
IsChangeLine Says Passes (Whole change) = Says change × (is_inline change ≡ false) × ((number : ℕ) → Passes number → ⊥)
IsChangeLine Says Passes (Inline mode path) = ((bytes : List ℕ) → Says (Set mode (Of.Inline bytes) path)) × ((number : ℕ) → Passes number → ⊥)
IsChangeLine Says Passes (Over number) = Passes number
IsChangeLine Says Passes No = ((change : Change) → Says change → ⊥) × ((number : ℕ) → Passes number → ⊥)

-- what stands between a file's mode with its space and its path: a mark, or the word for the bytes that follow
abbrev pub BeginsFile : List ℕ → Dataref → List ℕ → Type 0
BeginsFile text (Of.Mark mark) rest = (number : List ℕ) × (text ≡ codes ":" ++ (number ++ 32 ∷ rest)) × IsMark number mark
BeginsFile text (Of.Inline bytes) rest = text ≡ codes "inline " ++ rest
BeginsFile text (Of.Hex id) rest = ⊥

-- the line that sets a path
abbrev pub set_line_of : ℕ → Dataref → List ℕ → ChangeLine
set_line_of mode (Of.Mark mark) path = Whole (Set mode (Of.Mark mark) path)
set_line_of mode (Of.Inline bytes) path = Inline mode path
set_line_of mode (Of.Hex id) path = Whole (Set mode (Of.Hex id) path)
