-- The first fault of bytes that are no stream (git-fast-import(1), input format): an incomplete input, a line with which no
-- stream goes on, and a line of git's format that is left out here.
use Rattle.std.specs.Prelude.{◌≡◌, ◌⊎◌, ℕ, Bool, true, false, ◌&&◌, ◌||◌, not, nat_eq, ◌+◌, List, [], ◌∷◌, ◌++◌, length, Contains, codes}
use Rattle.std.specs.List.{list_any, starts_with}
use Rattle.swh_fastgrammar.specs.declared.command.Command.{Command}
use Rattle.swh_fastgrammar.specs.declared.fault.StreamWhy.{StreamWhy}
use Rattle.swh_fastgrammar.specs.declared.fault.StreamWhy.TheVariants.{Grammar, End, LeftOut, Mark, Branch, Place}
use Rattle.swh_fastgrammar.specs.Grammar.{Item, IsItem, many, commands_of, IsWhole, IsStream}
use Rattle.swh_fastgrammar.specs.Row.{Row, row_text, text_of, IsRow, AreRows, Placed, placed}

-- Some stream begins with these bytes.
abbrev pub BeginsStream : ℕ → Bool → List ℕ → Type 0
BeginsStream at promised bytes = (more : List ℕ) × (commands : List Command) × IsStream at promised (bytes ++ more) commands

-- Some stream begins with these rows, and has not ended with them: a line of a command may begin after them.
pub record BeginsRows (at : ℕ) (promised : Bool) (rows : List Row) : Type 0 where
  pub more : List Row
  pub ending : List ℕ
  pub commands : List Command
  pub whole : IsWhole at promised (rows ++ more) ending commands

-- how lines begin that are left out; those that begin with `feature ` are treated apart
abbrev pub left_out_words : List (List ℕ)
left_out_words = codes "N " ∷ codes "ls " ∷ codes "cat-blob " ∷ codes "get-mark " ∷ codes "option " ∷ codes "alias" ∷ codes "gpgsig " ∷ codes "M 040000 " ∷ []

-- whether the line is `feature done`
abbrev pub is_promise_line : List ℕ → Bool
is_promise_line line = starts_with nat_eq line (codes "feature done") && starts_with nat_eq (codes "feature done") line

-- whether the line belongs to git's format and is left out
abbrev pub is_left_out : List ℕ → Bool
is_left_out line = list_any (λ word. starts_with nat_eq line word) left_out_words || (starts_with nat_eq line (codes "feature ") && not (is_promise_line line))

-- rows that begin an item, and are none yet
pub record IsUnfinished (rows : List Placed) : Type 0 where
  pub more : List Placed
  pub item : Item
  pub begins : IsItem (rows ++ more) item
  pub none : (i : Item) → IsItem rows i → ⊥

-- The text begins with these rows, with which some stream begins, and the rest follows. The whole items among the rows
-- have these commands; behind them stand at most the first rows of one more item.
pub record Reaches (at : ℕ) (promised : Bool) (text : List ℕ) (rows : List Row) (rest : List ℕ) (commands : List Command) : Type 0 where
  pub spelled : text ≡ text_of rows ++ rest
  pub good : AreRows rows rest
  pub may : BeginsRows at promised rows
  pub whole : List Placed
  pub part : List Placed
  pub items : List Item
  pub cut : placed at rows ≡ whole ++ part
  pub said : many IsItem whole items
  pub unfinished : IsUnfinished part
  pub these : commands ≡ commands_of items

-- the first line that stands where a line of a command may begin and is left out, or with which no stream begins
pub record IsLineFault (at : ℕ) (promised : Bool) (text : List ℕ) (commands : List Command) (place : ℕ) (left_out : Bool) : Type 0 where
  pub rows : List Row
  pub line : List ℕ
  pub rest : List ℕ
  pub one_line : Contains line 10 → ⊥
  pub before : Reaches at promised text rows (line ++ 10 ∷ rest) commands
  pub here : place ≡ at + length (text_of rows)
  pub out : is_left_out line ≡ left_out
  pub dead : left_out ≡ false → BeginsStream at promised (text_of rows ++ (line ++ 10 ∷ [])) → ⊥

-- The text is no stream, and ends where no whole row follows: inside a line, whatever that holds, or where a stream goes on.
pub record IsEndFault (at : ℕ) (promised : Bool) (text : List ℕ) (commands : List Command) (place : ℕ) : Type 0 where
  pub rows : List Row
  pub rest : List ℕ
  pub before : Reaches at promised text rows rest commands
  pub here : place ≡ at + length text
  pub cut : (row : Row) (next : List ℕ) → rest ≡ row_text row ++ next → IsRow row next → ⊥
  pub inside : (Contains rest 10 → ⊥) ⊎ BeginsStream at promised text
  pub none : (cs : List Command) → IsStream at promised text cs → ⊥

-- From this place on the first fault of the text, and the whole commands before it. The other three are faults of what
-- commands mean, and none of the grammar.
abbrev pub IsFault : ℕ → Bool → List ℕ → List Command → ℕ → StreamWhy → Type 0
IsFault at promised text commands place Grammar = IsLineFault at promised text commands place false
IsFault at promised text commands place LeftOut = IsLineFault at promised text commands place true
IsFault at promised text commands place End = IsEndFault at promised text commands place
IsFault at promised text commands place Mark = ⊥
IsFault at promised text commands place Branch = ⊥
IsFault at promised text commands place Place = ⊥
