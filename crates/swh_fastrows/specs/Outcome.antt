-- What a text is from a position on, within the limits: a stream, a text with a first fault, or one that first passes a
-- limit. And the whole items with which it begins; what it is from the position behind them on is asked in the same
-- way.
use Rattle.std.specs.Prelude.{◌≡◌, ◌⊎◌, ℕ, Bool, true, false, ◌||◌, ◌+◌, List, [], ◌∷◌, ◌++◌, length}
use Rattle.swh_base.specs.declared.visit.Which.{Which}
use Rattle.swh_fastgrammar.specs.declared.command.Command.{Command}
use Rattle.swh_fastgrammar.specs.declared.fault.StreamWhy.{StreamWhy}
use Rattle.swh_fastgrammar.specs.declared.fault.StreamWhy.TheVariants.{Grammar, End, LeftOut, Mark, Branch, Place}
use Rattle.swh_fastgrammar.specs.Fault.{BeginsStream, Reaches, IsLineFault, IsEndFault}
use Rattle.swh_fastgrammar.specs.Grammar.{Item, IsItem, is_promise, commands_of, IsStream}
use Rattle.swh_fastgrammar.specs.Row.{Row, text_of, AreRows, Placed, placed}
use Rattle.swh_fastrows.specs.Places.{Position, MayCount}
use Rattle.swh_fastrows.specs.Within.{FirstLine, LinePasses, DataPasses, LineFits, Fits, AllFit}

-- The text is a stream of these commands, and passes no limit up to its end, or up to and with the line `done`: what follows
-- that line counts for none.
pub record IsStreamWithin (at : ℕ) (promised : Bool) (text : List ℕ) (commands : List Command) : Type 0 where
  pub stream : IsStream at promised text commands
  pub fit : AllFit at stream.rows stream.ending
  pub end_fits : LineFits (at + length (text_of stream.rows)) stream.ending

-- The first fault is a line, and up to and with the line no limit is passed.
pub record IsLineFaultWithin (at : ℕ) (promised : Bool) (text : List ℕ) (commands : List Command) (place : ℕ) (left_out : Bool) : Type 0 where
  pub fault : IsLineFault at promised text commands place left_out
  pub fit : AllFit at fault.rows (fault.line ++ 10 ∷ fault.rest)
  pub line_fits : LineFits (at + length (text_of fault.rows)) (fault.line ++ 10 ∷ fault.rest)

-- The first fault is the end, and up to it no limit is passed.
pub record IsEndFaultWithin (at : ℕ) (promised : Bool) (text : List ℕ) (commands : List Command) (place : ℕ) : Type 0 where
  pub fault : IsEndFault at promised text commands place
  pub fit : AllFit at fault.rows fault.rest
  pub end_fits : Fits (at + length (text_of fault.rows)) fault.rest

-- From this place on the first fault of the text, with the whole commands before it, and no limit passed before.
abbrev pub IsFaultWithin : ℕ → Bool → List ℕ → List Command → ℕ → StreamWhy → Type 0
IsFaultWithin at promised text commands place Grammar = IsLineFaultWithin at promised text commands place false
IsFaultWithin at promised text commands place LeftOut = IsLineFaultWithin at promised text commands place true
IsFaultWithin at promised text commands place End = IsEndFaultWithin at promised text commands place
IsFaultWithin at promised text commands place Mark = ⊥
IsFaultWithin at promised text commands place Branch = ⊥
IsFaultWithin at promised text commands place Place = ⊥

-- Data may come after these rows: some stream begins with them and the line that opens the data.
pub record DataMayCome (at : ℕ) (promised : Bool) (rows : List Row) (rest : List ℕ) : Type 0 where
  pub line : List ℕ
  pub first : FirstLine rest line
  pub begins : BeginsStream at promised (text_of rows ++ (line ++ 10 ∷ []))

-- The first limit that the text passes, and the whole commands before. The rows before pass none; a limit inside data counts
-- where data may come.
pub record PassesFirst (at : ℕ) (promised : Bool) (text : List ℕ) (commands : List Command) (which : Which) (number : ℕ) : Type 0 where
  pub rows : List Row
  pub rest : List ℕ
  pub before : Reaches at promised text rows rest commands
  pub fit : AllFit at rows rest
  pub passes : LinePasses (at + length (text_of rows)) rest which number ⊎ (DataPasses (at + length (text_of rows)) rest which number × DataMayCome at promised rows rest)

-- No item begins with these rows and goes on with a row whose line comes next in the text.
abbrev pub Ended : List Placed → List ℕ → Type 0
Ended part text = (p : Placed) (more : List Placed) (item : Item) → MayCount text p.row.line → IsItem (part ++ p ∷ more) item → ⊥

-- The text begins with this whole item, none of whose rows passes a limit, and `new` is the position behind it. The
-- next line does not go on with the item, unless that line passes a limit.
pub record Starts (old new : Position) (item : Item) : Type 0 where
  pub rows : List Row
  pub spelled : old.left ≡ text_of rows ++ new.left
  pub good : AreRows rows new.left
  pub fit : AllFit old.at rows new.left
  pub said : IsItem (placed old.at rows) item
  pub here : new.at ≡ old.at + length (text_of rows)
  pub promised : new.promised ≡ old.promised || is_promise item
  pub ended : LineFits new.at new.left → Ended (placed old.at rows) new.left

-- The text starts with these whole items, one after the other.
abbrev pub StartsAll : Position → Position → List Item → Type 0
StartsAll old new [] = old ≡ new
StartsAll old new (item ∷ items) = (middle : Position) × Starts old middle item × StartsAll middle new items

-- The text starts with these whole commands.
pub record StartsWith (old new : Position) (commands : List Command) : Type 0 where
  pub items : List Item
  pub starts : StartsAll old new items
  pub these : commands ≡ commands_of items
