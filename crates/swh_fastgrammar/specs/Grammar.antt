-- The grammar of streams (git-fast-import(1), input format): which rows are which commands.
--     stream    = item* (end of input | "done" LF anything)
--     item      = blob | commit | tag | reset | LF | "feature done" LF | "progress " line | "checkpoint" LF
--     blob      = "blob" LF [mark] [oid] data
--     mark      = "mark :" num LF            oid = "original-oid " line
--     commit    = "commit " ref LF [mark] [oid] ["author " person LF] "committer " person LF ["encoding " text LF] data
--                 ["from " commitish LF] ("merge " commitish LF)* change*
--     change    = "M " mode SP ":" num SP path LF | "M " mode SP "inline " path LF data | "M 160000 " hex SP path LF
--               | "D " path LF | "C " source SP path LF | "R " source SP path LF | "deleteall" LF
--     tag       = "tag " ref LF [mark] "from " commitish LF [oid] ["tagger " person LF] data
--     reset     = "reset " ref LF ["from " (commitish | 40 zeros) LF]
-- The LF that may end a commit or a reset is an item that says nothing.
use Rattle.std.specs.Prelude.{◌≡◌, ◌⊎◌, ℕ, Bool, true, false, ◌||◌, List, [], ◌∷◌, ◌++◌, Option, Some, None, codes}
use Rattle.std.specs.List.{filter_map, list_any}
use Rattle.swh_fastlex.specs.Path.{NamesPath, NamesPathBefore}
use Rattle.swh_fastgrammar.specs.declared.command.At.{At}
use Rattle.swh_fastgrammar.specs.declared.command.Commitish.{Commitish}
use Rattle.swh_fastgrammar.specs.declared.command.Start.{Start}
use Rattle.swh_fastgrammar.specs.declared.command.Start.TheVariants.{Absent, NoTip, Of}
use Rattle.swh_fastgrammar.specs.declared.command.Dataref.{Dataref}
use Rattle.swh_fastgrammar.specs.declared.command.Dataref.TheVariants.{Mark, Inline, Hex}
use Rattle.swh_fastgrammar.specs.declared.command.Change.{Change}
use Rattle.swh_fastgrammar.specs.declared.command.Change.TheVariants.{Set, Delete, Copy, Move, Clear}
use Rattle.swh_fastgrammar.specs.declared.command.Command.{Command}
use Rattle.swh_fastgrammar.specs.declared.command.Command.TheVariants.{Blob, Commit, Tag, Reset}
use Rattle.swh_fastgrammar.specs.Row.{Row, text_of, AreRows, IsData, Placed, placed}
use Rattle.swh_fastgrammar.specs.Word.{IsMark, NamesRef, NamesTag, NamesPerson, NamesEncoding, NamesCommit, IsMode, SpellsId}

-- The rows are those that say the first value by `L`, and behind them those that say the second by `M`;
infixr 30 ◌▹◌
abbrev pub ◌▹◌ : {X Y : Type 0} → (List Placed → X → Type 0) → (List Placed → Y → Type 0) → List Placed → X × Y → Type 0
(L ▹ M) rows v = (front : List Placed) × (back : List Placed) × (rows ≡ front ++ back) × L front v.0 × M back v.1

-- the same, where only the second value is kept,
abbrev pub skipping : {X Y : Type 0} → (List Placed → X → Type 0) → (List Placed → Y → Type 0) → List Placed → Y → Type 0
skipping {X} L M rows y = (x : X) × (L ▹ M) rows (x, y)

-- and as an operator
infixr 30 ◌▸◌
abbrev pub ◌▸◌ : {X Y : Type 0} → (List Placed → X → Type 0) → (List Placed → Y → Type 0) → List Placed → Y → Type 0
(L ▸ M) rows y = skipping L M rows y

-- the part, or no row
abbrev pub optional : {X : Type 0} → (List Placed → X → Type 0) → List Placed → Option X → Type 0
optional L rows None = rows ≡ []
optional L rows (Some x) = L rows x

-- the part any number of times
abbrev pub many : {X : Type 0} → (List Placed → X → Type 0) → List Placed → List X → Type 0
many L rows [] = rows ≡ []
many L rows (x ∷ xs) = (front : List Placed) × (back : List Placed) × (rows ≡ front ++ back) × L front x × many L back xs

-- a line at its place
abbrev pub line_at : ℕ → List ℕ → Placed
line_at at text = record { at = at; row = record { line = text; raw = [] } }

-- a line of this word and a text that says a value;
abbrev pub line : {X : Type 0} → List ℕ → (List ℕ → X → Type 0) → List Placed → X → Type 0
line front Says rows x = (at : ℕ) × (text : List ℕ) × (rows ≡ line_at at (front ++ text) ∷ []) × Says text x

-- the same with the line's place
abbrev pub placed_line : {X : Type 0} → List ℕ → (List ℕ → X → Type 0) → List Placed → At X → Type 0
placed_line front Says rows a = (text : List ℕ) × (rows ≡ line_at a.at (front ++ text) ∷ []) × Says text a.it

-- nothing more in the line
abbrev pub nothing : List ℕ → Unit {0} → Type 0
nothing text x = text ≡ []

-- anything more in the line
abbrev pub anything : List ℕ → Unit {0} → Type 0
anything text x = Unit {0}

-- data, which say their bytes
abbrev pub contents : List Placed → List ℕ → Type 0
contents rows bytes = (p : Placed) × (next : List ℕ) × (rows ≡ p ∷ []) × IsData p.row bytes next

-- the mark that an object gets
abbrev pub mark : List Placed → ℕ → Type 0
mark = line (codes "mark :") IsMark

-- the name that an object had, which is skipped
abbrev pub oid : List Placed → Unit {0} → Type 0
oid = line (codes "original-oid ") anything

-- a blob: its mark and its bytes
abbrev pub blob : List Placed → Option ℕ × List ℕ → Type 0
blob = line (codes "blob") nothing ▸ optional mark ▹ optional oid ▸ contents

-- what stands before the path where one is set: a mode, and what the path gets, without the bytes that may follow
abbrev pub BeginsSet : List ℕ → ℕ → Dataref → List ℕ → Type 0
BeginsSet text mode (Mark m) rest = (a : List ℕ) × (b : List ℕ) × (text ≡ a ++ (codes " :" ++ (b ++ 32 ∷ rest))) × IsMode a mode × IsMark b m
BeginsSet text mode (Inline bytes) rest = (a : List ℕ) × (text ≡ a ++ (codes " inline " ++ rest)) × IsMode a mode
BeginsSet text mode (Hex id) rest = (b : List ℕ) × (text ≡ codes "160000 " ++ (b ++ 32 ∷ rest)) × (mode ≡ 160000) × SpellsId b id

-- a mode, what the path gets, and the path
abbrev pub SetsTo : List ℕ → ℕ → Dataref → List ℕ → Type 0
SetsTo text mode what path = (rest : List ℕ) × BeginsSet text mode what rest × NamesPath rest path

-- the bytes that follow the line: those that are inline, else nothing
abbrev pub brings : Dataref → List Placed → Type 0
brings (Mark m) rows = rows ≡ []
brings (Inline bytes) rows = contents rows bytes
brings (Hex id) rows = rows ≡ []

-- a source, a space, and a path
abbrev pub IsPair : List ℕ → List ℕ → List ℕ → Type 0
IsPair text source path = (rest : List ℕ) × NamesPathBefore 32 text source rest × NamesPath rest path

-- what a change's line begins with
abbrev pub change_word : Change → List ℕ
change_word (Set mode what path) = codes "M "
change_word (Delete path) = codes "D "
change_word (Copy source path) = codes "C "
change_word (Move source path) = codes "R "
change_word Clear = codes "deleteall"

-- what stands after that word
abbrev pub SaysChange : List ℕ → Change → Type 0
SaysChange text (Set mode what path) = SetsTo text mode what path
SaysChange text (Delete path) = NamesPath text path
SaysChange text (Copy source path) = IsPair text source path
SaysChange text (Move source path) = IsPair text source path
SaysChange text Clear = text ≡ []

-- what follows the line
abbrev pub change_brings : Change → List Placed → Type 0
change_brings (Set mode what path) rows = brings what rows
change_brings (Delete path) rows = rows ≡ []
change_brings (Copy source path) rows = rows ≡ []
change_brings (Move source path) rows = rows ≡ []
change_brings Clear rows = rows ≡ []

-- a change, and the place of its line
abbrev pub change : List Placed → At Change → Type 0
change rows a = (text : List ℕ) × (back : List Placed) × (rows ≡ line_at a.at (change_word a.it ++ text) ∷ back) × SaysChange text a.it × change_brings a.it back

-- a line that names a commit
abbrev pub from : List Placed → At Commitish → Type 0
from = placed_line (codes "from ") NamesCommit

-- what a commit starts from
abbrev pub start_of : Option (At Commitish) → Start
start_of None = Absent
start_of (Some a) = Of a

-- a commit: branch, mark, author, committer, encoding, message, parent, merges and changes
abbrev pub commit : List Placed → List ℕ × (Option ℕ × (Option (List ℕ) × (List ℕ × (Option (List ℕ) × (List ℕ × (Option (At Commitish) × (List (At Commitish) × List (At Change)))))))) → Type 0
commit =
    line (codes "commit ") NamesRef ▹ optional mark ▹ optional oid ▸ optional (line (codes "author ") NamesPerson) ▹ line (codes "committer ") NamesPerson
    ▹ optional (line (codes "encoding ") NamesEncoding) ▹ contents ▹ optional from ▹ many (placed_line (codes "merge ") NamesCommit) ▹ many change

-- a tag: name, mark, target, tagger and message
abbrev pub tag : List Placed → List ℕ × (Option ℕ × (At Commitish × (Option (List ℕ) × List ℕ))) → Type 0
tag = line (codes "tag ") NamesTag ▹ optional mark ▹ from ▹ optional oid ▸ optional (line (codes "tagger ") NamesPerson) ▹ contents

-- forty zeros
abbrev pub zeros : List ℕ
zeros = codes "0000000000000000000000000000000000000000"

-- where a reset leads; forty zeros are no commit here
abbrev pub target : List Placed → Start → Type 0
target rows Absent = rows ≡ []
target rows NoTip = line (codes "from ") (λ text (x : Unit {0}). text ≡ zeros) rows tt
target rows (Of a) = placed_line (codes "from ") (λ text c. NamesCommit text c × (text ≡ zeros → ⊥)) rows a

-- a reset: its ref, and where it leads
abbrev pub reset : List Placed → List ℕ × Start → Type 0
reset = line (codes "reset ") NamesRef ▹ target

-- The rows are the command.
abbrev pub IsCommand : List Placed → Command → Type 0
IsCommand rows (Blob m bytes) = blob rows (m, bytes)
IsCommand rows (Commit branch m author committer encoding message parent merges changes) =
    (o : Option (At Commitish)) × (parent ≡ start_of o) × commit rows (branch, (m, (author, (committer, (encoding, (message, (o, (merges, changes))))))))
IsCommand rows (Tag branch m aim tagger message) = tag rows (branch, (m, (aim, (tagger, message))))
IsCommand rows (Reset branch parent) = reset rows (branch, parent)

-- an item of a stream: a command, a promise that `done` comes, or a line that says nothing
pub data Item : Type 0 where
  Says : Command → Item
  Promise : Item
  Nothing : Item

-- The rows are the item.
abbrev pub IsItem : List Placed → Item → Type 0
IsItem rows (Says c) = IsCommand rows c
IsItem rows Promise = line (codes "feature done") nothing rows tt
IsItem rows Nothing = line [] nothing rows tt ⊎ (line (codes "checkpoint") nothing rows tt ⊎ line (codes "progress ") anything rows tt)

-- the command of an item that is one
abbrev pub command_of : Item → Option Command
command_of (Says c) = Some c
command_of Promise = None
command_of Nothing = None

-- whether `done` is promised
abbrev pub is_promise : Item → Bool
is_promise (Says c) = false
is_promise Promise = true
is_promise Nothing = false

-- the commands among the items, in their order
abbrev pub commands_of : List Item → List Command
commands_of items = filter_map command_of items

-- the end of input, where `done` was not promised, or a line `done` with anything after it
abbrev pub Ends : Bool → List ℕ → Type 0
Ends promised ending = ((ending ≡ []) × (promised ≡ false)) ⊎ ((more : List ℕ) × (ending ≡ codes "done" ++ 10 ∷ more))

-- From this place on, where a command may begin, the rows up to this ending are a stream of these commands.
pub record IsWhole (at : ℕ) (promised : Bool) (rows : List Row) (ending : List ℕ) (commands : List Command) : Type 0 where
  pub items : List Item
  pub good : AreRows rows ending
  pub said : many IsItem (placed at rows) items
  pub ends : Ends (promised || list_any is_promise items) ending
  pub these : commands ≡ commands_of items

-- From this place on, where a command may begin, the text is a stream of these commands.
pub record IsStream (at : ℕ) (promised : Bool) (text : List ℕ) (commands : List Command) : Type 0 where
  pub rows : List Row
  pub ending : List ℕ
  pub spelled : text ≡ text_of rows ++ ending
  pub whole : IsWhole at promised rows ending commands

-- The bytes are a stream of these commands.
abbrev pub Parses : List ℕ → List Command → Type 0
Parses bytes commands = IsStream 0 false bytes commands
