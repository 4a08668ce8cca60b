-- What the first line of an item says.
use Rattle.std.specs.Prelude.{◌≡◌, ◌⊎◌, ℕ, List, [], ◌∷◌, ◌++◌, codes}
use Rattle.swh_fastgrammar.specs.Grammar.{Item, IsItem}
use Rattle.swh_fastgrammar.specs.Row.{Placed}
use Rattle.swh_fastgrammar.specs.Word.{NamesRef, NamesTag}
use Rattle.swh_fastlines.specs.declared.item_lines.ItemLine.{ItemLine}
use Rattle.swh_fastlines.specs.declared.item_lines.ItemLine.TheVariants.{Blob, Commit, Tag, Reset, Promise, Nothing, Done, Over, No}
use Rattle.swh_fastlines.specs.Limit.{PassesRefs}

-- The line is an item that says nothing.
abbrev pub SaysNothing : List ℕ → Type 0
SaysNothing line = (line ≡ []) ⊎ ((line ≡ codes "checkpoint") ⊎ ((text : List ℕ) × (line ≡ codes "progress " ++ text)))

-- No item begins with the line.
abbrev pub BeginsNone : List ℕ → Type 0
BeginsNone line = (first : Placed) (more : List Placed) (item : Item) → first.row.line ≡ line → IsItem (first ∷ more) item → ⊥

-- What a line says where an item may begin. `Over`: a ref in it passes its limit. `No`: no item begins with it, and it
-- is not `done`. Each other answer: it is the first line of such an item, or is `done`.
abbrev pub IsItemLine : List ℕ → ItemLine → Type 0
IsItemLine line Blob = line ≡ codes "blob"
IsItemLine line (Commit ref) = (line ≡ codes "commit " ++ ref) × NamesRef ref ref
IsItemLine line (Tag ref) = (line ≡ codes "tag " ++ ref) × NamesTag ref ref
IsItemLine line (Reset ref) = (line ≡ codes "reset " ++ ref) × NamesRef ref ref
IsItemLine line Promise = line ≡ codes "feature done"
IsItemLine line Nothing = SaysNothing line
IsItemLine line Done = line ≡ codes "done"
IsItemLine line (Over number) = PassesRefs line number
IsItemLine line No = BeginsNone line × (line ≡ codes "done" → ⊥)
