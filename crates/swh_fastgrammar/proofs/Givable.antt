-- What the grammar says of a command without its stream.
use Rattle.std.proofs.Common.{◌≢◌, ℕ, inl, inr, List, [], ◌∷◌, ◌++◌, arith}
use Rattle.swh_fastgrammar.specs.declared.command.At.{At}
use Rattle.swh_fastgrammar.specs.declared.command.Change.{Change}
use Rattle.swh_fastgrammar.specs.declared.command.Change.TheVariants.{Set, Delete, Copy, Move, Clear}
use Rattle.swh_fastgrammar.specs.declared.command.Dataref.{Dataref}
use Rattle.swh_fastgrammar.specs.declared.command.Dataref.TheVariants.{Mark, Inline, Hex}
use Rattle.swh_fastgrammar.specs.declared.command.Command.{Command}
use Rattle.swh_fastgrammar.specs.declared.command.Command.TheVariants.{Blob, Commit, Tag, Reset}
use Rattle.swh_fastgrammar.specs.Givable.{IsSetMode, FitsMode, IsGivableChange, AreGivable, IsGivable}
use Rattle.swh_fastgrammar.specs.Grammar.{many, change, BeginsSet, SaysChange, IsCommand}
use Rattle.swh_fastgrammar.specs.Row.{Placed}
use Rattle.swh_fastgrammar.specs.Word.{IsMode}

set_mode : (text : List ℕ) (mode : ℕ) → IsMode text mode → IsSetMode mode × (mode ≢ 160000)
set_mode text mode (inl h) = let e = h.1 in (inl e, λ l. absurd (omega (arith, e, l)))
set_mode text mode (inr (inl h)) = let e = h.1 in (inl e, λ l. absurd (omega (arith, e, l)))
set_mode text mode (inr (inr (inl h))) = let e = h.1 in (inr (inl e), λ l. absurd (omega (arith, e, l)))
set_mode text mode (inr (inr (inr (inl h)))) = let e = h.1 in (inr (inl e), λ l. absurd (omega (arith, e, l)))
set_mode text mode (inr (inr (inr (inr h)))) = let e = h.1 in (inr (inr (inl e)), λ l. absurd (omega (arith, e, l)))

fits_mode : (text : List ℕ) (mode : ℕ) (what : Dataref) (rest : List ℕ) → BeginsSet text mode what rest → IsSetMode mode × FitsMode mode what
fits_mode text mode (Mark mark) rest h = set_mode h.0 mode h.3
fits_mode text mode (Inline bytes) rest h = set_mode h.0 mode h.2
fits_mode text mode (Hex id) rest h = (inr (inr (inr h.2)), (h.2, h.3.1))

pub change_givable : (text : List ℕ) (c : Change) → SaysChange text c → IsGivableChange c
change_givable text (Set mode what path) h = let m = fits_mode text mode what h.0 h.1 in (m.0, h.2.0, m.1)
change_givable text (Delete path) h = h.0
change_givable text (Copy source path) h = (h.1.0, h.2.0)
change_givable text (Move source path) h = (h.1.0, h.2.0)
change_givable text Clear h = tt

changes_givable : (rows : List Placed) (cs : List (At Change)) → many change rows cs → AreGivable cs
changes_givable rows [] h = tt
changes_givable rows (c ∷ cs) h = (change_givable h.3.0 c.it h.3.3, changes_givable h.1 cs h.4)

-- one more change
pub givable_more : (cs : List (At Change)) (c : At Change) → AreGivable cs → IsGivableChange c.it → AreGivable (cs ++ c ∷ [])
givable_more [] c h k = (k, tt)
givable_more (d ∷ cs) c h k = (h.0, givable_more cs c h.1 k)

pub command_givable : (rows : List Placed) (c : Command) → IsCommand rows c → IsGivable c
command_givable rows (Blob mark bytes) h = tt
command_givable rows (Commit branch mark author committer encoding message parent merges changes) (o, e, h) = (
  h.3.3.1,
  changes_givable _ changes h.4.4.1.4.4.4.4.4.4.4,
)
command_givable rows (Tag tag mark target tagger message) h = (h.3.3.1, h.3.3.2)
command_givable rows (Reset branch parent) h = h.3.3.1
