-- Lines with which no item begins.
use Rattle.std.proofs.Common.{◌≡◌, ℕ, List, [], ◌∷◌, ◌++◌, sym, ap, ◌∙◌}
use Rattle.swh_fastgrammar.specs.Grammar.{Item, IsItem}
use Rattle.swh_fastgrammar.specs.Row.{Placed}
use Rattle.swh_fastgrammar.proofs.Parts.{cons_cut}
use Rattle.swh_fastgrammar.proofs.Streams.{shape, tag_of, tag_of_line}

-- what a first line begins
pub kind : (q : Placed) (more : List Placed) (i : Item) (line : List ℕ) → q.row.line ≡ line → IsItem (q ∷ more) i → tag_of_line line ≡ tag_of i
kind q more i line e h =
    let s = shape (q ∷ more) i h in
    ap tag_of_line (sym e) ∙ ap (λ (x : Placed). tag_of_line x.row.line) (cons_cut q s.first more s.others s.rows_are).0 ∙ s.kind
