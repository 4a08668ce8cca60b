use Rattle.std.proofs.Common.{◌≡◌, ◌≤◌, ◌^◌, ◌-◌, true, false, codes}
use Rattle.swh_fastgrammar.specs.Grammar.{placed_line}
use Rattle.swh_fastgrammar.specs.Word.{NamesCommit}
use Rattle.swh_fastrows.specs.Explains.{EndsWhole}
use Rattle.swh_fastrows.specs.Held.{IsNext}
use Rattle.swh_fastread.specs.Tail.{ReadsSome}
use Rattle.swh_fastread.proofs.tail.read_merges.Given as goal

-- the merges so far were read, and it is known whether a line is held
abbrev pub invariant-merges : goal.invariant-merges
invariant-merges g l = record {
  some : g.S.Source.tells → ReadsSome (placed_line (codes "merge ") NamesCommit) l.fn.rows l.rows l.merges.items;
  line : l.more ≡ true → IsNext l.rows;
  end : g.S.Source.tells → l.more ≡ false → EndsWhole l.rows;
  none : l.fn.next ≡ false → (l.more ≡ false) × (l.rows ≡ l.fn.rows);
  onward : l.fn.rows.at ≤ l.rows.at;
  same_path : l.rows.path ≡ l.fn.rows.path;
  quiet : l.rows.faults ≡ l.fn.rows.faults;
}

abbrev pub decreases-merges : goal.decreases-merges
decreases-merges g l = 2 ^ 34 - l.rows.at
