use Rattle.std.proofs.Common.{◌≡◌, ◌≤◌, ◌^◌, ◌-◌, true, false}
use Rattle.swh_fastgrammar.specs.Givable.{AreGivable}
use Rattle.swh_fastgrammar.specs.Grammar.{change}
use Rattle.swh_fastrows.specs.Explains.{EndsWhole}
use Rattle.swh_fastrows.specs.Held.{IsNext}
use Rattle.swh_fastread.specs.Tail.{ReadsSome}
use Rattle.swh_fastread.proofs.changes.read_changes.Given as goal

-- the changes so far were read, and it is known whether a line is held
abbrev pub invariant-changes : goal.invariant-changes
invariant-changes g l = record {
  some : g.S.Source.tells → ReadsSome change l.fn.rows l.rows l.changes.items;
  givable : AreGivable l.changes.items;
  line : l.more ≡ true → IsNext l.rows;
  end : g.S.Source.tells → l.more ≡ false → EndsWhole l.rows;
  none : l.fn.next ≡ false → (l.more ≡ false) × (l.rows ≡ l.fn.rows);
  onward : l.fn.rows.at ≤ l.rows.at;
  same_path : l.rows.path ≡ l.fn.rows.path;
  quiet : l.rows.faults ≡ l.fn.rows.faults;
}

abbrev pub decreases-changes : goal.decreases-changes
decreases-changes g l = 2 ^ 34 - l.rows.at
