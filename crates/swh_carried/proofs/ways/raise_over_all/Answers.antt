use Rattle.std.proofs.Common.{List, subst}
use Rattle.std.proofs.lemmas.List.{take_all}
use Rattle.swh_dirfmt.specs.declared.entry.SpelledEntry.{SpelledEntry}
use Rattle.swh_dirfmt.specs.Entries.{entries_in_body}
use Rattle.swh_carried.specs.Ways.{RaisesOverAll}
use Rattle.swh_carried.proofs.WayCounts.{over_next}
use Rattle.swh_carried.proofs.ways.raise_over_all.Goals as goal

pub loop-entry-preserved : goal.loop-entry-preserved
loop-entry-preserved c =
    over_next c.args.way c.args.entries.now c.loop-entry.entry-index _ c.loop-entry-test.true c.args.ways.now.entries c.loop-entry.ways.entries c.raise_over.new.ways.entries
    c.loop-entry.invariant c.in_ok-raise_over.ensures

pub returns : goal.returns
returns c =
    subst (λ (es : List SpelledEntry). RaisesOverAll c.args.way (entries_in_body es) c.args.ways.now.entries c.loop-entry.ways.entries)
    (take_all c.loop-entry.entry-index c.args.entries.now c.loop-entry-test.false) c.loop-entry.invariant
