use Rattle.std.proofs.Common.{◌≡◌, List, [], take, get_or, sym, subst}
use Rattle.std.proofs.lemmas.List.{take_all}
use Rattle.swh_dirfmt.specs.declared.entry.SpelledEntry.{SpelledEntry}
use Rattle.swh_dirfmt.specs.Entries.{entry_of, entries_in_body}
use Rattle.swh_pathsums.specs.Tallies.{AreRowsOver}
use Rattle.swh_pathsums.proofs.Entries.{entry_there, none_tallied, one_more}
use Rattle.swh_pathsums.proofs.sums.entries_tally.Goals as goal

pub loop-entry-init : goal.loop-entry-init
loop-entry-init g c bodies rows known over = none_tallied bodies (g.W.Weigh.weight_of c.args.weigher.now) c.args.entries.now rows over

pub entry_tally-requires-clause-may : goal.entry_tally-requires-clause-may
entry_tally-requires-clause-may g c = c.requires.may _ (entry_there c.args.entries.now c.loop-entry.entry-index _ c.loop-entry-test.true)

pub entry_tally-requires-clause-there : goal.entry_tally-requires-clause-there
entry_tally-requires-clause-there g c folder = c.requires.there _ (entry_there c.args.entries.now c.loop-entry.entry-index _ c.loop-entry-test.true) folder

pub loop-entry-preserved : goal.loop-entry-preserved
loop-entry-preserved g c bodies rows known over =
    one_more bodies (g.W.Weigh.weight_of c.args.weigher.now) c.args.entries.now c.loop-entry.entry-index _ c.loop-entry.tally c.entry_tally.result c.both-tally.result c.loop-entry-test.true
    (λ more is. c.loop-entry.invariant bodies more known is)
    (λ more is. c.entry_tally.ensures bodies more (λ folder. known _ (entry_there c.args.entries.now c.loop-entry.entry-index _ c.loop-entry-test.true) folder) is)
    (c.both-tally.ensures (g.W.Weigh.weight_of c.args.weigher.now)) rows over

pub returns : goal.returns
returns g c bodies rows known over =
    c.loop-entry.invariant bodies rows known (subst (λ (es : List SpelledEntry). AreRowsOver bodies (entries_in_body es) rows) (sym (take_all c.loop-entry.entry-index c.args.entries.now c.loop-entry-test.false)) over)
