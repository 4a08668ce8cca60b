use Rattle.std.proofs.Common.{[], refl, arith, rules}
use Rattle.swh_trees.specs.Grove.{map_of}
use Rattle.swh_fastgrammar.specs.declared.command.At.{At}
use Rattle.swh_fastgrammar.specs.declared.command.Change.{Change}
use Rattle.swh_fastmeaning.specs.Changes.{IsGivableChange, ExplainsChange, changed_of}
use Rattle.swh_fastmeaning.specs.Commands.{all_changed}
use Rattle.swh_fastmeaning.proofs.ChangesMade.{keeps_self, keeps_on, read_at, one_err, one_more, none_left}
use Rattle.swh_fastmeaning.proofs.changes.changed_tree.Goals as goal

pub loop-change-init : goal.loop-change-init
loop-change-init g c = (changed_of (map_of c.args.trees.now c.args.tree) [], (refl, record { inside = c.requires.tree; map = refl }, c.new-contents.ensures, keeps_self c.args.trees.now))

pub changed-requires-clause-tree : goal.changed-requires-clause-tree
changed-requires-clause-tree g c κs within = c.loop-change.invariant.1.1.inside

pub changed-requires-clause-change : goal.changed-requires-clause-change
changed-requires-clause-change g c κs within = read_at (λ (a : At Change). IsGivableChange a.it) c.args.changes.now c.loop-change.change-index c.change-item.result c.change-item.is c.requires.changes c.loop-change-test.true

pub returns-in_err-here-clause-keeps : goal.returns-in_err-here-clause-keeps
returns-in_err-here-clause-keeps g c = keeps_on _ _ _ c.loop-change.invariant.1.3 c.changed.ensures.keeps

pub returns-in_err-here-clause-err : goal.returns-in_err-here-clause-err
returns-in_err-here-clause-err g c =
    let i = c.loop-change.invariant in
    let t : ExplainsChange (all_changed g.N.Namer.id_of c.args.aims.now c.args.changes.now (changed_of (map_of c.args.trees.now c.args.tree) [])) c.in_err-here.field-0.0 =
    one_err g.N.Namer.id_of c.args.aims.now c.args.changes.now _ c.loop-change.change-index c.change-item.result i.0 c.loop-change.trees c.loop-change.here c.in_err-here.field-0.0 c.change-item.is i.1.0 i.1.1 c.loop-change-test.true (c.in_err-here.ensures.err i.0.contents) in
    search rules

pub loop-change-preserved : goal.loop-change-preserved
loop-change-preserved g c =
    let i = c.loop-change.invariant in
    let s = c.in_ok-here.ensures.ok i.0.contents i.1.2 in
    (s.changed, (one_more g.N.Namer.id_of c.args.aims.now c.args.changes.now _ c.loop-change.change-index c.change-item.result i.0 c.loop-change.trees c.loop-change.here s.changed c.change-item.is i.1.0 i.1.1 c.loop-change-test.true s.is, s.stands, s.holds, keeps_on _ _ _ i.1.3 c.changed.ensures.keeps))

pub returns-clause-keeps : goal.returns-clause-keeps
returns-clause-keeps g c = c.loop-change.invariant.1.3

pub returns-clause-ok : goal.returns-clause-ok
returns-clause-ok g c =
    let i = c.loop-change.invariant in
    record { changed = i.0; is = none_left g.N.Namer.id_of c.args.aims.now c.args.changes.now _ c.loop-change.change-index i.0 i.1.0 (omega arith); stands = i.1.1; holds = i.1.2 }
