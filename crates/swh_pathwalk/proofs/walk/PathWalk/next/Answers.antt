use Rattle.std.proofs.Common.{sym, subst}
use Rattle.swh_dirfmt.specs.Entries.{entry_of}
use Rattle.swh_pathwalk.specs.Walk.{Standing, GivesNext}
use Rattle.swh_pathwalk.proofs.Steps.{gives_leaf, gives_folder}
use Rattle.swh_pathwalk.proofs.walk.PathWalk.next.Goals.{then-entry-eq-FOLDER+in_ok-enter, else-entry-eq-FOLDER}
use Rattle.swh_pathwalk.proofs.walk.PathWalk.next.Goals as goal

pub returns-clause-ok : goal.returns-clause-ok
returns-clause-ok g c =
    let bodies = (g.L.Look.archive c.args.look.now).bodies in
    let e = entry_of c.in-Some.entry in
    let takes = rw c.in-Some.is at c.in_ok-entry.ensures in
    elim c.if-entry-eq-FOLDER.branch [
      | then-entry-eq-FOLDER+in_ok-enter w ↦
          subst (λ (s : Standing). GivesNext bodies c.args.self.now e s) (sym w.self-is)
          (gives_folder bodies c.args.self.now c.take_next.new.self w.enter.new.self e takes w.if-entry-eq-FOLDER.true w.in_ok-enter.ensures.ok)
      | else-entry-eq-FOLDER w ↦
          subst (λ (s : Standing). GivesNext bodies c.args.self.now e s) (sym w.self-is)
          (gives_leaf bodies c.args.self.now c.take_next.new.self e takes w.if-entry-eq-FOLDER.false)
    ]
