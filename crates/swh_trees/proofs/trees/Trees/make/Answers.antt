use Rattle.std.proofs.Common.{rules, ◌≡◌, length, None, sym, ◌∙◌}
use Rattle.swh_trees.proofs.Parts.{keeps-on, keeps-seen}
use Rattle.swh_trees.proofs.Namings.{names-dropped}
use Rattle.swh_trees.proofs.Bounds.{emptied}
use Rattle.swh_trees.proofs.trees.Trees.make.Goals as goal

pub returns-in-Err-clause-keeps : goal.returns-in-Err-clause-keeps
returns-in-Err-clause-keeps g c =
    let n : c.len.result ≡ length c.self.inside.ids.items = search rules in
    keeps-on _ _ _ c.in-Err.ensures.keeps (keeps-seen _ c.self.inside.folders c.drop_unmade.new.folders c.self.inside.opened None c.self.inside.ids.items _ c.self.view_is c.self.invariant.within n c.drop_unmade.ensures.stays)

pub returns-in-Err-clause-names : goal.returns-in-Err-clause-names
returns-in-Err-clause-names g c =
    names-dropped c.args.self.now _ c.self.inside.folders c.drop_unmade.new.folders c.self.inside.opened c.self.inside.ids.items c.self.view_is c.drop_unmade.ensures.names c.make_objects.ensures.names

pub returns-in-Err-clause-emptied : goal.returns-in-Err-clause-emptied
returns-in-Err-clause-emptied g c =
    let n : c.len.result ≡ length c.self.inside.ids.items = search rules in
    emptied c.drop_unmade.new.folders c.self.inside.ids.items (sym n ∙ c.drop_unmade.ensures.all) c.drop_unmade.ensures.most c.drop_unmade.ensures.room
