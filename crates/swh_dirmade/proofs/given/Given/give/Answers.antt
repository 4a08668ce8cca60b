use Rattle.std.proofs.Common.{List, [], ◌∷◌, ◌++◌, Contains, sym, ap, ◌∙◌, subst}
use Rattle.std.specs.List.{AllByRecursion}
use Rattle.swh_base.specs.declared.entry.Entry.{Entry}
use Rattle.swh_dedup.specs.Making.{made, names_of_made}
use Rattle.swh_dirmade.proofs.Givens.{given_new}
use Rattle.swh_dirmade.proofs.given.Given.give.Goals as goal

pub invariant_of-self-in-New : goal.invariant_of-self-in-New
invariant_of-self-in-New g c =
    let inside = c.self.inside in
    let id = g.N.Namer.id_of in
    given_new id inside.objects.items c.args.object inside.seen c.add.new.self _ c.push_reserved.new.self.items c.in-New.is c.in_ok-add.ensures.ok c.self.invariant.0 c.self.invariant.1 c.name-name.ensures.good
    (subst (λ (os : List Entry). AllByRecursion (Contains (names_of_made id (made os))) c.args.object.kids) (sym c.self.view_is) c.requires)
    (c.push_reserved.ensures.items ∙ ap (λ (os : List Entry). os ++ c.args.object ∷ []) c.in_ok-reserve.ensures.items)
