use Rattle.std.proofs.Common.{ap, ◌∙◌, subst}
use Rattle.swh_base.specs.declared.name.Name.{Name}
use Rattle.swh_base.specs.Name.{IsId}
use Rattle.swh_dedup.proofs.Givens.{gives_as_known, gives_as_new}
use Rattle.swh_dedup.proofs.giving.give.Goals as goal

pub returns-in_ok-push-in-New : goal.returns-in_ok-push-in-New
returns-in_ok-push-in-New g c ms old h =
    let own = subst IsId (c.whole_id-id.ensures.same ∙ ap (λ (n : Name). n.id) c.name-name.ensures.name ∙ c.name-name.ensures.good.named) c.whole_id-id.ensures.id in
    gives_as_new g.N.Namer.id_of ms old c.args.seen.now c.args.out.now.items c.args.object _ _ _ c.in-New.is c.in_ok-add.ensures.ok h c.requires.ready c.name-name.ensures.good own c.in_ok-push-in-New.ensures.items

pub returns-in-Known : goal.returns-in-Known
returns-in-Known g c ms old h = gives_as_known g.N.Namer.id_of ms old c.args.seen.now c.args.out.now.items c.args.object _ _ c.in-Known.is c.in_ok-add.ensures.ok h
