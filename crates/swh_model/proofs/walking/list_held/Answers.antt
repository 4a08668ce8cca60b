use Rattle.std.proofs.Common.{[], List, refl, sym, subst, get_or}
use Rattle.std.specs.Prelude.{Contains}
use Rattle.std.proofs.lemmas.List.{take_all}
use Rattle.swh_base.specs.declared.kind.Kind.TheVariants.{Content}
use Rattle.swh_base.specs.declared.name.Name.{Name}
use Rattle.swh_model.proofs.ListedWalks.{gains-more, all-more, item_there, item_is}
use Rattle.swh_model.proofs.walking.list_held.Goals as goal

pub loop-child-preserved : goal.loop-child-preserved
loop-child-preserved c =
    let none : Name = record { kind = Content; id = [] } in
    let child = get_or c.args.kids.now c.loop-child.child-index none in
    let is = item_is c.args.kids.now c.loop-child.child-index none child c.loop-child-test.true in
    record {
      gains = gains-more c.args.state.now.bodies c.args.kids.now c.args.names.now.items c.loop-child.names.items c.list_name.new.names.items child c.loop-child.invariant.gains c.in_ok-list_name.ensures.gains
          (item_there c.args.kids.now c.loop-child.child-index child c.loop-child-test.true is) (c.if-not-has.ensures.0 refl);
      all = all-more c.args.kids.now c.loop-child.names.items c.list_name.new.names.items c.loop-child.child-index child c.loop-child-test.true is c.loop-child.invariant.all c.in_ok-list_name.ensures.gains c.in_ok-list_name.ensures.there;
    }

pub returns-in_err-list_name-clause-gains : goal.returns-in_err-list_name-clause-gains
returns-in_err-list_name-clause-gains c =
    let none : Name = record { kind = Content; id = [] } in
    let child = get_or c.args.kids.now c.loop-child.child-index none in
    let is = item_is c.args.kids.now c.loop-child.child-index none child c.loop-child-test.true in
    gains-more c.args.state.now.bodies c.args.kids.now c.args.names.now.items c.loop-child.names.items c.list_name.new.names.items child c.loop-child.invariant.gains c.in_err-list_name.ensures.gains
    (item_there c.args.kids.now c.loop-child.child-index child c.loop-child-test.true is) (c.if-not-has.ensures.0 refl)

pub returns-clause-all : goal.returns-clause-all
returns-clause-all c child there =
    c.loop-child.invariant.all child (subst (λ (ks : List Name). Contains ks child) (sym (take_all c.loop-child.child-index c.args.kids.now c.loop-child-test.false)) there)
