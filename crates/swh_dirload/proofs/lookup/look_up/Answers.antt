use Rattle.std.proofs.Common.{subst}
use Rattle.std.specs.List.{AllByRecursion}
use Rattle.swh_fastlex.specs.Path.{IsComponent}
use Rattle.swh_fastlex.proofs.Components.{components_none, components_cut}
use Rattle.swh_dirload.proofs.Lookups.{path_first, entered, cut_off, arrived, may_add}
use Rattle.swh_dirload.proofs.lookup.look_up.Goals as goal

pub components-init : goal.components-init
components-init c = record {
  within = c.requires.table.some;
  cut = path_first c.args.spots.now c.args.path.now c.requires.table;
  good = c.requires.path;
}

pub components-preserved : goal.components-preserved
components-preserved c =
    let inv = c.components.invariant in
    let cut = c.in-Some.ensures.some in
    let good = subst (AllByRecursion IsComponent) (components_cut c.components.rest.now c.in-Some.component.now c.in-Some.after.now cut.0 cut.1) inv.good in
    let is = rw c.in-Some-2.is at c.in_ok-number.ensures.some in
    record {
      within = is.within;
      cut = entered c.args.spots.now c.components.above c.args.path.now c.components.rest.now c.in-Some.component.now c.in-Some.after.now c.in-Some-2.number c.requires.table inv.cut cut.1 good.0 is;
      good = good.1;
    }

pub returns-in-None : goal.returns-in-None
returns-in-None c =
    let inv = c.components.invariant in
    let cut = c.in-Some.ensures.some in
    let good = subst (AllByRecursion IsComponent) (components_cut c.components.rest.now c.in-Some.component.now c.in-Some.after.now cut.0 cut.1) inv.good in
    let none = rw c.in-None.is at c.in_ok-number.ensures.none in
    cut_off c.args.spots.now c.components.above c.args.path.now c.components.rest.now c.in-Some.component.now c.in-Some.after.now c.requires.table inv.within inv.cut cut.0 cut.1 good.0 none

pub returns-in-Some-3 : goal.returns-in-Some-3
returns-in-Some-3 c =
    let is = rw c.in-Some-3.is at c.in_ok-number-2.ensures.some in
    arrived c.args.spots.now c.components.above c.args.path.now c.components.rest.now c.in-Some-3.number c.requires.table c.components.invariant.cut is

pub returns-in_ok-name-in-None-2 : goal.returns-in_ok-name-in-None-2
returns-in_ok-name-in-None-2 c =
    let inv = c.components.invariant in
    let plain = c.in_default.ensures.none in
    let good = subst (AllByRecursion IsComponent) (components_none c.components.rest.now plain) inv.good in
    let none = rw c.in-None-2.is at c.in_ok-number-2.ensures.none in
    may_add c.args.spots.now c.components.above c.args.path.now c.components.rest.now c.in_ok-name-in-None-2.name inv.within inv.cut plain good.0 none c.in_ok-name-in-None-2.ensures
