use Rattle.std.proofs.Common.{◌≡◌, suc, true, false, [], take, drop, get_or, sym, refl, subst}
use Rattle.std.specs.List.{AllByRecursion}
use Rattle.std.proofs.lemmas.List.{take_more, take_all}
use Rattle.std.proofs.Math.Seq.{split_at}
use Rattle.swh_base.specs.declared.kind.Kind.TheVariants.{Content}
use Rattle.swh_base.specs.declared.name.Name.{Name}
use Rattle.swh_base.proofs.DirectoryLemmas.{all-push}
use Rattle.swh_model.specs.Archive.{body_of, IsHeld}
use Rattle.swh_graph.proofs.Lists.{all_of, nothing_there}
use Rattle.swh_graph.proofs.reaching.first_missing.Goals as goal

pub returns-then-not-has-clause-some : goal.returns-then-not-has-clause-some
returns-then-not-has-clause-some g c =
    let bodies = (g.L.Look.archive c.args.look.now).bodies in
    let names = c.args.names.now in
    let i = c.loop-name.name-index in
    let none : Name = record { kind = Content; id = [] } in
    record {
      before = take i names;
      behind = drop (suc i) names;
      cut = split_at names i none c.loop-name-test.true;
      held = c.loop-name.invariant;
      missing = nothing_there (body_of bodies (get_or names i none)) (λ h. let e : false ≡ true = c.if-not-has.ensures.1 h in cc);
    }

pub loop-name-preserved : goal.loop-name-preserved
loop-name-preserved g c =
    let bodies = (g.L.Look.archive c.args.look.now).bodies in
    let names = c.args.names.now in
    let i = c.loop-name.name-index in
    let none : Name = record { kind = Content; id = [] } in
    subst (AllByRecursion (IsHeld bodies)) (sym (take_more names i none c.loop-name-test.true))
    (all-push (IsHeld bodies) (take i names) (get_or names i none) c.loop-name.invariant (c.if-not-has.ensures.0 refl))

pub returns-clause-none : goal.returns-clause-none
returns-clause-none g c n h =
    let bodies = (g.L.Look.archive c.args.look.now).bodies in
    let names = c.args.names.now in
    all_of (IsHeld bodies) names n (subst (AllByRecursion (IsHeld bodies)) (take_all c.loop-name.name-index names c.loop-name-test.false) c.loop-name.invariant) h
