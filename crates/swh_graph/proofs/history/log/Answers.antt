use Rattle.std.proofs.Common.{◌≡◌, ℕ, List, [], ◌∷◌, map, take, arith, refl, sym, ap, ◌∙◌, subst}
use Rattle.std.proofs.lemmas.List.{take-take}
use Rattle.swh_graph.specs.Log.{IsLog}
use Rattle.swh_base.specs.Revision.{revision_name}
use Rattle.swh_base.specs.declared.name.Name.{Name}
use Rattle.swh_graph.specs.Met.{MeetsUpTo}
use Rattle.swh_graph.proofs.Lists.{refused}
use Rattle.swh_graph.proofs.Logs.{kind_here, log_fails, log_ends, log_full}
use Rattle.swh_graph.proofs.UpTo.{logged_up_to_none, logged_up_to_more, less_of_all, is_of_all, ends_of_all}
use Rattle.swh_graph.proofs.history.log.Goals as goal

pub loop-place-init : goal.loop-place-init
loop-place-init g c =
    logged_up_to_none (g.L.Look.archive c.args.look.now).bodies c.args.rev c.args.limit c.meet_ids.new.met
    (subst (λ (old : List Name). MeetsUpTo c.args.limit old (revision_name c.args.rev ∷ []) c.meet_ids.new.met) c.new-met.ensures c.in_ok-meet_ids.ensures)

pub meet_parents-requires : goal.meet_parents-requires
meet_parents-requires g c =
    let bodies = (g.L.Look.archive c.args.look.now).bodies in
    let l = c.loop-place.invariant in
    let at = c.in-Some.ensures.some in
    kind_here bodies c.args.rev c.loop-place.place l.all l.logged c.in-Some.name
    (less_of_all bodies c.args.rev c.args.limit c.loop-place.place c.loop-place.met l c.in-Some.name c.loop-place-test.true at.0 at.1)
    (is_of_all bodies c.args.rev c.args.limit c.loop-place.place c.loop-place.met l c.in-Some.name c.loop-place-test.true at.0 at.1)

pub loop-place-preserved : goal.loop-place-preserved
loop-place-preserved g c =
    let at = c.in-Some.ensures.some in
    logged_up_to_more (g.L.Look.archive c.args.look.now).bodies c.args.rev c.args.limit c.loop-place.place c.loop-place.met c.loop-place.invariant c.in-Some.name c.loop-place-test.true at.0 at.1
    c.meet_parents.new.met c.in_ok-meet_parents.ensures.ok

pub returns-in_default-clause-ok : goal.returns-in_default-clause-ok
returns-in_default-clause-ok g c =
    let bodies = (g.L.Look.archive c.args.look.now).bodies in
    let l = c.loop-place.invariant in
    let room = c.loop-place-test.true in
    let place = c.loop-place.place in
    subst (IsLog bodies (revision_name c.args.rev) c.args.limit)
    (sym (c.into_front.ensures ∙ ap (λ (ns : List Name). take place ns) l.front ∙ take-take place c.args.limit l.all (omega (arith, room))))
    (log_ends bodies c.args.rev place l.all l.logged c.args.limit (omega (arith, room)) (ends_of_all bodies c.args.rev c.args.limit place c.loop-place.met l room c.in_default.ensures.none))

pub returns-in_err-meet_parents-clause-err : goal.returns-in_err-meet_parents-clause-err
returns-in_err-meet_parents-clause-err g c =
    let bodies = (g.L.Look.archive c.args.look.now).bodies in
    let l = c.loop-place.invariant in
    let at = c.in-Some.ensures.some in
    let room = c.loop-place-test.true in
    refused c.from_residual-in_err-meet_parents.result _ _ c.from_residual-in_err-meet_parents.ensures.1
    (log_fails bodies c.args.rev c.loop-place.place l.all l.logged c.in-Some.name
    (less_of_all bodies c.args.rev c.args.limit c.loop-place.place c.loop-place.met l c.in-Some.name room at.0 at.1)
    (is_of_all bodies c.args.rev c.args.limit c.loop-place.place c.loop-place.met l c.in-Some.name room at.0 at.1)
    c.args.limit room c.in_err-meet_parents.field-0.0 c.in_err-meet_parents.ensures.err)

pub returns-clause-ok : goal.returns-clause-ok
returns-clause-ok g c =
    let bodies = (g.L.Look.archive c.args.look.now).bodies in
    let root = revision_name c.args.rev in
    let l = c.loop-place.invariant in
    let most = c.loop-place.auto.place-end in
    let least = c.loop-place-test.false in
    let all : c.loop-place.place ≡ c.args.limit = omega (arith, most, least) in
    subst (IsLog bodies root c.args.limit)
    (sym (c.into_front-2.ensures ∙ ap (λ (ns : List Name). take c.args.limit ns) l.front ∙ take-take c.args.limit c.args.limit l.all (omega arith)))
    (subst (λ (k : ℕ). IsLog bodies root k (take k l.all)) all (log_full bodies c.args.rev c.loop-place.place l.all l.logged))
