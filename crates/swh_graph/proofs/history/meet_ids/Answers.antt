use Rattle.std.proofs.Common.{◌≡◌, ◌+◌, ◌≤◌, ◌<◌, ℕ, List, [], ◌∷◌, ◌++◌, map, take, drop, get_or, length, sym, ap, ◌∙◌, subst, arith}
use Rattle.std.proofs.lemmas.List.{take_more, take_all, take-append-drop, map-append}
use Rattle.swh_base.specs.declared.name.Name.{Name}
use Rattle.swh_base.specs.Revision.{revision_name}
use Rattle.swh_graph.specs.Met.{MeetsOne, MeetsUpTo}
use Rattle.swh_graph.proofs.UpTo.{up_to_none, up_to_more, up_to_full}
use Rattle.swh_graph.proofs.history.meet_ids.Goals as goal

pub loop-id-init : goal.loop-id-init
loop-id-init c = up_to_none c.args.limit c.args.met.now

pub loop-id-preserved : goal.loop-id-preserved
loop-id-preserved c =
    let ids = c.args.ids.now in
    let i = c.loop-id.id-index in
    let none : List ℕ = [] in
    let id = get_or ids i none in
    let more : map revision_name (take (i + 1) ids) ≡ map revision_name (take i ids) ++ revision_name id ∷ [] =
    ap (map revision_name) (take_more ids i none c.loop-id-test.true) ∙ map-append revision_name (take i ids) (id ∷ []) in
    subst (λ (front : List Name). MeetsUpTo c.args.limit c.args.met.now front c.meet.new.self) (sym more)
    (up_to_more c.args.limit c.args.met.now (map revision_name (take i ids)) c.loop-id.met (revision_name id) c.meet.new.self c.loop-id.invariant (let below = c.if-len-limit.false in let long = c.len.ensures.value in omega (arith, below, long))
    (subst (λ (n : Name). MeetsOne c.loop-id.met n c.meet.new.self) c.revision_name.ensures c.in_ok-meet.ensures))

pub returns-then-len-limit : goal.returns-then-len-limit
returns-then-len-limit c =
    let ids = c.args.ids.now in
    let i = c.loop-id.id-index in
    let reached = c.if-len-limit.true in
    let long = c.len.ensures.value in
    subst (λ (xs : List Name). MeetsUpTo c.args.limit c.args.met.now xs c.loop-id.met)
    (sym (map-append revision_name (take i ids) (drop i ids)) ∙ ap (map revision_name) (take-append-drop i ids))
    (up_to_full c.args.limit c.args.met.now (map revision_name (take i ids)) c.loop-id.met (map revision_name (drop i ids)) c.loop-id.invariant (omega (arith, reached, long)))

pub returns : goal.returns
returns c =
    subst (λ (ids : List (List ℕ)). MeetsUpTo c.args.limit c.args.met.now (map revision_name ids) c.loop-id.met) (take_all c.loop-id.id-index c.args.ids.now c.loop-id-test.false) c.loop-id.invariant
