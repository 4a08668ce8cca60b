use Rattle.std.proofs.Common.{◌≡◌, ◌-◌, None, List, length, map, sym, ap, subst, ◌∙◌, arith}
use Rattle.std.specs.FinMap.{find, insert}
use Rattle.std.specs.Ordering.{nat_cmp}
use Rattle.std.specs.Cmp.Lexicographic.{slice_cmp}
use Rattle.swh_model.specs.declared.event.Visit.{Visit}
use Rattle.swh_model.specs.declared.origins.VisitedOrigin.{VisitedOrigin}
use Rattle.swh_model.specs.Archive.{visits_of}
use Rattle.swh_model.specs.Step.{marked_at}
use Rattle.swh_model.specs.State.{with_visits, origins_in, IsPlaceOf}
use Rattle.swh_model.proofs.PlainLists.{place-named, visits-at, visits-none, origins-set}
use Rattle.swh_model.proofs.Results.{on_ok}
use Rattle.swh_model.proofs.origins.mark_in.Goals as goal

pub push_status-requires : goal.push_status-requires
push_status-requires c =
    let os = c.args.origins.now.items in
    let at : IsPlaceOf c.args.origin.now os c.in-Some.place = subst (λ (ps : List VisitedOrigin). IsPlaceOf c.args.origin.now ps c.in-Some.place) c.deref.ensures.value c.in-Some.ensures.some in
    let long = ap length (visits-at c.args.origin.now os c.in-Some.place c.index_mut.result.now at c.index_mut.ensures.value) in
    let few = c.requires.there in let some = c.requires.positive in omega (arith, long, few, some)

pub unreachable-requires : goal.unreachable-requires
unreachable-requires c =
    let os = c.args.origins.now.items in
    let none : find (slice_cmp nat_cmp) c.args.origin.now (map with_visits os) ≡ None =
    subst (λ (ps : List VisitedOrigin). find (slice_cmp nat_cmp) c.args.origin.now (map with_visits ps) ≡ None) c.deref.ensures.value c.in-None.ensures.none in
    let long : length (visits_of (origins_in os) c.args.origin.now) ≡ 0 = ap length (visits-none c.args.origin.now os none) in
    let few = c.requires.there in let some = c.requires.positive in omega (arith, long, few, some)

pub returns : goal.returns
returns c =
    let os = c.args.origins.now.items in
    let url = c.args.origin.now in
    let place = c.in-Some.place in
    let o = c.index_mut.result.now in
    let w : VisitedOrigin = record { origin = o.origin; visits = c.push_status.new.visits } in
    let at : IsPlaceOf url os place = subst (λ (ps : List VisitedOrigin). IsPlaceOf url ps place) c.deref.ensures.value c.in-Some.ensures.some in
    on_ok c.push_status.result c.push_status.ensures.ok
    (λ is. origins-set url w os place at (place-named url os place o at c.index_mut.ensures.value)
    ∙ ap (λ (vs : List Visit). insert (origins_in os) url vs)
    (is ∙ ap (λ (vs : List Visit). marked_at vs (c.args.visit - 1) c.args.status c.args.snapshot) (sym (visits-at url os place o at c.index_mut.ensures.value))))
