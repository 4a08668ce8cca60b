use Rattle.std.proofs.Common.{◌≡◌, length, sym, ap, ◌∙◌, arith}
use Rattle.swh_visits.proofs.VisitLemmas.{visits-there, visits-absent, view-same, view-marked}
use Rattle.swh_model.proofs.Results.{on_ok, on_err}
use Rattle.swh_visits.proofs.visits.Visits.mark.Goals as goal

pub push_status-requires : goal.push_status-requires
push_status-requires c =
    let is : c.as_bytes.result.now ≡ c.args.origin.now = c.as_bytes.ensures.value ∙ c.as_str.ensures.text in
    let long = ap length (visits-there c.args.self.now c.self.inside.by_origin.entries _ c.args.origin.now c.self.view_is is c.in-Some.visits.now (sym c.in-Some.ensures.value)) in
    let few = c.requires.there in let some = c.requires.positive in omega (arith, long, few, some)

pub unreachable-requires : goal.unreachable-requires
unreachable-requires c =
    let is : c.as_bytes.result.now ≡ c.args.origin.now = c.as_bytes.ensures.value ∙ c.as_str.ensures.text in
    let long = ap length (visits-absent c.args.self.now c.self.inside.by_origin.entries _ c.args.origin.now c.self.view_is is (sym c.in-None.ensures.value)) in
    let few = c.requires.there in let some = c.requires.positive in omega (arith, long, few, some)

pub returns-clause-ok : goal.returns-clause-ok
returns-clause-ok c =
    let is : c.as_bytes.result.now ≡ c.args.origin.now = c.as_bytes.ensures.value ∙ c.as_str.ensures.text in
    on_ok c.push_status.result c.push_status.ensures.ok
    (view-marked c.args.self.now c.self.inside.by_origin.entries _ c.args.origin.now c.self.view_is is (c.get_mut.follows.lender c.push_status.new.visits).entries
    c.in-Some.visits.now c.push_status.new.visits c.args.visit c.args.status c.args.snapshot (sym c.in-Some.ensures.value) (c.get_mut.follows.holds c.push_status.new.visits).0)

pub returns-clause-err : goal.returns-clause-err
returns-clause-err c =
    on_err c.push_status.result c.push_status.ensures.err
    (λ done. view-same c.self.inside.by_origin.entries (c.get_mut.follows.lender c.push_status.new.visits).entries c.as_bytes.result.now c.in-Some.visits.now c.push_status.new.visits
    (sym c.in-Some.ensures.value) (c.get_mut.follows.holds c.push_status.new.visits).0 done ∙ c.self.view_is)
