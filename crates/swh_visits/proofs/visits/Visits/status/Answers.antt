use Rattle.std.proofs.Common.{◌≡◌, List, length, sym, ap, ◌∙◌, subst}
use Rattle.swh_model.specs.declared.event.Visit.{Visit}
use Rattle.std.specs.Prelude.{IfErr}
use Rattle.std.proofs.Math.Nat.{eq-zero-or-pos}
use Rattle.swh_visits.specs.Visits.{MayBeMarked, IsVisitFault}
use Rattle.swh_visits.proofs.VisitLemmas.{visits-there, visits-absent, view-same, view-marked}
use Rattle.swh_model.proofs.Results.{on_ok, on_err}
use Rattle.swh_visits.proofs.visits.Visits.status.Goals as goal

pub returns-clause-ok : goal.returns-clause-ok
returns-clause-ok c =
    let is : c.as_bytes.result.now ≡ c.args.origin.now = c.as_bytes.ensures.value ∙ c.as_str.ensures.text in
    on_ok c.add_status.result c.add_status.ensures.ok
    (view-marked c.args.self.now c.self.inside.by_origin.entries _ c.args.origin.now c.self.view_is is (c.get_mut.follows.lender c.add_status.new.visits).entries
    c.in-Some.visits.now c.add_status.new.visits c.args.visit c.args.status c.args.snapshot (sym c.in-Some.ensures.value) (c.get_mut.follows.holds c.add_status.new.visits).0)

pub returns-clause-err : goal.returns-clause-err
returns-clause-err c =
    on_err c.add_status.result c.add_status.ensures.err
    (λ done. view-same c.self.inside.by_origin.entries (c.get_mut.follows.lender c.add_status.new.visits).entries c.as_bytes.result.now c.in-Some.visits.now c.add_status.new.visits
    (sym c.in-Some.ensures.value) (c.get_mut.follows.holds c.add_status.new.visits).0 done ∙ c.self.view_is)

pub returns-clause-may : goal.returns-clause-may
returns-clause-may c =
    let is : c.as_bytes.result.now ≡ c.args.origin.now = c.as_bytes.ensures.value ∙ c.as_str.ensures.text in
    let same = visits-there c.args.self.now c.self.inside.by_origin.entries _ c.args.origin.now c.self.view_is is c.in-Some.visits.now (sym c.in-Some.ensures.value) in
    on_ok c.add_status.result c.add_status.ensures.may (λ may. subst (λ (vs : List Visit). MayBeMarked vs c.args.by c.args.visit) same may)

pub returns-clause-fault : goal.returns-clause-fault
returns-clause-fault c =
    let is : c.as_bytes.result.now ≡ c.args.origin.now = c.as_bytes.ensures.value ∙ c.as_str.ensures.text in
    let same = visits-there c.args.self.now c.self.inside.by_origin.entries _ c.args.origin.now c.self.view_is is c.in-Some.visits.now (sym c.in-Some.ensures.value) in
    subst (λ (vs : List Visit). IfErr c.add_status.result (IsVisitFault vs c.args.by c.args.visit)) same c.add_status.ensures.fault

pub returns-in_default-clause-fault : goal.returns-in_default-clause-fault
returns-in_default-clause-fault c =
    let is : c.as_bytes.result.now ≡ c.args.origin.now = c.as_bytes.ensures.value ∙ c.as_str.ensures.text in
    let none = visits-absent c.args.self.now c.self.inside.by_origin.entries _ c.args.origin.now c.self.view_is is (sym c.in_default.ensures.value) in
    (ap length (sym none), eq-zero-or-pos c.args.visit)
