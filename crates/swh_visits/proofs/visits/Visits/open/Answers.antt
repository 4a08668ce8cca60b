use Rattle.std.proofs.Common.{◌≡◌, ℕ, ◌+◌, List, [], ◌∷◌, ◌++◌, length, sym, ap, ◌∙◌, subst}
use Rattle.swh_model.specs.declared.event.Visit.{Visit}
use Rattle.std.specs.Prelude.{IfOk}
use Rattle.swh_model.specs.Archive.{Origins, visits_of}
use Rattle.swh_model.specs.Step.{opened, first_of}
use Rattle.std.specs.FinMap.{insert}
use Rattle.swh_visits.proofs.VisitLemmas.{visits-found, visits-missing, view-set, view-same, view-insert, key_cmp}
use Rattle.std.specs.Global.{Vec}
use Rattle.std.proofs.Common.{BTreeMap}
use Rattle.std.specs.BTreeMap.{insert_entry}
use Rattle.swh_visits.specs.Visits.{origins_of}
use Rattle.swh_model.proofs.Results.{on_ok, on_err}
use Rattle.swh_visits.proofs.visits.Visits.open.Goals as goal

pub returns-in-Some-clause-ok : goal.returns-in-Some-clause-ok
returns-in-Some-clause-ok c =
    let url = c.as_bytes-url.result.now in
    let is : url ≡ c.args.origin.now = c.as_bytes-url.ensures.value ∙ c.as_str.ensures.text in
    let there = sym c.in-Some.ensures.value in
    let before_ = visits-found url c.self.inside.by_origin.entries c.in-Some.visits.now there in
    let after_ = view-set c.self.inside.by_origin.entries (c.get_mut.follows.lender c.push_opened.new.visits).entries url c.in-Some.visits.now c.push_opened.new.visits there (c.get_mut.follows.holds c.push_opened.new.visits).0 in
    on_ok c.push_opened.result c.push_opened.ensures.ok
    (λ done. after_
    ∙ ap (λ (vs : List Visit). insert (origins_of c.self.inside.by_origin.entries) url vs) (done ∙ ap (λ (vs : List Visit). vs ++ first_of (length vs + 1) c.args.date c.args.kind c.args.by ∷ []) (sym before_))
    ∙ ap (λ (o : Origins). opened o url c.args.by c.args.kind c.args.date) c.self.view_is
    ∙ ap (λ (u : List ℕ). opened c.args.self.now u c.args.by c.args.kind c.args.date) is)

pub returns-in-Some-clause-err : goal.returns-in-Some-clause-err
returns-in-Some-clause-err c =
    let url = c.as_bytes-url.result.now in
    let is : url ≡ c.args.origin.now = c.as_bytes-url.ensures.value ∙ c.as_str.ensures.text in
    on_err c.push_opened.result c.push_opened.ensures.err
    (λ done. view-same c.self.inside.by_origin.entries (c.get_mut.follows.lender c.push_opened.new.visits).entries url c.in-Some.visits.now c.push_opened.new.visits
    (sym c.in-Some.ensures.value) (c.get_mut.follows.holds c.push_opened.new.visits).0 done ∙ c.self.view_is)

pub returns-in_ok-insert-in-None-clause-ok : goal.returns-in_ok-insert-in-None-clause-ok
returns-in_ok-insert-in-None-clause-ok c =
    let url = c.as_bytes-url.result.now in
    let is : url ≡ c.args.origin.now = c.as_bytes-url.ensures.value ∙ c.as_str.ensures.text in
    let opens = λ (vs : List Visit). vs ++ first_of (length vs + 1) c.args.date c.args.kind c.args.by ∷ [] in
    let missing = visits-missing url c.self.inside.by_origin.entries (sym c.in-None.ensures.value) in
    let key = c.in_ok-from_slice-in-None.field-0 in
    let value = c.push_opened-in-None.new.visits in
    let here = view-insert c.self.inside.by_origin.entries c.insert.new.self.entries key value
    (c.in_ok-insert-in-None.ensures.entries ∙ ap (λ (m : BTreeMap (Vec ℕ) (Vec Visit)). insert_entry key_cmp m.entries key value) c.get_mut.follows.holds-at-none) in
    here ∙ ap (λ (k : List ℕ). insert (origins_of c.self.inside.by_origin.entries) k value.items) c.in_ok-from_slice-in-None.ensures.items
    ∙ ap (λ (vs : List Visit). insert (origins_of c.self.inside.by_origin.entries) url vs) (c.in_ok-number-in-None.ensures.ok ∙ ap opens (c.new-visits.ensures.items ∙ sym missing))
    ∙ ap (λ (o : Origins). opened o url c.args.by c.args.kind c.args.date) c.self.view_is
    ∙ ap (λ (u : List ℕ). opened c.args.self.now u c.args.by c.args.kind c.args.date) is

pub returns-in-Some-clause-number : goal.returns-in-Some-clause-number
returns-in-Some-clause-number c =
    let url = c.as_bytes-url.result.now in
    let is : url ≡ c.args.origin.now = c.as_bytes-url.ensures.value ∙ c.as_str.ensures.text in
    let same : c.in-Some.visits.now.items ≡ visits_of c.args.self.now c.args.origin.now =
    sym (visits-found url c.self.inside.by_origin.entries c.in-Some.visits.now (sym c.in-Some.ensures.value)) ∙ ap (λ (o : Origins). visits_of o url) c.self.view_is ∙ ap (visits_of c.args.self.now) is in
    subst (λ (vs : List Visit). IfOk c.push_opened.result (λ number. number ≡ length vs + 1)) same c.push_opened.ensures.number

pub returns-in_ok-insert-in-None-clause-number : goal.returns-in_ok-insert-in-None-clause-number
returns-in_ok-insert-in-None-clause-number c =
    let url = c.as_bytes-url.result.now in
    let is : url ≡ c.args.origin.now = c.as_bytes-url.ensures.value ∙ c.as_str.ensures.text in
    let none : visits_of c.args.self.now c.args.origin.now ≡ [] =
    ap (visits_of c.args.self.now) (sym is) ∙ sym (ap (λ (o : Origins). visits_of o url) c.self.view_is) ∙ visits-missing url c.self.inside.by_origin.entries (sym c.in-None.ensures.value) in
    c.in_ok-number-in-None.ensures.number ∙ ap (λ (vs : List Visit). length vs + 1) (c.new-visits.ensures.items ∙ sym none)
