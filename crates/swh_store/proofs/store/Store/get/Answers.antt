use Rattle.std.proofs.Common.{◌≡◌, None, Some, subst, IfNone}
use Rattle.swh_model.specs.Archive.{body_of}
use Rattle.swh_store.specs.Stored.{Stored, children_in}
use Rattle.swh_store.specs.Entries.{bodies_in}
use Rattle.swh_store.proofs.IndexLemmas.{childless}
use Rattle.swh_store.proofs.store.Store.get.Goals as goal

pub returns-clause-childless : goal.returns-clause-childless
returns-clause-childless c =
    let es = c.self.inside.held.entries.items in
    let n = c.args.name.now in
    elim c.get.result as (λ r. IfNone r (body_of (bodies_in es) n ≡ None) → IfNone r (children_in c.args.self.now n ≡ None)) [
      | None ↦ λ none. subst (λ (s : Stored). children_in s n ≡ None) c.self.view_is (childless es n none)
      | Some entry ↦ λ _. tt
    ] c.get.ensures.none
