use Rattle.std.proofs.Common.{◌≡◌, ◌==◌, ◌+◌, ℕ, true, false, List, length, sym, ap, ◌∙◌, subst}
use Rattle.swh_base.specs.declared.name.Name.{Name}
use Rattle.swh_dirfmt.specs.Entries.{entry_of}
use Rattle.swh_graph.specs.Way.{Arrives, Ends}
use Rattle.swh_graph.proofs.Resolutions.{ends_at_entry}
use Rattle.swh_graph.proofs.resolving.end_of.Goals as goal

pub returns-clause-ok : goal.returns-clause-ok
returns-clause-ok g c =
    let bodies = (g.L.Look.archive c.args.look.now).bodies in
    let arrival = c.in_ok-arrival.arrival in
    subst (λ (n : Name). Ends bodies c.args.root c.args.path.now n (arrival.number + 1)) (sym c.target_of-name.ensures)
    (ends_at_entry bodies c.args.root c.args.path.now (entry_of arrival.entry) arrival.number
    (λ e. let same = ap (λ (l : List ℕ). length l == 0) (c.behind_slash-below.ensures ∙ e) in let f : false ≡ true = sym c.if-is_empty.false ∙ c.is_empty.ensures ∙ same in cc)
    (subst (λ (p : List ℕ). Arrives bodies c.args.root p (entry_of arrival.entry) arrival.number) c.behind_slash-below.ensures c.in_ok-arrival.ensures.ok))
