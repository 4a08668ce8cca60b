use Rattle.std.proofs.Common.{List, ℕ, subst}
use Rattle.std.proofs.lemmas.Result.{IfOk-weaker, MatchResult-weaker}
use Rattle.swh_graph.specs.Answer.{Found, Refuses}
use Rattle.swh_graph.specs.Way.{WayAnswers}
use Rattle.swh_graph.proofs.Resolutions.{resolves_on_way, fails_on_way}
use Rattle.swh_graph.proofs.resolving.resolve.Goals as goal

pub returns-clause-ok : goal.returns-clause-ok
returns-clause-ok g c =
    let bodies = (g.L.Look.archive c.args.look.now).bodies in
    let s = c.args.swhid.now in
    IfOk-weaker c.arrive.result _ _
    (λ name way.
    resolves_on_way bodies s c.in_default.ensures.none c.in-Some-anchor.anchor c.in-Some-path.path c.in-Some-anchor.is c.in-Some-path.is name
    (subst (λ (path : List ℕ). WayAnswers bodies c.in-Some-anchor.anchor path s.core (Found name)) c.as_slice.ensures way))
    c.arrive.ensures.ok

pub returns-clause-err : goal.returns-clause-err
returns-clause-err g c =
    let bodies = (g.L.Look.archive c.args.look.now).bodies in
    let s = c.args.swhid.now in
    MatchResult-weaker c.arrive.result c.arrive.ensures.err (λ _ told. told)
    (λ fault why.
    fails_on_way bodies s c.in_default.ensures.none c.in-Some-anchor.anchor c.in-Some-path.path c.in-Some-anchor.is c.in-Some-path.is fault
    (subst (λ (path : List ℕ). Refuses (WayAnswers bodies c.in-Some-anchor.anchor path s.core) fault) c.as_slice.ensures why))
