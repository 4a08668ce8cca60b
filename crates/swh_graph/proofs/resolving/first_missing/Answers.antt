use Rattle.std.proofs.Common.{◌≡◌, Option, Some, None, true, false, [], ◌∷◌, ◌++◌, refl, ap}
use Rattle.std.specs.Prelude.{IfSome, option_to_list}
use Rattle.std.specs.List.{AllByRecursion}
use Rattle.swh_base.specs.declared.name.Name.{Name}
use Rattle.swh_model.specs.Archive.{Bodies, body_of, IsHeld}
use Rattle.swh_graph.specs.Resolve.{IsFirstMissing}
use Rattle.swh_graph.proofs.Lists.{nothing_there}
use Rattle.swh_graph.proofs.resolving.first_missing.Goals as goal

-- the last of three is not held
last_missing : (bodies : Bodies) (core : Name) (visit anchor found : Option Name) → IsHeld bodies core → AllByRecursion (IsHeld bodies) (option_to_list visit)
    → IfSome found (λ (m : Name). (anchor ≡ Some m) × (body_of bodies m ≡ None)) → IfSome found (IsFirstMissing bodies (core ∷ (option_to_list visit ++ option_to_list anchor)))
last_missing bodies core visit anchor None held visit_held is = tt
last_missing bodies core visit anchor (Some m) held visit_held is = record {
  before = core ∷ option_to_list visit;
  behind = [];
  cut = ap (λ (o : Option Name). core ∷ (option_to_list visit ++ option_to_list o)) is.0;
  held = (held, visit_held);
  missing = is.1;
}

pub returns-then-not-has-clause-some : goal.returns-then-not-has-clause-some
returns-then-not-has-clause-some g c =
    let s = c.args.swhid.now in
    record {
      before = [];
      behind = option_to_list s.visit ++ option_to_list s.anchor;
      cut = refl;
      held = tt;
      missing = nothing_there (body_of (g.L.Look.archive c.args.look.now).bodies s.core) (λ h. let e : false ≡ true = c.if-not-has.ensures.1 h in cc);
    }

pub returns-in-Some-clause-some : goal.returns-in-Some-clause-some
returns-in-Some-clause-some g c =
    let s = c.args.swhid.now in
    record {
      before = s.core ∷ [];
      behind = option_to_list s.anchor;
      cut = ap (λ (o : Option Name). s.core ∷ (option_to_list o ++ option_to_list s.anchor)) c.in-Some.ensures.some.0;
      held = (c.if-not-has.ensures.0 refl, tt);
      missing = c.in-Some.ensures.some.1;
    }

pub returns-clause-some : goal.returns-clause-some
returns-clause-some g c =
    let s = c.args.swhid.now in
    last_missing (g.L.Look.archive c.args.look.now).bodies s.core s.visit s.anchor c.missing-2.result (c.if-not-has.ensures.0 refl) c.in_default.ensures.none c.missing-2.ensures.some
