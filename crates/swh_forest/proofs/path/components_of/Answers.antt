use Rattle.std.proofs.Common.{◌++◌, ◌∷◌, [], ℕ, List, sym, ap, ◌∙◌}
use Rattle.std.specs.Borrow.{Bor}
use Rattle.std.proofs.lemmas.List.{map_push, append_assoc}
use Rattle.swh_forest.specs.Arena.{parts_of}
use Rattle.swh_fastlex.specs.Path.{components}
use Rattle.swh_fastlex.proofs.Components.{components_none, components_cut}
use Rattle.swh_forest.proofs.path.components_of.Goals as goal

pub parts-preserved : goal.parts-preserved
parts-preserved c =
    let cut = c.in-Some.ensures.some in
    rw c.in_ok-push.ensures.items (
    ap (λ (r : List (List ℕ)). r ++ components c.in-Some.after.now) (map_push (λ (b : Bor (List ℕ)). b.now) c.parts.parts.items c.in-Some.part)
    ∙ append_assoc (parts_of c.parts.parts.items) (c.in-Some.part.now ∷ []) (components c.in-Some.after.now)
    ∙ ap (λ (r : List (List ℕ)). parts_of c.parts.parts.items ++ r) (sym (components_cut c.parts.rest.now c.in-Some.part.now c.in-Some.after.now cut.0 cut.1))
    ∙ c.parts.invariant)

pub returns : goal.returns
returns c =
    rw c.in_ok-push-2.ensures.items (
    map_push (λ (b : Bor (List ℕ)). b.now) c.parts.parts.items c.parts.rest
    ∙ ap (λ (r : List (List ℕ)). parts_of c.parts.parts.items ++ r) (sym (components_none c.parts.rest.now c.in_default.ensures.none))
    ∙ c.parts.invariant)
