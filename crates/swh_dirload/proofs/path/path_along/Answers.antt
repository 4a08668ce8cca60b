use Rattle.std.proofs.Common.{◌≡◌, ℕ, List, ◌∷◌, sym, ◌∙◌, subst, rules}
use Rattle.std.specs.Prelude.{string_bytes}
use Rattle.swh_dirmade.specs.Paths.{child}
use Rattle.swh_dirload.specs.Found.{path_at, paths_of, Leads}
use Rattle.swh_dirload.proofs.Tables.{path_first, path_step}
use Rattle.swh_dirload.proofs.path.path_along.Goals as goal

pub down-init : goal.down-init
down-init c = (0, c.new-path.ensures.bytes ∙ sym (path_first c.args.found.now c.requires.placed), c.requires.way)

pub down-preserved : goal.down-preserved
down-preserved c =
    let found = c.args.found.now in
    let next = c.in-Some.next in
    let item = c.index-found-next.result in
    let here = c.down.invariant in
    let leads : Leads found here.0 (next ∷ c.pop_front.new.self.items) c.args.number = subst (λ (way : List ℕ). Leads found here.0 way c.args.number) c.in-Some.ensures.items here.2 in
    let named : string_bytes c.enter.new.path ≡ child (path_at (paths_of found) here.0) (string_bytes item.name) = search rules in
    (next, named ∙ sym (path_step found next item c.requires.placed leads.0 leads.1 ∙ search rules), leads.3)
