use Rattle.std.proofs.Common.{◌≡◌, true, false, refl, sym, ◌∙◌}
use Rattle.swh_graph.specs.Path.{directory_name}
use Rattle.swh_pathwalk.proofs.Trees.{some_walk}
use Rattle.swh_dircook.proofs.Paths.{root_there, held_order}
use Rattle.swh_dircook.proofs.Sums.{many_rows, large_files, long_listing, only_listing}
use Rattle.swh_dircook.proofs.long.is_long.Goals as goal

pub returns-then-many : goal.returns-then-many
returns-then-many g c =
    let bodies = (g.L.Look.archive c.args.look.now).bodies in
    let children = g.L.Graph.children_of c.args.look.now in
    let order = c.args.order.now in
    let root = directory_name c.args.directory in
    let is = held_order children root order c.requires.order c.requires.acyclic in
    let all = some_walk bodies children c.is_graph.ensures order is root (root_there children root order c.requires.order) refl in
    (λ _. many_rows bodies root all.0 all.1 ((c.in_ok-many.ensures all.0 all.1).0 c.if-many.true), λ _. refl)

pub returns-then-large : goal.returns-then-large
returns-then-large g c =
    let bodies = (g.L.Look.archive c.args.look.now).bodies in
    let children = g.L.Graph.children_of c.args.look.now in
    let order = c.args.order.now in
    let root = directory_name c.args.directory in
    let is = held_order children root order c.requires.order c.requires.acyclic in
    let all = some_walk bodies children c.is_graph.ensures order is root (root_there children root order c.requires.order) refl in
    (λ _. large_files bodies root all.0 all.1 ((c.in_ok-large.ensures all.0 all.1).0 c.if-large.true), λ _. refl)

pub returns : goal.returns
returns g c =
    let bodies = (g.L.Look.archive c.args.look.now).bodies in
    let children = g.L.Graph.children_of c.args.look.now in
    let order = c.args.order.now in
    let root = directory_name c.args.directory in
    let is = held_order children root order c.requires.order c.requires.acyclic in
    let all = some_walk bodies children c.is_graph.ensures order is root (root_there children root order c.requires.order) refl in (
      λ t. long_listing bodies root all.0 all.1 ((c.in_ok-listed.ensures all.0 all.1).0 t),
      λ long. (c.in_ok-listed.ensures all.0 all.1).1
          (only_listing bodies root all.0 all.1 long
          (λ over. let e : true ≡ false = sym ((c.in_ok-many.ensures all.0 all.1).1 over) ∙ c.if-many.false in cc)
          (λ over. let e : true ≡ false = sym ((c.in_ok-large.ensures all.0 all.1).1 over) ∙ c.if-large.false in cc)),
    )
