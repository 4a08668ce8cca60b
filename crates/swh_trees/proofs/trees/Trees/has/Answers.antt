use Rattle.std.proofs.Common.{rules, ◌≡◌, ℕ, length, sym, subst}
use Rattle.swh_trees.specs.Grove.{Grove, IsTree}
use Rattle.swh_trees.specs.Held.{count_with}
use Rattle.swh_forest.specs.Roots.{IsBelow}
use Rattle.swh_trees.proofs.Parts.{tree-seen, tree-is}
use Rattle.swh_trees.proofs.trees.Trees.has.Goals as goal

pub returns : goal.returns
returns g c =
    let f = c.self.inside.folders in
    let o = c.self.inside.opened in
    let ids = c.self.inside.ids.items in
    let n : c.len.result ≡ length c.self.inside.folders.nodes.items = search rules in (
      λ t. subst (λ (v : Grove). IsTree v c.args.tree) c.self.view_is (tree-is f o ids c.args.tree (subst (λ (k : ℕ). IsBelow (count_with o k) c.args.tree.number) n (c.is_known.ensures.0 t))),
      λ h. c.is_known.ensures.1 (subst (λ (k : ℕ). IsBelow (count_with o k) c.args.tree.number) (sym n) (tree-seen _ f o ids c.args.tree c.self.view_is h)),
    )
