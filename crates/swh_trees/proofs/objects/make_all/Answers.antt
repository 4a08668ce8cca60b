use Rattle.std.proofs.Common.{rules, ◌≡◌, ◌+◌, ◌<◌, ◌∷◌, [], ℕ, length, sym, ap, subst, ◌∙◌, arith}
use Rattle.std.proofs.lemmas.List.{length-append}
use Rattle.std.proofs.lemmas.Result.{err_from_is_err_and}
use Rattle.swh_forest.specs.Arena.{tree_at}
use Rattle.swh_trees.specs.Directory.{directory_id}
use Rattle.swh_trees.specs.Listing.{directory}
use Rattle.swh_trees.specs.Objects.{IsDirectoryObject}
use Rattle.swh_trees.proofs.Listings.{objects-push, goes-on, explains-one}
use Rattle.swh_trees.proofs.objects.make_all.Goals as goal

pub each-preserved : goal.each-preserved
each-preserved g c =
    let id = directory_id g.N.Namer.id_of in
    let inv = c.each.invariant in
    let o = c.in_ok-make_one.ensures.object in
    let next = c.in_ok-make_one.ensures.next in
    let each : length c.args.ids.now.items + length c.each.objects.items ≡ length c.each.ids.items = inv.each in
    let grown : length c.make_one.new.objects.items ≡ length c.each.objects.items + 1 = ap length o.added ∙ length-append c.each.objects.items (o.object ∷ []) in
    let entries_at = λ (n : ℕ). directory id (tree_at c.args.names.now c.args.nodes.now n) in
    record {
      front = goes-on c.args.ids.now.items c.each.ids.items c.make_one.new.ids.items inv.front c.make_one.ensures.front;
      within = let w : length c.each.ids.items < length c.args.nodes.now = search rules in omega arith;
      known = c.in_ok-make_one.ensures.known;
      each = omega arith;
      objects = rw o.added (objects-push g.N.Namer.id_of entries_at (length c.args.ids.now.items) c.each.objects.items o.object inv.objects (subst (λ (n : ℕ). IsDirectoryObject g.N.Namer.id_of (entries_at n) o.object) (sym each) o.is));
    }

pub returns-in_err-make_one-clause-front : goal.returns-in_err-make_one-clause-front
returns-in_err-make_one-clause-front g c = goes-on c.args.ids.now.items c.each.ids.items c.make_one.new.ids.items c.each.invariant.front c.make_one.ensures.front

pub returns-in_err-make_one-clause-err : goal.returns-in_err-make_one-clause-err
returns-in_err-make_one-clause-err g c =
    let id = directory_id g.N.Namer.id_of in
    let each = c.each.invariant.each in
    let below : length c.each.ids.items < length c.args.nodes.now = search rules in
    let p = err_from_is_err_and c.from_residual.result c.from_residual.ensures.1 in
    rw (p.1, p.2) (explains-one (λ (n : ℕ). directory id (tree_at c.args.names.now c.args.nodes.now n)) (length c.args.ids.now.items) (length c.args.nodes.now) (length c.each.ids.items) c.in_err-make_one.field-0.0 (omega arith) below c.in_err-make_one.ensures.err)
