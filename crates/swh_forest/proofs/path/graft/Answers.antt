use Rattle.std.proofs.Common.{rules, List, ◌≡◌, ◌+◌, ◌-◌, ◌<◌, ℕ, take, drop, length, get_or, [], sym, ap, subst, ◌∙◌, arith, None}
use Rattle.std.proofs.lemmas.List.{get_or_default, drop_all}
use Rattle.std.proofs.lemmas.List.Elements.{All-from_recursion}
use Rattle.swh_base.specs.Directory.{IsEntryName}
use Rattle.swh_forest.specs.Forest.{found, graft}
use Rattle.swh_forest.specs.Arena.{stands_of, tree_at, parts_of, AreFronts}
use Rattle.swh_forest.proofs.Arenas.{same-stands_of}
use Rattle.swh_forest.proofs.Walks.{graft-more, component-at, length-parts_of, put-along, grows-more, grows-none}
use Rattle.swh_entries.specs.Keys.{texts}
use Rattle.swh_forest.proofs.Keeping.{among-left, kept-on, kept-wider, named-among, component-among}
use Rattle.swh_forest.proofs.path.graft.Goals as goal

pub up-preserved : goal.up-preserved
up-preserved c =
    let comps = parts_of c.args.path.now in
    let j = c.up.left - 1 in
    let n = length c.args.nodes.now.items in
    let old = tree_at c.args.names.now.items c.args.nodes.now.items in
    let now = tree_at c.up.names.items c.up.nodes.items in
    let x = stands_of old c.args.child in
    let y = stands_of old c.args.root in
    let fronts = c.in_ok-fronts.fronts.items in
    let are : AreFronts old n c.args.root comps fronts = rw (c.as_slice.ensures.value, c.as_slice-2.ensures.value) at c.in_ok-fronts.ensures in
    let within : c.up.left - 1 < length c.args.path.now = let w = c.up.invariant.within in omega arith in
    let among : c.up.left - 1 < length comps = rw (length-parts_of c.args.path.now) within in
    let long : length fronts ≡ length comps = are.as_long in
    let lt : c.up.left - 1 < length fronts = rw long among in
    let own : c.index.result.now ≡ get_or fronts j None = c.index.ensures ∙ get_or_default fronts j _ None lt in
    let front : stands_of now c.index.result.now ≡ found (take j comps) y =
    ap (stands_of now) own
    ∙ same-stands_of now old n (get_or fronts j None) (are.inside j None lt) (λ i l. c.up.invariant.grows.trees i l)
    ∙ are.found_there j lt in
    let is : c.up.left ≡ c.up.left - 1 + 1 = omega arith in
    let F : ℕ → Type 0 = λ k. stands_of now c.up.here ≡ graft (drop k comps) x (found (take k comps) y) in
    let before : stands_of now c.up.here ≡ graft (drop (j + 1) comps) x (found (take (j + 1) comps) y) = subst F is c.up.invariant.grafted in
    record {
      within = omega arith;
      good = c.put.ensures.good;
      sound = c.in_ok-here.ensures.sound;
      grows = grows-more c.args.names.now.items c.up.names.items c.put.new.names.items c.args.nodes.now.items c.up.nodes.items c.put.new.nodes.items c.up.invariant.grows c.put.ensures.grows;
      kept = kept-on (texts c.args.names.now.items) (texts c.up.names.items) (texts c.put.new.names.items) comps c.up.invariant.kept
          (kept-wider (texts c.up.names.items) (texts c.put.new.names.items) _ comps c.put.ensures.kept (named-among _ c.up.here comps (component-among c.args.path.now j _ within)));
      inside = c.in_ok-here.ensures.inside;
      grafted = c.in_ok-here.ensures.put
          ∙ put-along _ (get_or comps j []) (stands_of now c.up.here) (graft (drop (j + 1) comps) x (found (take (j + 1) comps) y)) (stands_of now c.index.result.now) (found (take j comps) y) (sym (component-at c.args.path.now j _ within)) before front
          ∙ sym (graft-more comps j x y among);
    }

pub put-requires-clause-name : goal.put-requires-clause-name
put-requires-clause-name c =
    let within : c.up.left - 1 < length c.args.path.now = let w = c.up.invariant.within in omega arith in
    let among : c.up.left - 1 < length (parts_of c.args.path.now) = rw (length-parts_of c.args.path.now) within in
    subst IsEntryName (component-at c.args.path.now (c.up.left - 1) _ within) (All-from_recursion IsEntryName (parts_of c.args.path.now) c.requires.path (c.up.left - 1) [] among)

pub returns-in_err-fronts-clause-kept : goal.returns-in_err-fronts-clause-kept
returns-in_err-fronts-clause-kept c = among-left (texts c.args.names.now.items) (parts_of c.args.path.now)

pub returns-in_err-here-clause-kept : goal.returns-in_err-here-clause-kept
returns-in_err-here-clause-kept c =
    let comps = parts_of c.args.path.now in
    let within : c.up.left - 1 < length c.args.path.now = let w = c.up.invariant.within in omega arith in
    kept-on (texts c.args.names.now.items) (texts c.up.names.items) (texts c.put.new.names.items) comps c.up.invariant.kept
    (kept-wider (texts c.up.names.items) (texts c.put.new.names.items) _ comps c.put.ensures.kept (named-among _ c.up.here comps (component-among c.args.path.now (c.up.left - 1) _ within)))

pub up-init : goal.up-init
up-init c =
    let names = c.args.names.now.items in
    let nodes = c.args.nodes.now.items in
    let comps = parts_of c.args.path.now in
    let x = stands_of (tree_at names nodes) c.args.child in
    let y = found (take (length c.args.path.now) comps) (stands_of (tree_at names nodes) c.args.root) in
    let none : drop (length c.args.path.now) comps ≡ [] = drop_all (length c.args.path.now) comps (omega (arith, length-parts_of c.args.path.now)) in
    record {
      within = search rules;
      good = c.requires.good;
      sound = c.requires.sound;
      grows = grows-none names nodes;
      kept = among-left (texts names) comps;
      inside = c.requires.child;
      grafted = sym (ap (λ (p : List (List ℕ)). graft p x y) none);
    }
