use Rattle.std.proofs.Common.{rules, ◌≡◌, ◌+◌, ◌≤◌, ◌++◌, ℕ, length, take, get_or, true, sym, ap, subst, ◌∙◌, arith}
use Rattle.std.proofs.lemmas.List.Elements.{All-push}
use Rattle.swh_entries.specs.Listed.{Listed}
use Rattle.swh_forest.specs.Arena.{tree_at, forest_of, AreGood}
use Rattle.swh_entries.specs.Keys.{texts}
use Rattle.swh_folders.specs.Live.{AreMarked}
use Rattle.swh_forest.proofs.Arenas.{tree-node, entries-good}
use Rattle.swh_folders.proofs.Copies.{copied-more, copied-known, known-tree}
use Rattle.swh_folders.proofs.compacting.move_one.Goals as goal

pub returns-clause-copied : goal.returns-clause-copied
returns-clause-copied c = λ names live x arena is closed part copied.
    let base = c.args.base in
    let nodes = c.args.nodes.now in
    let fresh = c.args.fresh.now.items in
    let moved = c.args.moved.now.items in
    let at = tree_at names nodes in
    let at' = tree_at names (take base nodes ++ fresh) in
    let bound = base + length fresh in
    let own = c.index-nodes-number.result in
    let yes : c.args.wanted ≡ true = search rules in
    let n : c.len.result ≡ length c.args.moved.now.items = search rules in
    let place : c.args.base + c.len-2.result ≡ c.args.base + length fresh = let l : c.len-2.result ≡ length c.args.fresh.now.items = search rules in ap (λ (k : ℕ). c.args.base + k) l in
    let within = c.requires.within in
    let own_is : c.index-nodes-number.result ≡ get_or nodes (base + length moved) c.index-nodes-number.result = c.index-nodes-number.is ∙ ap (λ (k : ℕ). get_or nodes (base + k) own) n in
    let marked : AreMarked base live own.items (length own.items) = subst (λ (u : Listed). AreMarked base live u.items (length u.items)) (sym own_is) (closed (base + length moved) own (omega arith) within (is ∙ yes)) in
    let marked' : AreMarked base live c.as_slice.result.now (length c.as_slice.result.now) = rw (c.as_slice.ensures.value, c.in_ok-old.ensures) marked in
    let mv = rw (← c.as_slice-2.ensures.value) at copied.moves in
    let good' : AreGood (length names) (length nodes) c.as_slice.result.now = rw (c.as_slice.ensures.value, c.in_ok-old.ensures) (entries-good names nodes (base + length moved) own arena within own_is) in
    let v-good = c.in_ok-entries.ensures.good at at' bound (length names) (length nodes) live mv marked' good' in
    let v-same = c.in_ok-entries.ensures.same (texts names) at at' bound live mv marked' in
    let tree : forest_of (texts names) at' c.in_ok-entries.entries.items ≡ tree_at names nodes (base + length moved) =
    v-same ∙ ap (forest_of (texts names) at) (c.as_slice.ensures.value ∙ c.in_ok-old.ensures) ∙ sym (tree-node names nodes (base + length moved) own arena within own_is) in
    let same : c.in_ok-packed.packed.items ≡ c.in_ok-entries.entries.items = c.in_ok-packed.ensures.items ∙ c.as_slice-4.ensures.value in
    let p-good : AreGood (length names) bound c.in_ok-packed.packed.items = rw same v-good in
    let p-tree : forest_of (texts names) at' c.in_ok-packed.packed.items ≡ tree_at names nodes (base + length moved) = rw same tree in
    let bounded : c.args.base ≤ length c.args.nodes.now = omega arith in
    let done = copied-more names nodes base live x fresh moved c.in_ok-packed.packed copied bounded p-good p-tree (part yes) in
    rw (c.in_ok-push-3.ensures.items, c.in_ok-push-4.ensures.items, place) done

pub returns-in-Some-clause-copied : goal.returns-in-Some-clause-copied
returns-in-Some-clause-copied c = λ names live x arena is closed part copied.
    let base = c.args.base in
    let nodes = c.args.nodes.now in
    let fresh = c.args.fresh.now.items in
    let moved = c.args.moved.now.items in
    let at = tree_at names nodes in
    let at' = tree_at names (take base nodes ++ fresh) in
    let bound = base + length fresh in
    let own = c.index-nodes-number.result in
    let yes : c.args.wanted ≡ true = search rules in
    let n : c.len.result ≡ length c.args.moved.now.items = search rules in
    let within = c.requires.within in
    let own_is : c.index-nodes-number.result ≡ get_or nodes (base + length moved) c.index-nodes-number.result = c.index-nodes-number.is ∙ ap (λ (k : ℕ). get_or nodes (base + k) own) n in
    let marked : AreMarked base live own.items (length own.items) = subst (λ (u : Listed). AreMarked base live u.items (length u.items)) (sym own_is) (closed (base + length moved) own (omega arith) within (is ∙ yes)) in
    let marked' : AreMarked base live c.as_slice.result.now (length c.as_slice.result.now) = rw (c.as_slice.ensures.value, c.in_ok-old.ensures) marked in
    let mv = rw (← c.as_slice-2.ensures.value) at copied.moves in
    let v-same = c.in_ok-entries.ensures.same (texts names) at at' bound live mv marked' in
    let tree : forest_of (texts names) at' c.in_ok-entries.entries.items ≡ tree_at names nodes (base + length moved) =
    v-same ∙ ap (forest_of (texts names) at) (c.as_slice.ensures.value ∙ c.in_ok-old.ensures) ∙ sym (tree-node names nodes (base + length moved) own arena within own_is) in
    let bounded : c.args.base ≤ length c.args.nodes.now = omega arith in
    let there = λ (w : Listed). c.in-Some.ensures.same w ∙ c.as_slice-3.ensures.value in
    let same = known-tree names nodes fresh base c.in-Some.place c.in_ok-entries.entries.items (tree_at names nodes (base + length moved)) arena bounded c.in-Some.ensures.below copied.moves.low there tree in
    rw c.in_ok-push-2.ensures.items (copied-known names nodes base live x fresh moved c.in-Some.place c.in-Some.ensures.below same copied)

pub returns-clause-whole : goal.returns-clause-whole
returns-clause-whole c = λ all. rw c.in_ok-push-3.ensures.items (All-push (λ (l : Listed). l.cost ≡ length l.items) c.args.fresh.now.items c.in_ok-packed.packed all (c.in_ok-packed.ensures.cost ∙ ap length (sym c.in_ok-packed.ensures.items)))
