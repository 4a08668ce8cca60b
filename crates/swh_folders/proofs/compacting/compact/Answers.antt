use Rattle.std.proofs.Common.{◌≡◌, ◌+◌, ◌-◌, ◌<◌, ◌≤◌, ◌++◌, List, length, take, get_or, true, ap, ◌∙◌, arith}
use Rattle.std.proofs.lemmas.List.{length-append, length-take, length-take-le, drop_all, drop_at, get_or_default}
use Rattle.swh_entries.specs.Listed.{Listed}
use Rattle.swh_forest.specs.Forest.{IsFolder}
use Rattle.swh_forest.specs.Arena.{tree_at}
use Rattle.swh_folders.specs.Live.{is_live}
use Rattle.swh_folders.proofs.Copies.{good-take, tree-take, tree-take-append, copied-good}
use Rattle.swh_folders.proofs.compacting.compact.Goals as goal

pub returns-then-root-base-clause-good : goal.returns-then-root-base-clause-good
returns-then-root-base-clause-good c = λ names g. rw c.truncate.ensures.items (good-take names c.args.nodes.now.items c.args.base c.requires.base g)

pub returns-then-root-base-clause-stay : goal.returns-then-root-base-clause-stay
returns-then-root-base-clause-stay c = λ names j arena lt. rw c.truncate.ensures.items (tree-take names c.args.nodes.now.items c.args.base j c.requires.base lt)

pub returns-then-root-base-clause-same : goal.returns-then-root-base-clause-same
returns-then-root-base-clause-same c = λ names g. rw c.truncate.ensures.items (simp length-take (omega arith), tree-take names c.args.nodes.now.items c.args.base c.args.root c.requires.base c.if-root-base.true)

pub returns-in_err-append-clause-good : goal.returns-in_err-append-clause-good
returns-in_err-append-clause-good c = λ names g. rw (c.in_err-append.ensures.items, c.truncate-2.ensures.items) (good-take names c.args.nodes.now.items c.args.base c.requires.base g)

pub returns-in_err-append-clause-stay : goal.returns-in_err-append-clause-stay
returns-in_err-append-clause-stay c = λ names j arena lt. rw (c.in_err-append.ensures.items, c.truncate-2.ensures.items) (tree-take names c.args.nodes.now.items c.args.base j c.requires.base lt)

-- the folders that were copied
copied : goal.returns-clause-good
copied c = λ names g.
    let nodes = c.args.nodes.now.items in
    let x = IsFolder (tree_at names nodes c.args.root) in
    let value = c.as_slice.ensures.value in
    let live = c.in_ok-live.live.items in
    let closed = rw value at c.in_ok-live.ensures.closed in
    let parts = rw value at c.in_ok-live.ensures.parts in
    let moved = rw (c.as_slice-2.ensures.value, c.as_slice-3.ensures.value) at c.in_ok-fresh.ensures.copied in
    let done = moved names x g.arena closed (parts names g.arena g.sound) in
    rw (c.in_ok-append.ensures.items, c.truncate-2.ensures.items) (copied-good names nodes c.args.base live x c.in_ok-fresh.fresh.items c.in_ok-fresh.moved.items c.requires.base g (g.sound c.args.root c.requires.root) done)

pub returns-clause-good : goal.returns-clause-good
returns-clause-good c = copied c

pub returns-clause-stay : goal.returns-clause-stay
returns-clause-stay c = λ names j arena lt.
    let nodes = c.args.nodes.now.items in
    let gone = tree-take names nodes c.args.base j c.requires.base lt in
    rw (c.in_ok-append.ensures.items, c.truncate-2.ensures.items) (tree-take-append names (take c.args.base nodes) c.in_ok-fresh.fresh.items j (simp length-take (omega arith)) ∙ gone)

pub returns-clause-same : goal.returns-clause-same
returns-clause-same c = λ names g.
    let nodes = c.args.nodes.now.items in
    let base = c.args.base in
    let x = IsFolder (tree_at names nodes c.args.root) in
    let value = c.as_slice.ensures.value in
    let closed = rw value at c.in_ok-live.ensures.closed in
    let parts = rw value at c.in_ok-live.ensures.parts in
    let moved = rw (c.as_slice-2.ensures.value, c.as_slice-3.ensures.value) at c.in_ok-fresh.ensures.copied in
    let done = moved names x g.arena closed (parts names g.arena g.sound) in
    let long = c.in_ok-live.ensures.as_long in
    let next = rw c.as_slice-3.ensures.value at c.in_ok-fresh.ensures.next in
    let le : c.args.base ≤ c.args.root = omega arith in
    let inside : c.args.root - c.args.base < length c.in_ok-fresh.moved.items = let l = rw value at long in let r = c.requires.root in omega arith in
    let back : c.args.base + (c.args.root - c.args.base) ≡ c.args.root = omega arith in
    let own : c.index-there.result.now ≡ get_or c.in_ok-fresh.moved.items (c.args.root - c.args.base) 0 = c.index-there.ensures ∙ get_or_default c.in_ok-fresh.moved.items (c.args.root - c.args.base) _ 0 inside in
    let lives : is_live base c.in_ok-live.live.items (c.args.base + (c.args.root - c.args.base)) ≡ true = rw back c.in_ok-live.ensures.root in
    let low = done.moves.inside (c.args.root - c.args.base) inside lives in
    let high = done.moves.high (c.args.root - c.args.base) inside lives ∙ ap (tree_at names nodes) back in
    let r = c.requires.base in
    rw (c.in_ok-append.ensures.items, c.truncate-2.ensures.items, own) (simp (length-append, length-take) (omega arith), high)

pub returns-clause-parts : goal.returns-clause-parts
returns-clause-parts c = λ names g m le lt.
    let nodes = c.args.nodes.now.items in
    let x = IsFolder (tree_at names nodes c.args.root) in
    let value = c.as_slice.ensures.value in
    let closed = rw value at c.in_ok-live.ensures.closed in
    let parts = rw value at c.in_ok-live.ensures.parts in
    let moved = rw (c.as_slice-2.ensures.value, c.as_slice-3.ensures.value) at c.in_ok-fresh.ensures.copied in
    let done = moved names x g.arena closed (parts names g.arena g.sound) in
    let r = c.requires.base in
    let all : c.append.new.self.items ≡ take c.args.base c.args.nodes.now.items ++ c.in_ok-fresh.fresh.items = c.in_ok-append.ensures.items ∙ ap (λ (o : List Listed). o ++ c.in_ok-fresh.fresh.items) c.truncate-2.ensures.items in
    let size : length c.append.new.self.items ≡ c.args.base + length c.in_ok-fresh.fresh.items = rw all (simp (length-append, length-take) (omega arith)) in
    rw all (done.parts m le (omega arith))

pub returns-then-root-base-clause-whole : goal.returns-then-root-base-clause-whole
returns-then-root-base-clause-whole c =
    let long = length-take-le c.args.base c.args.nodes.now.items c.requires.base in
    rw (c.truncate.ensures.items, drop_all c.args.base (take c.args.base c.args.nodes.now.items) (omega arith)) (λ k d lt. absurd (omega arith))

pub returns-clause-whole : goal.returns-clause-whole
returns-clause-whole c =
    let low = take c.args.base c.args.nodes.now.items in
    let long = length-take-le c.args.base c.args.nodes.now.items c.requires.base in
    let all : c.append.new.self.items ≡ take c.args.base c.args.nodes.now.items ++ c.in_ok-fresh.fresh.items = c.in_ok-append.ensures.items ∙ ap (λ (o : List Listed). o ++ c.in_ok-fresh.fresh.items) c.truncate-2.ensures.items in
    rw (all, drop_at low c.in_ok-fresh.fresh.items c.args.base long) c.in_ok-fresh.ensures.whole
