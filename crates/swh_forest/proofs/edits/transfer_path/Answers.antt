use Rattle.std.proofs.Common.{length, sym, ap, subst, ◌∙◌, Some, ◌++◌}
use Rattle.swh_forest.specs.Arena.{stands_of, tree_at, IsIn}
use Rattle.swh_forest.specs.Forest.{Stands, found, graft}
use Rattle.swh_forest.specs.Sound.{IsSoundHere}
use Rattle.swh_fastlex.specs.Path.{components}
use Rattle.swh_forest.proofs.Arenas.{same-stands_of}
use Rattle.swh_forest.proofs.Components.{path-names}
use Rattle.swh_forest.proofs.EditedRoots.{from-root, to-root, here-sound, found-path, held-none, held-some, transfer-done, some-stands}
use Rattle.swh_forest.proofs.Keeping.{among-left, kept-wider, kept-then}
use Rattle.swh_entries.specs.Keys.{texts}
use Rattle.swh_forest.proofs.edits.transfer_path.Goals as goal

pub find-requires-clause-root : goal.find-requires-clause-root
find-requires-clause-root c = rw c.as_slice-2.ensures.value (c.root_of-here.ensures.inside (length c.args.nodes.now.items) c.requires.root)

pub returns-in_default-clause-none : goal.returns-in_default-clause-none
returns-in_default-clause-none c =
    let names = c.args.names.now.items in
    let nodes = c.args.nodes.now.items in
    let none = rw (c.as_slice.ensures.value, c.as_slice-2.ensures.value, c.as_slice-3.ensures.value, c.in_ok-from.ensures) at c.in_default.ensures.found in
    held-none c.args.source.now (stands_of (tree_at names nodes) c.root_of-here.result) _
    (here-sound names nodes c.args.root c.root_of-here.result c.requires.good c.requires.root c.root_of-here.ensures.same)
    (from-root names nodes c.args.root c.root_of-here.result c.root_of-here.ensures.same)
    (sym none)

pub returns-clause-some : goal.returns-clause-some
returns-clause-some c =
    let names = c.args.names.now.items in
    let nodes = c.args.nodes.now.items in
    let some = rw (c.as_slice.ensures.value, c.as_slice-2.ensures.value, c.as_slice-3.ensures.value, c.in_ok-from.ensures) at c.in-Some.ensures.found in
    held-some c.args.source.now (stands_of (tree_at names nodes) c.root_of-here.result) _
    (here-sound names nodes c.args.root c.root_of-here.result c.requires.good c.requires.root c.root_of-here.ensures.same)
    (from-root names nodes c.args.root c.root_of-here.result c.root_of-here.ensures.same)
    (λ e. some-stands (tree_at names nodes) c.in-Some.child (some ∙ e))

pub left_of-requires-clause-here : goal.left_of-requires-clause-here
left_of-requires-clause-here c = c.root_of-here.ensures.inside (length c.args.nodes.now.items) c.requires.root

pub left_of-requires-clause-source : goal.left_of-requires-clause-source
left_of-requires-clause-source c = rw (c.as_slice-4.ensures.value, c.in_ok-from.ensures) (path-names c.args.source.now c.requires.source)

pub graft-requires-clause-path : goal.graft-requires-clause-path
graft-requires-clause-path c = rw (c.as_slice-5.ensures.value, c.in_ok-to.ensures) (path-names c.args.target.now c.requires.target)

-- what the source holds stays as it was
graft-child : goal.graft-requires-clause-sound
graft-child c =
    let names = c.args.names.now.items in
    let nodes = c.args.nodes.now.items in
    let some = rw (c.as_slice.ensures.value, c.as_slice-2.ensures.value, c.as_slice-3.ensures.value, c.in_ok-from.ensures) at c.in-Some.ensures.found in
    let inside : IsIn (length c.args.nodes.now.items) (Some c.in-Some.child) = rw c.as_slice-2.ensures.value at c.in-Some.ensures.inside in
    let same = same-stands_of (tree_at c.left_of.new.names.items c.left_of.new.nodes.items) (tree_at names nodes) (length nodes) (Some c.in-Some.child) inside (λ j lt. c.left_of.ensures.grows.trees j lt) in
    subst IsSoundHere (sym (same ∙ some)) (found-path c.args.source.now (stands_of (tree_at names nodes) c.root_of-here.result)
    (here-sound names nodes c.args.root c.root_of-here.result c.requires.good c.requires.root c.root_of-here.ensures.same))

pub graft-requires-clause-sound : goal.graft-requires-clause-sound
graft-requires-clause-sound c = graft-child c

pub returns-clause-inside : goal.returns-clause-inside
returns-clause-inside c = c.number_of.ensures.inside (length c.graft.new.nodes.items) c.in_ok-there.ensures.inside

pub returns-clause-map : goal.returns-clause-map
returns-clause-map c =
    let names = c.args.names.now.items in
    let nodes = c.args.nodes.now.items in
    let y = stands_of (tree_at names nodes) c.root_of-here.result in
    let t = components c.args.target.now in
    let some = rw (c.as_slice.ensures.value, c.as_slice-2.ensures.value, c.as_slice-3.ensures.value, c.in_ok-from.ensures) at c.in-Some.ensures.found in
    let inside : IsIn (length c.args.nodes.now.items) (Some c.in-Some.child) = rw c.as_slice-2.ensures.value at c.in-Some.ensures.inside in
    let same = same-stands_of (tree_at c.left_of.new.names.items c.left_of.new.nodes.items) (tree_at names nodes) (length nodes) (Some c.in-Some.child) inside (λ j lt. c.left_of.ensures.grows.trees j lt) in
    transfer-done c.args.way c.args.source.now c.args.target.now y (stands_of (tree_at c.graft.new.names.items c.graft.new.nodes.items) c.in_ok-there.there) _ _ c.requires.source c.requires.target
    (here-sound names nodes c.args.root c.root_of-here.result c.requires.good c.requires.root c.root_of-here.ensures.same)
    (from-root names nodes c.args.root c.root_of-here.result c.root_of-here.ensures.same)
    (to-root c.graft.new.names.items c.graft.new.nodes.items c.number_of.result c.in_ok-there.there c.number_of.ensures.same)
    (λ e. some-stands (tree_at names nodes) c.in-Some.child (some ∙ e))
    ((rw (c.as_slice-5.ensures.value, c.in_ok-to.ensures) at c.in_ok-there.ensures.graft)
    ∙ ap (λ (x : Stands). graft t x (stands_of (tree_at c.left_of.new.names.items c.left_of.new.nodes.items) c.in_ok-left.left)) (same ∙ some)
    ∙ ap (λ (z : Stands). graft t (found (components c.args.source.now) y) z) (rw (c.as_slice-4.ensures.value, c.in_ok-from.ensures) at c.in_ok-left.ensures.left))

pub returns-in_err-from-clause-kept : goal.returns-in_err-from-clause-kept
returns-in_err-from-clause-kept c = among-left (texts c.args.names.now.items) (components c.args.source.now ++ components c.args.target.now)

pub returns-in_err-to-clause-kept : goal.returns-in_err-to-clause-kept
returns-in_err-to-clause-kept c = among-left (texts c.args.names.now.items) (components c.args.source.now ++ components c.args.target.now)

pub returns-in_default-clause-kept : goal.returns-in_default-clause-kept
returns-in_default-clause-kept c = among-left (texts c.args.names.now.items) (components c.args.source.now ++ components c.args.target.now)

pub returns-in_err-left-clause-kept : goal.returns-in_err-left-clause-kept
returns-in_err-left-clause-kept c = kept-wider (texts c.args.names.now.items) (texts c.left_of.new.names.items) (components c.args.source.now) (components c.args.source.now ++ components c.args.target.now) (rw (c.as_slice-4.ensures.value, c.in_ok-from.ensures) at c.left_of.ensures.kept) (among-left (components c.args.source.now) (components c.args.target.now))

pub returns-in_err-there-clause-kept : goal.returns-in_err-there-clause-kept
returns-in_err-there-clause-kept c = kept-then (texts c.args.names.now.items) (texts c.left_of.new.names.items) (texts c.graft.new.names.items) (components c.args.source.now) (components c.args.target.now) (rw (c.as_slice-4.ensures.value, c.in_ok-from.ensures) at c.left_of.ensures.kept) (rw (c.as_slice-5.ensures.value, c.in_ok-to.ensures) at c.graft.ensures.kept)

pub returns-clause-kept : goal.returns-clause-kept
returns-clause-kept c = kept-then (texts c.args.names.now.items) (texts c.left_of.new.names.items) (texts c.graft.new.names.items) (components c.args.source.now) (components c.args.target.now) (rw (c.as_slice-4.ensures.value, c.in_ok-from.ensures) at c.left_of.ensures.kept) (rw (c.as_slice-5.ensures.value, c.in_ok-to.ensures) at c.graft.ensures.kept)
