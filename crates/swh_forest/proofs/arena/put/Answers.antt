use Rattle.std.proofs.Common.{ap, sym, subst, ◌∙◌, length, arith}
use Rattle.std.proofs.lemmas.List.{take_all}
use Rattle.swh_forest.specs.Forest.{put, folder, forest}
use Rattle.swh_forest.specs.Sound.{IsSound, IsSoundHere}
use Rattle.swh_forest.specs.Arena.{stands_of, tree_at}
use Rattle.swh_entries.specs.Keys.{texts}
use Rattle.swh_forest.proofs.Arenas.{if_ok, tree-names, arena-names, sound-names, under-sound, put-added, names-in_range}
use Rattle.swh_forest.proofs.Ordering.{left-ordered}
use Rattle.swh_forest.proofs.Sounds.{put-sound, folder-sound}
use Rattle.swh_forest.proofs.Keeping.{among-left}
use Rattle.swh_forest.specs.Kept.{named}
use Rattle.swh_forest.proofs.arena.put.Goals as goal

pub returns-in_err-out-clause-good : goal.returns-in_err-out-clause-good
returns-in_err-out-clause-good c = record {
  arena = arena-names c.args.names.now.items c.add_some.new.names.items c.args.nodes.now.items c.requires.good.arena c.add_some.ensures.names;
  sound = sound-names c.args.names.now.items c.add_some.new.names.items c.args.nodes.now.items c.requires.good.arena c.add_some.ensures.names c.requires.good.sound;
}

pub returns-in_err-out-clause-grows : goal.returns-in_err-out-clause-grows
returns-in_err-out-clause-grows c = record {
  names_more = c.add_some.ensures.names;
  longer = omega arith;
  trees = λ i lt. tree-names c.args.names.now.items c.add_some.new.names.items c.args.nodes.now.items c.requires.good.arena c.add_some.ensures.names i;
  lists = take_all (length c.args.nodes.now.items) c.args.nodes.now.items (omega arith);
}

pub add_some-requires-clause-others : goal.add_some-requires-clause-others
add_some-requires-clause-others c =
    let kept = rw (c.as_slice.ensures.value, c.as_slice-2.ensures.value) at c.in_ok-rest.ensures.good in
    names-in_range (length c.args.names.now.items) (length c.args.nodes.now.items) c.in_ok-rest.rest.items kept

pub add_some-requires-clause-ordered : goal.add_some-requires-clause-ordered
add_some-requires-clause-ordered c =
    let names = c.args.names.now.items in
    let nodes = c.args.nodes.now.items in
    let cleared = rw (c.as_slice.ensures.value, c.as_slice-2.ensures.value) at c.in_ok-rest.ensures.forest in
    left-ordered (texts names) (tree_at names nodes) c.in_ok-rest.rest.items c.args.name.now (forest (stands_of (tree_at names nodes) c.args.under)) (under-sound names nodes c.args.under c.requires.good.sound c.requires.under) cleared

pub returns-clause-good : goal.returns-clause-good
returns-clause-good c =
    let old = c.args.names.now.items in
    let new = c.add_some.new.names.items in
    let nodes = c.args.nodes.now.items in
    let kept = rw (c.as_slice.ensures.value, c.as_slice-2.ensures.value) at c.in_ok-rest.ensures.good in
    let cleared = rw (c.as_slice.ensures.value, c.as_slice-2.ensures.value) at c.in_ok-rest.ensures.forest in
    let more = c.add_some.ensures.names in
    let arena = arena-names old new nodes c.requires.good.arena more in
    let out = c.in_ok-out.ensures.good (length nodes) kept c.requires.child in
    let added = put-added old new nodes c.args.child (forest (stands_of (tree_at old nodes) c.args.under)) c.args.name.now c.in_ok-rest.rest.items c.in_ok-out.out.items c.requires.good.arena more c.requires.child kept (c.in_ok-out.ensures.forest (tree_at new nodes) (length nodes) kept) cleared in
    record {
      arena = c.seal.ensures.arena new arena out;
      sound = c.seal.ensures.sound new (sound-names old new nodes c.requires.good.arena more c.requires.good.sound) (subst IsSound (sym added)
          (put-sound c.args.name.now (stands_of (tree_at old nodes) c.args.child) (forest (stands_of (tree_at old nodes) c.args.under)) c.requires.name c.requires.sound (under-sound old nodes c.args.under c.requires.good.sound c.requires.under)));
    }

pub returns-clause-grows : goal.returns-clause-grows
returns-clause-grows c =
    let g = c.seal.ensures.grows c.add_some.new.names.items in record {
      names_more = c.add_some.ensures.names;
      longer = g.longer;
      trees = λ i lt. g.trees i lt ∙ tree-names c.args.names.now.items c.add_some.new.names.items c.args.nodes.now.items c.requires.good.arena c.add_some.ensures.names i;
      lists = g.lists;
    }

pub returns-clause-put : goal.returns-clause-put
returns-clause-put c =
    let old = c.args.names.now.items in
    let new = c.add_some.new.names.items in
    let nodes = c.args.nodes.now.items in
    let kept = rw (c.as_slice.ensures.value, c.as_slice-2.ensures.value) at c.in_ok-rest.ensures.good in
    let cleared = rw (c.as_slice.ensures.value, c.as_slice-2.ensures.value) at c.in_ok-rest.ensures.forest in
    let more = c.add_some.ensures.names in
    let added = put-added old new nodes c.args.child (forest (stands_of (tree_at old nodes) c.args.under)) c.args.name.now c.in_ok-rest.rest.items c.in_ok-out.out.items c.requires.good.arena more c.requires.child kept (c.in_ok-out.ensures.forest (tree_at new nodes) (length nodes) kept) cleared in
    if_ok c.seal.result (λ r e. e ∙ ap folder added) (c.seal.ensures.folder new)

pub returns-clause-sound : goal.returns-clause-sound
returns-clause-sound c =
    let old = c.args.names.now.items in
    let new = c.add_some.new.names.items in
    let nodes = c.args.nodes.now.items in
    let kept = rw (c.as_slice.ensures.value, c.as_slice-2.ensures.value) at c.in_ok-rest.ensures.good in
    let cleared = rw (c.as_slice.ensures.value, c.as_slice-2.ensures.value) at c.in_ok-rest.ensures.forest in
    let more = c.add_some.ensures.names in
    let added = put-added old new nodes c.args.child (forest (stands_of (tree_at old nodes) c.args.under)) c.args.name.now c.in_ok-rest.rest.items c.in_ok-out.out.items c.requires.good.arena more c.requires.child kept (c.in_ok-out.ensures.forest (tree_at new nodes) (length nodes) kept) cleared in
    let whole : IsSound (put c.args.name.now (stands_of (tree_at old nodes) c.args.child) (forest (stands_of (tree_at old nodes) c.args.under))) =
    put-sound c.args.name.now (stands_of (tree_at old nodes) c.args.child) (forest (stands_of (tree_at old nodes) c.args.under)) c.requires.name c.requires.sound (under-sound old nodes c.args.under c.requires.good.sound c.requires.under) in
    if_ok c.seal.result (λ r e. subst IsSoundHere (sym (e ∙ ap folder added)) (folder-sound (put c.args.name.now (stands_of (tree_at old nodes) c.args.child) (forest (stands_of (tree_at old nodes) c.args.under))) whole)) (c.seal.ensures.folder new)

pub returns-in_err-rest-clause-kept : goal.returns-in_err-rest-clause-kept
returns-in_err-rest-clause-kept c = among-left (texts c.args.names.now.items) (named c.args.name.now c.args.child)
