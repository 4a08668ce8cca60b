use Rattle.std.proofs.Common.{rules, ◌≡◌, ◌<◌, sym, ap, refl, ◌∙◌, length, arith}
use Rattle.std.proofs.lemmas.List.{length-append, take_at}
use Rattle.swh_forest.specs.Forest.{IsFolder}
use Rattle.swh_forest.specs.Arena.{tree_at}
use Rattle.swh_entries.specs.Keys.{texts}
use Rattle.swh_forest.proofs.Arenas.{tree-push_old, tree-push_new, arena-push, sound-push}
use Rattle.swh_forest.proofs.Steps.{not_bare}
use Rattle.swh_forest.proofs.Walks.{extends-none}
use Rattle.swh_forest.proofs.arena.seal.Goals as goal

pub returns-clause-arena : goal.returns-clause-arena
returns-clause-arena c = λ names good own. rw c.in_ok-push.ensures.items (arena-push names c.args.nodes.now.items c.args.out good own)

pub returns-clause-grows : goal.returns-clause-grows
returns-clause-grows c = λ names. rw c.in_ok-push.ensures.items (record {
  names_more = extends-none names;
  longer = simp length-append (omega arith);
  trees = λ i lt. tree-push_old names c.args.nodes.now.items c.args.out i lt;
  lists = take_at c.args.nodes.now.items _ (length c.args.nodes.now.items) refl;
})

pub returns-clause-folder : goal.returns-clause-folder
returns-clause-folder c = λ names.
    let at = tree_at names c.args.nodes.now.items in
    let n : c.len-number.result ≡ length c.args.nodes.now.items = search rules in
    let some : 0 < length c.args.out.items = search rules in
    rw (c.in_ok-push.ensures.items, n) (ap IsFolder (tree-push_new names c.args.nodes.now.items c.args.out) ∙ sym (not_bare (texts names) at c.args.out.items some))

pub returns-clause-sound : goal.returns-clause-sound
returns-clause-sound c = λ names sound own. rw c.in_ok-push.ensures.items (sound-push names c.args.nodes.now.items c.args.out sound own)
