use Rattle.std.proofs.Common.{◌≡◌, ap, sym, subst, ◌∙◌, List, length}
use Rattle.swh_entries.specs.declared.entry.Entry.{Entry}
use Rattle.swh_forest.specs.Arena.{stands_of, forest_of, tree_at, AreGood, entries_without}
use Rattle.swh_entries.specs.Keys.{texts}
use Rattle.swh_forest.specs.Sound.{IsSound}
use Rattle.swh_forest.proofs.Arenas.{names-in_range}
use Rattle.swh_folders.proofs.Closings.{edited-own}
use Rattle.swh_forest.proofs.Ordering.{left-ordered}
use Rattle.swh_forest.proofs.Orders.{ordered}
use Rattle.swh_forest.proofs.Sounds.{put-sound}
use Rattle.swh_forest.proofs.Steps.{forest-without, without-good}
use Rattle.swh_forest.proofs.Keeping.{among-left}
use Rattle.swh_forest.specs.Kept.{named}
use Rattle.swh_folders.proofs.opened.Opened.edited.Goals as goal

pub kept-requires-clause-ordered : goal.kept-requires-clause-ordered
kept-requires-clause-ordered c =
    let names = c.args.folders.now.names.items in
    let nodes = c.args.folders.now.nodes.items in
    rw c.as_slice.ensures.value (ordered (texts names) (tree_at names nodes) c.args.self.node.items c.requires.opened.sound)

pub add_some-requires-clause-others : goal.add_some-requires-clause-others
add_some-requires-clause-others c =
    let names = c.args.folders.now.names.items in
    let nodes = c.args.folders.now.nodes.items in
    let is : c.in_ok-rest.rest.items ≡ entries_without (texts names) c.args.name.now c.args.self.node.items = (rw c.as_slice.ensures.value at c.in_ok-rest.ensures) (tree_at names nodes) c.requires.opened.sound in
    names-in_range (length names) (length nodes) c.in_ok-rest.rest.items (subst (λ (es : List Entry). AreGood (length names) (length nodes) es) (sym is) (without-good (texts names) c.args.name.now (length names) (length nodes) c.args.self.node.items c.requires.opened.entries))

pub add_some-requires-clause-ordered : goal.add_some-requires-clause-ordered
add_some-requires-clause-ordered c =
    let names = c.args.folders.now.names.items in
    let nodes = c.args.folders.now.nodes.items in
    let is : c.in_ok-rest.rest.items ≡ entries_without (texts names) c.args.name.now c.args.self.node.items = (rw c.as_slice.ensures.value at c.in_ok-rest.ensures) (tree_at names nodes) c.requires.opened.sound in
    left-ordered (texts names) (tree_at names nodes) c.in_ok-rest.rest.items c.args.name.now (forest_of (texts names) (tree_at names nodes) c.args.self.node.items) c.requires.opened.sound (ap (forest_of (texts names) (tree_at names nodes)) is ∙ forest-without (texts names) c.args.name.now (tree_at names nodes) c.args.self.node.items)

pub returns-clause-opened : goal.returns-clause-opened
returns-clause-opened c =
    let names = c.args.folders.now.names.items in
    let nodes = c.args.folders.now.nodes.items in
    let new = c.add_some.new.names.items in
    let es = c.args.self.node.items in
    let is : c.in_ok-rest.rest.items ≡ entries_without (texts names) c.args.name.now es = (rw c.as_slice.ensures.value at c.in_ok-rest.ensures) (tree_at names nodes) c.requires.opened.sound in
    let kept : AreGood (length names) (length nodes) c.in_ok-rest.rest.items = subst (λ (r : List Entry). AreGood (length names) (length nodes) r) (sym is) (without-good (texts names) c.args.name.now (length names) (length nodes) es c.requires.opened.entries) in
    let own = edited-own names new nodes es c.args.name.now c.args.child c.in_ok-rest.rest.items c.in_ok-node.node.items c.requires.good c.add_some.ensures.names c.requires.opened.entries c.requires.child is (c.in_ok-node.ensures.forest (tree_at new nodes) (length nodes) kept) in
    record {
      root = c.requires.opened.root;
      path = c.requires.opened.path;
      entries = c.in_ok-node.ensures.good (length nodes) kept c.requires.child;
      sound = subst IsSound (sym own) (put-sound c.args.name.now (stands_of (tree_at names nodes) c.args.child) (forest_of (texts names) (tree_at names nodes) es) c.requires.name c.requires.sound c.requires.opened.sound);
    }

pub returns-clause-own : goal.returns-clause-own
returns-clause-own c =
    let names = c.args.folders.now.names.items in
    let nodes = c.args.folders.now.nodes.items in
    let new = c.add_some.new.names.items in
    let es = c.args.self.node.items in
    let is : c.in_ok-rest.rest.items ≡ entries_without (texts names) c.args.name.now es = (rw c.as_slice.ensures.value at c.in_ok-rest.ensures) (tree_at names nodes) c.requires.opened.sound in
    let kept : AreGood (length names) (length nodes) c.in_ok-rest.rest.items = subst (λ (r : List Entry). AreGood (length names) (length nodes) r) (sym is) (without-good (texts names) c.args.name.now (length names) (length nodes) es c.requires.opened.entries) in
    edited-own names new nodes es c.args.name.now c.args.child c.in_ok-rest.rest.items c.in_ok-node.node.items c.requires.good c.add_some.ensures.names c.requires.opened.entries c.requires.child is (c.in_ok-node.ensures.forest (tree_at new nodes) (length nodes) kept)

pub returns-in_err-rest-clause-kept : goal.returns-in_err-rest-clause-kept
returns-in_err-rest-clause-kept c = among-left (texts c.args.folders.now.names.items) (named c.args.name.now c.args.child)
