use Rattle.std.proofs.Common.{List, sym, subst}
use Rattle.std.specs.Prelude.{Contains}
use Rattle.swh_base.specs.Directory.{DirectoryEntry}
use Rattle.swh_dirfmt.specs.declared.entry.SpelledEntry.{SpelledEntry}
use Rattle.swh_dirfmt.specs.Entries.{entries_in_body}
use Rattle.swh_graph.specs.Path.{directory_name}
use Rattle.swh_pathwalk.proofs.Trees.{folder_kid}
use Rattle.swh_pathsums.specs.Tallies.{AreRowsOver}
use Rattle.swh_pathsums.proofs.Rows.{rows_over}
use Rattle.swh_pathsums.proofs.sums.directory_tally.Goals as goal

pub entries_tally-requires-clause-may : goal.entries_tally-requires-clause-may
entries_tally-requires-clause-may g c e there =
    c.requires.may c.args.directory (entries_in_body c.in_ok-entries.entries.items) e c.requires.there c.in_ok-entries.ensures (subst (λ (es : List SpelledEntry). Contains (entries_in_body es) e) c.as_slice.ensures.value there)

pub entries_tally-requires-clause-there : goal.entries_tally-requires-clause-there
entries_tally-requires-clause-there g c e there folder =
    let bodies = (g.L.Look.archive c.args.look.now).bodies in
    let entries = entries_in_body c.in_ok-entries.entries.items in
    let has =
    c.requires.known e.id
    (folder_kid bodies (g.L.Graph.children_of c.args.look.now) c.is_graph.ensures c.args.order.now c.requires.order c.args.directory entries e c.in_ok-entries.ensures
    (subst (λ (es : List SpelledEntry). Contains (entries_in_body es) e) c.as_slice.ensures.value there) folder) in (has.tally, has.there)

pub returns : goal.returns
returns g c rows walk =
    let bodies = (g.L.Look.archive c.args.look.now).bodies in
    let entries = entries_in_body c.in_ok-entries.entries.items in
    c.entries_tally.ensures bodies rows
    (λ e there folder.
    c.requires.known e.id
    (folder_kid bodies (g.L.Graph.children_of c.args.look.now) c.is_graph.ensures c.args.order.now c.requires.order c.args.directory entries e c.in_ok-entries.ensures
    (subst (λ (es : List SpelledEntry). Contains (entries_in_body es) e) c.as_slice.ensures.value there) folder))
    (subst (λ (es : List SpelledEntry). AreRowsOver bodies (entries_in_body es) rows) (sym c.as_slice.ensures.value)
    (rows_over bodies (directory_name c.args.directory) entries rows c.in_ok-entries.ensures walk))
