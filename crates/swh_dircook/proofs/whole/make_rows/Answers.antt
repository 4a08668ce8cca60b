use Rattle.std.proofs.Common.{List, [], ◌∷◌, ◌++◌, refl, sym, ap, ◌∙◌, subst}
use Rattle.std.specs.Str.{IsUtf8}
use Rattle.swh_graph.specs.Path.{directory_name}
use Rattle.swh_pathwalk.specs.Walk.{row_of}
use Rattle.swh_pathwalk.proofs.Weights.{lead_at_first, lighter}
use Rattle.swh_pathwalk.proofs.Walks.{at_first, at_next, at_last, given_in}
use Rattle.swh_pathwalk.specs.Tree.{Row}
use Rattle.swh_pathwalk.proofs.Trees.{some_walk}
use Rattle.swh_dircook.specs.Made.{all_made, yarded, after_made}
use Rattle.swh_dircook.proofs.Makings.{some_at, made_some, rows_at, row_some, row_made}
use Rattle.swh_dircook.proofs.Paths.{root_there, held, fine_next}
use Rattle.swh_dircook.proofs.whole.make_rows.Goals as goal

pub begin_walk-requires : goal.begin_walk-requires
begin_walk-requires g c = record {
  order = held (g.L.Look.archive c.args.look.now).bodies (g.L.Graph.children_of c.args.look.now) c.is_graph.ensures c.args.directory c.args.order.now c.requires.order c.requires.carried;
  there = root_there (g.L.Graph.children_of c.args.look.now) (directory_name c.args.directory) c.args.order.now c.requires.order;
}

pub returns-in_err-walk-clause-made : goal.returns-in_err-walk-clause-made
returns-in_err-walk-clause-made g c =
    let old = yarded (g.Y.Sink.begun c.args.yard.now) (g.Y.Sink.taken c.args.yard.now) in
    λ rows walk. made_some g.Y.Sink.tells old (all_made (g.L.Look.archive c.args.look.now).bodies c.args.out.now rows) old c.from_residual.result c.from_residual.ensures.0
    (λ _. some_at old old [] (all_made (g.L.Look.archive c.args.look.now).bodies c.args.out.now rows) refl)

pub entries-init : goal.entries-init
entries-init g c =
    let bodies = (g.L.Look.archive c.args.look.now).bodies in
    let is = held bodies (g.L.Graph.children_of c.args.look.now) c.is_graph.ensures c.args.directory c.args.order.now c.requires.order c.requires.carried in
    record {
      leads =
          lead_at_first bodies (g.L.Graph.children_of c.args.look.now) c.is_graph.ensures c.args.order.now is.preceded c.args.directory c.in_ok-walk.walk c.in_ok-walk.ensures.ok
          (root_there (g.L.Graph.children_of c.args.look.now) (directory_name c.args.directory) c.args.order.now c.requires.order);
      quiet = refl;
      made = λ rows walk. ([], at_first bodies (directory_name c.args.directory) rows c.in_ok-walk.walk c.in_ok-walk.ensures.ok walk, λ _. refl);
    }

pub next_entry-requires : goal.next_entry-requires
next_entry-requires g c = record {
  order = held (g.L.Look.archive c.args.look.now).bodies (g.L.Graph.children_of c.args.look.now) c.is_graph.ensures c.args.directory c.args.order.now c.requires.order c.requires.carried;
  leads = c.entries.invariant.leads;
}

pub returns-in_err-entry-clause-made : goal.returns-in_err-entry-clause-made
returns-in_err-entry-clause-made g c =
    let bodies = (g.L.Look.archive c.args.look.now).bodies in
    let old = yarded (g.Y.Sink.begun c.args.yard.now) (g.Y.Sink.taken c.args.yard.now) in
    let mid = yarded (g.Y.Sink.begun c.entries.yard) (g.Y.Sink.taken c.entries.yard) in
    λ rows walk.
    let so = c.entries.invariant.made rows walk in
    made_some g.Y.Sink.tells old (all_made bodies c.args.out.now rows) mid c.from_residual-in_err-entry.result c.from_residual-in_err-entry.ensures.0
    (rows_at bodies c.args.out.now g.Y.Sink.tells old mid rows so.0 c.entries.walk.levels so.1 so.2)

pub make_row-requires : goal.make_row-requires
make_row-requires g c =
    let bodies = (g.L.Look.archive c.args.look.now).bodies in
    let children = g.L.Graph.children_of c.args.look.now in
    let order = c.args.order.now in
    let is = held bodies children c.is_graph.ensures c.args.directory order c.requires.order c.requires.carried in
    let all = some_walk bodies children c.is_graph.ensures order is (directory_name c.args.directory) (root_there children (directory_name c.args.directory) order c.requires.order) refl in
    let so = c.entries.invariant.made all.0 all.1 in
    let s = rw c.in-Some.is at c.in_ok-entry.ensures.ok in
    let cut = given_in bodies (directory_name c.args.directory) all.0 so.0 c.entries.walk c.next_entry.new.walk c.in-Some.entry s so.1 in
    let fine = fine_next bodies children c.is_graph.ensures c.args.directory order c.requires.order c.requires.carried all.0 so.0 (row_of c.next_entry.new.walk c.in-Some.entry) cut.0 all.1 cut.1 in
    (c.type_bounds.send-Y, (subst IsUtf8 (sym c.path.ensures) fine.text, fine.file))

pub returns-in_err-make_row-clause-made : goal.returns-in_err-make_row-clause-made
returns-in_err-make_row-clause-made g c =
    let bodies = (g.L.Look.archive c.args.look.now).bodies in
    let old = yarded (g.Y.Sink.begun c.args.yard.now) (g.Y.Sink.taken c.args.yard.now) in
    let mid = yarded (g.Y.Sink.begun c.entries.yard) (g.Y.Sink.taken c.entries.yard) in
    let new = yarded (g.Y.Sink.begun c.make_row.new.yard) (g.Y.Sink.taken c.make_row.new.yard) in
    let s = rw c.in-Some.is at c.in_ok-entry.ensures.ok in
    let row = row_of c.next_entry.new.walk c.in-Some.entry in
    λ rows walk.
    let so = c.entries.invariant.made rows walk in
    let cut = given_in bodies (directory_name c.args.directory) rows so.0 c.entries.walk c.next_entry.new.walk c.in-Some.entry s so.1 in
    made_some g.Y.Sink.tells old (all_made bodies c.args.out.now rows) new c.from_residual-in_err-make_row.result c.from_residual-in_err-make_row.ensures.0
    (row_some bodies c.args.out.now g.Y.Sink.tells old mid rows so.0 c.entries.walk.levels so.1 so.2 row cut.0 new cut.1 (λ told. rw c.path.ensures at c.in_err-make_row.ensures.made.err told))

pub entries-smaller : goal.entries-smaller
entries-smaller g c =
    let bodies = (g.L.Look.archive c.args.look.now).bodies in
    let children = g.L.Graph.children_of c.args.look.now in
    let is = held bodies children c.is_graph.ensures c.args.directory c.args.order.now c.requires.order c.requires.carried in
    let s = rw c.in-Some.is at c.in_ok-entry.ensures.ok in
    (lighter bodies children c.is_graph.ensures c.args.order.now is.preceded c.entries.walk c.next_entry.new.walk c.in-Some.entry c.entries.invariant.leads s).0

pub entries-preserved : goal.entries-preserved
entries-preserved g c =
    let bodies = (g.L.Look.archive c.args.look.now).bodies in
    let children = g.L.Graph.children_of c.args.look.now in
    let is = held bodies children c.is_graph.ensures c.args.directory c.args.order.now c.requires.order c.requires.carried in
    let old = yarded (g.Y.Sink.begun c.args.yard.now) (g.Y.Sink.taken c.args.yard.now) in
    let mid = yarded (g.Y.Sink.begun c.entries.yard) (g.Y.Sink.taken c.entries.yard) in
    let new = yarded (g.Y.Sink.begun c.make_row.new.yard) (g.Y.Sink.taken c.make_row.new.yard) in
    let s = rw c.in-Some.is at c.in_ok-entry.ensures.ok in
    let row = row_of c.next_entry.new.walk c.in-Some.entry in
    record {
      leads = (lighter bodies children c.is_graph.ensures c.args.order.now is.preceded c.entries.walk c.next_entry.new.walk c.in-Some.entry c.entries.invariant.leads s).1;
      quiet = c.in_ok-make_row.ensures.cause.quiet ∙ c.entries.invariant.quiet;
      made = λ rows walk.
          let so = c.entries.invariant.made rows walk in (
            so.0 ++ row ∷ [],
            at_next bodies (directory_name c.args.directory) rows so.0 c.entries.walk c.next_entry.new.walk c.in-Some.entry s so.1,
            row_made bodies c.args.out.now g.Y.Sink.tells old mid rows so.0 c.entries.walk.levels so.1 so.2 row new (λ told. rw c.path.ensures at c.in_ok-make_row.ensures.made.ok told),
          );
    }

pub returns-clause-made : goal.returns-clause-made
returns-clause-made g c =
    let bodies = (g.L.Look.archive c.args.look.now).bodies in
    let old = yarded (g.Y.Sink.begun c.args.yard.now) (g.Y.Sink.taken c.args.yard.now) in
    let mid = yarded (g.Y.Sink.begun c.entries.yard) (g.Y.Sink.taken c.entries.yard) in
    let s = rw c.in_default.is at c.in_ok-entry.ensures.ok in
    λ rows walk.
    let so = c.entries.invariant.made rows walk in
    record {
      ok = λ told. so.2 told ∙ ap (λ (l : List Row). after_made old (all_made bodies c.args.out.now l)) (sym (at_last bodies (directory_name c.args.directory) rows so.0 c.entries.walk c.next_entry.new.walk s so.1));
      err = λ told. tt;
    }
