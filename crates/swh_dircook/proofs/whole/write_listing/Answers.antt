use Rattle.std.proofs.Common.{◌≡◌, ℕ, List, [], ◌∷◌, ◌++◌, refl, sym, ap, ◌∙◌, subst}
use Rattle.swh_dirfmt.specs.Entries.{entry_of}
use Rattle.swh_graph.specs.Path.{directory_name}
use Rattle.swh_pathwalk.specs.Tree.{Row}
use Rattle.swh_pathwalk.specs.Walk.{row_of}
use Rattle.swh_pathwalk.proofs.Weights.{lead_at_first, lighter}
use Rattle.swh_pathwalk.proofs.Walks.{at_first, at_next, at_last, given_in}
use Rattle.swh_fastwrite.specs.Held.{Goes, kept}
use Rattle.swh_fastwrite.proofs.Pieces.{goes_none, front_none}
use Rattle.swh_dircook.specs.Listing.{line_or_none, with_path, mode_of, listing_text}
use Rattle.swh_dircook.proofs.Lines.{line_of, wrote_front, listing_at, listing_some, listing_more}
use Rattle.swh_dircook.proofs.Paths.{root_there, held}
use Rattle.swh_dircook.proofs.whole.write_listing.Goals as goal

pub begin_walk-requires : goal.begin_walk-requires
begin_walk-requires g c = record {
  order = held (g.L.Look.archive c.args.look.now).bodies (g.L.Graph.children_of c.args.look.now) c.is_graph.ensures c.args.directory c.args.order.now c.requires.order c.requires.carried;
  there = root_there (g.L.Graph.children_of c.args.look.now) (directory_name c.args.directory) c.args.order.now c.requires.order;
}

pub returns-in_err-walk-clause-bytes : goal.returns-in_err-walk-clause-bytes
returns-in_err-walk-clause-bytes g c =
    let old = kept c.args.taker.now c.args.held.now.items in
    λ rows walk. wrote_front g.T.Taker.takes g.T.Taker.takes_front old (listing_text rows) old c.from_residual.result c.from_residual.ensures.0
    (front_none g.T.Taker.takes g.T.Taker.takes_front g.met.T.Taker.adds_up old (listing_text rows))

pub entries-init : goal.entries-init
entries-init g c =
    let bodies = (g.L.Look.archive c.args.look.now).bodies in
    let is = held bodies (g.L.Graph.children_of c.args.look.now) c.is_graph.ensures c.args.directory c.args.order.now c.requires.order c.requires.carried in
    record {
      leads =
          lead_at_first bodies (g.L.Graph.children_of c.args.look.now) c.is_graph.ensures c.args.order.now is.preceded c.args.directory c.in_ok-walk.walk c.in_ok-walk.ensures.ok
          (root_there (g.L.Graph.children_of c.args.look.now) (directory_name c.args.directory) c.args.order.now c.requires.order);
      quiet = refl;
      few = λ fits. fits;
      written = λ rows walk. (
        [],
        at_first bodies (directory_name c.args.directory) rows c.in_ok-walk.walk c.in_ok-walk.ensures.ok walk,
        goes_none g.T.Taker.takes g.T.Taker.takes_front g.met.T.Taker.adds_up (kept c.args.taker.now c.args.held.now.items),
      );
    }

pub next_entry-requires : goal.next_entry-requires
next_entry-requires g c = record {
  order = held (g.L.Look.archive c.args.look.now).bodies (g.L.Graph.children_of c.args.look.now) c.is_graph.ensures c.args.directory c.args.order.now c.requires.order c.requires.carried;
  leads = c.entries.invariant.leads;
}

pub returns-in_err-entry-clause-bytes : goal.returns-in_err-entry-clause-bytes
returns-in_err-entry-clause-bytes g c =
    let old = kept c.args.taker.now c.args.held.now.items in
    let mid = kept c.entries.taker c.entries.held.items in
    λ rows walk.
    let so = c.entries.invariant.written rows walk in
    wrote_front g.T.Taker.takes g.T.Taker.takes_front old (listing_text rows) mid c.from_residual-in_err-entry.result c.from_residual-in_err-entry.ensures.0
    (listing_at g.T.Taker.takes g.T.Taker.takes_front g.met.T.Taker.adds_up (g.L.Look.archive c.args.look.now).bodies old c.entries.taker c.entries.held.items rows so.0 c.entries.walk.levels so.1 so.2)

pub returns-in_err-list_entry-clause-bytes : goal.returns-in_err-list_entry-clause-bytes
returns-in_err-list_entry-clause-bytes g c =
    let old = kept c.args.taker.now c.args.held.now.items in
    λ rows walk.
    let so = c.entries.invariant.written rows walk in
    wrote_front g.T.Taker.takes g.T.Taker.takes_front old (listing_text rows) (kept c.entries.taker c.list_entry.new.held.items) c.from_residual-in_err-list_entry.result c.from_residual-in_err-list_entry.ensures.0
    (listing_at g.T.Taker.takes g.T.Taker.takes_front g.met.T.Taker.adds_up (g.L.Look.archive c.args.look.now).bodies old c.entries.taker c.entries.held.items rows so.0 c.entries.walk.levels so.1 so.2)

pub returns-in_err-settle-clause-bytes : goal.returns-in_err-settle-clause-bytes
returns-in_err-settle-clause-bytes g c =
    let bodies = (g.L.Look.archive c.args.look.now).bodies in
    let old = kept c.args.taker.now c.args.held.now.items in
    let s = rw c.in-Some.is at c.in_ok-entry.ensures.ok in
    let entry = c.in-Some.entry in
    let row = row_of c.next_entry.new.walk entry in
    let line : c.list_entry.new.held.items ≡ c.entries.held.items ++ line_of row =
    c.in_ok-list_entry.ensures.ok ∙ ap (λ (p : List ℕ). c.entries.held.items ++ line_or_none (with_path p (mode_of (entry_of entry)))) c.path.ensures in
    λ rows walk.
    let so = c.entries.invariant.written rows walk in
    let cut = given_in bodies (directory_name c.args.directory) rows so.0 c.entries.walk c.next_entry.new.walk entry s so.1 in
    wrote_front g.T.Taker.takes g.T.Taker.takes_front old (listing_text rows) (kept c.settle.new.taker c.settle.new.held.items) c.from_residual-in_err-settle.result c.from_residual-in_err-settle.ensures.0
    (listing_some g.T.Taker.takes g.T.Taker.takes_front g.met.T.Taker.adds_up bodies old c.entries.taker c.entries.held.items rows so.0 c.entries.walk.levels so.1 so.2 row cut.0 c.list_entry.new.held.items c.settle.new.taker cut.1 line c.in_err-settle.ensures.bytes.err)

pub entries-smaller : goal.entries-smaller
entries-smaller g c =
    let bodies = (g.L.Look.archive c.args.look.now).bodies in
    let children = g.L.Graph.children_of c.args.look.now in
    let is = held bodies children c.is_graph.ensures c.args.directory c.args.order.now c.requires.order c.requires.carried in
    let s = rw c.in-Some.is at c.in_ok-entry.ensures.ok in
    (lighter bodies children c.is_graph.ensures c.args.order.now is.preceded c.entries.walk c.next_entry.new.walk c.in-Some.entry c.entries.invariant.leads s).0

pub entries-preserved : goal.entries-preserved
entries-preserved g c =
    let bodies = (g.L.Look.archive c.args.look.now).bodies in
    let children = g.L.Graph.children_of c.args.look.now in
    let is = held bodies children c.is_graph.ensures c.args.directory c.args.order.now c.requires.order c.requires.carried in
    let old = kept c.args.taker.now c.args.held.now.items in
    let s = rw c.in-Some.is at c.in_ok-entry.ensures.ok in
    let entry = c.in-Some.entry in
    let row = row_of c.next_entry.new.walk entry in
    let line : c.list_entry.new.held.items ≡ c.entries.held.items ++ line_of row =
    c.in_ok-list_entry.ensures.ok ∙ ap (λ (p : List ℕ). c.entries.held.items ++ line_or_none (with_path p (mode_of (entry_of entry)))) c.path.ensures in
    record {
      leads = (lighter bodies children c.is_graph.ensures c.args.order.now is.preceded c.entries.walk c.next_entry.new.walk entry c.entries.invariant.leads s).1;
      quiet = c.in_ok-settle.ensures.cause.quiet ∙ c.entries.invariant.quiet;
      few = λ _. c.in_ok-settle.ensures.few;
      written = λ rows walk.
          let so = c.entries.invariant.written rows walk in (
            so.0 ++ row ∷ [],
            at_next bodies (directory_name c.args.directory) rows so.0 c.entries.walk c.next_entry.new.walk entry s so.1,
            listing_more g.T.Taker.takes g.T.Taker.takes_front g.met.T.Taker.adds_up bodies old c.entries.taker c.entries.held.items rows so.0 c.entries.walk.levels so.1 so.2 row c.list_entry.new.held.items (kept c.settle.new.taker c.settle.new.held.items) line
                c.in_ok-settle.ensures.bytes.ok,
          );
    }

pub returns-clause-bytes : goal.returns-clause-bytes
returns-clause-bytes g c =
    let bodies = (g.L.Look.archive c.args.look.now).bodies in
    let old = kept c.args.taker.now c.args.held.now.items in
    let mid = kept c.entries.taker c.entries.held.items in
    let s = rw c.in_default.is at c.in_ok-entry.ensures.ok in
    λ rows walk.
    let so = c.entries.invariant.written rows walk in
    record {
      ok = subst (λ (l : List Row). Goes g.T.Taker.takes g.T.Taker.takes_front old (listing_text l) mid) (sym (at_last bodies (directory_name c.args.directory) rows so.0 c.entries.walk c.next_entry.new.walk s so.1)) so.2;
      err = tt;
    }
