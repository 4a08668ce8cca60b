use Rattle.std.proofs.Common.{◌≡◌, arith, ℕ, List, [], ◌∷◌, ◌++◌, refl, sym, ap, ◌∙◌, subst}
use Rattle.swh_base.specs.declared.name.Name.{Name}
use Rattle.swh_pathwalk.specs.Held.{IsHeldOrder}
use Rattle.swh_pathwalk.specs.Weight.{LeadInto}
use Rattle.swh_pathwalk.specs.Walk.{row_of}
use Rattle.swh_fastwrite.specs.Held.{kept}
use Rattle.swh_fastwrite.proofs.Pieces.{goes_none, front_none}
use Rattle.swh_fastcook.specs.Files.{row_at, AreFilesOf}
use Rattle.swh_fastcook.specs.Stream.{file_text, files_text}
use Rattle.swh_fastcook.proofs.FileWalks.{leads_at_first, steps_on}
use Rattle.swh_fastcook.proofs.Texts.{stopped_some, settled, files_more, files_broke, line_broke, rows_begin, rows_more, rows_end}
use Rattle.swh_fastcook.proofs.files.write_files.Goals as goal

pub begin-requires-clause-order : goal.begin-requires-clause-order
begin-requires-clause-order g c =
    subst (IsHeldOrder (g.L.Graph.children_of c.args.look.now)) (sym c.order-order.ensures)
    (record { some = c.requires.order; preceded = c.requires.preceded })

pub next-requires-clause-order : goal.next-requires-clause-order
next-requires-clause-order g c =
    subst (IsHeldOrder (g.L.Graph.children_of c.args.look.now)) (sym c.order-order.ensures)
    (record { some = c.requires.order; preceded = c.requires.preceded })

pub next-requires-clause-leads : goal.next-requires-clause-leads
next-requires-clause-leads g c =
    subst (λ (order : List Name). LeadInto order c.entries.walk.levels) (sym c.order-order.ensures) c.entries.invariant.leads.folders

pub entries-init : goal.entries-init
entries-init g c =
    let bodies = (g.L.Look.archive c.args.look.now).bodies in
    record {
      leads = leads_at_first bodies (g.L.Graph.children_of c.args.look.now) c.is_graph.ensures c.args.marks.now c.requires.preceded c.args.directory c.in_ok-walk.walk c.in_ok-walk.ensures c.requires.there;
      quiet = refl;
      rows = [];
      so_far = rows_begin bodies c.args.directory c.in_ok-walk.walk c.in_ok-walk.ensures;
      few = omega arith;
      goes = goes_none g.T.Taker.takes g.T.Taker.takes_front g.met.T.Taker.adds_up (kept c.args.taker.now c.args.held.now.items);
    }

pub returns-in_err-entry-clause-bytes : goal.returns-in_err-entry-clause-bytes
returns-in_err-entry-clause-bytes g c =
    let bodies = (g.L.Look.archive c.args.look.now).bodies in
    let old = kept c.args.taker.now c.args.held.now.items in
    let mid = kept c.entries.taker c.entries.held.items in
    let inv = c.entries.invariant in
    stopped_some g.T.Taker.takes g.T.Taker.takes_front old mid c.from_residual-in_err-entry.result c.from_residual-in_err-entry.ensures.0 (AreFilesOf bodies c.args.marks.now c.args.directory)
    (files_broke g.T.Taker.takes g.T.Taker.takes_front g.met.T.Taker.adds_up c.args.marks.now bodies c.args.directory old mid inv.rows c.entries.walk.levels c.entries.taker inv.so_far inv.goes
    (λ rest _. front_none g.T.Taker.takes g.T.Taker.takes_front g.met.T.Taker.adds_up mid (files_text c.args.marks.now rest)))

pub push_entry-requires : goal.push_entry-requires
push_entry-requires g c =
    let bodies = (g.L.Look.archive c.args.look.now).bodies in
    let s = rw c.in-Some.is at c.in_ok-entry.ensures in
    (steps_on bodies (g.L.Graph.children_of c.args.look.now) c.is_graph.ensures c.args.marks.now c.requires.preceded c.entries.walk c.next.new.walk c.in-Some.entry c.entries.invariant.leads s).file

pub returns-in_err-push_entry-clause-bytes : goal.returns-in_err-push_entry-clause-bytes
returns-in_err-push_entry-clause-bytes g c =
    let bodies = (g.L.Look.archive c.args.look.now).bodies in
    let old = kept c.args.taker.now c.args.held.now.items in
    let mid = kept c.entries.taker c.entries.held.items in
    let inv = c.entries.invariant in
    stopped_some g.T.Taker.takes g.T.Taker.takes_front old (kept c.entries.taker c.push_entry.new.held.items) c.from_residual-in_err-push_entry.result c.from_residual-in_err-push_entry.ensures.0
    (AreFilesOf bodies c.args.marks.now c.args.directory)
    (files_broke g.T.Taker.takes g.T.Taker.takes_front g.met.T.Taker.adds_up c.args.marks.now bodies c.args.directory old mid inv.rows c.entries.walk.levels c.entries.taker inv.so_far inv.goes
    (λ rest _. front_none g.T.Taker.takes g.T.Taker.takes_front g.met.T.Taker.adds_up mid (files_text c.args.marks.now rest)))

pub entries-smaller : goal.entries-smaller
entries-smaller g c =
    let bodies = (g.L.Look.archive c.args.look.now).bodies in
    let s = rw c.in-Some.is at c.in_ok-entry.ensures in
    (steps_on bodies (g.L.Graph.children_of c.args.look.now) c.is_graph.ensures c.args.marks.now c.requires.preceded c.entries.walk c.next.new.walk c.in-Some.entry c.entries.invariant.leads s).lighter_now

pub entries-preserved : goal.entries-preserved
entries-preserved g c =
    let bodies = (g.L.Look.archive c.args.look.now).bodies in
    let order = c.args.marks.now in
    let old = kept c.args.taker.now c.args.held.now.items in
    let mid = kept c.entries.taker c.entries.held.items in
    let new = kept c.settle.new.taker c.settle.new.held.items in
    let inv = c.entries.invariant in
    let entry = c.in-Some.entry in
    let s = rw c.in-Some.is at c.in_ok-entry.ensures in
    let row = row_of c.next.new.walk entry in
    let line : c.push_entry.new.held.items ≡ c.entries.held.items ++ file_text order row =
    c.in_ok-push_entry.ensures ∙ ap (λ (p : List ℕ). c.entries.held.items ++ file_text order (row_at p entry)) c.path.ensures in
    record {
      leads = (steps_on bodies (g.L.Graph.children_of c.args.look.now) c.is_graph.ensures order c.requires.preceded c.entries.walk c.next.new.walk entry inv.leads s).leads;
      quiet = c.in_ok-settle.ensures.cause.quiet ∙ inv.quiet;
      rows = inv.rows ++ row ∷ [];
      so_far = rows_more bodies c.args.directory inv.rows c.entries.walk c.next.new.walk entry s inv.so_far;
      few = (let small = c.in_ok-settle.ensures.few in omega (arith, small));
      goes =
          files_more g.T.Taker.takes g.T.Taker.takes_front g.met.T.Taker.adds_up order old mid new inv.rows row inv.goes
          (settled g.T.Taker.takes g.T.Taker.takes_front g.met.T.Taker.adds_up c.entries.taker c.entries.held.items (file_text order row) c.push_entry.new.held.items new line c.in_ok-settle.ensures.bytes.ok);
    }

pub returns-in_err-settle-clause-bytes : goal.returns-in_err-settle-clause-bytes
returns-in_err-settle-clause-bytes g c =
    let bodies = (g.L.Look.archive c.args.look.now).bodies in
    let order = c.args.marks.now in
    let old = kept c.args.taker.now c.args.held.now.items in
    let mid = kept c.entries.taker c.entries.held.items in
    let inv = c.entries.invariant in
    let entry = c.in-Some.entry in
    let s = rw c.in-Some.is at c.in_ok-entry.ensures in
    let line : c.push_entry.new.held.items ≡ c.entries.held.items ++ file_text order (row_of c.next.new.walk entry) =
    c.in_ok-push_entry.ensures ∙ ap (λ (p : List ℕ). c.entries.held.items ++ file_text order (row_at p entry)) c.path.ensures in
    stopped_some g.T.Taker.takes g.T.Taker.takes_front old (kept c.settle.new.taker c.settle.new.held.items) c.from_residual-in_err-settle.result c.from_residual-in_err-settle.ensures.0
    (AreFilesOf bodies order c.args.directory)
    (files_broke g.T.Taker.takes g.T.Taker.takes_front g.met.T.Taker.adds_up order bodies c.args.directory old mid inv.rows c.entries.walk.levels c.settle.new.taker inv.so_far inv.goes
    (line_broke g.T.Taker.takes g.T.Taker.takes_front g.met.T.Taker.adds_up order bodies c.entries.walk c.next.new.walk entry c.entries.taker c.entries.held.items c.push_entry.new.held.items c.settle.new.taker s line c.in_err-settle.ensures.bytes.err))

pub returns-clause-bytes : goal.returns-clause-bytes
returns-clause-bytes g c =
    let bodies = (g.L.Look.archive c.args.look.now).bodies in
    let inv = c.entries.invariant in
    let s = rw c.in_default.is at c.in_ok-entry.ensures in
    record {
      ok = (files_text c.args.marks.now inv.rows, record { rows = inv.rows; walk = rows_end bodies c.args.directory inv.rows c.entries.walk c.next.new.walk s inv.so_far; is = refl }, inv.goes);
      err = tt;
    }
