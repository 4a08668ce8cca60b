use Rattle.std.proofs.Common.{◌+◌, length, ap, ◌∙◌, arith}
use Rattle.swh_outside.specs.Views.{sources}
use Rattle.swh_inputs.specs.Parts.{folders, parts}
use Rattle.swh_program.specs.Dated.{standing}
use Rattle.swh_program.proofs.Openings.{kept_same, kept_then, opened_begins, opened_next, dates_next, times_next}
use Rattle.swh_program.proofs.job_inputs.open_inputs.Goals as goal

pub lines-init : goal.lines-init
lines-init g c =
    let items = c.in-Ok.ensures.items in
    let left = c.from_vec-left.ensures.items in
    record {
      room = (let n = c.in-Ok.ensures.len in let k = c.in-Ok.ensures.capacity in let l = ap length left in let m = c.len.ensures in omega (arith, n, k, l, m));
      kept = kept_same g.O.Origins.tells (standing (g.O.Origins.file_at c.args.origins.now) (g.O.Origins.folder_at c.args.origins.now) (g.O.Origins.path_faults c.args.origins.now) (g.O.Origins.faults c.args.origins.now));
      so_far = rw (items, left) (opened_begins (parts (sources g.O.S.Source.tells g.O.S.Source.left g.O.S.Source.faults g.O.S.Source.path) (folders g.O.F.Folder.tells g.O.F.Folder.holds g.O.F.Folder.faults g.O.F.Folder.opened_at)) g.O.Origins.tells (standing (g.O.Origins.file_at c.args.origins.now) (g.O.Origins.folder_at c.args.origins.now) (g.O.Origins.path_faults c.args.origins.now) (g.O.Origins.faults c.args.origins.now)) c.args.lines.items);
      said = rw items (λ t. tt);
      next = λ t k. rw items (ap (g.C.Clock.time c.args.clock.now) (omega arith));
      clock_later = omega arith;
    }

pub lines-preserved : goal.lines-preserved
lines-preserved g c =
    let o = c.in-Ok-open_job.ensures in
    let i = c.lines.invariant in
    let items = c.push_reserved.ensures.items in
    let before = (standing (g.O.Origins.file_at c.args.origins.now) (g.O.Origins.folder_at c.args.origins.now) (g.O.Origins.path_faults c.args.origins.now) (g.O.Origins.faults c.args.origins.now)) in
    let now = (standing (g.O.Origins.file_at c.lines.origins) (g.O.Origins.folder_at c.lines.origins) (g.O.Origins.path_faults c.lines.origins) (g.O.Origins.faults c.lines.origins)) in
    let after = (standing (g.O.Origins.file_at c.open_job.new.origins) (g.O.Origins.folder_at c.open_job.new.origins) (g.O.Origins.path_faults c.open_job.new.origins) (g.O.Origins.faults c.open_job.new.origins)) in
    record {
      room = (let r = i.room in let n = c.push_reserved.ensures.len in let k = c.push_reserved.ensures.capacity in let l = ap length c.in-Some.ensures.items in omega (arith, r, n, k, l));
      kept = kept_then g.O.Origins.tells before now after i.kept o.kept;
      so_far = rw items (opened_next (parts (sources g.O.S.Source.tells g.O.S.Source.left g.O.S.Source.faults g.O.S.Source.path) (folders g.O.F.Folder.tells g.O.F.Folder.holds g.O.F.Folder.faults g.O.F.Folder.opened_at)) g.O.Origins.tells before now after
          c.args.lines.items c.lines.left.items c.pop_front.new.self.items c.in-Some.line c.lines.opened.items c.in-Ok-open_job.job i.kept o.kept c.in-Some.ensures.items i.so_far o.opened);
      said = λ t. rw items (dates_next (g.C.Clock.time c.args.clock.now) c.lines.opened.items c.in-Ok-open_job.job (i.said t) (o.date t ∙ i.next t 0));
      next = λ t k. rw items (o.next t k ∙ i.next t (k + 1) ∙ times_next (g.C.Clock.time c.args.clock.now) c.lines.opened.items c.in-Ok-open_job.job k);
      clock_later = (let a = i.clock_later in let b = o.clock_later in omega (arith, a, b));
    }
