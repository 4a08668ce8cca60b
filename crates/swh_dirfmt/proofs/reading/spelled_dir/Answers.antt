use Rattle.std.proofs.Common.{ap, length, arith, length-append}
use Rattle.swh_base.specs.Directory.{directory_text}
use Rattle.swh_dirfmt.specs.Entries.{entries_in_body}
use Rattle.swh_dirfmt.proofs.Follows.{read_more}
use Rattle.swh_dirfmt.proofs.reading.spelled_dir.Goals as goal

pub loop-rest-preserved : goal.loop-rest-preserved
loop-rest-preserved c =
    let next = rw c.deref.ensures.value at c.in-Ok.ensures.ok in
    let done = read_more c.args.body.now c.loop-rest.list.items c.push.new.self.items c.in-Ok.next.0 c.loop-rest.rest.now c.in-Ok.next.1.now c.in_ok-push.ensures.items c.loop-rest.invariant.good c.loop-rest.invariant.text next.0 next.1 in
    record { good = done.good; text = done.text }

pub returns-in-Err-clause-err : goal.returns-in-Err-clause-err
returns-in-Err-clause-err c =
    let breaks = rw c.deref.ensures.value at c.in-Err.ensures.err in
    let text = c.loop-rest.invariant.text in
    record {
      before = entries_in_body c.loop-rest.list.items;
      rest = c.loop-rest.rest.now;
      good = c.loop-rest.invariant.good;
      text = text;
      here = omega (arith, ap length text, length-append (directory_text (entries_in_body c.loop-rest.list.items)) c.loop-rest.rest.now);
      breaks = breaks;
    }
