use Rattle.swh_snpfmt.proofs.Follows.{read_more}
use Rattle.swh_snpfmt.proofs.reading.spelled_snp.Goals as goal

pub loop-rest-preserved : goal.loop-rest-preserved
loop-rest-preserved c =
    let next = rw c.deref.ensures.value at c.in-Some.ensures.some in
    let done = read_more c.args.body.now c.loop-rest.list.items c.push.new.self.items c.in-Some.next c.loop-rest.rest.now c.in-Some.after.now c.in_ok-push.ensures.items c.loop-rest.invariant.good c.loop-rest.invariant.text next.0 next.1 in
    record { good = done.good; text = done.text }
