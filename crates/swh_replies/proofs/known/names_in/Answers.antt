use Rattle.std.proofs.Common.{arith}
use Rattle.swh_replies.specs.Known.{names_limit}
use Rattle.swh_replies.proofs.Names.{one_more, all_more, names_then_none, names_too_many, ended_some, ended_none}
use Rattle.swh_replies.proofs.known.names_in.Goals as goal

pub listed-preserved : goal.listed-preserved
listed-preserved c =
    record {
      so_far = rw c.in_ok-push-in-Next.ensures.items (one_more c.listed.names.items c.in-Next.name _ _ _ c.listed.invariant.so_far c.in-Next.ensures.1);
      good = rw c.in_ok-push-in-Next.ensures.items (all_more c.listed.names.items c.in-Next.name c.listed.invariant.good c.in-Next.ensures.0);
    }

pub returns-in-End-clause-some : goal.returns-in-End-clause-some
returns-in-End-clause-some c = ended_some c.listed.names _ _ _ c.listed.invariant.so_far c.in-End.ensures c.ended.result c.listed.invariant.good (omega arith) c.ended.ensures.some

pub returns-in-End-clause-none : goal.returns-in-End-clause-none
returns-in-End-clause-none c = ended_none c.listed.names _ _ _ c.listed.invariant.so_far c.in-End.ensures c.ended.result c.ended.ensures.none

pub returns-in-No-clause-none : goal.returns-in-No-clause-none
returns-in-No-clause-none c = names_then_none c.listed.names.items _ _ names_limit c.listed.invariant.so_far c.in-No.ensures

pub returns-clause-none : goal.returns-clause-none
returns-clause-none c = names_too_many c.listed.names.items _ _ names_limit c.listed.invariant.so_far (omega arith)
