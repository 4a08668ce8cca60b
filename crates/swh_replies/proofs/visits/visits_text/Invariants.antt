use Rattle.std.proofs.Common.{◌≡◌, take, reverse, length, []}
use Rattle.swh_replies.proofs.Shown.{opened_visits}
use Rattle.swh_replies.proofs.visits.visits_text.Given as goal

abbrev pub invariant-loop-visit : goal.invariant-loop-visit
invariant-loop-visit l = (l.writer.before ≡ []) × (l.writer.tokens ≡ opened_visits l.origin (take (length l.yielded) (reverse l.visits)))
