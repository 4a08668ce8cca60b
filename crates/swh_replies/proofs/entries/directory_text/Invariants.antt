use Rattle.std.proofs.Common.{◌≡◌, take, []}
use Rattle.swh_replies.proofs.Listed.{opened_tokens}
use Rattle.swh_replies.proofs.entries.directory_text.Given as goal

abbrev pub invariant-loop-entry : goal.invariant-loop-entry
invariant-loop-entry l = (l.writer.before ≡ []) × (l.writer.tokens ≡ opened_tokens (take l.entry-index l.entries))
