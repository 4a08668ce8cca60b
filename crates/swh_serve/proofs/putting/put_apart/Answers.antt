use Rattle.std.proofs.Common.{rules}
use Rattle.swh_http.specs.Reply.{head_text}
use Rattle.swh_serve.proofs.TextPuts.{put-both, put-first}
use Rattle.swh_serve.proofs.putting.put_apart.Goals as goal

pub returns-in-Ok-clause-text : goal.returns-in-Ok-clause-text
returns-in-Ok-clause-text g c tells =
    put-both _ (head_text c.args.reply.now c.args.keep) c.args.reply.now.body _ _ c.put_text.result (c.in-Ok.ensures.text tells)
    c.put_text.ensures.only (rw c.as_slice.ensures at c.put_text.ensures.text tells)

pub returns-in-Err-clause-text : goal.returns-in-Err-clause-text
returns-in-Err-clause-text g c tells =
    put-first (Unit {0}) (Unit {0}) _ (head_text c.args.reply.now c.args.keep) c.args.reply.now.body _ c.in-Err.fault (c.in-Err.ensures.text tells)
