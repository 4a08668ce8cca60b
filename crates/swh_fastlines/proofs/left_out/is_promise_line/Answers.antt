use Rattle.std.proofs.Common.{rules, ◌≡◌, true, codes}
use Rattle.swh_fastlines.proofs.Promises.{is_promise}
use Rattle.swh_fastlines.proofs.left_out.is_promise_line.Goals as goal

pub returns : goal.returns
returns c =
    let up : c.eq.result ≡ true → c.args.line.now ≡ codes "feature done" = search rules in
    let down : c.args.line.now ≡ codes "feature done" → c.eq.result ≡ true = search rules in
    is_promise c.args.line.now c.eq.result up down
