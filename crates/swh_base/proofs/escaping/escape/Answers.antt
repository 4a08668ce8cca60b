use Rattle.swh_base.proofs.Escapes.{encoded}
use Rattle.swh_base.proofs.escaping.escape.Goals as goal

pub returns : goal.returns
returns c = rw (c.in_ok-append_to.ensures.ok, c.new-text.ensures.bytes, c.percent_encode.ensures.text) (encoded c.args.bytes.now)
