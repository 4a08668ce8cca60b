use Rattle.swh_replies.proofs.Names.{string_steps, default_steps}
use Rattle.swh_replies.proofs.known.next_step.Goals as goal

pub returns-in-String : goal.returns-in-String
returns-in-String c = string_steps c.args.reader.now c.next.new.self c.in-String.text.now c.name_step.result (rw c.in-String.is at c.in-Some.ensures.value) c.name_step.ensures

pub returns-in_default-token : goal.returns-in_default-token
returns-in_default-token c = default_steps c.args.reader.now c.next.new.self c.in-Some.token c.in-Some.ensures.value c.in_default-token.not-EndArray c.in_default-token.not-String
