use Rattle.swh_fastread.proofs.Readers.{answered}
use Rattle.swh_fastread.proofs.reader.Reader.next_command.Goals as goal

pub returns-in-Open-clause-command : goal.returns-in-Open-clause-command
returns-in-Open-clause-command g c = λ told still. answered c.args.self.now c.read_on.new.self c.read_on.result (c.read_on.ensures.found told)
