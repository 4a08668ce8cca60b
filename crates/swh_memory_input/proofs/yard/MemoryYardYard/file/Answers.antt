use Rattle.swh_memory_failures.specs.Tally.{is_next_listed}
use Rattle.swh_memory_input.specs.Yards.{yard_tally, yard_makings}
use Rattle.swh_memory_input.proofs.Yards.{begun-fails}
use Rattle.swh_memory_input.proofs.yard.MemoryYardYard.file.Goals as goal

pub returns-clause-exists : goal.returns-clause-exists
returns-clause-exists c = begun-fails (is_next_listed (yard_tally c.args.self.now)) c.args.path.now (yard_makings c.args.self.now) c.begin.result c.begin.ensures.fails
