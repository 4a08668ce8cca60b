use Rattle.swh_roundtrip.proofs.Histories.{named_bodies, bodies_in_limit, bodies_of_bytes}
use Rattle.swh_roundtrip.proofs.archives.histories_hold_named_bodies.Goals as goal

pub returns-clause-named : goal.returns-clause-named
returns-clause-named c = named_bodies

pub returns-clause-in_limit : goal.returns-clause-in_limit
returns-clause-in_limit c = bodies_in_limit

pub returns-clause-of_bytes : goal.returns-clause-of_bytes
returns-clause-of_bytes c = bodies_of_bytes
