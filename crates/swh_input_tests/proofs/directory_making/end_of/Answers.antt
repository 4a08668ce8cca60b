use Rattle.swh_base.specs.Namer.{sha1_id}
use Rattle.swh_dedup.specs.Making.{made, names_of_made}
use Rattle.swh_input_tests.proofs.directory_making.end_of.Goals as goal

pub made_of-requires-clause-held : goal.made_of-requires-clause-held
made_of-requires-clause-held c =
    let held = c.in-Ok-take_lines.ensures.held (names_of_made sha1_id (made c.read_files.new.given)) c.in-Ok-read_files.ensures.held in
    rw (← c.as_slice-5.ensures.value) at held
