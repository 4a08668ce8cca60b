use Rattle.std.proofs.Common.{rules}
use Rattle.swh_outside.specs.declared.folder.What.TheVariants.{File}
use Rattle.swh_dirload.specs.Reading.{ExplainsRead}
use Rattle.swh_dirload.proofs.Helds.{holds_content}
use Rattle.swh_dirload.proofs.reading.read_content.Goals as goal

pub returns-in_err-bytes-clause-err : goal.returns-in_err-bytes-clause-err
returns-in_err-bytes-clause-err g c = λ tells.
    let id = g.N.Namer.id_of in
    let broken : ExplainsRead id (g.F.Folder.holds c.args.folder.now) c.args.total c.args.path.now File c.in_err-bytes.field-0.0 = c.in_err-bytes.ensures.err tells id in
    search rules

pub returns-clause-held : goal.returns-clause-held
returns-clause-held g c =
    holds_content g.N.Namer.id_of c.args.given.now c.in_ok-bytes.bytes.items c.give_content.new.given c.in_ok-id.id c.in_ok-id.ensures.id c.in_ok-id.ensures.content
