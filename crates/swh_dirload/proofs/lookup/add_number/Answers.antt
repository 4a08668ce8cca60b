use Rattle.swh_dirload.proofs.Indexes.{adds}
use Rattle.swh_dirload.specs.Index.{key_text}
use Rattle.swh_dirload.proofs.lookup.add_number.Goals as goal

pub returns : goal.returns
returns c = adds c.args.numbers.now.entries c.insert.new.self.entries c.in_ok-key.key (key_text c.args.above c.args.name.now) c.args.number c.in_ok-key.ensures c.in_ok-insert.ensures.entries
