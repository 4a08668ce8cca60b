use Rattle.std.proofs.lemmas.Bool.{ltb-true, lt-ltb}
use Rattle.swh_fastcook.proofs.Lengths.{long_by, by_long, text_by}
use Rattle.swh_fastcook.proofs.length.is_long_stream.Goals as goal

pub returns-clause-long : goal.returns-clause-long
returns-clause-long g c =
    let bodies = (g.L.Look.archive c.args.look.now).bodies in
    let length = c.in_ok-length.length in
    let has = c.in_ok-length.ensures in
    (λ more. long_by bodies c.args.marks.now c.args.root length has (ltb-true 4294967296 length more), λ h. lt-ltb 4294967296 length (by_long bodies c.args.marks.now c.args.root length has h))

pub returns-clause-text : goal.returns-clause-text
returns-clause-text g c = text_by (g.L.Look.archive c.args.look.now).bodies c.args.marks.now c.args.root c.in_ok-length.length c.in_ok-length.ensures
