use Rattle.std.proofs.Common.{◌≡◌, ◌++◌, rules}
use Rattle.swh_dedup.specs.Whole.{names_of}
use Rattle.swh_batchread.proofs.NamesKnown.{names_known, objects_more}
use Rattle.swh_batchread.proofs.names.add_object.Goals as goal

pub returns : goal.returns
returns g c = λ before knows.
    let kids : c.extend_from_slice.new.self.items ≡ c.args.known.now.kids.items ++ c.args.object.now.kids = search rules in
    objects_more before c.args.object.now c.args.known.now (record { names = c.add_name.new.names; kids = c.extend_from_slice.new.self }) c.name-name.result knows c.name-name.ensures.name (c.in_ok-add_name.ensures (names_of before) (names_known before c.args.known.now knows)) kids
