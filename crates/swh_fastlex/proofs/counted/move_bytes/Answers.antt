use Rattle.std.proofs.Common.{rules, ◌≡◌, ◌++◌, length, take, ℕ}
use Rattle.std.specs.Prelude.{min}
use Rattle.swh_fastlex.proofs.Windows.{moves_bytes}
use Rattle.swh_fastlex.proofs.counted.move_bytes.Goals as goal

pub returns-clause-moved : goal.returns-clause-moved
returns-clause-moved c =
    let n : ℕ = c.min-count.result in
    let least : n ≡ min c.args.room (length c.args.window.now.bytes) = search rules in
    let joined : c.extend_from_slice.new.self.items ≡ c.args.bytes.now.items ++ take n c.args.window.now.bytes = search rules in
    moves_bytes c.args.window.now c.skip.new.self c.args.bytes.now.items c.extend_from_slice.new.self.items c.args.room n c.requires.some least c.skip.ensures.bytes c.skip.ensures.place joined
