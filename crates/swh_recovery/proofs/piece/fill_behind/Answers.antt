use Rattle.std.proofs.Common.{◌≡◌, ◌+◌, ◌-◌, ◌++◌, List, ℕ, length, take, ap, ◌∙◌, arith}
use Rattle.std.proofs.lemmas.Grind.{common_steps}
use Rattle.swh_recovery.proofs.PieceLemmas.{read_is}
use Rattle.swh_recovery.proofs.piece.fill_behind.Goals as goal

pub returns-clause-filled : goal.returns-clause-filled
returns-clause-filled g c told =
    let seen = (g.D.Disk.file c.args.disk.now).seen in
    let front = c.args.front.now in
    let after : c.copy_from_slice.new.self ≡ c.args.front.now = c.copy_from_slice.ensures.after in
    let sized : length c.fill.new.out ≡ length c.args.out.now - length c.args.front.now = grind (arith, common_steps, c.fill.auto.out, c.split_at_mut-begin.ensures.back_len) in
    let more = c.in_ok-more.more in
    ap (λ (l : List ℕ). take (length c.args.front.now + c.in_ok-more.more) (l ++ c.fill.new.out)) after
    ∙ read_is seen front c.fill.new.out c.args.at (length c.args.out.now) more c.requires.front (c.requires.stands told) (c.in_ok-more.ensures.filled told) c.in_ok-more.ensures.bound sized
