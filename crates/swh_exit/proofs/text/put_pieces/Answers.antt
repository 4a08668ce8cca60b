use Rattle.std.proofs.Common.{take, ap, sym, ◌∙◌, ◌++◌, ◌∷◌, []}
use Rattle.std.proofs.lemmas.List.{take_more}
use Rattle.swh_exit.proofs.Told.{some_of_pieces}
use Rattle.swh_exit.proofs.text.put_pieces.Goals as goal

pub returns-in-Err-clause-bytes : goal.returns-in-Err-clause-bytes
returns-in-Err-clause-bytes g c told =
    let pieces = c.args.pieces.now in
    let i = c.loop-piece.piece-index in
    let piece = c.piece-item.result in
    let more = take_more pieces i piece c.loop-piece-test.true ∙ ap (λ p. take i pieces ++ p ∷ []) (sym c.piece-item.is) in
    record { ok = tt; err = some_of_pieces _ _ _ pieces i piece more (c.loop-piece.invariant.taken told) (rw c.as_slice.ensures at (c.in-Err.ensures.bytes told).err) }
