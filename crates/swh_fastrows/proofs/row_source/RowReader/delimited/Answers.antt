use Rattle.std.proofs.Common.{arith, ◌≡◌, refl, sym, ap, ◌∙◌, length}
use Rattle.swh_fastrows.specs.Places.{ReaderState}
use Rattle.swh_fastrows.proofs.HeldLines.{lines_faults}
use Rattle.swh_fastrows.proofs.row_source.RowReader.delimited.Goals as goal

pub returns-clause-fails : goal.returns-clause-fails
returns-clause-fails g c = λ told.
    let place : c.self.inside.at ≡ c.args.self.now.at = ap (λ (p : ReaderState). p.at) c.self.view_is in
    let counted = c.self.invariant.counted in
    let empty = ap length (ap (λ (p : ReaderState). p.held) c.self.view_is ∙ c.requires.empty) in
    lines_faults c.next_delimited-bytes.result c.args.self.now _ c.args.word.now c.args.limit _ _ _ _ (sym (ap (λ (p : ReaderState). p.rest) c.self.view_is)) refl (omega (arith, counted, empty, place)) (sym c.place-self-inside.ensures) (c.next_delimited-bytes.ensures.fault told)
