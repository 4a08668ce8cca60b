use Rattle.std.proofs.Common.{◌∙◌, ap, sym, length}
use Rattle.swh_rows.proofs.PieceLemmas.{start-all}
use Rattle.swh_rows.proofs.pieces.Pieces.len.Goals as goal

pub returns : goal.returns
returns g c =
    let p = c.self.inside in
    c.start_of.ensures
    ∙ start-all p.lists.items c.as_slice.result.now c.len.result (c.as_slice.ensures.value ∙ c.self.invariant) (c.len.ensures ∙ sym c.as_slice.ensures.len)
    ∙ ap length c.self.view_is
