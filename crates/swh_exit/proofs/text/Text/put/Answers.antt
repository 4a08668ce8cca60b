use Rattle.std.proofs.Common.{rules, ◌≡◌, ◌++◌, flat_map, subst, ℕ, List, Err}
use Rattle.swh_outside.specs.Sink.{IsPut}
use Rattle.swh_exit.proofs.Told.{some_of_first, put_both}
use Rattle.swh_exit.proofs.text.Text.put.Goals as goal

pub returns-in-Err-clause-bytes : goal.returns-in-Err-clause-bytes
returns-in-Err-clause-bytes g c told =
    let pieces = flat_map (λ piece. piece) c.self.inside.pieces.items in
    let view : pieces ++ c.self.inside.last ≡ c.args.self.now = search rules in
    let some = some_of_first _ pieces c.self.inside.last _ (rw c.as_slice.ensures.value at (c.in-Err.ensures.bytes told).err) in
    subst (λ (l : List ℕ). IsPut (g.K.Sink.taken c.args.sink.now) l (g.K.Sink.taken c.put_pieces.new.sink) (Err c.in-Err.failed)) view (record { ok = tt; err = some })

pub returns-clause-bytes : goal.returns-clause-bytes
returns-clause-bytes g c told =
    let pieces = flat_map (λ piece. piece) c.self.inside.pieces.items in
    let view : pieces ++ c.self.inside.last ≡ c.args.self.now = search rules in
    let first = rw c.as_slice.ensures.value at (c.in_default.ensures.bytes told).ok in
    let both = put_both _ pieces c.self.inside.last _ _ c.put_some.result first (rw c.as_slice-2.ensures at c.put_some.ensures.bytes told) in
    subst (λ (l : List ℕ). IsPut (g.K.Sink.taken c.args.sink.now) l (g.K.Sink.taken c.put_some.new.sink) c.put_some.result) view both
