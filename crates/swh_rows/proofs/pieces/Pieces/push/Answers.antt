use Rattle.std.proofs.Common.{◌≡◌, [], ◌∷◌, ◌++◌}
use Rattle.swh_rows.specs.Pieces.{joined}
use Rattle.swh_rows.proofs.StandLemmas.{on_ok}
use Rattle.swh_rows.proofs.PieceLemmas.{rows-grown}
use Rattle.swh_rows.proofs.pieces.Pieces.push.Goals as goal

pub returns-clause-ok : goal.returns-clause-ok
returns-clause-ok g c =
    let old = c.self.inside.lists.items in
    let new = c.push_list.new.lists.items in
    on_ok c.push_list.result (new ≡ old ++ c.args.list ∷ []) (joined new ≡ c.args.self.now ++ c.args.list) c.push_list.ensures.ok
    (λ more. rows-grown old new c.args.list c.args.self.now c.self.view_is more)
