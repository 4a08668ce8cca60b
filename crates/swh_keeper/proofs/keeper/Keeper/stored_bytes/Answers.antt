use Rattle.std.proofs.Common.{◌≡◌, ◌+◌, ◌≤◌, List, take, drop, ap, ◌∙◌, subst, sym}
use Rattle.swh_model.specs.declared.event.Event.{Event}
use Rattle.swh_model.specs.Limits.{store_length}
use Rattle.swh_model.proofs.Results.{if_ok_then}
use Rattle.swh_format.specs.Stands.{coded_runs}
use Rattle.swh_keeper.proofs.StoredLemmas.{runs_within, runs_part}
use Rattle.swh_keeper.proofs.keeper.Keeper.stored_bytes.Goals as goal

pub returns-clause-bytes : goal.returns-clause-bytes
returns-clause-bytes g c told =
    let inside = c.self.inside in
    let same = ap (λ k. k.history) c.self.view_is in
    let settled = c.self.invariant.keeping.settled (ap (λ k. k.wounded) c.self.view_is ∙ c.requires.unwounded) told in
    let within = subst (λ (h : List Event). c.args.at + c.args.size ≤ store_length h) (sym same) c.requires.within in
    if_ok_then c.read_bytes.result (λ bytes. bytes.items ≡ take c.args.size (drop c.args.at (g.D.Disk.file inside.store.disk).seen))
    (λ bytes. bytes.items ≡ take c.args.size (drop c.args.at (coded_runs c.args.self.now.history)))
    (c.read_bytes.ensures.bytes told (runs_within (g.D.Disk.file inside.ledger.disk) (g.D.Disk.file inside.store.disk) inside.history.items _ _ c.args.at c.args.size settled within))
    (λ bytes is. is ∙ runs_part (g.D.Disk.file inside.ledger.disk) (g.D.Disk.file inside.store.disk) inside.history.items _ _ c.args.at c.args.size settled within
    ∙ ap (λ (h : List Event). take c.args.size (drop c.args.at (coded_runs h))) same)
