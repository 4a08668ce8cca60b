use Rattle.std.proofs.Common.{[], ℕ, subst}
use Rattle.swh_outside.specs.Files.{files_of}
use Rattle.swh_segment.specs.Settled.{AreSettled}
use Rattle.swh_keeper.proofs.ApplyLemmas.{keeping-empty, beginnings}
use Rattle.swh_keeper.proofs.ReadLemmas.{left_of_making}
use Rattle.swh_segment.proofs.Barriers.{both_images}
use Rattle.swh_keeper.proofs.OwnLemmas.{making_leaves_own}
use Rattle.swh_keeper.proofs.keeper.Keeper.make.Goals as goal

pub invariant_of-result : goal.invariant_of-result
invariant_of-result g c =
    let both = c.in-Ok.both in
    let r = c.new.result in
    let ends = beginnings r both.store.end both.ledger.end c.new.ensures.replay c.in-Ok.ensures.store_end c.in-Ok.ensures.end in
    record {
      keeping = keeping-empty g.N.Namer.id_of g.D.Disk.tells (g.D.Disk.file both.ledger.disk) (g.D.Disk.file both.store.disk) r c.new-in-Ok.result.items c.new-in-Ok.ensures.items c.new.ensures.replay c.new.ensures.in_files
          (λ told.
          subst (λ (m : ℕ). AreSettled (files_of (g.D.Disk.file both.ledger.disk) (g.D.Disk.file both.store.disk)) [] m r.ledger_end) ends.store
          (subst (λ (n : ℕ). AreSettled (files_of (g.D.Disk.file both.ledger.disk) (g.D.Disk.file both.store.disk)) [] both.store.end n) ends.ledger (c.in-Ok.ensures.settled told)));
      ends = λ _. ends;
    }

pub returns-in-Err-clause-left : goal.returns-in-Err-clause-left
returns-in-Err-clause-left g c told =
    let back = c.in-Err.back in
    left_of_making back.fault c.why_not_made.result (files_of (g.D.Disk.file c.args.ledger) (g.D.Disk.file c.args.store)) (files_of (g.D.Disk.file back.ledger) (g.D.Disk.file back.store))
    c.why_not_made.ensures (c.in-Err.ensures.same told) (c.in-Err.ensures.broken told)

pub returns-in-Err-clause-own : goal.returns-in-Err-clause-own
returns-in-Err-clause-own g c told own =
    let back = c.in-Err.back in
    let sees = (g.met.D.Disk g.world.𝓛 g.world.𝓜 g.world.𝓡 ((λ s x. x), (λ x. x), (λ x. x), λ x. x)).sees_image in
    making_leaves_own g.N.Namer.id_of (files_of (g.D.Disk.file c.args.ledger) (g.D.Disk.file c.args.store)) own c.why_not_made.result (files_of (g.D.Disk.file back.ledger) (g.D.Disk.file back.store))
    (both_images (g.D.Disk.file back.ledger) (g.D.Disk.file back.store) (g.D.Disk.file back.ledger) (g.D.Disk.file back.store) (sees back.ledger told) (sees back.store told))
    (returns-in-Err-clause-left g c told) (c.in-Err.ensures.spared told)
