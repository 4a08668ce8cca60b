use Rattle.std.proofs.Common.{◌≡◌, refl, sym, subst}
use Rattle.swh_outside.specs.Files.{files_of, files_done}
use Rattle.swh_segment.specs.Making.{barriers}
use Rattle.swh_keeper.proofs.KeptLemmas.{ledger_place, store_place}
use Rattle.swh_keeper.proofs.OpenedLemmas.{opened_keeping, owners_keep}
use Rattle.swh_keeper.proofs.ReadLemmas.{the_one}
use Rattle.swh_segment.proofs.Barriers.{both_images}
use Rattle.swh_keeper.proofs.OwnLemmas.{no_damage, opening_leaves_own}
use Rattle.swh_keeper.proofs.keeper.Keeper.open.Goals as goal

pub at-requires-after_bounds : goal.at-requires-after_bounds
at-requires-after_bounds g c κs within told =
    let done = c.in-Ok.ensures in
    let opened = c.in-Ok.opened in
    let keeping = opened_keeping g.N.Namer.id_of g.D.Disk.tells (g.D.Disk.file c.args.ledger) (g.D.Disk.file c.args.store) (g.D.Disk.file c.open_archive.new.ledger) (g.D.Disk.file c.open_archive.new.store) opened.replayed opened.history.items
    done.whole.history done.whole.in_files done.whole.replay done.calls done.stand in
    store_place (g.D.Disk.file c.open_archive.new.ledger) (g.D.Disk.file c.open_archive.new.store) opened.history.items opened.replayed.store_end opened.replayed.ledger_end (keeping.settled refl told)

pub at-requires-in-Ok-after_bounds : goal.at-requires-in-Ok-after_bounds
at-requires-in-Ok-after_bounds g c κs within told =
    let done = c.in-Ok.ensures in
    let opened = c.in-Ok.opened in
    let keeping = opened_keeping g.N.Namer.id_of g.D.Disk.tells (g.D.Disk.file c.args.ledger) (g.D.Disk.file c.args.store) (g.D.Disk.file c.open_archive.new.ledger) (g.D.Disk.file c.open_archive.new.store) opened.replayed opened.history.items
    done.whole.history done.whole.in_files done.whole.replay done.calls done.stand in
    ledger_place (g.D.Disk.file c.open_archive.new.ledger) (g.D.Disk.file c.open_archive.new.store) opened.history.items opened.replayed.store_end opened.replayed.ledger_end (keeping.settled refl told)

pub invariant_of-result : goal.invariant_of-result
invariant_of-result g c =
    let done = c.in-Ok.ensures in
    let opened = c.in-Ok.opened in
    owners_keep g.N.Namer.id_of g.D.Disk.tells g.D.Disk.file c.at-in-Ok.result c.at.result c.open_archive.new.ledger c.open_archive.new.store opened.replayed opened.history.items
    c.at-in-Ok.ensures.disk c.at.ensures.disk c.at-in-Ok.ensures.end c.at.ensures.end
    (opened_keeping g.N.Namer.id_of g.D.Disk.tells (g.D.Disk.file c.args.ledger) (g.D.Disk.file c.args.store) (g.D.Disk.file c.open_archive.new.ledger) (g.D.Disk.file c.open_archive.new.store) opened.replayed opened.history.items
    done.whole.history done.whole.in_files done.whole.replay done.calls done.stand)

pub returns-in-Ok-clause-history : goal.returns-in-Ok-clause-history
returns-in-Ok-clause-history g c told h stands is =
    the_one g.N.Namer.id_of _ _ c.in-Ok.opened.history.items h (c.in-Ok.ensures.stand told) c.in-Ok.ensures.whole.history stands is

pub returns-in-Ok-clause-calls : goal.returns-in-Ok-clause-calls
returns-in-Ok-clause-calls g c told =
    let done = files_done barriers (files_of (g.D.Disk.file c.args.ledger) (g.D.Disk.file c.args.store)) in
    subst (λ (d : g.row.D.Denot). files_of (g.D.Disk.file c.at-in-Ok.result.disk) (g.D.Disk.file d) ≡ done) (sym c.at.ensures.disk)
    (subst (λ (d : g.row.D.Denot). files_of (g.D.Disk.file d) (g.D.Disk.file c.open_archive.new.store) ≡ done) (sym c.at-in-Ok.ensures.disk) (c.in-Ok.ensures.calls told))

pub returns-in-Err-clause-undamaged : goal.returns-in-Err-clause-undamaged
returns-in-Err-clause-undamaged g c told own =
    no_damage g.N.Namer.id_of (files_of (g.D.Disk.file c.args.ledger) (g.D.Disk.file c.args.store)) own c.in-Err.why (c.in-Err.ensures.damaged told)

pub returns-in-Err-clause-own : goal.returns-in-Err-clause-own
returns-in-Err-clause-own g c told own =
    let ledger = c.open_archive.new.ledger in
    let store = c.open_archive.new.store in
    let sees = (g.met.D.Disk g.world.𝓛 g.world.𝓜 g.world.𝓡 ((λ s x. x), (λ x. x), (λ x. x), λ x. x)).sees_image in
    opening_leaves_own g.N.Namer.id_of (files_of (g.D.Disk.file c.args.ledger) (g.D.Disk.file c.args.store)) own c.in-Err.why (files_of (g.D.Disk.file ledger) (g.D.Disk.file store))
    (both_images (g.D.Disk.file ledger) (g.D.Disk.file store) (g.D.Disk.file ledger) (g.D.Disk.file store) (sees ledger told) (sees store told))
    (c.in-Err.ensures.left told)
