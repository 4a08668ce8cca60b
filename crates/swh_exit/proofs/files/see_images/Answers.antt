use Rattle.swh_segment.proofs.Barriers.{both_images}
use Rattle.swh_exit.proofs.files.see_images.Goals as goal

pub returns : goal.returns
returns g c told =
    let sees = (g.met.D.Disk g.world.𝓛 g.world.𝓜 g.world.𝓡 ((λ s x. x), (λ x. x), (λ x. x), λ x. x)).sees_image in
    both_images (g.D.Disk.file c.args.files.now.ledger) (g.D.Disk.file c.args.files.now.store) (g.D.Disk.file c.args.files.now.ledger) (g.D.Disk.file c.args.files.now.store)
    (sees c.args.files.now.ledger told) (sees c.args.files.now.store told)
