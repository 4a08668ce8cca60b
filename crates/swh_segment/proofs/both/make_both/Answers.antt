use Rattle.std.proofs.Common.{◌≡◌, [], ℕ, sym, subst}
use Rattle.swh_outside.specs.Files.{files_of, files_done}
use Rattle.swh_segment.specs.Making.{making_calls}
use Rattle.swh_segment.specs.Settled.{AreSettled}
use Rattle.swh_segment.proofs.Appends.{in_file}
use Rattle.swh_segment.proofs.Owners.{made_both, empty_settled}
use Rattle.swh_segment.proofs.both.make_both.Goals as goal

pub at-requires-in-Ok-after_bounds : goal.at-requires-in-Ok-after_bounds
at-requires-in-Ok-after_bounds g c κs within told =
    let old = files_of (g.D.Disk.file c.args.ledger) (g.D.Disk.file c.args.store) in
    in_file (g.D.Disk.file c.make.new.ledger) [] 8 (made_both old (files_of (g.D.Disk.file c.make.new.ledger) (g.D.Disk.file c.make.new.store)) (c.in-Ok.ensures.not_made told) (c.in-Ok.ensures.calls told).ok).ledger

pub returns-in-Ok-clause-calls : goal.returns-in-Ok-clause-calls
returns-in-Ok-clause-calls g c told =
    let made = files_done (making_calls (g.D.Disk.file c.args.ledger).seen) (files_of (g.D.Disk.file c.args.ledger) (g.D.Disk.file c.args.store)) in
    subst (λ (d : g.row.D.Denot). files_of (g.D.Disk.file c.at-in-Ok.result.disk) (g.D.Disk.file d) ≡ made) (sym c.at.ensures.disk)
    (subst (λ (d : g.row.D.Denot). files_of (g.D.Disk.file d) (g.D.Disk.file c.make.new.store) ≡ made) (sym c.at-in-Ok.ensures.disk) (c.in-Ok.ensures.calls told).ok)

pub returns-in-Ok-clause-settled : goal.returns-in-Ok-clause-settled
returns-in-Ok-clause-settled g c told =
    let old = files_of (g.D.Disk.file c.args.ledger) (g.D.Disk.file c.args.store) in
    let now = files_of (g.D.Disk.file c.make.new.ledger) (g.D.Disk.file c.make.new.store) in
    let settled = empty_settled now (made_both old now (c.in-Ok.ensures.not_made told) (c.in-Ok.ensures.calls told).ok) in
    subst (λ (d : g.row.D.Denot). AreSettled (files_of (g.D.Disk.file c.at-in-Ok.result.disk) (g.D.Disk.file d)) [] c.at.result.end c.at-in-Ok.result.end) (sym c.at.ensures.disk)
    (subst (λ (d : g.row.D.Denot). AreSettled (files_of (g.D.Disk.file d) (g.D.Disk.file c.make.new.store)) [] c.at.result.end c.at-in-Ok.result.end) (sym c.at-in-Ok.ensures.disk)
    (subst (λ (n : ℕ). AreSettled (files_of (g.D.Disk.file c.make.new.ledger) (g.D.Disk.file c.make.new.store)) [] n c.at-in-Ok.result.end) (sym c.at.ensures.end)
    (subst (λ (n : ℕ). AreSettled (files_of (g.D.Disk.file c.make.new.ledger) (g.D.Disk.file c.make.new.store)) [] 0 n) (sym c.at-in-Ok.ensures.end) settled)))
