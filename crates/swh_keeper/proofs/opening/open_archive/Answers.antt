use Rattle.std.proofs.Common.{◌≡◌, ◌∙◌, refl, ap, subst, List, ℕ}
use Rattle.std.proofs.lemmas.Result.{IfErr-weaker}
use Rattle.swh_outside.specs.Disk.{File}
use Rattle.swh_outside.specs.Files.{files_of}
use Rattle.swh_segment.specs.Making.{IsMade, IsNotMade}
use Rattle.swh_format.specs.Stands.{StandsFor}
use Rattle.swh_model.proofs.Results.{if_err_all, if_ok_then}
use Rattle.swh_keeper.specs.Damage.{IfDamagedAt, IsDamagedAt}
use Rattle.swh_keeper.specs.declared.opening.OpenWhy.TheVariants.{NotMade}
use Rattle.swh_keeper.proofs.ReadLemmas.{left_settled, ledger_seen, store_seen, why_exits, on_any}
use Rattle.swh_keeper.proofs.opening.open_archive.Goals as goal

pub returns-in_err-check_made-clause-not_made : goal.returns-in_err-check_made-clause-not_made
returns-in_err-check_made-clause-not_made g c told is =
    let settled = (c.in_ok-settle.ensures.runs told).ok in
    let ledger = ledger_seen (g.D.Disk.file c.args.ledger.now) (g.D.Disk.file c.args.store.now) _ (g.D.Disk.file c.settle.new.store) settled in
    let x = c.in_err-check_made.field-0.0 in
    subst IsNotMade ledger (c.in_err-check_made.ensures.not_made told (why_exits _ _ x NotMade c.from_residual-in_err-check_made.ensures.1 refl is))

pub returns-in_err-check_made-clause-left : goal.returns-in_err-check_made-clause-left
returns-in_err-check_made-clause-left g c told =
    let settled = (c.in_ok-settle.ensures.runs told).ok in
    let same = ap (λ (f : File). files_of f (g.D.Disk.file c.settle.new.store)) (c.in_err-check_made.ensures.reads.same told) in
    if_err_all _ _ (λ why. left_settled why _ _ (same ∙ settled))

pub returns-clause-stand : goal.returns-clause-stand
returns-clause-stand g c told =
    let settled = (c.in_ok-settle.ensures.runs told).ok in
    let ledger = ap (λ (f : File). f.seen) (c.in_ok-check_made.ensures.reads.same told) ∙ ledger_seen (g.D.Disk.file c.args.ledger.now) (g.D.Disk.file c.args.store.now) _ (g.D.Disk.file c.settle.new.store) settled in
    let store = store_seen (g.D.Disk.file c.args.ledger.now) (g.D.Disk.file c.args.store.now) (g.D.Disk.file c.settle.new.ledger) _ settled in
    if_ok_then c.read_archive.result _ _ (c.read_archive.ensures.stand told)
    (λ x s. subst (λ (l : List ℕ). StandsFor l (g.D.Disk.file c.args.store.now).seen x.history.items) ledger (subst (λ (l : List ℕ). StandsFor (g.D.Disk.file c.check_made.new.ledger).seen l x.history.items) store s))

pub returns-clause-made : goal.returns-clause-made
returns-clause-made g c told =
    let settled = (c.in_ok-settle.ensures.runs told).ok in
    let ledger = ledger_seen (g.D.Disk.file c.args.ledger.now) (g.D.Disk.file c.args.store.now) _ (g.D.Disk.file c.settle.new.store) settled in
    on_any c.read_archive.result _ (subst IsMade ledger (c.in_ok-check_made.ensures.made told))

pub returns-clause-calls : goal.returns-clause-calls
returns-clause-calls g c told =
    let settled = (c.in_ok-settle.ensures.runs told).ok in
    let ledger = c.read_archive.ensures.reads.same_ledger told ∙ c.in_ok-check_made.ensures.reads.same told in
    let store = c.read_archive.ensures.reads.same_store told in
    let same : files_of (g.D.Disk.file c.read_archive.new.ledger) (g.D.Disk.file c.read_archive.new.store) ≡ files_of (g.D.Disk.file c.settle.new.ledger) (g.D.Disk.file c.settle.new.store) = λ i. files_of (ledger i) (store i) in
    on_any c.read_archive.result _ (same ∙ settled)

pub returns-clause-damaged : goal.returns-clause-damaged
returns-clause-damaged g c told =
    let settled = (c.in_ok-settle.ensures.runs told).ok in
    let ledger = ap (λ (f : File). f.seen) (c.in_ok-check_made.ensures.reads.same told) ∙ ledger_seen (g.D.Disk.file c.args.ledger.now) (g.D.Disk.file c.args.store.now) _ (g.D.Disk.file c.settle.new.store) settled in
    let store = store_seen (g.D.Disk.file c.args.ledger.now) (g.D.Disk.file c.args.store.now) (g.D.Disk.file c.settle.new.ledger) _ settled in
    IfErr-weaker c.read_archive.result _ _
    (λ why d. subst (λ (l : List ℕ). IfDamagedAt why (IsDamagedAt g.N.Namer.id_of l (g.D.Disk.file c.args.store.now).seen)) ledger
    (subst (λ (l : List ℕ). IfDamagedAt why (IsDamagedAt g.N.Namer.id_of (g.D.Disk.file c.check_made.new.ledger).seen l)) store d)) (c.read_archive.ensures.damaged told)

pub returns-clause-left : goal.returns-clause-left
returns-clause-left g c told =
    let settled = (c.in_ok-settle.ensures.runs told).ok in
    let ledger = c.read_archive.ensures.reads.same_ledger told ∙ c.in_ok-check_made.ensures.reads.same told in
    let store = c.read_archive.ensures.reads.same_store told in
    let same : files_of (g.D.Disk.file c.read_archive.new.ledger) (g.D.Disk.file c.read_archive.new.store) ≡ files_of (g.D.Disk.file c.settle.new.ledger) (g.D.Disk.file c.settle.new.store) = λ i. files_of (ledger i) (store i) in
    if_err_all _ _ (λ why. left_settled why _ _ (same ∙ settled))
