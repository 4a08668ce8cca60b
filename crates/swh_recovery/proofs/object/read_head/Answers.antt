use Rattle.std.proofs.Common.{rules, ◌≡◌, ℕ, ap, ◌∙◌, arith}
use Rattle.swh_format.specs.Kinds.{head_fields}
use Rattle.swh_recovery.specs.Fields.{FieldsBreak}
use Rattle.swh_recovery.specs.Reading.{window, IsHeadOf}
use Rattle.swh_recovery.specs.declared.fault.ReadFault.TheVariants.{Harmed}
use Rattle.swh_recovery.proofs.FrameLemmas.{exits}
use Rattle.swh_recovery.proofs.ObjectLemmas.{head_begins, head_breaks, head_long}
use Rattle.swh_recovery.proofs.object.read_head.Goals as goal

pub returns-in_err-head-clause-harm : goal.returns-in_err-head-clause-harm
returns-in_err-head-clause-harm g c told =
    let seen = (g.D.Disk.file c.args.store.now).seen in
    let front = c.held.result.now in
    let size = c.held.ensures.all (c.in_ok-reach.ensures.reaches told) in
    let is : front ≡ window seen c.args.at c.min-count.result = c.held.ensures.stand seen (c.in_ok-reach.ensures.piece told) ∙ ap (λ (n : ℕ). window seen c.args.at n) size in
    let x = c.in_err-head.field-0.0 in
    let b : FieldsBreak head_fields front c.args.at x = search rules in
    exits _ _ (Harmed x) c.from_residual-in_err-head.ensures.1 (head_breaks seen front c.args.at c.min-count.result c.args.have is size c.min-count.ensures x b)

pub returns-clause-ok : goal.returns-clause-ok
returns-clause-ok g c told =
    let seen = (g.D.Disk.file c.args.store.now).seen in
    let front = c.held.result.now in
    let size = c.held.ensures.all (c.in_ok-reach.ensures.reaches told) in
    let is : front ≡ window seen c.args.at c.min-count.result = c.held.ensures.stand seen (c.in_ok-reach.ensures.piece told) ∙ ap (λ (n : ℕ). window seen c.args.at n) size in
    let head : IsHeadOf front c.in_ok-head.head c.in_ok-head._rest.now = search rules in
    head_begins seen front c.args.at c.min-count.result c.args.have is size c.min-count.ensures c.in_ok-head.head c.in_ok-head._rest.now head

pub returns-clause-whole : goal.returns-clause-whole
returns-clause-whole g c =
    let head : IsHeadOf c.held.result.now c.in_ok-head.head c.in_ok-head._rest.now = search rules in
    let long = head_long c.held.result.now c.in_ok-head._rest.now c.in_ok-head.head head in
    let short = c.held.ensures.short in
    let count = c.min-count.ensures in
    omega (arith, long, short, count)
