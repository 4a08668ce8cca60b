use Rattle.std.proofs.Common.{◌≡◌, Some, None, Ok, sym, ap, ◌∙◌}
use Rattle.swh_outside.specs.Views.{sources}
use Rattle.swh_ingest.specs.declared.parts.Next.TheVariants as next
use Rattle.swh_inputs.specs.declared.bad.InputFault.TheVariants.{ReadFault}
use Rattle.swh_inputs.proofs.Batchings.{off_quiet, told_next}
use Rattle.swh_inputs.proofs.batching.next_of_batch.Goals as goal

pub returns-in-Ok-More-clause-given : goal.returns-in-Ok-More-clause-given
returns-in-Ok-More-clause-given g c = λ source others given h. rw c.in-Ok-More.field-0-is at (rw c.in-Ok-More.is at (c.next.ensures.given source others given h))

pub returns-in-Ok-Last-clause-given : goal.returns-in-Ok-Last-clause-given
returns-in-Ok-Last-clause-given g c = λ source others given h. rw c.in-Ok-Last.field-0-is at (rw c.in-Ok-Last.is at (c.next.ensures.given source others given h))

pub returns-in_ok-fault_of_batch-in-Err-clause-given : goal.returns-in_ok-fault_of_batch-in-Err-clause-given
returns-in_ok-fault_of_batch-in-Err-clause-given g c = λ source others given h.
    let broke = rw c.in-Err.is at (c.next.ensures.err source others given h) in
    told_next g.row.N.Denot g.N.Namer.id_of (sources g.S.Source.tells g.S.Source.left g.S.Source.faults g.S.Source.path) source others given c.next.new.self _ _ c.in-Err.fault _ c.in_ok-fault_of_batch-in-Err.ensures.told broke

pub returns-in-Ok-More-clause-on : goal.returns-in-Ok-More-clause-on
returns-in-Ok-More-clause-on g c = λ more. record {
  still = rw c.in-Ok-More.field-0-is at (rw c.in-Ok-More.is at c.next.ensures.within);
  onward = rw c.in-Ok-More.field-0-is at (rw c.in-Ok-More.is at c.next.ensures.onward);
}

pub returns-in-Ok-More-clause-quiet : goal.returns-in-Ok-More-clause-quiet
returns-in-Ok-More-clause-quiet g c = λ source others given h untold.
    let still = rw c.in-Ok-More.field-0-is at (rw c.in-Ok-More.is at (c.next.ensures.given source others given h)) in
    record { quiet = still.quiet; quiet_refs = ap g.S.Source.faults still.same_refs }

pub returns-in-Ok-Last-clause-quiet : goal.returns-in-Ok-Last-clause-quiet
returns-in-Ok-Last-clause-quiet g c = λ source others given h untold.
    let ends = rw c.in-Ok-Last.field-0-is at (rw c.in-Ok-Last.is at (c.next.ensures.given source others given h)) in
    record { quiet = ends.quiet; quiet_refs = ends.quiet_refs }

pub returns-in_ok-fault_of_batch-in-Err-clause-quiet : goal.returns-in_ok-fault_of_batch-in-Err-clause-quiet
returns-in_ok-fault_of_batch-in-Err-clause-quiet g c = λ source others given h untold.
    let broke = rw c.in-Err.is at (c.next.ensures.err source others given h) in
    off_quiet g.N.Namer.id_of (sources g.S.Source.tells g.S.Source.left g.S.Source.faults g.S.Source.path) source others given _ _ c.in-Err.fault broke
    (λ e. untold (let same : Some c.in_ok-fault_of_batch-in-Err.field-0 ≡ Some ReadFault = sym c.in_ok-fault_of_batch-in-Err.ensures.told ∙ e in let failed : c.in_ok-fault_of_batch-in-Err.field-0 ≡ ReadFault = cc in ap (λ f. Ok (next.Bad f)) failed))

pub returns-in_err-fault_of_batch-in-Err-clause-quiet : goal.returns-in_err-fault_of_batch-in-Err-clause-quiet
returns-in_err-fault_of_batch-in-Err-clause-quiet g c = λ source others given h untold.
    let broke = rw c.in-Err.is at (c.next.ensures.err source others given h) in
    off_quiet g.N.Namer.id_of (sources g.S.Source.tells g.S.Source.left g.S.Source.faults g.S.Source.path) source others given _ _ c.in-Err.fault broke
    (λ e. let none : None ≡ Some ReadFault = sym c.in_err-fault_of_batch-in-Err.ensures.memory ∙ e in absurd cc)
