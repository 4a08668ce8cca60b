use Rattle.std.proofs.Common.{◌≡◌, List, ℕ, Option, Some, None, Ok, sym, ap, ◌∙◌, subst}
use Rattle.swh_fastload.specs.Giving.{BreaksOff, EndsStream}
use Rattle.swh_fastload.specs.declared.bad.InputFault.TheVariants as of_stream
use Rattle.swh_ingest.specs.declared.parts.Next.TheVariants as next
use Rattle.swh_inputs.specs.Reading.{told_of_stream}
use Rattle.swh_inputs.specs.declared.bad.InputFault.TheVariants.{ReadFault}
use Rattle.swh_inputs.proofs.Streamings.{told_next}
use Rattle.swh_inputs.proofs.streaming.next_of_stream.Goals as goal

pub returns-in-Ok-More-clause-given : goal.returns-in-Ok-More-clause-given
returns-in-Ok-More-clause-given g c = λ text faults path given h. rw c.in-Ok-More.field-0-is at (rw c.in-Ok-More.is at (c.next.ensures.given text faults path given h))

pub returns-in-Ok-Last-clause-given : goal.returns-in-Ok-Last-clause-given
returns-in-Ok-Last-clause-given g c = λ text faults path given h.
    let last = rw c.in-Ok-Last.field-0-is at (rw c.in-Ok-Last.is at (c.next.ensures.given text faults path given h)) in
    subst (λ (head : Option (List ℕ)). EndsStream g.N.Namer.id_of g.S.Source.tells head text faults path given c.next.new.self c.in-Ok-Last.last) c.head_of.ensures last

pub returns-in_ok-fault_of_stream-in-Err-clause-given : goal.returns-in_ok-fault_of_stream-in-Err-clause-given
returns-in_ok-fault_of_stream-in-Err-clause-given g c = λ text faults path given h.
    let broke = rw c.in-Err.is at (c.next.ensures.err text faults path given h) in
    let off = subst (λ (head : Option (List ℕ)). BreaksOff g.N.Namer.id_of g.S.Source.tells head text faults c.next.new.self.standing.place.faults c.in-Err.fault) c.head_of.ensures broke in
    told_next g.row.N.Denot g.N.Namer.id_of g.S.Source.tells c.args.head.now text faults path given c.next.new.self c.in-Err.fault _ c.in_ok-fault_of_stream-in-Err.ensures.told off

pub returns-in-Ok-More-clause-on : goal.returns-in-Ok-More-clause-on
returns-in-Ok-More-clause-on g c = λ more. record {
  still = rw c.in-Ok-More.field-0-is at (rw c.in-Ok-More.is at c.next.ensures.still);
  onward = rw c.in-Ok-More.field-0-is at (rw c.in-Ok-More.is at c.next.ensures.onward);
}

pub returns-in-Ok-More-clause-quiet : goal.returns-in-Ok-More-clause-quiet
returns-in-Ok-More-clause-quiet g c = λ untold. let is = c.in-Ok-More.is in c.next.ensures.quiet (λ e. cc)

pub returns-in-Ok-Last-clause-quiet : goal.returns-in-Ok-Last-clause-quiet
returns-in-Ok-Last-clause-quiet g c = λ untold. let is = c.in-Ok-Last.is in c.next.ensures.quiet (λ e. cc)

pub returns-in_ok-fault_of_stream-in-Err-clause-quiet : goal.returns-in_ok-fault_of_stream-in-Err-clause-quiet
returns-in_ok-fault_of_stream-in-Err-clause-quiet g c = λ untold. c.next.ensures.quiet (λ e.
    let is = c.in-Err.is in
    let of_source : c.in-Err.fault ≡ of_stream.ReadFault = cc in
    let same : Some c.in_ok-fault_of_stream-in-Err.field-0 ≡ Some ReadFault = sym c.in_ok-fault_of_stream-in-Err.ensures.told ∙ ap told_of_stream of_source in
    let failed : c.in_ok-fault_of_stream-in-Err.field-0 ≡ ReadFault = cc in
    untold (ap (λ f. Ok (next.Bad f)) failed))

pub returns-in_err-fault_of_stream-in-Err-clause-quiet : goal.returns-in_err-fault_of_stream-in-Err-clause-quiet
returns-in_err-fault_of_stream-in-Err-clause-quiet g c = λ untold. c.next.ensures.quiet (λ e.
    let is = c.in-Err.is in
    let of_source : c.in-Err.fault ≡ of_stream.ReadFault = cc in
    let none : None ≡ Some ReadFault = sym c.in_err-fault_of_stream-in-Err.ensures.memory ∙ ap told_of_stream of_source in
    absurd cc)
