use Rattle.std.proofs.Common.{List, refl, sym, ◌∙◌, subst}
use Rattle.std.specs.Option.{option_copied}
use Rattle.swh_base.specs.declared.entry.Entry.{Entry}
use Rattle.swh_fastload.specs.Giving.{GoesOn}
use Rattle.swh_fastload.proofs.Givings.{all_ended, quiet_fault}
use Rattle.swh_fastload.proofs.input.load_all.Goals as goal

pub stream-init : goal.stream-init
stream-init g c = record {
  goes = λ text faults path h. subst (λ (es : List Entry). GoesOn g.N.Namer.id_of g.S.Source.tells text faults path es c.args.parts.now) (sym c.new-objects.ensures.items) h;
  same_path = refl;
  quiet = refl;
}

pub stream-preserved : goal.stream-preserved
stream-preserved g c = record {
  goes = λ text faults path h.
      let next = rw c.in-Ok-More.field-0-is at (rw c.in-Ok-More.is at (c.next.ensures.given text faults path c.stream.objects.items (c.stream.invariant.goes text faults path h))) in
      subst (λ (es : List Entry). GoesOn g.N.Namer.id_of g.S.Source.tells text faults path es c.next.new.self) (sym c.in_ok-append.ensures.items) next;
  same_path = c.next.ensures.same_path ∙ c.stream.invariant.same_path;
  quiet = (let is = c.in-Ok-More.is in c.next.ensures.quiet (λ h. cc)) ∙ c.stream.invariant.quiet;
}

pub returns-in-Ok-Last-clause-given : goal.returns-in-Ok-Last-clause-given
returns-in-Ok-Last-clause-given g c = λ text faults path h.
    let next = rw c.in-Ok-Last.field-0-is at (rw c.in-Ok-Last.is at (c.next.ensures.given text faults path c.stream.objects.items (c.stream.invariant.goes text faults path h))) in
    all_ended g.N.Namer.id_of g.S.Source.tells (option_copied c.args.head) text faults path c.next.new.self c.stream.objects.items c.in-Ok-Last.last _ c.in_ok-with_last-in-Ok-Last.ensures.objects c.in_ok-with_last-in-Ok-Last.ensures.snapshot next

pub returns-in-Err-clause-err : goal.returns-in-Err-clause-err
returns-in-Err-clause-err g c = λ text faults path h. rw c.in-Err.is at (c.next.ensures.err text faults path c.stream.objects.items (c.stream.invariant.goes text faults path h))

pub returns-in-Err-clause-quiet : goal.returns-in-Err-clause-quiet
returns-in-Err-clause-quiet g c = λ other. quiet_fault c.next.result c.in-Err.fault _ _ c.in-Err.is c.next.ensures.quiet other ∙ c.stream.invariant.quiet
