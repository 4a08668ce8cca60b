use Rattle.std.proofs.Common.{arith, refl, sym, ap, ◌∙◌, subst, Ok, Err, ◌++◌}
use Rattle.std.specs.Option.{option_copied}
use Rattle.swh_fastrows.specs.Places.{position}
use Rattle.swh_fastread.specs.Steps.{EndsHere}
use Rattle.swh_fastmeaning.specs.Commands.{step}
use Rattle.swh_fastload.specs.Reading.{FailsSo}
use Rattle.swh_fastload.proofs.Givings.{fails_off, ends_off, ends_part, last_still}
use Rattle.swh_fastload.proofs.Readings.{given_more, come_more, quiet_read, read_fails, feed_fails, rose_since, has_read, stops_at_end, ended, led, still_open}
use Rattle.swh_fastload.proofs.parts.next_part.Goals as goal

pub returns-in-Err-clause-err : goal.returns-in-Err-clause-err
returns-in-Err-clause-err g c = λ text faults path given h.
    let failed = read_fails g.N.Namer.id_of g.S.Source.tells c.args.reader.now.place c.args.reader.now.promised text c.args.load.now given faults c.next_command.new.self.place.faults c.in-Err.fail h.come (λ told. rw c.in-Err.is at (c.next_command.ensures.fails told h.still)) (λ e. rose_since c.args.reader.now.ending faults c.args.reader.now.place.faults c.next_command.new.self.place.faults h.still (omega (arith, h.quiet)) (c.next_command.ensures.cause (c.in-Err.is ∙ ap Err e))) (rw c.in-Err.is at (c.next_command.ensures.may h.still)) in
    fails_off g.N.Namer.id_of g.S.Source.tells (option_copied c.args.head) text faults c.next_command.new.self.place.faults c.read_fault.result (subst (FailsSo g.N.Namer.id_of g.S.Source.tells text faults c.next_command.new.self.place.faults) (sym c.read_fault.ensures) failed)

pub returns-in-Err-clause-quiet : goal.returns-in-Err-clause-quiet
returns-in-Err-clause-quiet g c = quiet_read c.next_command.result c.in-Err.fail c.read_fault.result _ _ c.in-Err.is c.read_fault.ensures c.next_command.ensures.heard

pub returns-in-Err-feed-clause-err : goal.returns-in-Err-feed-clause-err
returns-in-Err-feed-clause-err g c = λ text faults path given h.
    let rest = position c.args.reader.now.place c.args.reader.now.promised in
    let next = position c.next_command.new.self.place c.next_command.new.self.promised in
    let failed = feed_fails g.N.Namer.id_of g.S.Source.tells text rest next c.args.load.now given c.in-Ok-Some.command faults c.next_command.new.self.place.faults c.in-Err-feed.fault (λ told.
    let k = h.come told in
    let on = led c.args.reader.now c.next_command.new.self c.next_command.result c.in-Ok-Some.command (c.in-Ok-Some.is ∙ ap Ok c.in-Ok-Some.field-0-is) (c.next_command.ensures.command told h.still) in
    let refused = rw c.in-Err-feed.is at (c.feed.ensures.err k.loading k.is) in
    (k, on.starts, refused.explained)) (step g.N.Namer.id_of h.are.loading.aims c.in-Ok-Some.command) (let refused = rw c.in-Err-feed.is at (c.feed.ensures.err h.are.loading h.are.is) in refused.explained) in
    fails_off g.N.Namer.id_of g.S.Source.tells (option_copied c.args.head) text faults c.next_command.new.self.place.faults c.feed_fault.result (subst (FailsSo g.N.Namer.id_of g.S.Source.tells text faults c.next_command.new.self.place.faults) (sym c.feed_fault.ensures) failed)

pub returns-in-Err-feed-clause-quiet : goal.returns-in-Err-feed-clause-quiet
returns-in-Err-feed-clause-quiet g c = λ other. rw c.in-Ok-Some.is at c.next_command.ensures.quiet

pub returns-in-Ok-clause-given : goal.returns-in-Ok-clause-given
returns-in-Ok-clause-given g c = λ text faults path given h. record {
  are =
      let fed = rw c.in-Ok.is at (c.feed.ensures.ok h.are.loading h.are.is) in
      given_more g.N.Namer.id_of c.args.load.now c.feed.new.self given c.in-Ok.objects.items (given ++ c.in-Ok.objects.items) c.in-Ok-Some.command h.are fed refl;
  come = λ told.
      let k = h.come told in
      let on = led c.args.reader.now c.next_command.new.self c.next_command.result c.in-Ok-Some.command (c.in-Ok-Some.is ∙ ap Ok c.in-Ok-Some.field-0-is) (c.next_command.ensures.command told h.still) in
      let fed = rw c.in-Ok.is at (c.feed.ensures.ok k.loading k.is) in
      come_more g.N.Namer.id_of text (position c.args.reader.now.place c.args.reader.now.promised) (position c.next_command.new.self.place c.next_command.new.self.promised) c.args.load.now c.feed.new.self given c.in-Ok.objects.items (given ++ c.in-Ok.objects.items) c.in-Ok-Some.command k on.starts fed refl;
  still = still_open c.next_command.new.self c.next_command.result c.in-Ok-Some.command (c.in-Ok-Some.is ∙ ap Ok c.in-Ok-Some.field-0-is) c.next_command.ensures.ending;
  same_path = c.next_command.ensures.same_path ∙ h.same_path;
  quiet = (rw c.in-Ok-Some.is at c.next_command.ensures.quiet) ∙ h.quiet;
}

pub returns-in-Ok-clause-still : goal.returns-in-Ok-clause-still
returns-in-Ok-clause-still g c = still_open c.next_command.new.self c.next_command.result c.in-Ok-Some.command (c.in-Ok-Some.is ∙ ap Ok c.in-Ok-Some.field-0-is) c.next_command.ensures.ending

pub returns-in-Ok-clause-quiet : goal.returns-in-Ok-clause-quiet
returns-in-Ok-clause-quiet g c = λ other. rw c.in-Ok-Some.is at c.next_command.ensures.quiet

pub returns-in-Ok-clause-onward : goal.returns-in-Ok-clause-onward
returns-in-Ok-clause-onward g c = rw c.in-Ok-Some.field-0-is at (rw c.in-Ok-Some.is at c.next_command.ensures.onward)

pub returns-in-Ok-None-clause-given : goal.returns-in-Ok-None-clause-given
returns-in-Ok-None-clause-given g c = λ text faults path given h.
    let ends : g.S.Source.tells → EndsHere c.args.reader.now.place c.next_command.new.self.place c.args.reader.now.promised = λ told. ended c.args.reader.now c.next_command.new.self c.next_command.result (c.in-Ok-None.is ∙ ap Ok c.in-Ok-None.field-0-is) (c.next_command.ensures.command told h.still) in
    ends_part g.N.Namer.id_of g.S.Source.tells (option_copied c.args.head) text faults path given (record { standing = c.next_command.new.self; loading = c.last_part.new.load }) c.last_part.result
    (λ told. c.last_part.ensures.means text given (has_read g.N.Namer.id_of text c.args.reader.now.place c.next_command.new.self.place c.args.reader.now.promised c.args.load.now given (h.come told) (ends told)))
    (c.last_part.ensures.all given h.are)
    (λ told. stops_at_end g.N.Namer.id_of text c.args.reader.now.place c.next_command.new.self.place c.args.reader.now.promised c.args.load.now given (h.come told) (ends told))
    (c.next_command.ensures.same_path ∙ h.same_path)
    ((rw c.in-Ok-None.is at c.next_command.ensures.quiet) ∙ h.quiet)
    c.last_part.ensures.last

pub returns-in-Ok-None-clause-err : goal.returns-in-Ok-None-clause-err
returns-in-Ok-None-clause-err g c = λ text faults path given h.
    let ends : g.S.Source.tells → EndsHere c.args.reader.now.place c.next_command.new.self.place c.args.reader.now.promised = λ told. ended c.args.reader.now c.next_command.new.self c.next_command.result (c.in-Ok-None.is ∙ ap Ok c.in-Ok-None.field-0-is) (c.next_command.ensures.command told h.still) in
    ends_off g.N.Namer.id_of g.S.Source.tells (option_copied c.args.head) text faults c.next_command.new.self.place.faults c.last_part.result
    (λ told. c.last_part.ensures.breaks text given (has_read g.N.Namer.id_of text c.args.reader.now.place c.next_command.new.self.place c.args.reader.now.promised c.args.load.now given (h.come told) (ends told)))
    (c.last_part.ensures.quiet given h.are)

pub returns-in-Ok-None-clause-still : goal.returns-in-Ok-None-clause-still
returns-in-Ok-None-clause-still g c = last_still _ c.last_part.result c.last_part.ensures.last

pub returns-in-Ok-None-clause-onward : goal.returns-in-Ok-None-clause-onward
returns-in-Ok-None-clause-onward g c = last_still _ c.last_part.result c.last_part.ensures.last

pub returns-in-Ok-None-clause-quiet : goal.returns-in-Ok-None-clause-quiet
returns-in-Ok-None-clause-quiet g c = λ other. rw c.in-Ok-None.is at c.next_command.ensures.quiet
