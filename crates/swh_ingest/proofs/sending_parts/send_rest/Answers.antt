use Rattle.std.proofs.Common.{◌≡◌, inl, refl, rules, subst, ◌++◌}
use Rattle.swh_dedup.specs.Whole.{names_of}
use Rattle.swh_ingest.specs.declared.stop.Stop.TheVariants.{Memory}
use Rattle.swh_ingest.specs.Owning.{IsBatchAmong, IsBatchAsked}
use Rattle.swh_ingest.specs.Parts.{AreInOrder}
use Rattle.swh_ingest.proofs.InHand.{in_order}
use Rattle.swh_ingest.proofs.Steps.{after_now}
use Rattle.swh_ingest.proofs.sending_parts.send_rest.Goals as goal

pub returns-in_default-clause-stops : goal.returns-in_default-clause-stops
returns-in_default-clause-stops g c =
    let w = g.P.Destination.protocol c.args.destination.now in
    let all = c.args.pending.objects.items ++ c.args.made.objects.items in
    after_now g.N.Namer.id_of w (g.met.P.Destination.lawful c.args.destination.now) (IsBatchAmong w.alone all) (IsBatchAsked all) c.args.writer.now c.args.writer.now Memory c.requires.ready (inl (refl, refl))

pub returns-in-Ok-None-clause-sent : goal.returns-in-Ok-None-clause-sent
returns-in-Ok-None-clause-sent g c = (refl, rw c.in-Ok-None.field-0-is at c.in-Ok-None.ensures.sent)

pub returns-in-Ok-Some-clause-sent : goal.returns-in-Ok-Some-clause-sent
returns-in-Ok-Some-clause-sent g c = rw c.in-Ok-Some.field-0-is at c.in-Ok-Some.ensures.sent

pub returns-in-Ok-None-clause-named : goal.returns-in-Ok-None-clause-named
returns-in-Ok-None-clause-named g c =
    let added : c.add_names.new.names.items ≡ c.args.names.items ++ names_of c.args.made.objects.items = search rules in
    subst (λ ns. AreInOrder ns c.sort_unstable.new.self.items) added (in_order c.add_names.new.names.items c.sort_unstable.new.self.items c.sort_unstable.ensures.permutation c.sort_unstable.ensures.sorted)
