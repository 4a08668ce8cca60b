use Rattle.std.proofs.Common.{[], ◌++◌, sym, ap, subst}
use Rattle.std.specs.Option.{option_copied}
use Rattle.swh_base.specs.declared.name.Name.{Name}
use Rattle.swh_dedup.specs.Giving.{AreNew}
use Rattle.swh_fastload.specs.Reading.{BreaksSo, IsQuiet}
use Rattle.swh_fastload.proofs.Meanings.{means_all, reaches_whole, ends_new, end_breaks, quiet}
use Rattle.swh_fastload.proofs.Givings.{one_last}
use Rattle.swh_fastload.proofs.parts.end_stream.Goals as goal

pub returns-in-Err-clause-breaks : goal.returns-in-Err-clause-breaks
returns-in-Err-clause-breaks g c = λ text given h.
    let refused = rw c.in-Err.is at (c.finish.ensures.err h.come.loading h.come.is) in
    subst (BreaksSo g.N.Namer.id_of (option_copied c.args.head) text) (sym c.feed_fault.ensures) (end_breaks g.N.Namer.id_of (option_copied c.args.head) text c.args.load.now given h c.in-Err.fault refused.explained)

pub returns-in-Err-clause-quiet : goal.returns-in-Err-clause-quiet
returns-in-Err-clause-quiet g c = λ given h.
    let refused = rw c.in-Err.is at (c.finish.ensures.err h.loading h.is) in
    subst IsQuiet (sym c.feed_fault.ensures) (quiet (option_copied c.args.head) h.loading.aims c.in-Err.fault refused.explained)

pub returns-in-Ok-push-clause-means : goal.returns-in-Ok-push-clause-means
returns-in-Ok-push-clause-means g c = λ text given h.
    let ends = rw c.in-Ok.is at (c.finish.ensures.ok h.come.loading h.come.is) in
    means_all g.N.Namer.id_of (option_copied c.args.head) text c.args.load.now given h c.in-Ok.snapshot (given ++ c.push.new.self.items) c.name.result.id ends.ends c.name.ensures.good (one_last given c.new-objects.result.items c.push.new.self.items c.in-Ok.snapshot c.new-objects.ensures.items (rw c.in-Ok-push.is at c.push.ensures.items)) (ap (λ (n : Name). n.id) c.name.ensures.name)

pub returns-in-Ok-push-clause-all : goal.returns-in-Ok-push-clause-all
returns-in-Ok-push-clause-all g c = λ given h.
    let ends = rw c.in-Ok.is at (c.finish.ensures.ok h.loading h.is) in
    let kids = rw c.in-Ok.is at (c.finish.ensures.kids h.loading h.is) in
    let items = one_last given c.new-objects.result.items c.push.new.self.items c.in-Ok.snapshot c.new-objects.ensures.items (rw c.in-Ok-push.is at c.push.ensures.items) in
    let both = reaches_whole g.N.Namer.id_of (option_copied c.args.head) h.loading given c.in-Ok.snapshot (given ++ c.push.new.self.items) c.name.result.id h.given h.fresh ends.ends c.name.ensures.good kids items (ap (λ (n : Name). n.id) c.name.ensures.name) in
    record {
      whole = both.0;
      root = both.1;
      order = subst (AreNew g.N.Namer.id_of []) (sym items) (ends_new g.N.Namer.id_of (option_copied c.args.head) h.loading given c.in-Ok.snapshot h.given h.fresh h.kinds ends.ends c.name.ensures.good kids);
    }
