use Rattle.std.proofs.Common.{◌∙◌}
use Rattle.swh_dedup.specs.Making.{made_from}
use Rattle.swh_batchread.proofs.Reaching.{read_more, nothing_left}
use Rattle.swh_batchread.proofs.objects.read_objects.Goals as goal

pub returns-in_default-clause-read : goal.returns-in_default-clause-read
returns-in_default-clause-read g c = λ told.
    let none = c.in_ok-object.ensures.none told in
    let ended = rw c.in_default.is at none in
    nothing_left c.next_object.new.window.bytes (g.S.Source.left c.next_object.new.source) ended.nothing_now

pub objects-preserved : goal.objects-preserved
objects-preserved g c =
    let low = rw c.in-Some.is at c.in_ok-object.ensures.within in
    record {
      place = low;
      same = c.in_ok-keep.ensures.same;
      good = c.in_ok-keep.ensures.good;
      read = λ told.
          let took = c.in_ok-object.ensures.taken told in
          read_more g.N.Namer.id_of (g.S.Source.left c.args.source.now) c.objects.window c.next_object.new.window (g.S.Source.left c.objects.source) (g.S.Source.left c.next_object.new.source) c.objects.seen c.keep.new.seen (made_from c.in-Some.object) (c.objects.invariant.read told) (rw c.in-Some.is at took) low c.in_ok-keep.ensures.keeps;
      same_path = c.in_ok-object.ensures.on.same_path ∙ c.objects.invariant.same_path;
      quiet = c.in_ok-object.ensures.on.quiet (λ e. cc) ∙ c.objects.invariant.quiet;
    }
