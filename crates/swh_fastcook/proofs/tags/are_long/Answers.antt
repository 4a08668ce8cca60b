use Rattle.std.proofs.Common.{ap, ◌∙◌, arith}
use Rattle.swh_fastcook.proofs.TagMaps.{tags_length, tags_step}
use Rattle.swh_fastcook.proofs.tags.are_long.Goals as goal

pub loop-tag-preserved : goal.loop-tag-preserved
loop-tag-preserved c =
    let few = c.loop-tag.invariant.few in
    let is = c.loop-tag.invariant.is in
    let step = ap tags_length c.in-Some.ensures.steps ∙ tags_step (c.in-Some.tag.now, c.in-Some.id.now) c.next.new.self in
    let bytes = c.branch_bytes.ensures in
    let sub = c.in-Some-checked_sub.ensures in
    record { few = omega (arith, few, sub); is = omega (arith, few, is, step, bytes, sub) }
