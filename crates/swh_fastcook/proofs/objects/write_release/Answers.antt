use Rattle.swh_revfmt.specs.PlainReading.{plain_release}
use Rattle.swh_fastcarried.proofs.OddObjects.{of_release}
use Rattle.swh_fastwrite.specs.Held.{kept}
use Rattle.swh_fastwrite.proofs.Pieces.{front_none}
use Rattle.swh_fastcook.specs.Stream.{IsTag, tag_text}
use Rattle.swh_fastcook.proofs.Kids.{object_in, object_written}
use Rattle.swh_fastcook.proofs.ObjectTexts.{one_tag, tag_is, wrote_one}
use Rattle.swh_fastcook.proofs.Texts.{stopped_some}
use Rattle.swh_fastcook.proofs.objects.write_release.Goals as goal

pub returns-in_err-plain-clause-bytes : goal.returns-in_err-plain-clause-bytes
returns-in_err-plain-clause-bytes g c =
    let old = kept c.args.taker.now c.args.held.now.items in
    stopped_some g.T.Taker.takes g.T.Taker.takes_front old old c.from_residual.result c.from_residual.ensures.0 (IsTag (g.L.Look.archive c.args.look.now).bodies c.args.marks.now c.args.name)
    (λ t _. front_none g.T.Taker.takes g.T.Taker.takes_front g.met.T.Taker.adds_up old t)

pub unreachable-requires : goal.unreachable-requires
unreachable-requires g c =
    c.requires.plain
    (of_release (g.L.Look.archive c.args.look.now).bodies c.args.name (record { kind = c.requires.kind; body = c.body_at-body.result.now; held = c.body_at-body.ensures; odd = rw c.as_slice.ensures at (rw c.in-None.is at c.in_ok-plain.ensures.none) }))

pub write_tag-requires-clause-object : goal.write_tag-requires-clause-object
write_tag-requires-clause-object g c =
    let is = rw c.as_slice.ensures at (rw c.in-Some.is at c.in_ok-plain.ensures.some) in
    object_in (g.L.Look.archive c.args.look.now).bodies (g.L.Graph.children_of c.args.look.now) c.is_graph.ensures c.args.marks.now c.requires.preceded c.args.name c.body_at-body.result.now c.requires.there c.body_at-body.ensures
    (plain_release c.in-Some.plain) c.requires.kind is

pub write_tag-requires-clause-written : goal.write_tag-requires-clause-written
write_tag-requires-clause-written g c =
    let is = rw c.as_slice.ensures at (rw c.in-Some.is at c.in_ok-plain.ensures.some) in
    object_written (g.L.Look.archive c.args.look.now).bodies (g.L.Graph.children_of c.args.look.now) c.is_graph.ensures c.args.marks.now c.requires.preceded c.args.name c.body_at-body.result.now c.requires.there c.body_at-body.ensures
    (plain_release c.in-Some.plain) is

pub returns-clause-bytes : goal.returns-clause-bytes
returns-clause-bytes g c =
    let bodies = (g.L.Look.archive c.args.look.now).bodies in
    let order = c.args.marks.now in
    let old = kept c.args.taker.now c.args.held.now.items in
    let new = kept c.write_tag.new.taker c.write_tag.new.held.items in
    let plain = plain_release c.in-Some.plain in
    let is = rw c.as_slice.ensures at (rw c.in-Some.is at c.in_ok-plain.ensures.some) in
    let tag = tag_is bodies order c.args.name c.body_at-body.result.now c.body_at-body.ensures plain is in
    wrote_one g.T.Taker.takes g.T.Taker.takes_front old new c.write_tag.result (IsTag bodies order c.args.name) (tag_text order c.args.name plain) tag
    (λ t has. one_tag bodies order c.args.name t (tag_text order c.args.name plain) has tag) c.write_tag.ensures.bytes
