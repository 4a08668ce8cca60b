use Rattle.std.proofs.Common.{ℕ, List, length, refl}
use Rattle.std.proofs.lemmas.Result.{IfOk-weaker}
use Rattle.swh_revfmt.specs.PlainReading.{plain_release}
use Rattle.swh_fastcarried.proofs.OddObjects.{of_release}
use Rattle.swh_pathsums.specs.Lengths.{IsUpTo}
use Rattle.swh_fastcook.specs.Lengths.{HasLengthOf}
use Rattle.swh_fastcook.specs.Stream.{IsTag, tag_text}
use Rattle.swh_fastcook.proofs.Kids.{object_in, object_written}
use Rattle.swh_fastcook.proofs.ObjectTexts.{tag_is}
use Rattle.swh_fastcook.proofs.length.release_length.Goals as goal

pub unreachable-requires : goal.unreachable-requires
unreachable-requires g c =
    c.requires.plain
    (of_release (g.L.Look.archive c.args.look.now).bodies c.args.name (record { kind = c.requires.kind; body = c.body_at-body.result.now; held = c.body_at-body.ensures; odd = rw c.as_slice.ensures at (rw c.in-None.is at c.in_ok-plain.ensures.none) }))

pub tag_length-requires-clause-object : goal.tag_length-requires-clause-object
tag_length-requires-clause-object g c =
    let is = rw c.as_slice.ensures at (rw c.in-Some.is at c.in_ok-plain.ensures.some) in
    object_in (g.L.Look.archive c.args.look.now).bodies (g.L.Graph.children_of c.args.look.now) c.is_graph.ensures c.args.marks.now c.requires.preceded c.args.name c.body_at-body.result.now c.requires.there c.body_at-body.ensures
    (plain_release c.in-Some.plain) c.requires.kind is

pub tag_length-requires-clause-written : goal.tag_length-requires-clause-written
tag_length-requires-clause-written g c =
    let is = rw c.as_slice.ensures at (rw c.in-Some.is at c.in_ok-plain.ensures.some) in
    object_written (g.L.Look.archive c.args.look.now).bodies (g.L.Graph.children_of c.args.look.now) c.is_graph.ensures c.args.marks.now c.requires.preceded c.args.name c.body_at-body.result.now c.requires.there c.body_at-body.ensures
    (plain_release c.in-Some.plain) is

pub returns : goal.returns
returns g c =
    let bodies = (g.L.Look.archive c.args.look.now).bodies in
    let order = c.args.marks.now in
    let plain = plain_release c.in-Some.plain in
    let is = rw c.as_slice.ensures at (rw c.in-Some.is at c.in_ok-plain.ensures.some) in
    let tag = tag_is bodies order c.args.name c.body_at-body.result.now c.body_at-body.ensures plain is in
    IfOk-weaker c.tag_length.result (IsUpTo (length (tag_text order c.args.name plain))) (HasLengthOf (IsTag bodies order c.args.name))
    (λ n up. record { text = tag_text order c.args.name plain; is = tag; long = up }) c.tag_length.ensures
