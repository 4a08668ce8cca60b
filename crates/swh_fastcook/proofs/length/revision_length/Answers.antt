use Rattle.std.proofs.Common.{ℕ, List, length, refl}
use Rattle.std.proofs.lemmas.Result.{IfOk-weaker}
use Rattle.swh_base.specs.declared.kind.Kind.TheVariants.{Directory}
use Rattle.swh_graph.specs.Path.{directory_name}
use Rattle.swh_pathwalk.specs.Tree.{Row}
use Rattle.swh_pathwalk.specs.Held.{IsHeldOrder}
use Rattle.swh_pathwalk.proofs.Trees.{some_walk}
use Rattle.swh_revfmt.specs.PlainReading.{plain_revision}
use Rattle.swh_fastcarried.proofs.OddObjects.{of_revision}
use Rattle.swh_pathsums.specs.Lengths.{IsUpTo}
use Rattle.swh_fastcook.specs.Lengths.{HasLengthOf}
use Rattle.swh_fastcook.specs.Stream.{IsCommit, commit_text, files_text}
use Rattle.swh_fastcook.proofs.Kids.{directory_in, parents_in}
use Rattle.swh_fastcook.proofs.Lengths.{files_up}
use Rattle.swh_fastcook.proofs.length.revision_length.Goals as goal

pub unreachable-requires : goal.unreachable-requires
unreachable-requires g c =
    c.requires.plain
    (of_revision (g.L.Look.archive c.args.look.now).bodies c.args.name (record { kind = c.requires.kind; body = c.body_at-body.result.now; held = c.body_at-body.ensures; odd = rw c.as_slice.ensures at (rw c.in-None.is at c.in_ok-plain.ensures.none) }))

pub files_length-files-requires : goal.files_length-files-requires
files_length-files-requires g c =
    let is = rw c.as_slice.ensures at (rw c.in-Some.is at c.in_ok-plain.ensures.some) in
    let there =
    directory_in (g.L.Look.archive c.args.look.now).bodies (g.L.Graph.children_of c.args.look.now) c.is_graph.ensures c.args.marks.now c.requires.preceded c.args.name c.body_at-body.result.now c.requires.there c.body_at-body.ensures
    (plain_revision c.in-Some.plain) c.requires.kind is in
    let has = c.requires.sums c.in-Some.plain.directory there in (has.found, has.there)

pub commit_length-requires-clause-parents : goal.commit_length-requires-clause-parents
commit_length-requires-clause-parents g c =
    let is = rw c.as_slice.ensures at (rw c.in-Some.is at c.in_ok-plain.ensures.some) in
    parents_in (g.L.Look.archive c.args.look.now).bodies (g.L.Graph.children_of c.args.look.now) c.is_graph.ensures c.args.marks.now c.requires.preceded c.args.name c.body_at-body.result.now c.requires.there c.body_at-body.ensures
    (plain_revision c.in-Some.plain) c.requires.kind is

pub returns : goal.returns
returns g c =
    let bodies = (g.L.Look.archive c.args.look.now).bodies in
    let order = c.args.marks.now in
    let plain = plain_revision c.in-Some.plain in
    let is = rw c.as_slice.ensures at (rw c.in-Some.is at c.in_ok-plain.ensures.some) in
    let there =
    directory_in bodies (g.L.Graph.children_of c.args.look.now) c.is_graph.ensures order c.requires.preceded c.args.name c.body_at-body.result.now c.requires.there c.body_at-body.ensures plain c.requires.kind is in
    let held : IsHeldOrder (g.L.Graph.children_of c.args.look.now) order = record { some = c.requires.order; preceded = c.requires.preceded } in
    let walk = some_walk bodies (g.L.Graph.children_of c.args.look.now) c.is_graph.ensures order held (directory_name plain.directory) there (refl {a = Directory}) in
    IfOk-weaker c.commit_length.result (λ n. (rows : List Row) → IsUpTo (length (files_text order rows)) c.files_length-files.result → IsUpTo (length (commit_text order c.args.name plain rows)) n)
    (HasLengthOf (IsCommit bodies order c.args.name))
    (λ n up.
    record {
      text = commit_text order c.args.name plain walk.0;
      is = record { body = c.body_at-body.result.now; held = c.body_at-body.ensures; plain = plain; is_plain = is; rows = walk.0; walk = walk.1; is = refl };
      long = up walk.0 (files_up bodies order c.args.sums.now plain.directory walk.0 c.files_length-files.result (c.requires.sums plain.directory there) c.files_length-files.ensures walk.1);
    })
    c.commit_length.ensures
