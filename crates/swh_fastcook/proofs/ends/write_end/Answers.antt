use Rattle.std.proofs.Common.{◌≡◌, ◌++◌, codes}
use Rattle.swh_base.specs.declared.kind.Kind.TheVariants.{Snapshot}
use Rattle.swh_fastwrite.specs.Held.{kept}
use Rattle.swh_fastwrite.proofs.Pieces.{front_none}
use Rattle.swh_fastcook.specs.Ends.{IsEnd, end_or_none, main_tip}
use Rattle.swh_fastcook.proofs.EndTexts.{not_so, object_end}
use Rattle.swh_fastcook.proofs.Texts.{pushed, stopped_some}
use Rattle.swh_fastcook.proofs.ends.write_end.Goals as goal

pub returns-in_err-push_object_end-clause-bytes : goal.returns-in_err-push_object_end-clause-bytes
returns-in_err-push_object_end-clause-bytes g c =
    let old = kept c.args.taker.now c.args.held.now.items in
    stopped_some g.T.Taker.takes g.T.Taker.takes_front old (kept c.args.taker.now c.push_object_end.new.held.items) c.from_residual.result c.from_residual.ensures.0
    (IsEnd (g.L.Look.archive c.args.look.now).bodies c.args.marks.now c.args.root)
    (λ t _. front_none g.T.Taker.takes g.T.Taker.takes_front g.met.T.Taker.adds_up old t)

pub returns-clause-bytes : goal.returns-clause-bytes
returns-clause-bytes g c =
    let end = c.in_ok-push_object_end.ensures in
    let text = main_tip c.args.marks.now c.args.root c.args.root.kind ++ (end_or_none end.0 ++ codes "done\n") in
    record {
      ok = (
        text,
        object_end (g.L.Look.archive c.args.look.now).bodies c.args.marks.now c.args.root end.0 end.1 (not_so c.is_snapshot.result (c.args.root.kind ≡ Snapshot) c.is_snapshot.ensures c.if-is_snapshot.false),
        pushed g.T.Taker.takes g.T.Taker.takes_front g.met.T.Taker.adds_up c.args.taker.now c.args.held.now.items text c.push_object_end.new.held.items end.2,
      );
      err = tt;
    }
