use Rattle.std.proofs.Common.{◌≡◌, ◌≤◌, inl, map, length, refl, sym, ap, ◌∙◌, subst, arith}
use Rattle.std.specs.Option.{option_copied}
use Rattle.swh_base.specs.Snapshot.{AreBranches, snapshot_text}
use Rattle.swh_dedup.specs.Making.{made_from, object_of}
use Rattle.swh_fastmeaning.proofs.SnapshotKids.{snapshot_good}
use Rattle.swh_model.specs.Meaning.{with_head}
use Rattle.swh_fastmeaning.specs.Snapshots.{tip_branch, refs_of, snapshot_of}
use Rattle.swh_fastmeaning.specs.Ending.{ExplainsEnd, refs_limit}
use Rattle.swh_fastmeaning.specs.Parting.{ExplainsBody}
use Rattle.swh_base.specs.declared.kind.Kind.TheVariants.{Snapshot}
use Rattle.swh_fastmeaning.proofs.ChangesMade.{if_ok, if_err}
use Rattle.swh_fastmeaning.proofs.HeadSides.{joined_is, branches_good, count_is, end_refused}
use Rattle.swh_fastload.proofs.ending.make_snapshot.Goals as goal

pub returns-then-number-gt-REFS_LIMIT-clause-err : goal.returns-then-number-gt-REFS_LIMIT-clause-err
returns-then-number-gt-REFS_LIMIT-clause-err g c =
    inl (refl, c.count-number.ensures ∙ count_is c.args.aims.now c.in_ok-sides.sides c.in_ok-sides.ensures.sides, c.if-number-gt-REFS_LIMIT.true)

pub of-requires : goal.of-requires
of-requires g c =
    let head = option_copied c.args.head in
    let bs = map tip_branch c.args.aims.now.tips in
    let e = joined_is bs c.in_ok-sides.sides head c.in_ok-head.head c.in_ok-branches.branches.items c.in_ok-sides.ensures.sides c.in_ok-sides.ensures.ascend c.in_ok-head.ensures c.in_ok-branches.ensures in
    subst AreBranches (sym e) (branches_good head bs c.requires.head c.requires.branches c.in_ok-sides.ensures.ascend)

pub make_or_refuse-requires-after_bounds : goal.make_or_refuse-requires-after_bounds
make_or_refuse-requires-after_bounds g c κs within =
    let head = option_copied c.args.head in
    let bs = map tip_branch c.args.aims.now.tips in
    let e = joined_is bs c.in_ok-sides.sides head c.in_ok-head.head c.in_ok-branches.branches.items c.in_ok-sides.ensures.sides c.in_ok-sides.ensures.ascend c.in_ok-head.ensures c.in_ok-branches.ensures in
    snapshot_good (with_head head bs) c.in_ok-body.body.items (branches_good head bs c.requires.head c.requires.branches c.in_ok-sides.ensures.ascend) (c.in_ok-body.ensures.snapshot.text ∙ ap snapshot_text (c.of.ensures ∙ e))

pub returns-clause-few : goal.returns-clause-few
returns-clause-few g c =
    let n = c.count-number.ensures ∙ count_is c.args.aims.now c.in_ok-sides.sides c.in_ok-sides.ensures.sides in
    let f = c.if-number-gt-REFS_LIMIT.false in
    if_ok (λ o. made_from o ≡ object_of Snapshot c.in_ok-body.body.items) (λ o. length (refs_of c.args.aims.now) ≤ refs_limit) c.make_or_refuse.result c.make_or_refuse.ensures.ok (λ o k. omega (arith, n, f))

pub returns-clause-snapshot : goal.returns-clause-snapshot
returns-clause-snapshot g c =
    let head = option_copied c.args.head in
    let bs = map tip_branch c.args.aims.now.tips in
    let e = joined_is bs c.in_ok-sides.sides head c.in_ok-head.head c.in_ok-branches.branches.items c.in_ok-sides.ensures.sides c.in_ok-sides.ensures.ascend c.in_ok-head.ensures c.in_ok-branches.ensures in
    if_ok (λ o. made_from o ≡ object_of Snapshot c.in_ok-body.body.items) (λ o. made_from o ≡ snapshot_of head c.args.aims.now) c.make_or_refuse.result c.make_or_refuse.ensures.ok
    (λ o k. k ∙ ap (object_of Snapshot) (c.in_ok-body.ensures.snapshot.text ∙ ap snapshot_text (c.of.ensures ∙ e)))

pub returns-clause-err : goal.returns-clause-err
returns-clause-err g c =
    let head = option_copied c.args.head in
    let bs = map tip_branch c.args.aims.now.tips in
    let e = joined_is bs c.in_ok-sides.sides head c.in_ok-head.head c.in_ok-branches.branches.items c.in_ok-sides.ensures.sides c.in_ok-sides.ensures.ascend c.in_ok-head.ensures c.in_ok-branches.ensures in
    let n = c.count-number.ensures ∙ count_is c.args.aims.now c.in_ok-sides.sides c.in_ok-sides.ensures.sides in
    let f = c.if-number-gt-REFS_LIMIT.false in
    if_err (ExplainsBody c.in_ok-body.body.items) (ExplainsEnd head c.args.aims.now) c.make_or_refuse.result c.make_or_refuse.ensures.err
    (λ fault b. end_refused head c.args.aims.now c.in_ok-body.body.items fault b (c.in_ok-body.ensures.snapshot.text ∙ ap snapshot_text (c.of.ensures ∙ e)) (omega (arith, n, f)))

pub returns-clause-branches : goal.returns-clause-branches
returns-clause-branches g c =
    let head = option_copied c.args.head in
    let bs = map tip_branch c.args.aims.now.tips in
    let good = branches_good head bs c.requires.head c.requires.branches c.in_ok-sides.ensures.ascend in
    if_ok (λ o. made_from o ≡ object_of Snapshot c.in_ok-body.body.items) (λ o. AreBranches (with_head head bs)) c.make_or_refuse.result c.make_or_refuse.ensures.ok (λ o k. good)
