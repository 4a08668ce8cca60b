use Rattle.std.proofs.Common.{List, refl, sym, ap, ◌∙◌, subst}
use Rattle.std.specs.List.{AllByRecursion}
use Rattle.swh_base.specs.declared.kind.Kind.TheVariants.{Snapshot}
use Rattle.swh_base.specs.Snapshot.{SnapshotBranch, AreBranches, snapshot_text}
use Rattle.swh_snpfmt.specs.Branches.{branch_views}
use Rattle.swh_dedup.specs.Making.{object_of}
use Rattle.swh_dedup.specs.Whole.{names_of}
use Rattle.swh_batchread.specs.RefsFault.{SnapshotBreaks, MayBreakSnapshot}
use Rattle.swh_batchread.specs.RefSteps.{HasIdIn, LacksSome, PassesBody}
use Rattle.swh_batchread.proofs.Breaking.{fails_as}
use Rattle.swh_batchread.proofs.ReadsOn.{never_read}
use Rattle.swh_batchread.proofs.NamesKnown.{names_known}
use Rattle.swh_batchread.proofs.Reaching.{exits}
use Rattle.swh_batchread.proofs.SnapshotMade.{held_branches, snapshot_ended, snapshot_named, gives_snapshot, has_all, lacks_breaks, long_breaks, may_pass, err_as}
use Rattle.swh_batchread.proofs.snapshot.end_refs.Goals as goal

pub returns-in_err-check_names-clause-err : goal.returns-in_err-check_names-clause-err
returns-in_err-check_names-clause-err g c = λ objects knows rs are h n.
    let ids = c.as_slice.result.now in
    exits c.from_residual.result _ c.in_err-check_names.field-0.0 c.from_residual.ensures.1
    (fails_as (Unit {0}) (MayBreakSnapshot objects) (MayBreakSnapshot objects) (LacksSome (names_of objects) ids objects) (SnapshotBreaks rs objects) n n n c.in_err-check_names.field-0.0
    (λ f m. m)
    (λ t fault b. lacks_breaks objects rs ids fault (c.as_slice.ensures.value ∙ h.ids) b) refl (c.in_err-check_names.ensures.err objects knows n))

pub snapshot_of-requires-clause-good : goal.snapshot_of-requires-clause-good
snapshot_of-requires-clause-good g c = λ κs within. subst AreBranches (sym c.in_ok-listing.ensures.list) (held_branches c.args.known.now.names c.args.refs c.requires c.in_ok-listing.ensures.ascend)

pub returns-clause-err : goal.returns-clause-err
returns-clause-err g c = λ objects knows rs are h n.
    let ids = subst (AllByRecursion (HasIdIn c.args.known.now.names.first.entries)) c.as_slice.ensures.value c.in_ok-check_names.ensures.ids in
    let body = snapshot_text (branch_views c.in_ok-listing.listing.branches.items) in
    err_as c.snapshot_of.result (PassesBody body) (PassesBody body) (MayBreakSnapshot objects) (SnapshotBreaks rs objects) n
    (may_pass objects body)
    (λ fault b. long_breaks objects c.args.known.now.names rs c.args.refs fault (names_known objects c.args.known.now knows) are h ids (c.in_ok-check_names.ensures.kids objects knows) c.in_ok-listing.ensures.ascend (subst (λ (bs : List SnapshotBranch). PassesBody (snapshot_text bs) fault) c.in_ok-listing.ensures.list b)) (c.snapshot_of.ensures.err n)

pub returns-clause-ok : goal.returns-clause-ok
returns-clause-ok g c = λ objects knows rs are h.
    let known = c.args.known.now.names in
    let ids = subst (AllByRecursion (HasIdIn known.first.entries)) c.as_slice.ensures.value c.in_ok-check_names.ensures.ids in
    snapshot_ended c.snapshot_of.result g.N.Namer.id_of _ _ c.snapshot_of.ensures.made c.snapshot_of.ensures.object
    (λ o made object. gives_snapshot g.N.Namer.id_of objects known rs c.args.refs o (names_known objects c.args.known.now knows) are h ids (c.in_ok-check_names.ensures.kids objects knows) c.in_ok-listing.ensures.ascend
    (made ∙ ap (λ (bs : List SnapshotBranch). object_of Snapshot (snapshot_text bs)) c.in_ok-listing.ensures.list) object)

pub returns-clause-named : goal.returns-clause-named
returns-clause-named g c = snapshot_ended c.snapshot_of.result g.N.Namer.id_of _ _ c.snapshot_of.ensures.made c.snapshot_of.ensures.object (λ o made object. snapshot_named o _ o.name.id made refl)

pub returns-clause-whole : goal.returns-clause-whole
returns-clause-whole g c = λ objects knows each.
    let known = c.args.known.now.names in
    snapshot_ended c.snapshot_of.result g.N.Namer.id_of _ _ c.snapshot_of.ensures.made c.snapshot_of.ensures.object
    (λ o made object. has_all g.N.Namer.id_of objects known c.args.refs o (names_known objects c.args.known.now knows) c.requires each (c.in_ok-check_names.ensures.kids objects knows) c.in_ok-listing.ensures.ascend
    (made ∙ ap (λ (bs : List SnapshotBranch). object_of Snapshot (snapshot_text bs)) c.in_ok-listing.ensures.list) object)

pub returns-clause-quiet : goal.returns-clause-quiet
returns-clause-quiet g c = never_read (PassesBody (snapshot_text (branch_views c.in_ok-listing.listing.branches.items))) (PassesBody (snapshot_text (branch_views c.in_ok-listing.listing.branches.items))) c.snapshot_of.result c.snapshot_of.ensures.err
