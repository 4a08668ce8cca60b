-- A body names one list of children at most.
use Rattle.std.proofs.Common.{◌≡◌, ℕ, List, sym, ap, ◌∙◌}
use Rattle.std.specs.List.{filter_map}
use Rattle.swh_base.specs.declared.kind.Kind.{Kind}
use Rattle.swh_base.specs.declared.kind.Kind.TheVariants.{Content, Directory, Revision, Release, Snapshot}
use Rattle.swh_base.specs.declared.name.Name.{Name}
use Rattle.swh_base.specs.Directory.{children_of}
use Rattle.swh_base.specs.Revision.{revision_children}
use Rattle.swh_base.specs.Release as release
use Rattle.swh_base.specs.Snapshot.{branch_child}
use Rattle.swh_base.specs.Manifest.{AreChildren}
use Rattle.swh_base.proofs.DirectoryLemmas.{one_listing_lem}
use Rattle.swh_base.proofs.RevisionLemmas.{one_revision, one_release}
use Rattle.swh_base.proofs.SnapshotLemmas.{one_snapshot}

pub one_list : (kind : Kind) (body : List ℕ) (ns ms : List Name) → AreChildren kind body ns → AreChildren kind body ms → ns ≡ ms
one_list Content body ns ms a b = a ∙ sym b
one_list Directory body ns ms a b = a.kids ∙ ap children_of (one_listing_lem body a.entries b.entries a.directory b.directory) ∙ sym b.kids
one_list Revision body ns ms a b = a.kids ∙ ap revision_children (one_revision body a.revision b.revision a.is b.is) ∙ sym b.kids
one_list Release body ns ms a b =
    let same = one_release body a.release b.release a.is b.is in
    a.kids ∙ ap release.release_children same ∙ sym b.kids
one_list Snapshot body ns ms a b = a.kids ∙ ap (filter_map branch_child) (one_snapshot body a.branches b.branches a.is b.is) ∙ sym b.kids
