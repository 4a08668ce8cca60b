use Rattle.std.proofs.Common.{List, [], Contains, sym, subst}
use Rattle.swh_base.specs.declared.entry.Entry.{Entry}
use Rattle.swh_base.specs.Snapshot.{snapshot_name}
use Rattle.swh_dedup.specs.Giving.{AreNew}
use Rattle.swh_dedup.specs.Whole.{names_of}
use Rattle.swh_dedup.proofs.Wholes.{new_whole}
use Rattle.swh_dirload.specs.Loading.{MakesAll}
use Rattle.swh_dirload.proofs.Loadings.{makes_all, has_snapshot}
use Rattle.swh_dirload.proofs.loading.make_objects.Goals as goal

pub returns-clause-makes : goal.returns-clause-makes
returns-clause-makes g c = λ places stand root.
    let id = g.N.Namer.id_of in
    let mid = c.make_directories.new.given in
    let new = c.make_snapshot.new.given in
    let own = c.in_ok-snapshot.snapshot in
    subst (λ (os : List Entry). MakesAll id places c.args.given os own) (sym c.into_objects-objects.ensures.objects)
    (makes_all id places c.args.given mid new c.in_ok-root.root own (c.in_ok-root.ensures.gives places stand root) c.in_ok-snapshot.ensures)

pub returns-clause-whole : goal.returns-clause-whole
returns-clause-whole g c =
    let id = g.N.Namer.id_of in
    let mid = c.make_directories.new.given in
    let new = c.make_snapshot.new.given in
    let os = c.into_objects-objects.result.items in
    let fresh : AreNew id [] new = subst (AreNew id []) c.into_objects-objects.ensures.objects c.into_objects-objects.ensures.new in
    record {
      objects = new_whole id os c.into_objects-objects.ensures.new;
      snapshot = subst (λ (es : List Entry). Contains (names_of es) (snapshot_name c.in_ok-snapshot.snapshot)) (sym c.into_objects-objects.ensures.objects) (has_snapshot id mid new c.in_ok-root.root c.in_ok-snapshot.snapshot fresh c.in_ok-snapshot.ensures);
    }
