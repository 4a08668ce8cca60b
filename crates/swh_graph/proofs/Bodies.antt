-- Each body that is held is one of its kind, so no reader finds a fault in it.
use Rattle.std.proofs.Common.{◌≡◌, ℕ, Option, Some, List, sym, ◌∙◌, subst}
use Rattle.swh_base.specs.declared.kind.Kind.{Kind}
use Rattle.swh_base.specs.declared.kind.Kind.TheVariants.{Directory, Snapshot}
use Rattle.swh_base.specs.declared.name.Name.{Name}
use Rattle.swh_base.specs.Manifest.{AreChildren, IsWellFormed}
use Rattle.swh_model.specs.Archive.{Bodies, body_of, IsGraphOf}
use Rattle.swh_model.proofs.Graphs.{held-in}
use Rattle.swh_dirfmt.specs.Fault.{IsDirFault}
use Rattle.swh_dirfmt.specs.declared.fault.DirWhy.{DirWhy}
use Rattle.swh_dirfmt.proofs.Exact as directory
use Rattle.swh_snpfmt.specs.Fault.{IsSnpFault}
use Rattle.swh_snpfmt.proofs.Exact as snapshot
use Rattle.swh_graph.specs.Named.{IsDirectoryHeld}
use Rattle.swh_graph.proofs.Lists.{same_some}

module _ (bodies : Bodies) (children_of : Name → Option (List Name)) (graph : IsGraphOf bodies children_of) (name : Name) (body : List ℕ) (held : body_of bodies name ≡ Some body) where
  well_formed : IsWellFormed name.kind body
  well_formed =
      let kids = held-in bodies children_of graph name (body, held) in
      let there = graph.held name kids.0 kids.1 in
      (kids.0, subst (λ (b : List ℕ). AreChildren name.kind b kids.0) (same_some there.0 body (sym there.1 ∙ held)) there.2)

  of_kind : (kind : Kind) → name.kind ≡ kind → IsWellFormed kind body
  of_kind kind is = subst (λ (k : Kind). IsWellFormed k body) is well_formed

  pub no_bad_directory : name.kind ≡ Directory → (at : ℕ) (why : DirWhy) → IsDirFault body at why → ⊥
  no_bad_directory is at why fault = let w = of_kind Directory is in directory.no_fault body w.1.entries at why w.1.directory fault

  pub directory_held : name.kind ≡ Directory → IsDirectoryHeld bodies name body
  directory_held is = let w = of_kind Directory is in record { held = held; entries = w.1.entries; is = w.1.directory }

  pub no_bad_snapshot : name.kind ≡ Snapshot → (at : ℕ) → IsSnpFault body at → ⊥
  no_bad_snapshot is at fault = let w = of_kind Snapshot is in snapshot.no_fault body w.1.branches at w.1.is fault
