use Rattle.std.proofs.Common.{◌≡◌, ◌∷◌, take, map}
use Rattle.swh_base.specs.declared.kind.Kind.TheVariants.{Directory}
use Rattle.swh_base.specs.declared.name.Name.{Name}
use Rattle.swh_base.specs.Revision.{revision_name}
use Rattle.swh_object.proofs.children.children_of_rev.Given as goal

abbrev pub invariant-loop-parent : goal.invariant-loop-parent
invariant-loop-parent l = let directory : Name = record { kind = Directory; id = l.rev.directory } in l.kids.items ≡ directory ∷ map revision_name (take l.parent-index l.parent-items)
