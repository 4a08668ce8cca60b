use Rattle.std.proofs.Common.{◌≡◌, ◌++◌, take, codes}
use Rattle.std.specs.List.{flat_map}
use Rattle.swh_base.specs.Revision.{id_line, parent_line}
use Rattle.swh_revfmt.proofs.revision.revision_head.Given as goal

abbrev pub invariant-loop-parent : goal.invariant-loop-parent
invariant-loop-parent l = l.out.items ≡ id_line (codes "tree ") l.directory ++ flat_map parent_line (take l.parent-index l.parents)
