use Rattle.std.proofs.Common.{◌≡◌, length, List, ap, subst, arith}
use Rattle.std.specs.List.{position_or_len}
use Rattle.swh_memory_input.specs.Folders.{is_folder_for}
use Rattle.swh_memory_input.proofs.Absent.{tree_at-absent}
use Rattle.swh_memory_input.specs.declared.folder_input.FolderInput.{FolderInput}
use Rattle.swh_memory_input.proofs.origins.MemoryOriginsOrigins.folder.Goals as goal

pub returns-then-i-len-clause-absent : goal.returns-then-i-len-clause-absent
returns-then-i-len-clause-absent c not_found =
    let p = is_folder_for c.args.path.now in
    let folders = c.args.self.now.folders.items in
    let e = c.deref.ensures.value in
    let first = subst (λ (l : List FolderInput). c.find_folder-i.result ≡ position_or_len p l) e c.find_folder-i.ensures.first in
    let none : position_or_len p folders ≡ length folders = omega (arith, first, ap length e, c.if-i-len.true, c.len.ensures, c.deref.ensures.len) in
    tree_at-absent folders c.args.path.now none
