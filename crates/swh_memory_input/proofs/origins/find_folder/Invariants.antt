use Rattle.std.proofs.Common.{◌≡◌, ◌<◌, ℕ, false, get_or}
use Rattle.swh_memory_input.specs.Folders.{is_folder_for}
use Rattle.swh_memory_input.specs.declared.folder_input.FolderInput.{FolderInput}
use Rattle.swh_memory_input.proofs.origins.find_folder.Given as goal

abbrev pub invariant-loop-i : goal.invariant-loop-i
invariant-loop-i l = (z : FolderInput) (k : ℕ) → k < l.i → is_folder_for l.path (get_or l.folders k z) ≡ false
