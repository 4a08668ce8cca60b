-- Inputs and folders that are not there.
use Rattle.std.proofs.Common.{◌≡◌, List, [], ◌∷◌, ℕ, None, length, refl, arith}
use Rattle.std.specs.List.{position_or_len}
use Rattle.std.proofs.lemmas.List.Sums.{fails_before_first}
use Rattle.swh_outside.proofs.FirstsLaws.{first_or-none}
use Rattle.swh_memory_input.specs.Outside.{is_for, input_bytes, input_at}
use Rattle.swh_memory_input.specs.Folders.{is_folder_for, input_tree, tree_at}
use Rattle.swh_memory_input.specs.declared.folder_input.FolderInput.{FolderInput}
use Rattle.swh_memory_input.specs.declared.input.Input.{Input}

pub input_at-absent : (inputs : List Input) (path : List ℕ) → position_or_len (is_for path) inputs ≡ length inputs → input_at inputs path ≡ None
input_at-absent [] path none = refl
input_at-absent (i ∷ inputs) path none = first_or-none (is_for path) input_bytes None (i ∷ inputs) i (λ k h. fails_before_first (is_for path) (i ∷ inputs) k i (omega (arith, none, h)))

pub tree_at-absent : (inputs : List FolderInput) (path : List ℕ) → position_or_len (is_folder_for path) inputs ≡ length inputs → tree_at inputs path ≡ None
tree_at-absent [] path none = refl
tree_at-absent (i ∷ inputs) path none = first_or-none (is_folder_for path) input_tree None (i ∷ inputs) i (λ k h. fails_before_first (is_folder_for path) (i ∷ inputs) k i (omega (arith, none, h)))
