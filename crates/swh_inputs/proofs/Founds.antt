-- An input that was found holds something.
use Rattle.std.proofs.Common.{◌≡◌, Some, None, refl}
use Rattle.swh_outside.specs.declared.fault.Opened.TheVariants as part
use Rattle.swh_ingest.specs.declared.input.Opening.TheVariants.{Found}
use Rattle.swh_inputs.specs.Input.{InputText}
use Rattle.swh_inputs.specs.Input.InputText.{StreamText, FolderText, BatchText}
use Rattle.swh_inputs.specs.Opening.{opening_of}
use Rattle.swh_inputs.specs.Parts.{Parts, text_of}
use Rattle.swh_inputs.specs.declared.input.Input.{Input}
use Rattle.swh_inputs.specs.declared.input.Input.TheVariants.{Fast, Dir, Batch}

module _ {S F : Type 0} (p : Parts S F) where
  pub found_text : (i : Input S F) → opening_of i ≡ Found → (text : InputText) × (text_of p i ≡ Some text)
  found_text (Fast (part.Found s) head) e = (StreamText head (p.sources.left s), refl)
  found_text (Fast part.NotFound head) e = absurd cc
  found_text (Fast part.Failed head) e = absurd cc
  found_text (Fast part.Memory head) e = absurd cc
  found_text (Dir (part.Found f) None) e = (FolderText (p.folders.holds f) None, refl)
  found_text (Dir (part.Found f) (Some (part.Found s))) e = (FolderText (p.folders.holds f) (Some (p.sources.left s)), refl)
  found_text (Dir (part.Found f) (Some part.NotFound)) e = absurd cc
  found_text (Dir (part.Found f) (Some part.Failed)) e = absurd cc
  found_text (Dir (part.Found f) (Some part.Memory)) e = absurd cc
  found_text (Dir part.NotFound modes) e = absurd cc
  found_text (Dir part.Failed modes) e = absurd cc
  found_text (Dir part.Memory modes) e = absurd cc
  found_text (Batch (part.Found o) (part.Found r)) e = (BatchText (p.sources.left o) (p.sources.left r), refl)
  found_text (Batch (part.Found o) part.NotFound) e = absurd cc
  found_text (Batch (part.Found o) part.Failed) e = absurd cc
  found_text (Batch (part.Found o) part.Memory) e = absurd cc
  found_text (Batch part.NotFound refs) e = absurd cc
  found_text (Batch part.Failed refs) e = absurd cc
  found_text (Batch part.Memory refs) e = absurd cc
