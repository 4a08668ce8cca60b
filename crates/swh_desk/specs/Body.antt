-- The body of a request, as what a stream is read from.
use Rattle.std.specs.Prelude.{ℕ, false, None, List, []}
use Rattle.swh_outside.specs.Folder.{nothing}
use Rattle.swh_outside.specs.Source.{Heard}
use Rattle.swh_outside.specs.Views.{sources}
use Rattle.swh_outside.specs.declared.fault.Opened.TheVariants.{Found}
use Rattle.swh_inputs.specs.Parts.{Parts, folders, parts}
use Rattle.swh_inputs.specs.declared.input.Input.{Input}
use Rattle.swh_inputs.specs.declared.input.Input.TheVariants.{Fast}
use Rattle.swh_desk.specs.declared.body.NoFolder.{NoFolder}

-- a body of which nothing is read
abbrev pub unread : List ℕ → Heard
unread body = record { left = body; given = []; ended = false }

-- what is posted: a body tells what is left of it, never fails and has no path, and its folders hold nothing
abbrev pub posted_parts : Parts Heard NoFolder
posted_parts = parts (sources (Unit {0}) (λ b. b.left) (λ _. 0) (λ _. [])) (folders ⊥ (λ _. nothing) (λ folder. folder.faults) (λ _. []))

-- a body that is posted is a stream, for which no head is named
abbrev pub posted : List ℕ → Input Heard NoFolder
posted body = Fast (Found (unread body)) None
