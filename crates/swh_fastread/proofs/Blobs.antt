-- Blobs.
use Rattle.std.proofs.Common.{ℕ, Bool, true, false, List, [], ◌∷◌, codes, Option, Some, None}
use Rattle.swh_fastgrammar.specs.declared.command.Command.TheVariants.{Blob}
use Rattle.swh_fastrows.specs.declared.fail.ReadFail.{ReadFail}
use Rattle.swh_fastrows.specs.Explains.{DataFails, Explains, Reads, Stops}
use Rattle.swh_fastgrammar.specs.Grammar.{◌▸◌, optional, line_at, contents, mark, oid, IsItem, IsCommand}
use Rattle.swh_fastrows.specs.Places.{ReaderState, Took, Part, OptionalPart, FoundPart}
use Rattle.swh_fastread.proofs.Begun.{blob_rest, blob_item, blob_begun, stops_explain, data_explains, data_end}
use Rattle.swh_fastread.proofs.Commands.{reads_item}
use Rattle.swh_fastread.proofs.Places.{mark_solid, oid_solid, contents_solid, blob_mark, blob_oid, wants_contents}
use Rattle.swh_fastread.proofs.Remains.{wants_optional, wants_skip, Within, step_then, step_optional, step_skip, closing, whole, no_more}

-- whether a part was found, as what it says
abbrev pub found : Bool → Option (Unit {0})
found true = Some tt
found false = None

pub found_part : (b c : ReaderState) (f : Bool) → FoundPart oid b c f → OptionalPart oid b c (found f)
found_part b c true p = p
found_part b c false p = p

pub marked : (a b c : ReaderState) (at : ℕ) (m : Option ℕ) → Took a b (line_at at (codes "blob") ∷ []) → OptionalPart mark b c m → Within IsItem a c (optional oid ▸ contents) (λ y. blob_item (m, y))
marked a b c at m t p = step_optional IsItem a b c mark (optional oid ▸ contents) blob_item m mark_solid blob_mark (blob_begun a b at t) p

pub at_data : (a b c d : ReaderState) (at : ℕ) (m : Option ℕ) (f : Bool) → Took a b (line_at at (codes "blob") ∷ []) → OptionalPart mark b c m → FoundPart oid c d f → Within IsItem a d contents (λ y. blob_item (m, y))
at_data a b c d at m f t p q =
    step_optional IsItem a c d oid contents (λ v. blob_item (m, v.1)) (found f) oid_solid blob_oid (step_skip IsItem a c (optional oid) contents (λ y. blob_item (m, y)) (marked a b c at m t p)) (found_part c d f q)

pub blob_reads : (a b c d e : ReaderState) (at : ℕ) (m : Option ℕ) (f : Bool) (bytes : List ℕ) → Took a b (line_at at (codes "blob") ∷ []) → OptionalPart mark b c m → FoundPart oid c d f → Part contents d e bytes → Reads IsCommand a e (Blob m bytes)
blob_reads a b c d e at m f bytes t p q r =
    reads_item a e (Blob m bytes) (whole a e (λ y. blob_item (m, bytes)) (step_then IsItem a d e contents no_more (λ v. blob_item (m, v.0)) bytes contents_solid (closing IsItem a d contents (λ y. blob_item (m, y)) (at_data a b c d at m f t p q)) r))

pub blob_fails : (a b c d : ReaderState) (at : ℕ) (m : Option ℕ) (f : Bool) (fail : ReadFail) → Took a b (line_at at (codes "blob") ∷ []) → OptionalPart mark b c m → FoundPart oid c d f → DataFails d fail → (p : Bool) → Explains a p fail
blob_fails a b c d at m f fail t p q r = data_explains a d contents (λ y. blob_item (m, y)) fail (at_data a b c d at m f t p q) wants_contents (λ text x. x) data_end r

pub mark_fails : (a b : ReaderState) (at : ℕ) (fail : ReadFail) → Took a b (line_at at (codes "blob") ∷ []) → Stops b fail → (p : Bool) → Explains a p fail
mark_fails a b at fail t s p = stops_explain a b blob_rest blob_item fail (blob_begun a b at t) (wants_optional mark (optional oid ▸ contents) (wants_skip oid contents wants_contents)) s p

pub oid_fails : (a b c : ReaderState) (at : ℕ) (m : Option ℕ) (fail : ReadFail) → Took a b (line_at at (codes "blob") ∷ []) → OptionalPart mark b c m → Stops c fail → (p : Bool) → Explains a p fail
oid_fails a b c at m fail t q s p = stops_explain a c (optional oid ▸ contents) (λ y. blob_item (m, y)) fail (marked a b c at m t q) (wants_skip oid contents wants_contents) s p
