-- Tags.
use Rattle.std.proofs.Common.{ℕ, Bool, List, [], ◌∷◌, ◌++◌, codes, Option}
use Rattle.swh_fastgrammar.specs.declared.command.At.{At}
use Rattle.swh_fastgrammar.specs.declared.command.Commitish.{Commitish}
use Rattle.swh_fastgrammar.specs.declared.command.Command.TheVariants.{Tag}
use Rattle.swh_fastrows.specs.declared.fail.ReadFail.{ReadFail}
use Rattle.swh_fastrows.specs.Explains.{PartFails, DataFails, Explains, Reads, Stops}
use Rattle.swh_fastgrammar.specs.Grammar.{◌▸◌, optional, line_at, contents, mark, oid, from, IsItem, IsCommand}
use Rattle.swh_fastrows.specs.Places.{ReaderState, Took, Part, OptionalPart, FoundPart}
use Rattle.swh_fastgrammar.specs.Word.{NamesTag}
use Rattle.swh_fastread.proofs.Begun.{tag_item, tag_begun, tag_after, stops_explain, part_explains, data_explains, data_end}
use Rattle.swh_fastread.proofs.Blobs.{found, found_part}
use Rattle.swh_fastgrammar.proofs.Items.{tagger}
use Rattle.swh_fastread.proofs.Commands.{reads_item}
use Rattle.swh_fastread.proofs.Places.{mark_solid, oid_solid, from_solid, tagger_solid, contents_solid, tag_rest, from_from, tag_mark, tag_oid, tag_tagger, wants_from, wants_contents, refuses_then}
use Rattle.swh_fastread.proofs.Remains.{wants_optional, wants_skip, Within, step_then, step_optional, step_skip, closing, whole, no_more}

pub marked : (a b c : ReaderState) (at : ℕ) (name : List ℕ) (m : Option ℕ) → Took a b (line_at at (codes "tag " ++ name) ∷ []) → NamesTag name name → OptionalPart mark b c m → Within IsItem a c from_from (λ y. tag_item name (m, y))
marked a b c at name m t n p = step_optional IsItem a b c mark from_from (tag_item name) m mark_solid tag_mark (tag_begun a b at name t n) p

-- after the target, the old name, and the tagger
pub aimed : (a c d : ReaderState) (name : List ℕ) (m : Option ℕ) (aim : At Commitish) → Within IsItem a c from_from (λ y. tag_item name (m, y)) → Part from c d aim → Within IsItem a d (optional oid ▸ tag_rest) (λ y. tag_item name (m, (aim, y)))
aimed a c d name m aim w p = step_then IsItem a c d from (optional oid ▸ tag_rest) (λ v. tag_item name (m, v)) aim from_solid w p

pub named : (a d e : ReaderState) (name : List ℕ) (m : Option ℕ) (aim : At Commitish) (f : Bool) → Within IsItem a d (optional oid ▸ tag_rest) (λ y. tag_item name (m, (aim, y))) → FoundPart oid d e f → Within IsItem a e tag_rest (λ y. tag_item name (m, (aim, y)))
named a d e name m aim f w p = step_optional IsItem a d e oid tag_rest (λ v. tag_item name (m, (aim, v.1))) (found f) oid_solid tag_oid (step_skip IsItem a d (optional oid) tag_rest (λ y. tag_item name (m, (aim, y))) w) (found_part d e f p)

pub tagged : (a e h : ReaderState) (name : List ℕ) (m : Option ℕ) (aim : At Commitish) (g : Option (List ℕ)) → Within IsItem a e tag_rest (λ y. tag_item name (m, (aim, y))) → OptionalPart tagger e h g → Within IsItem a h contents (λ y. tag_item name (m, (aim, (g, y))))
tagged a e h name m aim g w p = step_optional IsItem a e h tagger contents (λ v. tag_item name (m, (aim, v))) g tagger_solid tag_tagger w p

pub tag_reads : (a h k : ReaderState) (name : List ℕ) (m : Option ℕ) (aim : At Commitish) (g : Option (List ℕ)) (bytes : List ℕ) → Within IsItem a h contents (λ y. tag_item name (m, (aim, (g, y)))) → Part contents h k bytes → Reads IsCommand a k (Tag name m aim g bytes)
tag_reads a h k name m aim g bytes w r =
    reads_item a k (Tag name m aim g bytes) (whole a k (λ y. tag_item name (m, (aim, (g, bytes)))) (step_then IsItem a h k contents no_more (λ v. tag_item name (m, (aim, (g, v.0)))) bytes contents_solid (closing IsItem a h contents (λ y. tag_item name (m, (aim, (g, y)))) w) r))

pub aim_fails : (a c : ReaderState) (name : List ℕ) (m : Option ℕ) (fail : ReadFail) → Within IsItem a c from_from (λ y. tag_item name (m, y)) → PartFails from c fail → (p : Bool) → Explains a p fail
aim_fails a c name m fail w r = part_explains a c from_from from (λ y. tag_item name (m, y)) fail w wants_from (refuses_then from (optional oid ▸ tag_rest) from_solid) r

pub tag_fails : (a h : ReaderState) (name : List ℕ) (m : Option ℕ) (aim : At Commitish) (g : Option (List ℕ)) (fail : ReadFail) → Within IsItem a h contents (λ y. tag_item name (m, (aim, (g, y)))) → DataFails h fail → (p : Bool) → Explains a p fail
tag_fails a h name m aim g fail w r = data_explains a h contents (λ y. tag_item name (m, (aim, (g, y)))) fail w wants_contents (λ text x. x) data_end r

pub mark_fails : (a b : ReaderState) (at : ℕ) (name : List ℕ) (fail : ReadFail) → Took a b (line_at at (codes "tag " ++ name) ∷ []) → NamesTag name name → Stops b fail → (p : Bool) → Explains a p fail
mark_fails a b at name fail t n s p = stops_explain a b tag_after (tag_item name) fail (tag_begun a b at name t n) (wants_optional mark from_from wants_from) s p

pub oid_fails : (a d : ReaderState) (name : List ℕ) (m : Option ℕ) (aim : At Commitish) (fail : ReadFail) → Within IsItem a d (optional oid ▸ tag_rest) (λ y. tag_item name (m, (aim, y))) → Stops d fail → (p : Bool) → Explains a p fail
oid_fails a d name m aim fail w s p = stops_explain a d (optional oid ▸ tag_rest) (λ y. tag_item name (m, (aim, y))) fail w (wants_skip oid tag_rest (wants_optional tagger contents wants_contents)) s p

pub tagger_fails : (a e : ReaderState) (name : List ℕ) (m : Option ℕ) (aim : At Commitish) (fail : ReadFail) → Within IsItem a e tag_rest (λ y. tag_item name (m, (aim, y))) → Stops e fail → (p : Bool) → Explains a p fail
tagger_fails a e name m aim fail w s p = stops_explain a e tag_rest (λ y. tag_item name (m, (aim, y))) fail w (wants_optional tagger contents wants_contents) s p
