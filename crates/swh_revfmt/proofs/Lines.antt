-- Lines of a word and an id: read from the front, and written one after another.
use Rattle.std.proofs.Common.{◌≡◌, ℕ, ◌+◌, ◌<◌, List, [], ◌∷◌, ◌++◌, length, get_or, take, Option, Some, None, IfNone, refl, sym, ap, ◌∙◌, subst, arith, append_assoc, length-append}
use Rattle.std.specs.List.{flat_map, AllByRecursion}
use Rattle.std.proofs.lemmas.List.{append-nil, take_more}
use Rattle.std.proofs.lemmas.List.Concat.{flat_map-append}
use Rattle.hex.specs.Hex.{encode_lower}
use Rattle.swh_base.specs.Name.{IsIdText, IsId}
use Rattle.swh_base.specs.Revision.{id_line, parent_line}
use Rattle.swh_base.proofs.DirectoryLemmas.{all-push}
use Rattle.swh_base.proofs.HexLines.{line_then}
use Rattle.swh_base.proofs.Splits.{sized_split}
use Rattle.swh_revfmt.specs.Reading.{NotLine}
use Rattle.swh_base.proofs.Ids.{Lower-encode_lower, IsId-from_text}
use Rattle.swh_revfmt.proofs.LinePlaces.{length-digits, length-line}

pub too_short : (bytes : List ℕ) → length bytes < 41 → NotLine [] bytes
too_short bytes short id rest is e = absurd (omega (arith, ap length e, length-append (id_line [] id) rest, length-line [] id is))

pub no_id : (bytes digits after : List ℕ) → bytes ≡ digits ++ after → length digits ≡ 40 → (IsIdText digits → ⊥) → NotLine [] bytes
no_id bytes digits after cut size never id rest is e =
    let same = (sized_split digits (encode_lower id) after (10 ∷ rest) (size ∙ sym (length-digits id is)) (sym cut ∙ e ∙ line_then [] id rest)).0 in
    never (subst IsIdText (sym same) (length-digits id is, Lower-encode_lower id is.1))

pub no_feed : (bytes digits after : List ℕ) → bytes ≡ digits ++ after → length digits ≡ 40 → ((rest : List ℕ) → after ≡ 10 ∷ rest → ⊥) → NotLine [] bytes
no_feed bytes digits after cut size never id rest is e =
    never rest (sized_split digits (encode_lower id) after (10 ∷ rest) (size ∙ sym (length-digits id is)) (sym cut ∙ e ∙ line_then [] id rest)).1

pub whole_line : (bytes digits after id rest : List ℕ) → bytes ≡ digits ++ after → IsIdText digits → digits ≡ encode_lower id → after ≡ 10 ∷ rest → IsId id × (bytes ≡ id_line [] id ++ rest)
whole_line bytes digits after id rest cut text spelled feed =
    (IsId-from_text digits id text spelled, cut ∙ ap (λ (t : List ℕ). t ++ after) spelled ∙ ap (λ (t : List ℕ). encode_lower id ++ t) feed ∙ sym (line_then [] id rest))

-- after a word
pub not_behind : (word bytes : List ℕ) → ((rest : List ℕ) → bytes ≡ word ++ rest → ⊥) → NotLine word bytes
not_behind word bytes never id rest is e = never (encode_lower id ++ 10 ∷ rest) (e ∙ line_then word id rest)

pub not_line : (word bytes after : List ℕ) → bytes ≡ word ++ after → NotLine [] after → NotLine word bytes
not_line word bytes after cut never id rest is e =
    never id rest is ((sized_split word word after (encode_lower id ++ 10 ∷ rest) refl (sym cut ∙ e ∙ line_then word id rest)).1 ∙ sym (line_then [] id rest))

pub IfNone-then : {X : Type 0} (r : Option X) (P Q : Type 0) → (P → Q) → IfNone r P → IfNone r Q
IfNone-then (Some x) P Q f h = tt
IfNone-then None P Q f h = f h

-- parent lines, with one more
pub parents-push : (ids : List (List ℕ)) (id : List ℕ) → flat_map parent_line (ids ++ id ∷ []) ≡ flat_map parent_line ids ++ parent_line id
parents-push ids id = flat_map-append parent_line ids (id ∷ []) ∙ ap (λ (t : List ℕ). flat_map parent_line ids ++ t) (append-nil (parent_line id))

pub parents-more : (front : List ℕ) (ids : List (List ℕ)) (i : ℕ) → i < length ids → (front ++ flat_map parent_line (take i ids)) ++ parent_line (get_or ids i []) ≡ front ++ flat_map parent_line (take (i + 1) ids)
parents-more front ids i l =
    append_assoc front (flat_map parent_line (take i ids)) (parent_line (get_or ids i []))
    ∙ ap (λ (t : List ℕ). front ++ t) (sym (ap (flat_map parent_line) (take_more ids i [] l) ∙ parents-push (take i ids) (get_or ids i [])))

pub record HasRead (bytes : List ℕ) (ids : List (List ℕ)) (rest : List ℕ) : Type 0 where
  pub are_ids : AllByRecursion IsId ids
  pub text : bytes ≡ flat_map parent_line ids ++ rest

pub read_more : (bytes : List ℕ) (old new : List (List ℕ)) (id rest after : List ℕ) → new ≡ old ++ id ∷ [] → AllByRecursion IsId old → bytes ≡ flat_map parent_line old ++ rest → IsId id → rest ≡ parent_line id ++ after → HasRead bytes new after
read_more bytes old new id rest after n all text is cut = record {
  are_ids = subst (AllByRecursion IsId) (sym n) (all-push IsId old id all is);
  text = text ∙ ap (λ (t : List ℕ). flat_map parent_line old ++ t) cut ∙ sym (append_assoc (flat_map parent_line old) (parent_line id) after) ∙ ap (λ (t : List ℕ). t ++ after) (sym (ap (flat_map parent_line) n ∙ parents-push old id));
}
