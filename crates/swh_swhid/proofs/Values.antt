-- What a text spells: one value at most, and one that may be printed.
use Rattle.std.proofs.Common.{◌≡◌, ◌≢◌, ℕ, ◌≤◌, true, List, [], ◌∷◌, ◌++◌, length, refl, sym, ap, ◌∙◌, subst, arith}
use Rattle.std.specs.List.{AllByRecursion}
use Rattle.std.proofs.lemmas.Bool.Decides.{nat_tests}
use Rattle.std.proofs.lemmas.List.Elements.{All-from_recursion, recursion_from_All}
use Rattle.percent_encoding.specs.Percent.{percent_decode}
use Rattle.percent_encoding.proofs.PercentLemmas.{All-percent_decode, length-percent_decode, percent_decode_not_percent}
use Rattle.swh_base.specs.Name.{IsByte}
use Rattle.swh_base.specs.declared.name.Name.{Name}
use Rattle.swh_swhid.specs.declared.swhid.Key.{Key}
use Rattle.swh_swhid.specs.declared.swhid.Key.TheVariants.{Origin, Visit, Anchor, Path, Lines, Bytes}
use Rattle.swh_swhid.specs.declared.swhid.Swhid.{Swhid}
use Rattle.swh_swhid.specs.Text.{is_text_byte, IsText, IsPathText}
use Rattle.swh_swhid.specs.Qualifier.{Says, AddsQualifier, AddAll, pieces_text, unqualified, IsSwhid}
use Rattle.swh_swhid.specs.Printed.{printed, AreBytes, BeginsWithSlash, IsValue}
use Rattle.swh_swhid.proofs.Wholes.{same_piece}
use Rattle.swh_swhid.proofs.Places.{closed-pieces, one_core, one_adding, whole_of_adds}
use Rattle.swh_swhid.proofs.Ways.{printed_reads}

-- qualifiers after one value lead to one value
one_tail : (ps qs : List (List ℕ)) (s t u : Swhid) → AddAll ps s t → AddAll qs s u → pieces_text ps ≡ pieces_text qs → t ≡ u
one_tail [] [] s t u h k e = sym h ∙ k
one_tail [] (q ∷ qs) s t u h k e = absurd cc
one_tail (p ∷ ps) [] s t u h k e = absurd cc
one_tail (p ∷ ps) (q ∷ qs) s t u h k e =
    let behind : p ++ pieces_text ps ≡ q ++ pieces_text qs = cc in
    let both = same_piece p q (pieces_text ps) (pieces_text qs) (whole_of_adds s h.0 p h.1) (whole_of_adds s k.0 q k.1) (closed-pieces ps) (closed-pieces qs) behind in
    let same : h.0 ≡ k.0 = one_adding s h.0 k.0 p h.1 (subst (λ (x : List ℕ). AddsQualifier s x k.0) (sym both.0) k.1) in
    one_tail ps qs k.0 t u (subst (λ (m : Swhid). AddAll ps m t) same h.2) k.2 both.1

-- a text is a SWHID of one value at most
pub one_value : (text : List ℕ) (s t : Swhid) → IsSwhid text s → IsSwhid text t → s ≡ t
one_value text s t h k =
    let both = one_core h.name k.name (pieces_text h.pieces) (pieces_text k.pieces) h.named k.named (sym h.spelled ∙ k.spelled) in
    one_tail h.pieces k.pieces (unqualified k.name) s t (subst (λ (n : Name). AddAll h.pieces (unqualified n) s) both.0 h.adds) k.adds both.1

byte_of : (c : ℕ) → is_text_byte c ≡ true → IsByte c
byte_of c h = grind (arith, nat_tests)

text_bytes : (t : List ℕ) → IsText t → AllByRecursion IsByte t
text_bytes [] h = tt
text_bytes (c ∷ t) h = (byte_of c h.0, text_bytes t h.2)

decoded_bytes : (t : List ℕ) → IsText t → AreBytes (percent_decode t)
decoded_bytes t h = recursion_from_All IsByte (percent_decode t) (All-percent_decode t (All-from_recursion IsByte t (text_bytes t h)))

no_bytes : (t : List ℕ) → length t ≤ 0 → t ≡ []
no_bytes [] h = refl
no_bytes (c ∷ t) h = absurd (omega arith)

decoded_some : (t : List ℕ) → t ≢ [] → percent_decode t ≢ []
decoded_some t some e =
    let long = (length-percent_decode t).1 in
    let none : length (percent_decode t) ≡ 0 = ap (λ (x : List ℕ). length x) e in
    some (no_bytes t (omega (arith, long, none)))

decoded_path : (t : List ℕ) → IsPathText t → BeginsWithSlash (percent_decode t)
decoded_path [] h = absurd h
decoded_path (c ∷ t) h =
    let slash = h.0 in
    subst BeginsWithSlash (sym (percent_decode_not_percent c t (λ e. omega (arith, e, slash)))) slash

path_text : (t : List ℕ) → IsPathText t → IsText t
path_text [] h = tt
path_text (c ∷ t) h = (ap is_text_byte h.0, (λ e. let slash = h.0 in absurd (omega (arith, e, slash))), h.1)

-- what a qualifier says keeps a value one that may be printed
says_value : (key : Key) (text : List ℕ) (s t : Swhid) → Says key text s t → IsValue s → IsValue t
says_value Origin text s t h v =
    subst IsValue (sym h.1) (record { named = v.named; origin = (decoded_some text h.0.0, decoded_bytes text h.0.1); visit = v.visit; anchor = v.anchor; path = v.path; lines = v.lines; bytes = v.bytes })
says_value Visit text s t h v = subst IsValue (sym h.becomes) (record { named = v.named; origin = v.origin; visit = (h.core.named, h.core.accepted); anchor = v.anchor; path = v.path; lines = v.lines; bytes = v.bytes })
says_value Anchor text s t h v = subst IsValue (sym h.becomes) (record { named = v.named; origin = v.origin; visit = v.visit; anchor = (h.core.named, h.core.accepted); path = v.path; lines = v.lines; bytes = v.bytes })
says_value Path text s t h v =
    subst IsValue (sym h.1) (record { named = v.named; origin = v.origin; visit = v.visit; anchor = v.anchor; path = (decoded_path text h.0, decoded_bytes text (path_text text h.0)); lines = v.lines; bytes = v.bytes })
says_value Lines text s t h v = subst IsValue (sym h.becomes) (record { named = v.named; origin = v.origin; visit = v.visit; anchor = v.anchor; path = v.path; lines = h.range; bytes = v.bytes })
says_value Bytes text s t h v = subst IsValue (sym h.becomes) (record { named = v.named; origin = v.origin; visit = v.visit; anchor = v.anchor; path = v.path; lines = v.lines; bytes = h.range })

adds_value : (pieces : List (List ℕ)) (s t : Swhid) → AddAll pieces s t → IsValue s → IsValue t
adds_value [] s t h v = subst IsValue h v
adds_value (p ∷ pieces) s t h v = adds_value pieces h.0 t h.2 (says_value h.1.key h.1.value s h.0 h.1.says v)

-- what a text spells may be printed
pub read_value : (text : List ℕ) (s : Swhid) → IsSwhid text s → IsValue s
read_value text s h = adds_value h.pieces (unqualified h.name) s h.adds (record { named = h.named; origin = tt; visit = tt; anchor = tt; path = tt; lines = tt; bytes = tt })

-- values with one printed text are one
pub one_printed : (s t : Swhid) → IsValue s → IsValue t → printed s ≡ printed t → s ≡ t
one_printed s t h k e = one_value (printed t) s t (subst (λ (x : List ℕ). IsSwhid x s) e (printed_reads s h)) (printed_reads t k)
