-- The printed text of a value is its text.
use Rattle.std.proofs.Common.{◌≡◌, ◌≢◌, ℕ, Option, Some, None, option_map, true, List, [], ◌∷◌, ◌++◌, refl, sym, ap, ◌∙◌, subst, append_assoc}
use Rattle.std.specs.Prelude.{IfSome}
use Rattle.std.proofs.lemmas.List.{append-nil}
use Rattle.swh_base.specs.Name.{IsName}
use Rattle.swh_base.specs.declared.name.Name.{Name}
use Rattle.swh_swhid.specs.declared.identifier.Role.TheVariants.{Visit as AsVisit, Anchor as AsAnchor}
use Rattle.swh_swhid.specs.declared.swhid.Key.{Key}
use Rattle.swh_swhid.specs.declared.swhid.Key.TheVariants.{Origin, Visit, Anchor, Path, Lines, Bytes}
use Rattle.swh_swhid.specs.declared.swhid.Swhid.{Swhid}
use Rattle.swh_swhid.specs.Core.{core_text, accepts}
use Rattle.swh_swhid.specs.Number.{IsRange, range_text}
use Rattle.swh_swhid.specs.Qualifier.{key_word, AddsQualifier, AddAll, pieces_text, unqualified, IsSwhid}
use Rattle.swh_base.specs.Escape.{escaped}
use Rattle.swh_swhid.specs.Printed.{said, said_range, printed, AreBytes, BeginsWithSlash, IsValue}
use Rattle.swh_swhid.proofs.Escapes.{escaped-back, escaped-origin, escaped-path}

record Way (s t : Swhid) (text : List ℕ) : Type 0 where
  pieces : List (List ℕ)
  spelled : text ≡ pieces_text pieces
  adds : AddAll pieces s t

add_all-append : (ps qs : List (List ℕ)) (s m t : Swhid) → AddAll ps s m → AddAll qs m t → AddAll (ps ++ qs) s t
add_all-append [] qs s m t h k = subst (λ (x : Swhid). AddAll qs x t) (sym h) k
add_all-append (p ∷ ps) qs s m t h k = (h.0, h.1, add_all-append ps qs h.0 m t h.2 k)

pieces-append : (ps qs : List (List ℕ)) → pieces_text (ps ++ qs) ≡ pieces_text ps ++ pieces_text qs
pieces-append [] qs = refl
pieces-append (p ∷ ps) qs = ap (λ (x : List ℕ). (59 ∷ p) ++ x) (pieces-append ps qs) ∙ sym (append_assoc (59 ∷ p) (pieces_text ps) (pieces_text qs))

then : (s m t : Swhid) (x y : List ℕ) → Way s m x → Way m t y → Way s t (x ++ y)
then s m t x y h k = record {
  pieces = h.pieces ++ k.pieces;
  spelled = ap (λ (z : List ℕ). z ++ y) h.spelled ∙ ap (λ (z : List ℕ). pieces_text h.pieces ++ z) k.spelled ∙ sym (pieces-append h.pieces k.pieces);
  adds = add_all-append h.pieces k.pieces s m t h.adds k.adds;
}

none : (s : Swhid) → Way s s []
none s = record { pieces = []; spelled = refl; adds = refl }

one : (s t : Swhid) (key : Key) (value : List ℕ) → AddsQualifier s (key_word key ++ value) t → Way s t (59 ∷ (key_word key ++ value))
one s t key value h = record { pieces = (key_word key ++ value) ∷ []; spelled = ap (λ (x : List ℕ). 59 ∷ x) (sym (append-nil (key_word key ++ value))); adds = (t, h, refl) }

abbrev R : Type 0
R = ℕ × Option ℕ

abbrev st : Name → Option (List ℕ) → Option Name → Option Name → Option (List ℕ) → Option R → Option R → Swhid
st c o v a p l b = record { core = c; origin = o; visit = v; anchor = a; path = p; lines = l; bytes = b }

way_origin : (c : Name) (o : Option (List ℕ)) → IfSome o (λ x. (x ≢ []) × AreBytes x) → Way (unqualified c) (st c o None None None None None) (said Origin (option_map escaped o))
way_origin c None h = none (unqualified c)
way_origin c (Some x) h = one (unqualified c) (st c (Some x) None None None None None) Origin (escaped x) (record { key = Origin; free = refl; value = escaped x; spelled = refl; says = (escaped-origin x h.0 h.1, ap (λ (y : List ℕ). st c (Some y) None None None None None) (sym (escaped-back x h.1))) })

way_visit : (c : Name) (o : Option (List ℕ)) (v : Option Name) → IfSome v (λ n. IsName n × (accepts AsVisit n.kind ≡ true)) → Way (st c o None None None None None) (st c o v None None None None) (said Visit (option_map core_text v))
way_visit c o None h = none (st c o None None None None None)
way_visit c o (Some n) h = one (st c o None None None None None) (st c o (Some n) None None None None) Visit (core_text n) (record { key = Visit; free = refl; value = core_text n; spelled = refl; says = record { name = n; core = record { accepted = h.1; named = h.0; spelled = refl }; becomes = refl } })

way_anchor : (c : Name) (o : Option (List ℕ)) (v a : Option Name) → IfSome a (λ n. IsName n × (accepts AsAnchor n.kind ≡ true)) → Way (st c o v None None None None) (st c o v a None None None) (said Anchor (option_map core_text a))
way_anchor c o v None h = none (st c o v None None None None)
way_anchor c o v (Some n) h = one (st c o v None None None None) (st c o v (Some n) None None None) Anchor (core_text n) (record { key = Anchor; free = refl; value = core_text n; spelled = refl; says = record { name = n; core = record { accepted = h.1; named = h.0; spelled = refl }; becomes = refl } })

way_path : (c : Name) (o : Option (List ℕ)) (v a : Option Name) (p : Option (List ℕ)) → IfSome p (λ x. BeginsWithSlash x × AreBytes x) → Way (st c o v a None None None) (st c o v a p None None) (said Path (option_map escaped p))
way_path c o v a None h = none (st c o v a None None None)
way_path c o v a (Some x) h = one (st c o v a None None None) (st c o v a (Some x) None None) Path (escaped x) (record { key = Path; free = refl; value = escaped x; spelled = refl; says = (escaped-path x h.0, ap (λ (y : List ℕ). st c o v a (Some y) None None) (sym (escaped-back x h.1))) })

way_lines : (c : Name) (o : Option (List ℕ)) (v a : Option Name) (p : Option (List ℕ)) (l : Option R) → IfSome l (λ r. IsRange 1 r.0 r.1) → Way (st c o v a p None None) (st c o v a p l None) (said_range Lines l)
way_lines c o v a p None h = none (st c o v a p None None)
way_lines c o v a p (Some r) h = one (st c o v a p None None) (st c o v a p (Some r) None) Lines (range_text r.0 r.1) (record { key = Lines; free = refl; value = range_text r.0 r.1; spelled = refl; says = record { first = r.0; more = r.1; range = h; spelled = refl; becomes = refl } })

way_bytes : (c : Name) (o : Option (List ℕ)) (v a : Option Name) (p : Option (List ℕ)) (l b : Option R) → IfSome b (λ r. IsRange 0 r.0 r.1) → Way (st c o v a p l None) (st c o v a p l b) (said_range Bytes b)
way_bytes c o v a p l None h = none (st c o v a p l None)
way_bytes c o v a p l (Some r) h = one (st c o v a p l None) (st c o v a p l (Some r)) Bytes (range_text r.0 r.1) (record { key = Bytes; free = refl; value = range_text r.0 r.1; spelled = refl; says = record { first = r.0; more = r.1; range = h; spelled = refl; becomes = refl } })

regroup : (k a b c d e f : List ℕ) → ((((((k ++ a) ++ b) ++ c) ++ d) ++ e) ++ f) ≡ k ++ (((((a ++ b) ++ c) ++ d) ++ e) ++ f)
regroup k a b c d e f = simp append_assoc

pub printed_reads : (s : Swhid) → IsValue s → IsSwhid (printed s) s
printed_reads s h =
    let w1 = then _ _ _ _ _ (way_origin s.core s.origin h.origin) (way_visit s.core s.origin s.visit h.visit) in
    let w2 = then _ _ _ _ _ w1 (way_anchor s.core s.origin s.visit s.anchor h.anchor) in
    let w3 = then _ _ _ _ _ w2 (way_path s.core s.origin s.visit s.anchor s.path h.path) in
    let w4 = then _ _ _ _ _ w3 (way_lines s.core s.origin s.visit s.anchor s.path s.lines h.lines) in
    let w5 = then _ _ _ _ _ w4 (way_bytes s.core s.origin s.visit s.anchor s.path s.lines s.bytes h.bytes) in
    record { name = s.core; pieces = w5.pieces; named = h.named; spelled = regroup (core_text s.core) _ _ _ _ _ _ ∙ ap (λ (x : List ℕ). core_text s.core ++ x) w5.spelled; adds = w5.adds }
