-- Whole heads: how many fields they have, and which of their causes of refusal comes first.
use Rattle.std.proofs.Common.{◌≡◌, ℕ, zero, suc, ◌+◌, ◌*◌, ◌<◌, ◌≤◌, false, List, [], ◌∷◌, ◌++◌, length, refl, ap, ◌∙◌, arith, All}
use Rattle.std.specs.Prelude.{◌==◌}
use Rattle.std.specs.List.{flat_map}
use Rattle.std.proofs.lemmas.List.{length-append}
use Rattle.std.proofs.lemmas.List.Elements.{All-head, All-tail, All-weaker}
use Rattle.httparse.specs.Grammar.{LineEnd, crlf, lf, print_end, print_blank, print_version, Field, IsField, print_field, print_section, RequestHead, print_request, ReadsRequest}
use Rattle.httparse.specs.declared.spans.HeaderSpan.{HeaderSpan}
use Rattle.httparse.specs.Spans.{IsHeaderWithin}
use Rattle.httparse.proofs.GrammarLemmas.{print_request-append}

end-some : (e : LineEnd) → 1 ≤ length (print_end e)
end-some crlf = omega arith
end-some lf = omega arith

fields-length : (fields : List Field) → All IsField fields → 3 * length fields ≤ length (flat_map print_field fields)
fields-length [] all = omega arith
fields-length (f ∷ fs) all =
    let name = (All-head IsField f fs all).name.0 in
    let rest = fields-length fs (All-tail IsField f fs all) in
    let whole = length-append (print_field f) (flat_map print_field fs) in
    let front = length-append (f.name ++ 58 ∷ f.raw) (print_end f.end) in
    let named = length-append f.name (58 ∷ f.raw) in
    omega (arith, name, rest, whole, front, named, end-some f.end)

-- a head has a field for each three of its bytes at most
pub few-fields : (bytes : List ℕ) (h : RequestHead) → ReadsRequest bytes h [] → 3 * length h.fields ≤ length bytes
few-fields bytes h reads =
    let text = reads.1 ∙ print_request-append h [] in
    let parts = ap length text in
    let least = fields-length h.fields reads.0.fields in
    let section : length (flat_map print_field h.fields) ≤ length (print_section h.fields h.last ++ []) =
    omega (arith, length-append (print_section h.fields h.last) [], length-append (flat_map print_field h.fields) (print_end h.last)) in
    omega (arith, least, section, parts, deep (print_blank h.blank) h.method h.target (print_version h.minor) (print_end h.line_end) (print_section h.fields h.last ++ []))
  where
    deep : (a b c d e f : List ℕ) → length f ≤ length (a ++ (b ++ 32 ∷ (c ++ 32 ∷ (d ++ (e ++ f)))))
    deep a b c d e f =
        omega (arith, length-append a (b ++ 32 ∷ (c ++ 32 ∷ (d ++ (e ++ f)))), length-append b (32 ∷ (c ++ 32 ∷ (d ++ (e ++ f)))), length-append c (32 ∷ (d ++ (e ++ f))), length-append d (e ++ f), length-append e f)

pub none-left : (n : ℕ) → false ≡ (n == 0) → 0 < n
none-left zero e = cc
none-left (suc n) e = omega arith

pub no-items : {X : Type 0} (xs : List X) → length xs ≡ 0 → xs ≡ []
no-items [] e = refl
no-items (x ∷ xs) e = absurd (omega (arith, e))

pub within-more : (m n : ℕ) (headers : List HeaderSpan) → m ≤ n → All (IsHeaderWithin m) headers → All (IsHeaderWithin n) headers
within-more m n headers more all =
    All-weaker (IsHeaderWithin m) (IsHeaderWithin n)
    (λ h w. ((w.0.0, omega (arith, w.0.1, more)), (w.1.0, omega (arith, w.1.1, more)))) headers all
