-- The machine follows the grammar: the bytes of a head lead to its end, whatever they are.
use Rattle.std.proofs.Common.{◌≡◌, ℕ, ◌+◌, ◌<◌, ◌≤◌, zero, suc, Bool, true, false, List, [], ◌∷◌, ◌++◌, length, drop, refl, sym, ap, ◌∙◌, arith, append_assoc, IsTrue, IsUtf8, subst, All}
use Rattle.std.proofs.lemmas.Bool.{ne_eqb}
use Rattle.std.proofs.lemmas.List.{append-nil}
use Rattle.std.proofs.lemmas.List.Elements.{All-head, All-tail}
use Rattle.std.proofs.lemmas.Str.{is_utf8-from_IsUtf8}
use Rattle.std.specs.Str.{is_utf8}
use Rattle.std.proofs.Math.Dec.{eqb}
use Rattle.std.proofs.Math.Seq.{append_snoc, drop-append_seam}
use Rattle.httparse.specs.Grammar.{is_token_byte, is_uri_byte, is_value_byte, AllPass, IsToken, LineEnd, crlf, lf, print_end, print_blank, print_version, Field, IsField, print_field, print_section, RequestHead, IsRequestHead, print_request}
use Rattle.httparse.proofs.GrammarLemmas.{print_request-append}
use Rattle.swh_http.specs.declared.head_state.HeadState.{HeadState}
use Rattle.swh_http.specs.declared.head_state.HeadState.TheVariants.{Blank, Method, Space, Target, Version, Minor, LineEnd as AtLineEnd, Line, Name, Value, Whole, Over, Broken}
use Rattle.swh_http.specs.HeadState.{advance, advance_all, place_of}

pub advance_all-append : (before : List ℕ) (p : HeadState) (xs ys : List ℕ)
    → advance_all before p (xs ++ ys) ≡ advance_all (before ++ xs) (advance_all before p xs) ys
advance_all-append before p [] ys = ap (λ (b : List ℕ). advance_all b p ys) (sym (append-nil before))
advance_all-append before p (x ∷ xs) ys =
    advance_all-append (before ++ x ∷ []) (advance before p x) xs ys
    ∙ ap (λ (b : List ℕ). advance_all b (advance_all (before ++ x ∷ []) (advance before p x) xs) ys) (append_snoc before x xs)

pub pass-head : (test : ℕ → Bool) (b : ℕ) (bs : List ℕ) → AllPass test (b ∷ bs) → test b ≡ true
pass-head test b bs all = All-head (λ x. IsTrue (test x)) b bs all

pub pass-tail : (test : ℕ → Bool) (b : ℕ) (bs : List ℕ) → AllPass test (b ∷ bs) → AllPass test bs
pass-tail test b bs all = All-tail (λ x. IsTrue (test x)) b bs all

-- what passes a test is no byte that fails it
pub apart : (test : ℕ → Bool) (b c : ℕ) → test b ≡ true → test c ≡ false → eqb b c ≡ false
apart test b c passes fails =
    ne_eqb b c (λ same. true-is-no-false (sym (sym fails ∙ sym (ap test same) ∙ passes)))
  where
    true-is-no-false : true ≡ false → ⊥
    true-is-no-false e = cc

token-fails : (is_token_byte 10 ≡ false) × (is_token_byte 13 ≡ false) × (is_token_byte 32 ≡ false) × (is_token_byte 58 ≡ false)
unfolding is_token_byte
token-fails = (refl, refl, refl, refl)

-- from a place these bytes lead to another, whatever was before them
abbrev pub Leads : HeadState → List ℕ → HeadState → Type 0
Leads p bytes q = (before : List ℕ) → advance_all before p bytes ≡ q

-- one byte on
pub one-on : (before : List ℕ) (p : HeadState) (b : ℕ) (bs : List ℕ) (r q : HeadState)
    → advance before p b ≡ r → advance_all (before ++ b ∷ []) r bs ≡ q → advance_all before p (b ∷ bs) ≡ q
one-on before p b bs r q e h = let P : HeadState → Type 0 = λ x. advance_all (before ++ b ∷ []) x bs ≡ q in subst P (sym e) h

pub over : (bytes : List ℕ) → Leads Over bytes Over
over [] before = refl
over (b ∷ bs) before = over bs (before ++ b ∷ [])

pub broken : (bytes : List ℕ) → Leads Broken bytes Broken
broken [] before = refl
broken (b ∷ bs) before = broken bs (before ++ b ∷ [])

pub blank-leads : (ends : List LineEnd) (more : List ℕ) (q : HeadState) → Leads Blank more q → Leads Blank (print_blank ends ++ more) q
blank-leads [] more q next before = next before
blank-leads (crlf ∷ ends) more q next before = blank-leads ends more q next _
blank-leads (lf ∷ ends) more q next before = blank-leads ends more q next _

token-leads : (p end : HeadState) (stop : ℕ) (bytes more : List ℕ) (q : HeadState)
    → ((before : List ℕ) (b : ℕ) → is_token_byte b ≡ true → advance before p b ≡ p)
    → ((before : List ℕ) → advance before p stop ≡ end)
    → AllPass is_token_byte bytes → Leads end more q → Leads p (bytes ++ stop ∷ more) q
token-leads p end stop [] more q stays ends all next before =
    one-on before p stop more end q (ends before) (next (before ++ stop ∷ []))
token-leads p end stop (b ∷ bs) more q stays ends all next before =
    one-on before p b (bs ++ stop ∷ more) p q (stays before b (pass-head is_token_byte b bs all))
    (token-leads p end stop bs more q stays ends (pass-tail is_token_byte b bs all) next (before ++ b ∷ []))

method-stays : (before : List ℕ) (b : ℕ) → is_token_byte b ≡ true → advance before Method b ≡ Method
method-stays before b token = rw token refl

method-ends : (before : List ℕ) → advance before Method 32 ≡ Space
method-ends before = rw token-fails.2 refl

name-stays : (before : List ℕ) (b : ℕ) → is_token_byte b ≡ true → advance before Name b ≡ Name
name-stays before b token = rw token refl

name-ends : (before : List ℕ) → advance before Name 58 ≡ Value
name-ends before = rw token-fails.3 refl

token-starts : (b : ℕ) (before : List ℕ) → is_token_byte b ≡ true
    → (advance before Blank b ≡ Method) × (advance before Line b ≡ Name)
token-starts b before token =
    let no_feed = apart is_token_byte b 10 token token-fails.0 in
    let no_return = apart is_token_byte b 13 token token-fails.1 in
    (rw (no_feed, no_return, token) refl, rw (no_feed, no_return, token) refl)

pub method-leads : (method more : List ℕ) (q : HeadState) → IsToken method → Leads Space more q → Leads Blank (method ++ 32 ∷ more) q
method-leads [] more q token next before = absurd (omega (arith, token.0))
method-leads (b ∷ bs) more q token next before =
    one-on before Blank b (bs ++ 32 ∷ more) Method q (token-starts b before (pass-head is_token_byte b bs token.1)).0
    (token-leads Method Space 32 bs more q method-stays method-ends (pass-tail is_token_byte b bs token.1) next (before ++ b ∷ []))

pub target-stays : (before : List ℕ) (from b : ℕ) → is_uri_byte b ≡ true → advance before (Target from) b ≡ Target from
target-stays before from b is = rw is refl

text-ends : (front target : List ℕ) → is_utf8 target ≡ true → advance (front ++ target) (Target (length front)) 32 ≡ Version 0
text-ends front target text =
    let same : is_utf8 (drop (length front) (front ++ target)) ≡ true = ap is_utf8 (drop-append_seam front target) ∙ text in
    rw same refl

pub target-starts : (before : List ℕ) (b : ℕ) → is_uri_byte b ≡ true → advance before Space b ≡ Target (length before)
target-starts before b is = rw is refl

-- in the target, of which some bytes are there
in-target : (front target more : List ℕ) (rest : List ℕ) (q : HeadState) → AllPass is_uri_byte rest → IsUtf8 (target ++ rest)
    → Leads (Version 0) more q → advance_all (front ++ target) (Target (length front)) (rest ++ 32 ∷ more) ≡ q
in-target front target more [] q all text next =
    let P : List ℕ → Type 0 = λ bs. IsUtf8 bs in
    let utf8 = is_utf8-from_IsUtf8 target (subst P (append-nil target) text) in
    one-on (front ++ target) (Target (length front)) 32 more (Version 0) q (text-ends front target utf8) (next ((front ++ target) ++ 32 ∷ []))
in-target front target more (b ∷ bs) q all text next =
    let first = pass-head is_uri_byte b bs all in
    let P : List ℕ → Type 0 = λ bs. IsUtf8 bs in
    let regroup : target ++ b ∷ bs ≡ (target ++ b ∷ []) ++ bs = sym (append_snoc target b bs) in
    let rest = in-target front (target ++ b ∷ []) more bs q (pass-tail is_uri_byte b bs all) (subst P regroup text) next in
    let seam : (front ++ target) ++ b ∷ [] ≡ front ++ (target ++ b ∷ []) = append_assoc front target (b ∷ []) in
    let Q : List ℕ → Type 0 = λ x. advance_all x (Target (length front)) (bs ++ 32 ∷ more) ≡ q in
    one-on (front ++ target) (Target (length front)) b (bs ++ 32 ∷ more) (Target (length front)) q (target-stays (front ++ target) (length front) b first) (subst Q (sym seam) rest)

target-leads : (target more : List ℕ) (q : HeadState) → 0 < length target → AllPass is_uri_byte target → IsUtf8 target
    → Leads (Version 0) more q → Leads Space (target ++ 32 ∷ more) q
target-leads [] more q some all text next before = absurd (omega (arith, some))
target-leads (b ∷ bs) more q some all text next before =
    one-on before Space b (bs ++ 32 ∷ more) (Target (length before)) q (target-starts before b (pass-head is_uri_byte b bs all))
    (in-target before (b ∷ []) more bs q (pass-tail is_uri_byte b bs all) text next)

minor-leads : (minor : ℕ) (more : List ℕ) (q : HeadState) → minor ≤ 1 → Leads AtLineEnd more q → Leads Minor ((48 + minor) ∷ more) q
minor-leads zero more q few next before = next _
minor-leads (suc zero) more q few next before = next _
minor-leads (suc (suc n)) more q few next before = absurd (omega (arith, few))

version-leads : (minor : ℕ) (more : List ℕ) (q : HeadState) → minor ≤ 1 → Leads AtLineEnd more q
    → Leads (Version 0) (print_version minor ++ more) q
version-leads minor more q few next before = minor-leads minor more q few next _

end-leads : (end : LineEnd) (more : List ℕ) (q : HeadState) → Leads Line more q → Leads AtLineEnd (print_end end ++ more) q
end-leads crlf more q next before = next _
end-leads lf more q next before = next _

value-stays : (before : List ℕ) (b : ℕ) → is_value_byte b ≡ true → advance before Value b ≡ Value
value-stays before b is = rw is refl

value-leads : (raw : List ℕ) (end : LineEnd) (more : List ℕ) (q : HeadState) → AllPass is_value_byte raw → Leads Line more q
    → Leads Value (raw ++ (print_end end ++ more)) q
value-leads [] crlf more q all next before = next _
value-leads [] lf more q all next before = next _
value-leads (b ∷ bs) end more q all next before =
    one-on before Value b (bs ++ (print_end end ++ more)) Value q (value-stays before b (pass-head is_value_byte b bs all))
    (value-leads bs end more q (pass-tail is_value_byte b bs all) next (before ++ b ∷ []))

field-leads : (f : Field) (more : List ℕ) (q : HeadState) → IsField f → Leads Line more q → Leads Line (print_field f ++ more) q
field-leads f more q good next before =
    let regroup : print_field f ++ more ≡ f.name ++ 58 ∷ (f.raw ++ (print_end f.end ++ more)) = regrouped f.name f.raw (print_end f.end) more in
    rw regroup (name-leads f.name f.raw f.end more q good.name good.raw next before)
  where
    regrouped : (n r e m : List ℕ) → (n ++ 58 ∷ r ++ e) ++ m ≡ n ++ 58 ∷ (r ++ (e ++ m))
    regrouped n r e m = simp append_assoc

    name-leads : (name raw : List ℕ) (end : LineEnd) (more : List ℕ) (q : HeadState) → IsToken name → AllPass is_value_byte raw
        → Leads Line more q → Leads Line (name ++ 58 ∷ (raw ++ (print_end end ++ more))) q
    name-leads [] raw end more q token all next before = absurd (omega (arith, token.0))
    name-leads (b ∷ bs) raw end more q token all next before =
        one-on before Line b (bs ++ 58 ∷ (raw ++ (print_end end ++ more))) Name q (token-starts b before (pass-head is_token_byte b bs token.1)).1
        (token-leads Name Value 58 bs (raw ++ (print_end end ++ more)) q name-stays name-ends (pass-tail is_token_byte b bs token.1)
        (value-leads raw end more q all next) (before ++ b ∷ []))

section-leads : (fields : List Field) (last : LineEnd) (more : List ℕ) (q : HeadState) → All IsField fields → Leads Whole more q
    → Leads Line (print_section fields last ++ more) q
section-leads [] crlf more q good next before = next _
section-leads [] lf more q good next before = next _
section-leads (f ∷ fs) last more q good next before =
    let regroup : print_section (f ∷ fs) last ++ more ≡ print_field f ++ (print_section fs last ++ more) = regrouped (print_field f) _ (print_end last) more in
    rw regroup (field-leads f (print_section fs last ++ more) q (All-head IsField f fs good) (section-leads fs last more q (All-tail IsField f fs good) next) before)
  where
    regrouped : (a b c d : List ℕ) → ((a ++ b) ++ c) ++ d ≡ a ++ ((b ++ c) ++ d)
    regrouped a b c d = simp append_assoc

head-leads : (h : RequestHead) (more : List ℕ) (q : HeadState) → IsRequestHead h → Leads Whole more q → place_of (print_request h ++ more) ≡ q
head-leads h more q good next =
    let lines = print_section h.fields h.last ++ more in
    let end = print_end h.line_end ++ lines in
    let version = print_version h.minor ++ end in
    let target = h.target ++ 32 ∷ version in
    let P : List ℕ → Type 0 = λ bytes. place_of bytes ≡ q in
    subst P (sym (print_request-append h more))
    (blank-leads h.blank (h.method ++ 32 ∷ target) q
    (method-leads h.method target q good.method
    (target-leads h.target version q good.target.0 good.target.1 good.target_text
    (version-leads h.minor end q good.minor
    (end-leads h.line_end lines q (section-leads h.fields h.last more q good.fields next))))) [])

-- the place of a whole head, and of one that more bytes follow
pub place_of-head : (h : RequestHead) → IsRequestHead h → place_of (print_request h ++ []) ≡ Whole
place_of-head h good = head-leads h [] Whole good (λ before. refl)

pub place_of-more : (h : RequestHead) (b : ℕ) (bs : List ℕ) → IsRequestHead h → place_of (print_request h ++ b ∷ bs) ≡ Over
place_of-more h b bs good = head-leads h (b ∷ bs) Over good (λ before. over bs _)
