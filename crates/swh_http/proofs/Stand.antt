-- What the bytes are at each place, and how a request may go on from there.
use Rattle.std.specs.Prelude.{if◌then◌else◌, nat_lt, ◌==◌}
use Rattle.std.proofs.Common.{◌≡◌, ◌⊎◌, ℕ, ◌+◌, ◌<◌, ◌≤◌, zero, suc, Bool, true, false, List, [], ◌∷◌, ◌++◌, length, drop, codes, refl, sym, ap, ◌∙◌, arith, append_assoc, subst, All, IsUtf8, inl, inr, IsTrue}
use Rattle.std.proofs.lemmas.Bool.{ltb-true, ltb-false}
use Rattle.std.specs.List.{flat_map}
use Rattle.std.proofs.lemmas.List.{append-nil, length-append}
use Rattle.std.proofs.lemmas.List.Elements.{All-nil, All-cons, All-push}
use Rattle.std.specs.Str.{is_utf8}
use Rattle.std.proofs.lemmas.Str.{IsUtf8-from_is_utf8}
use Rattle.std.proofs.lemmas.Bool.Decides.{eqb_tells}
use Rattle.std.proofs.Math.Dec.{eqb}
use Rattle.std.proofs.Math.Seq.{append_snoc, drop-append_seam}
use Rattle.httparse.specs.Grammar.{is_token_byte, is_uri_byte, is_value_byte, AllPass, IsToken, LineEnd, crlf, lf, print_end, print_blank, Field, IsField, print_field, print_section, RequestHead, print_request, ReadsRequest}
use Rattle.httparse.proofs.GrammarLemmas.{print_request-append, cons-append}
use Rattle.swh_http.specs.declared.head_state.HeadState.{HeadState}
use Rattle.swh_http.specs.declared.head_state.HeadState.TheVariants.{Blank, BlankEnd, Method, Space, Target, Version, Minor, LineEnd as AtLineEnd, Feed, Line, LastFeed, Name, Value, Whole, Over, Broken}
use Rattle.swh_http.specs.HeadState.{advance, advance_all, place_of, version_byte}

-- ---- what may follow at each place

abbrev pub EndsLine : List ℕ → Type 0
EndsLine s = (fields : List Field) × (last : LineEnd) × All IsField fields × (s ≡ print_section fields last)

abbrev pub EndsFeed : List ℕ → Type 0
EndsFeed s = (more : List ℕ) × EndsLine more × (s ≡ 10 ∷ more)

abbrev pub EndsLineEnd : List ℕ → Type 0
EndsLineEnd s = (end : LineEnd) × (more : List ℕ) × EndsLine more × (s ≡ print_end end ++ more)

abbrev pub EndsMinor : List ℕ → Type 0
EndsMinor s = (minor : ℕ) × (more : List ℕ) × (minor ≤ 1) × EndsLineEnd more × (s ≡ (48 + minor) ∷ more)

abbrev pub EndsVersion : ℕ → List ℕ → Type 0
EndsVersion k s = (more : List ℕ) × EndsMinor more × (s ≡ drop k (codes "HTTP/1.") ++ more)

abbrev pub EndsValue : List ℕ → Type 0
EndsValue s = (raw : List ℕ) × (end : LineEnd) × (more : List ℕ) × AllPass is_value_byte raw × EndsLine more
    × (s ≡ raw ++ (print_end end ++ more))

abbrev pub EndsName : List ℕ → Type 0
EndsName s = (name : List ℕ) × (more : List ℕ) × AllPass is_token_byte name × EndsValue more × (s ≡ name ++ 58 ∷ more)

abbrev pub EndsLast : List ℕ → Type 0
EndsLast s = s ≡ 10 ∷ []

abbrev pub IsWhole : List ℕ → Type 0
IsWhole t = (h : RequestHead) × ReadsRequest t h []

-- whatever ends so makes a whole head of t
abbrev pub Continues : (List ℕ → Type 0) → List ℕ → Type 0
Continues Ends t = (s : List ℕ) → Ends s → IsWhole (t ++ s)

-- t ends in a target that begins at this index
pub record HasTarget (t : List ℕ) (from : ℕ) : Type 0 where
  pub blank : List LineEnd
  pub method : List ℕ
  pub target : List ℕ
  pub token : IsToken method
  pub some : 0 < length target
  pub all : AllPass is_uri_byte target
  pub text : t ≡ (print_blank blank ++ (method ++ 32 ∷ [])) ++ target
  pub start : from ≡ length (print_blank blank ++ (method ++ 32 ∷ []))

abbrev pub Stands : HeadState → List ℕ → Type 0
Stands Blank t = (es : List LineEnd) × (t ≡ print_blank es)
Stands BlankEnd t = (es : List LineEnd) × (t ≡ print_blank es ++ 13 ∷ [])
Stands Method t = (es : List LineEnd) × (m : List ℕ) × IsToken m × (t ≡ print_blank es ++ m)
Stands Space t = (es : List LineEnd) × (m : List ℕ) × IsToken m × (t ≡ print_blank es ++ (m ++ 32 ∷ []))
Stands (Target from) t = HasTarget t from
Stands (Version k) t = (k ≤ 6) × Continues (EndsVersion k) t
Stands Minor t = Continues EndsMinor t
Stands AtLineEnd t = Continues EndsLineEnd t
Stands Feed t = Continues EndsFeed t
Stands Line t = Continues EndsLine t
Stands LastFeed t = Continues EndsLast t
Stands Name t = Continues EndsName t
Stands Value t = Continues EndsValue t
Stands Whole t = IsWhole t
Stands Over t = Unit {0}
Stands Broken t = Unit {0}

-- ---- one byte on

turn : (E F : List ℕ → Type 0) (b : ℕ) (t : List ℕ) → ((s : List ℕ) → F s → E (b ∷ s)) → Continues E t → Continues F (t ++ b ∷ [])
turn E F b t grows h s ends =
    let P : List ℕ → Type 0 = λ x. IsWhole x in
    subst P (sym (append_snoc t b s)) (h (b ∷ s) (grows s ends))

pub blank-push : (es : List LineEnd) (e : LineEnd) → print_blank (es ++ e ∷ []) ≡ print_blank es ++ print_end e
blank-push [] crlf = refl
blank-push [] lf = refl
blank-push (crlf ∷ es) e = ap (λ (x : List ℕ). 13 ∷ 10 ∷ x) (blank-push es e)
blank-push (lf ∷ es) e = ap (λ (x : List ℕ). 10 ∷ x) (blank-push es e)

pub token-push : (m : List ℕ) (b : ℕ) → IsToken m → is_token_byte b ≡ true → IsToken (m ++ b ∷ [])
token-push m b token is = (omega (arith, token.0, length-append m (b ∷ [])), All-push (λ x. IsTrue (is_token_byte x)) m b token.1 is)

-- the head whose parts these are, once its target is text
pub whole-of : (t : List ℕ) (from : ℕ) (h : HasTarget t from) → IsUtf8 h.target → Continues (EndsVersion 0) (t ++ 32 ∷ [])
whole-of t from h utf8 s ends =
    let minor = ends.1 in
    let line = minor.3 in
    let section = line.2 in
    let head : RequestHead = record { blank = h.blank; method = h.method; target = h.target; minor = minor.0; line_end = line.0; fields = section.0; last = section.1 } in
    let text : (t ++ 32 ∷ []) ++ s ≡ print_request head ++ [] =
    rw (print_request-append head [], h.text, ends.2, minor.4, line.3, section.3)
    (regrouped (print_blank h.blank) h.method h.target (codes "HTTP/1.") (48 + minor.0) (print_end line.0) (print_section section.0 section.1)) in
    (head, (record { method = h.token; target = (h.some, h.all); target_text = utf8; minor = minor.2; fields = section.2 }, text))
  where
    regrouped : (a b c v : List ℕ) (m : ℕ) (e f : List ℕ)
        → (((a ++ (b ++ 32 ∷ [])) ++ c) ++ 32 ∷ []) ++ (v ++ m ∷ (e ++ f)) ≡ a ++ (b ++ 32 ∷ (c ++ 32 ∷ ((v ++ m ∷ []) ++ (e ++ (f ++ [])))))
    regrouped a b c v m e f = simp (append_assoc, cons-append, append-nil)

line-name : (b : ℕ) (s : List ℕ) → is_token_byte b ≡ true → EndsName s → EndsLine (b ∷ s)
line-name b s token ends =
    let value = ends.3 in
    let line = value.4 in
    let field : Field = record { name = b ∷ ends.0; raw = value.0; end = value.1 } in
    let good : IsField field = record { name = (omega arith, All-cons (λ x. IsTrue (is_token_byte x)) b ends.0 token ends.2); raw = value.3 } in
    let text : b ∷ s ≡ print_section (field ∷ line.0) line.1 =
    rw (ends.4, value.5, line.3) (regrouped b ends.0 value.0 (print_end value.1) (flat_map print_field line.0) (print_end line.1)) in
    (field ∷ line.0, line.1, All-cons IsField field line.0 good line.2, text)
  where
    regrouped : (b : ℕ) (n r e f l : List ℕ) → b ∷ (n ++ 58 ∷ (r ++ (e ++ (f ++ l)))) ≡ (((b ∷ n) ++ 58 ∷ r ++ e) ++ f) ++ l
    regrouped b n r e f l = simp (append_assoc, cons-append)

pub line-here : EndsLine (10 ∷ [])
line-here = ([], lf, All-nil IsField, refl)

line-return : (s : List ℕ) → EndsLast s → EndsLine (13 ∷ s)
line-return s last = ([], crlf, All-nil IsField, ap (λ (x : List ℕ). 13 ∷ x) last)

pub feed-line : (s : List ℕ) → EndsLine s → EndsFeed (10 ∷ s)
feed-line s line = (s, line, refl)

pub end-feed : (s : List ℕ) → EndsLine s → EndsLineEnd (10 ∷ s)
end-feed s line = (lf, s, line, refl)

end-return : (s : List ℕ) → EndsFeed s → EndsLineEnd (13 ∷ s)
end-return s feed = (crlf, feed.0, feed.1, ap (λ (x : List ℕ). 13 ∷ x) feed.2)

pub minor-of : (b minor : ℕ) (s : List ℕ) → b ≡ 48 + minor → minor ≤ 1 → EndsLineEnd s → EndsMinor (b ∷ s)
minor-of b minor s is few end = (minor, s, few, end, ap (λ (x : ℕ). x ∷ s) is)

version-more : (k b : ℕ) (s : List ℕ) → k < 6 → b ≡ version_byte k → EndsVersion (k + 1) s → EndsVersion k (b ∷ s)
version-more zero b s small is ends = (ends.0, ends.1, ap (λ (x : ℕ). x ∷ s) is ∙ ap (λ (x : List ℕ). 72 ∷ x) ends.2)
version-more (suc zero) b s small is ends = (ends.0, ends.1, ap (λ (x : ℕ). x ∷ s) is ∙ ap (λ (x : List ℕ). 84 ∷ x) ends.2)
version-more (suc (suc zero)) b s small is ends = (ends.0, ends.1, ap (λ (x : ℕ). x ∷ s) is ∙ ap (λ (x : List ℕ). 84 ∷ x) ends.2)
version-more (suc (suc (suc zero))) b s small is ends = (ends.0, ends.1, ap (λ (x : ℕ). x ∷ s) is ∙ ap (λ (x : List ℕ). 80 ∷ x) ends.2)
version-more (suc (suc (suc (suc zero)))) b s small is ends = (ends.0, ends.1, ap (λ (x : ℕ). x ∷ s) is ∙ ap (λ (x : List ℕ). 47 ∷ x) ends.2)
version-more (suc (suc (suc (suc (suc zero))))) b s small is ends = (ends.0, ends.1, ap (λ (x : ℕ). x ∷ s) is ∙ ap (λ (x : List ℕ). 49 ∷ x) ends.2)
version-more (suc (suc (suc (suc (suc (suc n)))))) b s small is ends = absurd (omega (arith, small))

version-last : (b : ℕ) (s : List ℕ) → b ≡ 46 → EndsMinor s → EndsVersion 6 (b ∷ s)
version-last b s is minor = (s, minor, ap (λ (x : ℕ). x ∷ s) is)

name-more : (b : ℕ) (s : List ℕ) → is_token_byte b ≡ true → EndsName s → EndsName (b ∷ s)
name-more b s token ends =
    (b ∷ ends.0, ends.1, All-cons (λ x. IsTrue (is_token_byte x)) b ends.0 token ends.2, ends.3, ap (λ (x : List ℕ). b ∷ x) ends.4)

pub name-colon : (s : List ℕ) → EndsValue s → EndsName (58 ∷ s)
name-colon s value = ([], s, All-nil (λ x. IsTrue (is_token_byte x)), value, refl)

value-more : (b : ℕ) (s : List ℕ) → is_value_byte b ≡ true → EndsValue s → EndsValue (b ∷ s)
value-more b s is ends =
    (b ∷ ends.0, ends.1, ends.2, All-cons (λ x. IsTrue (is_value_byte x)) b ends.0 is ends.3, ends.4, ap (λ (x : List ℕ). b ∷ x) ends.5)

pub value-feed : (s : List ℕ) → EndsLine s → EndsValue (10 ∷ s)
value-feed s line = ([], lf, s, All-nil (λ x. IsTrue (is_value_byte x)), line, refl)

value-return : (s : List ℕ) → EndsFeed s → EndsValue (13 ∷ s)
value-return s feed = ([], crlf, feed.0, All-nil (λ x. IsTrue (is_value_byte x)), feed.1, ap (λ (x : List ℕ). 13 ∷ x) feed.2)

-- ---- each place after one byte more

-- the byte is this one, or not
Is : ℕ → ℕ → Type 0
Is b c = ((eqb b c ≡ true) × (b ≡ c)) ⊎ (eqb b c ≡ false)

is-it : (b c : ℕ) → Is b c
unfolding Is
is-it b c = elim (eqb_tells b c) [ inl same ↦ inl same | inr other ↦ inr other.0 ]

test-is : (x : Bool) → (x ≡ true) ⊎ (x ≡ false)
test-is true = inl refl
test-is false = inr refl

step-blank : (t : List ℕ) (b : ℕ) → Stands Blank t → Stands (advance t Blank b) (t ++ b ∷ [])
unfolding Is
step-blank t b h = elim (is-it b 10) [
  | inl feed ↦ rw feed.0 (h.0 ++ lf ∷ [], rw (h.1, feed.1) (sym (blank-push h.0 lf)))
  | inr no_feed ↦ elim (is-it b 13) [
    | inl return ↦ rw (no_feed, return.0) (h.0, rw (h.1, return.1) refl)
    | inr no_return ↦ elim (test-is (is_token_byte b)) [
      | inl token ↦ rw (no_feed, no_return, token) (h.0, b ∷ [], one-token b token, ap (λ (x : List ℕ). x ++ b ∷ []) h.1)
      | inr other ↦ rw (no_feed, no_return, other) tt
    ]
  ]
]
  where
    one-token : (b : ℕ) → is_token_byte b ≡ true → IsToken (b ∷ [])
    one-token b token = (omega arith, All-cons (λ x. IsTrue (is_token_byte x)) b [] token (All-nil (λ x. IsTrue (is_token_byte x))))

step-feed : (t : List ℕ) (b : ℕ) (p q : HeadState) → (b ≡ 10 → Stands q (t ++ b ∷ []))
    → Stands (if b == 10 then q else Broken) (t ++ b ∷ [])
unfolding Is
step-feed t b p q h = elim (is-it b 10) [
  | inl feed ↦ rw feed.0 (h feed.1)
  | inr other ↦ rw other tt
]

step-blank-end : (t : List ℕ) (b : ℕ) → Stands BlankEnd t → Stands (advance t BlankEnd b) (t ++ b ∷ [])
step-blank-end t b h = step-feed t b BlankEnd Blank (λ feed. (h.0 ++ crlf ∷ [], rw (h.1, feed) (append_assoc (print_blank h.0) (13 ∷ []) (10 ∷ []) ∙ sym (blank-push h.0 crlf))))

-- a token goes on, or ends with a byte
step-token : (t : List ℕ) (b end : ℕ) (p q : HeadState) → (is_token_byte b ≡ true → Stands p (t ++ b ∷ []))
    → (b ≡ end → Stands q (t ++ b ∷ []))
    → Stands (if is_token_byte b then p else (if b == end then q else Broken)) (t ++ b ∷ [])
unfolding Is
step-token t b end p q stays ends = elim (test-is (is_token_byte b)) [
  | inl token ↦ rw token (stays token)
  | inr no_token ↦ elim (is-it b end) [
    | inl stop ↦ rw (no_token, stop.0) (ends stop.1)
    | inr other ↦ rw (no_token, other) tt
  ]
]

step-method : (t : List ℕ) (b : ℕ) → Stands Method t → Stands (advance t Method b) (t ++ b ∷ [])
step-method t b h =
    step-token t b 32 Method Space
    (λ token. (h.0, h.1 ++ b ∷ [], token-push h.1 b h.2 token, rw h.3 (append_assoc (print_blank h.0) h.1 (b ∷ []))))
    (λ space. (h.0, h.1, h.2, rw (h.3, space) (append_assoc (print_blank h.0) h.1 (32 ∷ []))))

step-space : (t : List ℕ) (b : ℕ) → Stands Space t → Stands (advance t Space b) (t ++ b ∷ [])
step-space t b h = elim (test-is (is_uri_byte b)) [
  | inl uri ↦ rw uri (record {
    blank = h.0;
    method = h.1;
    target = b ∷ [];
    token = h.2;
    some = omega arith;
    all = All-cons (λ x. IsTrue (is_uri_byte x)) b [] uri (All-nil (λ x. IsTrue (is_uri_byte x)));
    text = ap (λ (x : List ℕ). x ++ b ∷ []) h.3;
    start = ap length h.3;
  })
  | inr other ↦ rw other tt
]

-- the target is text where the machine says so
target-text : (t : List ℕ) (from : ℕ) (h : HasTarget t from) → is_utf8 (drop from t) ≡ true → IsUtf8 h.target
target-text t from h text =
    let seam : drop from t ≡ h.target = ap2-drop t from h in
    IsUtf8-from_is_utf8 h.target (sym (ap is_utf8 seam) ∙ text)
  where
    ap2-drop : (t : List ℕ) (from : ℕ) (h : HasTarget t from) → drop from t ≡ h.target
    ap2-drop t from h = rw (h.start, h.text) (drop-append_seam (print_blank h.blank ++ (h.method ++ 32 ∷ [])) h.target)

step-target : (t : List ℕ) (b from : ℕ) → Stands (Target from) t → Stands (advance t (Target from) b) (t ++ b ∷ [])
unfolding Is
step-target t b from h = elim (test-is (is_uri_byte b)) [
  | inl uri ↦ rw uri (record {
    blank = h.blank;
    method = h.method;
    target = h.target ++ b ∷ [];
    token = h.token;
    some = omega (arith, h.some, length-append h.target (b ∷ []));
    all = All-push (λ x. IsTrue (is_uri_byte x)) h.target b h.all uri;
    text = ap (λ (x : List ℕ). x ++ b ∷ []) h.text ∙ append_assoc (print_blank h.blank ++ (h.method ++ 32 ∷ [])) h.target (b ∷ []);
    start = h.start;
  })
  | inr no_uri ↦ elim (is-it b 32) [
    | inl space ↦ elim (test-is (is_utf8 (drop from t))) [
      | inl text ↦ rw (no_uri, space.0, text, space.1) (omega arith, whole-of t from h (target-text t from h text))
      | inr broken ↦ rw (no_uri, space.0, broken) tt
    ]
    | inr other ↦ rw (no_uri, other) tt
  ]
]

step-version : (t : List ℕ) (b k : ℕ) → Stands (Version k) t → Stands (advance t (Version k) b) (t ++ b ∷ [])
unfolding Is
step-version t b k h = elim (is-it b (version_byte k)) [
  | inl right ↦ elim (test-is (nat_lt k 6)) [
    | inl more ↦ let small : k < 6 = ltb-true k 6 more in
        rw (right.0, more) (omega (arith, small), turn (EndsVersion k) (EndsVersion (k + 1)) b t (λ s. version-more k b s small right.1) h.1)
    | inr no_more ↦ let last : k ≡ 6 = omega (arith, h.0, ltb-false k 6 no_more) in
        rw (right.0, no_more) (minor-next t b k last right.1 h.1)
  ]
  | inr wrong ↦ rw wrong tt
]
  where
    minor-next : (t : List ℕ) (b k : ℕ) → k ≡ 6 → b ≡ version_byte k → Continues (EndsVersion k) t → Continues EndsMinor (t ++ b ∷ [])
    minor-next t b k last is h =
        let P : ℕ → Type 0 = λ n. Continues (EndsVersion n) t in
        turn (EndsVersion 6) EndsMinor b t (λ s. version-last b s (is ∙ ap version_byte last)) (subst P last h)

step-minor : (t : List ℕ) (b : ℕ) → Stands Minor t → Stands (advance t Minor b) (t ++ b ∷ [])
unfolding Is
step-minor t b h = elim (is-it b 48) [
  | inl nought ↦ rw nought.0 (turn EndsMinor EndsLineEnd b t (λ s. minor-of b 0 s nought.1 (omega arith)) h)
  | inr no_nought ↦ elim (is-it b 49) [
    | inl one ↦ rw (no_nought, one.0) (turn EndsMinor EndsLineEnd b t (λ s. minor-of b 1 s one.1 (omega arith)) h)
    | inr other ↦ rw (no_nought, other) tt
  ]
]

-- a line feed and a carriage return lead on
step-end : (t : List ℕ) (b : ℕ) (p q : HeadState) (last : HeadState) → (b ≡ 10 → Stands p (t ++ b ∷ [])) → (b ≡ 13 → Stands q (t ++ b ∷ []))
    → (eqb b 10 ≡ false → eqb b 13 ≡ false → Stands last (t ++ b ∷ []))
    → Stands (if b == 10 then p else (if b == 13 then q else last)) (t ++ b ∷ [])
unfolding Is
step-end t b p q last feeds returns others = elim (is-it b 10) [
  | inl feed ↦ rw feed.0 (feeds feed.1)
  | inr no_feed ↦ elim (is-it b 13) [
    | inl return ↦ rw (no_feed, return.0) (returns return.1)
    | inr other ↦ rw (no_feed, other) (others no_feed other)
  ]
]

step-line-end : (t : List ℕ) (b : ℕ) → Stands AtLineEnd t → Stands (advance t AtLineEnd b) (t ++ b ∷ [])
step-line-end t b h =
    step-end t b Line Feed Broken
    (λ feed. rw feed (turn EndsLineEnd EndsLine 10 t end-feed h))
    (λ return. rw return (turn EndsLineEnd EndsFeed 13 t end-return h))
    (λ _ _. tt)

step-feed-line : (t : List ℕ) (b : ℕ) → Stands Feed t → Stands (advance t Feed b) (t ++ b ∷ [])
step-feed-line t b h = step-feed t b Feed Line (λ feed. rw feed (turn EndsFeed EndsLine 10 t feed-line h))

step-line : (t : List ℕ) (b : ℕ) → Stands Line t → Stands (advance t Line b) (t ++ b ∷ [])
step-line t b h =
    step-end t b Whole LastFeed (if is_token_byte b then Name else Broken)
    (λ feed. rw feed (h (10 ∷ []) line-here))
    (λ return. rw return (turn EndsLine EndsLast 13 t line-return h))
    (λ _ _. named t b h)
  where
    named : (t : List ℕ) (b : ℕ) → Stands Line t → Stands (if is_token_byte b then Name else Broken) (t ++ b ∷ [])
    named t b h = elim (test-is (is_token_byte b)) [
      | inl token ↦ rw token (turn EndsLine EndsName b t (λ s. line-name b s token) h)
      | inr other ↦ rw other tt
    ]

step-last : (t : List ℕ) (b : ℕ) → Stands LastFeed t → Stands (advance t LastFeed b) (t ++ b ∷ [])
step-last t b h = step-feed t b LastFeed Whole (λ feed. rw feed (h (10 ∷ []) refl))

step-name : (t : List ℕ) (b : ℕ) → Stands Name t → Stands (advance t Name b) (t ++ b ∷ [])
step-name t b h =
    step-token t b 58 Name Value
    (λ token. turn EndsName EndsName b t (λ s. name-more b s token) h)
    (λ colon. rw colon (turn EndsName EndsValue 58 t name-colon h))

step-value : (t : List ℕ) (b : ℕ) → Stands Value t → Stands (advance t Value b) (t ++ b ∷ [])
step-value t b h = elim (test-is (is_value_byte b)) [
  | inl value ↦ rw value (turn EndsValue EndsValue b t (λ s. value-more b s value) h)
  | inr no_value ↦ rw no_value (step-end t b Line Feed Broken
      (λ feed. rw feed (turn EndsValue EndsLine 10 t value-feed h))
      (λ return. rw return (turn EndsValue EndsFeed 13 t value-return h))
      (λ _ _. tt))
]

pub step : (p : HeadState) (t : List ℕ) (b : ℕ) → Stands p t → Stands (advance t p b) (t ++ b ∷ [])
step Blank t b h = step-blank t b h
step BlankEnd t b h = step-blank-end t b h
step Method t b h = step-method t b h
step Space t b h = step-space t b h
step (Target from) t b h = step-target t b from h
step (Version k) t b h = step-version t b k h
step Minor t b h = step-minor t b h
step AtLineEnd t b h = step-line-end t b h
step Feed t b h = step-feed-line t b h
step Line t b h = step-line t b h
step LastFeed t b h = step-last t b h
step Name t b h = step-name t b h
step Value t b h = step-value t b h
step Whole t b h = tt
step Over t b h = tt
step Broken t b h = tt

steps : (p : HeadState) (t bytes : List ℕ) → Stands p t → Stands (advance_all t p bytes) (t ++ bytes)
steps p t [] h = let P : List ℕ → Type 0 = λ x. Stands p x in subst P (sym (append-nil t)) h
steps p t (b ∷ bs) h =
    let P : List ℕ → Type 0 = λ x. Stands (advance_all (t ++ b ∷ []) (advance t p b) bs) x in
    subst P (append_snoc t b bs) (steps (advance t p b) (t ++ b ∷ []) bs (step p t b h))

-- what bytes are at the place where they end
pub stands : (bytes : List ℕ) → Stands (place_of bytes) bytes
stands bytes = steps Blank [] bytes ([], refl)
