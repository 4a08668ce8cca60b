-- What the place where bytes end says of them in the words of the grammar.
use Rattle.std.proofs.Common.{◌≡◌, ◌⊎◌, ℕ, ◌+◌, true, List, [], ◌∷◌, ◌++◌, length, drop, codes, refl, sym, ap, ◌∙◌, arith, append_assoc, subst, All, IsTrue, IsUtf8, inl, inr}
use Rattle.std.proofs.lemmas.List.Elements.{All-nil, All-cons}
use Rattle.std.proofs.lemmas.Str.{IsUtf8-from_ascii}
use Rattle.std.proofs.lemmas.Str.Ascii.{IsAscii-cons, IsAscii-nil}
use Rattle.httparse.specs.Grammar.{is_token_byte, is_uri_byte, AllPass, IsToken, crlf, print_blank, RequestHead, ReadsRequest, HasNoRequest, NeverHasRequest, MayBecomeRequest, EndsInTarget}
use Rattle.httparse.proofs.GrammarLemmas.{cons-append}
use Rattle.swh_http.specs.declared.head_state.HeadState.{HeadState}
use Rattle.swh_http.specs.declared.head_state.HeadState.TheVariants.{Blank, BlankEnd, Method, Space, Target, Version, Minor, LineEnd as AtLineEnd, Feed, Line, LastFeed, Name, Value, Whole, Over, Broken}
use Rattle.swh_http.specs.HeadState.{advance_all, place_of, MayContinue}
use Rattle.swh_http.proofs.Follow.{advance_all-append, broken, one-on, blank-leads, method-leads, target-starts, target-stays, pass-head, pass-tail, place_of-head, place_of-more}
use Rattle.swh_http.proofs.Stand.{EndsLineEnd, EndsMinor, EndsVersion, HasTarget, IsWhole, Stands, stands, line-here, end-feed, feed-line, minor-of, name-colon, value-feed, whole-of, blank-push}

-- ---- a head is whole, and no other place has one

-- the place of bytes that begin with a head
begins-head : (bytes : List ℕ) (h : RequestHead) (rest : List ℕ) → ReadsRequest bytes h rest
    → (place_of bytes ≡ Whole) ⊎ (place_of bytes ≡ Over)
begins-head bytes h [] reads = inl (ap place_of reads.1 ∙ place_of-head h reads.0)
begins-head bytes h (b ∷ bs) reads = inr (ap place_of reads.1 ∙ place_of-more h b bs reads.0)

pub no-request : (bytes : List ℕ) → MayContinue (place_of bytes) → HasNoRequest bytes
no-request bytes goes h rest reads =
    let P : HeadState → Type 0 = λ p. MayContinue p in
    elim (begins-head bytes h rest reads) [ inl whole ↦ subst P whole goes | inr over ↦ subst P over goes ]

pub never-request : (bytes : List ℕ) → place_of bytes ≡ Broken → NeverHasRequest bytes
never-request bytes is more h rest reads =
    let stays : place_of (bytes ++ more) ≡ Broken =
    advance_all-append [] Blank bytes more ∙ ap (λ (p : HeadState). advance_all bytes p more) is ∙ broken more bytes in
    elim (begins-head (bytes ++ more) h rest reads) [ inl whole ↦ cc | inr over ↦ cc ]

-- the head that is whole
pub whole-head : (bytes : List ℕ) → place_of bytes ≡ Whole → IsWhole bytes
whole-head bytes is = let P : HeadState → Type 0 = λ p. Stands p bytes in subst P is (stands bytes)

-- ---- a target

target-goes : (before : List ℕ) (from : ℕ) (bs : List ℕ) → AllPass is_uri_byte bs → advance_all before (Target from) bs ≡ Target from
target-goes before from [] all = refl
target-goes before from (b ∷ bs) all =
    one-on before (Target from) b bs (Target from) (Target from) (target-stays before from b (pass-head is_uri_byte b bs all))
    (target-goes (before ++ b ∷ []) from bs (pass-tail is_uri_byte b bs all))

space-goes : (before bs : List ℕ) → AllPass is_uri_byte bs → MayContinue (advance_all before Space bs)
space-goes before [] all = tt
space-goes before (b ∷ bs) all =
    let P : HeadState → Type 0 = λ p. MayContinue p in
    subst P (sym (one-on before Space b bs (Target (length before)) (Target (length before)) (target-starts before b (pass-head is_uri_byte b bs all))
    (target-goes (before ++ b ∷ []) (length before) bs (pass-tail is_uri_byte b bs all)))) tt

pub target-goes-on : (bytes : List ℕ) → EndsInTarget bytes → MayContinue (place_of bytes)
target-goes-on bytes (blank, method, target, token, all, text) =
    let front = print_blank blank ++ (method ++ 32 ∷ []) in
    let there : place_of front ≡ Space = blank-leads blank (method ++ 32 ∷ []) Space (method-leads method [] Space token (λ before. refl)) [] in
    let split : bytes ≡ front ++ target = text ∙ regrouped (print_blank blank) method target in
    let place : place_of bytes ≡ advance_all front Space target =
    ap place_of split ∙ advance_all-append [] Blank front target ∙ ap (λ (p : HeadState). advance_all front p target) there in
    let P : HeadState → Type 0 = λ p. MayContinue p in
    subst P (sym place) (space-goes front target all)
  where
    regrouped : (a b c : List ℕ) → (a ++ b) ++ 32 ∷ c ≡ (a ++ (b ++ 32 ∷ [])) ++ c
    regrouped a b c = simp (append_assoc, cons-append)

pub no-target : (bytes : List ℕ) → place_of bytes ≡ Broken → EndsInTarget bytes → ⊥
no-target bytes is target = let P : HeadState → Type 0 = λ p. MayContinue p in subst P is (target-goes-on bytes target)

-- ---- a request may follow

may-by : (t s : List ℕ) → IsWhole (t ++ s) → MayBecomeRequest t
may-by t s whole = inl (s, whole.0, whole.1)

an-end : EndsLineEnd (10 ∷ 10 ∷ [])
an-end = end-feed (10 ∷ []) line-here

a-minor : EndsMinor (48 ∷ 10 ∷ 10 ∷ [])
a-minor = minor-of 48 0 (10 ∷ 10 ∷ []) refl (omega arith) an-end

a-version : (k : ℕ) → EndsVersion k (drop k (codes "HTTP/1.") ++ 48 ∷ 10 ∷ 10 ∷ [])
a-version k = (48 ∷ 10 ∷ 10 ∷ [], a-minor, refl)

slash-is-text : IsUtf8 (47 ∷ [])
slash-is-text = IsUtf8-from_ascii (47 ∷ []) (IsAscii-cons 47 [] (omega arith) IsAscii-nil)

method-ends : (t : List ℕ) → Stands Method t → (s : List ℕ) × IsWhole (t ++ s)
method-ends t h =
    let front = print_blank h.0 ++ (h.1 ++ 32 ∷ []) in
    let text : t ++ 32 ∷ 47 ∷ [] ≡ front ++ 47 ∷ [] = ap (λ (x : List ℕ). x ++ 32 ∷ 47 ∷ []) h.3 ∙ regrouped (print_blank h.0) h.1 in
    let target : HasTarget (t ++ 32 ∷ 47 ∷ []) (length front) = record {
      blank = h.0;
      method = h.1;
      target = 47 ∷ [];
      token = h.2;
      some = omega arith;
      all = All-cons (λ x. IsTrue (is_uri_byte x)) 47 [] refl (All-nil (λ x. IsTrue (is_uri_byte x)));
      text = text;
      start = refl;
    } in
    let version = drop 0 (codes "HTTP/1.") ++ 48 ∷ 10 ∷ 10 ∷ [] in
    let whole = whole-of (t ++ 32 ∷ 47 ∷ []) (length front) target slash-is-text version (a-version 0) in
    let P : List ℕ → Type 0 = λ x. IsWhole x in
    (32 ∷ 47 ∷ 32 ∷ version, subst P (joined t version) whole)
  where
    regrouped : (a b : List ℕ) → (a ++ b) ++ 32 ∷ 47 ∷ [] ≡ (a ++ (b ++ 32 ∷ [])) ++ 47 ∷ []
    regrouped a b = simp (append_assoc, cons-append)

    joined : (t v : List ℕ) → ((t ++ 32 ∷ 47 ∷ []) ++ 32 ∷ []) ++ v ≡ t ++ 32 ∷ 47 ∷ 32 ∷ v
    joined t v = simp (append_assoc, cons-append)

letter : is_token_byte 65 ≡ true
unfolding is_token_byte
letter = refl

blank-ends : (t : List ℕ) → Stands Blank t → (s : List ℕ) × IsWhole (t ++ s)
blank-ends t h =
    let token : IsToken (65 ∷ []) = (omega arith, All-cons (λ x. IsTrue (is_token_byte x)) 65 [] letter (All-nil (λ x. IsTrue (is_token_byte x)))) in
    let rest = method-ends (t ++ 65 ∷ []) (h.0, 65 ∷ [], token, ap (λ (x : List ℕ). x ++ 65 ∷ []) h.1) in
    let P : List ℕ → Type 0 = λ x. IsWhole x in
    (65 ∷ rest.0, subst P (append_assoc t (65 ∷ []) rest.0) rest.1)

blank-end-ends : (t : List ℕ) → Stands BlankEnd t → (s : List ℕ) × IsWhole (t ++ s)
blank-end-ends t h =
    let line : Stands Blank (t ++ 10 ∷ []) =
    (h.0 ++ crlf ∷ [], ap (λ (x : List ℕ). x ++ 10 ∷ []) h.1 ∙ append_assoc (print_blank h.0) (13 ∷ []) (10 ∷ []) ∙ sym (blank-push h.0 crlf)) in
    let rest = blank-ends (t ++ 10 ∷ []) line in
    let P : List ℕ → Type 0 = λ x. IsWhole x in
    (10 ∷ rest.0, subst P (append_assoc t (10 ∷ []) rest.0) rest.1)

may-be : (p : HeadState) (t : List ℕ) → MayContinue p → Stands p t → MayBecomeRequest t
may-be Blank t goes h = let rest = blank-ends t h in may-by t rest.0 rest.1
may-be BlankEnd t goes h = let rest = blank-end-ends t h in may-by t rest.0 rest.1
may-be Method t goes h = let rest = method-ends t h in may-by t rest.0 rest.1
may-be Space t goes h =
    inr (h.0, h.1, [], h.2, All-nil (λ x. IsTrue (is_uri_byte x)), h.3 ∙ sym (append_assoc (print_blank h.0) h.1 (32 ∷ [])))
may-be (Target from) t goes h =
    inr (h.blank, h.method, h.target, h.token, h.all, h.text ∙ regrouped (print_blank h.blank) h.method h.target)
  where
    regrouped : (a b c : List ℕ) → (a ++ (b ++ 32 ∷ [])) ++ c ≡ (a ++ b) ++ 32 ∷ c
    regrouped a b c = simp (append_assoc, cons-append)
may-be (Version k) t goes h = may-by t _ (h.1 _ (a-version k))
may-be Minor t goes h = may-by t _ (h _ a-minor)
may-be AtLineEnd t goes h = may-by t _ (h _ an-end)
may-be Feed t goes h = may-by t _ (h _ (feed-line (10 ∷ []) line-here))
may-be Line t goes h = may-by t _ (h _ line-here)
may-be LastFeed t goes h = may-by t (10 ∷ []) (h (10 ∷ []) refl)
may-be Name t goes h = may-by t _ (h _ (name-colon _ (value-feed (10 ∷ []) line-here)))
may-be Value t goes h = may-by t _ (h _ (value-feed (10 ∷ []) line-here))
may-be Whole t goes h = absurd goes
may-be Over t goes h = absurd goes
may-be Broken t goes h = absurd goes

pub may-become : (bytes : List ℕ) → MayContinue (place_of bytes) → MayBecomeRequest bytes
may-become bytes goes = may-be (place_of bytes) bytes goes (stands bytes)
