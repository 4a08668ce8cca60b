-- The bytes of a connection have one answer at most: no two cases of a request, a refusal and what waits hold of the
-- same bytes, and each case has one value.
use Rattle.std.proofs.Common.{◌≡◌, ℕ, ◌+◌, ◌≤◌, List, [], ◌∷◌, ◌++◌, length, take, drop, refl, sym, ap, ◌∙◌, arith, subst, Option, inl, inr}
use Rattle.std.proofs.lemmas.List.{append_cancel_left, length-append, take-append-drop, take-append-le}
use Rattle.std.proofs.lemmas.List.Elements.{All-head}
use Rattle.std.proofs.Math.Seq.{take-append_seam}
use Rattle.httparse.specs.Grammar.{RequestHead, print_request, ReadsRequest}
use Rattle.httparse.proofs.GrammarLemmas.{request_unique}
use Rattle.swh_base.specs.declared.request.Request.{Request}
use Rattle.swh_http.specs.declared.ask.Ask.{Ask}
use Rattle.swh_http.specs.declared.ask.Ask.TheVariants.{Request as Asked, Refused}
use Rattle.swh_http.specs.declared.head_state.HeadState.{HeadState}
use Rattle.swh_http.specs.declared.head_state.HeadState.TheVariants.{Blank, BlankEnd, Method, Space, Target, Version, Minor, LineEnd as AtLineEnd, Feed, Line, LastFeed, Name, Value, Whole, Over, Broken}
use Rattle.swh_base.specs.Text.{IsNumber}
use Rattle.swh_http.specs.Field.{Pair, AreLength, AreTakenFields, IsRefusedAs, content_lengths, keeps}
use Rattle.swh_http.specs.HeadState.{advance_all, place_of, MayContinue}
use Rattle.swh_http.specs.Wire.{head_limit, head_fields, BeginsRequestHead, BeginsRequest, BeginsRefusal, BeginsSo, BeginsNoHead, IsUnfinished, AwaitsBytes, AreAsks}
use Rattle.swh_http.proofs.Ends.{may-become, target-goes-on, whole-head}
use Rattle.swh_http.proofs.Follow.{advance_all-append, broken, over, place_of-head}

-- ---- two fronts of the same bytes

-- the shorter of two fronts is a front of the longer
shorter : (bytes a r b q : List ℕ) → bytes ≡ a ++ r → bytes ≡ b ++ q → length a ≤ length b → (more : List ℕ) × (b ≡ a ++ more)
shorter bytes a r b q left right less =
    let same : a ++ r ≡ b ++ q = sym left ∙ right in
    let front : take (length a) b ≡ a =
    sym (take-append-le (length a) b q less) ∙ ap (λ (x : List ℕ). take (length a) x) (sym same) ∙ take-append_seam a r in
    (drop (length a) b, sym (take-append-drop (length a) b) ∙ ap (λ (x : List ℕ). x ++ drop (length a) b) front)

-- fronts of the same length are equal, and so is what follows them
same-cut : (a r b q : List ℕ) → a ++ r ≡ b ++ q → length a ≡ length b → (a ≡ b) × (r ≡ q)
same-cut a r b q same long =
    let front : a ≡ b =
    sym (take-append_seam a r) ∙ ap (λ (x : List ℕ). take (length a) x) same ∙ ap (λ (n : ℕ). take n (b ++ q)) long ∙ take-append_seam b q in
    (front, append_cancel_left a r q (same ∙ ap (λ (x : List ℕ). x ++ q) (sym front)))

-- ---- a head may go on, or not

-- where more bytes may go on, fewer could
goes-back : (p : HeadState) (before bs : List ℕ) → MayContinue (advance_all before p bs) → MayContinue p
goes-back Whole before [] goes = goes
goes-back Whole before (b ∷ bs) goes = let P : HeadState → Type 0 = λ p. MayContinue p in subst P (over bs (before ++ b ∷ [])) goes
goes-back Over before bs goes = let P : HeadState → Type 0 = λ p. MayContinue p in subst P (over bs before) goes
goes-back Broken before bs goes = let P : HeadState → Type 0 = λ p. MayContinue p in subst P (broken bs before) goes
goes-back Blank before bs goes = tt
goes-back BlankEnd before bs goes = tt
goes-back Method before bs goes = tt
goes-back Space before bs goes = tt
goes-back (Target from) before bs goes = tt
goes-back (Version k) before bs goes = tt
goes-back Minor before bs goes = tt
goes-back AtLineEnd before bs goes = tt
goes-back Feed before bs goes = tt
goes-back Line before bs goes = tt
goes-back LastFeed before bs goes = tt
goes-back Name before bs goes = tt
goes-back Value before bs goes = tt

front-goes : (front more : List ℕ) → MayContinue (place_of (front ++ more)) → MayContinue (place_of front)
front-goes front more goes =
    let P : HeadState → Type 0 = λ p. MayContinue p in
    goes-back (place_of front) front more (subst P (advance_all-append [] Blank front more) goes)

-- where more bytes make a whole head, and these are none, the head goes on
goes-to : (p : HeadState) (before more : List ℕ) → (p ≡ Whole → ⊥) → advance_all before p more ≡ Whole → MayContinue p
goes-to Whole before more none ends = absurd (none refl)
goes-to Over before more none ends = let e = sym (over more before) ∙ ends in cc
goes-to Broken before more none ends = let e = sym (broken more before) ∙ ends in cc
goes-to Blank before more none ends = tt
goes-to BlankEnd before more none ends = tt
goes-to Method before more none ends = tt
goes-to Space before more none ends = tt
goes-to (Target from) before more none ends = tt
goes-to (Version k) before more none ends = tt
goes-to Minor before more none ends = tt
goes-to AtLineEnd before more none ends = tt
goes-to Feed before more none ends = tt
goes-to Line before more none ends = tt
goes-to LastFeed before more none ends = tt
goes-to Name before more none ends = tt
goes-to Value before more none ends = tt

unfinished-goes : (bytes : List ℕ) → IsUnfinished bytes → MayContinue (place_of bytes)
unfinished-goes bytes so = elim (so.some) [
  | inl ends ↦
      let whole : place_of (bytes ++ ends.0) ≡ Whole = ap place_of ends.2.1 ∙ place_of-head ends.1 ends.2.0 in
      goes-to (place_of bytes) bytes ends.0
      (λ is. let head = whole-head bytes is in so.none head.0 [] head.1)
      (sym (advance_all-append [] Blank bytes ends.0) ∙ whole)
  | inr target ↦ target-goes-on bytes target
]

broken-stops : (front : List ℕ) → BeginsNoHead front → MayContinue (place_of front) → ⊥
broken-stops front so goes = elim (may-become front goes) [
  | inl ends ↦ so.never ends.0 ends.1 [] ends.2
  | inr target ↦ so.no_target target
]

-- ---- each two cases exclude each other

-- a head, and a front that begins none
head-broken : (bytes : List ℕ) (h : RequestHead) (rest front more : List ℕ) → ReadsRequest bytes h rest → bytes ≡ front ++ more
    → BeginsNoHead front → ⊥
head-broken bytes h rest front more reads text so = so.never more h rest (reads.0, sym text ∙ reads.1)

-- a head, and a front of the limit that is not whole
head-open : (bytes : List ℕ) (h : RequestHead) (rest front more : List ℕ) → BeginsRequestHead bytes h rest → bytes ≡ front ++ more
    → length front ≡ head_limit → IsUnfinished front → ⊥
head-open bytes h rest front more begins text full so =
    let cut = shorter bytes (print_request h) rest front more begins.reads.1 text (omega (arith, begins.short, full)) in
    so.none h cut.0 (begins.reads.0, cut.1)

-- a front that begins no head, of bytes that may become one
open-broken : (bytes front more : List ℕ) → bytes ≡ front ++ more → IsUnfinished bytes → BeginsNoHead front → ⊥
open-broken bytes front more text so stops =
    let P : List ℕ → Type 0 = λ x. MayContinue (place_of x) in
    broken-stops front stops (front-goes front more (subst P text (unfinished-goes bytes so)))

-- two refusals before the end of a head
open-broken-fronts : (bytes front more other rest : List ℕ) → BeginsSo bytes front more → BeginsNoHead front → bytes ≡ other ++ rest
    → length other ≡ head_limit → IsUnfinished other → ⊥
open-broken-fronts bytes front more other rest so stops text full goes =
    let cut = shorter bytes front more other rest so.text text (omega (arith, so.short, full)) in
    open-broken other front cut.0 cut.1 goes stops

-- ---- one length, one refusal

one-length : (text : List ℕ) (n m : ℕ) → IsNumber text n → IsNumber text m → n ≡ m
one-length text n m a b = a.value ∙ sym b.value

lengths-unique : (texts : List (List ℕ)) (n m : ℕ) → AreLength texts n → AreLength texts m → n ≡ m
lengths-unique [] n m a b = a.none refl ∙ sym (b.none refl)
lengths-unique (t ∷ ts) n m a b =
    one-length t n m (All-head (λ text. IsNumber text n) t ts a.each) (All-head (λ text. IsNumber text m) t ts b.each)

taken-not-refused : (fs : List Pair) (n status : ℕ) → AreTakenFields fs n → IsRefusedAs fs status → ⊥
taken-not-refused fs n status taken (inl (is, malformed)) = malformed n taken.lengths
taken-not-refused fs n status taken (inr (inl (is, formed, many))) = omega (arith, many, taken.few)
taken-not-refused fs n status taken (inr (inr (inl (is, formed, few, coded)))) = omega (arith, coded, ap length taken.plain)
taken-not-refused fs n status taken (inr (inr (inr (is, formed, few, plain, long)))) =
    let same = lengths-unique (content_lengths fs) n long.0 taken.lengths long.1 in
    omega (arith, same, long.2, taken.short)

one-refusal : (fs : List Pair) (a b : ℕ) → IsRefusedAs fs a → IsRefusedAs fs b → a ≡ b
one-refusal fs a b (inl (is, malformed)) (inl (so, other)) = is ∙ sym so
one-refusal fs a b (inl (is, malformed)) (inr (inl (so, formed, many))) = absurd (formed malformed)
one-refusal fs a b (inl (is, malformed)) (inr (inr (inl (so, formed, few, coded)))) = absurd (formed malformed)
one-refusal fs a b (inl (is, malformed)) (inr (inr (inr (so, formed, few, plain, long)))) = absurd (formed malformed)
one-refusal fs a b (inr (inl (is, formed, many))) (inl (so, malformed)) = absurd (formed malformed)
one-refusal fs a b (inr (inl (is, formed, many))) (inr (inl (so, other, more))) = is ∙ sym so
one-refusal fs a b (inr (inl (is, formed, many))) (inr (inr (inl (so, other, few, coded)))) = absurd (few many)
one-refusal fs a b (inr (inl (is, formed, many))) (inr (inr (inr (so, other, few, plain, long)))) = absurd (few many)
one-refusal fs a b (inr (inr (inl (is, formed, few, coded)))) (inl (so, malformed)) = absurd (formed malformed)
one-refusal fs a b (inr (inr (inl (is, formed, few, coded)))) (inr (inl (so, other, many))) = absurd (few many)
one-refusal fs a b (inr (inr (inl (is, formed, few, coded)))) (inr (inr (inl (so, other, less, codes)))) = is ∙ sym so
one-refusal fs a b (inr (inr (inl (is, formed, few, coded)))) (inr (inr (inr (so, other, less, plain, long)))) = absurd (plain coded)
one-refusal fs a b (inr (inr (inr (is, formed, few, plain, long)))) (inl (so, malformed)) = absurd (formed malformed)
one-refusal fs a b (inr (inr (inr (is, formed, few, plain, long)))) (inr (inl (so, other, many))) = absurd (few many)
one-refusal fs a b (inr (inr (inr (is, formed, few, plain, long)))) (inr (inr (inl (so, other, less, coded)))) = absurd (plain coded)
one-refusal fs a b (inr (inr (inr (is, formed, few, plain, long)))) (inr (inr (inr (so, other, less, even, more)))) = is ∙ sym so

-- ---- a request, a refusal, or what waits

-- along the head that both read
taken-same : (h k : RequestHead) (n : ℕ) → h ≡ k → AreTakenFields (head_fields h) n → AreTakenFields (head_fields k) n
taken-same h k n same taken = let P : RequestHead → Type 0 = λ x. AreTakenFields (head_fields x) n in subst P same taken

refused-same : (h k : RequestHead) (status : ℕ) → h ≡ k → IsRefusedAs (head_fields h) status → IsRefusedAs (head_fields k) status
refused-same h k status same refused = let P : RequestHead → Type 0 = λ x. IsRefusedAs (head_fields x) status in subst P same refused

one-head : (bytes : List ℕ) (h k : RequestHead) (r q : List ℕ) → BeginsRequestHead bytes h r → BeginsRequestHead bytes k q → (h ≡ k) × (r ≡ q)
one-head bytes h k r q a b = request_unique bytes h k r q a.reads b.reads

one-taken : (h k : RequestHead) (n m : ℕ) → h ≡ k → AreTakenFields (head_fields h) n → AreTakenFields (head_fields k) m → n ≡ m
one-taken h k n m same a b = lengths-unique (content_lengths (head_fields k)) n m (taken-same h k n same a).lengths b.lengths

waits-no-head : (bytes : List ℕ) (h : RequestHead) (rest : List ℕ) → IsUnfinished bytes → BeginsRequestHead bytes h rest → ⊥
waits-no-head bytes h rest so begins = so.none h rest begins.reads

waits-no-request : (bytes : List ℕ) (request : Request) (rest : List ℕ) → AwaitsBytes bytes → BeginsRequest bytes request rest → ⊥
waits-no-request bytes request rest (inl (short, so)) begins = waits-no-head bytes begins.head (request.body ++ rest) so begins.begins
waits-no-request bytes request rest (inr (h, body, n, head, taken, less)) begins =
    let same = one-head bytes h begins.head body (request.body ++ rest) head begins.begins in
    let long = one-taken h begins.head n (length request.body) same.0 taken begins.taken in
    omega (arith, less, long, ap length same.1, length-append request.body rest)

waits-no-refusal : (bytes : List ℕ) (status : ℕ) → AwaitsBytes bytes → BeginsRefusal bytes status → ⊥
waits-no-refusal bytes status (inl (short, so)) (inl (front, more, is, text, stops)) = open-broken bytes front more text.text so stops
waits-no-refusal bytes status (inl (short, so)) (inr (inl (front, more, is, text, goes, full, some))) =
    omega (arith, short, full, some, ap length text.text, length-append front more)
waits-no-refusal bytes status (inl (short, so)) (inr (inr (h, rest, begins, refused))) = waits-no-head bytes h rest so begins
waits-no-refusal bytes status (inr (k, body, n, head, taken, less)) (inl (front, more, is, text, stops)) =
    head-broken bytes k body front more head.reads text.text stops
waits-no-refusal bytes status (inr (k, body, n, head, taken, less)) (inr (inl (front, more, is, text, goes, full, some))) =
    head-open bytes k body front more head text.text full goes
waits-no-refusal bytes status (inr (k, body, n, head, taken, less)) (inr (inr (h, rest, begins, refused))) =
    let same = one-head bytes k h body rest head begins in
    taken-not-refused (head_fields h) n status (taken-same k h n same.0 taken) refused

request-no-refusal : (bytes : List ℕ) (request : Request) (rest : List ℕ) (status : ℕ) → BeginsRequest bytes request rest
    → BeginsRefusal bytes status → ⊥
request-no-refusal bytes request rest status begins (inl (front, more, is, text, stops)) =
    head-broken bytes begins.head (request.body ++ rest) front more begins.begins.reads text.text stops
request-no-refusal bytes request rest status begins (inr (inl (front, more, is, text, goes, full, some))) =
    head-open bytes begins.head (request.body ++ rest) front more begins.begins text.text full goes
request-no-refusal bytes request rest status begins (inr (inr (h, after, head, refused))) =
    let same = one-head bytes begins.head h (request.body ++ rest) after begins.begins head in
    taken-not-refused (head_fields h) (length request.body) status (taken-same begins.head h (length request.body) same.0 begins.taken) refused

refusal-unique : (bytes : List ℕ) (a b : ℕ) → BeginsRefusal bytes a → BeginsRefusal bytes b → a ≡ b
refusal-unique bytes a b (inl (f, m, is, text, stops)) (inl (g, n, so, other, ends)) = is ∙ sym so
refusal-unique bytes a b (inl (f, m, is, text, stops)) (inr (inl (g, n, so, other, goes, full, some))) =
    absurd (open-broken-fronts bytes f m g n text stops other.text full goes)
refusal-unique bytes a b (inl (f, m, is, text, stops)) (inr (inr (h, rest, begins, refused))) =
    absurd (head-broken bytes h rest f m begins.reads text.text stops)
refusal-unique bytes a b (inr (inl (f, m, is, text, goes, full, some))) (inl (g, n, so, other, stops)) =
    absurd (open-broken-fronts bytes g n f m other stops text.text full goes)
refusal-unique bytes a b (inr (inl (f, m, is, text, goes, full, some))) (inr (inl (g, n, so, other, on, long, more))) = is ∙ sym so
refusal-unique bytes a b (inr (inl (f, m, is, text, goes, full, some))) (inr (inr (h, rest, begins, refused))) =
    absurd (head-open bytes h rest f m begins text.text full goes)
refusal-unique bytes a b (inr (inr (h, rest, begins, refused))) (inl (g, n, so, other, stops)) =
    absurd (head-broken bytes h rest g n begins.reads other.text stops)
refusal-unique bytes a b (inr (inr (h, rest, begins, refused))) (inr (inl (g, n, so, other, goes, full, some))) =
    absurd (head-open bytes h rest g n begins other.text full goes)
refusal-unique bytes a b (inr (inr (h, rest, begins, refused))) (inr (inr (k, after, head, other))) =
    let same = one-head bytes h k rest after begins head in
    one-refusal (head_fields k) a b (refused-same h k a same.0 refused) other

request-unique : (bytes : List ℕ) (a b : Request) (r q : List ℕ) → BeginsRequest bytes a r → BeginsRequest bytes b q → (a ≡ b) × (r ≡ q)
request-unique bytes a b r q x y =
    let same = one-head bytes x.head y.head (a.body ++ r) (b.body ++ q) x.begins y.begins in
    let long = one-taken x.head y.head (length a.body) (length b.body) same.0 x.taken y.taken in
    let cut = same-cut a.body r b.body q same.1 long in
    let method : a.method ≡ b.method = x.method ∙ ap (λ (h : RequestHead). h.method) same.0 ∙ sym y.method in
    let path : a.path ≡ b.path = x.path ∙ ap (λ (h : RequestHead). h.target) same.0 ∙ sym y.path in
    let keep : a.keep ≡ b.keep = x.keep ∙ ap (λ (h : RequestHead). keeps h.minor (head_fields h)) same.0 ∙ sym y.keep in
    (λ i. record { method = method i; path = path i; body = cut.0 i; keep = keep i }, cut.1)

-- ---- all that the bytes ask

pub asks-unique : (bytes : List ℕ) (asks more : List Ask) (held left : Option (List ℕ)) → AreAsks bytes asks held
    → AreAsks bytes more left → (asks ≡ more) × (held ≡ left)
unfolding AreAsks
asks-unique bytes [] [] held left a b = (refl, a.1 ∙ sym b.1)
asks-unique bytes [] (Asked request ∷ more) held left a b = absurd (waits-no-request bytes request b.0 a.0 b.1)
asks-unique bytes [] (Refused status ∷ more) held left a b = absurd (waits-no-refusal bytes status a.0 b.0)
asks-unique bytes (Asked request ∷ asks) [] held left a b = absurd (waits-no-request bytes request a.0 b.0 a.1)
asks-unique bytes (Asked request ∷ asks) (Asked other ∷ more) held left a b =
    let same = request-unique bytes request other a.0 b.0 a.1 b.1 in
    let P : List ℕ → Type 0 = λ x. AreAsks x asks held in
    let rest = asks-unique b.0 asks more held left (subst P same.1 a.2) b.2 in
    (λ i. Asked (same.0 i) ∷ rest.0 i, rest.1)
asks-unique bytes (Asked request ∷ asks) (Refused status ∷ more) held left a b =
    absurd (request-no-refusal bytes request a.0 status a.1 b.0)
asks-unique bytes (Refused status ∷ asks) [] held left a b = absurd (waits-no-refusal bytes status b.0 a.0)
asks-unique bytes (Refused status ∷ asks) (Asked request ∷ more) held left a b =
    absurd (request-no-refusal bytes request b.0 status b.1 a.0)
asks-unique bytes (Refused status ∷ asks) (Refused other ∷ more) held left a b =
    let same = refusal-unique bytes status other a.0 b.0 in
    let none : asks ≡ more = a.1 ∙ sym b.1 in
    (λ i. Refused (same i) ∷ none i, a.2 ∙ sym b.2)
