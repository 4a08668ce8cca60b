-- One turn of what waits, and many.
use Rattle.std.proofs.Common.{◌≡◌, ℕ, ◌+◌, ◌<◌, ◌≤◌, Bool, true, false, List, [], ◌∷◌, ◌++◌, length, take, drop, get_or, refl, sym, ap, ◌∙◌, arith, subst, append_assoc, Option, Some, None, inl, inr}
use Rattle.std.specs.Prelude.{MatchOption, if◌then◌else◌, ◌==◌, ◌||◌, nat_lt}
use Rattle.std.specs.Str.{is_utf8}
use Rattle.std.proofs.lemmas.List.{append-nil, length-append, take-append-drop, length-drop, take_more, drop-drop}
use Rattle.std.proofs.Math.Seq.{append_snoc, drop-length}
use Rattle.httparse.specs.Grammar.{RequestHead, ReadsRequest, print_request, print_blank, is_token_byte, is_uri_byte, is_value_byte}
use Rattle.httparse.proofs.GrammarLemmas.{ReadsRequest-append}
use Rattle.swh_base.specs.Limits.{body_limit}
use Rattle.swh_base.specs.declared.request.Request.{Request}
use Rattle.swh_http.specs.declared.ask.Ask.{Ask}
use Rattle.swh_http.specs.declared.ask.Ask.TheVariants.{Request as Asked, Refused}
use Rattle.swh_http.specs.declared.head_state.HeadState.{HeadState}
use Rattle.swh_http.specs.declared.head_state.HeadState.TheVariants.{Blank, BlankEnd, Method, Space, Target, Version, Minor, LineEnd as AtLineEnd, Feed, Line, LastFeed, Name, Value, Whole, Over, Broken}
use Rattle.swh_http.specs.HeadState.{version_byte, advance, advance_all, place_of, MayContinue, StartsWithin}
use Rattle.swh_http.specs.Wire.{head_limit, BeginsRequestHead, BeginsRequest, BeginsRefusal, IsUnfinished, AwaitsBytes, AreAsks, held_length}
use Rattle.swh_http.specs.declared.state.State.{State}
use Rattle.swh_http.specs.declared.state.State.TheVariants.{Head, Body, Closed}
use Rattle.swh_http.specs.Framed.{IsRefusedHead}
use Rattle.swh_http.specs.Turn.{SoFar, GoesAt, MayTakeMore, IsTurn, StaysClosed, held_of, Turns, asks_with}
use Rattle.swh_http.specs.declared.state.Turn.{Turn}
use Rattle.swh_http.proofs.Follow.{advance_all-append}
use Rattle.swh_http.proofs.Stand.{Stands, stands}
use Rattle.swh_http.proofs.Ends.{no-request, never-request, no-target, may-become}

-- ---- one byte of a head

pub place-push : (bytes : List ℕ) (b : ℕ) (place : HeadState) → place_of bytes ≡ place → place_of (bytes ++ b ∷ []) ≡ advance bytes place b
place-push bytes b place is = advance_all-append [] Blank bytes (b ∷ []) ∙ ap (λ (p : HeadState). advance bytes p b) is

within-of : (p : HeadState) (t : List ℕ) → Stands p t → StartsWithin (length t) p
within-of (Target from) t h = omega (arith, h.start, ap length h.text, length-append (print_blank h.blank ++ (h.method ++ 32 ∷ [])) h.target)
within-of Blank t h = tt
within-of BlankEnd t h = tt
within-of Method t h = tt
within-of Space t h = tt
within-of (Version k) t h = tt
within-of Minor t h = tt
within-of AtLineEnd t h = tt
within-of Feed t h = tt
within-of Line t h = tt
within-of LastFeed t h = tt
within-of Name t h = tt
within-of Value t h = tt
within-of Whole t h = tt
within-of Over t h = tt
within-of Broken t h = tt

pub within : (bytes : List ℕ) (place : HeadState) → place_of bytes ≡ place → StartsWithin (length bytes) place
within bytes place is =
    let P : HeadState → Type 0 = λ p. Stands p bytes in
    within-of place bytes (subst P is (stands bytes))

-- no byte of an unfinished head leads past its end
abbrev NotOver : HeadState → Type 0
NotOver Over = ⊥
NotOver _ = Unit {0}

choose : (b : Bool) (p q : HeadState) → NotOver p → NotOver q → NotOver (if b then p else q)
choose true p q hp hq = hp
choose false p q hp hq = hq

not-over : (p : HeadState) (t : List ℕ) (b : ℕ) → MayContinue p → NotOver (advance t p b)
not-over Blank t b goes = choose (b == 10) Blank (if b == 13 then BlankEnd else (if is_token_byte b then Method else Broken)) tt (choose (b == 13) BlankEnd (if is_token_byte b then Method else Broken) tt (choose (is_token_byte b) Method Broken tt tt))
not-over BlankEnd t b goes = choose (b == 10) Blank Broken tt tt
not-over Method t b goes = choose (is_token_byte b) Method (if b == 32 then Space else Broken) tt (choose (b == 32) Space Broken tt tt)
not-over Space t b goes = choose (is_uri_byte b) (Target (length t)) Broken tt tt
not-over (Target from) t b goes = choose (is_uri_byte b) (Target from) (if b == 32 then (if is_utf8 (drop from t) then Version 0 else Broken) else Broken) tt (choose (b == 32) (if is_utf8 (drop from t) then Version 0 else Broken) Broken (choose (is_utf8 (drop from t)) (Version 0) Broken tt tt) tt)
not-over (Version k) t b goes = choose (b == version_byte k) (if nat_lt k 6 then Version (k + 1) else Minor) Broken (choose (nat_lt k 6) (Version (k + 1)) Minor tt tt) tt
not-over Minor t b goes = choose (b == 48 || b == 49) AtLineEnd Broken tt tt
not-over AtLineEnd t b goes = choose (b == 10) Line (if b == 13 then Feed else Broken) tt (choose (b == 13) Feed Broken tt tt)
not-over Feed t b goes = choose (b == 10) Line Broken tt tt
not-over Line t b goes = choose (b == 10) Whole (if b == 13 then LastFeed else (if is_token_byte b then Name else Broken)) tt (choose (b == 13) LastFeed (if is_token_byte b then Name else Broken) tt (choose (is_token_byte b) Name Broken tt tt))
not-over LastFeed t b goes = choose (b == 10) Whole Broken tt tt
not-over Name t b goes = choose (is_token_byte b) Name (if b == 58 then Value else Broken) tt (choose (b == 58) Value Broken tt tt)
not-over Value t b goes = choose (is_value_byte b) Value (if b == 10 then Line else (if b == 13 then Feed else Broken)) tt (choose (b == 10) Line (if b == 13 then Feed else Broken) tt (choose (b == 13) Feed Broken tt tt))
not-over Whole t b goes = absurd goes
not-over Over t b goes = absurd goes
not-over Broken t b goes = absurd goes

goes-on : (p : HeadState) → NotOver p → (p ≡ Whole → ⊥) → (p ≡ Broken → ⊥) → MayContinue p
goes-on Whole over whole broken = whole refl
goes-on Over over whole broken = over
goes-on Broken over whole broken = broken refl
goes-on Blank over whole broken = tt
goes-on BlankEnd over whole broken = tt
goes-on Method over whole broken = tt
goes-on Space over whole broken = tt
goes-on (Version k) over whole broken = tt
goes-on Minor over whole broken = tt
goes-on AtLineEnd over whole broken = tt
goes-on Feed over whole broken = tt
goes-on Line over whole broken = tt
goes-on LastFeed over whole broken = tt
goes-on Name over whole broken = tt
goes-on Value over whole broken = tt
goes-on (Target from) over whole broken = tt

-- one byte more, after which the head goes on
pub goes-more : (held : List ℕ) (place after : HeadState) (b : ℕ) → GoesAt held place → length held < head_limit
    → place_of (held ++ b ∷ []) ≡ after → (after ≡ Whole → ⊥) → (after ≡ Broken → ⊥) → GoesAt (held ++ b ∷ []) after
goes-more held place after b at room is whole broken =
    let P : HeadState → Type 0 = λ p. NotOver p in
    let over = subst P (sym (place-push held b place at.place_is) ∙ is) (not-over place held b at.goes) in
    record {
      place_is = is;
      goes = goes-on after over whole broken;
      short = omega (arith, room, length-append held (b ∷ []));
    }

unfinished : (held : List ℕ) (place : HeadState) → GoesAt held place → IsUnfinished held
unfinished held place at =
    let P : HeadState → Type 0 = λ p. MayContinue p in
    let goes = subst P (sym at.place_is) at.goes in
    record { none = no-request held goes; some = may-become held goes }

joined : (bytes held rest : List ℕ) (i : ℕ) → held ≡ bytes ++ take i rest → bytes ++ rest ≡ held ++ drop i rest
joined bytes held rest i text =
    ap (λ (x : List ℕ). bytes ++ x) (sym (take-append-drop i rest)) ∙ sym (append_assoc bytes (take i rest) (drop i rest))
    ∙ ap (λ (x : List ℕ). x ++ drop i rest) (sym text)

-- no head ends within the limit
pub refused-long : (bytes held rest : List ℕ) (i : ℕ) (place : HeadState) → held ≡ bytes ++ take i rest → GoesAt held place
    → head_limit ≤ length held → i < length rest → BeginsRefusal (bytes ++ rest) 431
refused-long bytes held rest i place text at full more =
    inr (inl (
      held,
      drop i rest,
      refl,
      record { text = joined bytes held rest i text; short = at.short },
      unfinished held place at,
      omega (arith, full, at.short),
      omega (arith, length-drop i rest),
    ))

pub held-more : (bytes held rest : List ℕ) (i : ℕ) → held ≡ bytes ++ take i rest → i < length rest
    → held ++ get_or rest i 0 ∷ [] ≡ bytes ++ take (i + 1) rest
held-more bytes held rest i text more =
    ap (λ (x : List ℕ). x ++ get_or rest i 0 ∷ []) text ∙ append_assoc bytes (take i rest) (get_or rest i 0 ∷ [])
    ∙ ap (λ (x : List ℕ). bytes ++ x) (sym (take_more rest i 0 more))

-- no head begins so
pub refused-broken : (bytes held rest : List ℕ) (i : ℕ) → held ≡ bytes ++ take i rest → length held < head_limit
    → i < length rest → place_of (held ++ get_or rest i 0 ∷ []) ≡ Broken → BeginsRefusal (bytes ++ rest) 400
refused-broken bytes held rest i text room more is =
    let front = held ++ get_or rest i 0 ∷ [] in
    inl (
      front,
      drop (i + 1) rest,
      refl,
      record { text = joined bytes front rest (i + 1) (held-more bytes held rest i text more); short = omega (arith, room, length-append held (get_or rest i 0 ∷ [])) },
      record { never = never-request front is; no_target = no-target front is },
    )

-- ---- what waits

pub waits-head : (bytes : List ℕ) (place : HeadState) → GoesAt bytes place → AwaitsBytes bytes
waits-head bytes place at = inl (at.short, unfinished bytes place at)

-- ---- a head and its body

head-short : (bytes : List ℕ) (h : RequestHead) → ReadsRequest bytes h [] → length bytes ≤ head_limit → length (print_request h) ≤ head_limit
head-short bytes h reads short = omega (arith, short, ap length reads.1, length-append (print_request h) [])

-- more bytes after a head
begins-head : (bytes more : List ℕ) (h : RequestHead) → ReadsRequest bytes h [] → length bytes ≤ head_limit → BeginsRequestHead (bytes ++ more) h more
begins-head bytes more h reads short = record {
  reads = ReadsRequest-append bytes h [] more reads;
  short = head-short bytes h reads short;
}

pub refused-head : (held bytes head : List ℕ) (k status : ℕ) → head ≡ held ++ take k bytes → length head ≤ head_limit → IsRefusedHead head status
    → BeginsRefusal (held ++ bytes) status
refused-head held bytes head k status text short refused =
    let P : List ℕ → Type 0 = λ x. BeginsRequestHead x refused.head (drop k bytes) in
    inr (inr (refused.head, drop k bytes, subst P (sym (joined held head bytes k text)) (begins-head head (drop k bytes) refused.head refused.reads short), refused.refused))

pub turn-after : (held bytes head : List ℕ) (k taken : ℕ) (ask : Option Ask) (state : State) → head ≡ held ++ take k bytes → k ≤ length bytes
    → Turns head (drop k bytes) taken ask state → Turns held bytes (k + taken) ask state
turn-after held bytes head k taken None state text within turn =
    (omega (arith, turn.0, length-drop k bytes, within), turn.1, turn.2 ∙ ap (λ (x : List ℕ). Some x) (sym (joined held head bytes k text)))
turn-after held bytes head k taken (Some (Asked request)) state text within turn =
    let P : List ℕ → Type 0 = λ x. BeginsRequest x request (drop taken (drop k bytes)) in
    let Q : List ℕ → Type 0 = λ x. BeginsRequest (held ++ bytes) request x in
    (omega (arith, turn.0, length-drop k bytes, within), subst Q (drop-drop taken k bytes) (subst P (sym (joined held head bytes k text)) turn.1), turn.2, turn.3)
turn-after held bytes head k taken (Some (Refused status)) state text within turn =
    let P : List ℕ → Type 0 = λ x. BeginsRefusal x status in
    (omega (arith, turn.0, length-drop k bytes, within), subst P (sym (joined held head bytes k text)) turn.1, turn.2, turn.3)

pub no-body : (head body rest bytes : List ℕ) (k taken : ℕ) (ask : Option Ask) (state : State) → body ≡ [] → rest ≡ drop k bytes
    → Turns (head ++ body) rest taken ask state → Turns head (drop k bytes) taken ask state
no-body head body rest bytes k taken ask state empty after turn =
    let P : List ℕ → Type 0 = λ x. Turns x rest taken ask state in
    let Q : List ℕ → Type 0 = λ x. Turns head x taken ask state in
    subst Q after (subst P (ap (λ (x : List ℕ). head ++ x) empty ∙ append-nil head) turn)

-- ---- many turns

pub ready-waits : (state : State) (held : List ℕ) → MayTakeMore state → held_of state ≡ Some held → AwaitsBytes held
ready-waits (Head bytes place) held ready is =
    let P : List ℕ → Type 0 = λ x. AwaitsBytes x in
    let same : bytes.items ≡ held = cc in
    subst P same (waits-head bytes.items place ready)
ready-waits (Body head framed body) held ready is =
    let P : List ℕ → Type 0 = λ x. AwaitsBytes x in
    let same : head.items ++ body.items ≡ held = cc in
    subst P same (inr (ready.0.head, body.items, framed.length, begins-head head.items body.items ready.0.head ready.0.reads ready.1, ready.0.taken, ready.2))
ready-waits Closed held ready is = cc

-- the bytes that wait are a head's and fewer than a body's
pub ready-few : (state : State) → MayTakeMore state → held_length (held_of state) < head_limit + body_limit
ready-few (Head bytes place) ready = omega (arith, ready.short)
ready-few (Body head framed body) ready =
    omega (arith, ready.1, ready.2, ready.0.taken.short, length-append head.items body.items)
ready-few Closed ready = omega arith

rests : (held : List ℕ) → AwaitsBytes held → AreAsks held [] (Some held)
unfolding AreAsks
rests held waits = (waits, refl)

first : (bytes rest : List ℕ) (request : Request) (more : List Ask) (left : Option (List ℕ)) → BeginsRequest bytes request rest
    → AreAsks rest more left → AreAsks bytes (Asked request ∷ more) left
unfolding AreAsks
first bytes rest request more left begins are = (rest, begins, are)

last : (bytes : List ℕ) (status : ℕ) → BeginsRefusal bytes status → AreAsks bytes (Refused status ∷ []) None
unfolding AreAsks
last bytes status refusal = (refusal, refl, refl)

-- all bytes were taken
pub done : (whole : List ℕ) (asks : List Ask) (state : State) → MayTakeMore state → SoFar whole asks (held_of state) [] → AreAsks whole asks (held_of state)
done whole asks state ready so = by-held (held_of state) (λ held is. ready-waits state held ready is) so
  where
    by-held : (left : Option (List ℕ)) → ((held : List ℕ) → left ≡ Some held → AwaitsBytes held) → SoFar whole asks left [] → AreAsks whole asks left
    by-held None waits so = so
    by-held (Some held) waits so =
        let Q : List ℕ → Type 0 = λ x. AreAsks x [] (Some held) in
        let P : List Ask → Type 0 = λ x. AreAsks whole x (Some held) in
        subst P (append-nil asks) (so [] (Some held) (subst Q (sym (append-nil held)) (rests held (waits held refl))))

pub begin : (held piece : List ℕ) → SoFar (held ++ piece) [] (Some held) piece
begin held piece = λ more left are. are

-- one turn more
pub so-more : (whole : List ℕ) (asks : List Ask) (held rest : List ℕ) (taken : ℕ) (ask : Option Ask) (state : State)
    → SoFar whole asks (Some held) rest → Turns held rest taken ask state → SoFar whole (asks_with asks ask) (held_of state) (drop taken rest)
so-more whole asks held rest taken None state so turn =
    let P : Option (List ℕ) → Type 0 = λ h. SoFar whole asks h (drop taken rest) in
    subst P (sym turn.2) (λ more left are.
    let all : drop taken rest ≡ [] = rw turn.0 (drop-length rest) in
    let Q : List ℕ → Type 0 = λ x. AreAsks x more left in
    so more left (subst Q (ap (λ (x : List ℕ). (held ++ rest) ++ x) all ∙ append-nil (held ++ rest)) are))
so-more whole asks held rest taken (Some (Asked request)) state so turn =
    let P : Option (List ℕ) → Type 0 = λ h. SoFar whole (asks ++ Asked request ∷ []) h (drop taken rest) in
    subst P (sym turn.3) (λ more left are.
    let Q : List Ask → Type 0 = λ x. AreAsks whole x left in
    subst Q (sym (append_snoc asks (Asked request) more)) (so (Asked request ∷ more) left (first (held ++ rest) (drop taken rest) request more left turn.1 are)))
so-more whole asks held rest taken (Some (Refused status)) state so turn =
    let P : Option (List ℕ) → Type 0 = λ h. SoFar whole (asks ++ Refused status ∷ []) h (drop taken rest) in
    subst P (sym turn.3) (so (Refused status ∷ []) None (last (held ++ rest) status turn.1))

-- what a turn leaves, whether the session was open or closed
abbrev pub IsNext : Option (List ℕ) → List ℕ → Turn → Type 0
IsNext held rest turn = MatchOption held (StaysClosed rest turn) (λ bytes. IsTurn bytes rest turn)

turn-ready : (held rest : List ℕ) (taken : ℕ) (ask : Option Ask) (state : State) → Turns held rest taken ask state → MayTakeMore state
turn-ready held rest taken None state turn = turn.1
turn-ready held rest taken (Some (Asked request)) state turn = turn.2
turn-ready held rest taken (Some (Refused status)) state turn = turn.2

pub next-ready : (held : Option (List ℕ)) (rest : List ℕ) (turn : Turn) → IsNext held rest turn → MayTakeMore turn.state
next-ready None rest turn next = let P : State → Type 0 = λ x. MayTakeMore x in subst P (sym next.closed) tt
next-ready (Some bytes) rest turn next = turn-ready bytes rest turn.taken turn.ask turn.state next

pub next-so : (whole : List ℕ) (asks more : List Ask) (held : Option (List ℕ)) (rest after : List ℕ) (turn : Turn)
    → SoFar whole asks held rest → IsNext held rest turn → more ≡ asks_with asks turn.ask → after ≡ drop turn.taken rest
    → SoFar whole more (held_of turn.state) after
next-so whole asks more None rest after turn so next added left =
    let P : Option (List ℕ) → Type 0 = λ x. SoFar whole more x after in
    let Q : List Ask → Type 0 = λ x. AreAsks whole x None in
    let same : more ≡ asks = added ∙ ap (asks_with asks) next.silent in
    subst P (sym (ap held_of next.closed)) (subst Q (sym same) so)
next-so whole asks more (Some bytes) rest after turn so next added left =
    let P : List Ask → Type 0 = λ x. SoFar whole x (held_of turn.state) after in
    let Q : List ℕ → Type 0 = λ x. SoFar whole (asks_with asks turn.ask) (held_of turn.state) x in
    subst P (sym added) (subst Q (sym left) (so-more whole asks bytes rest turn.taken turn.ask turn.state so next))

pub next-closed : (asks more : List Ask) (held : Option (List ℕ)) (rest : List ℕ) (turn : Turn) → held ≡ None → IsNext held rest turn
    → more ≡ asks_with asks turn.ask → asks ≡ [] → (more ≡ []) × (held_of turn.state ≡ None)
next-closed asks more None rest turn is next added empty = (added ∙ ap (asks_with asks) next.silent ∙ empty, ap held_of next.closed)
next-closed asks more (Some bytes) rest turn is next added empty = cc
