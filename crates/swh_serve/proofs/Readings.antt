-- What the bytes of a connection ask, as far as replies need it.
use Rattle.std.proofs.Common.{◌≡◌, ℕ, zero, suc, ◌+◌, ◌*◌, ◌<◌, ◌≤◌, Bool, true, false, List, [], ◌∷◌, ◌++◌, length, refl, sym, ap, ◌∙◌, arith, subst, inl, inr, append_assoc, Option, Some, None}
use Rattle.std.specs.Prelude.{All}
use Rattle.std.proofs.lemmas.List.{length-append}
use Rattle.std.proofs.lemmas.List.Elements.{All-nil, All-cons, All-same}
use Rattle.swh_base.specs.Limits.{body_limit}
use Rattle.swh_base.specs.declared.request.Reply.{Reply}
use Rattle.swh_http.specs.declared.ask.Ask.{Ask}
use Rattle.swh_http.specs.declared.ask.Ask.TheVariants.{Request as Asked, Refused}
use Rattle.swh_http.specs.Field.{Pair, IsRefusedAs}
use Rattle.swh_http.specs.Reply.{HasBody}
use Rattle.swh_http.specs.Wire.{AreAsks, AwaitsBytes, BeginsRequest, BeginsRefusal, head_fields, head_limit}
use Rattle.swh_serve.specs.Desk.{Protocol}
use Rattle.swh_serve.specs.Asks.{MayBeReplied}
use Rattle.swh_serve.specs.Turns.{Turn, asks_of, IsTurn, AreTurns, AreKept}

-- the most bytes of a request
abbrev pub request_limit : ℕ
request_limit = head_limit + body_limit

-- ---- refusals

pub status-of : (status code : ℕ) → status ≡ code → 400 ≤ code → code ≤ 503 → HasBody status
status-of status code is low high = record {
  final = omega arith;
  three_digits = omega arith;
  has_content = λ (e : status ≡ 204). omega arith;
  resets_nothing = λ (e : status ≡ 205). omega arith;
  is_modified = λ (e : status ≡ 304). omega arith;
}

refused-head : (fields : List Pair) (status : ℕ) → IsRefusedAs fields status → HasBody status
refused-head fields status (inl why) = status-of status 400 why.0 (omega arith) (omega arith)
refused-head fields status (inr (inl why)) = status-of status 431 why.0 (omega arith) (omega arith)
refused-head fields status (inr (inr (inl why))) = status-of status 501 why.0 (omega arith) (omega arith)
refused-head fields status (inr (inr (inr why))) = status-of status 413 why.0 (omega arith) (omega arith)

-- bytes are refused with a status with which a body goes
refused-status : (bytes : List ℕ) (status : ℕ) → BeginsRefusal bytes status → HasBody status
refused-status bytes status (inl why) = status-of status 400 why.2 (omega arith) (omega arith)
refused-status bytes status (inr (inl why)) = status-of status 431 why.2 (omega arith) (omega arith)
refused-status bytes status (inr (inr why)) = refused-head (head_fields why.0) status why.3

-- each of the asks of bytes may be replied to
pub asks-replied : (bytes : List ℕ) (asks : List Ask) (left : Option (List ℕ)) → AreAsks bytes asks left → All MayBeReplied asks
unfolding AreAsks
asks-replied bytes [] left are = All-nil MayBeReplied
asks-replied bytes (Asked request ∷ asks) left are =
    All-cons MayBeReplied (Asked request) asks tt (asks-replied are.0 asks left are.2)
asks-replied bytes (Refused status ∷ asks) left are =
    All-cons MayBeReplied (Refused status) asks (refused-status bytes status are.0) (All-same MayBeReplied asks [] are.1 (All-nil MayBeReplied))

-- ---- how many bytes there are

-- a request and what follows it
request-bound : (bytes text body rest : List ℕ) (n h : ℕ) → bytes ≡ text ++ (body ++ rest) → length text ≤ head_limit → length body ≤ body_limit
    → length rest ≤ n * request_limit + h → length bytes ≤ suc n * request_limit + h
request-bound bytes text body rest n h whole short small more =
    let long : length bytes ≡ length text + (length body + length rest) =
    ap length whole ∙ length-append text (body ++ rest) ∙ ap (λ (k : ℕ). length text + k) (length-append body rest) in
    omega arith

-- so many requests, and the bytes that wait, are so long at most
pub asks-bound : (bytes : List ℕ) (asks : List Ask) (held : List ℕ) → AreAsks bytes asks (Some held)
    → length bytes ≤ length asks * request_limit + length held
unfolding AreAsks
asks-bound bytes [] held are =
    let same : held ≡ bytes = cc (are.1) in
    let long : length held ≡ length bytes = ap length same in
    omega arith
asks-bound bytes (Asked request ∷ asks) held are =
    request-bound bytes _ request.body are.0 (length asks) (length held) are.1.begins.reads.1 are.1.begins.short are.1.taken.short
    (asks-bound are.0 asks held are.2)
asks-bound bytes (Refused status ∷ asks) held are = cc (are.2)

-- ---- what waits

-- the bytes that are left wait for more
pub left-waits : (bytes : List ℕ) (asks : List Ask) (held : List ℕ) → AreAsks bytes asks (Some held) → AwaitsBytes held
unfolding AreAsks
left-waits bytes [] held are =
    let same : bytes ≡ held = cc (are.1) in
    subst AwaitsBytes same are.0
left-waits bytes (Asked request ∷ asks) held are = left-waits are.0 asks held are.2
left-waits bytes (Refused status ∷ asks) held are = cc (are.2)

-- bytes that wait ask nothing
pub waits-alone : (held : List ℕ) → AwaitsBytes held → AreAsks held [] (Some held)
unfolding AreAsks
waits-alone held waits = (waits, refl)

module _ {S : Type 0} (p : Protocol S) where
  -- a turn behind which the connection is kept is no refusal
  kept-asked : (n : ℕ) (bytes : List ℕ) (ask : Ask) (asks : List Ask) (left : Option (List ℕ)) (reply : Reply) (keep : Bool) (s s' : S)
      → AreAsks bytes (ask ∷ asks) left → IsTurn p n ask reply keep s s' → keep ≡ true → (rest : List ℕ) × AreAsks rest asks left
  unfolding AreAsks
  kept-asked n bytes (Asked request) asks left reply keep s s' are turn stays = (are.0, are.2)
  kept-asked n bytes (Refused status) asks left reply keep s s' are turn stays = cc (turn.1, stays)

  -- where the connection is kept behind each reply, the session goes on
  pub kept-waits : (n : ℕ) (bytes : List ℕ) (turns : List Turn) (left : Option (List ℕ)) (s s' : S) → AreAsks bytes (asks_of turns) left
      → AreTurns p n turns s s' → AreKept turns → (held : List ℕ) × (left ≡ Some held)
  unfolding AreAsks
  kept-waits n bytes [] left s s' are turns kept = (bytes, are.1)
  kept-waits n bytes (t ∷ turns) left s s' are turned kept =
      let rest = kept-asked n bytes t.ask (asks_of turns) left t.reply t.keep s turned.0 are turned.1 kept.0 in
      kept-waits (n + 1) rest.0 turns left turned.0 s' rest.1 turned.3 kept.1
