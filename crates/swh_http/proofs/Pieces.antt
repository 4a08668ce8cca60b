-- More bytes after those that are asked.
use Rattle.std.proofs.Common.{◌≡◌, ℕ, List, [], ◌∷◌, ◌++◌, length, ap, ◌∙◌, arith, subst, append_assoc, Option, Some, None, inl, inr}
use Rattle.std.proofs.lemmas.List.{length-append}
use Rattle.httparse.specs.Grammar.{RequestHead}
use Rattle.httparse.proofs.GrammarLemmas.{ReadsRequest-append}
use Rattle.swh_base.specs.declared.request.Request.{Request}
use Rattle.swh_http.specs.declared.ask.Ask.{Ask}
use Rattle.swh_http.specs.declared.ask.Ask.TheVariants.{Request as Asked, Refused}
use Rattle.swh_http.specs.Wire.{BeginsRequestHead, BeginsRequest, BeginsRefusal, BeginsSo, AreAsks}

head-more : (bytes more : List ℕ) (head : RequestHead) (rest : List ℕ) → BeginsRequestHead bytes head rest → BeginsRequestHead (bytes ++ more) head (rest ++ more)
head-more bytes more head rest begins = record { reads = ReadsRequest-append bytes head rest more begins.reads; short = begins.short }

request-more : (bytes more : List ℕ) (request : Request) (rest : List ℕ) → BeginsRequest bytes request rest
    → BeginsRequest (bytes ++ more) request (rest ++ more)
request-more bytes more request rest begins =
    let P : List ℕ → Type 0 = λ x. BeginsRequestHead (bytes ++ more) begins.head x in
    record {
      head = begins.head;
      begins = subst P (append_assoc request.body rest more) (head-more bytes more begins.head (request.body ++ rest) begins.begins);
      taken = begins.taken;
      method = begins.method;
      path = begins.path;
      keep = begins.keep;
    }

so-more : (bytes more front rest : List ℕ) → BeginsSo bytes front rest → BeginsSo (bytes ++ more) front (rest ++ more)
so-more bytes more front rest so = record {
  text = ap (λ (x : List ℕ). x ++ more) so.text ∙ append_assoc front rest more;
  short = so.short;
}

refusal-more : (bytes more : List ℕ) (status : ℕ) → BeginsRefusal bytes status → BeginsRefusal (bytes ++ more) status
refusal-more bytes more status (inl (front, rest, is, so, broken)) = inl (front, rest ++ more, is, so-more bytes more front rest so, broken)
refusal-more bytes more status (inr (inl (front, rest, is, so, open_so, full, some))) =
    inr (inl (front, rest ++ more, is, so-more bytes more front rest so, open_so, full, omega (arith, some, length-append rest more)))
refusal-more bytes more status (inr (inr (head, rest, begins, refused))) =
    inr (inr (head, rest ++ more, head-more bytes more head rest begins, refused))

pub asks-more : (bytes piece : List ℕ) (asks more : List Ask) (held : List ℕ) (left : Option (List ℕ)) → AreAsks bytes asks (Some held)
    → AreAsks (held ++ piece) more left → AreAsks (bytes ++ piece) (asks ++ more) left
unfolding AreAsks
asks-more bytes piece [] more held left are next =
    let same : held ≡ bytes = cc (are.1) in
    let P : List ℕ → Type 0 = λ x. AreAsks (x ++ piece) more left in
    subst P same next
asks-more bytes piece (Asked request ∷ asks) more held left are next =
    (are.0 ++ piece, request-more bytes piece request are.0 are.1, asks-more are.0 piece asks more held left are.2 next)
asks-more bytes piece (Refused status ∷ asks) more held left are next = cc (are.2)

pub closed-more : (bytes piece : List ℕ) (asks : List Ask) → AreAsks bytes asks None → AreAsks (bytes ++ piece) asks None
unfolding AreAsks
closed-more bytes piece [] are = cc (are.1)
closed-more bytes piece (Asked request ∷ asks) are =
    (are.0 ++ piece, request-more bytes piece request are.0 are.1, closed-more are.0 piece asks are.2)
closed-more bytes piece (Refused status ∷ asks) are = (refusal-more bytes piece status are.0, are.1, are.2)
