-- Asks that are replied to one after another.
use Rattle.std.proofs.Common.{◌≡◌, ℕ, suc, ◌+◌, ◌<◌, Bool, true, false, List, [], ◌∷◌, ◌++◌, length, take, drop, get_or, refl, sym, ap, ◌∙◌, arith, subst, inl, inr, append_assoc, Result, Ok, Err}
use Rattle.std.specs.Prelude.{IfOk, ◌&&◌, not, nat_lt}
use Rattle.std.proofs.lemmas.List.{append-nil, length-append, take_more, take-append-drop}
use Rattle.swh_base.specs.declared.request.Reply.{Reply}
use Rattle.swh_base.specs.declared.request.Request.{Request}
use Rattle.swh_http.specs.declared.ask.Ask.{Ask}
use Rattle.swh_http.specs.declared.ask.Ask.TheVariants.{Request as Asked, Refused}
use Rattle.swh_http.specs.Reply.{reply_text}
use Rattle.swh_outside.specs.Sink.{TakesSome}
use Rattle.swh_serve.specs.declared.fault.PutFault.{PutFault}
use Rattle.swh_serve.specs.declared.fault.PutFault.TheVariants.{Write, Memory}
use Rattle.swh_serve.specs.declared.progress.Progress.TheVariants.{Open, Closed}
use Rattle.swh_serve.specs.Desk.{Protocol, IsLawful}
use Rattle.swh_serve.specs.Puts.{IsTextPut}
use Rattle.swh_serve.specs.Asks.{IsAskEnd, AreReplied}
use Rattle.swh_serve.specs.Turns.{Turn, turn_of, asks_of, texts_of, answer_text, ask_text, refused_reply, keeps, IsReply, IsTurn, AreTurns, AreKept, LastCloses, PutsPart, LacksLast, requests_limit}
use Rattle.swh_serve.proofs.TurnLists.{asks_of-append, texts_of-one, kept-append, kept-open, put-append, one-turn, more-turns, kept-few}

-- what was put of turns, and the text of one more
one-more : (before mid now : List ℕ) (turns : List Turn) (ask : Ask) (reply : Reply) (keep : Bool) → mid ≡ before ++ texts_of turns
    → now ≡ mid ++ ask_text ask reply keep → now ≡ before ++ texts_of (turns ++ turn_of ask reply keep ∷ [])
one-more before mid now turns ask reply keep first second =
    put-append before mid now turns (turn_of ask reply keep ∷ []) first
    (second ∙ ap (λ (l : List ℕ). mid ++ l) (sym (texts_of-one (turn_of ask reply keep))))

-- the asks of turns, one more, and the rest
asked : (turns : List Turn) (done : List Ask) (ask : Ask) (rest asks : List Ask) (reply : Reply) (keep : Bool) → done ≡ asks_of turns
    → asks ≡ done ++ ask ∷ rest → asks ≡ asks_of (turns ++ turn_of ask reply keep ∷ []) ++ rest
asked turns done ask rest asks reply keep are cut =
    cut ∙ ap (λ (l : List Ask). l ++ ask ∷ rest) are ∙ sym (append_assoc (asks_of turns) (ask ∷ []) rest)
    ∙ ap (λ (l : List Ask). l ++ rest) (sym (asks_of-append turns (turn_of ask reply keep ∷ [])))

pub never-kept : (X : Type 0) (result : Result Bool PutFault) → IfOk result (λ keep. keep ≡ false) → IfOk result (λ keep. keep ≡ true → X)
never-kept X (Ok keep) shuts = λ stays. absurd (kept-open keep stays shuts)
never-kept X (Err fault) shuts = tt

not-shut : (a b c : Bool) → (a && not b && c) ≡ true → b ≡ false
not-shut a false c h = refl
not-shut true true c h = cc h
not-shut false true c h = cc h

module _ {S : Type 0} (p : Protocol S) where
  -- a seat may be asked again behind a reply behind which the connection is kept
  pub ready-kept : IsLawful p → (n : ℕ) (request : Request) (reply : Reply) (closes keep : Bool) (s s' : S) (result : Result Bool PutFault)
      → p.ready s → p.answers request reply closes s s' → keep ≡ keeps n request closes → IfOk result (λ kept. kept ≡ keep)
      → IfOk result (λ kept. kept ≡ true → p.ready s')
  ready-kept lawful n request reply closes keep s s' (Ok kept) ready answers so same = λ stays.
      let not_closed : closes ≡ false = not-shut request.keep closes (nat_lt (n + 1) requests_limit) (sym so ∙ sym same ∙ stays) in
      let P : Bool → Type 0 = λ b. p.answers request reply b s s' in
      lawful.again request reply s s' ready (subst P not_closed answers)
  ready-kept lawful n request reply closes keep s s' (Err fault) ready answers so same = tt

  pub ready-lacking : IsLawful p → (request : Request) (s s' : S) (result : Result Bool PutFault) → p.ready s → p.lacks request s s'
      → IfOk result (λ kept. kept ≡ true → p.ready s')
  ready-lacking lawful request s s' (Ok kept) ready lacks = λ _. lawful.lacking request s s' ready lacks
  ready-lacking lawful request s s' (Err fault) ready lacks = tt

module _ {S : Type 0} (p : Protocol S) (Tells : Type 0) where
  -- ---- one ask

  pub ask-answered : (n : ℕ) (request : Request) (reply : Reply) (closes keep : Bool) (s s' : S) (before now : List ℕ)
      (result : Result Bool PutFault) → IsReply p request reply closes s s' → keep ≡ keeps n request closes
      → IfOk result (λ kept. kept ≡ keep) → (Tells → IsTextPut before (answer_text request reply keep) now result)
      → IsAskEnd p Tells n (Asked request) s s' before now result
  ask-answered n request reply closes keep s s' before now (Ok kept) is so same put =
      (reply, (closes, is, same ∙ so), λ tells. put tells ∙ ap (λ (k : Bool). before ++ answer_text request reply k) (sym same))
  ask-answered n request reply closes keep s s' before now (Err Write) is so same put = (reply, keep, (closes, is, so), put)
  ask-answered n request reply closes keep s s' before now (Err Memory) is so same put =
      (put, inr (reply, keep, (closes, is, so)))

  pub ask-refused : (n status : ℕ) (s : S) (before now : List ℕ) (result : Result Bool PutFault)
      → IfOk result (λ kept. kept ≡ false) → (Tells → IsTextPut before (reply_text (refused_reply status) false) now result)
      → IsAskEnd p Tells n (Refused status) s s before now result
  ask-refused n status s before now (Ok kept) same put =
      (refused_reply status, (refl, same, refl), λ tells. put tells ∙ ap (λ (k : Bool). before ++ reply_text (refused_reply status) k) (sym same))
  ask-refused n status s before now (Err Write) same put = (refused_reply status, false, (refl, refl, refl), put)
  ask-refused n status s before now (Err Memory) same put = (put, inl refl)

  pub ready-few : (n : ℕ) (ask : Ask) (s s' : S) (before now : List ℕ) (result : Result Bool PutFault)
      → IsAskEnd p Tells n ask s s' before now result → IfOk result (λ keep. keep ≡ true → p.ready s')
      → IfOk result (λ keep. keep ≡ true → p.ready s' × (n + 1 < requests_limit))
  ready-few n ask s s' before now (Ok keep) is ready = λ stays. (ready stays, kept-few p n ask is.0 keep s s' is.1 stays)
  ready-few n ask s s' before now (Err fault) is ready = tt

  -- ---- many

  -- These asks were replied to, and the connection is kept.
  pub record RepliedSoFar (n : ℕ) (done : List Ask) (s s' : S) (before now : List ℕ) (requests : ℕ) : Type 0 where
    pub turns : List Turn
    pub are : done ≡ asks_of turns
    pub answered : AreTurns p n turns s s'
    pub kept : AreKept turns
    pub put : Tells → now ≡ before ++ texts_of turns
    pub count : requests ≡ n + length turns

  pub replied-none : (n : ℕ) (s : S) (before : List ℕ) → RepliedSoFar n [] s s before before n
  replied-none n s before = record {
    turns = [];
    are = refl;
    answered = refl;
    kept = tt;
    put = λ _. sym (append-nil before);
    count = let e : n ≡ n + 0 = omega arith in e;
  }

  -- one more turn, behind those so far
  turns-more : (n : ℕ) (done : List Ask) (s mid s' : S) (before at : List ℕ) (k : ℕ) (far : RepliedSoFar n done s mid before at k)
      (ask : Ask) (reply : Reply) (keep : Bool) → IsTurn p k ask reply keep mid s'
      → AreTurns p n (far.turns ++ turn_of ask reply keep ∷ []) s s'
  turns-more n done s mid s' before at k far ask reply keep is =
      let Q : ℕ → Type 0 = λ m. AreTurns p m (turn_of ask reply keep ∷ []) mid s' in
      more-turns p n far.turns (turn_of ask reply keep ∷ []) s mid s' far.kept far.answered
      (subst Q far.count (one-turn p k ask reply keep mid s' is))

  count-more : (n k : ℕ) (turns : List Turn) (t : Turn) → k ≡ n + length turns → k + 1 ≡ n + length (turns ++ t ∷ [])
  count-more n k turns t is = omega (arith, length-append turns (t ∷ []))

  pub replied-more : (n : ℕ) (done : List Ask) (s mid s' : S) (before at now : List ℕ) (k : ℕ) (ask : Ask)
      → RepliedSoFar n done s mid before at k → IsAskEnd p Tells k ask mid s' at now (Ok true)
      → RepliedSoFar n (done ++ ask ∷ []) s s' before now (k + 1)
  replied-more n done s mid s' before at now k ask far is = record {
    turns = far.turns ++ turn_of ask is.0 true ∷ [];
    are = ap (λ (l : List Ask). l ++ ask ∷ []) far.are ∙ sym (asks_of-append far.turns (turn_of ask is.0 true ∷ []));
    answered = turns-more n done s mid s' before at k far ask is.0 true is.1;
    kept = kept-append far.turns (turn_of ask is.0 true ∷ []) far.kept (refl, tt);
    put = λ tells. one-more before at now far.turns ask is.0 true (far.put tells) (is.2 tells);
    count = count-more n k far.turns (turn_of ask is.0 true) far.count;
  }

  pub replied-closes : (n : ℕ) (done rest asks : List Ask) (s mid s' : S) (before at now : List ℕ) (k : ℕ) (ask : Ask)
      → asks ≡ done ++ ask ∷ rest → RepliedSoFar n done s mid before at k → IsAskEnd p Tells k ask mid s' at now (Ok false)
      → AreReplied p Tells n asks s s' before now (Ok (Closed (k + 1)))
  replied-closes n done rest asks s mid s' before at now k ask cut far is = record {
    turns = far.turns ++ turn_of ask is.0 false ∷ [];
    more = rest;
    are = asked far.turns done ask rest asks is.0 false far.are cut;
    answered = turns-more n done s mid s' before at k far ask is.0 false is.1;
    end = (
      count-more n k far.turns (turn_of ask is.0 false) far.count,
      record { front = far.turns; last = turn_of ask is.0 false; are = refl; closes = refl },
      λ tells. one-more before at now far.turns ask is.0 false (far.put tells) (is.2 tells),
    );
  }

  part-put : (before at now : List ℕ) (turns : List Turn) (ask : Ask) (reply : Reply) (keep : Bool) → at ≡ before ++ texts_of turns
      → TakesSome at (ask_text ask reply keep) now → PutsPart (turns ++ turn_of ask reply keep ∷ []) before now
  part-put before at now turns ask reply keep first some = record {
    front = turns;
    last = turn_of ask reply keep;
    are = refl;
    count = some.count;
    is = some.is ∙ ap (λ (l : List ℕ). l ++ take some.count (ask_text ask reply keep)) first;
  }

  lacks-put : (before at now : List ℕ) (turns : List Turn) (ask : Ask) (reply : Reply) (keep : Bool) → at ≡ before ++ texts_of turns
      → now ≡ at → LacksLast (turns ++ turn_of ask reply keep ∷ []) before now
  lacks-put before at now turns ask reply keep first same = record {
    front = turns;
    last = turn_of ask reply keep;
    are = refl;
    is = same ∙ first;
  }

  pub replied-fails : (n : ℕ) (done rest asks : List Ask) (s mid s' : S) (before at now : List ℕ) (k : ℕ) (ask : Ask) (fault : PutFault)
      → asks ≡ done ++ ask ∷ rest → RepliedSoFar n done s mid before at k → IsAskEnd p Tells k ask mid s' at now (Err fault)
      → AreReplied p Tells n asks s s' before now (Err fault)
  replied-fails n done rest asks s mid s' before at now k ask Write cut far is = record {
    turns = far.turns ++ turn_of ask is.0 is.1 ∷ [];
    more = rest;
    are = asked far.turns done ask rest asks is.0 is.1 far.are cut;
    answered = turns-more n done s mid s' before at k far ask is.0 is.1 is.2;
    end = λ tells. part-put before at now far.turns ask is.0 is.1 (far.put tells) (is.3 tells);
  }
  replied-fails n done rest asks s mid s' before at now k ask Memory cut far (same, inl stays) =
      let P : S → Type 0 = λ x. AreTurns p n far.turns s x in
      record {
        turns = far.turns;
        more = ask ∷ rest;
        are = cut ∙ ap (λ (l : List Ask). l ++ ask ∷ rest) far.are;
        answered = subst P (sym stays) far.answered;
        end = inl (far.kept, λ tells. same tells ∙ far.put tells);
      }
  replied-fails n done rest asks s mid s' before at now k ask Memory cut far (same, inr (reply, keep, turn)) = record {
    turns = far.turns ++ turn_of ask reply keep ∷ [];
    more = rest;
    are = asked far.turns done ask rest asks reply keep far.are cut;
    answered = turns-more n done s mid s' before at k far ask reply keep turn;
    end = inr (λ tells. lacks-put before at now far.turns ask reply keep (far.put tells) (same tells));
  }

  pub replied-all : (n : ℕ) (asks : List Ask) (s s' : S) (before now : List ℕ) (k : ℕ) → k < requests_limit
      → RepliedSoFar n asks s s' before now k → AreReplied p Tells n asks s s' before now (Ok (Open k))
  replied-all n asks s s' before now k few far = record {
    turns = far.turns;
    more = [];
    are = far.are ∙ sym (append-nil (asks_of far.turns));
    answered = far.answered;
    end = (far.count, few, far.kept, refl, far.put);
  }

-- ---- the asks of a list

-- one more of them
pub taken-more : (xs : List Ask) (i : ℕ) (x : Ask) → i < length xs → x ≡ get_or xs i x → take (i + 1) xs ≡ take i xs ++ x ∷ []
taken-more xs i x below is = take_more xs i x below ∙ ap (λ (y : Ask). take i xs ++ y ∷ []) (sym is)

-- those before it, itself, and the rest
pub cut-at : (xs : List Ask) (i : ℕ) (x : Ask) → i < length xs → x ≡ get_or xs i x → xs ≡ take i xs ++ x ∷ drop (i + 1) xs
cut-at xs i x below is =
    sym (take-append-drop (i + 1) xs) ∙ ap (λ (l : List Ask). l ++ drop (i + 1) xs) (taken-more xs i x below is)
    ∙ append_assoc (take i xs) (x ∷ []) (drop (i + 1) xs)
