-- Turns one after another.
use Rattle.std.proofs.Common.{◌≡◌, ℕ, zero, suc, ◌+◌, ◌<◌, ◌≤◌, Bool, true, false, List, [], ◌∷◌, ◌++◌, length, take, refl, sym, ap, ◌∙◌, arith, subst, inl, inr, append_assoc}
use Rattle.std.specs.Prelude.{◌&&◌, not, nat_lt, map}
use Rattle.std.specs.List.{AllByRecursion, flat_map}
use Rattle.std.proofs.lemmas.Bool.Decides.{nat_tests}
use Rattle.std.proofs.lemmas.Grind.{flat_map-append}
use Rattle.std.proofs.lemmas.List.{append-nil, map-append, length-append}
use Rattle.swh_base.specs.declared.request.Reply.{Reply}
use Rattle.swh_http.specs.declared.ask.Ask.{Ask}
use Rattle.swh_http.specs.declared.ask.Ask.TheVariants.{Request as Asked, Refused}
use Rattle.swh_model.proofs.Entries.{all-append}
use Rattle.swh_serve.specs.Desk.{Protocol}
use Rattle.swh_serve.specs.Turns.{Turn, turn_of, asks_of, texts_of, text_of, IsTurn, AreTurns, AreKept, LastCloses, PutsPart, LacksLast, keeps, requests_limit}

-- ---- lists

pub asks_of-append : (xs ys : List Turn) → asks_of (xs ++ ys) ≡ asks_of xs ++ asks_of ys
asks_of-append xs ys = map-append (λ (t : Turn). t.ask) xs ys

pub texts_of-append : (xs ys : List Turn) → texts_of (xs ++ ys) ≡ texts_of xs ++ texts_of ys
texts_of-append xs ys = flat_map-append text_of xs ys

pub texts_of-one : (t : Turn) → texts_of (t ∷ []) ≡ text_of t
texts_of-one t = append-nil (text_of t)

pub kept-append : (xs ys : List Turn) → AreKept xs → AreKept ys → AreKept (xs ++ ys)
kept-append xs ys first second = all-append (λ (t : Turn). t.keep ≡ true) xs ys first second

-- what is put of turns and then of others
pub put-append : (before middle now : List ℕ) (xs ys : List Turn) → middle ≡ before ++ texts_of xs → now ≡ middle ++ texts_of ys
    → now ≡ before ++ texts_of (xs ++ ys)
put-append before middle now xs ys first second =
    second ∙ ap (λ (l : List ℕ). l ++ texts_of ys) first ∙ append_assoc before (texts_of xs) (texts_of ys)
    ∙ ap (λ (l : List ℕ). before ++ l) (sym (texts_of-append xs ys))

pub last-append : (xs ys : List Turn) → LastCloses ys → LastCloses (xs ++ ys)
last-append xs ys last = record {
  front = xs ++ last.front;
  last = last.last;
  are = ap (λ (l : List Turn). xs ++ l) last.are ∙ sym (append_assoc xs last.front (last.last ∷ []));
  closes = last.closes;
}

pub part-append : (before middle now : List ℕ) (xs ys : List Turn) → middle ≡ before ++ texts_of xs → PutsPart ys middle now
    → PutsPart (xs ++ ys) before now
part-append before middle now xs ys first part = record {
  front = xs ++ part.front;
  last = part.last;
  are = ap (λ (l : List Turn). xs ++ l) part.are ∙ sym (append_assoc xs part.front (part.last ∷ []));
  count = part.count;
  is = part.is ∙ ap (λ (l : List ℕ). l ++ take part.count (text_of part.last))
      (put-append before middle (middle ++ texts_of part.front) xs part.front first refl);
}

pub lacks-append : (before middle now : List ℕ) (xs ys : List Turn) → middle ≡ before ++ texts_of xs → LacksLast ys middle now
    → LacksLast (xs ++ ys) before now
lacks-append before middle now xs ys first lacks = record {
  front = xs ++ lacks.front;
  last = lacks.last;
  are = ap (λ (l : List Turn). xs ++ l) lacks.are ∙ sym (append_assoc xs lacks.front (lacks.last ∷ []));
  is = put-append before middle now xs lacks.front first lacks.is;
}

-- ---- turns

last-true : (a b c : Bool) → (a && b && c) ≡ true → c ≡ true
last-true true true c h = h
last-true true false c h = cc h
last-true false b c h = cc h

below : (m n : ℕ) → nat_lt m n ≡ true → m < n
below m n h = grind (arith, nat_tests)

true-false : true ≡ false → ⊥
true-false e = cc e

-- what is kept does not close
pub kept-open : (keep : Bool) → keep ≡ true → keep ≡ false → ⊥
kept-open keep stays shuts = true-false (sym stays ∙ shuts)

module _ {S : Type 0} (p : Protocol S) where
  pub one-turn : (n : ℕ) (ask : Ask) (reply : Reply) (keep : Bool) (s s' : S) → IsTurn p n ask reply keep s s'
      → AreTurns p n (turn_of ask reply keep ∷ []) s s'
  one-turn n ask reply keep s s' is = (s', is, (λ _. refl), refl)

  pub more-turns : (n : ℕ) (xs ys : List Turn) (a b c : S) → AreKept xs → AreTurns p n xs a b → AreTurns p (n + length xs) ys b c
      → AreTurns p n (xs ++ ys) a c
  more-turns n [] ys a b c kept first second =
      let P : S → Type 0 = λ s. AreTurns p n ys s c in
      let Q : ℕ → Type 0 = λ k. AreTurns p k ys b c in
      let same : n + 0 ≡ n = omega arith in
      subst P first (subst Q same second)
  more-turns n (x ∷ xs) ys a b c kept first second =
      let Q : ℕ → Type 0 = λ k. AreTurns p k ys b c in
      let same : n + suc (length xs) ≡ (n + 1) + length xs = omega arith in
      (first.0, first.1, (λ closed. absurd (kept-open x.keep kept.0 closed)), more-turns (n + 1) xs ys first.0 b c kept.1 first.3 (subst Q same second))

  -- a turn that keeps the connection is not the last that may be
  pub kept-few : (n : ℕ) (ask : Ask) (reply : Reply) (keep : Bool) (s s' : S) → IsTurn p n ask reply keep s s' → keep ≡ true
      → n + 1 < requests_limit
  kept-few n (Asked request) reply keep s s' is stays =
      below (n + 1) requests_limit (last-true request.keep (not is.0) (nat_lt (n + 1) requests_limit) (sym is.2 ∙ stays))
  kept-few n (Refused status) reply keep s s' is stays = cc (is.1, stays)

  few-by : (n : ℕ) (t : Turn) (turns : List Turn) (s mid : S) (keep : Bool) → t.keep ≡ keep → n < requests_limit
      → IsTurn p n t.ask t.reply t.keep s mid → (t.keep ≡ false → turns ≡ [])
      → (n + 1 < requests_limit → (n + 1) + length turns ≤ requests_limit) → n + suc (length turns) ≤ requests_limit
  few-by n t turns s mid true is few turn closes rest =
      omega (arith, rest (kept-few n t.ask t.reply t.keep s mid turn is))
  few-by n t turns s mid false is few turn closes rest =
      let none : length turns ≡ 0 = ap length (closes is) in
      omega arith

  -- there are no more turns than may be
  pub few-turns : (n : ℕ) (turns : List Turn) (s s' : S) → n < requests_limit → AreTurns p n turns s s' → n + length turns ≤ requests_limit
  few-turns n [] s s' few are = omega arith
  few-turns n (t ∷ turns) s s' few are =
      few-by n t turns s are.0 t.keep refl few are.1 are.2 (λ more. few-turns (n + 1) turns are.0 s' more are.3)
