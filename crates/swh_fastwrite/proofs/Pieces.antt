-- Texts one behind another, where what is taken adds up.
use Rattle.std.proofs.Common.{◌≡◌, ℕ, List, [], ◌++◌, take, drop, refl, sym, ap, ◌∙◌, subst, append_assoc}
use Rattle.std.specs.Prelude.{Result, Ok, Err, OnOk, OnErr}
use Rattle.std.proofs.lemmas.List.{append-nil, take-append-drop}
use Rattle.std.proofs.lemmas.Result.{on_ok_weaker, IfErr-weaker}
use Rattle.swh_outside.specs.Sink.{IsPut, TakesSome}
use Rattle.swh_fastwrite.specs.Sinks.{FrontIntoSink}
use Rattle.swh_fastwrite.specs.Held.{AddsUp, Kept, kept, Goes, Wrote}

module _ {T : Type 0} (takes front : T → List ℕ → T → Type 0) (sums : AddsUp takes front) where
  pub goes_none : (k : Kept T) → Goes takes front k [] k
  goes_none k = record { taken = []; took = sums.none k.taker; is = append-nil k.held }

  -- what is appended to what is held
  pub goes_appended : (t : T) (held text : List ℕ) → Goes takes front (kept t held) text (kept t (held ++ text))
  goes_appended t held text = record { taken = []; took = sums.none t; is = refl }

  joined : (old mid : Kept T) (a s t : List ℕ) → old.held ++ s ≡ a ++ mid.held → old.held ++ (s ++ t) ≡ a ++ (mid.held ++ t)
  joined old mid a s t is = sym (append_assoc old.held s t) ∙ ap (λ (l : List ℕ). l ++ t) is ∙ append_assoc a mid.held t

  pub goes_both : (old mid new : Kept T) (s t : List ℕ) → Goes takes front old s mid → Goes takes front mid t new → Goes takes front old (s ++ t) new
  goes_both old mid new s t f g = record {
    taken = f.taken ++ g.taken;
    took = sums.both old.taker mid.taker new.taker f.taken g.taken f.took g.took;
    is = joined old mid f.taken s t f.is ∙ ap (λ (l : List ℕ). f.taken ++ l) g.is ∙ sym (append_assoc f.taken g.taken new.held);
  }

  -- a front behind a text
  pub front_behind : (old mid : Kept T) (new : T) (s t : List ℕ) → Goes takes front old s mid → front mid.taker (mid.held ++ t) new → front old.taker (old.held ++ (s ++ t)) new
  front_behind old mid new s t f g =
      subst (λ (l : List ℕ). front old.taker l new) (sym (joined old mid f.taken s t f.is))
      (sums.front_behind old.taker mid.taker new f.taken (mid.held ++ t) f.took g)

  -- a front of more
  pub front_more : (old : Kept T) (new : T) (s t : List ℕ) → front old.taker (old.held ++ s) new → front old.taker (old.held ++ (s ++ t)) new
  front_more old new s t f =
      subst (λ (l : List ℕ). front old.taker l new) (append_assoc old.held s t) (sums.front_more old.taker new (old.held ++ s) t f)

  -- nothing was taken
  pub front_none : (old : Kept T) (t : List ℕ) → front old.taker (old.held ++ t) old.taker
  front_none old t = sums.front_none old.taker (old.held ++ t)

  -- bytes are taken where nothing is held
  pub taken_alone : {A E : Type 0} (old mid : Kept T) (bytes : List ℕ) (new : T) (result : Result A E) → Goes takes front old [] mid → mid.held ≡ [] → OnOk result (takes mid.taker bytes new) → OnErr result (front mid.taker bytes new)
      → Wrote takes front old bytes (kept new mid.held) result
  taken_alone old mid bytes new result f none ok err =
      let alone : mid.held ++ bytes ≡ bytes = ap (λ (l : List ℕ). l ++ bytes) none in
      let behind : bytes ≡ bytes ++ mid.held = sym (append-nil bytes) ∙ ap (λ (l : List ℕ). bytes ++ l) (sym none) in
      record {
        ok = on_ok_weaker result
            (λ (took : takes mid.taker bytes new).
            goes_both old mid (kept new mid.held) [] bytes f (record { taken = bytes; took = took; is = alone ∙ behind }))
            ok;
        err = IfErr-weaker result (λ _. front mid.taker bytes new) (λ _. front old.taker (old.held ++ bytes) new)
            (λ _ g. front_behind old mid new [] bytes f (subst (λ (l : List ℕ). front mid.taker l new) (sym alone) g)) err;
      }

-- a sink that failed has taken a front
module _ {K B H : Type 0} (tells : Type 0) (taken : K → List ℕ) (begun : K → B) (heard : K → H) (a b : K) (bytes : List ℕ) (begun_same : begun b ≡ begun a) (heard_same : heard b ≡ heard a) where
  pub put_front : {A E : Type 0} (result : Result A E) → (tells → IsPut (taken a) bytes (taken b) result) → OnErr result (FrontIntoSink tells taken begun heard a bytes b)
  put_front (Ok v) put = tt
  put_front (Err e) put = record {
    bytes = λ told.
        let some : TakesSome (taken a) bytes (taken b) = (put told).err in
        record { taken = take some.count bytes; front = record { rest = drop some.count bytes; is = sym (take-append-drop some.count bytes) }; is = some.is };
    begun_same = begun_same;
    heard_same = heard_same;
  }
