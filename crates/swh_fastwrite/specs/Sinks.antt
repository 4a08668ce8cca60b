-- What a sink takes of a text.
use Rattle.std.proofs.Common.{◌≡◌, ℕ, List, [], ◌++◌, refl, sym, ap, ◌∙◌, append_assoc}
use Rattle.std.proofs.lemmas.List.{append-nil}
use Rattle.swh_fastwrite.specs.Held.{AddsUp}

-- The bytes are the first of all these.
pub record IsFrontOf (bytes all : List ℕ) : Type 0 where
  pub rest : List ℕ
  pub is : all ≡ bytes ++ rest

-- A front of this text is what came.
pub record IsTaken (old text new : List ℕ) : Type 0 where
  pub taken : List ℕ
  pub front : IsFrontOf taken text
  pub is : new ≡ old ++ taken

-- Where it tells, it has taken just this text.
abbrev pub SinkTakes : Type 0 → List ℕ → List ℕ → List ℕ → Type 0
SinkTakes tells old text new = tells → new ≡ old ++ text

-- Where it tells, it has taken a front of this text.
abbrev pub SinkTakesFront : Type 0 → List ℕ → List ℕ → List ℕ → Type 0
SinkTakesFront tells old text new = tells → IsTaken old text new

-- ---- that what a sink takes adds up

sink_takes_none : (tells : Type 0) (a : List ℕ) → SinkTakes tells a [] a
sink_takes_none tells a = λ _. sym (append-nil a)

sink_takes_both : (tells : Type 0) (a b c s t : List ℕ) → SinkTakes tells a s b → SinkTakes tells b t c → SinkTakes tells a (s ++ t) c
sink_takes_both tells a b c s t first second = λ told. second told ∙ ap (λ (l : List ℕ). l ++ t) (first told) ∙ append_assoc a s t

sink_front_none : (tells : Type 0) (a t : List ℕ) → SinkTakesFront tells a t a
sink_front_none tells a t = λ _. record { taken = []; front = record { rest = t; is = refl }; is = sym (append-nil a) }

sink_front_behind : (tells : Type 0) (a b c s t : List ℕ) → SinkTakes tells a s b → SinkTakesFront tells b t c → SinkTakesFront tells a (s ++ t) c
sink_front_behind tells a b c s t first second = λ told.
    let f = second told in
    record {
      taken = s ++ f.taken;
      front = record { rest = f.front.rest; is = ap (λ (l : List ℕ). s ++ l) f.front.is ∙ sym (append_assoc s f.taken f.front.rest) };
      is = f.is ∙ ap (λ (l : List ℕ). l ++ f.taken) (first told) ∙ append_assoc a s f.taken;
    }

sink_front_more : (tells : Type 0) (a b s t : List ℕ) → SinkTakesFront tells a s b → SinkTakesFront tells a (s ++ t) b
sink_front_more tells a b s t first = λ told.
    let f = first told in
    record {
      taken = f.taken;
      front = record { rest = f.front.rest ++ t; is = ap (λ (l : List ℕ). l ++ t) f.front.is ∙ append_assoc f.taken f.front.rest t };
      is = f.is;
    }

-- what a sink takes, with all that it leaves as it was
module _ {K B H : Type 0} (tells : Type 0) (taken : K → List ℕ) (begun : K → B) (heard : K → H) where
  -- Just this text was taken.
  pub record IntoSink (a : K) (text : List ℕ) (b : K) : Type 0 where
    pub bytes : SinkTakes tells (taken a) text (taken b)
    pub begun_same : begun b ≡ begun a
    pub heard_same : heard b ≡ heard a

  -- No more than a front of this text was taken.
  pub record FrontIntoSink (a : K) (text : List ℕ) (b : K) : Type 0 where
    pub bytes : SinkTakesFront tells (taken a) text (taken b)
    pub begun_same : begun b ≡ begun a
    pub heard_same : heard b ≡ heard a

  pub sinks_add_up : AddsUp IntoSink FrontIntoSink
  sinks_add_up = record {
    none = λ a. record { bytes = sink_takes_none tells (taken a); begun_same = refl; heard_same = refl };
    both = λ a b c s t f g. record { bytes = sink_takes_both tells (taken a) (taken b) (taken c) s t f.bytes g.bytes; begun_same = g.begun_same ∙ f.begun_same; heard_same = g.heard_same ∙ f.heard_same };
    front_none = λ a t. record { bytes = sink_front_none tells (taken a) t; begun_same = refl; heard_same = refl };
    front_behind = λ a b c s t f g. record { bytes = sink_front_behind tells (taken a) (taken b) (taken c) s t f.bytes g.bytes; begun_same = g.begun_same ∙ f.begun_same; heard_same = g.heard_same ∙ f.heard_same };
    front_more = λ a b s t f. record { bytes = sink_front_more tells (taken a) (taken b) s t f.bytes; begun_same = f.begun_same; heard_same = f.heard_same };
  }
