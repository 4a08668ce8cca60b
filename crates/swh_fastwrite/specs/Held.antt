-- A text behind what was taken and what is held to be taken.
use Rattle.std.specs.Prelude.{◌≡◌, ℕ, List, [], ◌++◌, Result, OnOk, OnErr}

-- That what is taken adds up: nothing is a text; one text and then another are both; a front of what comes behind a text is
-- one of both, and a front of a text is one of more than it.
pub record AddsUp {T : Type 0} (takes front : T → List ℕ → T → Type 0) : Type 0 where
  pub none : (a : T) → takes a [] a
  pub both : (a b c : T) (s t : List ℕ) → takes a s b → takes b t c → takes a (s ++ t) c
  pub front_none : (a : T) (t : List ℕ) → front a t a
  pub front_behind : (a b c : T) (s t : List ℕ) → takes a s b → front b t c → front a (s ++ t) c
  pub front_more : (a b : T) (s t : List ℕ) → front a s b → front a (s ++ t) b

-- what takes a text, and the bytes that are held for it
pub record Kept (T : Type 0) : Type 0 where
  pub taker : T
  pub held : List ℕ

-- these two
abbrev pub kept : {T : Type 0} → T → List ℕ → Kept T
kept taker held = record { taker = taker; held = held }

module _ {T : Type 0} (takes front : T → List ℕ → T → Type 0) where
  -- The text came behind what was held: a part of both was taken, and the rest is held.
  pub record Goes (old : Kept T) (text : List ℕ) (new : Kept T) : Type 0 where
    pub taken : List ℕ
    pub took : takes old.taker taken new.taker
    pub is : old.held ++ text ≡ taken ++ new.held

  -- The text came behind what was held; or at an error no more than a front of both was taken.
  pub record Wrote {A E : Type 0} (old : Kept T) (text : List ℕ) (new : Kept T) (result : Result A E) : Type 0 where
    pub ok : OnOk result (Goes old text new)
    pub err : OnErr result (front old.taker (old.held ++ text) new.taker)

  -- A text of this kind came behind what was held; or at an error no more than a front of that with any such text.
  pub record WroteSome {A E : Type 0} (old : Kept T) (IsText : List ℕ → Type 0) (new : Kept T) (result : Result A E) : Type 0 where
    pub ok : OnOk result ((text : List ℕ) × IsText text × Goes old text new)
    pub err : OnErr result ((text : List ℕ) → IsText text → front old.taker (old.held ++ text) new.taker)
