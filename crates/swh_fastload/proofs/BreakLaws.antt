-- An input breaks in one way only.
use Rattle.std.proofs.Common.{◌≡◌, ℕ, ◌⊎◌, inl, inr, false, List, [], ◌∷◌, ◌++◌, Option, refl, sym, ap, ◌∙◌, subst, arith}
use Rattle.std.specs.Prelude.{Result, Ok, Err}
use Rattle.swh_base.specs.declared.kind.Kind.{Kind}
use Rattle.swh_base.specs.declared.visit.Which.{Which}
use Rattle.swh_fastgrammar.specs.declared.command.Command.{Command}
use Rattle.swh_fastgrammar.specs.declared.fault.StreamWhy.{StreamWhy}
use Rattle.swh_fastgrammar.proofs.Before.{one_fault_whole}
use Rattle.swh_fastgrammar.proofs.Faults.{append_nil, no_fault}
use Rattle.swh_fastrows.specs.Outcome.{StartsWith}
use Rattle.swh_fastrows.specs.Places.{Position}
use Rattle.swh_fastread.proofs.Afterwards.{stream_after_start}
use Rattle.swh_fastread.proofs.Outcomes.{same_fault, stream_or_limit, fault_or_limit, two_limits}
use Rattle.swh_fastmeaning.specs.Aims.{Missing}
use Rattle.swh_fastmeaning.specs.Commands.{Making, no_making, step, steps}
use Rattle.swh_fastmeaning.specs.Ending.{PassesEnd}
use Rattle.swh_fastmeaning.specs.Feeding.{IsTooLong}
use Rattle.swh_fastload.specs.declared.bad.BadStream.TheVariants.{Stream, Limit}
use Rattle.swh_fastload.specs.Input.{beginning, AreCarriedOut, BreaksAt, PassesAt, StopsAt, MakesAbove, EndsAbove, Breaks}
use Rattle.swh_fastload.proofs.Fronts.{BeginsWith, head_or, tail_of, but_last, fault_after_start, limit_after_start, two_starts}
use Rattle.swh_fastload.proofs.InputLaws.{rest_of, no_error, none_too_long, same_made_of}

some_last : {X : Type 0} (xs : List X) (x : X) → [] ≡ xs ++ x ∷ [] → ⊥
some_last [] x e = absurd cc
some_last (y ∷ xs) x e = absurd cc

-- two lists that have an item more each, and are one list then
one_last : {X : Type 0} (xs ys : List X) (x y : X) → xs ++ x ∷ [] ≡ ys ++ y ∷ [] → (xs ≡ ys) × (x ≡ y)
one_last [] [] x y e = (refl, ap (head_or x) e)
one_last [] (b ∷ ys) x y e = absurd (some_last ys y (ap tail_of e))
one_last (a ∷ xs) [] x y e = absurd (some_last xs x (sym (ap tail_of e)))
one_last {X} (a ∷ xs) (b ∷ ys) x y e =
    let first : a ≡ b = ap (head_or x) e in
    let rest = one_last xs ys x y (ap tail_of e) in
    (ap (λ (c : X). c ∷ xs) first ∙ ap (λ (cs : List X). b ∷ cs) rest.0, rest.1)

-- the commands and one more
abbrev all_of : List Command → Command → List Command
all_of commands command = commands ++ command ∷ []

-- Two fronts of commands, each with a last one: they are the same, or one is among the commands before the other's last.
abbrev Order : List Command → Command → List Command → Command → Type 0
Order cs c ds d = ((cs ≡ ds) × (c ≡ d)) ⊎ (BeginsWith (all_of cs c) ds ⊎ BeginsWith (all_of ds d) cs)

order : (cs ds : List Command) (c d : Command) → BeginsWith (all_of cs c) (all_of ds d) → ((cs ≡ ds) × (c ≡ d)) ⊎ BeginsWith (all_of cs c) ds
order cs ds c d ([], e) = inl (let same = one_last ds cs d c (e ∙ append_nil (all_of cs c)) in (sym same.0, sym same.1))
order cs ds c d (x ∷ more, e) = inr (but_last (all_of cs c) ds (x ∷ more) d e (λ n. absurd cc))

one_way : (b e : Position) (text : List ℕ) (cs ds : List Command) (c d : Command) → StartsWith (beginning text) b (all_of cs c) → StartsWith (beginning text) e (all_of ds d) → Order cs c ds d
one_way b e text cs ds c d s t = elim (two_starts (beginning text) b e (all_of cs c) (all_of ds d) s t) [
  | inl h ↦ elim (order cs ds c d h) [
    | inl same ↦ inl same
    | inr more ↦ inr (inl more)
  ]
  | inr h ↦ elim (order ds cs d c h) [
    | inl same ↦ inl (sym same.0, sym same.1)
    | inr more ↦ inr (inr more)
  ]
]

abbrev missing_of : Result Making Missing → Missing → Missing
missing_of (Ok making) other = other
missing_of (Err missing) other = missing

one_error : (p q : Missing) (found : Result Making Missing) → found ≡ Err p → found ≡ Err q → p ≡ q
one_error p q found e f = ap (λ (r : Result Making Missing). missing_of r p) (sym e ∙ f)

module _ (id : Kind → List ℕ → List ℕ) (text : List ℕ) where
  -- the command lacks this
  abbrev Lacks : ℕ → StreamWhy → Type 0
  Lacks at why = StopsAt id text (λ found. found ≡ Err (record { at = at; why = why }))

  abbrev TooLong : ℕ → Type 0
  TooLong number = StopsAt id text (λ found. IsTooLong id found number)

  -- Commands that are carried out, and begin with those up to one that stops: what that one and the others make.
  carries : (P : Result Making Missing → Type 0) (s : StopsAt id text P) (cs : List Command) (n : Making) → AreCarriedOut id cs n → BeginsWith (all_of s.commands s.command) cs → (more : List Command) × (steps id s.making (s.command ∷ more) ≡ Ok n)
  carries P s cs n h b = (b.0, rest_of id s.commands b.0 s.command s.making n s.carried.makes (subst (λ (x : List Command). steps id no_making x ≡ Ok n) b.1 h.makes))

  lacks_none : (at : ℕ) (why : StreamWhy) (s : Lacks at why) (cs : List Command) (n : Making) → AreCarriedOut id cs n → BeginsWith (all_of s.commands s.command) cs → ⊥
  lacks_none at why s cs n h b =
      let on = carries (λ found. found ≡ Err (record { at = at; why = why })) s cs n h b in
      no_error id s.making n s.command on.0 (record { at = at; why = why }) s.stops on.1

  makes_none : (number : ℕ) (s : TooLong number) (cs : List Command) (n : Making) → AreCarriedOut id cs n → BeginsWith (all_of s.commands s.command) cs → ⊥
  makes_none number s cs n h b =
      let on = carries (λ found. IsTooLong id found number) s cs n h b in
      none_too_long id s.making n s.command on.0 number s.stops on.1 h.short

  -- of the same commands
  same_step : (P Q : Result Making Missing → Type 0) (s : StopsAt id text P) (t : StopsAt id text Q) → s.commands ≡ t.commands → s.command ≡ t.command → step id s.making.aims s.command ≡ step id t.making.aims t.command
  same_step P Q s t e f =
      let both : Ok s.making ≡ Ok t.making = sym s.carried.makes ∙ ap (steps id no_making) e ∙ t.carried.makes in
      let made : s.making ≡ t.making = cc in
      ap (λ (m : Making). step id m.aims s.command) made ∙ ap (step id t.making.aims) f

  -- two faults
  two_lacks : (at other : ℕ) (why because : StreamWhy) → Lacks at why → Lacks other because → (at ≡ other) × (why ≡ because)
  two_lacks at other why because s t = elim (one_way s.rest t.rest text s.commands t.commands s.command t.command s.starts t.starts) [
    | inl same ↦
        let one = same_step (λ found. found ≡ Err (record { at = at; why = why })) (λ found. found ≡ Err (record { at = other; why = because })) s t same.0 same.1 in
        let lacking = one_error (record { at = at; why = why }) (record { at = other; why = because }) (step id s.making.aims s.command) s.stops (one ∙ t.stops) in
        (ap (λ (m : Missing). m.at) lacking, ap (λ (m : Missing). m.why) lacking)
    | inr (inl b) ↦ absurd (lacks_none at why s t.commands t.making t.carried b)
    | inr (inr b) ↦ absurd (lacks_none other because t s.commands s.making s.carried b)
  ]

  fault_or_lacks : (at other : ℕ) (why because : StreamWhy) → BreaksAt id text at why → Lacks other because → ⊥
  fault_or_lacks at other why because f s = lacks_none other because s f.commands f.making f.carried (fault_after_start (beginning text) s.rest (all_of s.commands s.command) f.commands at why s.starts f.fault)

  two_faults : (at other : ℕ) (why because : StreamWhy) → BreaksAt id text at why ⊎ Lacks at why → BreaksAt id text other because ⊎ Lacks other because → (at ≡ other) × (why ≡ because)
  two_faults at other why because (inl f) (inl g) =
      let one = one_fault_whole 0 false text f.commands g.commands at other why because (same_fault 0 false text f.commands at why f.fault) (same_fault 0 false text g.commands other because g.fault) in
      (one.1, one.2)
  two_faults at other why because (inl f) (inr s) = absurd (fault_or_lacks at other why because f s)
  two_faults at other why because (inr s) (inl g) = absurd (fault_or_lacks other at because why g s)
  two_faults at other why because (inr s) (inr t) = two_lacks at other why because s t

  -- a fault and limits
  fault_or_passes : (at : ℕ) (why : StreamWhy) (which : Which) (number : ℕ) → BreaksAt id text at why → PassesAt id text which number → ⊥
  fault_or_passes at why which number f g = fault_or_limit 0 false text f.commands g.commands at why which number f.fault g.passes

  fault_or_makes : (at : ℕ) (why : StreamWhy) (number : ℕ) → BreaksAt id text at why → TooLong number → ⊥
  fault_or_makes at why number f s = makes_none number s f.commands f.making f.carried (fault_after_start (beginning text) s.rest (all_of s.commands s.command) f.commands at why s.starts f.fault)

  lacks_or_passes : (at : ℕ) (why : StreamWhy) (which : Which) (number : ℕ) → Lacks at why → PassesAt id text which number → ⊥
  lacks_or_passes at why which number s g = lacks_none at why s g.commands g.making g.carried (limit_after_start (beginning text) s.rest (all_of s.commands s.command) g.commands which number s.starts g.passes)

  lacks_or_makes : (at : ℕ) (why : StreamWhy) (number : ℕ) → Lacks at why → TooLong number → ⊥
  lacks_or_makes at why number s t = elim (one_way s.rest t.rest text s.commands t.commands s.command t.command s.starts t.starts) [
    | inl same ↦
        let one = same_step (λ found. found ≡ Err (record { at = at; why = why })) (λ found. IsTooLong id found number) s t same.0 same.1 in
        let missing : Missing = record { at = at; why = why } in
        let both : Err missing ≡ Ok t.stops.making = sym s.stops ∙ one ∙ t.stops.is in
        absurd cc
    | inr (inl b) ↦ lacks_none at why s t.commands t.making t.carried b
    | inr (inr b) ↦ makes_none number t s.commands s.making s.carried b
  ]

  -- two limits
  pub passes_or_makes : (which other : Which) (number count : ℕ) → PassesAt id text which number → MakesAbove id text other count → ⊥
  passes_or_makes which other number count g s = makes_none count s.1 g.commands g.making g.carried (limit_after_start (beginning text) s.1.rest (all_of s.1.commands s.1.command) g.commands which number s.1.starts g.passes)

  pub passes_once : (which other : Which) (number count : ℕ) (f : PassesAt id text which number) (g : PassesAt id text other count) → (f.commands ≡ g.commands) × (f.passes.rows ≡ g.passes.rows)
  passes_once which other number count f g = two_limits 0 false text f.commands g.commands which other number count f.passes g.passes

  pub makes_once : (which other : Which) (number count : ℕ) (s : MakesAbove id text which number) (t : MakesAbove id text other count) → (s.1.commands ≡ t.1.commands) × (s.1.command ≡ t.1.command)
  makes_once which other number count (w, s) (v, t) = elim (one_way s.rest t.rest text s.commands t.commands s.command t.command s.starts t.starts) [
    | inl same ↦ same
    | inr (inl b) ↦ absurd (makes_none number s t.commands t.making t.carried b)
    | inr (inr b) ↦ absurd (makes_none count t s.commands s.making s.carried b)
  ]

  module _ (head : Option (List ℕ)) where
    -- what the stream ends with
    fault_or_ends : (at : ℕ) (why : StreamWhy) (which : Which) (number : ℕ) → BreaksAt id text at why → EndsAbove id head text which number → ⊥
    fault_or_ends at why which number f e = no_fault 0 false text e.commands f.commands at why e.stream.stream (same_fault 0 false text f.commands at why f.fault)

    -- the stream starts with the commands
    goes_first : (P : Result Making Missing → Type 0) (s : StopsAt id text P) (which : Which) (number : ℕ) (e : EndsAbove id head text which number) → BeginsWith (all_of s.commands s.command) e.commands
    goes_first P s which number e = let on = stream_after_start (beginning text) s.rest (all_of s.commands s.command) e.commands s.starts e.stream in (on.commands, on.these)

    lacks_or_ends : (at : ℕ) (why : StreamWhy) (which : Which) (number : ℕ) → Lacks at why → EndsAbove id head text which number → ⊥
    lacks_or_ends at why which number s e = lacks_none at why s e.commands e.making e.carried (goes_first (λ found. found ≡ Err (record { at = at; why = why })) s which number e)

    pub passes_or_ends : (which other : Which) (number count : ℕ) → PassesAt id text which number → EndsAbove id head text other count → ⊥
    passes_or_ends which other number count g e = stream_or_limit 0 false text e.commands g.commands which number e.stream g.passes

    pub makes_or_ends : (which other : Which) (number count : ℕ) → MakesAbove id text which number → EndsAbove id head text other count → ⊥
    makes_or_ends which other number count s e = makes_none number s.1 e.commands e.making e.carried (goes_first (λ found. IsTooLong id found number) s.1 other count e)

    pub ends_once : (which other : Which) (number count : ℕ) → EndsAbove id head text which number → EndsAbove id head text other count → (which ≡ other) × (number ≡ count)
    ends_once which other number count e f =
        let same = same_made_of id head text e.making f.making e.commands f.commands e.stream f.stream e.carried.makes f.carried.makes in
        one_end f.making (subst (λ (m : Making). PassesEnd head m.aims which number) same e.above) f.above
      where
        one_end : (m : Making) → PassesEnd head m.aims which number → PassesEnd head m.aims other count → (which ≡ other) × (number ≡ count)
        one_end m (inl a) (inl b) = (a.0 ∙ sym b.0, a.1 ∙ sym b.1)
        one_end m (inr a) (inr b) = (a.0 ∙ sym b.0, a.2 ∙ sym b.2)
        one_end m (inl a) (inr b) = let many = a.1 in let above = a.2 in let few = b.1 in absurd (omega (arith, many, above, few))
        one_end m (inr a) (inl b) = let many = b.1 in let above = b.2 in let few = a.1 in absurd (omega (arith, many, above, few))

-- two faults of one input
pub one_fault : (id : Kind → List ℕ → List ℕ) (head : Option (List ℕ)) (text : List ℕ) (at other : ℕ) (why because : StreamWhy) → Breaks id head text (Stream at why) → Breaks id head text (Stream other because) → (at ≡ other) × (why ≡ because)
unfolding Breaks
one_fault id head text at other why because f g = two_faults id text at other why because f g

-- a fault and a limit
pub one_kind : (id : Kind → List ℕ → List ℕ) (head : Option (List ℕ)) (text : List ℕ) (at : ℕ) (why : StreamWhy) (which : Which) (number : ℕ) → Breaks id head text (Stream at why) → Breaks id head text (Limit which number) → ⊥
unfolding Breaks
one_kind id head text at why which number (inl f) (inl g) = fault_or_passes id text at why which number f g
one_kind id head text at why which number (inl f) (inr (inl s)) = fault_or_makes id text at why number f s.1
one_kind id head text at why which number (inl f) (inr (inr e)) = fault_or_ends id text head at why which number f e
one_kind id head text at why which number (inr s) (inl g) = lacks_or_passes id text at why which number s g
one_kind id head text at why which number (inr s) (inr (inl t)) = lacks_or_makes id text at why number s t.1
one_kind id head text at why which number (inr s) (inr (inr e)) = lacks_or_ends id text head at why which number s e
