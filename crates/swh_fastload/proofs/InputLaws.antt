-- An input means one thing, or breaks, and never both.
use Rattle.std.proofs.Common.{◌≡◌, ℕ, ◌+◌, ◌≤◌, inl, inr, false, List, [], ◌∷◌, ◌++◌, Option, length, refl, sym, ap, ◌∙◌, subst, arith, append_assoc}
use Rattle.std.specs.Prelude.{Result, Ok, Err}
use Rattle.std.proofs.lemmas.List.Elements.{Contains-append_left, Contains-append_right}
use Rattle.swh_base.specs.Limits.{body_limit}
use Rattle.swh_base.specs.declared.kind.Kind.{Kind}
use Rattle.swh_base.specs.declared.visit.Which.{Which}
use Rattle.swh_model.specs.Meaning.{Made, StreamMeaning}
use Rattle.swh_fastgrammar.specs.declared.command.Command.{Command}
use Rattle.swh_fastgrammar.proofs.Faults.{no_fault}
use Rattle.swh_fastgrammar.proofs.Streams.{one_reading}
use Rattle.swh_fastgrammar.specs.Row.{text_of}
use Rattle.swh_fastrows.specs.Failing.{MayPass}
use Rattle.swh_fastrows.proofs.Failings.{line_may, inside_may}
use Rattle.swh_fastrows.specs.Outcome.{IsStreamWithin}
use Rattle.swh_fastread.proofs.Afterwards.{stream_after_start}
use Rattle.swh_fastread.proofs.Outcomes.{same_fault, stream_or_limit}
use Rattle.swh_fastload.specs.declared.bad.BadStream.{BadStream}
use Rattle.swh_fastload.specs.declared.bad.BadStream.TheVariants.{Stream, Limit}
use Rattle.swh_fastmeaning.specs.Aims.{Missing}
use Rattle.swh_fastmeaning.specs.Commands.{◌>>=◌, Making, Makes, no_making, step, steps, then}
use Rattle.swh_fastmeaning.specs.Ending.{PassesEnd}
use Rattle.swh_fastmeaning.specs.Feeding.{IsTooLong}
use Rattle.swh_fastload.specs.Input.{IsSameMaking, beginning, EndsWithin, IsMeant, MeansStream, StopsAt, EndsAbove, Means, Breaks, MayBreak}

module _ (id : Kind → List ℕ → List ℕ) where
  -- Commands, and then more of them.
  pub steps_append : (m : Making) (cs ds : List Command) → steps id m (cs ++ ds) ≡ (steps id m cs >>= λ n. steps id n ds)
  steps_append m [] ds = refl
  steps_append m (c ∷ cs) ds = on (step id m.aims c) (λ n. steps_append (then id m n) cs ds)
    where
      on : (r : Result Making Missing) → ((n : Making) → steps id (then id m n) (cs ++ ds) ≡ (steps id (then id m n) cs >>= λ n. steps id n ds)) → (r >>= λ n. steps id (then id m n) (cs ++ ds)) ≡ ((r >>= λ n. steps id (then id m n) cs) >>= λ n. steps id n ds)
      on (Ok n) more = more n
      on (Err e) more = refl

  -- What was made before is made.
  pub then_keeps : (a b : Making) (o : Made) → Makes id a o → Makes id (then id a b) o
  then_keeps a b o (inl h) = inl (Contains-append_left a.objects b.objects o h)
  then_keeps a b o (inr h) = inr (h.0, Contains-append_left a.trees b.trees h.0 h.1, h.2)

  pub then_makes : (a b : Making) (o : Made) → Makes id b o → Makes id (then id a b) o
  then_makes a b o (inl h) = inl (Contains-append_right a.objects b.objects o h)
  then_makes a b o (inr h) = inr (h.0, Contains-append_right a.trees b.trees h.0 h.1, h.2)

  pub steps_keep : (m n : Making) (cs : List Command) (o : Made) → steps id m cs ≡ Ok n → Makes id m o → Makes id n o
  steps_keep m n [] o e h = let same : m ≡ n = cc in subst (λ (x : Making). Makes id x o) same h
  steps_keep m n (c ∷ cs) o e h = on (step id m.aims c) (λ x f. steps_keep (then id m x) n cs o f (then_keeps m x o h)) e
    where
      on : (r : Result Making Missing) → ((x : Making) → steps id (then id m x) cs ≡ Ok n → Makes id n o) → (r >>= λ x. steps id (then id m x) cs) ≡ Ok n → Makes id n o
      on (Ok x) more f = more x f
      on (Err q) more f = absurd cc

  -- What the commands after some make, and all together.
  pub rest_of : (cs more : List Command) (c : Command) (m n : Making) → steps id no_making cs ≡ Ok m → steps id no_making ((cs ++ c ∷ []) ++ more) ≡ Ok n → steps id m (c ∷ more) ≡ Ok n
  rest_of cs more c m n first all =
      ap (λ (r : Result Making Missing). r >>= λ x. steps id x (c ∷ more)) (sym first)
      ∙ sym (steps_append no_making cs (c ∷ more)) ∙ ap (steps id no_making) (sym (append_assoc cs (c ∷ []) more)) ∙ all

  pub no_error : (m n : Making) (c : Command) (more : List Command) (q : Missing) → step id m.aims c ≡ Err q → steps id m (c ∷ more) ≡ Ok n → ⊥
  no_error m n c more q e all =
      let f : Err q ≡ Ok n = ap (λ (r : Result Making Missing). r >>= λ x. steps id (then id m x) more) (sym e) ∙ all in
      absurd cc

  pub none_too_long : (m n : Making) (c : Command) (more : List Command) (number : ℕ) → IsTooLong id (step id m.aims c) number → steps id m (c ∷ more) ≡ Ok n → ((o : Made) → Makes id n o → length o.body ≤ body_limit) → ⊥
  none_too_long m n c more number t all short =
      let f : steps id (then id m t.making) more ≡ Ok n = ap (λ (r : Result Making Missing). r >>= λ x. steps id (then id m x) more) (sym t.is) ∙ all in
      let s = short t.object (steps_keep (then id m t.making) n more t.object f (then_makes m t.making t.object t.makes)) in
      let l = t.long in
      let a = t.above in
      absurd (omega (arith, s, l, a))

  module _ (head : Option (List ℕ)) (text : List ℕ) where
    -- A stream carries out all that it starts with.
    carries_on : (m : StreamMeaning) (h : MeansStream id head text m) (P : Result Making Missing → Type 0) (s : StopsAt id text P) → (more : List Command) × (steps id s.making (s.command ∷ more) ≡ Ok h.making)
    carries_on m h P s =
        let goes = stream_after_start (beginning text) s.rest (s.commands ++ s.command ∷ []) h.commands s.starts h.stream in
        (goes.commands, rest_of s.commands goes.commands s.command s.making h.making s.carried.makes (subst (λ (cs : List Command). steps id no_making cs ≡ Ok h.making) goes.these h.carried.makes))

    pub same_made_of : (m n : Making) (cs ds : List Command) → IsStreamWithin 0 false text cs → IsStreamWithin 0 false text ds → steps id no_making cs ≡ Ok m → steps id no_making ds ≡ Ok n → m ≡ n
    same_made_of m n cs ds h k f g =
        let same = one_reading 0 false text cs ds h.stream k.stream in
        let both : Ok m ≡ Ok n = sym f ∙ ap (steps id no_making) same ∙ g in
        cc

    ends_within : (m : StreamMeaning) (which : Which) (number : ℕ) → MeansStream id head text m → EndsAbove id head text which number → ⊥
    ends_within m which number h e =
        let same = same_made_of h.making e.making h.commands e.commands h.stream e.stream h.carried.makes e.carried.makes in
        let within = subst (EndsWithin id head) same h.within in
        above which number e.making within e.above
      where
        above : (which : Which) (number : ℕ) (making : Making) → EndsWithin id head making → PassesEnd head making.aims which number → ⊥
        above which number making w (inl a) = let r = w.refs in let n = a.1 in let b = a.2 in absurd (omega (arith, r, n, b))
        above which number making w (inr a) = let r = w.body in let n = a.2 in let b = a.3 in absurd (omega (arith, r, n, b))

    -- two makings of one input
    one_meant : (m n : StreamMeaning) → MeansStream id head text m → MeansStream id head text n → IsSameMaking m n
    one_meant m n h k =
        let same = same_made_of h.making k.making h.commands k.commands h.stream k.stream h.carried.makes k.carried.makes in
        let meant : IsMeant id head k.making m = subst (λ (x : Making). IsMeant id head x m) same h.meant in
        record {
          objects = λ o. (λ c. (k.meant.objects o).1 ((meant.objects o).0 c), λ c. (meant.objects o).1 ((k.meant.objects o).0 c));
          snapshot = meant.snapshot ∙ sym k.meant.snapshot;
        }

    -- an input that means something
    not_broken : (m : StreamMeaning) (bad : BadStream) → MeansStream id head text m → Breaks id head text bad → ⊥
    unfolding Breaks
    not_broken m (Stream at why) h (inl b) = no_fault 0 false text h.commands b.commands at why h.stream.stream (same_fault 0 false text b.commands at why b.fault)
    not_broken m (Stream at why) h (inr s) =
        let on = carries_on m h (λ found. found ≡ Err (record { at = at; why = why })) s in
        no_error s.making h.making s.command on.0 (record { at = at; why = why }) s.stops on.1
    not_broken m (Limit which number) h (inl p) = stream_or_limit 0 false text h.commands p.commands which number h.stream p.passes
    not_broken m (Limit which number) h (inr (inl s)) =
        let on = carries_on m h (λ found. IsTooLong id found number) s.1 in
        none_too_long s.1.making h.making s.1.command on.0 number s.1.stops on.1 h.carried.short
    not_broken m (Limit which number) h (inr (inr e)) = ends_within m which number h e

-- two makings of one input
pub one_making : (id : Kind → List ℕ → List ℕ) (head : Option (List ℕ)) (text : List ℕ) (m n : StreamMeaning) → Means id head text m → Means id head text n → IsSameMaking m n
unfolding Means
one_making id head text m n h k = one_meant id head text m n h k

-- an input that means something
pub unbroken : (id : Kind → List ℕ → List ℕ) (head : Option (List ℕ)) (text : List ℕ) (m : StreamMeaning) (bad : BadStream) → Means id head text m → Breaks id head text bad → ⊥
unfolding Means
unbroken id head text m bad h b = not_broken id head text m bad h b

-- the ways in which one breaks
pub may_break : (id : Kind → List ℕ → List ℕ) (head : Option (List ℕ)) (text : List ℕ) (bad : BadStream) → Breaks id head text bad → MayBreak bad
unfolding Breaks MayBreak
may_break id head text (Stream at why) b = tt
may_break id head text (Limit which number) (inl p) = inl (elim p.passes.passes [
  | inl l ↦ line_may (0 + length (text_of p.passes.rows)) p.passes.rest which number l
  | inr d ↦ inside_may (0 + length (text_of p.passes.rows)) p.passes.rest which number d.0
])
may_break id head text (Limit which number) (inr (inl m)) = inl (subst (λ (w : Which). MayPass w number) (sym m.0) m.1.stops.above)
may_break id head text (Limit which number) (inr (inr e)) = elim e.above [
  | inl r ↦ inr (r.0, r.2)
  | inr b ↦ inl (subst (λ (w : Which). MayPass w number) (sym b.0) b.3)
]
