-- Runs of steps.
use Rattle.std.proofs.Common.{◌≡◌, ◌≢◌, ◌==◌, inl, inr, ℕ, true, false, Result, Ok, Err, List, [], ◌∷◌, ◌++◌, length, drop, refl, sym, ap, ◌∙◌, subst, arith, append_assoc}
use Rattle.std.proofs.lemmas.List.{append-nil}
use Rattle.std.specs.Prelude.{vec_len}
use Rattle.std.specs.Global.{Vec}
use Rattle.std.specs.List.{AllByRecursion}
use Rattle.swh_base.specs.declared.kind.Kind.{Kind}
use Rattle.swh_core.specs.declared.step.Step.{Step}
use Rattle.swh_core.specs.declared.step.Step.TheVariants.{Apply, Look, Fault, Crash}
use Rattle.swh_core.specs.declared.step.Told.{Told}
use Rattle.swh_core.specs.declared.step.StepFault.{StepFault}
use Rattle.swh_core.specs.declared.step.StepFault.TheVariants.{Memory}
use Rattle.swh_core.specs.declared.parts.Parts.{Parts as World}
use Rattle.swh_core.specs.Step.{IsWorldStep, IsRun, IsMeant}
use Rattle.swh_core.specs.Kept.{IsWorld, IsLater}
use Rattle.swh_core.proofs.Steps.{Goes, stepped, same_later, later_then}

-- a list that is the same without its first item has none
pub none_left : {A : Type 0} (xs ys : List A) → xs ≡ ys → ys ≡ drop 1 xs → xs ≡ []
none_left [] ys same rest = refl
none_left (x ∷ xs) ys same rest = absurd (omega (arith, ap length (same ∙ rest)))

-- a vector that is not empty has items
pub not_empty : {A : Type 0} (v : Vec A) → (vec_len v == 0) ≡ false → v.items ≢ []
not_empty v some none = let both : true ≡ false = ap (λ (n : ℕ). n == 0) (sym (v.ok.0 ∙ ap length none)) ∙ some in cc

-- what was told before goes before what is told
abbrev pub behind : List Told → Result (List Told) StepFault → Result (List Told) StepFault
behind ts (Ok us) = Ok (ts ++ us)
behind ts (Err fault) = Err fault

module _ (id_of : Kind → List ℕ → List ℕ) where
  pub no_memory : (step : Step) (w : World) → IsWorldStep id_of w step (Err Memory) w
  no_memory (Apply actor wish h) w = refl
  no_memory (Look actor) w = refl
  no_memory (Fault actor wish call) w = refl
  no_memory (Crash flight store ledger) w = refl

  -- each step of a run keeps what every world keeps
  pub went : (steps : List Step) (r : Result (List Told) StepFault) (w w' : World) → IsWorld id_of w → AllByRecursion (IsMeant id_of (length w.seen)) steps → IsRun id_of w steps r w' → Goes id_of w w'
  went [] (Ok []) w w' k meant run = subst (Goes id_of w) (sym run) (record { kept = k; later = same_later w })
  went [] (Ok (t ∷ ts)) w w' k meant run = absurd run
  went [] (Err fault) w w' k meant run = absurd run
  went (step ∷ steps) (Ok []) w w' k meant run = absurd run
  went (step ∷ steps) (Ok (t ∷ ts)) w w' k meant run =
      let one = stepped id_of step (Ok t) w run.0 k meant.0 run.1 in
      let more = went steps (Ok ts) run.0 w' one.kept (subst (λ (n : ℕ). AllByRecursion (IsMeant id_of n) steps) (sym one.later.actors) meant.1) run.2 in
      record { kept = more.kept; later = later_then w run.0 w' one.later more.later }
  went (step ∷ steps) (Err fault) w w' k meant (inl last) = stepped id_of step (Err fault) w w' k meant.0 last
  went (step ∷ steps) (Err fault) w w' k meant (inr run) =
      let one = stepped id_of step (Ok run.0) w run.1 k meant.0 run.2 in
      let more = went steps (Err fault) run.1 w' one.kept (subst (λ (n : ℕ). AllByRecursion (IsMeant id_of n) steps) (sym one.later.actors) meant.1) run.3 in
      record { kept = more.kept; later = later_then w run.1 w' one.later more.later }

  one_more : (step : Step) (steps : List Step) (t : Told) (r : Result (List Told) StepFault) (w mid w' : World) → IsWorldStep id_of w step (Ok t) mid → IsRun id_of mid steps r w' → IsRun id_of w (step ∷ steps) (behind (t ∷ []) r) w'
  one_more step steps t (Ok ts) w mid w' one more = (mid, one, more)
  one_more step steps t (Err fault) w mid w' one more = inr (t, mid, one, more)

  behind_twice : (ts us : List Told) (r : Result (List Told) StepFault) → behind (ts ++ us) r ≡ behind ts (behind us r)
  behind_twice ts us (Ok vs) = ap (λ (l : List Told). Ok l) (append_assoc ts us vs)
  behind_twice ts us (Err fault) = refl

  -- without room for the answers no step is taken
  pub no_room : (steps : List Step) (w : World) → steps ≢ [] → IsRun id_of w steps (Err Memory) w
  no_room [] w some = absurd (some refl)
  no_room (step ∷ steps) w some = inl (no_memory step w)

  -- The steps that are left lead on from where the world is.
  pub record RunSoFar (all : List Step) (first : World) (left : List Step) (told : List Told) (now : World) : Type 0 where
    pub leads : (r : Result (List Told) StepFault) (w' : World) → IsRun id_of now left r w' → IsRun id_of first all (behind told r) w'
    pub meant : AllByRecursion (IsMeant id_of (length now.seen)) left
    pub kept : IsWorld id_of now
    pub later : IsLater first now

  module _ (all left left' : List Step) (first now : World) (told : List Told) (step : Step) (is : left ≡ step ∷ left') (so_far : RunSoFar all first left told now) where
    pub run_goes_on : (t : Told) (new : World) → IsWorldStep id_of now step (Ok t) new → IsWorld id_of new → IsLater now new → RunSoFar all first left' (told ++ t ∷ []) new
    run_goes_on t new one kept later = record {
      leads = λ r w' run. subst (λ (x : Result (List Told) StepFault). IsRun id_of first all x w') (sym (behind_twice told (t ∷ []) r))
          (so_far.leads (behind (t ∷ []) r) w' (subst (λ (l : List Step). IsRun id_of now l (behind (t ∷ []) r) w') (sym is) (one_more step left' t r now new w' one run)));
      meant = subst (λ (n : ℕ). AllByRecursion (IsMeant id_of n) left') (sym later.actors) (subst (AllByRecursion (IsMeant id_of (length now.seen))) is so_far.meant).1;
      kept = kept;
      later = later_then first now new so_far.later later;
    }

    pub run_stops : (fault : StepFault) (new : World) → IsWorldStep id_of now step (Err fault) new → IsRun id_of first all (Err fault) new
    run_stops fault new one = so_far.leads (Err fault) new (subst (λ (l : List Step). IsRun id_of now l (Err fault) new) (sym is) (inl one))

  pub run_ends : (all left : List Step) (first now : World) (told : List Told) → left ≡ [] → RunSoFar all first left told now → IsRun id_of first all (Ok told) now
  run_ends all left first now told is so_far =
      subst (λ (x : List Told). IsRun id_of first all (Ok x) now) (append-nil told)
      (so_far.leads (Ok []) now (subst (λ (l : List Step). IsRun id_of now l (Ok []) now) (sym is) refl))
