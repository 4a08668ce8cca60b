-- A text becomes a file of a yard.
use Rattle.std.proofs.Common.{◌≡◌, ◌≢◌, inl, inr, ℕ, Option, List, [], ◌∷◌, ◌++◌, length, take, refl, sym, ap, ap₂, ◌∙◌}
use Rattle.std.proofs.Math.Seq.{take-append_seam}
use Rattle.swh_base.specs.declared.kind.Kind.{Kind}
use Rattle.swh_base.specs.declared.kind.Kind.TheVariants.{Content, Directory, Revision, Release, Snapshot}
use Rattle.swh_base.specs.declared.name.Name.{Name}
use Rattle.swh_outside.specs.Sink.{Begun, FileAt, TakesSome}
use Rattle.swh_model.specs.Archive.{Bodies}
use Rattle.swh_carried.specs.declared.fault.CookFault.{CookFault}
use Rattle.swh_carried.specs.declared.fault.CookFault.TheVariants.{NotHeld, Uncarried, WriteFault, Memory}
use Rattle.swh_fastwrite.specs.Sinks.{IsTaken}
use Rattle.swh_fastcook.specs.Cause.{Breaks}
use Rattle.swh_fastcook.specs.Cook.{IsCarriedStream, IsCookedText}
use Rattle.swh_dircook.specs.Made.{Made, FileMade, Yarded, yarded}
use Rattle.swh_cook.specs.Cook.{IsFileOf, AreMadeOf, AreMade, IsCarriedOf, IsCarried, MakesAll, MakesFront, IsCooked, IsBrokenOff, ExplainsUncooked}

module _ (bodies : Bodies) (children_of : Name → Option (List Name)) (root : Name) (other : root.kind ≢ Directory) where
  made_of : (kind : Kind) → kind ≢ Directory → (out : List ℕ) (made : List Made) → IsFileOf bodies children_of root out made → AreMadeOf bodies children_of root kind out made
  made_of Content apart out made is = is
  made_of Directory apart out made is = absurd (apart refl)
  made_of Revision apart out made is = is
  made_of Release apart out made is = is
  made_of Snapshot apart out made is = is

  carried_of : (kind : Kind) → kind ≢ Directory → IsCarriedStream bodies children_of root → IsCarriedOf bodies children_of root kind
  carried_of Content apart is = is
  carried_of Directory apart is = absurd (apart refl)
  carried_of Revision apart is = is
  carried_of Release apart is = is
  carried_of Snapshot apart is = is

  pub carried_name : IsCarriedStream bodies children_of root → IsCarried bodies children_of root
  carried_name = carried_of root.kind other

  module _ (out text : List ℕ) (is : IsCookedText bodies children_of root text) where
    abbrev file : List Made
    file = FileMade out text ∷ []

    are : AreMade bodies children_of root out file
    are = made_of root.kind other out file (record { text = text; is = is; are = refl })

    module _ (begun begun_now : List Begun) (taken taken_now : List ℕ) where
      -- the file was begun, and all of the text was taken
      pub makes_file : begun_now ≡ begun ++ FileAt out (length taken) ∷ [] → taken_now ≡ taken ++ text → MakesAll bodies children_of root out (yarded begun taken) (yarded begun_now taken_now)
      makes_file b t = record { made = file; are = are; is = ap₂ yarded b t }

      -- it was not begun
      pub makes_none : begun_now ≡ begun → taken_now ≡ taken → MakesFront bodies children_of root out (yarded begun taken) (yarded begun_now taken_now)
      makes_none b t = record {
        made = file;
        are = are;
        front = record { some = []; front = record { before = []; behind = file; cut = refl; is = inl refl }; is = ap₂ yarded b t };
      }

      -- a front of the text was taken
      makes_some : (count : ℕ) → begun_now ≡ begun ++ FileAt out (length taken) ∷ [] → taken_now ≡ taken ++ take count text → MakesFront bodies children_of root out (yarded begun taken) (yarded begun_now taken_now)
      makes_some count b t = record {
        made = file;
        are = are;
        front = record {
          some = FileMade out (take count text) ∷ [];
          front = record { before = []; behind = file; cut = refl; is = inr (out, text, count, [], refl, refl) };
          is = ap₂ yarded b t;
        };
      }

      pub makes_put : begun_now ≡ begun ++ FileAt out (length taken) ∷ [] → TakesSome taken text taken_now → MakesFront bodies children_of root out (yarded begun taken) (yarded begun_now taken_now)
      makes_put b some = makes_some some.count b some.is

      pub makes_front : begun_now ≡ begun ++ FileAt out (length taken) ∷ [] → IsTaken taken text taken_now → MakesFront bodies children_of root out (yarded begun taken) (yarded begun_now taken_now)
      makes_front b front =
          let cut : take (length front.taken) text ≡ front.taken = ap (take (length front.taken)) front.front.is ∙ take-append_seam front.taken front.front.rest in
          makes_some (length front.taken) b (front.is ∙ ap (λ (l : List ℕ). taken ++ l) (sym cut))

  -- a text that is broken off
  pub breaks_off : (out : List ℕ) (tells same : Type 0) (old new : Yarded) (before now : ℕ) (fault : CookFault) → Breaks before now fault → IsBrokenOff bodies children_of root out tells old new → ExplainsUncooked bodies children_of root out tells same old new fault
  breaks_off out tells same old new before now (NotHeld name) why is = absurd why
  breaks_off out tells same old new before now (Uncarried name rule) none is = absurd none
  breaks_off out tells same old new before now WriteFault why is = is
  breaks_off out tells same old new before now Memory why is = inr is
