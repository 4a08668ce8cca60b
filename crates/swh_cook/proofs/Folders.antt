-- A directory becomes a folder of a yard.
use Rattle.std.proofs.Common.{◌≡◌, inl, inr, ℕ, Option, None, List, sym, ◌∙◌, subst}
use Rattle.swh_base.specs.declared.kind.Kind.{Kind}
use Rattle.swh_base.specs.declared.kind.Kind.TheVariants.{Directory, Snapshot}
use Rattle.swh_base.specs.declared.name.Name.{Name}
use Rattle.swh_model.specs.Archive.{AreAllOfBytes, Bodies}
use Rattle.swh_carried.specs.declared.fault.Why.{Why}
use Rattle.swh_carried.specs.declared.fault.CookFault.{CookFault}
use Rattle.swh_carried.specs.declared.fault.CookFault.TheVariants.{NotHeld, Uncarried, WriteFault, Memory}
use Rattle.swh_fastcook.specs.Cook.{LeadsHead}
use Rattle.swh_dircook.specs.Cook.{IsFolderOf, MakesFolder, MakesFrontOfFolder, IsCarriedFolder, IsUncarriedFolder, ExplainsNoFolder}
use Rattle.swh_dircook.specs.Made.{Made, Yarded}
use Rattle.swh_cook.specs.Cook.{AreMadeOf, AreMade, IsCarriedOf, IsCarried, IsUncarriedOf, IsUncarried, IsCooked, IsBrokenOff, ExplainsUncooked}

module _ (bodies : Bodies) (children_of : Name → Option (List Name)) (root : Name) (kind : root.kind ≡ Directory) where
  pub carried_folder : IsCarriedFolder bodies children_of root → IsCarried bodies children_of root
  carried_folder is = subst (IsCarriedOf bodies children_of root) (sym kind) is

  uncarried_folder : (name : Name) (why : Why) → IsUncarriedFolder bodies children_of root name why → IsUncarried bodies children_of root name why
  uncarried_folder name why is = subst (λ (k : Kind). IsUncarriedOf bodies children_of root k name why) (sym kind) is

  are_folder : (out : List ℕ) (made : List Made) → IsFolderOf bodies root out made → AreMade bodies children_of root out made
  are_folder out made is = subst (λ (k : Kind). AreMadeOf bodies children_of root k out made) (sym kind) is

  -- a directory has no head
  no_head : (target : List ℕ) → LeadsHead bodies root target → ⊥
  no_head target h = let e : Directory ≡ Snapshot = sym kind ∙ h.kind in cc

  module _ (out : List ℕ) (tells : Type 0) (old new : Yarded) where
    pub whole_folder : AreAllOfBytes bodies → IsCarriedFolder bodies children_of root → (tells → MakesFolder bodies root out old new) → IsCooked bodies children_of root out tells old new None
    whole_folder bytes carried makes = record {
      carried = carried_folder carried;
      of_bytes = bytes;
      is_head = no_head;
      made = λ t. let m = makes t in record { made = m.made; are = are_folder out m.made m.folder; is = m.is };
    }

    broken_folder : IsCarriedFolder bodies children_of root → (tells → MakesFrontOfFolder bodies root out old new) → IsBrokenOff bodies children_of root out tells old new
    broken_folder carried makes = record {
      carried = carried_folder carried;
      made = λ t. let m = makes t in record { made = m.made; are = are_folder out m.made m.folder; front = m.front };
    }

    pub no_folder : (same : Type 0) (fault : CookFault) → ExplainsNoFolder bodies children_of root out tells same old new fault → ExplainsUncooked bodies children_of root out tells same old new fault
    no_folder same (NotHeld missing) why = why
    no_folder same (Uncarried name rule) why = (uncarried_folder name rule why.0, why.1)
    no_folder same WriteFault why = broken_folder why.0 why.1
    no_folder same Memory (inl kept) = inl kept
    no_folder same Memory (inr why) = inr (broken_folder why.0 why.1)
