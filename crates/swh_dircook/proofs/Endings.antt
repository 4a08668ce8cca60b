-- How the cooking of a directory ends.
use Rattle.std.proofs.Common.{◌≡◌, inl, inr, ℕ, Option, List, Result, Ok, Err, refl, sym, arith}
use Rattle.std.specs.Prelude.{IfErr, OnOk}
use Rattle.std.specs.Result.{IsErrAnd}
use Rattle.std.proofs.lemmas.Result.{err_from_is_err_and}
use Rattle.swh_base.specs.declared.kind.Kind.{Kind}
use Rattle.swh_base.specs.declared.kind.Kind.TheVariants.{Directory}
use Rattle.swh_base.specs.declared.name.Name.{Name}
use Rattle.swh_model.specs.Archive.{Bodies}
use Rattle.swh_graph.specs.Path.{directory_name}
use Rattle.swh_postorder.specs.Postorder.{IsPostorder}
use Rattle.swh_pathwalk.specs.Tree.{Row, IsPathWalk}
use Rattle.swh_carried.specs.declared.fault.Why.{Why}
use Rattle.swh_carried.specs.declared.fault.CookFault.{CookFault}
use Rattle.swh_carried.specs.declared.fault.CookFault.TheVariants.{NotHeld, Uncarried, WriteFault, Memory}
use Rattle.swh_carried.specs.Uncarried.{HasNoCycle, ExplainsNoOrder, IsFirstToBreak}
use Rattle.swh_carried.specs.Cause.{CookBreaks, HasCookCause}
use Rattle.swh_dircook.specs.Cook.{IsUncarriedFolder, MakesFolder, MakesFrontOfFolder, ExplainsUncarried, ExplainsNoFolder}
use Rattle.swh_dircook.specs.Made.{folder_made, Yarded, Makes}
use Rattle.swh_dircook.specs.Rules.{BreaksInFolder}

-- ---- results

pub answers : {A F : Type 0} (P : F → Type 0) (result : Result A F) (x : F) → IsErrAnd result (λ y. y ≡ x) → P x → IfErr result P
answers P result x h p = let e = err_from_is_err_and result h in rw (e.1, e.2) p

pub no_answer : {A F : Type 0} (P : Type 0) (result : Result A F) (x : F) → IsErrAnd result (λ y. y ≡ x) → OnOk result P
no_answer P result x h = let e = err_from_is_err_and result h in rw e.1 tt

-- ---- before anything is made

module _ (bodies : Bodies) (children_of : Name → Option (List Name)) (root : Name) where
  pub no_order : (fault : CookFault) → ExplainsNoOrder children_of root fault → ExplainsUncarried bodies children_of root fault
  no_order (NotHeld missing) is = is
  no_order (Uncarried name why) (cycle, is) = record { order = is.order; is_order = is.is_order; is = inl (cycle, is.first) }
  no_order WriteFault is = is
  no_order Memory is = tt

  pub first_breaks : (order : List Name) → IsPostorder children_of root order → HasNoCycle children_of order → (name : Name) (why : Why) → IsFirstToBreak (BreaksInFolder bodies root) order name why → IsUncarriedFolder bodies children_of root name why
  first_breaks order is acyclic name why first = record { order = order; is_order = is; is = inr (acyclic, first) }

  -- the yard is as it was
  pub not_begun : (out : List ℕ) (tells same : Type 0) (old new : Yarded) → same → (fault : CookFault) → ExplainsUncarried bodies children_of root fault → ExplainsNoFolder bodies children_of root out tells same old new fault
  not_begun out tells same old new is (NotHeld missing) e = (e, is)
  not_begun out tells same old new is (Uncarried name why) e = (e, is)
  not_begun out tells same old new is WriteFault e = absurd e
  not_begun out tells same old new is Memory e = inl is

  quiet_breaks : (count : ℕ) (fault : CookFault) → ExplainsUncarried bodies children_of root fault → CookBreaks count count fault
  quiet_breaks count (NotHeld missing) e = refl
  quiet_breaks count (Uncarried name why) e = refl
  quiet_breaks count WriteFault e = absurd e
  quiet_breaks count Memory e = refl

  pub quiet_cause : {A : Type 0} (count : ℕ) (result : Result A CookFault) (fault : CookFault) → IsErrAnd result (λ y. y ≡ fault) → ExplainsUncarried bodies children_of root fault → HasCookCause count count result
  quiet_cause count result fault h e = record {
    later = omega arith;
    failed = answers (CookBreaks count count) result fault h (quiet_breaks count fault e);
    quiet = no_answer (count ≡ count) result fault h;
  }

  -- ---- what was made

  module _ (rows : List Row) (walk : IsPathWalk bodies root rows) (out : List ℕ) (old new : Yarded) where
    pub made_whole : {A F : Type 0} (tells : Type 0) (x : A) → Makes {T = A} {E = F} tells old (folder_made bodies out rows) new (Ok x) → tells → MakesFolder bodies root out old new
    made_whole tells x makes told = record { made = folder_made bodies out rows; folder = record { rows = rows; walk = walk; are = refl }; is = makes.ok told }

    pub made_front : {A F : Type 0} (tells : Type 0) (x : F) → Makes {T = A} {E = F} tells old (folder_made bodies out rows) new (Err x) → tells → MakesFrontOfFolder bodies root out old new
    made_front tells x makes told = record { made = folder_made bodies out rows; folder = record { rows = rows; walk = walk; are = refl }; front = makes.err told }

-- ---- the name of a directory

named_by : (kind : Kind) (id : List ℕ) → kind ≡ Directory → (let n : Name = record { kind = kind; id = id } in n) ≡ directory_name id
named_by kind id folder = cc

pub is_named : (name : Name) → name.kind ≡ Directory → directory_name name.id ≡ name
is_named name folder = sym (named_by name.kind name.id folder)
