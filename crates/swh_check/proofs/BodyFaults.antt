-- Why a body is damaged.
use Rattle.std.proofs.Common.{◌≡◌, Result, Err, ℕ, List, subst}
use Rattle.swh_base.specs.declared.kind.Kind.{Kind}
use Rattle.swh_model.specs.Archive.{Bodies}
use Rattle.swh_check.specs.Bodies.{IsBodyFault, IsCheckFault}
use Rattle.swh_check.specs.declared.fault.CheckFault.{CheckFault}
use Rattle.swh_check.specs.declared.fault.CheckFault.TheVariants.{Damaged, DiskFault, Memory}

pub body-fault : (id_of : Kind → List ℕ → List ℕ) (bodies : Bodies) (fault : CheckFault) → IsBodyFault id_of bodies fault → IsCheckFault id_of bodies fault
body-fault id_of bodies (Damaged name found) is = is
body-fault id_of bodies DiskFault is = absurd is
body-fault id_of bodies Memory is = absurd is

same_fault : {T : Type 0} (f g : CheckFault) → (let r : Result T CheckFault = Err f in r) ≡ Err g → f ≡ g
same_fault f g e = cc

pub no-disk : {T : Type 0} (id_of : Kind → List ℕ → List ℕ) (bodies : Bodies) (fault : CheckFault) → IsBodyFault id_of bodies fault → (let r : Result T CheckFault = Err fault in r) ≡ Err DiskFault → ⊥
no-disk id_of bodies fault is disk = subst (IsBodyFault id_of bodies) (same_fault fault DiskFault disk) is
