-- A body that breaks somewhere is no snapshot, and it breaks in one place first.
use Rattle.std.proofs.Common.{◌≡◌, ℕ, List, [], ◌∷◌, ◌++◌, length, Result, Ok, Err, sym, ap, ◌∙◌, subst}
use Rattle.std.specs.Prelude.{IfOk, IfErr}
use Rattle.swh_base.specs.Snapshot.{SnapshotBranch, IsBranch, AreBranches, branch_text, snapshot_text, IsSnapshot}
use Rattle.swh_base.proofs.ItemTexts.{same_front}
use Rattle.swh_base.proofs.SnapshotLemmas.{are-each_branch, one_branch, branches_on, one_snapshot}
use Rattle.swh_snpfmt.specs.declared.fault.ReadSnpFault.{ReadSnpFault}
use Rattle.swh_snpfmt.specs.declared.fault.ReadSnpFault.TheVariants.{Memory, Bad}
use Rattle.swh_snpfmt.specs.Fault.{MayFollowBranches, BeginsNextBranch, IsSnpFault}
use Rattle.swh_snpfmt.specs.Reading.{ExplainsSnp, GivesBranches}
use Rattle.swh_snpfmt.proofs.Follows.{branches-next}

-- branches and what follows them do not break
goes_on : (before more : List SnapshotBranch) (rest : List ℕ) → AreBranches (before ++ more) → rest ≡ snapshot_text more → (rest ≡ [] → ⊥) → (BeginsNextBranch before rest → ⊥) → ⊥
goes_on before [] rest are e some h = some e
goes_on before (m ∷ more) rest are e some h = h (record { branch = m; rest = snapshot_text more; text = e; next = branches-next before m more are })

pub no_fault : (body : List ℕ) (bs : List SnapshotBranch) (at : ℕ) → IsSnapshot body bs → IsSnpFault body at → ⊥
no_fault body bs at s f =
    let on = branches_on bs f.before f.rest (are-each_branch bs s.good) (are-each_branch f.before f.good) (sym s.text ∙ f.text) in
    goes_on f.before on.0 f.rest (subst AreBranches on.1 s.good) on.2 f.some f.breaks

-- a reader that is right at both answers reads each snapshot
pub gives : (body : List ℕ) (r : Result (List SnapshotBranch) ReadSnpFault) → IfOk r (λ bs. IsSnapshot body bs) → IfErr r (ExplainsSnp body) → (bs : List SnapshotBranch) → IsSnapshot body bs → GivesBranches r bs
gives body (Ok found) ok err bs s = one_snapshot body found bs ok s
gives body (Err Memory) ok err bs s = tt
gives body (Err (Bad bad)) ok err bs s = no_fault body bs bad.at s err

none_follows : (before : List SnapshotBranch) (bytes : List ℕ) → (BeginsNextBranch before bytes → ⊥) → (b : SnapshotBranch) (rest : List ℕ) → bytes ≡ branch_text b ++ rest → MayFollowBranches before b → ⊥
none_follows before bytes none b rest text next = none (record { branch = b; rest = rest; text = text; next = next })

-- a body has one first fault at most
pub one_fault_lem : (body : List ℕ) (i j : ℕ) → IsSnpFault body i → IsSnpFault body j → i ≡ j
one_fault_lem body i j f g =
    let same = same_front branch_text IsBranch one_branch AreBranches MayFollowBranches branches-next (λ _ _ may. may.is_branch) [] f.before g.before f.rest g.rest f.good g.good (sym f.text ∙ g.text) (none_follows f.before f.rest f.breaks) (none_follows g.before g.rest g.breaks) in
    f.here ∙ ap (λ (bs : List SnapshotBranch). length (snapshot_text bs)) same.0 ∙ sym g.here
