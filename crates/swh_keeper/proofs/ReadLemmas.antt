-- Two files after a barrier on each, and how a making ends.
use Rattle.std.specs.Prelude.{IsErrAnd, IsErrOf, OnOk}
use Rattle.std.proofs.Common.{◌≡◌, ◌⊎◌, ℕ, Result, Ok, Err, List, refl, sym, ap, ◌∙◌, subst, inr}
use Rattle.swh_outside.specs.Disk.{File, Sync, IsAtRest, done}
use Rattle.swh_outside.specs.Files.{Files, FilesBreaks, files_of, files_done}
use Rattle.swh_outside.proofs.Images.{at_rest_done}
use Rattle.swh_segment.specs.Making.{barriers, making_calls}
use Rattle.swh_segment.specs.declared.fault.MakeFault.{MakeFault}
use Rattle.swh_segment.specs.declared.fault.MakeFault.TheVariants as make
use Rattle.swh_base.specs.declared.kind.Kind.{Kind}
use Rattle.swh_model.specs.declared.event.Event.{Event}
use Rattle.swh_format.specs.Stands.{StandsFor}
use Rattle.swh_model.specs.Step.{IsHistory}
use Rattle.swh_model.proofs.OneHistory.{one_history}
use Rattle.swh_format.proofs.Unique.{alike}
use Rattle.swh_keeper.specs.declared.opening.OpenWhy.{OpenWhy}
use Rattle.swh_keeper.specs.declared.opening.OpenWhy.TheVariants.{Made, NotMade, Damaged, DiskFault, Memory}
use Rattle.swh_keeper.specs.Opening.{make_why, IsLeftOfMaking, IsLeftFor}

-- A barrier was made on each file.
module _ (ledger store ledger_now store_now : File) (settled : files_of ledger_now store_now ≡ files_done barriers (files_of ledger store)) where
  ledger_done : ledger_now ≡ done Sync ledger
  ledger_done = ap (λ (files : Files). files 0) settled

  store_done : store_now ≡ done Sync store
  store_done = ap (λ (files : Files). files 1) settled

  pub ledger_seen : ledger_now.seen ≡ ledger.seen
  ledger_seen = ap (λ (file : File). file.seen) ledger_done

  pub store_seen : store_now.seen ≡ store.seen
  store_seen = ap (λ (file : File). file.seen) store_done

  pub ledger_rests : IsAtRest ledger_now
  ledger_rests = subst IsAtRest (sym ledger_done) (at_rest_done ledger)

  pub store_rests : IsAtRest store_now
  store_rests = subst IsAtRest (sym store_done) (at_rest_done store)

pub left_settled : (why : OpenWhy) (old new : Files) → new ≡ files_done barriers old → IsLeftFor why old new
left_settled Made old new settled = settled
left_settled NotMade old new settled = settled
left_settled (Damaged file at harm) old new settled = settled
left_settled DiskFault old new settled = inr settled
left_settled Memory old new settled = settled

-- why a `?` ends a call is why it failed
pub why_exits : {T U : Type 0} (r : Result T OpenWhy) (s : Result U OpenWhy) (x y : OpenWhy) → IsErrAnd r (λ e. e ≡ x) → s ≡ Err x → IsErrOf r y → IsErrOf s y
why_exits (Ok t) s x y h was is = absurd h
why_exits (Err e) s x y h was is =
    let same : e ≡ y = cc in
    was ∙ ap (λ (z : OpenWhy). Err z) (sym h ∙ same)

pub on_any : {T E : Type 0} (r : Result T E) (P : Type 0) → P → OnOk r P
on_any (Ok t) P h = h
on_any (Err e) P h = tt

-- two histories for which the files stand are one
pub the_one : (id_of : Kind → List ℕ → List ℕ) (ledger store : List ℕ) (g h : List Event) → StandsFor ledger store g → IsHistory id_of g → StandsFor ledger store h → IsHistory id_of h → g ≡ h
the_one id_of ledger store g h sg hg sh hh = one_history id_of g h (alike ledger store g h sg sh) hg hh

-- what is left of a making that ends for a fault
pub left_of_making : (fault : MakeFault) (why : OpenWhy) (old new : Files) → why ≡ make_why fault → (fault ≡ make.Made → new ≡ old) → (fault ≡ make.Disk → (new ≡ old) ⊎ FilesBreaks (making_calls (old 0).seen) old new) → IsLeftOfMaking why old new
left_of_making fault why old new is same broken = subst (λ (w : OpenWhy). IsLeftOfMaking w old new) (sym is) (left fault same broken)
  where
    left : (f : MakeFault) → (f ≡ make.Made → new ≡ old) → (f ≡ make.Disk → (new ≡ old) ⊎ FilesBreaks (making_calls (old 0).seen) old new) → IsLeftOfMaking (make_why f) old new
    left make.Made m b = m refl
    left make.Disk m b = b refl
