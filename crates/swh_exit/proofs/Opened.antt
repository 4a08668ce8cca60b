-- What the keeper's opening means for the archive in a folder.
use Rattle.std.proofs.Common.{◌≡◌, inl, inr, ℕ, List, refl, sym, ap, ◌∙◌, subst}
use Rattle.swh_base.specs.declared.kind.Kind.{Kind}
use Rattle.swh_outside.specs.Disk.{File}
use Rattle.swh_outside.specs.Files.{Files, FilesBreaks, files_of, files_done}
use Rattle.swh_model.specs.declared.event.Event.{Event}
use Rattle.swh_format.specs.Stands.{StandsFor}
use Rattle.swh_model.specs.Step.{IsHistory}
use Rattle.swh_segment.specs.Making.{IsMade, IsNotMade, barriers}
use Rattle.swh_keeper.specs.Damage.{IfDamagedAt, IsDamagedAt}
use Rattle.swh_keeper.specs.Own.{AreOwn}
use Rattle.swh_keeper.specs.Opening.{IsOpeningFault, IsLeftFor, IsTheHistory}
use Rattle.swh_keeper.specs.declared.opening.OpenWhy.{OpenWhy}
use Rattle.swh_keeper.specs.declared.opening.OpenWhy.TheVariants as why
use Rattle.swh_recovery.specs.declared.harm.Harm.{Harm}
use Rattle.swh_exit.specs.Damage.{damaged_line, TellsDamageLine}
use Rattle.swh_exit.specs.Opening.{IsArchive, IsOnlyOpened, IsOpenRefusal, IsRefusalFor, OpenEnds}
use Rattle.swh_exit.specs.Own.{KeepsOwn}
use Rattle.swh_exit.proofs.Owned.{keeps_refused}
use Rattle.swh_exit.specs.declared.answer.Answer.{Answer}
use Rattle.swh_exit.specs.declared.answer.Answer.TheVariants.{Damaged, Memory}

module _ (id_of : Kind → List ℕ → List ℕ) (ledger store : File) (old : Files) (given : files_of ledger store ≡ old) where
  ledger_seen : ledger.seen ≡ (old 0).seen
  ledger_seen = ap (λ (f : Files). (f 0).seen) given

  store_seen : store.seen ≡ (old 1).seen
  store_seen = ap (λ (f : Files). (f 1).seen) given

  stands_at : (h : List Event) → StandsFor ledger.seen store.seen h → StandsFor (old 0).seen (old 1).seen h
  stands_at h s = subst (λ (l : List ℕ). StandsFor l (old 1).seen h) ledger_seen (subst (λ (l : List ℕ). StandsFor ledger.seen l h) store_seen s)

  stands_here : (h : List Event) → StandsFor (old 0).seen (old 1).seen h → StandsFor ledger.seen store.seen h
  stands_here h s = subst (λ (l : List ℕ). StandsFor l store.seen h) (sym ledger_seen) (subst (λ (l : List ℕ). StandsFor (old 0).seen l h) (sym store_seen) s)

  -- barriers leave what is read
  pub archive_kept : (ledger' store' : File) (h : List Event) → files_of ledger' store' ≡ files_done barriers (files_of ledger store) → StandsFor ledger'.seen store'.seen h → IsHistory id_of h → IsArchive id_of old h
  archive_kept ledger' store' h calls s is =
      let l : ledger'.seen ≡ ledger.seen = ap (λ (f : Files). (f 0).seen) calls in
      let k : store'.seen ≡ store.seen = ap (λ (f : Files). (f 1).seen) calls in
      record { stand = stands_at h (subst (λ (b : List ℕ). StandsFor b store.seen h) l (subst (λ (b : List ℕ). StandsFor ledger'.seen b h) k s)); history = is }

  pub no_other_archive : (kept : List Event) → IsTheHistory id_of ledger.seen store.seen kept → (h : List Event) → IsArchive id_of old h → kept ≡ h
  no_other_archive kept only h a = only h (stands_here h a.stand) a.history

  pub made_here : IsMade ledger.seen → IsMade (old 0).seen
  made_here made = subst IsMade ledger_seen made

  pub opened_here : (new : Files) → new ≡ files_done barriers (files_of ledger store) → IsOnlyOpened old new
  opened_here new calls = calls ∙ ap (files_done barriers) given

  -- a harm of what was opened is one of the archive
  harm_here : (file at : ℕ) (harm : Harm) → IsDamagedAt id_of ledger.seen store.seen file at harm → IsDamagedAt id_of (old 0).seen (old 1).seen file at harm
  harm_here file at harm d =
      subst (λ (l : List ℕ). IsDamagedAt id_of l (old 1).seen file at harm) ledger_seen (subst (λ (l : List ℕ). IsDamagedAt id_of ledger.seen l file at harm) store_seen d)

  -- the line of a harm is told, or memory for it ran out
  harm_told : (file at : ℕ) (harm : Harm) (taken : Files) → IsDamagedAt id_of ledger.seen store.seen file at harm → IsOnlyOpened old taken → (answer : Answer) → TellsDamageLine (damaged_line file at) answer → OpenEnds id_of old taken answer
  harm_told file at harm taken d opened (Damaged text) told = (record { file = file; at = at; harmed = (harm, harm_here file at harm d); text_is = told }, opened)
  harm_told file at harm taken d opened Memory told = inr opened
  harm_told file at harm taken d opened _ told = absurd told

  pub refused_here : (reason : OpenWhy) (new taken : Files) → taken ≡ new → IsOpeningFault reason → (reason ≡ why.NotMade → IsNotMade ledger.seen)
      → IfDamagedAt reason (IsDamagedAt id_of ledger.seen store.seen)
      → IsLeftFor reason (files_of ledger store) new → (answer : Answer) → IsRefusalFor reason answer → OpenEnds id_of old taken answer
  refused_here why.Made new taken e fault not_made damaged left answer is = absurd fault
  refused_here why.NotMade new taken e fault not_made damaged left answer is =
      subst (OpenEnds id_of old taken) (sym is) (subst IsNotMade ledger_seen (not_made refl), opened_here taken (e ∙ left))
  refused_here (why.Damaged file at harm) new taken e fault not_made damaged left answer is = harm_told file at harm taken damaged (opened_here taken (e ∙ left)) answer is
  refused_here why.DiskFault new taken e fault not_made damaged (inl breaks) answer is =
      subst (OpenEnds id_of old taken) (sym is) (inr (subst (λ (f : Files). FilesBreaks barriers old f) (sym e) (subst (λ (f : Files). FilesBreaks barriers f new) given breaks)))
  refused_here why.DiskFault new taken e fault not_made damaged (inr done) answer is = subst (OpenEnds id_of old taken) (sym is) (inl (inr (opened_here taken (e ∙ done))))
  refused_here why.Memory new taken e fault not_made damaged left answer is = subst (OpenEnds id_of old taken) (sym is) (inr (opened_here taken (e ∙ left)))

  -- own files are not told of as damaged, and are left own
  pub refused_own : (reason : OpenWhy) (new taken : Files) → taken ≡ new → (AreOwn id_of (files_of ledger store) → IfDamagedAt reason (λ file at harm. ⊥))
      → (AreOwn id_of (files_of ledger store) → AreOwn id_of new) → (answer : Answer) → IsRefusalFor reason answer → IsOpenRefusal answer → KeepsOwn id_of old taken answer
  refused_own reason new taken e undamaged own answer is one_of =
      let here : AreOwn id_of old → AreOwn id_of (files_of ledger store) = λ was. subst (AreOwn id_of) (sym given) was in
      keeps_refused id_of old taken reason answer is one_of (λ was. undamaged (here was)) (λ was. subst (AreOwn id_of) (sym e) (own (here was)))
