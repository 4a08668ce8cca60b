-- What an archive is that stands for a history.
use Rattle.std.proofs.Common.{◌≡◌, ◌≢◌, ◌⊎◌, inl, inr, ⊎_elim, ℕ, ◌<◌, List, ◌∷◌, length, get_or, refl, sym, ap, ◌∙◌, subst, arith, length-append}
use Rattle.swh_base.specs.declared.kind.Kind.{Kind}
use Rattle.swh_outside.specs.Files.{Files}
use Rattle.swh_model.specs.declared.event.Event.{Event}
use Rattle.swh_format.specs.Stands.{coded_records}
use Rattle.swh_model.proofs.OneHistory.{one_history}
use Rattle.swh_format.proofs.Unique.{alike}
use Rattle.swh_format.proofs.StandsFrom.{behind_magic}
use Rattle.swh_segment.specs.Making.{IsMade, IsNotMade}
use Rattle.swh_keeper.proofs.DamageLemmas.{damage_is_damaged}
use Rattle.swh_exit.specs.Damage.{IsHarmedAt, TellsHarm}
use Rattle.swh_exit.specs.Opening.{IsArchive, IsDamagedArchive, IsUnusable, IsOpenRefusal, OpenEnds}
use Rattle.swh_exit.specs.declared.answer.Answer.{Answer}
use Rattle.swh_exit.specs.declared.answer.Answer.TheVariants.{NotMade, Damaged, OutsideDisk, Memory}

pub not_both : (bytes : List ℕ) → IsMade bytes → IsNotMade bytes → ⊥
not_both bytes made not_made =
    ⊎_elim (λ (short : length bytes < 9). let long = made.0 in omega (arith, long, short)) (λ (other : get_or bytes 0 0 ≢ 83). other made.1) not_made

module _ (id_of : Kind → List ℕ → List ℕ) (files : Files) where
  -- it is made
  pub made_archive : (h : List Event) → IsArchive id_of files h → IsMade (files 0).seen
  made_archive h a =
      let behind = behind_magic (files 0).seen (files 1).seen h a.stand in
      let s = behind.stands in
      let long = ap length s.records ∙ length-append (coded_records 0 h) (s.gate ∷ s.behind) in
      subst IsMade (sym behind.begins) (omega (arith, long), refl)

  -- of one history
  pub one_archive : (g h : List Event) → IsArchive id_of files g → IsArchive id_of files h → g ≡ h
  one_archive g h a b = one_history id_of g h (alike (files 0).seen (files 1).seen g h a.stand b.stand) a.history b.history

  -- a harm leaves no history
  pub no_archive : (file at : ℕ) → IsHarmedAt id_of files file at → IsDamagedArchive id_of files
  no_archive file at (harm, is) =
      let d = damage_is_damaged id_of (files 0).seen (files 1).seen file at harm is in
      record { made = d.made; none = λ h a. d.none h a.stand a.history }

  -- nor does one that is told
  pub harmed : (text : List ℕ) → TellsHarm id_of files text → IsDamagedArchive id_of files
  harmed text t = no_archive t.file t.at t.harmed

  -- and not one that cannot be used
  pub usable : (h : List Event) → IsArchive id_of files h → IsUnusable id_of files → ⊥
  usable h archive unusable =
      ⊎_elim (λ not_made. not_both (files 0).seen (made_archive h archive) not_made) (λ (damaged : IsDamagedArchive id_of files). damaged.none h archive) unusable

  -- its opening is refused for a disk or for memory alone
  pub opening_of_archive : (new : Files) (h : List Event) → IsArchive id_of files h → (answer : Answer) → IsOpenRefusal answer → OpenEnds id_of files new answer → (answer ≡ OutsideDisk) ⊎ (answer ≡ Memory)
  opening_of_archive new h archive NotMade is ends = absurd (usable h archive (inl ends.0))
  opening_of_archive new h archive (Damaged text) is ends = absurd (usable h archive (inr (harmed text ends.0)))
  opening_of_archive new h archive OutsideDisk is ends = inl refl
  opening_of_archive new h archive Memory is ends = inr refl
  opening_of_archive new h archive _ is ends = absurd is
