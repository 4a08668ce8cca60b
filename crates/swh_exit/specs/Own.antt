-- What comes of own files: those that device calls and crashes of this program leave of an archive that it made.
use Rattle.std.specs.Prelude.{◌≡◌, ◌<◌, ℕ, List}
use Rattle.swh_base.specs.declared.kind.Kind.{Kind}
use Rattle.swh_outside.specs.Disk.{IsAtRest}
use Rattle.swh_outside.specs.Files.{Files, Images, EachFilesMoment}
use Rattle.swh_segment.specs.Making.{barriers}
use Rattle.swh_keeper.specs.Own.{AreUsable, AreOwn}
use Rattle.swh_exit.specs.Damage.{IsUndamaged}
use Rattle.swh_exit.specs.declared.answer.Answer.{Answer}
use Rattle.swh_exit.specs.declared.answer.Answer.TheVariants.{Made, Told, OutsideClock}

-- The answer comes only where an archive was made, or opened.
abbrev pub HasOpened : Answer → Type 0
HasOpened Made = Unit {0}
HasOpened (Told text end) = Unit {0}
HasOpened OutsideClock = Unit {0}
HasOpened _ = ⊥

-- The files that stand once a crash left these images: nothing was written on them since.
pub record AreAfterCrash (images : Images) (files : Files) : Type 0 where
  pub rest : (k : ℕ) → IsAtRest (files k)
  pub seen : (k : ℕ) → (files k).seen ≡ images k

module _ (id_of : Kind → List ℕ → List ℕ) (old new : Files) where
  -- Own files are not told of as damaged, and are own at the end; a crash at either barrier of an opening leaves them not
  -- made, or standing for a history. The files of an archive that was made or opened are own at the end, whatever they
  -- were.
  pub record KeepsOwn (answer : Answer) : Type 0 where
    pub undamaged : AreOwn id_of old → IsUndamaged answer
    pub own : AreOwn id_of old → AreOwn id_of new
    pub opened : HasOpened answer → AreOwn id_of new
    pub opening : AreOwn id_of old → EachFilesMoment barriers old (AreUsable id_of)

  -- Own files are own at the end of a run; and at the end of a run with status 0 or 1 the files are own, whatever they
  -- were.
  pub record EndsOwn (status : ℕ) : Type 0 where
    pub own : AreOwn id_of old → AreOwn id_of new
    pub told : status < 2 → AreOwn id_of new
