-- The opening of an archive: which history its files stand for, and how a command ends that is refused.
use Rattle.std.specs.Prelude.{◌≡◌, ◌⊎◌, ℕ, List}
use Rattle.swh_base.specs.declared.kind.Kind.{Kind}
use Rattle.swh_outside.specs.Disk.{File}
use Rattle.swh_outside.specs.Files.{Files, FilesBreaks, AreImages, files_of, files_done}
use Rattle.swh_model.specs.declared.event.Event.{Event}
use Rattle.swh_format.specs.Stands.{StandsFor}
use Rattle.swh_model.specs.Step.{IsHistory}
use Rattle.swh_segment.specs.Making.{IsMade, IsNotMade, barriers}
use Rattle.swh_segment.specs.Settled.{seen_of}
use Rattle.swh_keeper.specs.Kept.{Kept}
use Rattle.swh_keeper.specs.declared.opening.OpenWhy.{OpenWhy}
use Rattle.swh_keeper.specs.declared.opening.OpenWhy.TheVariants as why
use Rattle.swh_exit.specs.Damage.{damaged_line, IsDamagedLine, TellsDamageLine, TellsHarm}
use Rattle.swh_exit.specs.Own.{KeepsOwn}
use Rattle.swh_exit.specs.declared.answer.Answer.{Answer}
use Rattle.swh_exit.specs.declared.answer.Answer.TheVariants.{NotMade, Damaged, OutsideDisk, Memory}

-- Nothing was done but a barrier on each file.
abbrev pub IsOnlyOpened : Files → Files → Type 0
IsOnlyOpened old new = new ≡ files_done barriers old

-- Nothing was done, or nothing but these barriers.
abbrev pub IsUntouched : Files → Files → Type 0
IsUntouched old new = (new ≡ old) ⊎ IsOnlyOpened old new

-- Nothing was done, or nothing but barriers, the last of which may have failed.
abbrev pub IsAtMostOpened : Files → Files → Type 0
IsAtMostOpened old new = IsUntouched old new ⊎ FilesBreaks barriers old new

-- The command's answer is the one to this refusal of the keeper.
abbrev pub IsRefusalFor : OpenWhy → Answer → Type 0
IsRefusalFor why.Made answer = ⊥
IsRefusalFor why.NotMade answer = answer ≡ NotMade
IsRefusalFor (why.Damaged file at harm) answer = TellsDamageLine (damaged_line file at) answer
IsRefusalFor why.DiskFault answer = answer ≡ OutsideDisk
IsRefusalFor why.Memory answer = answer ≡ Memory

-- An opening may be refused by this answer.
abbrev pub IsOpenRefusal : Answer → Type 0
IsOpenRefusal NotMade = Unit {0}
IsOpenRefusal (Damaged text) = IsDamagedLine text
IsOpenRefusal OutsideDisk = Unit {0}
IsOpenRefusal Memory = Unit {0}
IsOpenRefusal _ = ⊥

module _ (id_of : Kind → List ℕ → List ℕ) where
  -- The two files stand for this history.
  pub record IsArchive (files : Files) (h : List Event) : Type 0 where
    pub stand : StandsFor (files 0).seen (files 1).seen h
    pub history : IsHistory id_of h

  -- The ledger is made, but the files stand for no history.
  pub record IsDamagedArchive (files : Files) : Type 0 where
    pub made : IsMade (files 0).seen
    pub none : (h : List Event) → IsArchive files h → ⊥

  -- The archive is not made, or damaged.
  abbrev pub IsUnusable : Files → Type 0
  IsUnusable files = IsNotMade (files 0).seen ⊎ IsDamagedArchive files

  -- how an opening that is refused leaves the files
  abbrev pub OpenEnds : Files → Files → Answer → Type 0
  OpenEnds old new NotMade = IsNotMade (old 0).seen × IsOnlyOpened old new
  OpenEnds old new (Damaged text) = TellsHarm id_of old text × IsOnlyOpened old new
  OpenEnds old new OutsideDisk = IsAtMostOpened old new
  OpenEnds old new Memory = IsUntouched old new
  OpenEnds old new _ = ⊥

  -- how it leaves them; and own files are not told of as damaged, and are left own
  pub record IsLeftRefused (old new : Files) (answer : Answer) : Type 0 where
    pub ends : OpenEnds old new answer
    pub own : KeepsOwn id_of old new answer

  -- The files of an archive that was opened stand for its history and no other, and nothing was done on them but a
  -- barrier on each. What a read gave of each is what a crash might have left of it.
  pub record IsOpenedFrom {D : Type 0} (file : D → File) (old : Files) (kept : Kept D) : Type 0 where
    pub archive : IsArchive old kept.history
    pub no_other : (h : List Event) → IsArchive old h → kept.history ≡ h
    pub made : IsMade (old 0).seen
    pub opened : IsOnlyOpened old (files_of (file kept.ledger) (file kept.store))
    pub sees : AreImages old (seen_of old)
