-- What `init` does.
use Rattle.std.specs.Prelude.{◌≡◌, ◌≢◌, ◌⊎◌, ℕ, List}
use Rattle.swh_base.specs.declared.kind.Kind.{Kind}
use Rattle.swh_outside.specs.Disk.{EachImage}
use Rattle.swh_outside.specs.Files.{Files, EachImages, EachFilesMoment, FilesBreaks, files_done}
use Rattle.swh_segment.specs.Making.{IsMade, IsNotMade, IsNotMadeOrEmpty, IsEmptyArchive, IsCrashSafe, making_calls}
use Rattle.swh_keeper.specs.Own.{AreUsable, AreOwn}
use Rattle.swh_exit.specs.Seen.{Span, DepotFailed, SinkFailed}
use Rattle.swh_exit.specs.Answers.{last_line_of}
use Rattle.swh_exit.specs.Archives.{old_archive, new_archive, SameElsewhere}
use Rattle.swh_exit.specs.LeftAlone.{IsOnDepot}
use Rattle.swh_exit.specs.Own.{KeepsOwn, EndsOwn}
use Rattle.swh_exit.specs.Run.{IsExactly, Ends, IsPrintedWith}
use Rattle.swh_exit.specs.declared.answer.Answer.{Answer}
use Rattle.swh_exit.specs.declared.answer.Answer.TheVariants.{Made, AlreadyMade, OutsideDisk, Memory}

-- All device calls of the making were made, and the disks stand for the empty history, nothing written since a barrier.
pub record IsMaking (old new : Files) : Type 0 where
  pub not_made : IsNotMade (old 0).seen
  pub empty : IsEmptyArchive new
  pub done : new ≡ files_done (making_calls (old 0).seen) old

-- The archive was made before, and nothing was written.
pub record WasMade (old new : Files) : Type 0 where
  pub made : IsMade (old 0).seen
  pub same : new ≡ old

-- A device failed: the calls of the making were made up to it, or none was.
abbrev pub IsCutMaking : Files → Files → Type 0
IsCutMaking old new = (new ≡ old) ⊎ FilesBreaks (making_calls (old 0).seen) old new

-- how `init` ends, by the files of its folder
abbrev pub InitEnds : Files → Files → Answer → Type 0
InitEnds old new Made = IsMaking old new
InitEnds old new AlreadyMade = WasMade old new
InitEnds old new OutsideDisk = IsCutMaking old new
InitEnds old new Memory = new ≡ old
InitEnds old new _ = ⊥

-- `init` has no other answers, whether the depot tells its content or not.
abbrev pub IsInitAnswer : Answer → Type 0
IsInitAnswer Made = Unit {0}
IsInitAnswer AlreadyMade = Unit {0}
IsInitAnswer OutsideDisk = Unit {0}
IsInitAnswer Memory = Unit {0}
IsInitAnswer _ = ⊥

-- What a crash leaves at each device call of `init`, and after it, is not made, or made and empty, where at entry no
-- image is made. Of own files it leaves at each call what is not made, or stands for a history.
pub record IsSafeInit (id_of : Kind → List ℕ → List ℕ) (old new : Files) : Type 0 where
  pub moments : IsNotMade (old 0).seen → EachImage (old 0) IsNotMade → IsCrashSafe old
  pub left : IsNotMade (old 0).seen → EachImage (old 0) IsNotMade → EachImages new IsNotMadeOrEmpty
  pub own : IsNotMade (old 0).seen → AreOwn id_of old → EachFilesMoment (making_calls (old 0).seen) old (AreUsable id_of)

-- This answer came of `init`; the files of its folder, and no others, changed as it says. A made archive is as it was,
-- also where a disk failed.
pub record Inits (dir : List ℕ) (s : Span) (answer : Answer) : Type 0 where
  pub one_of : IsInitAnswer answer
  pub ends : s.told.depot → InitEnds (old_archive dir s) (new_archive dir s) answer
  pub elsewhere : s.told.depot → SameElsewhere dir s.old.depot.files s.new.depot.files
  pub crash : s.told.depot → IsSafeInit s.id_of (old_archive dir s) (new_archive dir s)
  pub spared : s.told.depot → IsMade (old_archive dir s 0).seen → new_archive dir s ≡ old_archive dir s
  pub own : s.told.depot → KeepsOwn s.id_of (old_archive dir s) (new_archive dir s) answer
  pub cause : answer ≡ OutsideDisk → DepotFailed s
  pub left : IsOnDepot s

-- What a run of `init` does.
pub record DoesInit (dir : List ℕ) (s : Span) (status : ℕ) : Type 0 where
  pub ends : Ends (Inits dir s) s status
  -- It wants nothing, and refuses no job.
  pub not_wanting : status ≢ 1
  pub not_refused : status ≢ 2
  -- 3: the archive was made before.
  pub made_before : s.told.depot → IsExactly 3 (IsMade (old_archive dir s 0).seen) status
  -- A made archive is as it was at the end, whatever the status. Own files stay own.
  pub spared : s.told.depot → IsMade (old_archive dir s 0).seen → new_archive dir s ≡ old_archive dir s
  pub own : s.told.depot → EndsOwn s.id_of (old_archive dir s) (new_archive dir s) status
  -- An archive that is not made is made, unless memory runs out, where no part of the outside failed.
  pub complete : s.told.depot → IsNotMade (old_archive dir s 0).seen → (DepotFailed s → ⊥) → (SinkFailed s → ⊥)
      → IsPrintedWith (last_line_of Made) 0 s status
