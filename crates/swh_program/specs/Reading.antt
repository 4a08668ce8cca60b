-- What a command does that only reads an archive.
use Rattle.std.specs.Prelude.{◌≡◌, ◌≢◌, ◌⊎◌, ◌≤◌, ◌++◌, ℕ, List}
use Rattle.swh_base.specs.declared.kind.Kind.{Kind}
use Rattle.swh_outside.specs.Disk.{File}
use Rattle.swh_outside.specs.Faults.{Rose}
use Rattle.swh_outside.specs.Files.{Files}
use Rattle.swh_model.specs.declared.event.Event.{Event}
use Rattle.swh_model.specs.Archive.{Archive}
use Rattle.swh_model.specs.Step.{IsHistory, replay}
use Rattle.swh_segment.specs.Making.{IsNotMade}
use Rattle.swh_keeper.specs.Kept.{Kept}
use Rattle.swh_keeper.specs.Own.{AreOwn}
use Rattle.swh_keeper.specs.Stored.{IsReadAgain}
use Rattle.swh_exit.specs.Seen.{Span, DepotFailed, SinkFailed}
use Rattle.swh_exit.specs.Answers.{status_for}
use Rattle.swh_exit.specs.Archives.{old_archive, new_archive, SameElsewhere}
use Rattle.swh_exit.specs.Damage.{damaged_line, IsDamagedLine, IsHarmedAt}
use Rattle.swh_exit.specs.LeftAlone.{IsOnDepot}
use Rattle.swh_exit.specs.Own.{KeepsOwn, EndsOwn}
use Rattle.swh_exit.specs.Run.{IsExactly, Ends, IsPrintedUnlessFailed}
use Rattle.swh_exit.specs.Opening.{IsArchive, IsUnusable, IsOnlyOpened, IsOpenRefusal, OpenEnds}
use Rattle.swh_exit.specs.declared.answer.Ending.{Ending}
use Rattle.swh_exit.specs.declared.answer.Answer.{Answer}
use Rattle.swh_exit.specs.declared.answer.Answer.TheVariants.{Told, Damaged, OutsideDisk, OutsideYard, Memory}

-- What a command has to tell of an archive: the text, with how the run ends; the line of a damage that it may find in an
-- archive that opens, where the disks do not tell; and how it ends where the yard fails.
pub record Telling : Type 1 where
  pub tells : Archive → List ℕ → Ending → Type 0
  pub finds : Archive → List ℕ → Type 0
  pub breaks : Archive → Type 0

-- The answer is what the command has to tell of the archive, or a disk or the yard failed, or memory ran out.
abbrev pub IsOfArchive : Telling → Archive → Answer → Type 0
IsOfArchive t a (Told text end) = t.tells a text end
IsOfArchive t a (Damaged text) = t.finds a text
IsOfArchive t a OutsideDisk = Unit {0}
IsOfArchive t a OutsideYard = t.breaks a
IsOfArchive t a Memory = Unit {0}
IsOfArchive t a _ = ⊥

-- What a look at an open archive leaves: all is as it was but that the store was read, and a disk is told only where it
-- failed.
pub record LeavesKept {D : Type 0} (tells : Type 0) (file : D → File) (faults : D → ℕ) (old new : Kept D) (answer : Answer) : Type 0 where
  pub same : IsReadAgain tells file old new
  pub later : faults old.store ≤ faults new.store
  pub cause : answer ≡ OutsideDisk → Rose (faults old.store) (faults new.store)

module _ (id_of : Kind → List ℕ → List ℕ) where
  -- It is so of the replay of a history that may happen.
  pub record OfHistory (Is : Archive → Type 0) : Type 0 where
    pub history : List Event
    pub happens : IsHistory id_of history
    pub is : Is (replay history)

  -- It is so of the replay of the history for which the files stand.
  pub record OfArchive (files : Files) (Is : Archive → Type 0) : Type 0 where
    pub history : List Event
    pub archive : IsArchive id_of files history
    pub is : Is (replay history)

  module _ (t : Telling) where
    -- The command has no other answers, whether the depot tells its content or not: each tells of the replay of one
    -- history, or is the refusal of an opening.
    abbrev pub IsReadAnswer : Answer → Type 0
    IsReadAnswer (Told text end) = OfHistory (λ a. t.tells a text end)
    IsReadAnswer (Damaged text) = IsDamagedLine text ⊎ OfHistory (λ a. t.finds a text)
    IsReadAnswer OutsideYard = OfHistory (λ a. t.breaks a)
    IsReadAnswer answer = IsOpenRefusal answer

    -- What is told is of the replay of the history for which the files stand, and nothing is written.
    pub record TellsFiles (old new : Files) (text : List ℕ) (end : Ending) : Type 0 where
      pub history : List Event
      pub archive : IsArchive id_of old history
      pub told : t.tells (replay history) text end
      pub opened : IsOnlyOpened old new

    -- The yard failed once the archive was opened, and nothing is written.
    pub record BreaksFiles (old new : Files) : Type 0 where
      pub history : List Event
      pub archive : IsArchive id_of old history
      pub broke : t.breaks (replay history)
      pub opened : IsOnlyOpened old new

    -- how the command ends, by the files of its folder
    abbrev pub ReadEnds : Files → Files → Answer → Type 0
    ReadEnds old new (Told text end) = TellsFiles old new text end
    ReadEnds old new OutsideYard = BreaksFiles old new
    ReadEnds old new answer = OpenEnds id_of old new answer

-- What the command has to tell of the archive was printed, and the status is the one for that.
pub record Prints (t : Telling) (a : Archive) (s : Span) (status : ℕ) : Type 0 where
  pub text : List ℕ
  pub end : Ending
  pub told : t.tells a text end
  pub printed : s.told.sink → s.new.sink.taken ≡ s.old.sink.taken ++ text
  pub status_is : status ≡ status_for end

module _ (t : Telling) (dir : List ℕ) (s : Span) where
  -- This answer came of the command; the files of its folder are as it says, and no others changed.
  pub record Reads (answer : Answer) : Type 0 where
    pub one_of : IsReadAnswer s.id_of t answer
    pub ends : s.told.depot → ReadEnds s.id_of t (old_archive dir s) (new_archive dir s) answer
    pub elsewhere : s.told.depot → SameElsewhere dir s.old.depot.files s.new.depot.files
    pub own : s.told.depot → KeepsOwn s.id_of (old_archive dir s) (new_archive dir s) answer
    pub cause : answer ≡ OutsideDisk → DepotFailed s
    pub left : IsOnDepot s

  -- What a run of the command does.
  pub record DoesRead (status : ℕ) : Type 0 where
    pub ends : Ends Reads s status
    -- It refuses no job.
    pub not_refused : status ≢ 2
    -- 3: the archive is not made, or damaged; and then the first harm is told, with its place.
    pub unusable : s.told.depot → IsExactly 3 (IsUnusable s.id_of (old_archive dir s)) status
    pub first_harm : (file at : ℕ) → s.told.depot → IsHarmedAt s.id_of (old_archive dir s) file at
        → IsPrintedUnlessFailed (damaged_line file at) 3 s status
    -- Own files are never damaged, and stay own.
    pub undamaged : s.told.depot → AreOwn s.id_of (old_archive dir s) → IsExactly 3 (IsNotMade (old_archive dir s 0).seen) status
    pub own : s.told.depot → EndsOwn s.id_of (old_archive dir s) (new_archive dir s) status
    -- What is to be told of the archive is printed with its status, unless memory runs out, where no part of the outside
    -- failed.
    pub complete : (h : List Event) → s.told.depot → IsArchive s.id_of (old_archive dir s) h
        → (DepotFailed s → ⊥) → ((a : Archive) → t.breaks a → ⊥) → (SinkFailed s → ⊥) → (status ≡ 5) ⊎ Prints t (replay h) s status
