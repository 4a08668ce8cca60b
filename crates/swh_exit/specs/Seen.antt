-- What contracts see of the outside: at one moment, and over a run.
use Rattle.std.specs.Prelude.{ℕ, Option, List}
use Rattle.swh_base.specs.declared.kind.Kind.{Kind}
use Rattle.swh_outside.specs.Faults.{Rose}
use Rattle.swh_outside.specs.Files.{Files}
use Rattle.swh_outside.specs.Folder.{Tree}
use Rattle.swh_outside.specs.Sink.{Begun}

-- the bytes of the file at each path
abbrev pub FileAt : Type 0
FileAt = List ℕ → Option (List ℕ)

-- what the folder at each path holds
abbrev pub FolderAt : Type 0
FolderAt = List ℕ → Option Tree

-- what a depot holds
abbrev pub Folders : Type 0
Folders = List ℕ → Files

-- a depot: its files, and how often it has failed
pub record Depot : Type 0 where
  pub files : Folders
  pub faults : ℕ

-- a desk, or the inputs of jobs: the file and the folder that stand at each path, how often each path has failed, and how
-- often any has
pub record Origins : Type 0 where
  pub file_at : FileAt
  pub folder_at : FolderAt
  pub path_faults : List ℕ → ℕ
  pub faults : ℕ

-- a yard: what was begun in it, the bytes that were put, and how often it has failed
pub record Yard : Type 0 where
  pub begun : List Begun
  pub taken : List ℕ
  pub faults : ℕ

-- a sink: the bytes that it has taken, and how often it has failed
pub record Sink : Type 0 where
  pub taken : List ℕ
  pub faults : ℕ

-- a clock: what it says at each look from here on, and how often it has failed
pub record Clock : Type 0 where
  pub time : ℕ → ℕ
  pub faults : ℕ

-- doors: how often they have failed
pub record Doors : Type 0 where
  pub faults : ℕ

-- the parts at one moment
pub record Seen : Type 0 where
  pub depot : Depot
  pub desk : Origins
  pub origins : Origins
  pub yard : Yard
  pub sink : Sink
  pub clock : Clock
  pub doors : Doors

-- which parts tell what they hold; the desk and the inputs are of one type
pub record Told : Type 1 where
  pub depot : Type 0
  pub origins : Type 0
  pub yard : Type 0
  pub sink : Type 0
  pub clock : Type 0

-- for each part, that it is as it was: the part itself, and not only what is seen of it
pub record Same : Type 1 where
  pub namer : Type 0
  pub depot : Type 0
  pub desk : Type 0
  pub origins : Type 0
  pub yard : Type 0
  pub sink : Type 0
  pub clock : Type 0
  pub doors : Type 0
  pub gate : Type 0

-- the outside at the start of a run and at its end, and the naming that the run uses
pub record Span : Type 1 where
  pub id_of : Kind → List ℕ → List ℕ
  pub told : Told
  pub old : Seen
  pub new : Seen
  pub same : Same

-- The depot, or a disk of it, failed in the run.
abbrev pub DepotFailed : Span → Type 0
DepotFailed s = Rose s.old.depot.faults s.new.depot.faults

-- The desk failed.
abbrev pub DeskFailed : Span → Type 0
DeskFailed s = Rose s.old.desk.faults s.new.desk.faults

-- The yard failed.
abbrev pub YardFailed : Span → Type 0
YardFailed s = Rose s.old.yard.faults s.new.yard.faults

-- The clock failed.
abbrev pub ClockFailed : Span → Type 0
ClockFailed s = Rose s.old.clock.faults s.new.clock.faults

-- The sink failed.
abbrev pub SinkFailed : Span → Type 0
SinkFailed s = Rose s.old.sink.faults s.new.sink.faults
