-- What a run comes to: what it prints, and its status.
use Rattle.std.specs.Prelude.{◌≡◌, ◌⊎◌, ◌++◌, ◌∷◌, [], ℕ, List, codes}
use Rattle.swh_outside.specs.Sink.{TakesSome}
use Rattle.swh_outside.specs.Faults.{Rose}
use Rattle.swh_exit.specs.Refusal.{refusal}
use Rattle.swh_exit.specs.declared.answer.Ending.{Ending}
use Rattle.swh_exit.specs.declared.answer.Ending.TheVariants as ending
use Rattle.swh_exit.specs.declared.answer.Answer.{Answer}
use Rattle.swh_exit.specs.declared.answer.Answer.TheVariants.{Made, Told, Words, NoJobFile, BadJob, AlreadyMade, NotMade, Damaged, OutsideDisk, OutsideSource, OutsideFolder, OutsideYard, OutsideClock, Memory}

-- what is printed after lines or replies
abbrev pub last_line_for : Ending → List ℕ
last_line_for ending.Done = []
last_line_for ending.Wanting = []
last_line_for ending.OutsideDisk = refusal (codes "outside disk")
last_line_for ending.Memory = refusal (codes "memory")

-- the last line that is printed for an answer
abbrev pub last_line_of : Answer → List ℕ
last_line_of Made = codes "made" ++ 10 ∷ []
last_line_of (Told text end) = last_line_for end
last_line_of Words = refusal (codes "words")
last_line_of NoJobFile = refusal (codes "no job file")
last_line_of (BadJob text) = []
last_line_of AlreadyMade = refusal (codes "made")
last_line_of NotMade = refusal (codes "not made")
last_line_of (Damaged text) = []
last_line_of OutsideDisk = refusal (codes "outside disk")
last_line_of OutsideSource = refusal (codes "outside source")
last_line_of OutsideFolder = refusal (codes "outside folder")
last_line_of OutsideYard = refusal (codes "outside yard")
last_line_of OutsideClock = refusal (codes "outside clock")
last_line_of Memory = refusal (codes "memory")

-- lines, replies, or the line that tells what is bad or damaged
abbrev pub told_by : Answer → List ℕ
told_by (Told text end) = text
told_by (BadJob text) = text
told_by (Damaged text) = text
told_by _ = []

-- all bytes that are printed
abbrev pub printed_by : Answer → List ℕ
printed_by answer = told_by answer ++ last_line_of answer

-- the status of a run that ends so
abbrev pub status_for : Ending → ℕ
status_for ending.Done = 0
status_for ending.Wanting = 1
status_for ending.OutsideDisk = 4
status_for ending.Memory = 5

-- the status of a run that comes to this answer
abbrev pub status_of : Answer → ℕ
status_of Made = 0
status_of (Told text end) = status_for end
status_of Words = 2
status_of NoJobFile = 2
status_of (BadJob text) = 2
status_of AlreadyMade = 3
status_of NotMade = 3
status_of (Damaged text) = 3
status_of OutsideDisk = 4
status_of OutsideSource = 4
status_of OutsideFolder = 4
status_of OutsideYard = 4
status_of OutsideClock = 4
status_of Memory = 5

-- The answer tells this line, or memory for it ran out.
abbrev pub TellsLine : List ℕ → Ending → Answer → Type 0
TellsLine line end (Told text e) = (text ≡ line) × (e ≡ end)
TellsLine line end Memory = Unit {0}
TellsLine line end _ = ⊥

-- a disk that failed is told
abbrev pub TellsDisk : Answer → Type 0
TellsDisk (Told text end) = end ≡ ending.OutsideDisk
TellsDisk answer = answer ≡ OutsideDisk

-- All of it was printed.
pub record IsPrinted (answer : Answer) (tells : Type 0) (before now : List ℕ) (status : ℕ) : Type 0 where
  pub status_is : status ≡ status_of answer
  pub printed : tells → now ≡ before ++ printed_by answer

-- The sink failed, with the first few bytes on it.
pub record IsCutOff (answer : Answer) (tells : Type 0) (before now : List ℕ) (faults_before faults_now status : ℕ)
    : Type 0 where
  pub status_is : status ≡ 4
  pub rose : Rose faults_before faults_now
  pub printed : tells → TakesSome before (printed_by answer) now

-- It was told: all of it was printed, or the sink failed.
abbrev pub IsToldOf : Answer → Type 0 → List ℕ → List ℕ → ℕ → ℕ → ℕ → Type 0
IsToldOf answer tells before now faults_before faults_now status =
    IsPrinted answer tells before now status ⊎ IsCutOff answer tells before now faults_before faults_now status
