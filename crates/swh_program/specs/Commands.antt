-- What each command does.
use Rattle.std.specs.Prelude.{ℕ, List, map}
use Rattle.swh_base.specs.declared.kind.Kind.{Kind}
use Rattle.swh_model.specs.Archive.{Archive}
use Rattle.swh_words.specs.Words.{Wanted, ToInit, ToLoad, ToAsk, ToCheck, ToCook, ToIdentify, ToIdentifyFolder}
use Rattle.swh_exit.specs.Seen.{Span}
use Rattle.swh_program.specs.InitCommand.{Inits, DoesInit}
use Rattle.swh_program.specs.LoadCommand.{Loads, DoesLoad}
use Rattle.swh_program.specs.AskCommand.{asking, DoesAsk}
use Rattle.swh_program.specs.CheckCommand.{checking, DoesCheck}
use Rattle.swh_program.specs.CookCommand.{cooking, LeavesYard, LeavesCook, Cooks, DoesCook}
use Rattle.swh_identify.specs.IdentifyCommand.{Identifies, DoesIdentify}
use Rattle.swh_identify.specs.IdentifyFolderCommand.{IdentifiesFolder, DoesIdentifyFolder}
use Rattle.swh_program.specs.Reading.{Telling, Reads}
use Rattle.swh_program.specs.Yards.{Yards}
use Rattle.swh_exit.specs.declared.answer.Answer.{Answer}
use Rattle.swh_program.specs.declared.reading.Reading.{Reading}
use Rattle.swh_program.specs.declared.reading.Reading.TheVariants.{Ask, Check, Cook}

-- The run does what the command asks for, and ends with this status.
abbrev pub Does : Wanted → Span → ℕ → Type 0
Does (ToInit dir) s status = DoesInit dir s status
Does (ToLoad dir jobs) s status = DoesLoad dir jobs s status
Does (ToAsk dir paths) s status = DoesAsk dir paths s status
Does (ToCheck dir) s status = DoesCheck dir s status
Does (ToCook dir swhid out) s status = DoesCook dir swhid out s status
Does (ToIdentify kind path) s status = DoesIdentify kind path s status
Does (ToIdentifyFolder path) s status = DoesIdentifyFolder path s status

-- This answer came of the command.
abbrev pub Comes : Wanted → Span → Answer → Type 0
Comes (ToInit dir) s answer = Inits dir s answer
Comes (ToLoad dir jobs) s answer = Loads dir jobs s answer
Comes (ToAsk dir paths) s answer = Reads (asking paths) dir s answer
Comes (ToCheck dir) s answer = Reads (checking s.id_of) dir s answer
Comes (ToCook dir swhid out) s answer = Cooks dir swhid out s answer
Comes (ToIdentify kind path) s answer = Identifies kind path s answer
Comes (ToIdentifyFolder path) s answer = IdentifiesFolder path s answer

-- what a command that only reads has to tell of an archive, by the yard over the run
abbrev pub telling : (Kind → List ℕ → List ℕ) → Yards → Reading → Telling
telling id_of y (Ask paths) = asking (map (λ path. path.now) paths.now)
telling id_of y Check = checking id_of
telling id_of y (Cook name out) = cooking y name out.now

-- how a look at an open archive leaves the yard
abbrev pub LooksLeave : Yards → Reading → Archive → Answer → Type 0
LooksLeave y (Ask paths) a answer = y.same
LooksLeave y Check a answer = y.same
LooksLeave y (Cook name out) a answer = LeavesYard y a name out.now answer

-- how such a command leaves the yard, where what an archive has `Of` it says which archive
abbrev pub ReadsLeave : ((Archive → Type 0) → Type 0) → Yards → Reading → Answer → Type 0
ReadsLeave Of y (Ask paths) answer = y.same
ReadsLeave Of y Check answer = y.same
ReadsLeave Of y (Cook name out) answer = LeavesCook Of y name out.now answer

-- The command has no use for the yard.
abbrev pub NeedsNoYard : Wanted → Type 0
NeedsNoYard (ToCook dir swhid out) = ⊥
NeedsNoYard _ = Unit {0}
