-- What `identify dir` does: it names a folder that has no listing.
use Rattle.std.specs.Prelude.{◌≡◌, ◌≢◌, ◌⊎◌, ℕ, Option, Some, None, IsSomeAnd, List, [], ◌++◌, codes}
use Rattle.swh_base.specs.declared.kind.Kind.{Kind}
use Rattle.swh_base.specs.declared.visit.Which.{Which}
use Rattle.swh_base.specs.Escape.{escaped}
use Rattle.swh_outside.specs.Folder.{Tree}
use Rattle.swh_dirmade.specs.Making.{directory_name}
use Rattle.swh_dirload.specs.declared.fault.DirFault.{DirFault}
use Rattle.swh_dirload.specs.declared.fault.DirFault.TheVariants.{OtherKind, BadModes, Limit, ReadFault, Memory as OutOfMemory}
use Rattle.swh_dirload.specs.May.{MayRefusePlain}
use Rattle.swh_dirload.specs.Meaning.{BreaksFolder}
use Rattle.swh_dirload.specs.Root.{HasRoot, IsOfDirectory}
use Rattle.swh_loader.specs.Report.{which_word}
use Rattle.swh_exit.specs.Seen.{Span, DeskFailed, SinkFailed}
use Rattle.swh_exit.specs.LeftAlone.{IsOnDesk}
use Rattle.swh_exit.specs.Refusal.{refusal}
use Rattle.swh_exit.specs.Run.{IsExactly, Ends, IsPrintedWith}
use Rattle.swh_identify.specs.IdentifyCommand.{name_line}
use Rattle.swh_exit.specs.declared.answer.Ending.{Ending}
use Rattle.swh_exit.specs.declared.answer.Ending.TheVariants as ending
use Rattle.swh_exit.specs.declared.answer.Answer.{Answer}
use Rattle.swh_exit.specs.declared.answer.Answer.TheVariants.{Told, OutsideFolder, Memory}

-- the name of a directory as it is printed
abbrev pub directory_line : List ℕ → List ℕ
directory_line root = name_line (directory_name root)

-- what is printed of an item that is neither file nor folder: its path, escaped
abbrev pub other_line : List ℕ → List ℕ
other_line path = refusal (codes "other " ++ escaped path)

-- what is printed of a limit that a folder passes
abbrev pub limit_line : Which → List ℕ
limit_line which = refusal (codes "limit " ++ which_word which)

-- The text tells why there is no directory.
abbrev pub TellsFault : DirFault → List ℕ → Type 0
TellsFault (OtherKind path) text = text ≡ other_line path
TellsFault (BadModes line) text = ⊥
TellsFault (Limit which number) text = text ≡ limit_line which
TellsFault ReadFault text = ⊥
TellsFault OutOfMemory text = ⊥

-- The answer to a fault: it is told, or the folder failed, or memory ran out.
abbrev pub AnswersFault : DirFault → Answer → Type 0
AnswersFault fault (Told text end) = (end ≡ ending.Wanting) × TellsFault fault text
AnswersFault fault OutsideFolder = fault ≡ ReadFault
AnswersFault fault Memory = Unit {0}
AnswersFault fault _ = ⊥

module _ (id_of : Kind → List ℕ → List ℕ) where
  -- No directory is made of what stands at a path: no folder stands there, or it breaks.
  abbrev pub HasNoDirectory : Option Tree → Type 0
  HasNoDirectory None = Unit {0}
  HasNoDirectory (Some tree) = (fault : DirFault) × BreaksFolder id_of tree [] fault

  -- The text is the name of the folder's directory.
  pub record TellsRoot (tree : Tree) (text : List ℕ) : Type 0 where
    pub root : List ℕ
    pub is : HasRoot id_of tree [] root
    pub text_is : text ≡ directory_line root

  -- The text says how the folder breaks.
  pub record TellsBreak (tree : Tree) (text : List ℕ) : Type 0 where
    pub fault : DirFault
    pub breaks : BreaksFolder id_of tree [] fault
    pub tells : TellsFault fault text

  -- The text says why no directory is made of what stands at a path.
  abbrev pub IsRefusedFolder : Option Tree → List ℕ → Type 0
  IsRefusedFolder None text = text ≡ refusal (codes "not found")
  IsRefusedFolder (Some tree) text = TellsBreak tree text

  -- What is told of what stands at a path: the name of its directory, or why there is none.
  abbrev pub TellsFolder : Option Tree → Ending → List ℕ → Type 0
  TellsFolder found ending.Done text = IsSomeAnd found (λ tree. TellsRoot tree text)
  TellsFolder found ending.Wanting text = IsRefusedFolder found text
  TellsFolder found _ text = ⊥

  -- What stands at the path comes to this answer.
  abbrev pub FolderEnds : Option Tree → Answer → Type 0
  FolderEnds found (Told text end) = TellsFolder found end text
  FolderEnds found OutsideFolder = Unit {0}
  FolderEnds found Memory = Unit {0}
  FolderEnds found _ = ⊥

  -- The text is the name of some directory.
  pub record TellsDirectory (text : List ℕ) : Type 0 where
    pub root : List ℕ
    pub is : IsOfDirectory id_of root
    pub text_is : text ≡ directory_line root

  -- The text tells what may be wrong with a folder.
  pub record TellsSomeFault (text : List ℕ) : Type 0 where
    pub fault : DirFault
    pub may : MayRefusePlain fault
    pub tells : TellsFault fault text

  -- What may be told of a folder, whether the desk tells its content or not.
  abbrev pub MayTell : Ending → List ℕ → Type 0
  MayTell ending.Done text = TellsDirectory text
  MayTell ending.Wanting text = (text ≡ refusal (codes "not found")) ⊎ TellsSomeFault text
  MayTell _ text = ⊥

  -- `identify dir` has no other answers.
  abbrev pub IsFolderAnswer : Answer → Type 0
  IsFolderAnswer (Told text end) = MayTell end text
  IsFolderAnswer OutsideFolder = Unit {0}
  IsFolderAnswer Memory = Unit {0}
  IsFolderAnswer _ = ⊥

-- This answer came of `identify dir`, by what the folder at each path of the desk holds.
pub record IdentifiesFolder (path : List ℕ) (s : Span) (answer : Answer) : Type 0 where
  pub one_of : IsFolderAnswer s.id_of answer
  pub ends : s.told.origins → FolderEnds s.id_of (s.old.desk.folder_at path) answer
  pub cause : answer ≡ OutsideFolder → DeskFailed s
  pub left : IsOnDesk s

-- What a run of `identify dir` does.
pub record DoesIdentifyFolder (path : List ℕ) (s : Span) (status : ℕ) : Type 0 where
  pub ends : Ends (IdentifiesFolder path s) s status
  -- It refuses no job, and needs no archive.
  pub not_refused : status ≢ 2
  pub no_archive : status ≢ 3
  -- 1: no folder stands at the path, or it breaks.
  pub no_directory : s.told.origins → IsExactly 1 (HasNoDirectory s.id_of (s.old.desk.folder_at path)) status
  -- The name of the folder's directory is printed, unless memory runs out, where no part of the outside failed.
  pub complete : (tree : Tree) (root : List ℕ) → s.told.origins → s.old.desk.folder_at path ≡ Some tree → HasRoot s.id_of tree [] root
      → (DeskFailed s → ⊥) → (SinkFailed s → ⊥) → IsPrintedWith (directory_line root) 0 s status
