-- What `cook` does.
use Rattle.std.specs.Prelude.{◌≡◌, ◌≢◌, ◌⊎◌, ◌++◌, ◌∷◌, [], ℕ, Option, Some, None, List, codes, decimal}
use Rattle.swh_base.specs.declared.kind.Kind.{Kind}
use Rattle.swh_base.specs.declared.name.Name.{Name}
use Rattle.swh_outside.specs.Files.{Files}
use Rattle.swh_model.specs.declared.event.Event.{Event}
use Rattle.swh_model.specs.Archive.{Archive, IsGraphOf}
use Rattle.swh_model.specs.Step.{replay}
use Rattle.swh_segment.specs.Making.{IsNotMade}
use Rattle.swh_keeper.specs.Own.{AreOwn}
use Rattle.swh_swhid.specs.Core.{core_text}
use Rattle.swh_swhid.specs.Front.{BreaksAt}
use Rattle.swh_swhid.specs.Qualifier.{IsSwhid, HasSwhid}
use Rattle.swh_swhid.specs.declared.swhid.Swhid.{Swhid}
use Rattle.swh_postorder.specs.Postorder.{IsFirstMissing}
use Rattle.swh_carried.specs.Words.{why_word}
use Rattle.swh_carried.specs.declared.fault.Why.{Why}
use Rattle.swh_carried.specs.declared.fault.CookFault.{CookFault}
use Rattle.swh_carried.specs.declared.fault.CookFault.TheVariants as fault
use Rattle.swh_cook.specs.Back.{IsAgain}
use Rattle.swh_cook.specs.Cook.{IsCarried, IsUncarried, IsCooked, IsBrokenOff}
use Rattle.swh_exit.specs.Seen.{Span, DepotFailed, YardFailed, SinkFailed}
use Rattle.swh_exit.specs.Answers.{TellsLine}
use Rattle.swh_exit.specs.Archives.{old_archive, new_archive}
use Rattle.swh_exit.specs.Damage.{damaged_line, IsHarmedAt}
use Rattle.swh_exit.specs.LeftAlone.{TouchesNothing}
use Rattle.swh_exit.specs.Opening.{IsArchive, IsUnusable}
use Rattle.swh_exit.specs.Own.{EndsOwn}
use Rattle.swh_program.specs.Reading.{Telling, OfHistory, OfArchive, Reads}
use Rattle.swh_exit.specs.Refusal.{refusal}
use Rattle.swh_exit.specs.Run.{IsExactly, Ends, IsPrintedUnlessFailed}
use Rattle.swh_program.specs.Yards.{Yards, yards_of}
use Rattle.swh_exit.specs.declared.answer.Ending.{Ending}
use Rattle.swh_exit.specs.declared.answer.Ending.TheVariants as ending
use Rattle.swh_exit.specs.declared.answer.Answer.{Answer}
use Rattle.swh_exit.specs.declared.answer.Answer.TheVariants.{Told, OutsideYard, Memory}

-- a head as it is printed: as it stands, and `-` where there is none
abbrev pub head_text : Option (List ℕ) → List ℕ
head_text None = 45 ∷ []
head_text (Some head) = head

-- what is printed of a name that was cooked: its core identifier, a TAB and its head
abbrev pub cook_line : Name → Option (List ℕ) → List ℕ
cook_line name head = core_text name ++ 9 ∷ (head_text head ++ 10 ∷ [])

-- what is printed of a name that is not held
abbrev pub not_held_line : Name → List ℕ
not_held_line name = refusal (codes "not held " ++ core_text name)

-- what is printed of an object that is not carried
abbrev pub uncarried_line : Name → Why → List ℕ
uncarried_line name why = refusal (codes "uncarried " ++ (core_text name ++ 32 ∷ why_word why))

-- what is printed of a word that is no SWHID
abbrev pub no_swhid_line : ℕ → List ℕ
no_swhid_line at = refusal (codes "no swhid " ++ decimal at)

-- The answer tells why a name was not cooked.
abbrev pub TellsUncooked : CookFault → Answer → Type 0
TellsUncooked (fault.NotHeld missing) answer = TellsLine (not_held_line missing) ending.Wanting answer
TellsUncooked (fault.Uncarried first why) answer = TellsLine (uncarried_line first why) ending.Wanting answer
TellsUncooked fault.WriteFault answer = answer ≡ OutsideYard
TellsUncooked fault.Memory answer = answer ≡ Memory

-- The text tells why the name is not cooked: of what is reached the first that is not held, or the first that its form cannot
-- carry.
module _ (a : Archive) (name : Name) (children_of : Name → Option (List Name)) where
  -- The text tells the first name that a walk enters and that is not held.
  pub record TellsMissing (text : List ℕ) : Type 0 where
    pub missing : Name
    pub is : IsFirstMissing children_of name missing
    pub text_is : text ≡ not_held_line missing

  -- The text tells the first that its form cannot carry, and why.
  pub record TellsUncarried (text : List ℕ) : Type 0 where
    pub first : Name
    pub why : Why
    pub is : IsUncarried a.bodies children_of name first why
    pub text_is : text ≡ uncarried_line first why

  -- The name cannot be cooked.
  abbrev pub IsRefused : Type 0
  IsRefused = ((missing : Name) × IsFirstMissing children_of name missing)
      ⊎ ((first : Name) × (why : Why) × IsUncarried a.bodies children_of name first why)

module _ (y : Yards) (a : Archive) (name : Name) (out : List ℕ) where
  -- The name was cooked, and the text tells so, with its head.
  pub record TellsCooked (text : List ℕ) : Type 0 where
    pub children_of : Name → Option (List Name)
    pub graph : IsGraphOf a.bodies children_of
    pub head : Option (List ℕ)
    pub cooked : IsCooked a.bodies children_of name out y.tells y.old y.new head
    pub text_is : text ≡ cook_line name head

  -- The text tells why the name is not cooked, and the yard is as it was.
  pub record RefusesCook (text : List ℕ) : Type 0 where
    pub children_of : Name → Option (List Name)
    pub graph : IsGraphOf a.bodies children_of
    pub tells : TellsMissing a name children_of text ⊎ TellsUncarried a name children_of text
    pub same : y.same

  -- what is told of a name
  abbrev pub TellsCook : List ℕ → Ending → Type 0
  TellsCook text ending.Done = TellsCooked text
  TellsCook text ending.Wanting = RefusesCook text
  TellsCook text _ = ⊥

  -- A front of what the name becomes was made.
  pub record BreaksOff : Type 0 where
    pub children_of : Name → Option (List Name)
    pub graph : IsGraphOf a.bodies children_of
    pub front : IsBrokenOff a.bodies children_of name out y.tells y.old y.new

  -- The yard failed behind that front.
  pub record FailsCook : Type 0 where
    pub left : BreaksOff
    pub failed : y.failed

  -- How the yard is left where the answer does not say it: where memory ran out, it is as it was, or a front was made.
  abbrev pub LeavesYard : Answer → Type 0
  LeavesYard (Told text end) = Unit {0}
  LeavesYard OutsideYard = Unit {0}
  LeavesYard Memory = y.same ⊎ BreaksOff
  LeavesYard _ = ⊥

-- What `cook` has to tell of an archive: that the name was cooked, or why not. It finds no damage.
abbrev pub cooking : Yards → Name → List ℕ → Telling
cooking y name out = record {
  tells = λ a text end. TellsCook y a name out text end;
  finds = λ a text. ⊥;
  breaks = λ a. FailsCook y a name out;
}

-- how a cook leaves the yard, by its answer, where what an archive has `Of` it says which archive
abbrev pub LeavesCook : ((Archive → Type 0) → Type 0) → Yards → Name → List ℕ → Answer → Type 0
LeavesCook Of y name out (Told text end) = Unit {0}
LeavesCook Of y name out OutsideYard = Unit {0}
LeavesCook Of y name out Memory = y.same ⊎ Of (λ a. BreaksOff y a name out)
LeavesCook Of y name out _ = y.same

-- The word is no SWHID, and is told with its place; nothing was touched.
pub record RefusesSwhid (swhid : List ℕ) (s : Span) (answer : Answer) : Type 0 where
  pub at : ℕ
  pub breaks : BreaksAt HasSwhid swhid at
  pub tells : TellsLine (no_swhid_line at) ending.Wanting answer
  pub untouched : TouchesNothing s
  pub files : s.new.depot.files ≡ s.old.depot.files

-- Memory ran out before the word was read; nothing was touched.
pub record EndsUnread (s : Span) (answer : Answer) : Type 0 where
  pub is : answer ≡ Memory
  pub untouched : TouchesNothing s
  pub files : s.new.depot.files ≡ s.old.depot.files

-- The archive in a folder was looked at for the name of the SWHID.
pub record CooksName (dir swhid out : List ℕ) (s : Span) (answer : Answer) : Type 0 where
  pub value : Swhid
  pub is : IsSwhid swhid value
  pub reads : Reads (cooking (yards_of s) value.core out) dir s answer
  pub left : LeavesCook (OfHistory s.id_of) (yards_of s) value.core out answer
  pub left_there : s.told.depot → LeavesCook (OfArchive s.id_of (old_archive dir s)) (yards_of s) value.core out answer

-- This answer came of `cook`.
abbrev pub Cooks : List ℕ → List ℕ → List ℕ → Span → Answer → Type 0
Cooks dir swhid out s answer = RefusesSwhid swhid s answer ⊎ (EndsUnread s answer ⊎ CooksName dir swhid out s answer)

module _ (id_of : Kind → List ℕ → List ℕ) (files : Files) where
  -- The files stand for a history in whose archive the name cannot be cooked.
  pub record IsUncooked (name : Name) : Type 0 where
    pub history : List Event
    pub archive : IsArchive id_of files history
    pub children_of : Name → Option (List Name)
    pub graph : IsGraphOf (replay history).bodies children_of
    pub refused : IsRefused (replay history) name children_of

  -- The word is no SWHID, or the name of it cannot be cooked.
  abbrev pub CannotCook : List ℕ → Type 0
  CannotCook swhid = (HasSwhid swhid → ⊥) ⊎ ((value : Swhid) × IsSwhid swhid value × IsUncooked value.core)

-- The name was cooked, and its line was printed, with status 0. What was made, read as an input is read, with the head that was
-- printed, is the name again.
pub record PrintsCooked (a : Archive) (name : Name) (out : List ℕ) (s : Span) (status : ℕ) : Type 0 where
  pub text : List ℕ
  pub cooked : TellsCooked (yards_of s) a name out text
  pub again : (told : s.told.yard) → IsAgain s.id_of a.bodies cooked.children_of name out (cooked.cooked.made told).made cooked.head
  pub printed : s.told.sink → s.new.sink.taken ≡ s.old.sink.taken ++ text
  pub status_is : status ≡ 0

-- The name of the SWHID was cooked so, where what an archive has `Of` it says which archive.
pub record CooksWord (Of : (Archive → Type 0) → Type 0) (swhid out : List ℕ) (s : Span) (status : ℕ) : Type 0 where
  pub value : Swhid
  pub is : IsSwhid swhid value
  pub prints : Of (λ a. PrintsCooked a value.core out s status)

-- What a run of `cook` does.
pub record DoesCook (dir swhid out : List ℕ) (s : Span) (status : ℕ) : Type 0 where
  pub ends : Ends (Cooks dir swhid out s) s status
  -- It refuses no job.
  pub not_refused : status ≢ 2
  -- 0: the name was cooked, out of the archive of the history for which the files stand, or where the depot does not tell it,
  -- of one that may happen; and what was made loads back.
  pub cooked : status ≡ 0 → CooksWord (OfHistory s.id_of) swhid out s status
  pub cooked_there : s.told.depot → status ≡ 0 → CooksWord (OfArchive s.id_of (old_archive dir s)) swhid out s status
  -- 1: the word is no SWHID, and then its place is told before the archive is opened; or of what its name reaches something
  -- is not held, or not carried.
  pub no_swhid : (at : ℕ) → BreaksAt HasSwhid swhid at → IsPrintedUnlessFailed (no_swhid_line at) 1 s status
  pub wanting : s.told.depot → IsExactly 1 (CannotCook s.id_of (old_archive dir s) swhid) status
  -- 3: the word is a SWHID, and the archive is not made, or damaged; and then the first harm is told, with its place.
  pub unusable : s.told.depot → IsExactly 3 (HasSwhid swhid × IsUnusable s.id_of (old_archive dir s)) status
  pub first_harm : (file at : ℕ) → s.told.depot → HasSwhid swhid → IsHarmedAt s.id_of (old_archive dir s) file at
      → IsPrintedUnlessFailed (damaged_line file at) 3 s status
  -- Own files are never damaged, and stay own.
  pub undamaged : s.told.depot → AreOwn s.id_of (old_archive dir s)
      → IsExactly 3 (HasSwhid swhid × IsNotMade (old_archive dir s 0).seen) status
  pub own : s.told.depot → HasSwhid swhid → EndsOwn s.id_of (old_archive dir s) (new_archive dir s) status
  pub own_still : s.told.depot → AreOwn s.id_of (old_archive dir s) → AreOwn s.id_of (new_archive dir s)
  -- A name of which all that is reached is held and carried is cooked, and loads back, unless memory runs out, where no part
  -- of the outside failed.
  pub complete : (h : List Event) (value : Swhid) (children_of : Name → Option (List Name)) → s.told.depot → IsSwhid swhid value
      → IsArchive s.id_of (old_archive dir s) h → IsGraphOf (replay h).bodies children_of
      → IsCarried (replay h).bodies children_of value.core
      → (DepotFailed s → ⊥) → (YardFailed s → ⊥) → (SinkFailed s → ⊥) → (status ≡ 5) ⊎ PrintsCooked (replay h) value.core out s status
