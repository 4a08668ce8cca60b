-- What a command does that only reads an archive, from the answer that came of it.
use Rattle.std.proofs.Common.{◌≡◌, ◌≢◌, ◌⊎◌, inl, inr, ℕ, ◌<◌, ◌≤◌, List, ◌++◌, [], refl, sym, ap, ◌∙◌, subst, arith}
use Rattle.std.proofs.lemmas.List.{append-nil}
use Rattle.swh_base.specs.declared.kind.Kind.{Kind}
use Rattle.swh_outside.specs.Files.{Files}
use Rattle.swh_model.specs.declared.event.Event.{Event}
use Rattle.swh_model.specs.Archive.{Archive}
use Rattle.swh_model.specs.Step.{IsHistory, replay}
use Rattle.swh_exit.specs.Seen.{Span, YardFailed, SinkFailed}
use Rattle.swh_exit.specs.Answers.{TellsDisk, status_of, status_for, printed_by, last_line_for, IsPrinted}
use Rattle.swh_exit.specs.Archives.{old_archive, new_archive}
use Rattle.swh_exit.specs.Damage.{damaged_line, IsHarmedAt, IsUndamaged}
use Rattle.swh_exit.specs.Opening.{IsArchive, IsOnlyOpened, IsUnusable, IsOpenRefusal, OpenEnds}
use Rattle.swh_program.specs.Reading.{Telling, IsOfArchive, IsReadAnswer, ReadEnds, Reads, Prints, DoesRead}
use Rattle.swh_exit.specs.Run.{IsExactly, IsTold}
use Rattle.swh_program.specs.Run.{NamesFailed}
use Rattle.swh_exit.specs.declared.answer.Ending.{Ending}
use Rattle.swh_exit.specs.declared.answer.Ending.TheVariants as ending
use Rattle.swh_exit.specs.declared.answer.Answer.{Answer}
use Rattle.swh_exit.specs.declared.answer.Answer.TheVariants.{Told, NotMade, Damaged, OutsideDisk, OutsideYard, Memory}
use Rattle.swh_program.proofs.Archived.{usable, one_archive, harmed, no_archive}
use Rattle.swh_program.proofs.Completes.{told_unless}
use Rattle.swh_program.proofs.Damages.{IsLineOfHarm, refusal_harm}
use Rattle.swh_exit.proofs.Statuses.{stopped}
use Rattle.swh_program.proofs.Exacts.{refusal_exactly}
use Rattle.swh_program.proofs.Owned.{exactly_not_made, ends_own}
use Rattle.swh_program.proofs.Statuses.{run_exactly, run_never}

-- A run that ends so ends with 0 or 1, and prints no line behind what it tells.
abbrev pub IsSettled : Ending → Type 0
IsSettled end = (end ≡ ending.Done) ⊎ (end ≡ ending.Wanting)

settled_below : (end : Ending) → IsSettled end → status_for end < 2
settled_below end (inl done) = let e = ap status_for done in omega (arith, e)
settled_below end (inr wanting) = let e = ap status_for wanting in omega (arith, e)

settled_line : (end : Ending) → IsSettled end → last_line_for end ≡ []
settled_line end (inl done) = ap last_line_for done
settled_line end (inr wanting) = ap last_line_for wanting

settled_inside : (end : Ending) → IsSettled end → end ≡ ending.OutsideDisk → ⊥
settled_inside end (inl done) disk = let e : ending.Done ≡ ending.OutsideDisk = sym done ∙ disk in cc
settled_inside end (inr wanting) disk = let e : ending.Wanting ≡ ending.OutsideDisk = sym wanting ∙ disk in cc

module _ (id_of : Kind → List ℕ → List ℕ) (t : Telling) where
  -- an opening that is refused is one of the answers
  pub one_refused : (answer : Answer) → IsOpenRefusal answer → IsReadAnswer id_of t answer
  one_refused (Told text end) is = absurd is
  one_refused (Damaged text) is = inl is
  one_refused OutsideYard is = absurd is
  one_refused _ is = is

  -- and so is what is told of a history
  pub one_told : (history : List Event) → IsHistory id_of history → (answer : Answer) → IsOfArchive t (replay history) answer → IsReadAnswer id_of t answer
  one_told history happens (Told text end) is = record { history = history; happens = happens; is = is }
  one_told history happens (Damaged text) is = inr (record { history = history; happens = happens; is = is })
  one_told history happens OutsideDisk is = tt
  one_told history happens OutsideYard is = record { history = history; happens = happens; is = is }
  one_told history happens Memory is = tt
  one_told history happens _ is = absurd is

  module _ (old new : Files) where
    -- an opening that is refused ends the command
    pub refused_ends : (answer : Answer) → OpenEnds id_of old new answer → ReadEnds id_of t old new answer
    refused_ends (Told text end) ends = absurd ends
    refused_ends OutsideYard ends = absurd ends
    refused_ends _ ends = ends

    -- the archive is told of, or a disk failed, or memory ran out
    pub told_ends : (history : List Event) → IsArchive id_of old history → IsOnlyOpened old new → (answer : Answer) → IsOfArchive t (replay history) answer → IsUndamaged answer → ReadEnds id_of t old new answer
    told_ends history archive opened (Told text end) is whole = record { history = history; archive = archive; told = is; opened = opened }
    told_ends history archive opened (Damaged text) is whole = absurd whole
    told_ends history archive opened OutsideDisk is whole = inl (inr opened)
    told_ends history archive opened OutsideYard is whole = record { history = history; archive = archive; broke = is; opened = opened }
    told_ends history archive opened Memory is whole = inr opened
    told_ends history archive opened _ is whole = absurd is

-- A command that tells of an archive only where it ends with 0 or 1.
abbrev pub Settles : Telling → Type 0
Settles t = (a : Archive) (text : List ℕ) (end : Ending) → t.tells a text end → IsSettled end

-- What the answer tells of an archive.
pub record Says (t : Telling) (a : Archive) (answer : Answer) : Type 0 where
  pub text : List ℕ
  pub end : Ending
  pub told : t.tells a text end
  pub is : answer ≡ Told text end

module _ (id_of : Kind → List ℕ → List ℕ) (t : Telling) (settles : Settles t) where
  -- which statuses the command has
  pub read_statuses : (answer : Answer) → IsReadAnswer id_of t answer → (status_of answer < 2) ⊎ (3 ≤ status_of answer)
  read_statuses (Told text end) is = inl (settled_below end (settles _ text end is.is))
  read_statuses NotMade is = inr (omega arith)
  read_statuses (Damaged text) is = inr (omega arith)
  read_statuses OutsideDisk is = inr (omega arith)
  read_statuses OutsideYard is = inr (omega arith)
  read_statuses Memory is = inr (omega arith)
  read_statuses _ is = absurd is

  -- it names a disk alone
  pub read_disk : (answer : Answer) → IsReadAnswer id_of t answer → TellsDisk answer → answer ≡ OutsideDisk
  read_disk (Told text end) is tells = absurd (settled_inside end (settles _ text end is.is) tells)
  read_disk _ is tells = tells

  module _ (old new : Files) where
    -- 3
    pub read_archive : (answer : Answer) → ReadEnds id_of t old new answer → IsExactly 3 (IsUnusable id_of old) (status_of answer)
    read_archive (Told text end) ends = record {
      only = λ e. let less = settled_below end (settles _ text end ends.told) in absurd (omega (arith, e, less));
      there = λ cause. absurd (usable id_of old ends.history ends.archive cause);
    }
    read_archive NotMade ends = refusal_exactly id_of old new NotMade tt ends
    read_archive (Damaged text) ends = refusal_exactly id_of old new (Damaged text) (ends.0.file, ends.0.at, ends.0.text_is) ends
    read_archive OutsideDisk ends = refusal_exactly id_of old new OutsideDisk tt ends
    read_archive OutsideYard ends = stopped 3 4 (IsUnusable id_of old) (λ e. omega (arith, e)) (inr (inl refl))
    read_archive Memory ends = refusal_exactly id_of old new Memory tt ends
    read_archive _ ends = absurd ends

    -- the line of a first harm
    pub read_harm : (file at : ℕ) (harm : IsHarmedAt id_of old file at) (answer : Answer) → ReadEnds id_of t old new answer → IsLineOfHarm id_of old file at harm answer
    read_harm file at harm (Told text end) ends = absurd (usable id_of old ends.history ends.archive (inr (no_archive id_of old file at harm)))
    read_harm file at harm NotMade ends = refusal_harm id_of old file at harm new NotMade ends
    read_harm file at harm (Damaged text) ends = refusal_harm id_of old file at harm new (Damaged text) ends
    read_harm file at harm OutsideDisk ends = inl refl
    read_harm file at harm OutsideYard ends = inl refl
    read_harm file at harm Memory ends = inr (inl refl)
    read_harm file at harm _ ends = absurd ends

    -- where the files stand for a history, and the yard did not fail: a disk failed, or memory ran out, or the answer tells
    -- of its replay
    module _ (h : List Event) (archive : IsArchive id_of old h) (unbroken : (a : Archive) → t.breaks a → ⊥) where
      pub read_done : (answer : Answer) → ReadEnds id_of t old new answer → (answer ≡ OutsideDisk) ⊎ (answer ≡ Memory) ⊎ Says t (replay h) answer
      read_done (Told text end) ends =
          let same = one_archive id_of old ends.history h ends.archive archive in
          inr (inr (record { text = text; end = end; told = subst (λ (g : List Event). t.tells (replay g) text end) same ends.told; is = refl }))
      read_done NotMade ends = absurd (usable id_of old h archive (inl ends.0))
      read_done (Damaged text) ends = absurd (usable id_of old h archive (inr (harmed id_of old text ends.0)))
      read_done OutsideDisk ends = inl refl
      read_done OutsideYard ends = absurd (unbroken (replay ends.history) ends.broke)
      read_done Memory ends = inr (inl refl)
      read_done _ ends = absurd ends

module _ (t : Telling) (settles : Settles t) (s : Span) (answer : Answer) (status : ℕ) where
  -- what the answer says was printed
  said : (a : Archive) (says : Says t a answer) → IsPrinted answer s.told.sink s.old.sink.taken s.new.sink.taken status → Prints t a s status
  said a says printed =
      let no_line = settled_line says.end (settles a says.text says.end says.told) in
      let whole : printed_by answer ≡ says.text = ap printed_by says.is ∙ ap (λ (l : List ℕ). says.text ++ l) no_line ∙ append-nil says.text in
      record {
        text = says.text;
        end = says.end;
        told = says.told;
        printed = λ k. printed.printed k ∙ ap (λ (l : List ℕ). s.old.sink.taken ++ l) whole;
        status_is = printed.status_is ∙ ap status_of says.is;
      }

  said_unless : (a : Archive) → answer ≢ OutsideDisk → (answer ≡ OutsideDisk) ⊎ (answer ≡ Memory) ⊎ Says t a answer
      → IsPrinted answer s.told.sink s.old.sink.taken s.new.sink.taken status → (status ≡ 5) ⊎ Prints t a s status
  said_unless a no_disk (inl disk) printed = absurd (no_disk disk)
  said_unless a no_disk (inr (inl memory)) printed = inl (printed.status_is ∙ ap status_of memory)
  said_unless a no_disk (inr (inr says)) printed = inr (said a says printed)

  pub prints : (a : Archive) → answer ≢ OutsideDisk → (answer ≡ OutsideDisk) ⊎ (answer ≡ Memory) ⊎ Says t a answer
      → (SinkFailed s → ⊥) → IsTold answer s status → (status ≡ 5) ⊎ Prints t a s status
  prints a no_disk done no_sink (inl printed) = said_unless a no_disk done printed
  prints a no_disk done no_sink (inr cut) = absurd (no_sink cut.rose)

  pub does_read : (dir : List ℕ) → IsTold answer s status → Reads t dir s answer → DoesRead t dir s status
  does_read dir told r =
      let old = old_archive dir s in
      let new = new_archive dir s in
      record {
        ends = record { answer = answer; is_one = r; told = told };
        not_refused = run_never answer s status 2 3 (read_statuses s.id_of t settles answer r.one_of) 2 (omega arith) (omega arith) (omega arith) told;
        unusable = λ k. run_exactly answer s status 3 (IsUnusable s.id_of old) (omega arith) (read_archive s.id_of t settles old new answer (r.ends k)) told;
        first_harm = λ file at k harm. told_unless (damaged_line file at) 3 answer s status (read_harm s.id_of t settles old new file at harm answer (r.ends k)) told;
        undamaged = λ k own.
            exactly_not_made s.id_of old status own (run_exactly answer s status 3 (IsUnusable s.id_of old) (omega arith) (read_archive s.id_of t settles old new answer (r.ends k)) told);
        own = λ k. ends_own s.id_of old new answer s status (r.own k) told;
        complete = λ h k archive no_disk unbroken no_sink.
            prints (replay h) (λ failed. no_disk (r.cause failed)) (read_done s.id_of t settles old new h archive unbroken answer (r.ends k)) no_sink told;
      }

-- which part the answer names
pub read_names : (t : Telling) → Settles t → (dir : List ℕ) (s : Span) → ((a : Archive) → t.breaks a → YardFailed s) → (answer : Answer) → Reads t dir s answer → NamesFailed s answer
read_names t settles dir s broke answer r = record {
  disk = λ tells. r.cause (read_disk s.id_of t settles answer r.one_of tells);
  source = λ e. absurd (subst (IsReadAnswer s.id_of t) e r.one_of);
  folder = λ e. absurd (subst (IsReadAnswer s.id_of t) e r.one_of);
  yard = λ e. let is = subst (IsReadAnswer s.id_of t) e r.one_of in broke (replay is.history) is.is;
  clock = λ e. absurd (subst (IsReadAnswer s.id_of t) e r.one_of);
}
