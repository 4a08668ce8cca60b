-- What a command does, from the answer that came of it and was told.
use Rattle.std.proofs.Common.{◌≡◌, ◌<◌, ◌≤◌, refl, ℕ, List, subst, arith, inl, inr}
use Rattle.swh_base.specs.declared.kind.Kind.{Kind}
use Rattle.swh_words.specs.Words.{Wanted, ToInit, ToLoad, ToAsk, ToCheck, ToCook, ToIdentify, ToIdentifyFolder}
use Rattle.swh_exit.specs.Seen.{Sink, Seen, Told, Same, Span}
use Rattle.swh_exit.specs.Answers.{last_line_of}
use Rattle.swh_exit.specs.Archives.{SameElsewhere, old_archive, new_archive}
use Rattle.swh_program.specs.AskCommand.{asking}
use Rattle.swh_program.specs.CheckCommand.{checking}
use Rattle.swh_program.specs.Commands.{Does, Comes}
use Rattle.swh_program.specs.CookCommand.{Cooks, cooking}
use Rattle.swh_program.specs.Complete.{jobs_of_meant, all_made, full_lines}
use Rattle.swh_exit.specs.Damage.{damaged_line}
use Rattle.swh_identify.specs.IdentifyCommand.{Identifies, DoesIdentify, HasNoBody, IsIdentifyAnswer, name_of_bytes, name_line}
use Rattle.swh_identify.specs.IdentifyFolderCommand.{IdentifiesFolder, DoesIdentifyFolder, HasNoDirectory, IsFolderAnswer, directory_line}
use Rattle.swh_program.specs.InitCommand.{Inits, DoesInit, IsInitAnswer}
use Rattle.swh_program.specs.Jobs.{HasJobs, HasNoJobs, bad_job_line}
use Rattle.swh_exit.specs.LeftAlone.{TouchesNothing, IsOnDepot, IsOnDesk, IsBeforeInputs, IsRefusedInOrder}
use Rattle.swh_program.specs.LoadCommand.{inputs_of, givens_of, Loads, DoesLoad}
use Rattle.swh_exit.specs.Opening.{IsUnusable}
use Rattle.swh_exit.specs.Own.{KeepsOwn}
use Rattle.swh_program.specs.Reading.{Telling, Reads}
use Rattle.swh_exit.specs.Run.{IsTold}
use Rattle.swh_program.specs.Run.{NamesFailed}
use Rattle.swh_program.specs.Yards.{yards_of}
use Rattle.swh_segment.specs.Making.{IsMade}
use Rattle.swh_exit.specs.declared.answer.Answer.{Answer}
use Rattle.swh_exit.specs.declared.answer.Answer.TheVariants.{Made, NoJobFile, BadJob, NotMade, Damaged, OutsideDisk, OutsideSource, OutsideFolder, OutsideClock, Memory}
use Rattle.swh_program.proofs.Asked.{ask_settles, does_ask}
use Rattle.swh_program.proofs.Checked.{check_settles, does_check}
use Rattle.swh_program.proofs.Cooked.{does_cook, cook_names}
use Rattle.swh_program.proofs.Damages.{load_harm}
use Rattle.swh_program.proofs.Completes.{told_with, told_unless, init_done}
use Rattle.swh_program.proofs.Ends.{safe}
use Rattle.swh_program.proofs.Exacts.{init_statuses, init_archive}
use Rattle.swh_identify.proofs.FolderNaming.{folder_statuses, folder_disk, folder_exactly, folder_named}
use Rattle.swh_program.proofs.LoadAnswers.{load_no_folder, load_no_yard}
use Rattle.swh_program.proofs.LoadFiles.{load_files, refused_files}
use Rattle.swh_program.proofs.LoadStatuses.{load_job, load_bad, load_archive, load_lines, load_input}
use Rattle.swh_program.proofs.LoadsDone.{load_exact, meant_all_made, load_done}
use Rattle.swh_identify.proofs.Naming.{identify_statuses, identify_exactly, named}
use Rattle.swh_program.proofs.Owned.{exactly_not_made_with, ends_own}
use Rattle.swh_exit.proofs.Owned.{keeps_same}
use Rattle.swh_program.proofs.Orders.{job_first, archive_first, refused_job, refused_archive}
use Rattle.swh_program.proofs.ReadOnly.{read_names}
use Rattle.swh_program.proofs.Statuses.{run_comes, uncut, run_exactly, run_never, init_disk, identify_disk}

-- what comes of the words comes of the command that they are
pub came : (a b : Wanted) (s : Span) (answer : Answer) → a ≡ b → Comes a s answer → Comes b s answer
came a b s answer e is = subst (λ (w : Wanted). Comes w s answer) e is

-- where memory ran out before a command was known, all is left alone
module _ (id_of : Kind → List ℕ → List ℕ) (told : Told) (seen : Seen) (same : Same) (depot : same.depot) (desk : same.desk) (origins : same.origins) (yard : same.yard) (clock : same.clock) where
  abbrev nothing : Span
  nothing = record { id_of = id_of; told = told; old = seen; new = seen; same = same }

  no_disk : Memory ≡ OutsideDisk → ⊥
  no_disk e = cc

  no_source : Memory ≡ OutsideSource → ⊥
  no_source e = cc

  no_folder : Memory ≡ OutsideFolder → ⊥
  no_folder e = cc

  no_clock : Memory ≡ OutsideClock → ⊥
  no_clock e = cc

  same_elsewhere : (dir : List ℕ) → SameElsewhere dir seen.depot.files seen.depot.files
  same_elsewhere dir = record { elsewhere = λ d n apart. refl }

  nothing_kept : (dir : List ℕ) → KeepsOwn id_of (old_archive dir nothing) (old_archive dir nothing) Memory
  nothing_kept dir = keeps_same id_of (old_archive dir nothing) (old_archive dir nothing) Memory refl tt (λ opened. opened)

  on_depot : IsOnDepot nothing
  on_depot = record { desk = desk; origins = origins; clock = clock }

  nothing_read : (t : Telling) (dir : List ℕ) → Reads t dir nothing Memory
  nothing_read t dir = record {
    one_of = tt;
    ends = λ k. inl refl;
    elsewhere = λ k. same_elsewhere dir;
    own = λ k. nothing_kept dir;
    cause = λ e. absurd (no_disk e);
    left = on_depot;
  }

  pub nothing_came : (wanted : Wanted) → Comes wanted nothing Memory
  nothing_came (ToInit dir) = record {
    one_of = tt;
    ends = λ t. refl;
    elsewhere = λ t. same_elsewhere dir;
    crash = λ t. safe id_of (old_archive dir nothing) (old_archive dir nothing) Memory refl;
    spared = λ t made. refl;
    own = λ t. nothing_kept dir;
    cause = λ e. absurd (no_disk e);
    left = on_depot;
  }
  nothing_came (ToLoad dir jobs) = record {
    ends = inr (record { one_of = tt; refused = λ t. tt; same = λ t. refl });
    elsewhere = λ t. same_elsewhere dir;
    own = λ t. nothing_kept dir;
    disk_cause = λ e. absurd (no_disk e);
    source_cause = λ e. absurd (no_source e);
    clock_cause = λ e. absurd (no_clock e);
    left = tt;
  }
  nothing_came (ToAsk dir paths) = nothing_read (asking paths) dir
  nothing_came (ToCheck dir) = nothing_read (checking id_of) dir
  nothing_came (ToCook dir swhid out) = inr (inl (record {
    is = refl;
    untouched = record { depot = depot; desk = desk; origins = origins; yard = yard; clock = clock };
    files = refl;
  }))
  nothing_came (ToIdentify kind path) = record {
    one_of = tt;
    ends = λ t. tt;
    cause = λ e. absurd (no_source e);
    left = record { depot = depot; origins = origins; clock = clock };
  }
  nothing_came (ToIdentifyFolder path) = record {
    one_of = tt;
    ends = λ t. tt;
    cause = λ e. absurd (no_folder e);
    left = record { depot = depot; origins = origins; clock = clock };
  }

-- the same but for the sink
abbrev pub with_sink : Span → Sink → Type 0 → Span
with_sink s sink same_sink = record {
  id_of = s.id_of;
  told = s.told;
  old = s.old;
  new = record { depot = s.new.depot; desk = s.new.desk; origins = s.new.origins; yard = s.new.yard; sink = sink; clock = s.new.clock; doors = s.new.doors };
  same = record {
    namer = s.same.namer;
    depot = s.same.depot;
    desk = s.same.desk;
    origins = s.same.origins;
    yard = s.same.yard;
    sink = same_sink;
    clock = s.same.clock;
    doors = s.same.doors;
    gate = s.same.gate;
  };
}

module _ (s : Span) (sink : Sink) (same_sink : Type 0) where
  on_depot_still : IsOnDepot s → IsOnDepot (with_sink s sink same_sink)
  on_depot_still is = record { desk = is.desk; origins = is.origins; clock = is.clock }

  on_desk_still : IsOnDesk s → IsOnDesk (with_sink s sink same_sink)
  on_desk_still is = record { depot = is.depot; origins = is.origins; clock = is.clock }

  untouched_still : TouchesNothing s → TouchesNothing (with_sink s sink same_sink)
  untouched_still is = record { depot = is.depot; desk = is.desk; origins = is.origins; yard = is.yard; clock = is.clock }

  before_still : IsBeforeInputs s → IsBeforeInputs (with_sink s sink same_sink)
  before_still is = record { origins = is.origins; clock = is.clock }

  refused_still : (answer : Answer) → IsRefusedInOrder s answer → IsRefusedInOrder (with_sink s sink same_sink) answer
  refused_still NoJobFile left = on_desk_still left
  refused_still (BadJob text) left = on_desk_still left
  refused_still OutsideSource left = on_desk_still left
  refused_still NotMade left = before_still left
  refused_still (Damaged text) left = before_still left
  refused_still OutsideDisk left = before_still left
  refused_still _ left = tt

read_still : (t : Telling) (dir : List ℕ) (s : Span) (sink : Sink) (same_sink : Type 0) (answer : Answer) → Reads t dir s answer → Reads t dir (with_sink s sink same_sink) answer
read_still t dir s sink same_sink answer r = record {
  one_of = r.one_of;
  ends = r.ends;
  elsewhere = r.elsewhere;
  own = r.own;
  cause = r.cause;
  left = on_depot_still s sink same_sink r.left;
}

cook_still : (dir swhid out : List ℕ) (s : Span) (sink : Sink) (same_sink : Type 0) (answer : Answer) → Cooks dir swhid out s answer → Cooks dir swhid out (with_sink s sink same_sink) answer
cook_still dir swhid out s sink same_sink answer (inl r) =
    inl (record { at = r.at; breaks = r.breaks; tells = r.tells; untouched = untouched_still s sink same_sink r.untouched; files = r.files })
cook_still dir swhid out s sink same_sink answer (inr (inl u)) =
    inr (inl (record { is = u.is; untouched = untouched_still s sink same_sink u.untouched; files = u.files }))
cook_still dir swhid out s sink same_sink answer (inr (inr c)) = inr (inr (record {
  value = c.value;
  is = c.is;
  reads = read_still (cooking (yards_of s) c.value.core out) dir s sink same_sink answer c.reads;
  left = c.left;
  left_there = c.left_there;
}))

-- an answer says nothing of the sink that it is told on
pub comes_still : (wanted : Wanted) (s : Span) (sink : Sink) (same_sink : Type 0) (answer : Answer) → Comes wanted s answer → Comes wanted (with_sink s sink same_sink) answer
comes_still (ToInit dir) s sink same_sink answer i = record {
  one_of = i.one_of;
  ends = i.ends;
  elsewhere = i.elsewhere;
  crash = i.crash;
  spared = i.spared;
  own = i.own;
  cause = i.cause;
  left = on_depot_still s sink same_sink i.left;
}
comes_still (ToLoad dir jobs) s sink same_sink answer l = record {
  ends = l.ends;
  elsewhere = l.elsewhere;
  own = l.own;
  disk_cause = l.disk_cause;
  source_cause = l.source_cause;
  clock_cause = l.clock_cause;
  left = refused_still s sink same_sink answer l.left;
}
comes_still (ToAsk dir paths) s sink same_sink answer r = read_still (asking paths) dir s sink same_sink answer r
comes_still (ToCheck dir) s sink same_sink answer r = read_still (checking s.id_of) dir s sink same_sink answer r
comes_still (ToCook dir swhid out) s sink same_sink answer c = cook_still dir swhid out s sink same_sink answer c
comes_still (ToIdentify kind path) s sink same_sink answer i = record {
  one_of = i.one_of;
  ends = i.ends;
  cause = i.cause;
  left = on_desk_still s sink same_sink i.left;
}
comes_still (ToIdentifyFolder path) s sink same_sink answer i = record {
  one_of = i.one_of;
  ends = i.ends;
  cause = i.cause;
  left = on_desk_still s sink same_sink i.left;
}

does_init : (dir : List ℕ) (s : Span) (answer : Answer) (status : ℕ) → IsTold answer s status → Inits dir s answer → DoesInit dir s status
does_init dir s answer status told i = record {
  ends = record { answer = answer; is_one = i; told = told };
  not_wanting = run_never answer s status 1 3 (init_statuses answer i.one_of) 1 (omega arith) (omega arith) (omega arith) told;
  not_refused = run_never answer s status 1 3 (init_statuses answer i.one_of) 2 (omega arith) (omega arith) (omega arith) told;
  made_before = λ t. run_exactly answer s status 3 (IsMade (old_archive dir s 0).seen) (omega arith) (init_archive (old_archive dir s) (new_archive dir s) answer (i.ends t)) told;
  spared = i.spared;
  own = λ t. ends_own s.id_of (old_archive dir s) (new_archive dir s) answer s status (i.own t) told;
  complete = λ t not_made no_disk no_sink.
      told_with (last_line_of Made) 0 answer s status (init_done (old_archive dir s) (new_archive dir s) answer (i.ends t) not_made (λ failed. no_disk (i.cause failed))) no_sink told;
}

does_load : (dir path : List ℕ) (s : Span) (answer : Answer) (status : ℕ) → IsTold answer s status → Loads dir path s answer → DoesLoad dir path s status
does_load dir path s answer status told l =
    let g = givens_of s in
    let desk_at = s.old.desk.file_at in
    let old = old_archive dir s in
    let new = new_archive dir s in
    record {
      ends = record { answer = answer; is_one = l; told = told };
      no_job = λ inputs. run_exactly answer s status 2 (HasNoJobs desk_at path) (omega arith) (load_job g desk_at path old new inputs answer l.ends) told;
      bad_line = λ line why inputs bad. told_unless (bad_job_line line why) 2 answer s status (load_bad g desk_at path old new inputs line why bad answer l.ends) told;
      unusable = λ inputs disks. run_exactly answer s status 3 (HasJobs desk_at path × IsUnusable s.id_of old) (omega arith) (load_archive g desk_at path old new inputs disks answer l.ends) told;
      first_harm = λ file at inputs disks jobs harm.
          told_unless (damaged_line file at) 3 answer s status (load_harm g old new file at harm disks desk_at path inputs jobs answer l.ends) told;
      undamaged = λ inputs disks own.
          exactly_not_made_with s.id_of (HasJobs desk_at path) old status own
          (run_exactly answer s status 3 (HasJobs desk_at path × IsUnusable s.id_of old) (omega arith) (load_archive g desk_at path old new inputs disks answer l.ends) told);
      own = λ disks. ends_own s.id_of old new answer s status (l.own disks) told;
      job_first = λ inputs cause four. job_first answer s status (refused_job g desk_at path old new inputs cause answer l.ends) l.source_cause told four;
      archive_first = λ inputs disks cause four. archive_first answer s status (refused_archive g desk_at path old new inputs disks cause answer l.ends) l.disk_cause l.source_cause told four;
      files = λ disks. load_files dir path s answer disks l.ends;
      refused = λ disks more less. refused_files dir path s answer disks l.ends (subst (λ (k : ℕ). (2 ≤ k) × (k < 4)) (uncut answer s status (λ four. omega (arith, four, less)) told).status_is (more, less));
      by_lines = λ less. load_lines dir path s answer status l.ends (uncut answer s status (λ four. omega (arith, four, less)) told) less;
      bad_input = λ jobs job before disks inputs archive there among bad.
          run_comes answer s status 1 (load_input g desk_at path old new inputs disks before archive jobs job there among bad answer l.ends) told;
      exact_lines = λ before jobs objects disks inputs archive there has one room no_disk no_desk no_clock. record {
        answer = answer;
        is_one = load_exact g refl desk_at inputs disks path before jobs objects old new archive there has one room answer l.ends
            (λ failed. no_disk (l.disk_cause failed)) (λ failed. no_desk (l.source_cause failed)) (λ failed. no_clock (l.clock_cause failed));
        told = told;
      };
      complete = λ before meant disks inputs archive there are one room no_disk no_desk quiet no_clock no_sink.
          let exact = load_exact g refl desk_at inputs disks path before (jobs_of_meant meant) (all_made meant) old new archive there (meant_all_made s.id_of (inputs_of s) meant are) one room answer l.ends
          (λ failed. no_disk (l.disk_cause failed)) (λ failed. no_desk (l.source_cause failed)) (λ failed. no_clock (l.clock_cause failed)) in
          told_with (full_lines before meant) 0 answer s status (load_done s.id_of (inputs_of s) before meant one are quiet answer exact) no_sink told;
    }

does_identify : (kind : Kind) (path : List ℕ) (s : Span) (answer : Answer) (status : ℕ) → IsTold answer s status → Identifies kind path s answer → DoesIdentify kind path s status
does_identify kind path s answer status told i =
    let found = s.old.desk.file_at path in
    record {
      ends = record { answer = answer; is_one = i; told = told };
      not_refused = run_never answer s status 2 4 (identify_statuses s.id_of kind answer i.one_of) 2 (omega arith) (omega arith) (omega arith) told;
      no_archive = run_never answer s status 2 4 (identify_statuses s.id_of kind answer i.one_of) 3 (omega arith) (omega arith) (omega arith) told;
      no_body = λ t. run_exactly answer s status 1 (HasNoBody kind found) (omega arith) (identify_exactly s.id_of kind found answer (i.ends t)) told;
      complete = λ bytes t there body no_source no_sink.
          told_with (name_line (name_of_bytes s.id_of kind bytes)) 0 answer s status
          (named s.id_of kind bytes body found answer there (λ failed. no_source (i.cause failed)) (i.ends t)) no_sink told;
    }

does_identify_folder : (path : List ℕ) (s : Span) (answer : Answer) (status : ℕ) → IsTold answer s status → IdentifiesFolder path s answer → DoesIdentifyFolder path s status
does_identify_folder path s answer status told i =
    let found = s.old.desk.folder_at path in
    record {
      ends = record { answer = answer; is_one = i; told = told };
      not_refused = run_never answer s status 2 4 (folder_statuses s.id_of answer i.one_of) 2 (omega arith) (omega arith) (omega arith) told;
      no_archive = run_never answer s status 2 4 (folder_statuses s.id_of answer i.one_of) 3 (omega arith) (omega arith) (omega arith) told;
      no_directory = λ t. run_exactly answer s status 1 (HasNoDirectory s.id_of found) (omega arith) (folder_exactly s.id_of found answer (i.ends t)) told;
      complete = λ tree root t there is no_folder no_sink.
          told_with (directory_line root) 0 answer s status
          (folder_named s.id_of tree root is found answer there (λ failed. no_folder (i.cause failed)) (i.ends t)) no_sink told;
    }

pub does : (wanted : Wanted) (s : Span) (answer : Answer) (status : ℕ) → IsTold answer s status → Comes wanted s answer → Does wanted s status
does (ToInit dir) s answer status told came = does_init dir s answer status told came
does (ToLoad dir jobs) s answer status told came = does_load dir jobs s answer status told came
does (ToAsk dir paths) s answer status told came = does_ask dir paths s answer status told came
does (ToCheck dir) s answer status told came = does_check dir s answer status told came
does (ToCook dir swhid out) s answer status told came = does_cook dir swhid out s answer status told came
does (ToIdentify kind path) s answer status told came = does_identify kind path s answer status told came
does (ToIdentifyFolder path) s answer status told came = does_identify_folder path s answer status told came

-- which part the answer of a command names
pub comes_names : (wanted : Wanted) (s : Span) (answer : Answer) → Comes wanted s answer → NamesFailed s answer
comes_names (ToInit dir) s answer i = record {
  disk = λ tells. i.cause (init_disk answer i.one_of tells);
  source = λ e. absurd (subst IsInitAnswer e i.one_of);
  folder = λ e. absurd (subst IsInitAnswer e i.one_of);
  yard = λ e. absurd (subst IsInitAnswer e i.one_of);
  clock = λ e. absurd (subst IsInitAnswer e i.one_of);
}
comes_names (ToLoad dir jobs) s answer l = record {
  disk = l.disk_cause;
  source = l.source_cause;
  folder = λ e. absurd (load_no_folder (givens_of s) s.old.desk.file_at jobs (old_archive dir s) (new_archive dir s) answer l.ends e);
  yard = λ e. absurd (load_no_yard (givens_of s) s.old.desk.file_at jobs (old_archive dir s) (new_archive dir s) answer l.ends e);
  clock = l.clock_cause;
}
comes_names (ToAsk dir paths) s answer r = read_names (asking paths) (ask_settles paths) dir s (λ a broke. absurd broke) answer r
comes_names (ToCheck dir) s answer r = read_names (checking s.id_of) (check_settles s.id_of) dir s (λ a broke. absurd broke) answer r
comes_names (ToCook dir swhid out) s answer c = cook_names dir swhid out s answer c
comes_names (ToIdentify kind path) s answer i = record {
  disk = λ tells. absurd (subst (IsIdentifyAnswer s.id_of kind) (identify_disk s.id_of kind answer i.one_of tells) i.one_of);
  source = i.cause;
  folder = λ e. absurd (subst (IsIdentifyAnswer s.id_of kind) e i.one_of);
  yard = λ e. absurd (subst (IsIdentifyAnswer s.id_of kind) e i.one_of);
  clock = λ e. absurd (subst (IsIdentifyAnswer s.id_of kind) e i.one_of);
}
comes_names (ToIdentifyFolder path) s answer i = record {
  disk = λ tells. absurd (folder_disk s.id_of answer i.one_of tells);
  source = λ e. absurd (subst (IsFolderAnswer s.id_of) e i.one_of);
  folder = i.cause;
  yard = λ e. absurd (subst (IsFolderAnswer s.id_of) e i.one_of);
  clock = λ e. absurd (subst (IsFolderAnswer s.id_of) e i.one_of);
}
