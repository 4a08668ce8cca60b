-- A run of `load` against which nothing stands tells each job's line as the input has it, or memory ran out.
use Rattle.std.proofs.Common.{◌≡◌, inl, inr, ⊎_elim, ℕ, ◌*◌, Option, Some, List, [], ◌∷◌, ◌++◌, length, map, Contains, refl, sym, ap, ◌∙◌, subst}
use Rattle.std.specs.List.{AllByRecursion}
use Rattle.std.proofs.lemmas.List.{append-nil}
use Rattle.swh_base.specs.declared.kind.Kind.{Kind}
use Rattle.swh_base.specs.declared.name.Name.{Name}
use Rattle.swh_outside.specs.Files.{Files}
use Rattle.std.proofs.lemmas.List.{length-map}
use Rattle.swh_dedup.proofs.Elements.{from_map}
use Rattle.swh_jobs.specs.Job.{Job, IsJob}
use Rattle.swh_jobs.specs.JobFile.{AreDistinct, origins}
use Rattle.swh_model.specs.declared.event.Event.{Event}
use Rattle.swh_model.specs.Archive.{Bodies}
use Rattle.swh_model.specs.Meaning.{Made as MadeObject, StreamMeaning}
use Rattle.swh_model.specs.Step.{IsHistory, replay}
use Rattle.swh_fastload.specs.Input.{IsSameMaking}
use Rattle.swh_inputs.specs.Input.{InputText}
use Rattle.swh_inputs.specs.Streaming.{MayGiveInput}
use Rattle.swh_inputs.proofs.OneInput.{one_making, unbroken}
use Rattle.swh_inputs.proofs.Streamings.{given_among}
use Rattle.swh_ingest.proofs.Batches.{at_element}
use Rattle.swh_loader.proofs.Room.{HasRoomLeft, room_at_entry}
use Rattle.swh_loader.specs.declared.end.BadInput.TheVariants.{Broken, Collision, Read}
use Rattle.swh_loader.specs.declared.end.End.{End}
use Rattle.swh_loader.specs.declared.end.End.TheVariants.{Full, NotFound, Failed}
use Rattle.swh_exit.specs.Seen.{FileAt}
use Rattle.swh_exit.specs.Answers.{TellsDisk, status_of, status_for, last_line_for, printed_by}
use Rattle.swh_program.specs.Complete.{MeantJob, jobs_of_meant, full_lines, all_made, IsMeant, AreMeant, HasAllGiven, HasBodyOrMakes, HasOneBody, HasRoomForLoads, AreQuiet}
use Rattle.swh_program.specs.Exact.{line_for, lines_for, ending_of_ends, MeansCollision, IsEndFor, IsExactEnd, AreExactEnds, IsExact}
use Rattle.swh_program.specs.Found.{found_at, paths_of}
use Rattle.swh_program.specs.Jobs.{AreJobsAt}
use Rattle.swh_program.specs.Inputs.{Inputs}
use Rattle.swh_program.specs.JobLoad.{IsJobLoad}
use Rattle.swh_program.specs.Lines.{LoadedJob, outcomes, ending_of_end, ending_of_all, worse, TellsLoads}
use Rattle.swh_program.specs.Load.{Givens, IsLoad, AreLoadedJobs, IsUnloaded, IsLoadedOrNot, LoadEnds}
use Rattle.swh_exit.specs.Opening.{IsArchive, IsOpenRefusal, OpenEnds}
use Rattle.swh_exit.specs.Run.{IsQuiet}
use Rattle.swh_exit.specs.declared.answer.Ending.{Ending}
use Rattle.swh_exit.specs.declared.answer.Ending.TheVariants as ending
use Rattle.swh_exit.specs.declared.answer.Answer.{Answer}
use Rattle.swh_exit.specs.declared.answer.Answer.TheVariants.{Told, OutsideDisk, OutsideSource, OutsideClock, Memory}
use Rattle.swh_program.proofs.Archived.{one_archive, opening_of_archive}
use Rattle.swh_exit.proofs.Statuses.{Tells}
use Rattle.swh_program.proofs.Elements.{each_among, flat_contains}
use Rattle.swh_program.proofs.LoadEndings.{no_disk_faults}
use Rattle.swh_program.proofs.JobRefusals.{one_list, refusal_of_jobs}
use Rattle.swh_program.proofs.Loadings.{AreDone, all_done}
use Rattle.swh_program.proofs.RoomInTurn.{HasRoomFor, none_filled}
use Rattle.swh_program.proofs.LoadAnswers.{told_of, unloaded_cases}

-- no disk failed where none is told
no_disk_told : (loads : List LoadedJob) (text : List ℕ) (end : Ending) → TellsLoads loads text end → (end ≡ ending.OutsideDisk → ⊥) → ending_of_all (outcomes loads) ≡ ending.OutsideDisk → ⊥
no_disk_told loads text end tells apart e = apart (tells.end_is ∙ e)

-- what each of a list is made to is
of_map : {X Y : Type 0} (f : X → Y) (P : Y → Type 0) (xs : List X) → AllByRecursion P (map f xs) → AllByRecursion (λ x. P (f x)) xs
of_map f P [] are = tt
of_map f P (x ∷ xs) are = (are.0, of_map f P xs are.1)

-- a run of `load`
module _ (g : Givens) (one_worker : g.workers ≡ 1) (desk_at : FileAt) (inputs : g.inputs.tell) (disks : g.disks_tell)
    (path : List ℕ) (before : List Event) (jobs : List Job) (objects : List MadeObject) (old new : Files) (archive : IsArchive g.id_of old before) (there : AreJobsAt desk_at path jobs)
    (has : HasAllGiven g.id_of g.inputs.files g.inputs.folders jobs objects) (one : HasOneBody g.id_of (replay before).bodies objects) (room : HasRoomForLoads g.id_of before jobs objects) where
  abbrev Exactly : Answer → Type 0
  Exactly answer = IsExact g.id_of g.inputs (replay before) jobs answer

  -- the lines of loads that are told, or memory ran out
  module _ (loads : List LoadedJob) (are : map (λ l. l.job) loads ≡ jobs) (text : List ℕ) (end : Ending) (tells : TellsLoads loads text end) where
    told_lines : AreDone g.id_of g.inputs inputs before jobs objects has one loads → Exactly (Told text end)
    told_lines (inl memory) = inl (ap status_for (tells.end_is ∙ memory))
    told_lines (inr done) =
        let finished : end ≡ ending_of_ends done.ends = tells.end_is ∙ done.ending_is in
        let lines : text ≡ lines_for (replay before) jobs done.ends = tells.text_is ∙ done.lines_are ∙ ap (λ (js : List Job). lines_for (replay before) js done.ends) are in
        inr (record { ends = done.ends; are = subst (λ (js : List Job). AreExactEnds g.id_of g.inputs (replay before) js done.ends) are done.are_ends; is = λ i. Told (lines i) (finished i) })

  -- one worker's loads meet no file's end
  loads_filled : (loads : List LoadedJob) → map (λ l. l.job) loads ≡ jobs → (load : IsLoad g old new loads) → load.before ≡ before → AllByRecursion (λ l. Contains jobs l.job) loads → (ending_of_all (outcomes loads) ≡ ending.OutsideDisk → ⊥)
      → AllByRecursion HasRoomFor (outcomes loads)
  loads_filled loads are load same among apart =
      let standing = (load.disks disks).standing (no_disk_faults (outcomes loads) apart) in
      let good = of_map (λ (l : LoadedJob). l.job) IsJob loads (subst (AllByRecursion IsJob) (sym are) there.are.good.each) in
      let long : length jobs ≡ length loads = sym (ap length are) ∙ length-map loads (λ (l : LoadedJob). l.job) in
      let left : HasRoomLeft g.id_of objects before (length loads * 3) = subst (λ (n : ℕ). HasRoomLeft g.id_of objects before (n * 3)) long (room_at_entry g.id_of objects before (length jobs) room.ledger room.store) in
      none_filled g.id_of g.inputs inputs jobs objects has loads load.before (load.before ++ load.more) among good (subst (λ (h : List Event). HasRoomLeft g.id_of objects h (length loads * 3)) (sym same) left)
      load.history standing.stand.codable (load.in_turn one_worker).each

  loads_done : (loads : List LoadedJob) → map (λ l. l.job) loads ≡ jobs → IsLoad g old new loads → (ending_of_all (outcomes loads) ≡ ending.OutsideDisk → ⊥)
      → AreDone g.id_of g.inputs inputs before jobs objects has one loads
  loads_done loads are load apart =
      let same : load.before ≡ before = one_archive g.id_of old load.before before (load.archive disks) archive in
      let among = of_map (λ (l : LoadedJob). l.job) (Contains jobs) loads (subst (AllByRecursion (Contains jobs)) (sym are) (each_among jobs)) in
      all_done g.id_of g.inputs inputs before jobs objects has one g.workers loads load.more among (subst (λ (js : List Job). AreDistinct (origins js)) (sym are) there.are.good.distinct)
      (subst (λ (h : List Event). IsHistory g.id_of (h ++ load.more)) same load.history) load.shared
      (subst (λ (h : List Event). AllByRecursion (IsJobLoad g.id_of g.inputs h (h ++ load.more)) loads) same load.each) load.stops
      (loads_filled loads are load same among apart) apart

  loaded_done : (answer : Answer) → AreLoadedJobs g old new jobs answer → (TellsDisk answer → ⊥) → Exactly answer
  loaded_done answer loaded no_disk =
      let told = told_of loaded.loads answer loaded.told in
      let text = told.0 in
      let end = told.1 in
      let tells = told.2 in
      let apart : end ≡ ending.OutsideDisk → ⊥ = λ e. no_disk (subst TellsDisk (sym told.3) e) in
      subst Exactly (sym told.3)
      (told_lines loaded.loads loaded.jobs_are text end tells (loads_done loaded.loads loaded.jobs_are loaded.load (no_disk_told loaded.loads text end tells apart)))

  unloaded_done : (answer : Answer) → IsUnloaded g.id_of g.disks_tell old new answer → (TellsDisk answer → ⊥) → (answer ≡ OutsideClock → ⊥) → Exactly answer
  unloaded_done answer is no_disk no_clock =
      ⊎_elim
      (λ (clock : answer ≡ OutsideClock). absurd (no_clock clock))
      (λ (refused : IsOpenRefusal answer × (g.disks_tell → OpenEnds g.id_of old new answer)).
      ⊎_elim (λ (disk : answer ≡ OutsideDisk). absurd (no_disk (subst TellsDisk (sym disk) refl))) (λ (memory : answer ≡ Memory). inl (ap status_of memory)) (opening_of_archive g.id_of old new before archive answer refused.0 (refused.1 disks)))
      (unloaded_cases g.id_of g.disks_tell old new answer is)

  outcome_done : (answer : Answer) → IsLoadedOrNot g old new jobs answer → (TellsDisk answer → ⊥) → (answer ≡ OutsideClock → ⊥) → Exactly answer
  outcome_done answer (inl loaded) no_disk no_clock = loaded_done answer loaded no_disk
  outcome_done answer (inr none) no_disk no_clock = unloaded_done answer none no_disk no_clock

  pub load_exact : (answer : Answer) → LoadEnds g desk_at path old new answer → (TellsDisk answer → ⊥) → (answer ≡ OutsideSource → ⊥) → (answer ≡ OutsideClock → ⊥)
      → Exactly answer
  load_exact answer (inl run) no_disk no_source no_clock =
      outcome_done answer (subst (λ (js : List Job). IsLoadedOrNot g old new js answer) (one_list desk_at path run.jobs jobs (run.there inputs) there) run.outcome) no_disk no_clock
  load_exact answer (inr none) no_disk no_source no_clock =
      ⊎_elim (λ (source : answer ≡ OutsideSource). absurd (no_source source)) (λ (memory : answer ≡ Memory). inl (ap status_of memory)) (refusal_of_jobs desk_at path jobs there answer (none.refused inputs))

-- Jobs whose inputs are there and mean something.
module _ (id_of : Kind → List ℕ → List ℕ) (of_jobs : Inputs) where
  this_given : (m : MeantJob) → IsMeant id_of of_jobs.files of_jobs.folders m → (text : InputText) (given : List MadeObject) → found_at of_jobs.files of_jobs.folders m.job.input ≡ Some text → MayGiveInput id_of text given
      → (o : MadeObject) → Contains given o → Contains m.making.objects o
  this_given m meant text given is may =
      let both : Some text ≡ Some meant.text = sym is ∙ meant.there in
      let same : text ≡ meant.text = cc in
      given_among id_of meant.text given m.making (subst (λ (t : InputText). MayGiveInput id_of t given) same may) meant.means

  -- what they give is what they mean
  pub meant_all_made : (meant : List MeantJob) → AreMeant id_of of_jobs.files of_jobs.folders meant → HasAllGiven id_of of_jobs.files of_jobs.folders (jobs_of_meant meant) (all_made meant)
  meant_all_made meant are = record { has = λ job text given among is may o there. has job text given o is may there (from_map (λ (m : MeantJob). m.job) meant job among) }
    where
      has : (job : Job) (text : InputText) (given : List MadeObject) (o : MadeObject) → found_at of_jobs.files of_jobs.folders job.input ≡ Some text → MayGiveInput id_of text given → Contains given o
          → (m : MeantJob) × Contains meant m × (m.job ≡ job) → Contains (all_made meant) o
      has job text given o is may there from =
          let m = from.0 in
          flat_contains (λ (k : MeantJob). k.making.objects) meant m o from.1
          (this_given m (at_element (IsMeant id_of of_jobs.files of_jobs.folders) meant m are from.1) text given (subst (λ (j : Job). found_at of_jobs.files of_jobs.folders j.input ≡ Some text) (sym from.2) is) may o there)

  -- where none of their paths has failed, and no name has two bodies
  module _ (before : List Event) (all : List MeantJob) (one : HasOneBody id_of (replay before).bodies (all_made all)) where
    abbrev bodies : Bodies
    bodies = (replay before).bodies

    module _ (m : MeantJob) (among : Contains all m) (meant : IsMeant id_of of_jobs.files of_jobs.folders m) where
      has_more : (making : StreamMeaning) → IsSameMaking making m.making → (name : Name) (body : List ℕ) → HasBodyOrMakes id_of bodies making.objects name body → HasBodyOrMakes id_of bodies (all_made all) name body
      has_more making same name body (inl held) = inl held
      has_more making same name body (inr makes) =
          let object : MadeObject = record { kind = name.kind; body = body } in
          inr (flat_contains (λ (k : MeantJob). k.making.objects) all m object among ((same.objects object).0 makes.0), makes.1)

      no_collision : (name : Name) → MeansCollision id_of bodies meant.text name → ⊥
      no_collision name c =
          let same = one_making id_of meant.text c.making m.making c.means meant.means in
          c.apart (one.one name c.a c.b (has_more c.making same name c.a c.has_a) (has_more c.making same name c.b c.has_b))

      -- each is full
      end_full : (end : End) → IsEndFor id_of bodies (Some meant.text) end → end ≡ Full m.making.snapshot
      end_full (Full snapshot) is = ap Full (is.snapshot_is ∙ (one_making id_of meant.text is.making m.making is.means meant.means).snapshot)
      end_full NotFound is = absurd is
      end_full (Failed (Broken bad)) is = absurd (unbroken id_of meant.text m.making bad meant.means is)
      end_full (Failed (Collision name)) is = absurd (no_collision name is)
      end_full (Failed Read) is = absurd is

      exact_full : AllByRecursion (λ path. IsQuiet (of_jobs.failures path) (of_jobs.failures_now path)) (paths_of m.job.input) → (end : End) → IsExactEnd id_of of_jobs (replay before) m.job end → end ≡ Full m.making.snapshot
      exact_full quiet end (inl is) = end_full end (subst (λ (f : Option InputText). IsEndFor id_of bodies f end) meant.there is)
      exact_full quiet end (inr read) = absurd (at_element (λ path. IsQuiet (of_jobs.failures path) (of_jobs.failures_now path)) (paths_of m.job.input) read.1.path quiet read.1.among read.1.rose)

    -- and its line says it
    all_full : (ms : List MeantJob) → AllByRecursion (Contains all) ms → AreMeant id_of of_jobs.files of_jobs.folders ms → AreQuiet of_jobs.failures of_jobs.failures_now ms → (ends : List End) → AreExactEnds id_of of_jobs (replay before) (jobs_of_meant ms) ends
        → (ending_of_ends ends ≡ ending.Done) × (lines_for (replay before) (jobs_of_meant ms) ends ≡ full_lines before ms)
    all_full [] among are quiet [] exact = (refl, refl)
    all_full [] among are quiet (end ∷ ends) exact = absurd exact
    all_full (m ∷ ms) among are quiet [] exact = absurd exact
    all_full (m ∷ ms) among are quiet (end ∷ ends) exact =
        let full : end ≡ Full m.making.snapshot = exact_full m among.0 are.0 quiet.0 end exact.0 in
        let rest = all_full ms among.1 are.1 quiet.1 ends exact.1 in
        (λ i. worse (ending_of_end (full i)) (rest.0 i), λ i. line_for (replay before) m.job (full i) ++ rest.1 i)

    pub load_done : AreMeant id_of of_jobs.files of_jobs.folders all → AreQuiet of_jobs.failures of_jobs.failures_now all → (answer : Answer) → IsExact id_of of_jobs (replay before) (jobs_of_meant all) answer → Tells (full_lines before all) 0 answer
    load_done are quiet answer (inl memory) = inl memory
    load_done are quiet answer (inr exact) =
        let full = all_full all (each_among all) are quiet exact.ends exact.are in
        inr (ap status_of exact.is ∙ ap status_for full.0, ap printed_by exact.is ∙ (λ i. full.1 i ++ last_line_for (full.0 i)) ∙ append-nil (full_lines before all))
