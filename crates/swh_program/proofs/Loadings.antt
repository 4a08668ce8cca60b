-- Loads against which nothing stands are told as their inputs have it, or memory ran out.
use Rattle.std.proofs.Common.{◌≡◌, ◌⊎◌, inl, inr, ⊎_elim, ℕ, ◌≤◌, Bool, true, false, Option, Some, None, Result, Ok, Err, List, [], ◌∷◌, ◌++◌, map, Contains, refl, sym, ap, ◌∙◌, subst}
use Rattle.std.specs.List.{AllByRecursion, flat_map}
use Rattle.swh_base.specs.declared.kind.Kind.{Kind}
use Rattle.swh_base.specs.declared.name.Name.{Name}
use Rattle.swh_base.specs.declared.visit.Status.TheVariants.{Created}
use Rattle.swh_base.specs.Visit.{Statuses}
use Rattle.swh_jobs.specs.Job.{Job}
use Rattle.swh_jobs.specs.JobFile.{AreDistinct, origins}
use Rattle.swh_model.specs.declared.event.Event.{Event}
use Rattle.swh_model.specs.Meaning.{Made as MadeObject, StreamMeaning}
use Rattle.swh_model.specs.Step.{IsHistory, replay}
use Rattle.swh_dedup.specs.Making.{made}
use Rattle.swh_inputs.specs.Input.{InputText}
use Rattle.swh_inputs.proofs.Streamings.{meant_given}
use Rattle.swh_ingest.specs.Owning.{Attempt}
use Rattle.swh_ingest.specs.Visiting.{next_visit, IsVisit}
use Rattle.swh_ingest.specs.declared.stop.Stop.{Stop}
use Rattle.swh_ingest.specs.declared.stop.Stop.TheVariants as why
use Rattle.swh_ingest.specs.declared.end.LoadFault.{LoadFault}
use Rattle.swh_loader.specs.Ending.{statuses_of}
use Rattle.swh_loader.specs.Report.{report_of}
use Rattle.swh_loader.specs.declared.end.BadInput.TheVariants.{Broken, Collision, Read}
use Rattle.swh_loader.specs.declared.end.End.{End}
use Rattle.swh_loader.specs.declared.end.End.TheVariants.{Full, NotFound, Failed}
use Rattle.swh_loader.specs.declared.end.Loaded.{Loaded}
use Rattle.swh_pool.specs.Stops.{is_want, is_memory_stop, HaveNoMemoryStop, IsNotCutShort, HasOwnEnd, AreStopsOfMany}
use Rattle.swh_program.specs.Complete.{HasAllGiven, HasBodyOrMakes, HasOneBody}
use Rattle.swh_program.specs.Found.{found_at}
use Rattle.swh_program.specs.Exact.{line_for, lines_for, ending_of_ends, MeansSnapshot, IsEndFor, IsExactEnd, AreExactEnds}
use Rattle.swh_program.specs.Inputs.{Inputs, input_of, IsInputEnd, IsOfJob}
use Rattle.swh_program.specs.JobLoad.{attempt_for, visit_of, IsJobOutcome, IsJobLoad}
use Rattle.swh_program.specs.Lines.{LoadedJob, outcomes, load_line, ending_of_end, ending_of_why, ending_for, ending_of_all, worse}
use Rattle.swh_program.specs.Sharing.{AreShared}
use Rattle.swh_exit.specs.declared.answer.Ending.{Ending}
use Rattle.swh_exit.specs.declared.answer.Ending.TheVariants as ending
use Rattle.swh_program.proofs.LoadEndings.{first_apart, others_apart}
use Rattle.swh_program.proofs.Fulls.{Had, GivesWithin, none_collides, AddsMade, had_after, adds_made}
use Rattle.swh_program.proofs.RoomInTurn.{IsNotFilled, HasRoomFor, within, of_job}
use Rattle.swh_program.proofs.Shared.{all_shared, next_number}

-- memory ran out in one of them, or in none
memory_or_not : (ended : List (Result Loaded LoadFault)) → (ending_of_all ended ≡ ending.OutsideDisk → ⊥) → (ending_of_all ended ≡ ending.Memory) ⊎ HaveNoMemoryStop ended
memory_or_not ended apart = at (ending_of_all ended) refl
  where
    want_memory : (reason : Stop) → is_want reason ≡ true → ending_of_why reason ≡ ending.Memory
    want_memory why.Memory is = refl
    want_memory _ is = absurd (let f : false ≡ true = is in cc)

    stop_memory : (o : Result Loaded LoadFault) → is_memory_stop o ≡ true → ending_for o ≡ ending.Memory
    stop_memory (Ok l) is = absurd (let f : false ≡ true = is in cc)
    stop_memory (Err f) is = want_memory f.why is

    not_memory : (o : Result Loaded LoadFault) (b : Bool) → is_memory_stop o ≡ b → (ending_for o ≡ ending.Memory → ⊥) → is_memory_stop o ≡ false
    not_memory o true is none = absurd (none (stop_memory o is))
    not_memory o false is none = is

    memory_or_disk : (e : Ending) → (worse ending.Memory e ≡ ending.Memory) ⊎ (worse ending.Memory e ≡ ending.OutsideDisk)
    memory_or_disk ending.Done = inl refl
    memory_or_disk ending.Wanting = inl refl
    memory_or_disk ending.OutsideDisk = inr refl
    memory_or_disk ending.Memory = inl refl

    later_memory : (e : Ending) → (worse e ending.Memory ≡ ending.Memory) ⊎ (worse e ending.Memory ≡ ending.OutsideDisk)
    later_memory ending.Done = inl refl
    later_memory ending.Wanting = inl refl
    later_memory ending.OutsideDisk = inr refl
    later_memory ending.Memory = inl refl

    none : (os : List (Result Loaded LoadFault)) → (ending_of_all os ≡ ending.OutsideDisk → ⊥) → (ending_of_all os ≡ ending.Memory → ⊥) → HaveNoMemoryStop os
    none [] no_disk no_memory = tt
    none (o ∷ os) no_disk no_memory = (
      not_memory o (is_memory_stop o) refl
          (λ e. ⊎_elim (λ (m : worse ending.Memory (ending_of_all os) ≡ ending.Memory). no_memory (ap (λ (x : Ending). worse x (ending_of_all os)) e ∙ m)) (λ (d : worse ending.Memory (ending_of_all os) ≡ ending.OutsideDisk). no_disk (ap (λ (x : Ending). worse x (ending_of_all os)) e ∙ d)) (memory_or_disk (ending_of_all os))),
      none os (others_apart o os no_disk)
          (λ e. ⊎_elim (λ (m : worse (ending_for o) ending.Memory ≡ ending.Memory). no_memory (ap (worse (ending_for o)) e ∙ m)) (λ (d : worse (ending_for o) ending.Memory ≡ ending.OutsideDisk). no_disk (ap (worse (ending_for o)) e ∙ d)) (later_memory (ending_for o))),
    )

    at : (e : Ending) → ending_of_all ended ≡ e → (ending_of_all ended ≡ ending.Memory) ⊎ HaveNoMemoryStop ended
    at ending.Memory is = inl is
    at ending.OutsideDisk is = absurd (apart is)
    at ending.Done is = inr (none ended apart (λ m. let f : ending.Done ≡ ending.Memory = sym is ∙ m in cc))
    at ending.Wanting is = inr (none ended apart (λ m. let f : ending.Wanting ≡ ending.Memory = sym is ∙ m in cc))

-- Nothing stands against the loads of these jobs but their inputs.
module _ (id_of : Kind → List ℕ → List ℕ) (of_jobs : Inputs) (told : of_jobs.tell) (before : List Event) (all : List Job) (objects : List MadeObject)
    (has : HasAllGiven id_of of_jobs.files of_jobs.folders all objects) (one : HasOneBody id_of (replay before).bodies objects) where
  abbrev IsEnd : Job → End → Type 0
  IsEnd job end = IsExactEnd id_of of_jobs (replay before) job end

  -- The job ended so, and its line says it.
  pub record IsTold (job : Job) (outcome : Result Loaded LoadFault) : Type 0 where
    pub end : End
    pub is_end : IsEnd job end
    pub ending_is : ending_for outcome ≡ ending_of_end end
    pub line_is : report_of job.url outcome ≡ line_for (replay before) job end

  -- All ended so, and their lines say it.
  pub record AreTold (loads : List LoadedJob) : Type 0 where
    pub ends : List End
    pub are_ends : AreExactEnds id_of of_jobs (replay before) (map (λ l. l.job) loads) ends
    pub ending_is : ending_of_all (outcomes loads) ≡ ending_of_ends ends
    pub lines_are : flat_map load_line loads ≡ lines_for (replay before) (map (λ l. l.job) loads) ends

  -- All are told, or memory ran out.
  abbrev pub AreDone : List LoadedJob → Type 0
  AreDone loads = (ending_of_all (outcomes loads) ≡ ending.Memory) ⊎ AreTold loads

  -- after events that added nothing but what is made
  module _ (after : List Event) (had : Had id_of (replay before).bodies objects (replay after).bodies) where
    -- one job
    module _ (job : Job) (among : Contains all job) where
      wider : (making : StreamMeaning) → ((o : MadeObject) → Contains making.objects o → Contains objects o) → HasOneBody id_of (replay before).bodies making.objects
      wider making more = record { one = λ name a b x y. one.one name a b (has_more name a x) (has_more name b y) }
        where
          has_more : (name : Name) (body : List ℕ) → HasBodyOrMakes id_of (replay before).bodies making.objects name body → HasBodyOrMakes id_of (replay before).bodies objects name body
          has_more name body (inl held) = inl held
          has_more name body (inr makes) = inr (more (record { kind = name.kind; body = body }) makes.0, makes.1)

      abbrev Within : (text : InputText) → found_at of_jobs.files of_jobs.folders job.input ≡ Some text → GivesWithin id_of objects text
      Within = within id_of of_jobs told all objects has job among

      -- how its visit ends
      end_exact : (end : End) → IsInputEnd id_of (input_of of_jobs job) (replay after).bodies end → IsEnd job end
      end_exact (Full snapshot) is =
          let t = is told in
          let full = t.2 in
          let making : StreamMeaning = record { objects = made full.objects; snapshot = snapshot } in
          let means : MeansSnapshot id_of (replay before).bodies t.0 snapshot =
          record { making = making; means = full.means.meaning; one = wider making (Within t.0 t.1 making.objects (meant_given id_of t.0 making full.means.meaning)); snapshot_is = refl } in
          inl (subst (λ (found : Option InputText). IsEndFor id_of (replay before).bodies found (Full snapshot)) (sym t.1) means)
      end_exact NotFound is = inl (subst (λ (found : Option InputText). IsEndFor id_of (replay before).bodies found NotFound) (sym (is told)) refl)
      end_exact (Failed (Broken bad)) is =
          let t = is.1 told in
          inl (subst (λ (found : Option InputText). IsEndFor id_of (replay before).bodies found (Failed (Broken bad))) (sym t.1) t.2)
      end_exact (Failed (Collision name)) is =
          let t = is told in
          absurd (none_collides id_of objects t.0 (Within t.0 t.1) (replay before).bodies (replay after).bodies name had one t.2)
      end_exact (Failed Read) is = inr (refl, is)

      -- it did not stop
      none_stops : (reason : Stop) → IsNotCutShort reason → IsNotFilled reason → is_want reason ≡ false → (ending_of_why reason ≡ ending.OutsideDisk → ⊥) → ⊥
      none_stops (why.Ended status) own room no_want apart = own
      none_stops why.DiskFault own room no_want apart = apart refl
      none_stops why.Wounded own room no_want apart = apart refl
      none_stops (why.Limit which number) own room no_want apart = room
      none_stops why.Memory own room no_want apart = let f : true ≡ false = no_want in cc

      one_told : (a : Attempt) (own : List Event) → a.origin ≡ job.url → ((number : ℕ) (statuses : Statuses) → next_visit before a.origin ≤ number → IsVisit after a number statuses → number ≡ next_visit before a.origin)
          → (outcome : Result Loaded LoadFault) → IsJobOutcome id_of (input_of of_jobs job) a before after own outcome → HasOwnEnd outcome → HasRoomFor outcome → is_memory_stop outcome ≡ false → (ending_for outcome ≡ ending.OutsideDisk → ⊥)
          → IsTold job outcome
      one_told a own same next (Ok l) line own_end room no_stop apart =
          let count : l.visit ≡ next_visit before job.url = next l.visit ((Created, None) ∷ statuses_of l.end) line.new line.visit ∙ ap (next_visit before) same in
          record { end = l.end; is_end = end_exact l.end line.end; ending_is = refl; line_is = λ i. report_of job.url (Ok (record { visit = count i; end = l.end })) }
      one_told a own same next (Err f) line own_end room no_stop apart = absurd (none_stops f.why own_end room no_stop apart)

    -- all of them
    all_told : ((a : Attempt) (number : ℕ) (statuses : Statuses) → next_visit before a.origin ≤ number → IsVisit after a number statuses → number ≡ next_visit before a.origin)
        → (loads : List LoadedJob) → AllByRecursion (λ l. Contains all l.job) loads → AllByRecursion (IsJobLoad id_of of_jobs before after) loads
        → AllByRecursion HasOwnEnd (outcomes loads) → AllByRecursion HasRoomFor (outcomes loads) → HaveNoMemoryStop (outcomes loads) → (ending_of_all (outcomes loads) ≡ ending.OutsideDisk → ⊥) → AreTold loads
    all_told next [] among each own room no_stop apart = record { ends = []; are_ends = tt; ending_is = refl; lines_are = refl }
    all_told next (l ∷ loads) among each own room no_stop apart =
        let first = one_told l.job among.0 (attempt_for l) l.own refl (next (attempt_for l)) l.outcome each.0.line own.0 room.0 no_stop.0 (first_apart l.outcome (outcomes loads) apart) in
        let others = all_told next loads among.1 each.1 own.1 room.1 no_stop.1 (others_apart l.outcome (outcomes loads) apart) in
        record {
          ends = first.end ∷ others.ends;
          are_ends = (first.is_end, others.are_ends);
          ending_is = ap (λ (x : Ending). worse x (ending_of_all (outcomes loads))) first.ending_is ∙ ap (worse (ending_of_end first.end)) others.ending_is;
          lines_are = ap (λ (t : List ℕ). t ++ flat_map load_line loads) first.line_is ∙ ap (λ (t : List ℕ). line_for (replay before) l.job first.end ++ t) others.lines_are;
        }

  -- what loads add is made
  adds_all : (after : List Event) (loads : List LoadedJob) → AllByRecursion (λ l. Contains all l.job) loads → AllByRecursion (IsJobLoad id_of of_jobs before after) loads → AllByRecursion (λ l. AllByRecursion (AddsMade id_of objects) l.own) loads
  adds_all after [] among each = tt
  adds_all after (l ∷ loads) among each = (
    adds_made id_of objects (IsOfJob id_of of_jobs l.job) (of_job id_of of_jobs told all objects has l.job among.0) (attempt_for l) (visit_of l.outcome) l.own each.0.nothing_else,
    adds_all after loads among.1 each.1,
  )

  -- Loads by any number of workers, none of which met a file's end.
  pub all_done : (workers : ℕ) (loads : List LoadedJob) (more : List Event) → AllByRecursion (λ l. Contains all l.job) loads → AreDistinct (origins (map (λ l. l.job) loads))
      → IsHistory id_of (before ++ more) → AreShared workers loads more → AllByRecursion (IsJobLoad id_of of_jobs before (before ++ more)) loads → AreStopsOfMany (outcomes loads) → AllByRecursion HasRoomFor (outcomes loads)
      → (ending_of_all (outcomes loads) ≡ ending.OutsideDisk → ⊥) → AreDone loads
  all_done workers loads more among distinct history shared each stops room apart =
      ⊎_elim
      (λ (memory : ending_of_all (outcomes loads) ≡ ending.Memory). inl memory)
      (λ (no_stop : HaveNoMemoryStop (outcomes loads)).
      let own = shared.alone no_stop in
      let made_all = all_shared (AddsMade id_of objects) loads more own (adds_all (before ++ more) loads among each) in
      let had = had_after id_of objects (replay before).bodies before more history made_all (λ n body held. inl held) in
      inr (all_told (before ++ more) had (next_number id_of of_jobs before more history loads own distinct each) loads among each (stops.cut_short no_stop) room no_stop apart))
      (memory_or_not (outcomes loads) apart)
