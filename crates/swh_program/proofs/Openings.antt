-- Inputs that were opened or given back, as the counts of their paths rise further.
use Rattle.std.specs.Prelude.{IfSome, option_map}
use Rattle.std.proofs.Common.{◌≡◌, ℕ, ◌+◌, ◌<◌, ◌≤◌, Option, Some, None, List, [], ◌∷◌, ◌++◌, length, length-append, map, refl, sym, ap, ◌∙◌, subst, arith, append_assoc}
use Rattle.std.specs.List.{AllByRecursion}
use Rattle.std.proofs.lemmas.List.{length-map, map-append}
use Rattle.swh_base.specs.Text.{IsRef}
use Rattle.swh_outside.specs.Faults.{Rose}
use Rattle.swh_outside.specs.declared.fault.Opened.{Opened}
use Rattle.swh_outside.specs.declared.fault.Opened.TheVariants.{Found, NotFound, Failed, Memory}
use Rattle.swh_inputs.specs.Parts.{Parts, HasGoodHead}
use Rattle.swh_inputs.specs.declared.input.Input.{Input as OpenedInput}
use Rattle.swh_inputs.specs.declared.input.Input.TheVariants.{Fast, Dir, Batch}
use Rattle.swh_jobs.specs.Answers.{job_of, owned_jobs}
use Rattle.swh_jobs.specs.Job.{Job, JobInput, IsHeadText, IsJob, IsJobInput}
use Rattle.swh_jobs.specs.Job.JobInput.{StreamAt, FolderAt as FolderIn, BatchAt}
use Rattle.swh_jobs.specs.declared.job.JobLine.{JobLine}
use Rattle.swh_pool.specs.Loads.{HasHead}
use Rattle.swh_pool.specs.declared.dated.DatedJob.{DatedJob}
use Rattle.swh_program.specs.Inputs.{inputs}
use Rattle.swh_exit.specs.Seen.{Origins}
use Rattle.swh_program.specs.Dated.{AreSaid, IsPartBack, IsOpenedAt, IsKept, between, IsSourceAt, IsFolderAt, IsListingAt, IsInputAt, IsOpenedJob, AreOpenedJobs, IsListingBack, IsGivenBack, AreGivenBack}
use Rattle.swh_program.proofs.Rises.{rose_since, rose_until}

-- ## Parts

-- a part that was given back, as counts rise further
module _ {X : Type 0} (faults : X → ℕ) (place : X → List ℕ) where
  pub part_until : (a b c : List ℕ → ℕ) → ((p : List ℕ) → b p ≤ c p) → (part : Opened X) → IsPartBack faults place a b part → IsPartBack faults place a c part
  part_until a b c rises (Found x) back = λ some. rose_until (a (place x)) (b (place x)) (c (place x)) (back some) (rises (place x))
  part_until a b c rises NotFound back = tt
  part_until a b c rises Failed back = tt
  part_until a b c rises Memory back = tt

  pub part_since : (a b c : List ℕ → ℕ) → ((p : List ℕ) → a p ≤ b p) → (part : Opened X) → IsPartBack faults place b c part → IsPartBack faults place a c part
  part_since a b c rises (Found x) back = λ some. rose_since (a (place x)) (b (place x)) (c (place x)) (rises (place x)) (back some)
  part_since a b c rises NotFound back = tt
  part_since a b c rises Failed back = tt
  part_since a b c rises Memory back = tt

-- a part that was opened, with other counts around, and where the same stands
pub part_within : {X Y : Type 0} (tell : Type 0) (holds : X → Y) (faults : X → ℕ) (place : X → List ℕ) (at at' : List ℕ → Option Y) (a b c d : List ℕ → ℕ) → (tell → (p : List ℕ) → at' p ≡ at p) → ((p : List ℕ) → a p ≤ b p) → ((p : List ℕ) → c p ≤ d p)
    → (path : List ℕ) (part : Opened X) → IsOpenedAt tell holds faults place at' b c path part → IsOpenedAt tell holds faults place at a d path part
part_within tell holds faults place at at' a b c d same early late path (Found x) is = record { found = λ t. sym (same t path) ∙ is.found t; absent = λ t h. absurd h; at_path = is.at_path; quiet = is.quiet; failed = λ h. absurd h }
part_within tell holds faults place at at' a b c d same early late path NotFound is = record { found = λ t. tt; absent = λ t h. sym (same t path) ∙ is.absent t h; at_path = tt; quiet = tt; failed = λ h. absurd h }
part_within tell holds faults place at at' a b c d same early late path Failed is =
    record { found = λ t. tt; absent = λ t h. absurd h; at_path = tt; quiet = tt; failed = λ h. rose_until (a path) (c path) (d path) (rose_since (a path) (b path) (c path) (early path) (is.failed h)) (late path) }
part_within tell holds faults place at at' a b c d same early late path Memory is = record { found = λ t. tt; absent = λ t h. absurd h; at_path = tt; quiet = tt; failed = λ h. absurd h }

-- ## What stands at the paths, from one moment to the next

pub kept_same : (tell : Type 0) (o : Origins) → IsKept tell o o
kept_same tell o = record { files = λ t p. refl; folders = λ t p. refl; path_later = λ p. omega arith; later = omega arith }

pub kept_then : (tell : Type 0) (a b c : Origins) → IsKept tell a b → IsKept tell b c → IsKept tell a c
kept_then tell a b c x y = record {
  files = λ t p. y.files t p ∙ x.files t p;
  folders = λ t p. y.folders t p ∙ x.folders t p;
  path_later = λ p. let m = x.path_later p in let n = y.path_later p in omega (arith, m, n);
  later = let m = x.later in let n = y.later in omega (arith, m, n);
}

-- ## Inputs that were given back

module _ {S F : Type 0} (p : Parts S F) where
  listing_until : (a b c : List ℕ → ℕ) → ((q : List ℕ) → b q ≤ c q) → (listing : Option (Opened S)) → IsListingBack p a b listing → IsListingBack p a c listing
  listing_until a b c rises None back = tt
  listing_until a b c rises (Some stream) back = part_until p.sources.faults p.sources.path a b c rises stream back

  listing_since : (a b c : List ℕ → ℕ) → ((q : List ℕ) → a q ≤ b q) → (listing : Option (Opened S)) → IsListingBack p b c listing → IsListingBack p a c listing
  listing_since a b c rises None back = tt
  listing_since a b c rises (Some stream) back = part_since p.sources.faults p.sources.path a b c rises stream back

  back_until : (a b c : List ℕ → ℕ) → ((q : List ℕ) → b q ≤ c q) → (input : OpenedInput S F) → IsGivenBack p a b input → IsGivenBack p a c input
  back_until a b c rises (Fast stream head) back = part_until p.sources.faults p.sources.path a b c rises stream back
  back_until a b c rises (Dir folder modes) back = (part_until p.folders.faults p.folders.path a b c rises folder back.0, listing_until a b c rises modes back.1)
  back_until a b c rises (Batch objects refs) back = (part_until p.sources.faults p.sources.path a b c rises objects back.0, part_until p.sources.faults p.sources.path a b c rises refs back.1)

  back_since : (a b c : List ℕ → ℕ) → ((q : List ℕ) → a q ≤ b q) → (input : OpenedInput S F) → IsGivenBack p b c input → IsGivenBack p a c input
  back_since a b c rises (Fast stream head) back = part_since p.sources.faults p.sources.path a b c rises stream back
  back_since a b c rises (Dir folder modes) back = (part_since p.folders.faults p.folders.path a b c rises folder back.0, listing_since a b c rises modes back.1)
  back_since a b c rises (Batch objects refs) back = (part_since p.sources.faults p.sources.path a b c rises objects back.0, part_since p.sources.faults p.sources.path a b c rises refs back.1)

  back_all_until : (a b c : List ℕ → ℕ) → ((q : List ℕ) → b q ≤ c q) → (jobs : List (DatedJob S F)) → AreGivenBack p a b jobs → AreGivenBack p a c jobs
  back_all_until a b c rises [] back = tt
  back_all_until a b c rises (j ∷ jobs) back = (back_until a b c rises j.job.input back.0, back_all_until a b c rises jobs back.1)

  -- Of these jobs some are left, and the others were given back.
  pub record BackSoFar (before now : List ℕ → ℕ) (all left : List (DatedJob S F)) : Type 0 where
    pub done : List (DatedJob S F)
    pub cut : all ≡ left ++ done
    pub back : AreGivenBack p before now done

  pub back_next : (entry now later : List ℕ → ℕ) (all left rest : List (DatedJob S F)) (j : DatedJob S F) → ((q : List ℕ) → entry q ≤ now q) → ((q : List ℕ) → now q ≤ later q)
      → left ≡ rest ++ j ∷ [] → BackSoFar entry now all left → IsGivenBack p now later j.job.input → BackSoFar entry later all rest
  back_next entry now later all left rest j rose rises cut so_far back = record {
    done = j ∷ so_far.done;
    cut = so_far.cut ∙ ap (λ (l : List (DatedJob S F)). l ++ so_far.done) cut ∙ append_assoc rest (j ∷ []) so_far.done;
    back = (back_since entry now later rose j.job.input back, back_all_until entry now later rises so_far.done so_far.back);
  }

-- ## Dates

-- one date more
pub said_next : (time : ℕ → ℕ) (dates : List ℕ) (date : ℕ) → AreSaid time dates → date ≡ time (length dates) → AreSaid time (dates ++ date ∷ [])
said_next time [] date said is = (is, tt)
said_next time (d ∷ dates) date said is = (said.0, said_next (λ k. time (k + 1)) dates date said.1 (is ∙ ap time (let e : length (d ∷ dates) ≡ length dates + 1 = omega arith in e)))

-- one opened job more
pub dates_next : {S F : Type 0} (time : ℕ → ℕ) (opened : List (DatedJob S F)) (o : DatedJob S F) → AreSaid time (map (λ j. j.date) opened) → o.date ≡ time (0 + length opened) → AreSaid time (map (λ j. j.date) (opened ++ o ∷ []))
dates_next {S} {F} time opened o said is =
    let date : DatedJob S F → ℕ = λ j. j.date in
    let n : 0 + length opened ≡ length (map date opened) = omega (arith, length-map opened date) in
    subst (AreSaid time) (sym (map-append date opened (o ∷ []))) (said_next time (map date opened) o.date said (is ∙ ap time n))

pub times_next : {S F : Type 0} (time : ℕ → ℕ) (opened : List (DatedJob S F)) (o : DatedJob S F) (k : ℕ) → time ((k + 1) + length opened) ≡ time (k + length (opened ++ o ∷ []))
times_next time opened o k = ap time (let n = length-append opened (o ∷ []) in omega (arith, n))

-- ## Inputs that were opened

ref_of : (head : Option (List ℕ)) → IfSome head IsHeadText → IfSome head IsRef
ref_of (Some head) is = is.is_ref
ref_of None is = tt

module _ {S F : Type 0} (p : Parts S F) (tell : Type 0) where
  abbrev pub OpenedAt : Origins → Origins → JobInput → OpenedInput S F → Type 0
  OpenedAt old new job input = IsInputAt p (between tell old new) job input

  abbrev pub OpenedJob : Origins → Origins → Job → DatedJob S F → Type 0
  OpenedJob old new job j = IsOpenedJob p (between tell old new) job j

  abbrev pub OpenedJobs : Origins → Origins → List Job → List (DatedJob S F) → Type 0
  OpenedJobs old new jobs opened = AreOpenedJobs p (between tell old new) jobs opened

  -- between two moments around the two at which it was opened
  module _ (a b c d : Origins) (early : IsKept tell a b) (late : (q : List ℕ) → c.path_faults q ≤ d.path_faults q) where
    pub source_within : (path : List ℕ) (stream : Opened S) → IsSourceAt p (between tell b c) path stream → IsSourceAt p (between tell a d) path stream
    source_within path stream is = part_within tell p.sources.left p.sources.faults p.sources.path a.file_at b.file_at a.path_faults b.path_faults c.path_faults d.path_faults early.files early.path_later late path stream is

    pub folder_within : (path : List ℕ) (folder : Opened F) → IsFolderAt p (between tell b c) path folder → IsFolderAt p (between tell a d) path folder
    folder_within path folder is = part_within tell p.folders.holds p.folders.faults p.folders.path a.folder_at b.folder_at a.path_faults b.path_faults c.path_faults d.path_faults early.folders early.path_later late path folder is

    pub listing_within : (path : Option (List ℕ)) (listing : Option (Opened S)) → IsListingAt p (between tell b c) path listing → IsListingAt p (between tell a d) path listing
    listing_within None None is = tt
    listing_within None (Some stream) is = absurd is
    listing_within (Some path) None is = absurd is
    listing_within (Some path) (Some stream) is = source_within path stream is

    pub input_within : (job : JobInput) (input : OpenedInput S F) → OpenedAt b c job input → OpenedAt a d job input
    input_within (StreamAt path head) (Fast stream other) is = (source_within path stream is.0, is.1)
    input_within (StreamAt path head) (Dir folder modes) is = absurd is
    input_within (StreamAt path head) (Batch objects refs) is = absurd is
    input_within (FolderIn path modes) (Fast stream head) is = absurd is
    input_within (FolderIn path modes) (Dir folder listing) is = (folder_within path folder is.0, listing_within modes listing is.1)
    input_within (FolderIn path modes) (Batch objects refs) is = absurd is
    input_within (BatchAt path refs) (Fast stream head) is = absurd is
    input_within (BatchAt path refs) (Dir folder modes) is = absurd is
    input_within (BatchAt path refs) (Batch objects others) is = (source_within path objects is.0, source_within refs others is.1)

    job_within : (job : Job) (j : DatedJob S F) → OpenedJob b c job j → OpenedJob a d job j
    job_within job j is = record { origin = is.origin; told = is.told; input = input_within job.input j.job.input is.input }

  jobs_within : (a c d : Origins) → ((q : List ℕ) → c.path_faults q ≤ d.path_faults q) → (jobs : List Job) (opened : List (DatedJob S F)) → OpenedJobs a c jobs opened → OpenedJobs a d jobs opened
  jobs_within a c d late [] [] are = tt
  jobs_within a c d late [] (o ∷ opened) are = absurd are
  jobs_within a c d late (job ∷ jobs) [] are = absurd are
  jobs_within a c d late (job ∷ jobs) (o ∷ opened) are = (job_within a a c d (kept_same tell a) late job o are.0, jobs_within a c d late jobs opened are.1)

  jobs_more : (a c : Origins) (jobs : List Job) (opened : List (DatedJob S F)) (job : Job) (o : DatedJob S F) → OpenedJobs a c jobs opened → OpenedJob a c job o → OpenedJobs a c (jobs ++ job ∷ []) (opened ++ o ∷ [])
  jobs_more a c [] [] job o are is = (is, tt)
  jobs_more a c [] (q ∷ opened) job o are is = absurd are
  jobs_more a c (first ∷ jobs) [] job o are is = absurd are
  jobs_more a c (first ∷ jobs) (q ∷ opened) job o are is = (are.0, jobs_more a c jobs opened job o are.1 is)

  -- a job names no head that is not a ref
  good_head : (a c : Origins) (job : JobInput) (input : OpenedInput S F) → IsJobInput job → OpenedAt a c job input → HasGoodHead input
  good_head a c (StreamAt path head) (Fast stream other) good is = subst (λ (h : Option (List ℕ)). IfSome h IsRef) (sym is.1) (ref_of head good.1)
  good_head a c job (Dir folder modes) good is = tt
  good_head a c job (Batch objects refs) good is = tt
  good_head a c (FolderIn path modes) (Fast stream head) good is = absurd is
  good_head a c (BatchAt path refs) (Fast stream head) good is = absurd is

  pub heads_of : (a c : Origins) (jobs : List Job) (opened : List (DatedJob S F)) → AllByRecursion IsJob jobs → OpenedJobs a c jobs opened → AllByRecursion HasHead opened
  heads_of a c [] [] good are = tt
  heads_of a c [] (o ∷ opened) good are = absurd are
  heads_of a c (job ∷ jobs) [] good are = absurd are
  heads_of a c (job ∷ jobs) (o ∷ opened) good are = (good_head a c job.input o.job.input good.0.is_input are.0.input, heads_of a c jobs opened good.1 are.1)

  -- Of these lines some are left, and the inputs of the others were opened.
  pub record OpenedSoFar (before now : Origins) (lines rest : List JobLine) (opened : List (DatedJob S F)) : Type 0 where
    pub done : List JobLine
    pub cut : lines ≡ done ++ rest
    pub are : OpenedJobs before now (owned_jobs done) opened

  pub opened_begins : (o : Origins) (lines : List JobLine) → OpenedSoFar o o lines lines []
  opened_begins o lines = record { done = []; cut = refl; are = tt }

  pub opened_next : (a b c : Origins) (lines rest rest' : List JobLine) (line : JobLine) (opened : List (DatedJob S F)) (o : DatedJob S F) → IsKept tell a b → IsKept tell b c
      → rest ≡ line ∷ rest' → OpenedSoFar a b lines rest opened → OpenedJob b c (job_of line) o → OpenedSoFar a c lines rest' (opened ++ o ∷ [])
  opened_next a b c lines rest rest' line opened o early late cut so_far is = record {
    done = so_far.done ++ line ∷ [];
    cut = so_far.cut ∙ ap (λ (l : List JobLine). so_far.done ++ l) cut ∙ sym (append_assoc so_far.done (line ∷ []) rest');
    are = subst (λ (jobs : List Job). OpenedJobs a c jobs (opened ++ o ∷ [])) (sym (map-append job_of so_far.done (line ∷ [])))
        (jobs_more a c (owned_jobs so_far.done) opened (job_of line) o (jobs_within a b c late.path_later (owned_jobs so_far.done) opened so_far.are) (job_within a b c c early (λ q. omega arith) (job_of line) o is));
  }
