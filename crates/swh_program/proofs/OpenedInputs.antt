-- What the parts of an opened input say of what stands at the paths of its job.
use Rattle.std.specs.Prelude.{option_map}
use Rattle.std.proofs.Common.{◌≡◌, ◌⊎◌, inl, inr, ℕ, ◌<◌, ◌≤◌, Option, Some, None, List, [], ◌∷◌, Contains, refl, sym, ap, ◌∙◌, subst, arith}
use Rattle.swh_outside.specs.Faults.{Rose}
use Rattle.swh_outside.specs.declared.fault.Opened.{Opened}
use Rattle.swh_outside.specs.declared.fault.Opened.TheVariants as part
use Rattle.swh_ingest.specs.declared.input.Opening.{Opening}
use Rattle.swh_ingest.specs.declared.input.Opening.TheVariants.{Found, NotFound, Failed, Memory}
use Rattle.swh_inputs.specs.Input.{InputText}
use Rattle.swh_inputs.specs.Input.InputText.{StreamText, FolderText, BatchText}
use Rattle.swh_inputs.specs.Opening.{found_as, listing_found, found_first, opening_of, kind_of}
use Rattle.swh_inputs.specs.Parts.{Parts, TellAll, both_given, given, listing_given, text_of, IfBothFound, RoseOf, HasFailed, IsSameSource, IsSameFolder, IsSamePart, IsSameListing, IsSameInput}
use Rattle.swh_inputs.specs.declared.input.Input.{Input as OpenedInput}
use Rattle.swh_inputs.specs.declared.input.Input.TheVariants.{Fast, Dir, Batch}
use Rattle.swh_jobs.specs.Job.{JobInput}
use Rattle.swh_jobs.specs.Job.JobInput.{StreamAt, FolderAt as FolderIn, BatchAt}
use Rattle.swh_program.specs.Dated.{IsPartBack, IsOpenedAt, IsListingAt, IsInputAt, IsGivenBack}
use Rattle.swh_program.specs.Found.{kind_at, listing_at, found_at, paths_of, HasFailed as PathFailed}
use Rattle.swh_program.specs.Inputs.{Inputs}
use Rattle.swh_program.proofs.Rises.{rose_since, rose_until, rose_above}

-- ## One part

module _ {X Y : Type 0} (tell : Type 0) (holds : X → Y) (faults : X → ℕ) (place : X → List ℕ) (at : List ℕ → Option Y) (failures failures_now : List ℕ → ℕ) where
  -- what a part that was found has stands at its path
  part_given : tell → (path : List ℕ) (x : Opened X) → IsOpenedAt tell holds faults place at failures failures_now path x → found_as x ≡ Found → at path ≡ given holds x
  part_given t path (part.Found x) is e = is.found t
  part_given t path part.NotFound is e = absurd cc
  part_given t path part.Failed is e = absurd cc
  part_given t path part.Memory is e = absurd cc

  part_none : tell → (path : List ℕ) (x : Opened X) → IsOpenedAt tell holds faults place at failures failures_now path x → found_as x ≡ NotFound → at path ≡ None
  part_none t path (part.Found x) is e = absurd cc
  part_none t path part.NotFound is e = is.absent t tt
  part_none t path part.Failed is e = absurd cc
  part_none t path part.Memory is e = absurd cc

  part_failed : (path : List ℕ) (x : Opened X) → IsOpenedAt tell holds faults place at failures failures_now path x → found_as x ≡ Failed → Rose (failures path) (failures_now path)
  part_failed path (part.Found x) is e = absurd cc
  part_failed path part.NotFound is e = absurd cc
  part_failed path part.Failed is e = is.failed tt
  part_failed path part.Memory is e = absurd cc

  -- a part that failed in a load and was given back
  part_rose : (after : List ℕ → ℕ) → ((p : List ℕ) → failures p ≤ failures_now p) → (IsSame : X → X → Type 0) → ((x y : X) → IsSame x y → place y ≡ place x) → (path : List ℕ) (x y : Opened X)
      → IsOpenedAt tell holds faults place at failures failures_now path x → IsSamePart IsSame x y → IsPartBack faults place failures_now after y → IfBothFound (RoseOf faults) x y → Rose (failures path) (after path)
  part_rose after early IsSame places path (part.Found x) (part.Found y) is same back rose =
      let there : place y ≡ path = places x y same ∙ is.at_path in
      rose_since (failures path) (failures_now path) (after path) (early path) (subst (λ (p : List ℕ). Rose (failures_now p) (after p)) there (back (rose_above (faults x) (faults y) rose)))
  part_rose after early IsSame places path (part.Found x) part.NotFound is same back rose = absurd rose
  part_rose after early IsSame places path (part.Found x) part.Failed is same back rose = absurd rose
  part_rose after early IsSame places path (part.Found x) part.Memory is same back rose = absurd rose
  part_rose after early IsSame places path part.NotFound y is same back rose = absurd rose
  part_rose after early IsSame places path part.Failed y is same back rose = absurd rose
  part_rose after early IsSame places path part.Memory y is same back rose = absurd rose

-- ## How two parts were found

first_found : (a b : Opening) → found_first a b ≡ Found → (a ≡ Found) × (b ≡ Found)
first_found Found b e = (refl, e)
first_found NotFound b e = absurd cc
first_found Failed b e = absurd cc
first_found Memory b e = absurd cc

first_none : (a b : Opening) → found_first a b ≡ NotFound → (a ≡ NotFound) ⊎ ((a ≡ Found) × (b ≡ NotFound))
first_none Found b e = inr (refl, e)
first_none NotFound b e = inl refl
first_none Failed b e = absurd cc
first_none Memory b e = absurd cc

first_failed : (a b : Opening) → found_first a b ≡ Failed → (a ≡ Failed) ⊎ ((a ≡ Found) × (b ≡ Failed))
first_failed Found b e = inr (refl, e)
first_failed NotFound b e = absurd cc
first_failed Failed b e = inl refl
first_failed Memory b e = absurd cc

none_second : {X Y Z : Type 0} (f : X → Y → Z) (x : Option X) → both_given f x None ≡ None
none_second f (Some x) = refl
none_second f None = refl

-- the kind of an input that was opened is the job's
pub same_kind : {S F : Type 0} (p : Parts S F) (of_jobs : Inputs) (job : JobInput) (i : OpenedInput S F) → IsInputAt p of_jobs job i → kind_of i ≡ kind_at job
same_kind p of_jobs (StreamAt path head) (Fast stream other) is = refl
same_kind p of_jobs (StreamAt path head) (Dir folder modes) is = absurd is
same_kind p of_jobs (StreamAt path head) (Batch objects refs) is = absurd is
same_kind p of_jobs (FolderIn path modes) (Fast stream head) is = absurd is
same_kind p of_jobs (FolderIn path modes) (Dir folder listing) is = refl
same_kind p of_jobs (FolderIn path modes) (Batch objects refs) is = absurd is
same_kind p of_jobs (BatchAt path refs) (Fast stream head) is = absurd is
same_kind p of_jobs (BatchAt path refs) (Dir folder modes) is = absurd is
same_kind p of_jobs (BatchAt path refs) (Batch objects others) is = refl

-- ## An input

module _ {S F : Type 0} (p : Parts S F) (of_jobs : Inputs) where
  abbrev at : JobInput → Option InputText
  at job = found_at of_jobs.files of_jobs.folders job

  source_given : of_jobs.tell → (path : List ℕ) (x : Opened S) → IsOpenedAt of_jobs.tell p.sources.left p.sources.faults p.sources.path of_jobs.files of_jobs.failures of_jobs.failures_now path x → found_as x ≡ Found → of_jobs.files path ≡ given p.sources.left x
  source_given t path x is e = part_given of_jobs.tell p.sources.left p.sources.faults p.sources.path of_jobs.files of_jobs.failures of_jobs.failures_now t path x is e

  source_none : of_jobs.tell → (path : List ℕ) (x : Opened S) → IsOpenedAt of_jobs.tell p.sources.left p.sources.faults p.sources.path of_jobs.files of_jobs.failures of_jobs.failures_now path x → found_as x ≡ NotFound → of_jobs.files path ≡ None
  source_none t path x is e = part_none of_jobs.tell p.sources.left p.sources.faults p.sources.path of_jobs.files of_jobs.failures of_jobs.failures_now t path x is e

  source_failed : (path : List ℕ) (x : Opened S) → IsOpenedAt of_jobs.tell p.sources.left p.sources.faults p.sources.path of_jobs.files of_jobs.failures of_jobs.failures_now path x → found_as x ≡ Failed → Rose (of_jobs.failures path) (of_jobs.failures_now path)
  source_failed path x is e = part_failed of_jobs.tell p.sources.left p.sources.faults p.sources.path of_jobs.files of_jobs.failures of_jobs.failures_now path x is e

  folder_given : of_jobs.tell → (path : List ℕ) (x : Opened F) → IsOpenedAt of_jobs.tell p.folders.holds p.folders.faults p.folders.path of_jobs.folders of_jobs.failures of_jobs.failures_now path x → found_as x ≡ Found → of_jobs.folders path ≡ given p.folders.holds x
  folder_given t path x is e = part_given of_jobs.tell p.folders.holds p.folders.faults p.folders.path of_jobs.folders of_jobs.failures of_jobs.failures_now t path x is e

  folder_none : of_jobs.tell → (path : List ℕ) (x : Opened F) → IsOpenedAt of_jobs.tell p.folders.holds p.folders.faults p.folders.path of_jobs.folders of_jobs.failures of_jobs.failures_now path x → found_as x ≡ NotFound → of_jobs.folders path ≡ None
  folder_none t path x is e = part_none of_jobs.tell p.folders.holds p.folders.faults p.folders.path of_jobs.folders of_jobs.failures of_jobs.failures_now t path x is e

  folder_failed : (path : List ℕ) (x : Opened F) → IsOpenedAt of_jobs.tell p.folders.holds p.folders.faults p.folders.path of_jobs.folders of_jobs.failures of_jobs.failures_now path x → found_as x ≡ Failed → Rose (of_jobs.failures path) (of_jobs.failures_now path)
  folder_failed path x is e = part_failed of_jobs.tell p.folders.holds p.folders.faults p.folders.path of_jobs.folders of_jobs.failures of_jobs.failures_now path x is e

  -- a listing
  modes_given : of_jobs.tell → (path : Option (List ℕ)) (x : Option (Opened S)) → IsListingAt p of_jobs path x → listing_found x ≡ Found → listing_at of_jobs.files path ≡ listing_given p.sources.left x
  modes_given t None None is e = refl
  modes_given t None (Some x) is e = absurd is
  modes_given t (Some path) None is e = absurd is
  modes_given t (Some path) (Some x) is e = ap (option_map Some) (source_given t path x is e)

  modes_none : of_jobs.tell → (path : Option (List ℕ)) (x : Option (Opened S)) → IsListingAt p of_jobs path x → listing_found x ≡ NotFound → listing_at of_jobs.files path ≡ None
  modes_none t None None is e = absurd cc
  modes_none t None (Some x) is e = absurd is
  modes_none t (Some path) None is e = absurd is
  modes_none t (Some path) (Some x) is e = ap (option_map Some) (source_none t path x is e)

  modes_failed : (path : List ℕ) (modes : Option (List ℕ)) (x : Option (Opened S)) → IsListingAt p of_jobs modes x → listing_found x ≡ Failed → PathFailed of_jobs.failures of_jobs.failures_now (FolderIn path modes)
  modes_failed path None None is e = absurd cc
  modes_failed path None (Some x) is e = absurd is
  modes_failed path (Some modes) None is e = absurd is
  modes_failed path (Some modes) (Some x) is e = record { path = modes; among = (1, omega arith, refl); rose = source_failed modes x is e }

  -- the text of an input that was found stands at its paths
  pub same_text : of_jobs.tell → (job : JobInput) (i : OpenedInput S F) → IsInputAt p of_jobs job i → opening_of i ≡ Found → at job ≡ text_of p i
  same_text t (StreamAt path head) (Fast stream other) is e = ap (option_map (StreamText head)) (source_given t path stream is.0 e) ∙ ap (λ (h : Option (List ℕ)). option_map (StreamText h) (given p.sources.left stream)) (sym is.1)
  same_text t (StreamAt path head) (Dir folder modes) is e = absurd is
  same_text t (StreamAt path head) (Batch objects refs) is e = absurd is
  same_text t (FolderIn path modes) (Fast stream head) is e = absurd is
  same_text t (FolderIn path modes) (Dir folder listing) is e =
      let both = first_found (found_as folder) (listing_found listing) e in
      λ k. both_given FolderText (folder_given t path folder is.0 both.0 k) (modes_given t modes listing is.1 both.1 k)
  same_text t (FolderIn path modes) (Batch objects refs) is e = absurd is
  same_text t (BatchAt path refs) (Fast stream head) is e = absurd is
  same_text t (BatchAt path refs) (Dir folder modes) is e = absurd is
  same_text t (BatchAt path refs) (Batch objects others) is e =
      let both = first_found (found_as objects) (found_as others) e in
      λ k. both_given BatchText (source_given t path objects is.0 both.0 k) (source_given t refs others is.1 both.1 k)

  -- nothing stands at a path of one that was not found
  pub no_text : of_jobs.tell → (job : JobInput) (i : OpenedInput S F) → IsInputAt p of_jobs job i → opening_of i ≡ NotFound → at job ≡ None
  no_text t (StreamAt path head) (Fast stream other) is e = ap (option_map (StreamText head)) (source_none t path stream is.0 e)
  no_text t (StreamAt path head) (Dir folder modes) is e = absurd is
  no_text t (StreamAt path head) (Batch objects refs) is e = absurd is
  no_text t (FolderIn path modes) (Fast stream head) is e = absurd is
  no_text t (FolderIn path modes) (Dir folder listing) is e = by_which (first_none (found_as folder) (listing_found listing) e)
    where
      by_which : (found_as folder ≡ NotFound) ⊎ ((found_as folder ≡ Found) × (listing_found listing ≡ NotFound)) → at (FolderIn path modes) ≡ None
      by_which (inl first) = ap (λ x. both_given FolderText x (listing_at of_jobs.files modes)) (folder_none t path folder is.0 first)
      by_which (inr second) = ap (both_given FolderText (of_jobs.folders path)) (modes_none t modes listing is.1 second.1) ∙ none_second FolderText (of_jobs.folders path)
  no_text t (FolderIn path modes) (Batch objects refs) is e = absurd is
  no_text t (BatchAt path refs) (Fast stream head) is e = absurd is
  no_text t (BatchAt path refs) (Dir folder modes) is e = absurd is
  no_text t (BatchAt path refs) (Batch objects others) is e = by_which (first_none (found_as objects) (found_as others) e)
    where
      by_which : (found_as objects ≡ NotFound) ⊎ ((found_as objects ≡ Found) × (found_as others ≡ NotFound)) → at (BatchAt path refs) ≡ None
      by_which (inl first) = ap (λ x. both_given BatchText x (of_jobs.files refs)) (source_none t path objects is.0 first)
      by_which (inr second) = ap (both_given BatchText (of_jobs.files path)) (source_none t refs others is.1 second.1) ∙ none_second BatchText (of_jobs.files path)

  -- a path of one that does not open has failed
  pub opening_failed : (job : JobInput) (i : OpenedInput S F) → IsInputAt p of_jobs job i → opening_of i ≡ Failed → PathFailed of_jobs.failures of_jobs.failures_now job
  opening_failed (StreamAt path head) (Fast stream other) is e = record { path = path; among = (0, omega arith, refl); rose = source_failed path stream is.0 e }
  opening_failed (StreamAt path head) (Dir folder modes) is e = absurd is
  opening_failed (StreamAt path head) (Batch objects refs) is e = absurd is
  opening_failed (FolderIn path modes) (Fast stream head) is e = absurd is
  opening_failed (FolderIn path modes) (Dir folder listing) is e = by_which (first_failed (found_as folder) (listing_found listing) e)
    where
      first_among : (m : Option (List ℕ)) → Contains (paths_of (FolderIn path m)) path
      first_among None = (0, omega arith, refl)
      first_among (Some m) = (0, omega arith, refl)

      by_which : (found_as folder ≡ Failed) ⊎ ((found_as folder ≡ Found) × (listing_found listing ≡ Failed)) → PathFailed of_jobs.failures of_jobs.failures_now (FolderIn path modes)
      by_which (inl first) = record { path = path; among = first_among modes; rose = folder_failed path folder is.0 first }
      by_which (inr second) = modes_failed path modes listing is.1 second.1
  opening_failed (FolderIn path modes) (Batch objects refs) is e = absurd is
  opening_failed (BatchAt path refs) (Fast stream head) is e = absurd is
  opening_failed (BatchAt path refs) (Dir folder modes) is e = absurd is
  opening_failed (BatchAt path refs) (Batch objects others) is e = by_which (first_failed (found_as objects) (found_as others) e)
    where
      by_which : (found_as objects ≡ Failed) ⊎ ((found_as objects ≡ Found) × (found_as others ≡ Failed)) → PathFailed of_jobs.failures of_jobs.failures_now (BatchAt path refs)
      by_which (inl first) = record { path = path; among = (0, omega arith, refl); rose = source_failed path objects is.0 first }
      by_which (inr second) = record { path = refs; among = (1, omega arith, refl); rose = source_failed refs others is.1 second.1 }

  -- and so has a path of one that failed while it was read, once it is given back
  module _ (after : List ℕ → ℕ) (early : (q : List ℕ) → of_jobs.failures q ≤ of_jobs.failures_now q) where
    source_rose : (path : List ℕ) (x y : Opened S) → IsOpenedAt of_jobs.tell p.sources.left p.sources.faults p.sources.path of_jobs.files of_jobs.failures of_jobs.failures_now path x → IsSamePart (IsSameSource p.sources) x y
        → IsPartBack p.sources.faults p.sources.path of_jobs.failures_now after y → IfBothFound (RoseOf p.sources.faults) x y → Rose (of_jobs.failures path) (after path)
    source_rose path x y is same back rose = part_rose of_jobs.tell p.sources.left p.sources.faults p.sources.path of_jobs.files of_jobs.failures of_jobs.failures_now after early (IsSameSource p.sources) (λ x y s. s.0) path x y is same back rose

    folder_rose : (path : List ℕ) (x y : Opened F) → IsOpenedAt of_jobs.tell p.folders.holds p.folders.faults p.folders.path of_jobs.folders of_jobs.failures of_jobs.failures_now path x → IsSamePart (IsSameFolder p.folders) x y
        → IsPartBack p.folders.faults p.folders.path of_jobs.failures_now after y → IfBothFound (RoseOf p.folders.faults) x y → Rose (of_jobs.failures path) (after path)
    folder_rose path x y is same back rose = part_rose of_jobs.tell p.folders.holds p.folders.faults p.folders.path of_jobs.folders of_jobs.failures of_jobs.failures_now after early (IsSameFolder p.folders) (λ x y s. s.path) path x y is same back rose

    pub read_failed : (job : JobInput) (i now : OpenedInput S F) → IsInputAt p of_jobs job i → IsSameInput p i now → IsGivenBack p of_jobs.failures_now after now → HasFailed p i now → PathFailed of_jobs.failures after job
    read_failed (StreamAt path head) (Fast stream other) (Fast now next) is same back rose = record { path = path; among = (0, omega arith, refl); rose = source_rose path stream now is.0 same.0 back rose }
    read_failed (FolderIn path None) (Dir folder None) (Dir now None) is same back rose = record { path = path; among = (0, omega arith, refl); rose = folder_rose path folder now is.0 same.0 back.0 rose }
    read_failed (FolderIn path (Some modes)) (Dir folder (Some listing)) (Dir now (Some next)) is same back (inl rose) = record { path = path; among = (0, omega arith, refl); rose = folder_rose path folder now is.0 same.0 back.0 rose }
    read_failed (FolderIn path (Some modes)) (Dir folder (Some listing)) (Dir now (Some next)) is same back (inr rose) = record { path = modes; among = (1, omega arith, refl); rose = source_rose modes listing next is.1 same.1 back.1 rose }
    read_failed (BatchAt path refs) (Batch objects others) (Batch now next) is same back (inl rose) = record { path = path; among = (0, omega arith, refl); rose = source_rose path objects now is.0 same.0 back.0 rose }
    read_failed (BatchAt path refs) (Batch objects others) (Batch now next) is same back (inr rose) = record { path = refs; among = (1, omega arith, refl); rose = source_rose refs others next is.1 same.1 back.1 rose }
    read_failed job (Fast stream head) (Dir now listing) is same back rose = absurd rose
    read_failed job (Fast stream head) (Batch now others) is same back rose = absurd rose
    read_failed job (Dir folder modes) (Fast now other) is same back rose = absurd same
    read_failed job (Dir folder modes) (Batch now others) is same back rose = absurd same
    read_failed job (Dir folder None) (Dir now (Some listing)) is same back rose = absurd same.1
    read_failed job (Dir folder (Some modes)) (Dir now None) is same back rose = absurd same.1
    read_failed job (Batch objects refs) (Fast now other) is same back rose = absurd same
    read_failed job (Batch objects refs) (Dir now listing) is same back rose = absurd same
    read_failed (StreamAt path head) (Dir folder modes) now is same back rose = absurd is
    read_failed (StreamAt path head) (Batch objects refs) now is same back rose = absurd is
    read_failed (FolderIn path modes) (Fast stream head) now is same back rose = absurd is
    read_failed (FolderIn path modes) (Batch objects refs) now is same back rose = absurd is
    read_failed (FolderIn path None) (Dir folder (Some modes)) now is same back rose = absurd is.1
    read_failed (FolderIn path (Some modes)) (Dir folder None) now is same back rose = absurd is.1
    read_failed (BatchAt path refs) (Fast stream head) now is same back rose = absurd is
    read_failed (BatchAt path refs) (Dir folder modes) now is same back rose = absurd is

-- a path that had failed once has failed at the end
pub failed_until : (a b c : List ℕ → ℕ) → ((q : List ℕ) → b q ≤ c q) → (job : JobInput) → PathFailed a b job → PathFailed a c job
failed_until a b c late job f = record { path = f.path; among = f.among; rose = rose_until (a f.path) (b f.path) (c f.path) f.rose (late f.path) }
