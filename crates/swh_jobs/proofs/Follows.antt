-- One job more: what lets it follow.
use Rattle.std.proofs.Common.{◌≡◌, ⊎_elim, ℕ, zero, suc, ◌+◌, List, [], ◌∷◌, ◌++◌, length, map, Contains, sym, subst, arith, length-append}
use Rattle.std.proofs.lemmas.List.{map-append, map_push}
use Rattle.std.proofs.lemmas.List.Elements.{Contains-push_cases}
use Rattle.swh_base.proofs.DirectoryLemmas.{all-at, all-push}
use Rattle.swh_jobs.specs.Job.{Job, IsJob}
use Rattle.swh_jobs.specs.JobFile.{AreDistinct, AreJobs, BeginsJob, LineBreaks, origins}
use Rattle.swh_jobs.specs.Reading.{MayFollowJobs}
use Rattle.swh_jobs.specs.declared.fault.JobWhy.{JobWhy}
use Rattle.swh_jobs.specs.declared.fault.JobWhy.TheVariants.{Form, Origin, Limit}
use Rattle.swh_jobs.proofs.Lines.{one_begins}

head_in : {X : Type 0} (x y : X) (xs : List X) → x ≡ y → Contains (x ∷ xs) y
head_in x y xs e = (0, omega arith, e)

tail_in : {X : Type 0} (x y : X) (xs : List X) → Contains xs y → Contains (x ∷ xs) y
tail_in x y xs h = let l = h.1 in (suc h.0, omega (arith, l), h.2)

pub distinct-push : (urls : List (List ℕ)) (url : List ℕ) → AreDistinct urls → (Contains urls url → ⊥) → AreDistinct (urls ++ url ∷ [])
distinct-push [] url h fresh = (λ c. let l = c.1 in absurd (omega (arith, l)), tt)
distinct-push (u ∷ urls) url h fresh =
    (λ c. ⊎_elim h.0 (λ (e : url ≡ u). fresh (head_in u url urls (sym e))) (Contains-push_cases urls url u c), distinct-push urls url h.1 (λ c. fresh (tail_in u url urls c)))

-- what stands after others is none of them
distinct-fresh : (urls : List (List ℕ)) (url : List ℕ) (more : List (List ℕ)) → AreDistinct (urls ++ url ∷ more) → Contains urls url → ⊥
distinct-fresh [] url more h c = let l = c.1 in absurd (omega (arith, l))
distinct-fresh (u ∷ urls) url more h (zero, l, e) = h.0 (there urls)
  where
    there : (xs : List (List ℕ)) → Contains (xs ++ url ∷ more) u
    there [] = head_in url u more (sym e)
    there (x ∷ xs) = tail_in x u (xs ++ url ∷ more) (there xs)
distinct-fresh (u ∷ urls) url more h (suc k, l, e) = distinct-fresh urls url more h.1 (k, omega arith, e)

-- the jobs with one more
pub jobs-push : (before : List Job) (job : Job) → AreJobs before → MayFollowJobs before job → AreJobs (before ++ job ∷ [])
jobs-push before job are h = record {
  each = all-push IsJob before job are.each h.is_job;
  distinct = subst AreDistinct (sym (map_push (λ (j : Job). j.url) before job)) (distinct-push (origins before) job.url are.distinct h.fresh);
  few = let room = h.room in omega (arith, room, length-append before (job ∷ []));
}

-- each of the jobs may follow those before it
pub jobs-next : (before : List Job) (job : Job) (more : List Job) → AreJobs (before ++ job ∷ more) → MayFollowJobs before job
jobs-next before job more are = record {
  room = let few = are.few in omega (arith, few, length-append before (job ∷ more));
  is_job = all-at IsJob before job more are.each;
  fresh = distinct-fresh (origins before) job.url (origins more) (subst AreDistinct (map-append (λ (j : Job). j.url) before (job ∷ more)) are.distinct);
}

-- The bytes begin with the line of a job that may follow these.
pub record BeginsNext (before : List Job) (bytes : List ℕ) : Type 0 where
  pub job : Job
  pub begins : BeginsJob bytes job
  pub follows : MayFollowJobs before job

-- where bytes break they go on with no such job
pub breaks-not_next : (why : JobWhy) (before : List Job) (bytes : List ℕ) → LineBreaks before bytes why → BeginsNext before bytes → ⊥
breaks-not_next Form before bytes h n = h.1 n.job n.begins
breaks-not_next Origin before bytes h n = n.follows.fresh (subst (λ (j : Job). Contains (origins before) j.url) (one_begins bytes h.1.job n.job h.1.begins n.begins) h.1.again)
breaks-not_next Limit before bytes h n = let room = n.follows.room in absurd (omega (arith, room, h))
