-- Bytes spell one list of jobs, or have one first fault.
use Rattle.std.proofs.Common.{◌≡◌, ◌≢◌, inl, inr, ⊎_elim, ℕ, ◌+◌, List, [], ◌∷◌, ◌++◌, length, refl, sym, ap, ◌∙◌, subst, append_assoc, arith}
use Rattle.std.proofs.lemmas.List.{append-nil}
use Rattle.std.specs.List.{AllByRecursion}
use Rattle.swh_base.proofs.Splits.{not_nil}
use Rattle.swh_jobs.specs.Answers.{ExplainsJobs, SpellsNone}
use Rattle.swh_jobs.specs.Job.{Job, JobInput, IsJob, fields_of, fields_text, line_text}
use Rattle.swh_jobs.specs.Job.JobInput.{StreamAt, FolderAt, BatchAt}
use Rattle.swh_jobs.specs.JobFile.{AreJobs, LineBreaks, EndsLine, IsJobFileFault, IsJobFile, lines_text}
use Rattle.swh_jobs.specs.declared.fault.JobWhy.{JobWhy}
use Rattle.swh_jobs.specs.declared.fault.JobWhy.TheVariants.{Form, Origin, Limit}
use Rattle.swh_jobs.specs.declared.fault.JobsFault.{JobsFault}
use Rattle.swh_jobs.specs.declared.fault.JobsFault.TheVariants.{Bad, Memory}
use Rattle.swh_jobs.proofs.Follows.{BeginsNext, breaks-not_next, jobs-next}
use Rattle.swh_jobs.proofs.Lines.{one_front, read_on}

lines-not_nil : (job : Job) (jobs : List Job) → [] ≡ lines_text (job ∷ jobs) → ⊥
lines-not_nil job jobs e = not_nil (line_text job) (lines_text jobs) 10 (sym e)

-- no job's line is empty
feed-no_fields : (url more : List ℕ) (input : JobInput) → 10 ∷ [] ≡ fields_text url (fields_of input) ++ more → ⊥
feed-no_fields url more (StreamAt path head) e = cc
feed-no_fields url more (FolderAt path modes) e = cc
feed-no_fields url more (BatchAt path refs) e = cc

feed-no_lines : (jobs : List Job) → 10 ∷ [] ≡ lines_text jobs → ⊥
feed-no_lines [] e = cc
feed-no_lines (job ∷ jobs) e = feed-no_fields job.url (10 ∷ lines_text jobs) job.input e

-- the same lines
same_lines : (jobs others : List Job) → AllByRecursion IsJob jobs → AllByRecursion IsJob others → lines_text jobs ≡ lines_text others → jobs ≡ others
same_lines jobs others h k e = by_more (read_on jobs others [] h k (append-nil (lines_text jobs) ∙ e))
  where
    by_more : (more : List Job) × (others ≡ jobs ++ more) × ([] ≡ lines_text more) → jobs ≡ others
    by_more ([], all, none) = sym (append-nil jobs) ∙ sym all
    by_more (m ∷ more, all, none) = absurd (lines-not_nil m more none)

-- an LF after whole lines is no line of a job
no_feed_behind : (jobs others : List Job) → AllByRecursion IsJob jobs → AllByRecursion IsJob others → lines_text jobs ++ 10 ∷ [] ≡ lines_text others → ⊥
no_feed_behind jobs others h k e = let on = read_on jobs others (10 ∷ []) h k e in feed-no_lines on.0 on.2

pub one_reading_lem : (bytes : List ℕ) (jobs others : List Job) → IsJobFile bytes jobs → IsJobFile bytes others → jobs ≡ others
one_reading_lem bytes jobs others h k =
    ⊎_elim
    (λ (a : bytes ≡ lines_text jobs). ⊎_elim
    (λ (b : bytes ≡ lines_text others). same_lines jobs others h.good.each k.good.each (sym a ∙ b))
    (λ (b : bytes ++ 10 ∷ [] ≡ lines_text others). absurd (no_feed_behind jobs others h.good.each k.good.each (ap (λ (l : List ℕ). l ++ 10 ∷ []) (sym a) ∙ b)))
    k.text)
    (λ (a : bytes ++ 10 ∷ [] ≡ lines_text jobs). ⊎_elim
    (λ (b : bytes ≡ lines_text others). absurd (no_feed_behind others jobs k.good.each h.good.each (ap (λ (l : List ℕ). l ++ 10 ∷ []) (sym b) ∙ a)))
    (λ (b : bytes ++ 10 ∷ [] ≡ lines_text others). same_lines jobs others h.good.each k.good.each (sym a ∙ b))
    k.text)
    h.text

-- a line that lacks its LF
unfed : (rest line x : List ℕ) → rest ++ 10 ∷ [] ≡ line ++ 10 ∷ x → (behind : List ℕ) × (rest ≡ line ++ behind) × EndsLine behind
unfed [] [] x e = ([], refl, inl refl)
unfed [] (c ∷ line) x e = absurd (not_nil line x 10 (cc))
unfed (d ∷ rest) [] x e = let first : d ≡ 10 = cc in (d ∷ rest, refl, inr (rest, ap (λ (b : ℕ). b ∷ rest) first))
unfed (d ∷ rest) (c ∷ line) x e =
    let first : d ≡ c = cc in
    let after : rest ++ 10 ∷ [] ≡ line ++ 10 ∷ x = cc in
    let cut = unfed rest line x after in
    (cut.0, ap (λ (b : ℕ). b ∷ rest) first ∙ ap (λ (l : List ℕ). c ∷ l) cut.1, cut.2)

module _ (why : JobWhy) (before : List Job) (rest : List ℕ) (good : AreJobs before) (more : rest ≢ []) (breaks : LineBreaks before rest why) (all : List Job) (are : AreJobs all) where
  -- lines that break do not go on as the lines of jobs
  no_lines : lines_text before ++ rest ≡ lines_text all → ⊥
  no_lines e = by_more (read_on before all rest good.each are.each e)
    where
      by_more : (others : List Job) × (all ≡ before ++ others) × (rest ≡ lines_text others) → ⊥
      by_more ([], a, r) = more r
      by_more (m ∷ others, a, r) =
          let next = jobs-next before m others (subst AreJobs a are) in
          breaks-not_next why before rest breaks (record { job = m; begins = record { is_job = next.is_job; behind = 10 ∷ lines_text others; text = r; ends = inr (lines_text others, refl) }; follows = next })

  no_unfed_lines : lines_text before ++ (rest ++ 10 ∷ []) ≡ lines_text all → ⊥
  no_unfed_lines e = by_more (read_on before all (rest ++ 10 ∷ []) good.each are.each e)
    where
      by_more : (others : List Job) × (all ≡ before ++ others) × (rest ++ 10 ∷ [] ≡ lines_text others) → ⊥
      by_more ([], a, r) = not_nil rest [] 10 r
      by_more (m ∷ others, a, r) =
          let next = jobs-next before m others (subst AreJobs a are) in
          let cut = unfed rest (line_text m) (lines_text others) r in
          breaks-not_next why before rest breaks (record { job = m; begins = record { is_job = next.is_job; behind = cut.0; text = cut.1; ends = cut.2 }; follows = next })

pub no_jobs_lem : (bytes : List ℕ) (line : ℕ) (why : JobWhy) (jobs : List Job) → IsJobFileFault bytes line why → IsJobFile bytes jobs → ⊥
no_jobs_lem bytes line why jobs f h =
    ⊎_elim
    (λ (e : bytes ≡ lines_text jobs). no_lines why f.before f.rest f.good f.more f.breaks jobs h.good (sym f.text ∙ e))
    (λ (e : bytes ++ 10 ∷ [] ≡ lines_text jobs). no_unfed_lines why f.before f.rest f.good f.more f.breaks jobs h.good (sym (append_assoc (lines_text f.before) f.rest (10 ∷ [])) ∙ ap (λ (l : List ℕ). l ++ 10 ∷ []) (sym f.text) ∙ e))
    h.text

pub spells_none : (bytes : List ℕ) (fault : JobsFault) → ExplainsJobs bytes fault → SpellsNone bytes fault
spells_none bytes (Bad line why) f = λ jobs h. no_jobs_lem bytes line why jobs f h
spells_none bytes Memory f = tt

-- Two fronts of jobs' lines that go as far as they can are one.
same_front : (pre js ks : List Job) (r q : List ℕ) → AreJobs (pre ++ js) → AreJobs (pre ++ ks) → lines_text js ++ r ≡ lines_text ks ++ q → (BeginsNext (pre ++ js) r → ⊥) → (BeginsNext (pre ++ ks) q → ⊥) → (js ≡ ks) × (r ≡ q)
same_front pre [] [] r q a b e n m = (refl, e)
same_front pre [] (k ∷ ks) r q a b e n m =
    let next = jobs-next pre k ks b in
    absurd (n (subst (λ (xs : List Job). BeginsNext xs r) (sym (append-nil pre)) (record { job = k; begins = record { is_job = next.is_job; behind = 10 ∷ (lines_text ks ++ q); text = e ∙ append_assoc (line_text k) (10 ∷ lines_text ks) q; ends = inr (lines_text ks ++ q, refl) }; follows = next })))
same_front pre (j ∷ js) [] r q a b e n m =
    let next = jobs-next pre j js a in
    absurd (m (subst (λ (xs : List Job). BeginsNext xs q) (sym (append-nil pre)) (record { job = j; begins = record { is_job = next.is_job; behind = 10 ∷ (lines_text js ++ r); text = sym e ∙ append_assoc (line_text j) (10 ∷ lines_text js) r; ends = inr (lines_text js ++ r, refl) }; follows = next })))
same_front pre (j ∷ js) (k ∷ ks) r q a b e n m =
    let one = one_front j k (lines_text js ++ r) (lines_text ks ++ q) (jobs-next pre j js a).is_job (jobs-next pre k ks b).is_job (sym (append_assoc (line_text j) (10 ∷ lines_text js) r) ∙ e ∙ append_assoc (line_text k) (10 ∷ lines_text ks) q) in
    let first = one.0 in
    let left : pre ++ j ∷ js ≡ (pre ++ j ∷ []) ++ js = sym (append_assoc pre (j ∷ []) js) in
    let right : pre ++ k ∷ ks ≡ (pre ++ j ∷ []) ++ ks = ap (λ (y : Job). pre ++ y ∷ ks) (sym first) ∙ sym (append_assoc pre (j ∷ []) ks) in
    let others = same_front (pre ++ j ∷ []) js ks r q (subst AreJobs left a) (subst AreJobs right b) one.1 (λ h. n (subst (λ (xs : List Job). BeginsNext xs r) (sym left) h)) (λ h. m (subst (λ (xs : List Job). BeginsNext xs q) (sym right) h)) in
    (ap (λ (y : Job). y ∷ js) first ∙ ap (λ (ys : List Job). k ∷ ys) others.0, others.1)

-- bytes break in one way
same_why : (a b : JobWhy) (before : List Job) (rest : List ℕ) → LineBreaks before rest a → LineBreaks before rest b → a ≡ b
same_why Form Form before rest h k = refl
same_why Form Origin before rest h k = absurd (h.1 k.1.job k.1.begins)
same_why Form Limit before rest h k = let l = h.0 in absurd (omega (arith, l, k))
same_why Origin Form before rest h k = absurd (k.1 h.1.job h.1.begins)
same_why Origin Origin before rest h k = refl
same_why Origin Limit before rest h k = let l = h.0 in absurd (omega (arith, l, k))
same_why Limit Form before rest h k = let l = k.0 in absurd (omega (arith, l, h))
same_why Limit Origin before rest h k = let l = k.0 in absurd (omega (arith, l, h))
same_why Limit Limit before rest h k = refl

pub one_fault_lem : (bytes : List ℕ) (line other : ℕ) (why because : JobWhy) → IsJobFileFault bytes line why → IsJobFileFault bytes other because → (line ≡ other) × (why ≡ because)
one_fault_lem bytes line other why because f g =
    let same = same_front [] f.before g.before f.rest g.rest f.good g.good (sym f.text ∙ g.text) (breaks-not_next why f.before f.rest f.breaks) (breaks-not_next because g.before g.rest g.breaks) in
    let moved = subst (λ (js : List Job). LineBreaks js g.rest because) (sym same.0) g.breaks in
    (f.here ∙ ap (λ (js : List Job). length js + 1) same.0 ∙ sym g.here, same_why why because f.before f.rest f.breaks (subst (λ (t : List ℕ). LineBreaks f.before t because) (sym same.1) moved))
