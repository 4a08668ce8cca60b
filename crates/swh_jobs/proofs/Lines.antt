-- Lines of jobs, one after another.
use Rattle.std.proofs.Common.{◌≡◌, ◌≢◌, inl, inr, ⊎_elim, ℕ, Option, Some, None, List, [], ◌∷◌, ◌++◌, Contains, refl, sym, ap, ◌∙◌, subst, arith, append_assoc, codes}
use Rattle.std.proofs.lemmas.List.{append-nil}
use Rattle.std.specs.List.{AllByRecursion}
use Rattle.std.specs.Prelude.{IfSome}
use Rattle.swh_base.proofs.Splits.{first_split, absent, not_nil}
use Rattle.swh_base.proofs.Middle.{in_middle}
use Rattle.swh_base.specs.Visit.{visit_kind_word}
use Rattle.swh_base.specs.declared.visit.VisitKind.{VisitKind}
use Rattle.swh_base.specs.declared.visit.VisitKind.TheVariants.{Fast, Dir, Batch}
use Rattle.swh_jobs.specs.Job.{Job, JobInput, HasNoFeed, IsJob, IsJobInput, IsJobPath, IsHeadText, fields_of, more_text, line_text}
use Rattle.swh_jobs.specs.Job.JobInput.{StreamAt, FolderAt, BatchAt}
use Rattle.swh_jobs.specs.JobFile.{BeginsJob, EndsLine, lines_text}
use Rattle.swh_jobs.specs.Reading.{IsFirstLine, IsLeft}
use Rattle.swh_base.proofs.Lacks.{not_in_middle, ref-no_feed}
use Rattle.swh_jobs.proofs.Cuts.{url-no_feed, one_job}

end-no_feed : (path : List ℕ) (more : Option (List ℕ)) → (Contains path 10 → ⊥) → IfSome more HasNoFeed → Contains (path ++ more_text more) 10 → ⊥
end-no_feed path None none h c = none (subst (λ (l : List ℕ). Contains l 10) (append-nil path) c)
end-no_feed path (Some more) none h c = not_in_middle path more 9 10 none (λ e. absurd (omega arith)) h c

head-no_feed : (head : Option (List ℕ)) → IfSome head IsHeadText → IfSome head HasNoFeed
head-no_feed None h = tt
head-no_feed (Some head) h = ref-no_feed head h.is_ref

modes-no_feed : (modes : Option (List ℕ)) → IfSome modes IsJobPath → IfSome modes HasNoFeed
modes-no_feed None h = tt
modes-no_feed (Some modes) h = h.no_feed

fields-no_feed : (input : JobInput) → IsJobInput input → Contains ((fields_of input).path ++ more_text (fields_of input).more) 10 → ⊥
fields-no_feed (StreamAt path head) h = end-no_feed path head h.0.no_feed (head-no_feed head h.1)
fields-no_feed (FolderAt path modes) h = end-no_feed path modes h.0.no_feed (modes-no_feed modes h.1)
fields-no_feed (BatchAt path refs) h = end-no_feed path (Some refs) h.0.no_feed h.1.no_feed

word-no_feed : (kind : VisitKind) → Contains (visit_kind_word kind) 10 → ⊥
word-no_feed Fast = absent 10 (codes "fast") refl
word-no_feed Dir = absent 10 (codes "dir") refl
word-no_feed Batch = absent 10 (codes "batch") refl

-- the line of a job has no LF
pub line-no_feed : (job : Job) → IsJob job → Contains (line_text job) 10 → ⊥
line-no_feed job h =
    let f = fields_of job.input in
    not_in_middle (visit_kind_word f.kind) (job.url ++ 9 ∷ (f.path ++ more_text f.more)) 9 10 (word-no_feed f.kind) (λ e. absurd (omega arith))
    (not_in_middle job.url (f.path ++ more_text f.more) 9 10 (url-no_feed job.url h.is_url) (λ e. absurd (omega arith)) (fields-no_feed job.input h.is_input))

-- the first of lines determines its job, and what follows
pub one_front : (a b : Job) (x y : List ℕ) → IsJob a → IsJob b → line_text a ++ 10 ∷ x ≡ line_text b ++ 10 ∷ y → (a ≡ b) × (x ≡ y)
one_front a b x y ha hb e =
    let both = first_split 10 (line_text a) (line_text b) x y (line-no_feed a ha) (line-no_feed b hb) e in
    (one_job (line_text a) a b (record { is_job = ha; text = refl }) (record { is_job = hb; text = both.0 }), both.1)

-- bytes begin with the line of one job at most
pub one_begins : (bytes : List ℕ) (a b : Job) → BeginsJob bytes a → BeginsJob bytes b → a ≡ b
one_begins bytes a b h k = by_ends h.ends k.ends
  where
    texts : line_text a ++ h.behind ≡ line_text b ++ k.behind
    texts = sym h.text ∙ k.text

    same : line_text a ≡ line_text b → a ≡ b
    same e = one_job (line_text a) a b (record { is_job = h.is_job; text = refl }) (record { is_job = k.is_job; text = e })

    by_ends : EndsLine h.behind → EndsLine k.behind → a ≡ b
    by_ends (inl x) (inl y) = same (sym (append-nil (line_text a)) ∙ ap (λ (l : List ℕ). line_text a ++ l) (sym x) ∙ texts ∙ ap (λ (l : List ℕ). line_text b ++ l) y ∙ append-nil (line_text b))
    by_ends (inl x) (inr y) =
        let e : line_text a ≡ line_text b ++ 10 ∷ y.0 = sym (append-nil (line_text a)) ∙ ap (λ (l : List ℕ). line_text a ++ l) (sym x) ∙ texts ∙ ap (λ (l : List ℕ). line_text b ++ l) y.1 in
        absurd (line-no_feed a h.is_job (subst (λ (l : List ℕ). Contains l 10) (sym e) (in_middle (line_text b) y.0 10)))
    by_ends (inr x) (inl y) =
        let e : line_text b ≡ line_text a ++ 10 ∷ x.0 = sym (append-nil (line_text b)) ∙ ap (λ (l : List ℕ). line_text b ++ l) (sym y) ∙ sym texts ∙ ap (λ (l : List ℕ). line_text a ++ l) x.1 in
        absurd (line-no_feed b k.is_job (subst (λ (l : List ℕ). Contains l 10) (sym e) (in_middle (line_text a) x.0 10)))
    by_ends (inr x) (inr y) = (one_front a b x.0 y.0 h.is_job k.is_job (ap (λ (l : List ℕ). line_text a ++ l) (sym x.1) ∙ texts ∙ ap (λ (l : List ℕ). line_text b ++ l) y.1)).0

-- one line more
lines-push : (jobs : List Job) (job : Job) (x : List ℕ) → lines_text (jobs ++ job ∷ []) ++ x ≡ lines_text jobs ++ (line_text job ++ 10 ∷ x)
lines-push [] job x = append_assoc (line_text job) (10 ∷ []) x
lines-push (j ∷ jobs) job x =
    append_assoc (line_text j) (10 ∷ lines_text (jobs ++ job ∷ [])) x
    ∙ ap (λ (l : List ℕ). line_text j ++ 10 ∷ l) (lines-push jobs job x)
    ∙ sym (append_assoc (line_text j) (10 ∷ lines_text jobs) (line_text job ++ 10 ∷ x))

-- what is left once one line more is read
pub read_more : (bytes : List ℕ) (jobs : List Job) (job : Job) (rest behind : List ℕ) → IsLeft bytes jobs rest → rest ≢ [] → IsFirstLine rest (line_text job) behind → IsLeft bytes (jobs ++ job ∷ []) behind
read_more bytes jobs job rest behind left more first = ⊎_elim by_cut (λ (end : (rest ≡ []) × (bytes ++ 10 ∷ [] ≡ lines_text jobs)). absurd (more end.0)) left
  where
    fed : bytes ≡ lines_text jobs ++ rest → rest ≡ line_text job ++ 10 ∷ behind → IsLeft bytes (jobs ++ job ∷ []) behind
    fed e cut = inl (e ∙ ap (λ (l : List ℕ). lines_text jobs ++ l) cut ∙ sym (lines-push jobs job behind))

    unfed : bytes ≡ lines_text jobs ++ rest → (rest ≡ line_text job) × (behind ≡ []) → IsLeft bytes (jobs ++ job ∷ []) behind
    unfed e cut = inr (cut.1, ap (λ (l : List ℕ). l ++ 10 ∷ []) e ∙ append_assoc (lines_text jobs) rest (10 ∷ []) ∙ ap (λ (l : List ℕ). lines_text jobs ++ (l ++ 10 ∷ [])) cut.0 ∙ sym (lines-push jobs job []) ∙ append-nil (lines_text (jobs ++ job ∷ [])))

    by_cut : bytes ≡ lines_text jobs ++ rest → IsLeft bytes (jobs ++ job ∷ []) behind
    by_cut e = ⊎_elim (fed e) (unfed e) first.text

-- what stands after the first line
pub first-ends : (bytes line rest : List ℕ) → IsFirstLine bytes line rest → (behind : List ℕ) × (bytes ≡ line ++ behind) × EndsLine behind
first-ends bytes line rest h = ⊎_elim fed unfed h.text
  where
    fed : bytes ≡ line ++ 10 ∷ rest → (behind : List ℕ) × (bytes ≡ line ++ behind) × EndsLine behind
    fed e = (10 ∷ rest, e, inr (rest, refl))

    unfed : (bytes ≡ line) × (rest ≡ []) → (behind : List ℕ) × (bytes ≡ line ++ behind) × EndsLine behind
    unfed e = ([], e.0 ∙ sym (append-nil line), inl refl)

-- the first line is that of each job that the bytes begin with
pub first_of : (bytes line rest : List ℕ) (job : Job) → IsFirstLine bytes line rest → BeginsJob bytes job → line ≡ line_text job
first_of bytes line rest job h k = by_ends (first-ends bytes line rest h)
  where
    by_both : (behind : List ℕ) → line ++ behind ≡ line_text job ++ k.behind → EndsLine behind → EndsLine k.behind → line ≡ line_text job
    by_both behind e (inl x) (inl y) = sym (append-nil line) ∙ ap (λ (l : List ℕ). line ++ l) (sym x) ∙ e ∙ ap (λ (l : List ℕ). line_text job ++ l) y ∙ append-nil (line_text job)
    by_both behind e (inl x) (inr y) =
        let whole : line ≡ line_text job ++ 10 ∷ y.0 = sym (append-nil line) ∙ ap (λ (l : List ℕ). line ++ l) (sym x) ∙ e ∙ ap (λ (l : List ℕ). line_text job ++ l) y.1 in
        absurd (h.one_line (subst (λ (l : List ℕ). Contains l 10) (sym whole) (in_middle (line_text job) y.0 10)))
    by_both behind e (inr x) (inl y) =
        let whole : line_text job ≡ line ++ 10 ∷ x.0 = sym (append-nil (line_text job)) ∙ ap (λ (l : List ℕ). line_text job ++ l) (sym y) ∙ sym e ∙ ap (λ (l : List ℕ). line ++ l) x.1 in
        absurd (line-no_feed job k.is_job (subst (λ (l : List ℕ). Contains l 10) (sym whole) (in_middle line x.0 10)))
    by_both behind e (inr x) (inr y) = (first_split 10 line (line_text job) x.0 y.0 h.one_line (line-no_feed job k.is_job) (ap (λ (l : List ℕ). line ++ l) (sym x.1) ∙ e ∙ ap (λ (l : List ℕ). line_text job ++ l) y.1)).0

    by_ends : (behind : List ℕ) × (bytes ≡ line ++ behind) × EndsLine behind → line ≡ line_text job
    by_ends (behind, e, ends) = by_both behind (sym e ∙ k.text) ends k.ends

-- What jobs' lines begin is the lines of those jobs and more.
pub read_on : (jobs all : List Job) (rest : List ℕ) → AllByRecursion IsJob jobs → AllByRecursion IsJob all → lines_text jobs ++ rest ≡ lines_text all → (more : List Job) × (all ≡ jobs ++ more) × (rest ≡ lines_text more)
read_on [] all rest h k e = (all, refl, e)
read_on (j ∷ jobs) [] rest h k e = absurd (not_nil (line_text j) (lines_text jobs ++ rest) 10 (sym (append_assoc (line_text j) (10 ∷ lines_text jobs) rest) ∙ e))
read_on (j ∷ jobs) (a ∷ all) rest h k e =
    let one = one_front j a (lines_text jobs ++ rest) (lines_text all) h.0 k.0 (sym (append_assoc (line_text j) (10 ∷ lines_text jobs) rest) ∙ e) in
    let on = read_on jobs all rest h.1 k.1 one.1 in
    (on.0, ap (λ (x : Job). x ∷ all) (sym one.0) ∙ ap (λ (xs : List Job). j ∷ xs) on.1, on.2)
