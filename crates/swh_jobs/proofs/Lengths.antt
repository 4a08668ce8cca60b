-- How long job files are, and what is found in a front that is longer.
use Rattle.std.proofs.Common.{◌≡◌, ◌≢◌, inl, inr, ⊎_elim, ℕ, ◌+◌, ◌*◌, ◌<◌, ◌≤◌, Option, Some, None, List, [], ◌∷◌, ◌++◌, length, refl, sym, ap, ◌∙◌, arith, append_assoc, length-append}
use Rattle.std.specs.List.{AllByRecursion}
use Rattle.std.specs.Prelude.{IfSome}
use Rattle.swh_base.specs.Visit.{visit_kind_word}
use Rattle.swh_base.specs.declared.visit.VisitKind.{VisitKind}
use Rattle.swh_base.specs.declared.visit.VisitKind.TheVariants.{Fast, Dir, Batch}
use Rattle.swh_jobs.specs.Job.{Job, JobInput, IsJob, IsJobInput, IsJobPath, IsHeadText, fields_of, more_text, line_text}
use Rattle.swh_jobs.specs.Job.JobInput.{StreamAt, FolderAt, BatchAt}
use Rattle.swh_jobs.specs.JobFile.{BeginsJob, LineBreaks, EndsLine, IsJobFileFault, IsJobFile, lines_text, most_jobs}
use Rattle.swh_jobs.specs.declared.fault.JobWhy.{JobWhy}
use Rattle.swh_jobs.specs.declared.fault.JobWhy.TheVariants.{Form, Origin, Limit}

head_short : (head : Option (List ℕ)) → IfSome head IsHeadText → length (more_text head) ≤ 4097
head_short None h = omega arith
head_short (Some head) h = let short = h.is_ref.short in omega (arith, short)

modes_short : (modes : Option (List ℕ)) → IfSome modes IsJobPath → length (more_text modes) ≤ 4097
modes_short None h = omega arith
modes_short (Some modes) h = let short = h.short in omega (arith, short)

-- the fields of an input, with a TAB between
fields_short : (input : JobInput) → IsJobInput input → length ((fields_of input).path ++ more_text (fields_of input).more) ≤ 8193
fields_short (StreamAt path head) h = let short = h.0.short in omega (arith, short, head_short head h.1, length-append path (more_text head))
fields_short (FolderAt path modes) h = let short = h.0.short in omega (arith, short, modes_short modes h.1, length-append path (more_text modes))
fields_short (BatchAt path refs) h = let short = h.0.short in let other = h.1.short in omega (arith, short, other, length-append path (9 ∷ refs))

word_short : (kind : VisitKind) → length (visit_kind_word kind) ≤ 5
word_short Fast = omega arith
word_short Dir = omega arith
word_short Batch = omega arith

line_short : (job : Job) → IsJob job → length (line_text job) ≤ 10248
line_short job h =
    let f = fields_of job.input in
    let url = h.is_url.short in
    omega (arith, url, word_short f.kind, fields_short job.input h.is_input, length-append (visit_kind_word f.kind) (9 ∷ (job.url ++ 9 ∷ (f.path ++ more_text f.more))), length-append job.url (9 ∷ (f.path ++ more_text f.more)))

lines_short : (jobs : List Job) → AllByRecursion IsJob jobs → length (lines_text jobs) ≤ 10249 * length jobs
lines_short [] h = omega arith
lines_short (job ∷ jobs) h = omega (arith, line_short job h.0, lines_short jobs h.1, length-append (line_text job) (10 ∷ lines_text jobs))

pub longest_lem : (bytes : List ℕ) (jobs : List Job) → IsJobFile bytes jobs → length bytes ≤ 2623744
longest_lem bytes jobs h =
    let few = h.good.few in
    let short = lines_short jobs h.good.each in
    ⊎_elim
    (λ (e : bytes ≡ lines_text jobs). let n = ap length e in omega (arith, n, few, short))
    (λ (e : bytes ++ 10 ∷ [] ≡ lines_text jobs). let n = ap length e in omega (arith, n, few, short, length-append bytes (10 ∷ [])))
    h.text

-- the longer of two fronts has the other in front
longer : (a b x y : List ℕ) → length b ≤ length a → a ++ x ≡ b ++ y → (c : List ℕ) × (a ≡ b ++ c) × (y ≡ c ++ x)
longer a [] x y l e = (a, refl, sym e)
longer [] (d ∷ b) x y l e = absurd (omega arith)
longer (c ∷ a) (d ∷ b) x y l e =
    let first : c ≡ d = cc in
    let after : a ++ x ≡ b ++ y = cc in
    let cut = longer a b x y (omega arith) after in
    (cut.0, ap (λ (k : ℕ). k ∷ a) first ∙ ap (λ (t : List ℕ). d ∷ t) cut.1, cut.2)

module _ (rest more : List ℕ) (long : 10249 < length rest) where
  -- a long front begins with the same jobs' lines
  begins_front : (job : Job) → BeginsJob (rest ++ more) job → BeginsJob rest job
  begins_front job h = record { is_job = h.is_job; behind = cut.0; text = cut.1; ends = by_ends cut.0 (ap length cut.1) cut.2 h.ends }
    where
      short : length (line_text job) ≤ 10248
      short = line_short job h.is_job

      cut : (c : List ℕ) × (rest ≡ line_text job ++ c) × (h.behind ≡ c ++ more)
      cut = longer rest (line_text job) more h.behind (omega (arith, short, long)) h.text

      by_ends : (c : List ℕ) → length rest ≡ length (line_text job ++ c) → h.behind ≡ c ++ more → EndsLine h.behind → EndsLine c
      by_ends [] n e ends = absurd (omega (arith, n, short, long, length-append (line_text job) []))
      by_ends (d ∷ c) n e (inl none) = let both : d ∷ (c ++ more) ≡ [] = sym e ∙ none in absurd (cc)
      by_ends (d ∷ c) n e (inr (r, some)) = let both : d ∷ (c ++ more) ≡ 10 ∷ r = sym e ∙ some in let first : d ≡ 10 = cc in inr (c, ap (λ (k : ℕ). k ∷ c) first)

  begins_whole : (job : Job) → BeginsJob rest job → BeginsJob (rest ++ more) job
  begins_whole job h = record { is_job = h.is_job; behind = h.behind ++ more; text = ap (λ (t : List ℕ). t ++ more) h.text ∙ append_assoc (line_text job) h.behind more; ends = by_ends h.ends }
    where
      short : length (line_text job) ≤ 10248
      short = line_short job h.is_job

      by_ends : EndsLine h.behind → EndsLine (h.behind ++ more)
      by_ends (inl none) = let n = ap length h.text in absurd (omega (arith, n, short, long, length-append (line_text job) h.behind, ap length none))
      by_ends (inr (r, some)) = inr (r ++ more, ap (λ (t : List ℕ). t ++ more) some)

breaks_front : (why : JobWhy) (before : List Job) (rest more : List ℕ) → (length before < most_jobs → 10249 < length rest) → LineBreaks before rest why → LineBreaks before (rest ++ more) why
breaks_front Form before rest more long h = (h.0, λ job b. h.1 job (begins_front rest more (long h.0) job b))
breaks_front Origin before rest more long h = (h.0, record { job = h.1.job; begins = begins_whole rest more (long h.0) h.1.job h.1.begins; again = h.1.again })
breaks_front Limit before rest more long h = h

append-not_nil : (rest more : List ℕ) → rest ≢ [] → rest ++ more ≢ []
append-not_nil [] more some e = some refl
append-not_nil (c ∷ rest) more some e = cc

pub front_lem : (front more : List ℕ) (line : ℕ) (why : JobWhy) → 2623744 < length front → IsJobFileFault front line why → IsJobFileFault (front ++ more) line why
front_lem front more line why over f =
    let n = ap length f.text in
    let short = lines_short f.before f.good.each in
    let long : length f.before < most_jobs → 10249 < length f.rest = λ few. omega (arith, n, few, short, over, length-append (lines_text f.before) f.rest) in record {
      before = f.before;
      rest = f.rest ++ more;
      good = f.good;
      text = ap (λ (t : List ℕ). t ++ more) f.text ∙ append_assoc (lines_text f.before) f.rest more;
      more = append-not_nil f.rest more f.more;
      here = f.here;
      breaks = breaks_front why f.before f.rest more long f.breaks;
    }
