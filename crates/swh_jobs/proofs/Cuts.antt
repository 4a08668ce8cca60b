-- A line is cut in one way, and spells one job at most.
use Rattle.std.proofs.Common.{◌≡◌, ℕ, Option, Some, None, List, [], ◌∷◌, ◌++◌, Contains, refl, sym, ap, ◌∙◌, subst, append_assoc, codes}
use Rattle.std.proofs.lemmas.List.{append-nil}
use Rattle.std.proofs.lemmas.List.Elements.{Contains-append_left, Contains-append_right}
use Rattle.std.specs.Prelude.{IfSome, IsUtf8}
use Rattle.swh_base.specs.Url.{IsUrl, is_url_byte}
use Rattle.swh_base.specs.Visit.{visit_kind_word}
use Rattle.swh_base.specs.declared.visit.VisitKind.{VisitKind}
use Rattle.swh_base.specs.declared.visit.VisitKind.TheVariants.{Fast, Dir, Batch}
use Rattle.swh_base.proofs.Lacks.{passes_not}
use Rattle.swh_base.proofs.Splits.{first_split, absent}
use Rattle.swh_base.proofs.Middle.{in_middle}
use Rattle.swh_jobs.specs.Job.{Job, JobInput, Fields, HasNoFeed, IsJobPath, IsHeadText, IsJobInput, IsLineOf, fields, fields_of, fields_text, more_text, line_text}
use Rattle.swh_jobs.specs.Job.JobInput.{StreamAt, FolderAt, BatchAt}
use Rattle.swh_jobs.specs.Reading.{HasFields, IsInputOf}

-- a byte in front of the rest is in the text
here : (t a x : List ℕ) (s : ℕ) → t ≡ a ++ s ∷ x → Contains t s
here t a x s e = subst (λ (l : List ℕ). Contains l s) (sym e) (in_middle a x s)

-- a path with a TAB is no job's
pub tab_inside : (path a x : List ℕ) → path ≡ a ++ 9 ∷ x → IsJobPath path → ⊥
tab_inside path a x e h = h.no_tab (here path a x 9 e)

-- the word of a kind has no TAB
word-no_tab : (kind : VisitKind) → Contains (visit_kind_word kind) 9 → ⊥
word-no_tab Fast = absent 9 (codes "fast") refl
word-no_tab Dir = absent 9 (codes "dir") refl
word-no_tab Batch = absent 9 (codes "batch") refl

one_kind : (a b : VisitKind) → visit_kind_word a ≡ visit_kind_word b → a ≡ b
one_kind Fast Fast e = refl
one_kind Fast Dir e = absurd cc
one_kind Fast Batch e = absurd cc
one_kind Dir Fast e = absurd cc
one_kind Dir Dir e = refl
one_kind Dir Batch e = absurd cc
one_kind Batch Fast e = absurd cc
one_kind Batch Dir e = absurd cc
one_kind Batch Batch e = refl

-- the kind, and what stands after it
pub behind_kind : (line rest : List ℕ) (kind : VisitKind) → line ≡ visit_kind_word kind ++ 9 ∷ rest → (url : List ℕ) (f : Fields) → line ≡ fields_text url f → (kind ≡ f.kind) × (rest ≡ url ++ 9 ∷ (f.path ++ more_text f.more))
behind_kind line rest kind e url f h =
    let both = first_split 9 (visit_kind_word kind) (visit_kind_word f.kind) rest (url ++ 9 ∷ (f.path ++ more_text f.more)) (word-no_tab kind) (word-no_tab f.kind) (sym e ∙ h) in
    (one_kind kind f.kind both.0, both.1)

pub no_url : (line rest : List ℕ) (kind : VisitKind) → line ≡ visit_kind_word kind ++ 9 ∷ rest → (Contains rest 9 → ⊥) → (url : List ℕ) (f : Fields) → HasFields line url f → ⊥
no_url line rest kind e none url f h = none (here rest url (f.path ++ more_text f.more) 9 (behind_kind line rest kind e url f h.text).1)

-- a path, and what stands behind it where there is something
one_end : (p q : List ℕ) (a b : Option (List ℕ)) → (Contains p 9 → ⊥) → (Contains q 9 → ⊥) → p ++ more_text a ≡ q ++ more_text b → (p ≡ q) × (a ≡ b)
one_end p q None None np nq e = (sym (append-nil p) ∙ e ∙ append-nil q, refl)
one_end p q None (Some b) np nq e = absurd (np (here p q b 9 (sym (append-nil p) ∙ e)))
one_end p q (Some a) None np nq e = absurd (nq (here q p a 9 (sym (append-nil q) ∙ sym e)))
one_end p q (Some a) (Some b) np nq e = let both = first_split 9 p q a b np nq e in (both.0, ap (λ (x : List ℕ). Some x) both.1)

same_fields : (a b : Fields) → a.kind ≡ b.kind → a.path ≡ b.path → a.more ≡ b.more → a ≡ b
same_fields a b kind path more = ap (λ (x : VisitKind). fields x a.path a.more) kind ∙ ap (λ (x : List ℕ). fields b.kind x a.more) path ∙ ap (λ (x : Option (List ℕ)). fields b.kind b.path x) more

-- A line has its fields in one way at most.
pub one_cut : (line url other : List ℕ) (f g : Fields) → HasFields line url f → HasFields line other g → (url ≡ other) × (f ≡ g)
one_cut line url other f g h k =
    let rest = behind_kind line (url ++ 9 ∷ (f.path ++ more_text f.more)) f.kind h.text other g k.text in
    let urls = first_split 9 url other (f.path ++ more_text f.more) (g.path ++ more_text g.more) h.url_no_tab k.url_no_tab rest.1 in
    let ends = one_end f.path g.path f.more g.more h.path_no_tab k.path_no_tab urls.1 in
    (urls.0, same_fields f g rest.0 ends.0 ends.1)

-- no URL has a TAB or an LF
pub url-no_tab : (url : List ℕ) → IsUrl url → Contains url 9 → ⊥
url-no_tab url h = passes_not is_url_byte url 9 h.bytes (λ t. cc)

pub url-no_feed : (url : List ℕ) → IsUrl url → Contains url 10 → ⊥
url-no_feed url h = passes_not is_url_byte url 10 h.bytes (λ t. cc)

-- the path of an input is a job's
path_is : (input : JobInput) → IsJobInput input → IsJobPath (fields_of input).path
path_is (StreamAt path head) h = h.0
path_is (FolderAt path modes) h = h.0
path_is (BatchAt path refs) h = h.0

-- the line of a job has the job's fields
pub job_cut : (line : List ℕ) (job : Job) → IsLineOf line job → HasFields line job.url (fields_of job.input)
job_cut line job h = record { text = h.text; url_no_tab = url-no_tab job.url h.is_job.is_url; path_no_tab = (path_is job.input h.is_job.is_input).no_tab }

-- fields are those of one input at most
pub one_input : (a b : JobInput) → fields_of a ≡ fields_of b → a ≡ b
one_input (StreamAt path head) (StreamAt other next) e = let p : path ≡ other = ap (λ (f : Fields). f.path) e in let m : head ≡ next = ap (λ (f : Fields). f.more) e in cc
one_input (StreamAt path head) (FolderAt other modes) e = let k : Fast ≡ Dir = ap (λ (f : Fields). f.kind) e in absurd cc
one_input (StreamAt path head) (BatchAt other refs) e = let k : Fast ≡ Batch = ap (λ (f : Fields). f.kind) e in absurd cc
one_input (FolderAt path modes) (StreamAt other head) e = let k : Dir ≡ Fast = ap (λ (f : Fields). f.kind) e in absurd cc
one_input (FolderAt path modes) (FolderAt other next) e = let p : path ≡ other = ap (λ (f : Fields). f.path) e in let m : modes ≡ next = ap (λ (f : Fields). f.more) e in cc
one_input (FolderAt path modes) (BatchAt other refs) e = let k : Dir ≡ Batch = ap (λ (f : Fields). f.kind) e in absurd cc
one_input (BatchAt path refs) (StreamAt other head) e = let k : Batch ≡ Fast = ap (λ (f : Fields). f.kind) e in absurd cc
one_input (BatchAt path refs) (FolderAt other modes) e = let k : Batch ≡ Dir = ap (λ (f : Fields). f.kind) e in absurd cc
one_input (BatchAt path refs) (BatchAt other next) e = let p : path ≡ other = ap (λ (f : Fields). f.path) e in let m : Some refs ≡ Some next = ap (λ (f : Fields). f.more) e in cc

job_with : List ℕ → JobInput → Job
job_with url input = record { url = url; input = input }

-- a line spells one job at most
pub one_job : (line : List ℕ) (a b : Job) → IsLineOf line a → IsLineOf line b → a ≡ b
unfolding job_with
one_job line a b h k =
    let same = one_cut line a.url b.url (fields_of a.input) (fields_of b.input) (job_cut line a h) (job_cut line b k) in
    ap (λ (url : List ℕ). job_with url a.input) same.0 ∙ ap (job_with b.url) (one_input a.input b.input same.1)

-- what stands in the fields stands in the line
module _ (line url : List ℕ) (f : Fields) (c : ℕ) (h : HasFields line url f) where
  after : (a x : List ℕ) → (a ++ 9 ∷ []) ++ x ≡ a ++ 9 ∷ x
  after a x = append_assoc a (9 ∷ []) x

  end_in_line : Contains (f.path ++ more_text f.more) c → Contains line c
  end_in_line in_end =
      let behind_url = subst (λ (l : List ℕ). Contains l c) (after url (f.path ++ more_text f.more)) (Contains-append_right (url ++ 9 ∷ []) (f.path ++ more_text f.more) c in_end) in
      let behind_word = subst (λ (l : List ℕ). Contains l c) (after (visit_kind_word f.kind) (url ++ 9 ∷ (f.path ++ more_text f.more))) (Contains-append_right (visit_kind_word f.kind ++ 9 ∷ []) (url ++ 9 ∷ (f.path ++ more_text f.more)) c behind_url) in
      subst (λ (l : List ℕ). Contains l c) (sym h.text) behind_word

  pub path_in_line : Contains f.path c → Contains line c
  path_in_line in_path = end_in_line (Contains-append_left f.path (more_text f.more) c in_path)

-- and so has no LF, where the line has none
pub more_in_line : (line url : List ℕ) (f : Fields) → HasFields line url f → HasNoFeed line → IfSome f.more HasNoFeed
more_in_line line url f h none = by_more f.more (λ in_more. none (end_in_line line url f 10 h (Contains-append_right f.path (more_text f.more) 10 in_more)))
  where
    by_more : (more : Option (List ℕ)) → (Contains (more_text more) 10 → ⊥) → IfSome more HasNoFeed
    by_more None k = tt
    by_more (Some more) k = λ c. k (Contains-append_right (9 ∷ []) more 10 c)

-- A line whose fields are these spells no job where one of them is none of a job.
module _ (line url : List ℕ) (f : Fields) (h : HasFields line url f) where
  pub no_url_no_job : (IsUrl url → IsUtf8 url → ⊥) → (job : Job) → IsLineOf line job → ⊥
  no_url_no_job bad job k =
      let e = (one_cut line job.url url (fields_of job.input) f (job_cut line job k) h).0 in
      bad (subst IsUrl e k.is_job.is_url) (subst IsUtf8 e k.is_job.utf8)

  pub no_input_no_job : ((input : JobInput) → IsInputOf f input → ⊥) → (job : Job) → IsLineOf line job → ⊥
  no_input_no_job bad job k = bad job.input (record { is_input = k.is_job.is_input; are = (one_cut line job.url url (fields_of job.input) f (job_cut line job k) h).1 })
