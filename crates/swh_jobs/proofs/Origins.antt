-- The set of the origins that were seen.
use Rattle.std.proofs.Common.{◌≡◌, ⊎_elim, ℕ, Bool, true, false, cond, not, List, [], ◌∷◌, ◌++◌, Contains, refl, sym, ap, ◌∙◌, subst, Ordering}
use Rattle.std.proofs.lemmas.Bool.{not-false}
use Rattle.std.proofs.lemmas.Cmp.{nat_list_cmp_total, tied_itself}
use Rattle.std.proofs.lemmas.List.{map_push}
use Rattle.std.proofs.lemmas.List.Elements.{Contains-append_left, Contains-push, Contains-push_cases}
use Rattle.std.specs.BTreeMap.{is_at}
use Rattle.std.specs.Borrow.{Bor}
use Rattle.std.specs.Cmp.Lexicographic.{slice_cmp}
use Rattle.std.specs.FinMap.{slice_cmp-IsAntisymmetric, nat_cmp-IsAntisymmetric}
use Rattle.std.specs.List.{list_any}
use Rattle.std.specs.Ordering.{nat_cmp, is_eq}
use Rattle.std.specs.declared.cmp.Ordering.TheVariants.{Less, Equal, Greater}
use Rattle.swh_jobs.specs.Job.{Job}
use Rattle.swh_jobs.specs.JobFile.{origins}
use Rattle.swh_jobs.specs.Reading.{AreOrigins}

equal_order : (o : Ordering) → is_eq o ≡ true → o ≡ Equal
equal_order Less e = absurd (cc)
equal_order Equal e = refl
equal_order Greater e = absurd (cc)

same_bytes : (a b : List ℕ) → is_eq (slice_cmp nat_cmp a b) ≡ true → a ≡ b
same_bytes a b e = slice_cmp-IsAntisymmetric nat_cmp-IsAntisymmetric a b (equal_order (slice_cmp nat_cmp a b) e)

same_self : (a b : List ℕ) → a ≡ b → is_eq (slice_cmp nat_cmp a b) ≡ true
same_self a b e = ap (λ (x : List ℕ). is_eq (slice_cmp nat_cmp a x)) (sym e) ∙ ap is_eq (tied_itself nat_list_cmp_total a)

-- whether a set of these keys has the URL
has : List (Bor (List ℕ)) → List ℕ → Bool
has keys url = list_any (is_at (λ (key : Bor (List ℕ)). slice_cmp nat_cmp url key.now)) keys

held : List ℕ → Bor (List ℕ)
held bytes = record { ref_ptr = (0, 0); now = bytes }

-- one origin more
pub known-push : (keys new : List (Bor (List ℕ))) (jobs : List Job) (key : Bor (List ℕ)) (job : Job) → AreOrigins keys jobs → key.now ≡ job.url
    → ((q : Bor (List ℕ)) → list_any (is_at (λ (k : Bor (List ℕ)). slice_cmp nat_cmp q.now k.now)) new ≡ cond (is_at (λ (k : Bor (List ℕ)). slice_cmp nat_cmp key.now k.now) q) true (list_any (is_at (λ (k : Bor (List ℕ)). slice_cmp nat_cmp q.now k.now)) keys))
    → AreOrigins new (jobs ++ job ∷ [])
unfolding held has
known-push keys new jobs key job known same updates url = (there, found)
  where
    urls : origins (jobs ++ job ∷ []) ≡ origins jobs ++ job.url ∷ []
    urls = map_push (λ (j : Job). j.url) jobs job

    by_test : (b : Bool) → is_eq (slice_cmp nat_cmp key.now url) ≡ b → cond b true (has keys url) ≡ true → Contains (origins jobs ++ job.url ∷ []) url
    by_test true e h = subst (λ (x : List ℕ). Contains (origins jobs ++ job.url ∷ []) x) (sym same ∙ same_bytes key.now url e) (Contains-push (origins jobs) job.url)
    by_test false e h = Contains-append_left (origins jobs) (job.url ∷ []) url ((known url).0 h)

    there : has new url ≡ true → Contains (origins (jobs ++ job ∷ [])) url
    there h = subst (λ (xs : List (List ℕ)). Contains xs url) (sym urls) (by_test (is_eq (slice_cmp nat_cmp key.now url)) refl (sym (updates (held url)) ∙ h))

    either : (b : Bool) → cond b true true ≡ true
    either true = refl
    either false = refl

    found : Contains (origins (jobs ++ job ∷ [])) url → has new url ≡ true
    found h =
        updates (held url)
        ∙ ⊎_elim
        (λ (old : Contains (origins jobs) url). ap (λ (b : Bool). cond (is_eq (slice_cmp nat_cmp key.now url)) true b) ((known url).1 old) ∙ either (is_eq (slice_cmp nat_cmp key.now url)))
        (λ (own : job.url ≡ url). ap (λ (b : Bool). cond b true (has keys url)) (same_self key.now url (same ∙ own)))
        (Contains-push_cases (origins jobs) job.url url (subst (λ (xs : List (List ℕ)). Contains xs url) urls h))

-- what is said of an origin that was put into the set
pub new_origin : (keys : List (Bor (List ℕ))) (jobs : List Job) (key : Bor (List ℕ)) (url : List ℕ) (added : Bool) → AreOrigins keys jobs → key.now ≡ url
    → added ≡ not (list_any (is_at (λ (k : Bor (List ℕ)). slice_cmp nat_cmp key.now k.now)) keys) → added ≡ true → Contains (origins jobs) url → ⊥
new_origin keys jobs key url added known same is new h =
    let there = (known key.now).1 (subst (λ (u : List ℕ). Contains (origins jobs) u) (sym same) h) in
    let both : true ≡ false = sym new ∙ is ∙ ap not there in
    absurd (cc)

pub old_origin : (keys : List (Bor (List ℕ))) (jobs : List Job) (key : Bor (List ℕ)) (url : List ℕ) (added : Bool) → AreOrigins keys jobs → key.now ≡ url
    → added ≡ not (list_any (is_at (λ (k : Bor (List ℕ)). slice_cmp nat_cmp key.now k.now)) keys) → added ≡ false → Contains (origins jobs) url
old_origin keys jobs key url added known same is seen =
    let there = not-false (list_any (is_at (λ (k : Bor (List ℕ)). slice_cmp nat_cmp key.now k.now)) keys) (sym is ∙ seen) in
    subst (λ (u : List ℕ). Contains (origins jobs) u) same ((known key.now).0 there)
