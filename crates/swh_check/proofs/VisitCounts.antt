-- How many visits there are, event by event.
use Rattle.std.specs.FinMap.Entries.{by_order, below_all, length-put}
use Rattle.std.proofs.Common.{◌≡◌, T, is_some, ℕ, zero, suc, ◌+◌, ◌-◌, ◌<◌, ◌≤◌, Bool, true, false, ◌&&◌, cond, Option, Some, None, List, [], ◌∷◌, ◌++◌, length, take, get_or, unwrap_or, refl, sym, ap, ◌∙◌, subst, arith, length-append}
use Rattle.std.specs.declared.cmp.Ordering.{Ordering}
use Rattle.std.specs.declared.cmp.Ordering.TheVariants.{Less, Equal, Greater}
use Rattle.std.specs.Ordering.{is_eq, nat_cmp}
use Rattle.std.specs.Cmp.Lexicographic.{slice_cmp, nat_list_cmp_total}
use Rattle.std.specs.FinMap.{find, put, is_sorted, insert, entries, entries_sorted, get-entries, entries-insert, len-entries, len-empty, empty}
use Rattle.swh_base.specs.declared.visit.Status.{Status}
use Rattle.swh_model.specs.declared.event.Visit.{Visit}
use Rattle.swh_model.specs.declared.event.Event.{Event}
use Rattle.swh_model.specs.declared.event.EventKind.{EventKind}
use Rattle.swh_model.specs.declared.event.EventKind.TheVariants.{Open, Mark}
use Rattle.swh_model.specs.Archive.{Archive, Origins, visits_of}
use Rattle.swh_model.specs.Step.{first_of, marked_at, after, after_kind, after_all}
use Rattle.swh_model.proofs.PlainLists.{take-more}
use Rattle.swh_check.specs.Counts.{visits_together, visit_count, opened_by, opened_in}

abbrev R : List ℕ → List ℕ → Ordering
R = slice_cmp nat_cmp

abbrev or_none : Option (List Visit) → List Visit
or_none o = unwrap_or o []

second : (a b : Bool) → T (a && b) → T b
second true b p = p
second false b p = absurd p

none_of : (o : Option (List Visit)) (n : ℕ) → suc n ≡ cond (is_some o) n (n + 1) → o ≡ None
none_of None n e = refl
none_of (Some vs) n e = absurd (omega (arith, e))

-- the visits once those of one origin are others
put_together : (k : List ℕ) (vs : List Visit) (es : List (List ℕ × List Visit)) → T (is_sorted R es) → visits_together (put R k vs es) + length (or_none (find R k es)) ≡ visits_together es + length vs
put_together k vs [] h = omega arith
put_together k vs (e ∷ es) h =
    elim (R k e.0) as (λ r. R k e.0 ≡ r → visits_together (by_order r ((k, vs) ∷ e ∷ es) ((e.0, vs) ∷ es) (e ∷ put R k vs es)) + length (or_none (cond (is_eq r) (Some e.1) (find R k es))) ≡ (length e.1 + visits_together es) + length vs) [
      | Less ↦ λ p.
          let long = length-put R nat_list_cmp_total k vs (e ∷ es) h in
          let none : find R k es ≡ None =
          none_of (find R k es) (suc (length es)) (subst (λ (r : Ordering). length (by_order r ((k, vs) ∷ e ∷ es) ((e.0, vs) ∷ es) (e ∷ put R k vs es)) ≡ cond (is_some (cond (is_eq r) (Some e.1) (find R k es))) (suc (length es)) (suc (length es) + 1)) p long) in
          let empty_ : length (or_none (find R k es)) ≡ 0 = ap (λ (o : Option (List Visit)). length (or_none o)) none in
          omega (arith, empty_)
      | Equal ↦ λ p. omega arith
      | Greater ↦ λ p. let more = put_together k vs es (second (below_all R e.0 es) (is_sorted R es) h) in omega (arith, more)
    ] refl

count-put : (origins : Origins) (url : List ℕ) (vs : List Visit) → visit_count (insert origins url vs) + length (visits_of origins url) ≡ visit_count origins + length vs
count-put origins url vs =
    let put_is = put_together url vs (entries origins) (entries_sorted origins) in
    let there : length (visits_of origins url) ≡ length (or_none (find R url (entries origins))) = ap (λ (o : Option (List Visit)). length (or_none o)) (get-entries origins url) in
    let is : visit_count (insert origins url vs) ≡ visits_together (put R url vs (entries origins)) = ap visits_together (entries-insert nat_list_cmp_total origins url vs) in
    omega (arith, put_is, there, is)

length-marked : (vs : List Visit) (k : ℕ) (s : Status) (snapshot : Option (List ℕ)) → length (marked_at vs k s snapshot) ≡ length vs
length-marked [] k s snapshot = refl
length-marked (v ∷ vs) zero s snapshot = refl
length-marked (v ∷ vs) (suc k) s snapshot = ap suc (length-marked vs k s snapshot)

count-kind : (a : Archive) (by : ℕ) (what : EventKind) → visit_count (after_kind a by what).origins ≡ visit_count a.origins + opened_by what
count-kind a by (Open origin kind date) =
    let vs = visits_of a.origins origin in
    let one = first_of (length vs + 1) date kind by in
    let here = count-put a.origins origin (vs ++ one ∷ []) in
    let long = length-append vs (one ∷ []) in
    omega (arith, here, long)
count-kind a by (Mark origin visit status snapshot) =
    let here = count-put a.origins origin (marked_at (visits_of a.origins origin) (visit - 1) status snapshot) in
    let long = length-marked (visits_of a.origins origin) (visit - 1) status snapshot in
    omega (arith, here, long)
count-kind a by what = omega arith

pub counted : (a : Archive) (h : List Event) → visit_count (after_all a h).origins ≡ visit_count a.origins + opened_in h
counted a [] = omega arith
counted a (e ∷ h) = let more = counted (after a e) h in let here = count-kind a e.by e.what in omega (arith, more, here)

no_entries : (es : List (List ℕ × List Visit)) → length es ≡ 0 → visits_together es ≡ 0
no_entries [] e = refl
no_entries (x ∷ es) e = absurd (omega (arith, e))

pub none-counted : visit_count empty ≡ 0
none-counted = no_entries (entries empty) (sym (len-entries empty) ∙ len-empty R (List Visit))

opened-push : (h : List Event) (e : Event) → opened_in (h ++ e ∷ []) ≡ opened_in h + opened_by e.what
opened-push [] e = omega arith
opened-push (x ∷ h) e = let more = opened-push h e in omega (arith, more)

pub opened-next : (h : List Event) (k : ℕ) (e : Event) → k < length h → e ≡ get_or h k e → opened_in (take (k + 1) h) ≡ opened_in (take k h) + opened_by e.what
opened-next h k e less is = ap opened_in (take-more h k e less is) ∙ opened-push (take k h) e

pub opened_once : (what : EventKind) → opened_by what ≤ 1
opened_once (Open origin kind date) = omega arith
opened_once what = omega arith
