-- How many objects there are, event by event.
use Rattle.std.proofs.Common.{◌≡◌, is_some, ℕ, ◌+◌, ◌<◌, ◌≤◌, cond, Option, List, [], ◌∷◌, ◌++◌, length, take, get_or, ap, ◌∙◌, arith}
use Rattle.std.specs.FinMap as finite
use Rattle.swh_base.specs.declared.kind.Kind.{Kind}
use Rattle.swh_base.specs.declared.entry.Entry.{Entry}
use Rattle.swh_base.specs.Name.{name_cmp_total}
use Rattle.swh_model.specs.declared.event.Event.{Event}
use Rattle.swh_model.specs.declared.event.EventKind.{EventKind}
use Rattle.swh_model.specs.declared.event.EventKind.TheVariants.{Batch}
use Rattle.swh_model.specs.Entries.{entries_of}
use Rattle.swh_model.specs.Archive.{Archive, Bodies}
use Rattle.swh_model.specs.Limits.{run_length, store_length}
use Rattle.swh_model.specs.Step.{AreNew, May_kind, MayAll, added, after, after_kind, after_all}
use Rattle.swh_model.proofs.PlainLists.{take-more}
use Rattle.swh_check.specs.Counts.{bodies_by, bodies_in}

count-added : (bodies : Bodies) (es : List Entry) → AreNew bodies es → finite.len (added bodies es) ≡ finite.len bodies + length es
count-added bodies [] new = omega arith
count-added bodies (e ∷ es) new =
    let more = count-added (finite.insert bodies e.name e.body) es new.1 in
    let one : finite.len (finite.insert bodies e.name e.body) ≡ finite.len bodies + 1 =
    finite.len-insert name_cmp_total bodies e.name e.body ∙ ap (λ (o : Option (List ℕ)). cond (is_some o) (finite.len bodies) (finite.len bodies + 1)) new.0 in
    omega (arith, more, one)

module _ (id_of : Kind → List ℕ → List ℕ) where
  count-kind : (a : Archive) (by : ℕ) (what : EventKind) → May_kind id_of a by what → finite.len (after_kind a by what).bodies ≡ finite.len a.bodies + bodies_by what
  count-kind a by (Batch es) may = count-added a.bodies es may.new
  count-kind a by what may = omega arith

  -- a history's archive has an object for each that its events added
  pub counted : (a : Archive) (h : List Event) → MayAll id_of a h → finite.len (after_all a h).bodies ≡ finite.len a.bodies + bodies_in h
  counted a [] may = omega arith
  counted a (e ∷ h) may = let more = counted (after a e) h may.1 in let here = count-kind a e.by e.what may.0 in omega (arith, more, here)

bodies-push : (h : List Event) (e : Event) → bodies_in (h ++ e ∷ []) ≡ bodies_in h + bodies_by e.what
bodies-push [] e = omega arith
bodies-push (x ∷ h) e = let more = bodies-push h e in omega (arith, more)

pub bodies-next : (h : List Event) (k : ℕ) (e : Event) → k < length h → e ≡ get_or h k e → bodies_in (take (k + 1) h) ≡ bodies_in (take k h) + bodies_by e.what
bodies-next h k e less is = ap bodies_in (take-more h k e less is) ∙ bodies-push (take k h) e

few-entries : (es : List Entry) → length es ≤ run_length es
few-entries [] = omega arith
few-entries (e ∷ es) = let more = few-entries es in omega (arith, more)

-- there are no more objects than bytes of the store
pub few : (h : List Event) → bodies_in h ≤ store_length h
few [] = omega arith
few (e ∷ h) = let more = few h in let here = few-entries (entries_of e.what) in omega (arith, more, here)
