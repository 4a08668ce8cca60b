-- The bodies of a history's events, as they are held and as they stand in the store.
use Rattle.std.proofs.Common.{◌≡◌, ℕ, zero, suc, ◌+◌, ◌<◌, ◌≤◌, Some, None, List, [], ◌∷◌, ◌++◌, length, take, drop, get_or, refl, sym, ap, ◌∙◌, subst, arith, length-append, append_assoc}
use Rattle.std.proofs.Math.Seq.{drop-cons, drop-append_seam, take-append_seam}
use Rattle.std.specs.List.{AllByRecursion}
use Rattle.std.specs.Int.{w64, to_be_bytes}
use Rattle.std.specs.FinMap.{insert}
use Rattle.swh_base.specs.declared.kind.Kind.{Kind}
use Rattle.swh_base.specs.declared.name.Name.{Name}
use Rattle.swh_base.specs.declared.entry.Entry.{Entry}
use Rattle.swh_base.specs.Name.{kind_number}
use Rattle.swh_model.specs.declared.event.Event.{Event}
use Rattle.swh_model.specs.declared.event.EventKind.{EventKind}
use Rattle.swh_model.specs.declared.event.EventKind.TheVariants.{Batch}
use Rattle.swh_model.specs.Entries.{entries_of}
use Rattle.swh_model.specs.Archive.{Archive, Bodies, body_of}
use Rattle.swh_model.specs.Grows.{IsWithin}
use Rattle.swh_model.specs.Limits.{object_length, run_length, stored_length, store_length}
use Rattle.swh_model.specs.Step.{HasItsChildrenAndName, AreNew, May_kind, MayAll, added, after, after_kind, after_all}
use Rattle.swh_model.proofs.Entries.{none-added}
use Rattle.swh_model.proofs.PlainLists.{all-at}
use Rattle.swh_model.proofs.Growing.{bodies_grow}
use Rattle.swh_model.proofs.Maps.{body-put, within-added}
use Rattle.swh_model.proofs.PlainLengths as lengths
use Rattle.swh_model.proofs.Visits.{all-map}
use Rattle.swh_format.specs.StoredObject.{coded_entry, coded_run}
use Rattle.swh_format.specs.EventRecord.{packed_objects}
use Rattle.swh_format.specs.Stands.{coded_runs}
use Rattle.swh_format.proofs.KindLaws.{packed}
use Rattle.swh_format.proofs.Lengths.{object-length, run-length, stored-length}
use Rattle.swh_keeper.specs.declared.finding.Extent.{Extent}
use Rattle.swh_keeper.specs.Stored.{IsHeldNamed, IsHeldKind, body_in}
use Rattle.swh_keeper.specs.Places.{IsPlaceIn, IsPlaceOf, IsUnnamed, AreUnnamed}
use Rattle.swh_keeper.proofs.StoredLemmas.{part-append}

-- ---- they are held

module _ (id_of : Kind → List ℕ → List ℕ) where
  held-added : (bodies : Bodies) (es : List Entry) → AreNew bodies es → AllByRecursion (HasItsChildrenAndName id_of) es → AllByRecursion (IsHeldNamed id_of (added bodies es)) es
  held-added bodies [] new good = tt
  held-added bodies (e ∷ es) new good = (
    record {
      held = within-added (insert bodies e.name e.body) es new.1 e.name e.body (body-put bodies e.name e.body);
      named = good.0.named;
    },
    held-added (insert bodies e.name e.body) es new.1 good.1,
  )

  stays-held : (a b : Bodies) (what : EventKind) → IsWithin a b → IsHeldKind id_of a what → IsHeldKind id_of b what
  stays-held a b what within held =
      all-map (IsHeldNamed id_of a) (IsHeldNamed id_of b) (λ e h. record { held = within e.name e.body h.held; named = h.named }) (entries_of what) held

  held-kind : (a : Archive) (by : ℕ) (what : EventKind) → May_kind id_of a by what → IsHeldKind id_of (after_kind a by what).bodies what
  held-kind a by (Batch es) may = held-added a.bodies es may.new may.good
  held-kind a by what may = tt

  pub held-at : (a : Archive) (h : List Event) (k : ℕ) (e : Event) → MayAll id_of a h → k < length h → e ≡ get_or h k e → IsHeldKind id_of (after_all a h).bodies e.what
  held-at a [] k e may less is = absurd (omega (arith, less))
  held-at a (f ∷ h) zero e may less is =
      subst (λ (g : Event). IsHeldKind id_of (after_all a (f ∷ h)).bodies g.what) (sym is)
      (stays-held (after a f).bodies (after_all (after a f) h).bodies f.what (bodies_grow id_of (after a f) h may.1) (held-kind a f.by f.what may.0))
  held-at a (f ∷ h) (suc k) e may less is = held-at (after a f) h k e may.1 (omega (arith, less)) is

-- ---- the run of an event stands in those of its history

pub run-there : (h : List Event) (k : ℕ) (e : Event) → k < length h → e ≡ get_or h k e → take (stored_length e.what) (drop (store_length (take k h)) (coded_runs h)) ≡ packed_objects e.what
run-there [] k e less is = absurd (omega (arith, less))
run-there (f ∷ h) zero e less is =
    subst (λ (g : Event). take (stored_length g.what) (packed_objects f.what ++ coded_runs h) ≡ packed_objects g.what) (sym is)
    (ap (λ (n : ℕ). take n (packed_objects f.what ++ coded_runs h)) (sym (stored-length f.what)) ∙ take-append_seam (packed_objects f.what) (coded_runs h))
run-there (f ∷ h) (suc k) e less is =
    ap (λ (l : List ℕ). take (stored_length e.what) l) (skipped (store_length (take k h)))
    ∙ run-there h k e (omega (arith, less)) is
  where
    skip : (xs ys : List ℕ) (n : ℕ) → drop (length xs + n) (xs ++ ys) ≡ drop n ys
    skip [] ys n = ap (λ (m : ℕ). drop m ys) (let z : 0 + n ≡ n = omega arith in z)
    skip (x ∷ xs) ys n = ap (λ (m : ℕ). drop m (x ∷ (xs ++ ys))) (let z : length (x ∷ xs) + n ≡ suc (length xs + n) = omega arith in z) ∙ skip xs ys n

    skipped : (n : ℕ) → drop (stored_length f.what + n) (packed_objects f.what ++ coded_runs h) ≡ drop n (coded_runs h)
    skipped n = ap (λ (m : ℕ). drop (m + n) (packed_objects f.what ++ coded_runs h)) (sym (stored-length f.what)) ∙ skip (packed_objects f.what) (coded_runs h) n

pub run-within : (h : List Event) (k : ℕ) (e : Event) → k < length h → e ≡ get_or h k e → store_length (take k h) + stored_length e.what ≤ store_length h
run-within h k e less is = lengths.store-within h k e less is

pub same-item : (h : List Event) (k : ℕ) (e f : Event) → k < length h → e ≡ get_or h k e → f ≡ get_or h k f → e ≡ f
same-item [] k e f less is as_well = absurd (omega (arith, less))
same-item (g ∷ h) zero e f less is as_well = is ∙ sym as_well
same-item (g ∷ h) (suc k) e f less is as_well = same-item h k e f (omega (arith, less)) is as_well

-- ---- the objects of a run

pub drop-next : (es : List Entry) (k : ℕ) (e : Entry) → k < length es → e ≡ get_or es k e → drop k es ≡ e ∷ drop (k + 1) es
drop-next es k e less is =
    drop-cons es k e less ∙ ap (λ (x : Entry). x ∷ drop (suc k) es) (sym is) ∙ ap (λ (n : ℕ). e ∷ drop n es) (let z : suc k ≡ k + 1 = omega arith in z)

drop-nil : (n : ℕ) → drop {A = ℕ} n [] ≡ []
drop-nil zero = refl
drop-nil (suc n) = refl

pub drop-twice : (m n : ℕ) (xs : List ℕ) → drop n (drop m xs) ≡ drop (m + n) xs
drop-twice zero n xs = ap (λ (k : ℕ). drop k xs) (let z : n ≡ 0 + n = omega arith in z)
drop-twice (suc m) n [] = drop-nil n ∙ sym (drop-nil (suc m + n))
drop-twice (suc m) n (x ∷ xs) = drop-twice m n xs ∙ ap (λ (k : ℕ). drop k (x ∷ xs)) (let z : suc (m + n) ≡ suc m + n = omega arith in z)

-- what stands before the body
head_of : Entry → List ℕ
head_of e = kind_number e.name.kind ∷ (to_be_bytes w64 (length e.body) ++ e.name.id)

head-is : (e : Entry) (more : List ℕ) → coded_entry e ++ more ≡ head_of e ++ (e.body ++ more)
unfolding coded_entry head_of
head-is e more =
    ap (λ (l : List ℕ). kind_number e.name.kind ∷ l)
    (ap (λ (l : List ℕ). l ++ more) (sym (append_assoc (to_be_bytes w64 (length e.body)) e.name.id e.body)) ∙ append_assoc (to_be_bytes w64 (length e.body) ++ e.name.id) e.body more)

head-length : (e : Entry) → length (head_of e) ≡ 9 + length e.name.id
unfolding head_of
head-length e = omega (arith, length-append (to_be_bytes w64 (length e.body)) e.name.id)

pub body-coded : (e : Entry) (more : List ℕ) → body_in (coded_entry e ++ more) e ≡ e.body
body-coded e more =
    ap (λ (l : List ℕ). body_in l e) (head-is e more)
    ∙ ap (λ (n : ℕ). take (length e.body) (drop n (head_of e ++ (e.body ++ more)))) (sym (head-length e))
    ∙ ap (λ (l : List ℕ). take (length e.body) l) (drop-append_seam (head_of e) (e.body ++ more))
    ∙ take-append_seam e.body more

pub more-coded : (e : Entry) (more : List ℕ) → drop (object_length e) (coded_entry e ++ more) ≡ more
more-coded e more = ap (λ (n : ℕ). drop n (coded_entry e ++ more)) (sym (object-length e)) ∙ drop-append_seam (coded_entry e) more

-- ---- the body of a name among the runs

part-there : (es : List Entry) (k : ℕ) (e : Entry) → k < length es → e ≡ get_or es k e → take (length e.body) (drop (run_length (take k es) + (9 + length e.name.id)) (coded_run es)) ≡ e.body
part-there [] k e less is = absurd (omega (arith, less))
part-there (f ∷ es) zero e less is =
    ap (λ (n : ℕ). take (length e.body) (drop n (coded_entry f ++ coded_run es))) (let z : 0 + (9 + length e.name.id) ≡ 9 + length e.name.id = omega arith in z)
    ∙ ap (λ (x : Entry). take (length e.body) (drop (9 + length e.name.id) (coded_entry x ++ coded_run es))) (sym is)
    ∙ body-coded e (coded_run es)
part-there (f ∷ es) (suc k) e less is =
    let inner = run_length (take k es) + (9 + length e.name.id) in
    ap (λ (n : ℕ). take (length e.body) (drop n (coded_entry f ++ coded_run es))) (let z : object_length f + run_length (take k es) + (9 + length e.name.id) ≡ object_length f + inner = omega arith in z)
    ∙ ap (λ (l : List ℕ). take (length e.body) l) (sym (drop-twice (object_length f) inner (coded_entry f ++ coded_run es)) ∙ ap (λ (l : List ℕ). drop inner l) (more-coded f (coded_run es)))
    ∙ part-there es k e (omega (arith, less)) is

runs-split : (h : List Event) (k : ℕ) (e : Event) → k < length h → e ≡ get_or h k e → drop (store_length (take k h)) (coded_runs h) ≡ packed_objects e.what ++ coded_runs (drop (k + 1) h)
runs-split [] k e less is = absurd (omega (arith, less))
runs-split (f ∷ h) zero e less is = ap (λ (x : Event). packed_objects x.what ++ coded_runs h) (sym is) ∙ ap (λ (n : ℕ). packed_objects e.what ++ coded_runs (drop n (f ∷ h))) (let z : suc zero ≡ zero + 1 = omega arith in z)
runs-split (f ∷ h) (suc k) e less is =
    sym (drop-twice (stored_length f.what) (store_length (take k h)) (packed_objects f.what ++ coded_runs h))
    ∙ ap (λ (l : List ℕ). drop (store_length (take k h)) l) (ap (λ (n : ℕ). drop n (packed_objects f.what ++ coded_runs h)) (sym (stored-length f.what)) ∙ drop-append_seam (packed_objects f.what) (coded_runs h))
    ∙ runs-split h k e (omega (arith, less)) is
    ∙ ap (λ (n : ℕ). packed_objects e.what ++ coded_runs (drop n (f ∷ h))) (let z : suc (k + 1) ≡ suc k + 1 = omega arith in z)

-- the object whose place was found: its body is held under the name, and stands there
pub record IsFound (bodies : Bodies) (h : List Event) (n : Name) (p : Extent) : Type 0 where
  pub body : List ℕ
  pub held : body_of bodies n ≡ Some body
  pub within : p.at + p.size ≤ store_length h
  pub long : p.size ≡ length body
  pub bytes : take p.size (drop p.at (coded_runs h)) ≡ body

module _ (id_of : Kind → List ℕ → List ℕ) (bodies : Bodies) (h : List Event) (k : ℕ) (e : Event) (less : k < length h) (is : e ≡ get_or h k e) (n : Name) (p : Extent) where
  found-kind : IsHeldKind id_of bodies e.what → IsPlaceIn (store_length (take k h)) (entries_of e.what) n p → IsFound bodies h n p
  found-kind held place =
      let es = entries_of e.what in
      let x = place.entry in
      let start = store_length (take k h) in
      let inner = run_length (take place.number es) + (9 + length x.name.id) in
      let here = run-within h k e less is in
      let part = lengths.run-within es place.number x place.within place.is in
      let at = place.at in
      let size = place.size in
      let there : inner + length x.body ≤ length (coded_run es) = let l = run-length es in omega (arith, part, l) in
      record {
        body = x.body;
        held = subst (λ (m : Name). body_of bodies m ≡ Some x.body) place.name (all-at (IsHeldNamed id_of bodies) es place.number x held place.within place.is).held;
        within = omega (arith, here, part, at, size);
        long = size;
        bytes =
            ap (λ (m : ℕ). take m (drop p.at (coded_runs h))) size
            ∙ ap (λ (m : ℕ). take (length x.body) (drop m (coded_runs h))) (let z : p.at ≡ start + inner = omega (arith, at) in z)
            ∙ ap (λ (l : List ℕ). take (length x.body) l) (sym (drop-twice start inner (coded_runs h)) ∙ ap (λ (l : List ℕ). drop inner l) (runs-split h k e less is ∙ ap (λ (l : List ℕ). l ++ coded_runs (drop (k + 1) h)) (packed e.what)))
            ∙ part-append (coded_run es) (coded_runs (drop (k + 1) h)) inner (length x.body) there
            ∙ part-there es place.number x place.within place.is;
      }

pub found-at : (id_of : Kind → List ℕ → List ℕ) (a : Archive) (h : List Event) (n : Name) (p : Extent) → MayAll id_of a h → IsPlaceOf h n p → IsFound (after_all a h).bodies h n p
found-at id_of a h n p may place =
    found-kind id_of (after_all a h).bodies h place.number place.event place.within place.is n p
    (held-at id_of a h place.number place.event may place.within place.is) place.place

pub none-at : (a : Archive) (h : List Event) (n : Name) → AreUnnamed n h → body_of a.bodies n ≡ None → body_of (after_all a h).bodies n ≡ None
none-at a [] n none absent = absent
none-at a (e ∷ h) n none absent = none-at (after a e) h n none.1 (kind e.what none.0)
  where
    kind : (what : EventKind) → IsUnnamed n (entries_of what) → body_of (after_kind a e.by what).bodies n ≡ None
    kind (Batch es) unnamed = none-added a.bodies es n unnamed absent
    kind what unnamed = absent
