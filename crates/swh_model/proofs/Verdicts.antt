-- The event of a verdict may happen.
use Rattle.std.proofs.Common.{◌≡◌, ◌≢◌, ℕ, zero, suc, ◌+◌, ◌-◌, ◌<◌, ◌≤◌, inl, inr, true, false, cond, Option, Some, None, List, [], ◌∷◌, length, refl, sym, ◌∙◌, subst, arith}
use Rattle.std.specs.Prelude.{is_some, nat_lt, nat_eq}
use Rattle.std.specs.List.{AllByRecursion, slice_get}
use Rattle.std.specs.Cmp.{unsigned_Decides}
use Rattle.std.specs.FinMap.{insert}
use Rattle.swh_base.specs.declared.kind.Kind.{Kind}
use Rattle.swh_base.specs.declared.name.Name.{Name}
use Rattle.swh_base.specs.declared.entry.Entry.{Entry}
use Rattle.swh_base.specs.declared.visit.Status.{Status}
use Rattle.swh_base.specs.declared.visit.Status.TheVariants.{Created, Ongoing, Full, Partial, NotFound, Failed}
use Rattle.swh_base.specs.declared.visit.Which.TheVariants.{Body, Objects, Bytes}
use Rattle.swh_model.specs.declared.event.Visit.{Visit}
use Rattle.swh_model.specs.declared.event.Event.{Event}
use Rattle.swh_model.specs.declared.event.Wish.{Wish}
use Rattle.swh_model.specs.declared.event.Wish.TheVariants.{Batch, Mark}
use Rattle.swh_model.specs.declared.event.EventKind.{EventKind}
use Rattle.swh_model.specs.declared.event.EventKind.TheVariants as happened
use Rattle.swh_model.specs.declared.event.No.{No}
use Rattle.swh_model.specs.declared.event.No.TheVariants.{Limit, NoVisit, NotYours, Ended, NoSnapshot, NotClosed}
use Rattle.swh_model.specs.Archive.{Bodies, body_of, IsHeld, visits_of, IsChild, IsWalk, Reaches}
use Rattle.swh_base.specs.Limits.{body_limit, objects_limit, bytes_limit}
use Rattle.swh_model.specs.Limits.{bytes_before_last, IsWithinLimits}
use Rattle.swh_model.specs.Step.{replay, HasItsChildrenAndName, AreNew, FitsStatus, May_kind, MayMark, MayAdd}
use Rattle.swh_base.specs.Snapshot.{snapshot_name}
use Rattle.swh_base.specs.Visit.{last_status}
use Rattle.swh_model.specs.Judge.{not_held, event_of, first_long, IsThere, IsCause, IsWish, StatusAllows, MarkCause, BatchCause, BatchPasses}
use Rattle.swh_model.specs.Judged.{NonePasses}
use Rattle.swh_model.proofs.Walks.{reaches-next}

-- what is held or not
held_unless : (bodies : Bodies) (n : Name) → (body_of bodies n ≡ None → ⊥) → IsHeld bodies n
held_unless bodies n not_none =
    elim (body_of bodies n) as (λ o. body_of bodies n ≡ o → IsHeld bodies n) [
      | None ↦ λ e. absurd (not_none e)
      | Some body ↦ λ e. (body, e)
    ] refl

none_of : (o : Option (List ℕ)) → is_some o ≡ false → o ≡ None
none_of None e = refl
none_of (Some x) e = absurd (let f : true ≡ false = e in cc)

-- the not_held entries are some of the entries
fresh-all : (P : Entry → Type 0) (bodies : Bodies) (es : List Entry) → AllByRecursion P es → AllByRecursion P (not_held bodies es)
fresh-all P bodies [] h = tt
fresh-all P bodies (e ∷ es) h =
    elim (is_some (body_of bodies e.name)) as (λ t. AllByRecursion P (cond t (not_held bodies es) (e ∷ not_held (insert bodies e.name e.body) es))) [
      | true ↦ fresh-all P bodies es h.1
      | false ↦ (h.0, fresh-all P (insert bodies e.name e.body) es h.1)
    ]

pub length-fresh : (bodies : Bodies) (es : List Entry) → length (not_held bodies es) ≤ length es
length-fresh bodies [] = omega arith
length-fresh bodies (e ∷ es) =
    elim (is_some (body_of bodies e.name)) as (λ t. length (cond t (not_held bodies es) (e ∷ not_held (insert bodies e.name e.body) es)) ≤ length (e ∷ es)) [
      | true ↦ let h = length-fresh bodies es in omega (arith, h)
      | false ↦ let h = length-fresh (insert bodies e.name e.body) es in omega (arith, h)
    ]

bytes-more : (e : Entry) (es : List Entry) → bytes_before_last (e ∷ es) ≤ length e.body + bytes_before_last es
bytes-more e [] = omega arith
bytes-more e (f ∷ es) = omega arith

bytes-fresh : (bodies : Bodies) (es : List Entry) → bytes_before_last (not_held bodies es) ≤ bytes_before_last es
bytes-fresh bodies [] = omega arith
bytes-fresh bodies (e ∷ []) =
    elim (is_some (body_of bodies e.name)) as (λ t. bytes_before_last (cond t [] (e ∷ [])) ≤ 0) [ true ↦ omega arith | false ↦ omega arith ]
bytes-fresh bodies (e ∷ f ∷ es) =
    elim (is_some (body_of bodies e.name)) as (λ t. bytes_before_last (cond t (not_held bodies (f ∷ es)) (e ∷ not_held (insert bodies e.name e.body) (f ∷ es))) ≤ length e.body + bytes_before_last (f ∷ es)) [
      | true ↦ let h = bytes-fresh bodies (f ∷ es) in omega (arith, h)
      | false ↦
          let h = bytes-fresh (insert bodies e.name e.body) (f ∷ es) in
          let m = bytes-more e (not_held (insert bodies e.name e.body) (f ∷ es)) in omega (arith, h, m)
    ]

pub fresh-new : (bodies : Bodies) (es : List Entry) → AreNew bodies (not_held bodies es)
fresh-new bodies [] = tt
fresh-new bodies (e ∷ es) =
    elim (is_some (body_of bodies e.name)) as (λ t. is_some (body_of bodies e.name) ≡ t → AreNew bodies (cond t (not_held bodies es) (e ∷ not_held (insert bodies e.name e.body) es))) [
      | true ↦ λ is. fresh-new bodies es
      | false ↦ λ is. (none_of (body_of bodies e.name) is, fresh-new (insert bodies e.name e.body) es)
    ] refl

pub short_unless : (es : List Entry) → ((n : ℕ) → first_long es ≡ Some n → ⊥) → AllByRecursion (λ (e : Entry). length e.body ≤ body_limit) es
short_unless [] h = tt
short_unless (e ∷ es) h =
    elim (nat_lt body_limit (length e.body)) as (λ t. nat_lt body_limit (length e.body) ≡ t → ((n : ℕ) → cond t (Some (length e.body)) (first_long es) ≡ Some n → ⊥)
    → AllByRecursion (λ (e : Entry). length e.body ≤ body_limit) (e ∷ es)) [
      | true ↦ λ is none. absurd (none (length e.body) refl)
      | false ↦ λ is none. (grind arith, short_unless es none)
    ] refl h

pub le_unless : (a b : ℕ) → (b < a → ⊥) → a ≤ b
le_unless a b h =
    elim (nat_lt b a) as (λ t. nat_lt b a ≡ t → a ≤ b) [
      | true ↦ λ is. absurd (h (grind arith))
      | false ↦ λ is. grind arith
    ] refl

equal_unless : (a b : ℕ) → ((a ≢ b) → ⊥) → a ≡ b
equal_unless a b h =
    elim (nat_eq a b) as (λ t. nat_eq a b ≡ t → a ≡ b) [
      | true ↦ λ is. (unsigned_Decides a b).0 is
      | false ↦ λ is. absurd (h (λ same. let t : nat_eq a b ≡ true = (unsigned_Decides a b).1 same in let f : true ≡ false = sym t ∙ is in cc))
    ] refl

visit_within : (vs : List Visit) (k : ℕ) → k < length vs → (v : Visit) × (slice_get vs k ≡ Some v)
visit_within [] k h = absurd (omega (arith, h))
visit_within (v ∷ vs) zero h = (v, refl)
visit_within (v ∷ vs) (suc k) h = visit_within vs k (omega (arith, h))

-- where each child of what is reached is held, so is all that is reached
closed_unless : (bodies : Bodies) (root : Name) → ((parent child : Name) → Reaches bodies root parent → IsChild bodies parent child → body_of bodies child ≡ None → ⊥)
    → (names : List Name) (from n : Name) → Reaches bodies root from → IsHeld bodies from → IsWalk bodies from names n → IsHeld bodies n
closed_unless bodies root each [] from n reach held walk = subst (IsHeld bodies) walk held
closed_unless bodies root each (next ∷ names) from n reach held walk =
    closed_unless bodies root each names next n (reaches-next bodies reach.0 root from next reach.1 walk.0)
    (held_unless bodies next (λ none. each from next reach walk.0 none)) walk.1

-- ---- a batch within the limits

-- where each body is short, none is long
none_long : (es : List Entry) (n : ℕ) → AllByRecursion (λ (e : Entry). length e.body ≤ body_limit) es → first_long es ≡ Some n → ⊥
none_long [] n short long = let f : None ≡ Some n = long in cc
none_long (e ∷ es) n short long =
    elim (nat_lt body_limit (length e.body)) as (λ t. nat_lt body_limit (length e.body) ≡ t → cond t (Some (length e.body)) (first_long es) ≡ Some n → ⊥) [
      | true ↦ λ is _. let s = short.0 in absurd (grind (arith, s))
      | false ↦ λ is rest. none_long es n short.1 rest
    ] refl long

pub within_unless : (es : List Entry) → NonePasses (BatchPasses es) → IsWithinLimits es
within_unless es none = record {
  bodies = short_unless es (none Body);
  objects = le_unless (length es) objects_limit (λ many. none Objects (length es) (refl, many));
  bytes = le_unless (bytes_before_last es) bytes_limit (λ many. none Bytes (bytes_before_last es) (refl, many));
}

pub none_passes : (es : List Entry) → IsWithinLimits es → NonePasses (BatchPasses es)
none_passes es within Body n long = none_long es n within.bodies long
none_passes es within Objects n many = let few = within.objects in let is = many.0 in let more = many.1 in absurd (omega (arith, few, is, more))
none_passes es within Bytes n many = let few = within.bytes in let is = many.0 in let more = many.1 in absurd (omega (arith, few, is, more))
none_passes es within _ n passes = absurd passes

batch_may : (id_of : Kind → List ℕ → List ℕ) (h : List Event) (by : ℕ) (entries : List Entry) → AllByRecursion (HasItsChildrenAndName id_of) entries
    → ((cause : No) → BatchCause h entries cause → ⊥) → MayAdd id_of (replay h).bodies (not_held (replay h).bodies entries)
batch_may id_of h by entries good none =
    let bodies = (replay h).bodies in
    let within = within_unless entries (λ which n passes. none (Limit which n) (inl passes)) in
    record {
      good = fresh-all (HasItsChildrenAndName id_of) bodies entries good;
      limits = record {
        bodies = fresh-all _ bodies entries within.bodies;
        objects = let few = within.objects in let l = length-fresh bodies entries in omega (arith, few, l);
        bytes = let few = within.bytes in let l = bytes-fresh bodies entries in omega (arith, few, l);
      };
      new = fresh-new bodies entries;
    }

fits_unless : (bodies : Bodies) (status : Status) (snapshot : Option (List ℕ)) → StatusAllows status snapshot
    → ((id : List ℕ) → snapshot ≡ Some id → body_of bodies (snapshot_name id) ≡ None → ⊥)
    → ((id : List ℕ) (parent child : Name) → status ≡ Full → snapshot ≡ Some id → Reaches bodies (snapshot_name id) parent → IsChild bodies parent child → body_of bodies child ≡ None → ⊥)
    → FitsStatus bodies status snapshot
fits_unless bodies Created snapshot how held each = absurd how
fits_unless bodies Ongoing snapshot how held each = how
fits_unless bodies Full None how held each = absurd (let f : false ≡ true = how in cc)
fits_unless bodies Full (Some id) how held each =
    λ n (names, walk). closed_unless bodies (snapshot_name id) (λ parent child. each id parent child refl refl) names (snapshot_name id) n ([], refl) (held_unless bodies (snapshot_name id) (held id refl)) walk
fits_unless bodies Partial None how held each = tt
fits_unless bodies Partial (Some id) how held each = held_unless bodies (snapshot_name id) (held id refl)
fits_unless bodies NotFound snapshot how held each = how
fits_unless bodies Failed snapshot how held each = how

mark_may : (h : List Event) (by : ℕ) (event : EventKind) (origin : List ℕ) (number : ℕ) (status : Status) (snapshot : Option (List ℕ)) → StatusAllows status snapshot
    → ((cause : No) → MarkCause h by event origin number status snapshot cause → ⊥) → MayMark (replay h) by origin number status snapshot
mark_may h by event origin number status snapshot how none =
    let vs = visits_of (replay h).origins origin in
    let few : number ≤ length vs = le_unless number (length vs) (λ more. none (NoVisit (length vs)) (refl, inr more)) in
    let some : 1 ≤ number = le_unless 1 number (λ less. none (NoVisit (length vs)) (refl, inl (omega (arith, less)))) in
    let found = visit_within vs (number - 1) (omega (arith, few, some)) in
    let there : IsThere (replay h) origin number found.0 = (omega (arith, some), found.1) in
    record {
      visit = found.0;
      positive = omega (arith, some);
      there = found.1;
      opened = equal_unless found.0.by by (λ other. none (NotYours found.0.by) (found.0, there, refl, other));
      unended = λ final. none (Ended (last_status found.0.statuses)) (found.0, there, refl, final);
      fits = fits_unless (replay h).bodies status snapshot how
          (λ id is missing. none (NoSnapshot (snapshot_name id)) (id, is, refl, missing))
          (λ id parent child full is reach is_child missing. none (NotClosed parent child) (full, id, is, reach, is_child, missing));
    }

pub wish_may : (id_of : Kind → List ℕ → List ℕ) (h : List Event) (by : ℕ) (wish : Wish) → IsWish id_of wish → ((cause : No) → IsCause h by wish cause → ⊥)
    → May_kind id_of (replay h) by (event_of (replay h) wish)
wish_may id_of h by (Batch entries) good none = batch_may id_of h by entries good none
wish_may id_of h by (Mark origin number status snapshot) how none = mark_may h by (happened.Mark origin number status snapshot) origin number status snapshot how none
wish_may id_of h by wish good none = tt
