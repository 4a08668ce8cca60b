-- The worked history.
use Rattle.std.specs.Prelude.{codes, Contains, decimal}
use Rattle.std.proofs.lemmas.Fmt.{length-decimal-le}
use Rattle.std.proofs.Common.{length-append}
use Rattle.std.proofs.Common.{◌≡◌, ℕ, zero, suc, ◌+◌, ◌<◌, ◌≤◌, inl, inr, Option, Some, None, Ok, Err, List, [], ◌∷◌, ◌++◌, length, refl, sym, ap, ◌∙◌, subst, arith, lit≤, lit<}
use Rattle.std.specs.FinMap.{empty}
use Rattle.swh_base.specs.declared.kind.Kind.TheVariants.{Revision, Snapshot}
use Rattle.swh_base.specs.declared.name.Name.{Name}
use Rattle.swh_base.specs.declared.visit.VisitKind.TheVariants.{Fast}
use Rattle.swh_base.specs.declared.visit.Status.{Status}
use Rattle.swh_base.specs.declared.visit.Status.TheVariants.{Created, Ongoing, Full, Failed}
use Rattle.swh_base.specs.declared.visit.Which.{Which}
use Rattle.swh_base.specs.declared.visit.Which.TheVariants.{Store, Ledger}
use Rattle.swh_model.specs.declared.event.Visit.{Visit}
use Rattle.swh_model.specs.declared.event.Event.{Event}
use Rattle.swh_model.specs.declared.event.EventKind.{EventKind}
use Rattle.swh_model.specs.declared.event.EventKind.TheVariants.{Mark}
use Rattle.swh_model.specs.declared.event.Wish.TheVariants as wished
use Rattle.swh_model.specs.declared.event.Outcome.TheVariants.{Opened, Marked}
use Rattle.swh_model.specs.declared.event.No.{No}
use Rattle.swh_model.specs.declared.event.No.TheVariants.{Limit, NoVisit, NotYours, Ended, NoSnapshot, NotClosed, Collision}
use Rattle.swh_model.specs.Archive.{Archive, Bodies, body_of, visits_of, IsChild}
use Rattle.swh_model.specs.Limits.{store_length, stored_length, ledger_length, payload_length}
use Rattle.swh_model.specs.Step.{visit_at, replay, with_status, marked_at}
use Rattle.swh_base.specs.Visit.{IsFinal, last_status}
use Rattle.swh_model.specs.Judge.{FilePasses, IsThere, MarkCause, OpenCause, IsVerdict, rank, ComesBefore}
use Rattle.swh_base.specs.Snapshot.{target_bytes, snapshot_name}
use Rattle.swh_model.specs.WorkedExample.{url, opening, wish_to_open, opened_once, failed_once, with_snapshot, revision, branch_to_it, snapshot_body}
use Rattle.swh_model.proofs.Maps.{visits-put, body-put, body_cases}
use Rattle.swh_model.proofs.Sounds.{none-opened}
use Rattle.swh_model.proofs.Entries.{none-empty}

-- a short history passes no file's limit
pub short : (h : List Event) (event : EventKind) → store_length h + stored_length event ≤ 1000 → (ledger_length h + 6) + payload_length event ≤ 1000
    → (which : Which) (number : ℕ) → FilePasses h event which number → ⊥
short h event s l Store number p = let a = p.0 in let b = p.1 in omega (arith, a, b, s)
short h event s l Ledger number p = let a = p.0 in let b = p.1 in omega (arith, a, b, l)
short h event s l _ number p = p

-- no cause whose variant comes before a place, from none of each kind
pub none_below : (h : List Event) (by : ℕ) (event : EventKind) (origin : List ℕ) (number : ℕ) (status : Status) (snapshot : Option (List ℕ)) (r : ℕ)
    → ((which : Which) (n : ℕ) → FilePasses h event which n → ⊥)
    → (1 < r → (have : ℕ) → MarkCause h by event origin number status snapshot (NoVisit have) → ⊥)
    → (2 < r → (other : ℕ) → MarkCause h by event origin number status snapshot (NotYours other) → ⊥)
    → (3 < r → (last : Status) → MarkCause h by event origin number status snapshot (Ended last) → ⊥)
    → (4 < r → (name : Name) → MarkCause h by event origin number status snapshot (NoSnapshot name) → ⊥)
    → (5 < r → (parent child : Name) → MarkCause h by event origin number status snapshot (NotClosed parent child) → ⊥)
    → (cause : No) → (rank cause).0 < r → MarkCause h by event origin number status snapshot cause → ⊥
none_below h by event origin number status snapshot r a b c d e f (Limit which n) less is = a which n is
none_below h by event origin number status snapshot r a b c d e f (NoVisit have) less is = b less have is
none_below h by event origin number status snapshot r a b c d e f (NotYours other) less is = c less other is
none_below h by event origin number status snapshot r a b c d e f (Ended last) less is = d less last is
none_below h by event origin number status snapshot r a b c d e f (NoSnapshot name) less is = e less name is
none_below h by event origin number status snapshot r a b c d e f (NotClosed parent child) less is = f less parent child is
none_below h by event origin number status snapshot r a b c d e f (Collision name) less is = is

-- before a cause that is no limit come those of an earlier variant
pub earlier : (other cause : No) → (rank cause).1 ≡ 0 → ComesBefore other cause → (rank other).0 < (rank cause).0
earlier other cause first (inl less) = less
earlier other cause first (inr (same, less)) = absurd (omega (arith, less, first))

-- no cause before one that is no limit, from none of each kind before it
pub none_before : (h : List Event) (by : ℕ) (event : EventKind) (origin : List ℕ) (number : ℕ) (status : Status) (snapshot : Option (List ℕ)) (cause : No) → (rank cause).1 ≡ 0
    → ((which : Which) (n : ℕ) → FilePasses h event which n → ⊥)
    → (1 < (rank cause).0 → (have : ℕ) → MarkCause h by event origin number status snapshot (NoVisit have) → ⊥)
    → (2 < (rank cause).0 → (other : ℕ) → MarkCause h by event origin number status snapshot (NotYours other) → ⊥)
    → (3 < (rank cause).0 → (last : Status) → MarkCause h by event origin number status snapshot (Ended last) → ⊥)
    → (4 < (rank cause).0 → (name : Name) → MarkCause h by event origin number status snapshot (NoSnapshot name) → ⊥)
    → (5 < (rank cause).0 → (parent child : Name) → MarkCause h by event origin number status snapshot (NotClosed parent child) → ⊥)
    → (other : No) → ComesBefore other cause → MarkCause h by event origin number status snapshot other → ⊥
none_before h by event origin number status snapshot cause first a b c d e f other before_it is =
    none_below h by event origin number status snapshot (rank cause).0 a b c d e f other (earlier other cause first before_it) is

abbrev first_visit : Visit
first_visit = record { number = 1; date = 1000000000; kind = Fast; by = 1; statuses = (Created, None) ∷ [] }

abbrev with_first : List Visit → List Visit
with_first vs = vs ++ record { number = length vs + 1; date = 1000000000; kind = Fast; by = 1; statuses = (Created, None) ∷ [] } ∷ []

pub opened_visits : visits_of (replay opened_once).origins url ≡ first_visit ∷ []
opened_visits = visits-put empty url (with_first (visits_of empty url)) ∙ ap with_first (none-opened url)

abbrev marked_failed : List Visit → List Visit
marked_failed vs = marked_at vs 0 Failed None

pub failed_visits : visits_of (replay failed_once).origins url ≡ with_status first_visit Failed None ∷ []
failed_visits = visits-put (replay opened_once).origins url (marked_failed (visits_of (replay opened_once).origins url)) ∙ ap marked_failed opened_visits

-- of one visit: it is there, and it is the only one
pub is_there : (a : Archive) (origin : List ℕ) (v : Visit) → visits_of a.origins origin ≡ v ∷ [] → IsThere a origin 1 v
is_there a origin v e = (omega arith, ap (λ (vs : List Visit). visit_at vs 1) e)

same_of_some : (v w : Visit) → Some v ≡ Some w → v ≡ w
same_of_some v w e = cc

pub only_one : (a : Archive) (origin : List ℕ) (v w : Visit) → visits_of a.origins origin ≡ v ∷ [] → IsThere a origin 1 w → v ≡ w
only_one a origin v w e there = same_of_some v w (sym (ap (λ (vs : List Visit). visit_at vs 1) e) ∙ there.1)

pub has_first : (h : List Event) (by : ℕ) (event : EventKind) (origin : List ℕ) (status : Status) (snapshot : Option (List ℕ)) (v : Visit) → visits_of (replay h).origins origin ≡ v ∷ []
    → (have : ℕ) → MarkCause h by event origin 1 status snapshot (NoVisit have) → ⊥
has_first h by event origin status snapshot v e have (l, inl z) = absurd (omega (arith, z))
has_first h by event origin status snapshot v e have (l, inr z) = let k : length (visits_of (replay h).origins origin) ≡ 1 = ap length e in omega (arith, l, z, k)

pub is_mine : (h : List Event) (by : ℕ) (event : EventKind) (origin : List ℕ) (status : Status) (snapshot : Option (List ℕ)) (v : Visit) → visits_of (replay h).origins origin ≡ v ∷ [] → v.by ≡ by
    → (other : ℕ) → MarkCause h by event origin 1 status snapshot (NotYours other) → ⊥
is_mine h by event origin status snapshot v e mine other (w, there, is, apart) = apart (subst (λ (x : Visit). x.by ≡ by) (only_one (replay h) origin v w e there) mine)

pub has_not_ended : (h : List Event) (by : ℕ) (event : EventKind) (origin : List ℕ) (status : Status) (snapshot : Option (List ℕ)) (v : Visit) → visits_of (replay h).origins origin ≡ v ∷ []
    → (IsFinal (last_status v.statuses) → ⊥) → (last : Status) → MarkCause h by event origin 1 status snapshot (Ended last) → ⊥
has_not_ended h by event origin status snapshot v e open_ last (w, there, is, final) =
    subst (λ (x : Visit). IsFinal (last_status x.statuses) → ⊥) (only_one (replay h) origin v w e there) open_ (subst IsFinal is final)

none_against_opening : (cause : No) → OpenCause [] opening cause → ⊥
none_against_opening (Limit which n) is = short [] opening (lit≤ tt) (lit≤ tt) which n is
none_against_opening (NoVisit have) is = is
none_against_opening (NotYours other) is = is
none_against_opening (Ended last) is = is
none_against_opening (NoSnapshot name) is = is
none_against_opening (NotClosed parent child) is = is
none_against_opening (Collision name) is = is

pub first_opens : IsVerdict [] 1 wish_to_open (Ok (record { by = 1; what = opening }, Opened 1 1))
first_opens = (none_against_opening, refl, ap (λ (vs : List Visit). Opened 1 (length vs + 1)) (sym (none-opened url)))

pub second_is_missing : IsVerdict opened_once 1 (wished.Mark url 2 Ongoing None) (Err (NoVisit 1))
second_is_missing = (
  (ap length (sym opened_visits), inr (lit≤ tt)),
  none_before opened_once 1 (Mark url 2 Ongoing None) url 2 Ongoing None (NoVisit 1) refl (short opened_once (Mark url 2 Ongoing None) (lit≤ tt) (lit≤ tt))
      (λ l. absurd (omega (arith, l))) (λ l. absurd (omega (arith, l))) (λ l. absurd (omega (arith, l))) (λ l. absurd (omega (arith, l))) (λ l. absurd (omega (arith, l))),
)

pub first_is_not_theirs : IsVerdict opened_once 2 (wished.Mark url 1 Ongoing None) (Err (NotYours 1))
first_is_not_theirs = (
  (first_visit, is_there (replay opened_once) url first_visit opened_visits, refl, λ e. omega (arith, e)),
  none_before opened_once 2 (Mark url 1 Ongoing None) url 1 Ongoing None (NotYours 1) refl (short opened_once (Mark url 1 Ongoing None) (lit≤ tt) (lit≤ tt))
      (λ l. has_first opened_once 2 (Mark url 1 Ongoing None) url Ongoing None first_visit opened_visits)
      (λ l. absurd (omega (arith, l))) (λ l. absurd (omega (arith, l))) (λ l. absurd (omega (arith, l))) (λ l. absurd (omega (arith, l))),
)

pub no_such_snapshot : (id : List ℕ) → length id ≡ 20 → IsVerdict opened_once 1 (wished.Mark url 1 Full (Some id)) (Err (NoSnapshot (snapshot_name id)))
no_such_snapshot id twenty =
    let mark : EventKind = Mark url 1 Full (Some id) in (
      (id, refl, refl, none-empty (snapshot_name id)),
      none_before opened_once 1 mark url 1 Full (Some id) (NoSnapshot (snapshot_name id)) refl (short opened_once mark (lit≤ tt) (let t = twenty in omega (arith, t, length-append id url)))
          (λ l. has_first opened_once 1 mark url Full (Some id) first_visit opened_visits)
          (λ l. is_mine opened_once 1 mark url Full (Some id) first_visit opened_visits refl)
          (λ l. has_not_ended opened_once 1 mark url Full (Some id) first_visit opened_visits (λ f. f))
          (λ l. absurd (omega (arith, l))) (λ l. absurd (omega (arith, l))),
    )

pub first_may_fail : IsVerdict opened_once 1 (wished.Mark url 1 Failed None) (Ok (record { by = 1; what = Mark url 1 Failed None }, Marked 2))
first_may_fail =
    let mark : EventKind = Mark url 1 Failed None in (
      λ cause is. none_below opened_once 1 mark url 1 Failed None (suc (rank cause).0) (short opened_once mark (lit≤ tt) (lit≤ tt))
          (λ l. has_first opened_once 1 mark url Failed None first_visit opened_visits)
          (λ l. is_mine opened_once 1 mark url Failed None first_visit opened_visits refl)
          (λ l. has_not_ended opened_once 1 mark url Failed None first_visit opened_visits (λ f. f))
          (λ l name (id, s, _, _). let f : None ≡ Some id = s in absurd (cc))
          (λ l parent child (full, _, _, _, _, _). let f : Failed ≡ Full = full in absurd (cc))
          cause (omega arith) is,
      refl,
      refl,
    )

pub first_has_ended : IsVerdict failed_once 1 (wished.Mark url 1 Ongoing None) (Err (Ended Failed))
first_has_ended =
    let mark : EventKind = Mark url 1 Ongoing None in
    let v : Visit = with_status first_visit Failed None in (
      (v, is_there (replay failed_once) url v failed_visits, refl, tt),
      none_before failed_once 1 mark url 1 Ongoing None (Ended Failed) refl (short failed_once mark (lit≤ tt) (lit≤ tt))
          (λ l. has_first failed_once 1 mark url Ongoing None v failed_visits)
          (λ l. is_mine failed_once 1 mark url Ongoing None v failed_visits refl)
          (λ l. absurd (omega (arith, l))) (λ l. absurd (omega (arith, l))) (λ l. absurd (omega (arith, l))),
    )

has_no_nul : Contains (codes "b") 0 → ⊥
has_no_nul (zero, less, is) = absurd (omega (arith, is))
has_no_nul (suc k, less, is) = absurd (omega (arith, less))

revision_is_child : (id : List ℕ) → IsChild (replay (with_snapshot id)).bodies (snapshot_name id) revision
revision_is_child id =
    record {
      body = snapshot_body;
      held = body-put empty (snapshot_name id) snapshot_body;
      kids = revision ∷ [];
      are = record {
        branches = branch_to_it ∷ [];
        is = record { text = refl; good = (record { not_empty = λ e. let f : codes "b" ≡ [] = e in cc; no_nul = λ h. has_no_nul h; target = refl }, tt, tt) };
        kids = refl;
      };
      one_of = (0, lit< tt, refl);
    }

not_same : (id : List ℕ) → revision ≡ snapshot_name id → ⊥
not_same id e = let k : Revision ≡ Snapshot = ap (λ (n : Name). n.kind) e in cc

revision_is_missing : (id : List ℕ) → body_of (replay (with_snapshot id)).bodies revision ≡ None
revision_is_missing id = body_cases empty (snapshot_name id) snapshot_body revision (λ o. o ≡ None) (λ same. absurd (not_same id same)) (none-empty revision)

snapshot_is_held : (bodies : Bodies) (id : List ℕ) (body : List ℕ) (name : Name) → body_of bodies (snapshot_name id) ≡ Some body → name ≡ snapshot_name id → body_of bodies name ≡ None → ⊥
snapshot_is_held bodies id body name held is none = let e : body_of bodies name ≡ body_of bodies (snapshot_name id) = ap (body_of bodies) is in let f : None ≡ Some body = sym none ∙ e ∙ held in cc

same_id : (a b : List ℕ) → Some a ≡ Some b → a ≡ b
same_id a b e = cc

few_bytes : (id : List ℕ) → length id ≡ 20 → store_length (with_snapshot id) + stored_length (Mark url 1 Full (Some id)) ≤ 1000
few_bytes id twenty =
    let digits_of_it : List ℕ = decimal (length (target_bytes branch_to_it.target)) in
    let d : length digits_of_it ≤ 2 = length-decimal-le 2 20 (lit< tt) (lit< tt) (lit< tt) in
    omega (arith, twenty, length-append digits_of_it (58 ∷ target_bytes branch_to_it.target ++ []), length-append digits_of_it (58 ∷ target_bytes branch_to_it.target), d, length-append (digits_of_it ++ 58 ∷ target_bytes branch_to_it.target) [])

pub snapshot_is_not_closed : (id : List ℕ) → length id ≡ 20
    → IsVerdict (with_snapshot id) 1 (wished.Mark url 1 Full (Some id)) (Err (NotClosed (snapshot_name id) revision))
snapshot_is_not_closed id twenty =
    let mark : EventKind = Mark url 1 Full (Some id) in (
      (refl, id, refl, ([], refl), revision_is_child id, revision_is_missing id),
      none_before (with_snapshot id) 1 mark url 1 Full (Some id) (NotClosed (snapshot_name id) revision) refl (short (with_snapshot id) mark (few_bytes id twenty) (let t = twenty in omega (arith, t, length-append id url)))
          (λ l. has_first (with_snapshot id) 1 mark url Full (Some id) first_visit opened_visits)
          (λ l. is_mine (with_snapshot id) 1 mark url Full (Some id) first_visit opened_visits refl)
          (λ l. has_not_ended (with_snapshot id) 1 mark url Full (Some id) first_visit opened_visits (λ f. f))
          (λ l name (other, s, is, none). snapshot_is_held (replay (with_snapshot id)).bodies id snapshot_body name (body-put empty (snapshot_name id) snapshot_body)
          (is ∙ ap snapshot_name (sym (same_id id other s))) none)
          (λ l. absurd (omega (arith, l))),
    )
