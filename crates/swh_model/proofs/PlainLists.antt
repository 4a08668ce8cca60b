-- Plain lists of entries and of origins as the maps of an archive.
use Rattle.std.proofs.Common.{◌≡◌, ◌≢◌, ℕ, zero, suc, ◌+◌, ◌<◌, Bool, true, false, cond, Option, Some, None, List, [], ◌∷◌, ◌++◌, map, length, take, get_or, set, unwrap_or, refl, sym, ap, ◌∙◌, subst, arith, All}
use Rattle.std.specs.Prelude.{Contains, IfSome, IfNone}
use Rattle.std.specs.Borrow.{Bor}
use Rattle.std.proofs.lemmas.List.Elements.{All-contains}
use Rattle.std.specs.List.{AllByRecursion}
use Rattle.std.specs.declared.cmp.Ordering.{Ordering}
use Rattle.std.specs.Ordering.{eq_by_cmp, is_eq, nat_cmp}
use Rattle.std.specs.Cmp.{Equal-is, tied_itself}
use Rattle.std.specs.Cmp.Lexicographic.{slice_cmp, nat_list_cmp_total}
use Rattle.std.specs.FinMap as finite
use Rattle.std.specs.FinMap.{find, insert, get-from_entries, get-insert, same_map, IsAntisymmetric, from_entries_push}
use Rattle.std.proofs.lemmas.List.{take_more}
use Rattle.swh_base.specs.declared.name.Name.{Name}
use Rattle.swh_base.specs.declared.entry.Entry.{Entry}
use Rattle.swh_model.specs.declared.event.Visit.{Visit}
use Rattle.swh_model.specs.declared.origins.VisitedOrigin.{VisitedOrigin}
use Rattle.swh_model.specs.Archive.{Bodies, body_of, visits_of}
use Rattle.swh_model.specs.Step.{HasItsChildren, added}
use Rattle.swh_model.specs.Walk.{IsEntryOf}
use Rattle.swh_model.specs.State.{with_visits, origins_in, IsPlaceOf}
use Rattle.swh_model.proofs.Maps.{body-put, body_cases}
use Rattle.swh_model.proofs.Entries.{added-more, none-empty}

-- one more element of any list
pub take-more : {X : Type 0} (xs : List X) (k : ℕ) (x : X) → k < length xs → x ≡ get_or xs k x → take (k + 1) xs ≡ take k xs ++ x ∷ []
take-more xs k x less is = take_more xs k x less ∙ ap (λ y. take k xs ++ y ∷ []) (sym is)

pub all-at : {X : Type 0} (P : X → Type 0) (xs : List X) (k : ℕ) (x : X) → AllByRecursion P xs → k < length xs → x ≡ get_or xs k x → P x
all-at P [] k x h less is = absurd (omega (arith, less))
all-at P (y ∷ xs) zero x h less is = subst P (sym is) h.0
all-at P (y ∷ xs) (suc k) x h less is = all-at P xs k x h.1 (omega (arith, less)) is

-- ---- the newest entry of a name

pub newest-passed : (bodies : Bodies) (es : List Entry) (k : ℕ) (e : Entry) (n : Name) → k < length es → e ≡ get_or es k e → (e.name ≡ n → ⊥) → body_of (added bodies (take (k + 1) es)) n ≡ body_of (added bodies (take k es)) n
newest-passed bodies es k e n less is other =
    ap (λ (b : Bodies). body_of b n) (added-more bodies es k e less is)
    ∙ body_cases (added bodies (take k es)) e.name e.body n (λ o. o ≡ body_of (added bodies (take k es)) n) (λ same. absurd (other (sym same))) refl

pub newest-found : (bodies : Bodies) (es : List Entry) (k : ℕ) (e : Entry) (n : Name) → k < length es → e ≡ get_or es k e → e.name ≡ n → body_of (added bodies (take (k + 1) es)) n ≡ Some e.body
newest-found bodies es k e n less is same =
    ap (λ (b : Bodies). body_of b n) (added-more bodies es k e less is)
    ∙ subst (λ (m : Name). body_of (insert (added bodies (take k es)) e.name e.body) m ≡ Some e.body) same (body-put (added bodies (take k es)) e.name e.body)

-- ---- the place of an origin

abbrev R : List ℕ → List ℕ → Ordering
R = slice_cmp nat_cmp

R_same : IsAntisymmetric R
R_same = finite.slice_cmp-IsAntisymmetric finite.nat_cmp-IsAntisymmetric

same_url : (a b : List ℕ) → eq_by_cmp R a b ≡ true → a ≡ b
same_url a b t = R_same a b ((Equal-is (R a b)).0 t)

other_url : (a b : List ℕ) → (a ≢ b) → eq_by_cmp R a b ≡ false
other_url a b apart =
    elim (eq_by_cmp R a b) as (λ t. eq_by_cmp R a b ≡ t → t ≡ false) [
      | true ↦ λ t. absurd (apart (same_url a b t))
      | false ↦ λ _. refl
    ] refl

itself_url : (a : List ℕ) → eq_by_cmp R a a ≡ true
itself_url a = ap is_eq (tied_itself nat_list_cmp_total a)

pub place-here : (url : List ℕ) (os : List VisitedOrigin) (k : ℕ) (o : VisitedOrigin) → k < length os → o ≡ get_or os k o → AllByRecursion (λ (p : VisitedOrigin). p.origin ≢ url) (take k os) → o.origin ≡ url → IsPlaceOf url os k
place-here url [] k o less is before_ here = absurd (omega (arith, less))
place-here url (p ∷ os) zero o less is before_ here = ap (λ (q : VisitedOrigin). q.origin) (sym is) ∙ here
place-here url (p ∷ os) (suc k) o less is before_ here = (before_.0, place-here url os k o (omega (arith, less)) is before_.1 here)

pub place-none : (url : List ℕ) (os : List VisitedOrigin) → AllByRecursion (λ (p : VisitedOrigin). p.origin ≢ url) os → find R url (map with_visits os) ≡ None
place-none url [] h = refl
place-none url (o ∷ os) h =
    ap (λ (b : Bool). cond b (Some o.visits.items) (find R url (map with_visits os))) (other_url url o.origin (λ e. h.0 (sym e))) ∙ place-none url os h.1

pub place-named : (url : List ℕ) (os : List VisitedOrigin) (k : ℕ) (o : VisitedOrigin) → IsPlaceOf url os k → o ≡ get_or os k o → o.origin ≡ url
place-named url [] k o h is = absurd h
place-named url (p ∷ os) zero o h is = ap (λ (q : VisitedOrigin). q.origin) is ∙ h
place-named url (p ∷ os) (suc k) o h is = place-named url os k o h.1 is

find-at : (url : List ℕ) (os : List VisitedOrigin) (k : ℕ) (o : VisitedOrigin) → IsPlaceOf url os k → o ≡ get_or os k o → find R url (map with_visits os) ≡ Some o.visits.items
find-at url [] k o h is = absurd h
find-at url (p ∷ os) zero o h is =
    ap (λ (b : Bool). cond b (Some p.visits.items) (find R url (map with_visits os))) (subst (λ (u : List ℕ). eq_by_cmp R u p.origin ≡ true) h (itself_url p.origin))
    ∙ ap (λ (q : VisitedOrigin). Some q.visits.items) (sym is)
find-at url (p ∷ os) (suc k) o h is =
    ap (λ (b : Bool). cond b (Some p.visits.items) (find R url (map with_visits os))) (other_url url p.origin (λ e. h.0 (sym e))) ∙ find-at url os k o h.1 is

abbrev or_none : Option (List Visit) → List Visit
or_none o = unwrap_or o []

pub visits-at : (url : List ℕ) (os : List VisitedOrigin) (k : ℕ) (o : VisitedOrigin) → IsPlaceOf url os k → o ≡ get_or os k o → visits_of (origins_in os) url ≡ o.visits.items
visits-at url os k o h is = ap or_none (get-from_entries nat_list_cmp_total (map with_visits os) url ∙ find-at url os k o h is)

pub visits-none : (url : List ℕ) (os : List VisitedOrigin) → find R url (map with_visits os) ≡ None → visits_of (origins_in os) url ≡ []
visits-none url os none = ap or_none (get-from_entries nat_list_cmp_total (map with_visits os) url ∙ none)

-- ---- other visits of one origin

-- an equal key's value is replaced
replaced : (q k key : List ℕ) (x v : List Visit) (o : Option (List Visit)) → k ≡ key → cond (eq_by_cmp R q key) (Some v) o ≡ cond (eq_by_cmp R q k) (Some v) (cond (eq_by_cmp R q key) (Some x) o)
replaced q k key x v o e =
    subst (λ (j : List ℕ). cond (eq_by_cmp R q j) (Some v) o ≡ cond (eq_by_cmp R q k) (Some v) (cond (eq_by_cmp R q j) (Some x) o)) e
    (elim (eq_by_cmp R q k) as (λ t. cond t (Some v) o ≡ cond t (Some v) (cond t (Some x) o)) [ true ↦ refl | false ↦ refl ])

-- different keys do not meet
passed : (q k key : List ℕ) (x v : List Visit) (o : Option (List Visit)) → eq_by_cmp R k key ≡ false
    → cond (eq_by_cmp R q key) (Some x) (cond (eq_by_cmp R q k) (Some v) o) ≡ cond (eq_by_cmp R q k) (Some v) (cond (eq_by_cmp R q key) (Some x) o)
passed q k key x v o apart =
    elim (eq_by_cmp R q k) as (λ t. eq_by_cmp R q k ≡ t → cond (eq_by_cmp R q key) (Some x) (cond t (Some v) o) ≡ cond t (Some v) (cond (eq_by_cmp R q key) (Some x) o)) [
      | true ↦ λ t. ap (λ (b : Bool). cond b (Some x) (Some v)) (ap (λ (j : List ℕ). eq_by_cmp R j key) (same_url q k t) ∙ apart)
      | false ↦ λ t. refl
    ] refl

find-set : (q url : List ℕ) (w : VisitedOrigin) (os : List VisitedOrigin) (k : ℕ) → IsPlaceOf url os k → w.origin ≡ url
    → find R q (map with_visits (set os k w)) ≡ cond (eq_by_cmp R q url) (Some w.visits.items) (find R q (map with_visits os))
find-set q url w [] k h named = absurd h
find-set q url w (o ∷ os) zero h named =
    ap (λ (u : List ℕ). cond (eq_by_cmp R q u) (Some w.visits.items) (find R q (map with_visits os))) (named ∙ sym h)
    ∙ replaced q url o.origin o.visits.items w.visits.items (find R q (map with_visits os)) (sym h)
find-set q url w (o ∷ os) (suc k) h named =
    ap (λ (p : Option (List Visit)). cond (eq_by_cmp R q o.origin) (Some o.visits.items) p) (find-set q url w os k h.1 named)
    ∙ passed q url o.origin o.visits.items w.visits.items (find R q (map with_visits os)) (other_url url o.origin (λ e. h.0 (sym e)))

pub origins-set : (url : List ℕ) (w : VisitedOrigin) (os : List VisitedOrigin) (k : ℕ) → IsPlaceOf url os k → w.origin ≡ url → origins_in (set os k w) ≡ insert (origins_in os) url w.visits.items
origins-set url w os k h named =
    same_map nat_list_cmp_total R_same (origins_in (set os k w)) (insert (origins_in os) url w.visits.items)
    (λ q. get-from_entries nat_list_cmp_total (map with_visits (set os k w)) q ∙ find-set q url w os k h named
    ∙ ap (λ (o : Option (List Visit)). cond (eq_by_cmp R q url) (Some w.visits.items) o) (sym (get-from_entries nat_list_cmp_total (map with_visits os) q))
    ∙ sym (get-insert nat_list_cmp_total (origins_in os) url w.visits.items q))

map-push : (os : List VisitedOrigin) (w : VisitedOrigin) → map with_visits (os ++ w ∷ []) ≡ map with_visits os ++ with_visits w ∷ []
map-push [] w = refl
map-push (o ∷ os) w = ap (λ (ps : List (List ℕ × List Visit)). with_visits o ∷ ps) (map-push os w)

pub origins-push : (os : List VisitedOrigin) (w : VisitedOrigin) → find R w.origin (map with_visits os) ≡ None → origins_in (os ++ w ∷ []) ≡ insert (origins_in os) w.origin w.visits.items
origins-push os w none =
    ap (λ (ps : List (List ℕ × List Visit)). finite.from_entries ps) (map-push os w) ∙ from_entries_push nat_list_cmp_total R_same (map with_visits os) w.origin w.visits.items none

-- ---- what a look-up among entries answers

module _ (r : Option (Bor Entry)) (es : List Entry) (n : Name) where
  -- an entry that is found is among those that are good
  pub found : All HasItsChildren es → IfSome r (λ e. Contains es e.now) → IfSome r (λ e. e.now.name ≡ n) → IfSome r (λ e. body_of (added finite.empty es) n ≡ Some e.now.body) → IfSome r (λ e. IsEntryOf (added finite.empty es) n e.now)
  found good among named held = found_in r among named held
    where
      found_in : (o : Option (Bor Entry)) → IfSome o (λ e. Contains es e.now) → IfSome o (λ e. e.now.name ≡ n) → IfSome o (λ e. body_of (added finite.empty es) n ≡ Some e.now.body) → IfSome o (λ e. IsEntryOf (added finite.empty es) n e.now)
      found_in None a b c = tt
      found_in (Some e) a b c = record { name = b; held = c; good = All-contains HasItsChildren es e.now good a }

  pub missing : IfNone r (body_of (added finite.empty es) n ≡ body_of finite.empty n) → IfNone r (body_of (added finite.empty es) n ≡ None)
  missing h = missing_in r h
    where
      missing_in : (o : Option (Bor Entry)) → IfNone o (body_of (added finite.empty es) n ≡ body_of finite.empty n) → IfNone o (body_of (added finite.empty es) n ≡ None)
      missing_in None h = h ∙ none-empty n
      missing_in (Some e) h = tt
