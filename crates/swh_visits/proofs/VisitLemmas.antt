-- The map of visits by origins as the finite map of the archive.
use Rattle.std.proofs.Common.{◌≡◌, ℕ, ◌-◌, Bool, true, false, cond, Option, Some, None, List, [], ◌∷◌, map, unwrap_or, refl, sym, ap, ◌∙◌, subst}
use Rattle.std.specs.Prelude.{IsSome}
use Rattle.std.specs.Option.{option_map}
use Rattle.std.specs.Global.{Vec}
use Rattle.std.specs.Map.{lookup, set_value}
use Rattle.std.specs.BTreeMap.{is_at, insert_entry}
use Rattle.std.specs.declared.cmp.Ordering.{Ordering}
use Rattle.std.specs.declared.cmp.Ordering.TheVariants.{Less, Equal, Greater}
use Rattle.std.specs.Ordering.{eq_by_cmp, is_eq, nat_cmp, match_ordering}
use Rattle.std.specs.Cmp.Lexicographic.{slice_cmp, nat_list_cmp_total}
use Rattle.std.specs.FinMap.{find, insert, get-from_entries, get-insert, same_map, IsAntisymmetric}
use Rattle.std.specs.FinMap as finite
use Rattle.swh_model.specs.declared.event.Visit.{Visit}
use Rattle.swh_model.specs.Archive.{Origins, visits_of}
use Rattle.swh_model.specs.Step.{marked, marked_at}
use Rattle.swh_base.specs.declared.visit.Status.{Status}
use Rattle.swh_visits.specs.Visits.{with_visits, origins_of}

abbrev R : List ℕ → List ℕ → Ordering
R = slice_cmp nat_cmp

abbrev Kept : Type 0
Kept = List (Vec ℕ × Vec Visit)

abbrev pub visits_items : Vec Visit → List Visit
visits_items v = v.items

-- how a query and a key are compared
abbrev pub at : List ℕ → Vec ℕ → Ordering
at q k = slice_cmp nat_cmp q k.items

R_same : IsAntisymmetric R
R_same = finite.slice_cmp-IsAntisymmetric finite.nat_cmp-IsAntisymmetric

tied : (o : Ordering) → is_eq o ≡ true → o ≡ Equal
tied Less e = absurd (let f : false ≡ true = e in cc)
tied Equal e = refl
tied Greater e = absurd (let f : false ≡ true = e in cc)

same_url : (a b : List ℕ) → eq_by_cmp R a b ≡ true → a ≡ b
same_url a b t = R_same a b (tied (R a b) t)

pub find-visits : (q : List ℕ) (es : Kept) → find R q (map with_visits es) ≡ option_map visits_items (lookup (is_at (at q)) es)
find-visits q [] = refl
find-visits q (e ∷ es) =
    elim (is_at (at q) e.0) as (λ b. cond b (Some e.1.items) (find R q (map with_visits es)) ≡ option_map visits_items (cond b (Some e.1) (lookup (is_at (at q)) es))) [ true ↦ refl | false ↦ find-visits q es ]

abbrev or_none : Option (List Visit) → List Visit
or_none o = unwrap_or o []

pub visits-lookup : (q : List ℕ) (es : Kept) → visits_of (origins_of es) q ≡ or_none (option_map visits_items (lookup (is_at (at q)) es))
visits-lookup q es = ap or_none (get-from_entries nat_list_cmp_total (map with_visits es) q ∙ find-visits q es)

pub visits-found : (q : List ℕ) (es : Kept) (v : Vec Visit) → lookup (is_at (at q)) es ≡ Some v → visits_of (origins_of es) q ≡ v.items
visits-found q es v is = visits-lookup q es ∙ ap (λ (o : Option (Vec Visit)). or_none (option_map visits_items o)) is

pub visits-missing : (q : List ℕ) (es : Kept) → lookup (is_at (at q)) es ≡ None → visits_of (origins_of es) q ≡ []
visits-missing q es is = visits-lookup q es ∙ ap (λ (o : Option (Vec Visit)). or_none (option_map visits_items o)) is

-- an equal key's value is replaced
replaced : (q k key : List ℕ) (x v : List Visit) (o : Option (List Visit)) → k ≡ key → cond (eq_by_cmp R q key) (Some v) o ≡ cond (eq_by_cmp R q k) (Some v) (cond (eq_by_cmp R q key) (Some x) o)
replaced q k key x v o e =
    subst (λ (j : List ℕ). cond (eq_by_cmp R q j) (Some v) o ≡ cond (eq_by_cmp R q k) (Some v) (cond (eq_by_cmp R q j) (Some x) o)) e
    (elim (eq_by_cmp R q k) as (λ t. cond t (Some v) o ≡ cond t (Some v) (cond t (Some x) o)) [ true ↦ refl | false ↦ refl ])

-- different keys do not meet
passed : (q k key : List ℕ) (x v : List Visit) (o : Option (List Visit)) → eq_by_cmp R k key ≡ false
    → cond (eq_by_cmp R q key) (Some x) (cond (eq_by_cmp R q k) (Some v) o) ≡ cond (eq_by_cmp R q k) (Some v) (cond (eq_by_cmp R q key) (Some x) o)
passed q k key x v o apart =
    elim (eq_by_cmp R q k) as (λ t. eq_by_cmp R q k ≡ t → cond (eq_by_cmp R q key) (Some x) (cond t (Some v) o) ≡ cond t (Some v) (cond (eq_by_cmp R q key) (Some x) o)) [
      | true ↦ λ t. ap (λ (b : Bool). cond b (Some x) (Some v)) (ap (λ (j : List ℕ). eq_by_cmp R j key) (same_url q k t) ∙ apart)
      | false ↦ λ t. refl
    ] refl

pub find-set : (q k : List ℕ) (w : Vec Visit) (es : Kept) → IsSome (lookup (is_at (at k)) es)
    → find R q (map with_visits (set_value (is_at (at k)) es w)) ≡ cond (eq_by_cmp R q k) (Some w.items) (find R q (map with_visits es))
find-set q k w [] some = absurd (let f : false ≡ true = some in cc)
find-set q k w (e ∷ es) some =
    elim (is_at (at k) e.0) as (λ b. is_at (at k) e.0 ≡ b → IsSome (cond b (Some e.1) (lookup (is_at (at k)) es))
    → find R q (map with_visits (cond b ((e.0, w) ∷ es) (e ∷ set_value (is_at (at k)) es w))) ≡ cond (eq_by_cmp R q k) (Some w.items) (find R q (map with_visits (e ∷ es)))) [
      | true ↦ λ t s. replaced q k e.0.items e.1.items w.items (find R q (map with_visits es)) (same_url k e.0.items t)
      | false ↦ λ t s.
          ap (λ (o : Option (List Visit)). cond (eq_by_cmp R q e.0.items) (Some e.1.items) o) (find-set q k w es s)
          ∙ passed q k e.0.items e.1.items w.items (find R q (map with_visits es)) t
    ] refl some

abbrev pub key_cmp : Vec ℕ → Vec ℕ → Ordering
key_cmp a b = slice_cmp nat_cmp a.items b.items

pub find-insert : (q : List ℕ) (k : Vec ℕ) (w : Vec Visit) (es : Kept)
    → find R q (map with_visits (insert_entry key_cmp es k w)) ≡ cond (eq_by_cmp R q k.items) (Some w.items) (find R q (map with_visits es))
find-insert q k w [] = refl
find-insert q k w (e ∷ es) =
    elim (key_cmp k e.0) as (λ o. key_cmp k e.0 ≡ o → find R q (map with_visits (match_ordering o ((k, w) ∷ e ∷ es) ((e.0, w) ∷ es) (e ∷ insert_entry key_cmp es k w)))
    ≡ cond (eq_by_cmp R q k.items) (Some w.items) (find R q (map with_visits (e ∷ es)))) [
      | Less ↦ λ t. refl
      | Equal ↦ λ t. replaced q k.items e.0.items e.1.items w.items (find R q (map with_visits es)) (R_same k.items e.0.items t)
      | Greater ↦ λ t.
          ap (λ (o : Option (List Visit)). cond (eq_by_cmp R q e.0.items) (Some e.1.items) o) (find-insert q k w es)
          ∙ passed q k.items e.0.items e.1.items w.items (find R q (map with_visits es)) (ap is_eq t)
    ] refl

-- what the maps are once one origin's visits are others
pub view-from : (es fs : Kept) (k : List ℕ) (vs : List Visit) → ((q : List ℕ) → find R q (map with_visits fs) ≡ cond (eq_by_cmp R q k) (Some vs) (find R q (map with_visits es)))
    → origins_of fs ≡ insert (origins_of es) k vs
view-from es fs k vs each =
    same_map nat_list_cmp_total R_same (origins_of fs) (insert (origins_of es) k vs)
    (λ q. get-from_entries nat_list_cmp_total (map with_visits fs) q ∙ each q
    ∙ ap (λ (o : Option (List Visit)). cond (eq_by_cmp R q k) (Some vs) o) (sym (get-from_entries nat_list_cmp_total (map with_visits es) q))
    ∙ sym (get-insert nat_list_cmp_total (origins_of es) k vs q))

pub some_is : (o : Option (Vec Visit)) (v : Vec Visit) → o ≡ Some v → IsSome o
some_is None v e = absurd (let f : None ≡ Some v = e in cc)
some_is (Some x) v e = refl

pub view-set : (es fs : Kept) (k : List ℕ) (old w : Vec Visit) → lookup (is_at (at k)) es ≡ Some old → fs ≡ set_value (is_at (at k)) es w → origins_of fs ≡ insert (origins_of es) k w.items
view-set es fs k old w there is =
    view-from es fs k w.items (λ q. ap (λ (gs : Kept). find R q (map with_visits gs)) is ∙ find-set q k w es (some_is _ old there))

pub view-insert : (es fs : Kept) (k : Vec ℕ) (w : Vec Visit) → fs ≡ insert_entry key_cmp es k w → origins_of fs ≡ insert (origins_of es) k.items w.items
view-insert es fs k w is = view-from es fs k.items w.items (λ q. ap (λ (gs : Kept). find R q (map with_visits gs)) is ∙ find-insert q k w es)

-- where the visits are the same, the map is the same
pub view-same : (es fs : Kept) (k : List ℕ) (old w : Vec Visit) → lookup (is_at (at k)) es ≡ Some old → fs ≡ set_value (is_at (at k)) es w → w.items ≡ old.items → origins_of fs ≡ origins_of es
view-same es fs k old w there is same =
    same_map nat_list_cmp_total R_same (origins_of fs) (origins_of es)
    (λ q. get-from_entries nat_list_cmp_total (map with_visits fs) q
    ∙ ap (λ (gs : Kept). find R q (map with_visits gs)) is ∙ find-set q k w es (some_is _ old there)
    ∙ kept q
    ∙ sym (get-from_entries nat_list_cmp_total (map with_visits es) q))
  where
    kept : (q : List ℕ) → cond (eq_by_cmp R q k) (Some w.items) (find R q (map with_visits es)) ≡ find R q (map with_visits es)
    kept q =
        elim (eq_by_cmp R q k) as (λ t. eq_by_cmp R q k ≡ t → cond t (Some w.items) (find R q (map with_visits es)) ≡ find R q (map with_visits es)) [
          | true ↦ λ t. ap (λ (vs : List Visit). Some vs) same
              ∙ sym (subst (λ (j : List ℕ). find R j (map with_visits es) ≡ Some old.items) (sym (same_url q k t)) (find-visits k es ∙ ap (option_map visits_items) there))
          | false ↦ λ t. refl
        ] refl

-- ---- one origin's visits, in a map that is seen as the archive's, by the bytes of its URL

module _ (seen : Origins) (es : Kept) (url origin : List ℕ) (view_is : origins_of es ≡ seen) (text : url ≡ origin) where
  same_visits : visits_of (origins_of es) url ≡ visits_of seen origin
  same_visits = ap (λ (o : Origins). visits_of o url) view_is ∙ ap (visits_of seen) text

  pub visits-there : (v : Vec Visit) → lookup (is_at (at url)) es ≡ Some v → v.items ≡ visits_of seen origin
  visits-there v is = sym (visits-found url es v is) ∙ same_visits

  pub visits-absent : lookup (is_at (at url)) es ≡ None → visits_of seen origin ≡ []
  visits-absent is = sym same_visits ∙ visits-missing url es is

  -- once the visit of a number has one more status
  pub view-marked : (fs : Kept) (old w : Vec Visit) (visit : ℕ) (status : Status) (snapshot : Option (List ℕ)) → lookup (is_at (at url)) es ≡ Some old → fs ≡ set_value (is_at (at url)) es w
      → w.items ≡ marked_at old.items (visit - 1) status snapshot → origins_of fs ≡ marked seen origin visit status snapshot
  view-marked fs old w visit status snapshot there is done =
      view-set es fs url old w there is
      ∙ ap (λ (vs : List Visit). insert (origins_of es) url vs) (done ∙ ap (λ (vs : List Visit). marked_at vs (visit - 1) status snapshot) (visits-there old there))
      ∙ ap (λ (o : Origins). insert o url (marked_at (visits_of seen origin) (visit - 1) status snapshot)) view_is
      ∙ ap (λ (u : List ℕ). insert seen u (marked_at (visits_of seen origin) (visit - 1) status snapshot)) text
