-- Names that are met one after another, and what they show of a log.
use Rattle.std.proofs.Common.{◌≡◌, ◌⊎◌, inl, inr, ℕ, zero, suc, ◌+◌, ◌<◌, ◌≤◌, None, List, [], ◌∷◌, ◌++◌, map, length, take, drop, get_or, refl, sym, ap, ◌∙◌, subst, arith, append_assoc, length-append}
use Rattle.std.specs.Prelude.{Contains}
use Rattle.std.specs.List.{AllByRecursion}
use Rattle.std.proofs.lemmas.List.{append-nil, take_more, take_all, take-append-le, length-take-le}
use Rattle.std.proofs.lemmas.List.Elements.{Contains-append_left, Contains-append_cases, Contains-push}
use Rattle.std.proofs.Math.Seq.{split_at}
use Rattle.swh_base.specs.declared.kind.Kind.TheVariants.{Revision as RevisionKind}
use Rattle.swh_base.specs.declared.name.Name.{Name}
use Rattle.swh_base.specs.Reach.{IsAmong}
use Rattle.swh_base.specs.Revision.{revision_name}
use Rattle.swh_base.proofs.DirectoryLemmas.{all-push}
use Rattle.swh_base.proofs.Elementary.{none_in}
use Rattle.swh_model.specs.Archive.{Bodies, body_of, IsHeld}
use Rattle.swh_graph.specs.Answer.{Refuses}
use Rattle.swh_graph.specs.Holding.{IsNotHeld}
use Rattle.swh_graph.specs.Log.{HasParents, HaveParents, ComesNext, AreNext, IsLogFront, IsLog, IsLogGap, IsLogAnswer}
use Rattle.swh_graph.specs.Met.{MeetsOne, MeetsAll}
use Rattle.swh_graph.specs.declared.fault.GraphFault.{GraphFault}
use Rattle.swh_graph.specs.declared.fault.GraphFault.TheVariants.{NotHeld, NoPath, Memory}
use Rattle.swh_graph.proofs.Lists.{in_first, in_rest, in_cases, in_middle}
use Rattle.swh_graph.proofs.OneLog.{one_list_of_parents}

-- ---- names that are met

meets_push : (old xs mid : List Name) (x : Name) (new : List Name) → MeetsAll old xs mid → MeetsOne mid x new → MeetsAll old (xs ++ x ∷ []) new
meets_push old [] mid x new all one = (new, (subst (λ (o : List Name). MeetsOne o x new) (sym all) one, refl))
meets_push old (y ∷ ys) mid x new (first, (here, more)) one = (first, (here, meets_push first ys mid x new more one))

pub one_more : (old xs mid : List Name) (x : Name) (new : List Name) → MeetsAll old xs mid → MeetsOne mid x new → MeetsAll old (xs ++ x ∷ []) new
one_more old xs mid x new all one = meets_push old xs mid x new all one

pub meets_both : (old xs mid ys new : List Name) → MeetsAll old xs mid → MeetsAll mid ys new → MeetsAll old (xs ++ ys) new
meets_both old [] mid ys new a b = subst (λ (o : List Name). MeetsAll o ys new) (sym a) b
meets_both old (x ∷ xs) mid ys new (first, (here, more)) b = (first, (here, meets_both first xs mid ys new more b))

-- what was met stays in front
pub record Extends (old new : List Name) : Type 0 where
  pub more : List Name
  pub is : new ≡ old ++ more

one_extends : (old : List Name) (x : Name) (new : List Name) → MeetsOne old x new → Extends old new
one_extends old x new (inl was) = record { more = []; is = was.1 ∙ sym (append-nil old) }
one_extends old x new (inr is) = record { more = x ∷ []; is = is.1 }

extends_both : (a b c : List Name) → Extends a b → Extends b c → Extends a c
extends_both a b c x y = record { more = x.more ++ y.more; is = y.is ∙ ap (λ (l : List Name). l ++ y.more) x.is ∙ append_assoc a x.more y.more }

pub all_extends : (old xs new : List Name) → MeetsAll old xs new → Extends old new
all_extends old [] new all = record { more = []; is = sym all ∙ sym (append-nil old) }
all_extends old (x ∷ xs) new (first, (here, more)) = extends_both old first new (one_extends old x first here) (all_extends first xs new more)

pub extends_in : (old new : List Name) → Extends old new → IsAmong old new
extends_in old new e n h = subst (λ (l : List Name). Contains l n) (sym e.is) (Contains-append_left old e.more n h)

pub one_in : (old : List Name) (x : Name) (new : List Name) → MeetsOne old x new → Contains new x
one_in old x new (inl was) = subst (λ (l : List Name). Contains l x) (sym was.1) was.0
one_in old x new (inr is) = subst (λ (l : List Name). Contains l x) (sym is.1) (Contains-push old x)

-- each name that is met is listed
pub met_in : (old xs new : List Name) → MeetsAll old xs new → IsAmong xs new
met_in old [] new all n h = absurd (none_in n h)
met_in old (x ∷ xs) new (first, (here, more)) n h =
    elim (in_cases x xs n h) [
      | inl is ↦ extends_in first new (all_extends first xs new more) n (subst (Contains first) is (one_in old x first here))
      | inr later ↦ met_in first xs new more n later
    ]

-- what is listed was there, or is one of those that are met
pub one_from : (P : Name → Type 0) (old : List Name) (x : Name) (new : List Name) → MeetsOne old x new → ((n : Name) → Contains old n → P n) → P x → (n : Name) → Contains new n → P n
one_from P old x new (inl was) each here n h = each n (subst (λ (l : List Name). Contains l n) was.1 h)
one_from P old x new (inr is) each here n h =
    elim (Contains-append_cases old (x ∷ []) n (subst (λ (l : List Name). Contains l n) is.1 h)) [
      | inl there ↦ each n there
      | inr last ↦ elim (in_cases x [] n last) [ inl same ↦ subst P same here | inr none ↦ absurd (none_in n none) ]
    ]

pub met_each : (P : Name → Type 0) (old xs new : List Name) → MeetsAll old xs new → ((n : Name) → Contains old n → P n) → ((n : Name) → Contains xs n → P n) → (n : Name) → Contains new n → P n
met_each P old [] new all each these n h = each n (subst (λ (l : List Name). Contains l n) (sym all) h)
met_each P old (x ∷ xs) new (first, (here, more)) each these n h =
    met_each P first xs new more (one_from P old x first here each (these x (in_first x xs))) (λ m k. these m (in_rest x xs m k)) n h

-- Of a list the name is the first that is none of these.
record IsFirstOut (xs before : List Name) (n : Name) : Type 0 where
  earlier : List Name
  later : List Name
  order : xs ≡ earlier ++ n ∷ later
  listed : IsAmong earlier before
  fresh : Contains before n → ⊥

-- two lists that are one, of which the first begins within the second
shared : (old more before rest : List Name) (n : Name) → old ++ more ≡ before ++ n ∷ rest → length old ≤ length before → (m : Name) → Contains old m → Contains before m
shared [] more before rest n e short m h = absurd (none_in m h)
shared (o ∷ old) more [] rest n e short m h = absurd (omega (arith, short))
shared (o ∷ old) more (b ∷ before) rest n e short m h =
    let first : o ≡ b = cc in
    let next : old ++ more ≡ before ++ n ∷ rest = cc in
    elim (in_cases o old m h) [
      | inl is ↦ subst (Contains (b ∷ before)) (sym first ∙ is) (in_first b before)
      | inr later ↦ in_rest b before m (shared old more before rest n next (omega (arith, short)) m later)
    ]

-- a front that is as long as another
same_front : (old : List Name) (x : Name) (more before rest : List Name) (n : Name) → (old ++ x ∷ []) ++ more ≡ before ++ n ∷ rest → length before ≡ length old → (before ≡ old) × (n ≡ x)
same_front [] x more [] rest n e long = (refl, cc)
same_front [] x more (b ∷ before) rest n e long = absurd (omega (arith, long))
same_front (o ∷ old) x more [] rest n e long = absurd (omega (arith, long))
same_front (o ∷ old) x more (b ∷ before) rest n e long =
    let next : (old ++ x ∷ []) ++ more ≡ before ++ n ∷ rest = cc in
    let same = same_front old x more before rest n next (omega (arith, long)) in
    let first : b ≡ o = cc in
    (ap (λ (k : Name). k ∷ before) first ∙ ap (λ (l : List Name). o ∷ l) same.0, same.1)

same_or_longer : (a b : ℕ) → a ≤ b → (b ≡ a) ⊎ (a + 1 ≤ b)
same_or_longer zero zero le = inl refl
same_or_longer zero (suc b) le = inr (omega arith)
same_or_longer (suc a) zero le = absurd (omega (arith, le))
same_or_longer (suc a) (suc b) le = elim (same_or_longer a b (omega (arith, le))) [ inl e ↦ inl (omega (arith, e)) | inr l ↦ inr (omega (arith, l)) ]

-- a name that is known to stand before it comes in front
one_earlier : (xs before : List Name) (x n : Name) → Contains before x → IsFirstOut xs before n → IsFirstOut (x ∷ xs) before n
one_earlier xs before x n there next = record {
  earlier = x ∷ next.earlier;
  later = next.later;
  order = ap (λ (l : List Name). x ∷ l) next.order;
  listed = λ m h. elim (in_cases x next.earlier m h) [ inl is ↦ subst (Contains before) is there | inr k ↦ next.listed m k ];
  fresh = next.fresh;
}

-- the first of those that are met is the name, where nothing stands between
is_first : (xs before old : List Name) (x n : Name) → before ≡ old → n ≡ x → (Contains old x → ⊥) → IsFirstOut (x ∷ xs) before n
is_first xs before old x n all same fresh = record {
  earlier = [];
  later = xs;
  order = ap (λ (k : Name). k ∷ xs) (sym same);
  listed = λ m h. absurd (none_in m h);
  fresh = λ h. fresh (subst (Contains old) same (subst (λ (l : List Name). Contains l n) all h));
}

-- a name that is listed anew is the first of those that are met and not listed before it
first_out : (xs old names before rest : List Name) (n : Name) → MeetsAll old xs names → names ≡ before ++ n ∷ rest → length old ≤ length before → IsFirstOut xs before n
first_out [] old names before rest n all cut short =
    let long = ap length (all ∙ cut) in absurd (omega (arith, long, short, length-append before (n ∷ rest)))
first_out (x ∷ xs) old names before rest n (first, (inl was, more)) cut short =
    let same : length first ≡ length old = ap length was.1 in
    let e = all_extends first xs names more in
    let x_in : Contains first x = subst (λ (l : List Name). Contains l x) (sym was.1) was.0 in
    let short' : length first ≤ length before = omega (arith, same, short) in
    one_earlier xs before x n (shared first e.more before rest n (sym e.is ∙ cut) short' x x_in) (first_out xs first names before rest n more cut short')
first_out (x ∷ xs) old names before rest n (first, (inr is, more)) cut short =
    let e = all_extends first xs names more in
    let long : length first ≡ length old + 1 = ap length is.1 ∙ length-append old (x ∷ []) in
    elim (same_or_longer (length old) (length before) short) [
      | inl same ↦
          let line : (old ++ x ∷ []) ++ e.more ≡ before ++ n ∷ rest = ap (λ (l : List Name). l ++ e.more) (sym is.1) ∙ sym e.is ∙ cut in
          let parts = same_front old x e.more before rest n line same in
          is_first xs before old x n parts.0 parts.1 is.0
      | inr longer ↦
          let x_in : Contains first x = subst (λ (l : List Name). Contains l x) (sym is.1) (Contains-push old x) in
          let short' : length first ≤ length before = omega (arith, long, longer) in
          one_earlier xs before x n (shared first e.more before rest n (sym e.is ∙ cut) short' x x_in) (first_out xs first names before rest n more cut short')
    ]

-- ---- parents

have_push : (bodies : Bodies) (ns ps : List Name) (n : Name) (qs : List Name) → HaveParents bodies ns ps → HasParents bodies n qs → HaveParents bodies (ns ++ n ∷ []) (ps ++ qs)
have_push bodies [] ps n qs have has = (qs, ([], (has, refl, ap (λ (l : List Name). l ++ qs) have ∙ sym (append-nil qs))))
have_push bodies (m ∷ ns) ps n qs (first, (more, (one, all, are))) has =
    (first, (more ++ qs, (one, have_push bodies ns more n qs all has, ap (λ (l : List Name). l ++ qs) are ∙ append_assoc first more qs)))

next_push : (bodies : Bodies) (root : Name) (ns before : List Name) (n : Name) → AreNext bodies root before ns → ComesNext bodies root (before ++ ns) n → AreNext bodies root before (ns ++ n ∷ [])
next_push bodies root [] before n all next = (subst (λ (l : List Name). ComesNext bodies root l n) (append-nil before) next, tt)
next_push bodies root (m ∷ ns) before n all next =
    (all.0, next_push bodies root ns (before ++ m ∷ []) n all.1 (subst (λ (l : List Name). ComesNext bodies root l n) (sym (append_assoc before (m ∷ []) ns)) next))

abbrev IsRevisionName : Name → Type 0
IsRevisionName n = n.kind ≡ RevisionKind

mapped_kinds : (ids : List (List ℕ)) (n : Name) → Contains (map revision_name ids) n → IsRevisionName n
mapped_kinds [] n h = absurd (none_in n h)
mapped_kinds (i ∷ is) n h =
    elim (in_cases (revision_name i) (map revision_name is) n h) [
      | inl same ↦ ap (λ (m : Name). m.kind) (sym same)
      | inr more ↦ mapped_kinds is n more
    ]

parents_kinds : (bodies : Bodies) (ns ps : List Name) → HaveParents bodies ns ps → (n : Name) → Contains ps n → IsRevisionName n
parents_kinds bodies [] ps have n h = absurd (none_in n (subst (λ (l : List Name). Contains l n) have h))
parents_kinds bodies (m ∷ ns) ps (first, (more, (has, have, are))) n h =
    elim (Contains-append_cases first more n (subst (λ (l : List Name). Contains l n) are h)) [
      | inl one ↦ mapped_kinds has.revision.parents n (subst (λ (l : List Name). Contains l n) has.are one)
      | inr later ↦ parents_kinds bodies ns more have n later
    ]

-- So many of the names that are met are of the log, and the parents of these are met.
pub record IsLogged (bodies : Bodies) (root : Name) (count : ℕ) (names : List Name) : Type 0 where
  pub within : count ≤ length names
  pub front : IsLogFront bodies root (take count names)
  pub parents : List Name
  pub have : HaveParents bodies (take count names) parents
  pub meets : MeetsAll [] (root ∷ parents) names

-- ---- a log

module _ (bodies : Bodies) (id : List ℕ) where
  abbrev root : Name
  root = revision_name id

  pub logged_none : (names : List Name) → MeetsAll [] (root ∷ []) names → IsLogged bodies root 0 names
  logged_none names meets = record {
    within = omega arith;
    front = record { order = tt; held = tt };
    parents = [];
    have = refl;
    meets = meets;
  }

  module _ (count : ℕ) (names : List Name) (l : IsLogged bodies root count names) where
    kinds : (n : Name) → Contains (root ∷ l.parents) n → IsRevisionName n
    kinds n h = elim (in_cases root l.parents n h) [ inl is ↦ ap (λ (m : Name). m.kind) (sym is) | inr p ↦ parents_kinds bodies (take count names) l.parents l.have n p ]

    -- each name that is met is a revision's
    pub met_kind : (n : Name) → Contains names n → n.kind ≡ RevisionKind
    met_kind n h = met_each IsRevisionName [] (root ∷ l.parents) names l.meets (λ m none. absurd (none_in m none)) kinds n h

    module _ (name : Name) (less : count < length names) (is : name ≡ get_or names count name) where
      cut : names ≡ take count names ++ name ∷ drop (suc count) names
      cut = split_at names count name less ∙ ap (λ (n : Name). take count names ++ n ∷ drop (suc count) names) (sym is)

      -- the name at this place comes next
      pub comes_next : ComesNext bodies root (take count names) name
      comes_next =
          let out = first_out (root ∷ l.parents) [] names (take count names) (drop (suc count) names) name l.meets cut (omega arith) in
          record { parents = l.parents; have = l.have; earlier = out.earlier; later = out.later; order = out.order; listed = out.listed; fresh = out.fresh }

      pub kind_here : name.kind ≡ RevisionKind
      kind_here = met_kind name (subst (λ (ns : List Name). Contains ns name) (sym cut) (in_middle (take count names) name (drop (suc count) names)))

      -- a log whose next name is not held
      pub gap_here : (limit : ℕ) → count < limit → body_of bodies name ≡ None → IsLogGap bodies root limit name
      gap_here limit room missing = record {
        before = take count names;
        front = l.front;
        few = let w : count ≤ length names = omega (arith, less) in let long = length-take-le count names w in omega (arith, long, room);
        next = comes_next;
        missing = missing;
      }

      more_names : take (count + 1) names ≡ take count names ++ name ∷ []
      more_names = take_more names count name less ∙ ap (λ (n : Name). take count names ++ n ∷ []) (sym is)

      front_kept : (kin new : List Name) → MeetsAll names kin new → take (count + 1) new ≡ take count names ++ name ∷ []
      front_kept kin new meets =
          let e = all_extends names kin new meets in
          ap (λ (ns : List Name). take (count + 1) ns) e.is ∙ take-append-le (count + 1) names e.more (omega (arith, less)) ∙ more_names

      pub logged_more : (kin new : List Name) → HasParents bodies name kin → MeetsAll names kin new → IsLogged bodies root (count + 1) new
      logged_more kin new has meets =
          let e = all_extends names kin new meets in
          let back = sym (front_kept kin new meets) in
          record {
            within = let long = ap length e.is in omega (arith, less, long, length-append names e.more);
            front = record {
              order = subst (λ (ns : List Name). AreNext bodies root [] ns) back (next_push bodies root (take count names) [] name l.front.order comes_next);
              held = subst (λ (ns : List Name). AllByRecursion (IsHeld bodies) ns) back (all-push (IsHeld bodies) (take count names) name l.front.held (has.holds.body, has.holds.held));
            };
            parents = l.parents ++ kin;
            have = subst (λ (ns : List Name). HaveParents bodies ns (l.parents ++ kin)) back (have_push bodies (take count names) l.parents name kin l.have has);
            meets = meets_both [] (root ∷ l.parents) names kin new l.meets meets;
          }

    -- the next name that is met is not held
    pub log_fails : (name : Name) → count < length names → name ≡ get_or names count name → (limit : ℕ) → count < limit → (fault : GraphFault) → IsNotHeld bodies name fault
        → Refuses (IsLogAnswer bodies root limit) fault
    log_fails name less is limit room (NotHeld missing) why = subst (IsLogGap bodies root limit) (sym why.0) (gap_here name less is limit room why.1)
    log_fails name less is limit room (NoPath component) why = why
    log_fails name less is limit room Memory why = tt

    -- where nothing more is met, these are the log
    pub log_ends : (limit : ℕ) → count ≤ limit → length names ≤ count → IsLog bodies root limit (take count names)
    log_ends limit room none =
        let all : take count names ≡ names = take_all count names none in
        record {
          front = l.front;
          few = let long = ap length all in omega (arith, long, none, room);
          whole = λ _ name next. no_more all name next;
        }
      where
        no_more : take count names ≡ names → (name : Name) → ComesNext bodies root (take count names) name → ⊥
        no_more all name next =
            let same : next.parents ≡ l.parents = one_list_of_parents bodies (take count names) next.parents l.parents next.have l.have in
            let there : Contains (root ∷ next.parents) name = subst (λ (ns : List Name). Contains ns name) (sym next.order) (in_middle next.earlier name next.later) in
            let met = met_in [] (root ∷ l.parents) names l.meets name (subst (λ (ps : List Name). Contains (root ∷ ps) name) same there) in
            next.fresh (subst (λ (ns : List Name). Contains ns name) (sym all) met)

    -- at the limit these are the log
    pub log_full : IsLog bodies root count (take count names)
    log_full =
        let w = l.within in
        let long = length-take-le count names w in
        record {
          front = l.front;
          few = omega (arith, long);
          whole = λ less. absurd (omega (arith, long, less));
        }
