-- A revision has one log.
use Rattle.std.proofs.Common.{◌≡◌, ℕ, suc, ◌<◌, ◌≤◌, None, List, [], ◌∷◌, ◌++◌, map, length, refl, sym, ap, ◌∙◌, subst, arith, append_assoc, length-append}
use Rattle.std.specs.Prelude.{Contains}
use Rattle.std.specs.List.{AllByRecursion}
use Rattle.std.proofs.lemmas.List.{append-nil}
use Rattle.swh_base.specs.declared.name.Name.{Name}
use Rattle.swh_base.specs.Reach.{IsAmong}
use Rattle.swh_base.specs.Revision.{Revision, IsRevision, revision_name}
use Rattle.swh_base.proofs.RevisionLemmas.{one_revision}
use Rattle.swh_model.specs.Archive.{Bodies, body_of, IsHeld}
use Rattle.swh_graph.specs.Answer.{GraphAnswer, Found, Missing, Nowhere}
use Rattle.swh_graph.specs.Holding.{HoldsRevision}
use Rattle.swh_graph.specs.Log.{HasParents, HaveParents, ComesNext, AreNext, IsLogGap, IsLogAnswer}
use Rattle.swh_graph.proofs.Lists.{in_first, same_some, not_none}

module _ (bodies : Bodies) where
  pub one_held_revision : (n : Name) (r s : Revision) → HoldsRevision bodies n r → HoldsRevision bodies n s → r ≡ s
  one_held_revision n r s a b =
      one_revision b.body r s (subst (λ (body : List ℕ). IsRevision body r) (same_some a.body b.body (sym a.held ∙ b.held)) a.is) b.is

  one_parents : (n : Name) (ps qs : List Name) → HasParents bodies n ps → HasParents bodies n qs → ps ≡ qs
  one_parents n ps qs a b =
      a.are ∙ ap (λ (r : Revision). map revision_name r.parents) (one_held_revision n a.revision b.revision a.holds b.holds) ∙ sym b.are

  pub one_list_of_parents : (ns ps qs : List Name) → HaveParents bodies ns ps → HaveParents bodies ns qs → ps ≡ qs
  one_list_of_parents [] ps qs a b = a ∙ sym b
  one_list_of_parents (n ∷ ns) ps qs (first, (more, (has, have, are))) (first', (more', (has', have', are'))) =
      are ∙ ap (λ (xs : List Name). xs ++ more) (one_parents n first first' has has') ∙ ap (λ (xs : List Name). first' ++ xs) (one_list_of_parents ns more more' have have') ∙ sym are'

  -- the first of a list that is none of these
  first_out : (before e f l m : List Name) (a b : Name) → e ++ a ∷ l ≡ f ++ b ∷ m → IsAmong e before → IsAmong f before → (Contains before a → ⊥) → (Contains before b → ⊥) → a ≡ b
  first_out before [] [] l m a b same old old' new new' = cc
  first_out before [] (y ∷ f) l m a b same old old' new new' =
      let is : a ≡ y = cc in absurd (new (subst (λ (n : Name). Contains before n) (sym is) (old' y (in_first y f))))
  first_out before (x ∷ e) [] l m a b same old old' new new' =
      let is : b ≡ x = cc in absurd (new' (subst (λ (n : Name). Contains before n) (sym is) (old x (in_first x e))))
  first_out before (x ∷ e) (y ∷ f) l m a b same old old' new new' =
      let rest : e ++ a ∷ l ≡ f ++ b ∷ m = cc in
      first_out before e f l m a b rest (λ n h. old n (in_more x e n h)) (λ n h. old' n (in_more y f n h)) new new'
    where
      in_more : (x : Name) (xs : List Name) (n : Name) → Contains xs n → Contains (x ∷ xs) n
      in_more x xs n (k, less, is) = (suc k, omega (arith, less), is)

  module _ (root : Name) where
    pub one_next : (before : List Name) (a b : Name) → ComesNext bodies root before a → ComesNext bodies root before b → a ≡ b
    one_next before a b x y =
        first_out before x.earlier y.earlier x.later y.later a b
        (sym x.order ∙ ap (λ (ps : List Name). root ∷ ps) (one_list_of_parents before x.parents y.parents x.have y.have) ∙ y.order) x.listed y.listed x.fresh y.fresh

    push_is : (before : List Name) (n : Name) (ns : List Name) → before ++ n ∷ ns ≡ (before ++ n ∷ []) ++ ns
    push_is before n ns = sym (append_assoc before (n ∷ []) ns)

    module _ (limit : ℕ) where
      -- nothing comes next, where there is room
      abbrev IsWhole : List Name → Type 0
      IsWhole names = length names < limit → (name : Name) → ComesNext bodies root names name → ⊥

      -- a name that is not held comes next, and there is room
      record Breaks (names : List Name) (name : Name) : Type 0 where
        room : length names < limit
        next : ComesNext bodies root names name
        missing : body_of bodies name ≡ None

      module _ (before : List Name) (n : Name) (ns : List Name) where
        whole_push : IsWhole (before ++ n ∷ ns) → IsWhole ((before ++ n ∷ []) ++ ns)
        whole_push whole = subst IsWhole (push_is before n ns) whole

        breaks_push : (a : Name) → Breaks (before ++ n ∷ ns) a → Breaks ((before ++ n ∷ []) ++ ns) a
        breaks_push a b = subst (λ (xs : List Name). Breaks xs a) (push_is before n ns) b

        few_push : length (before ++ n ∷ ns) ≤ limit → length ((before ++ n ∷ []) ++ ns) ≤ limit
        few_push few = subst (λ (xs : List Name). length xs ≤ limit) (push_is before n ns) few

        room_before : length (before ++ n ∷ ns) ≤ limit → length before < limit
        room_before few = let long = length-append before (n ∷ ns) in omega (arith, few, long)

      same_logs : (ns ms before : List Name) → AreNext bodies root before ns → AreNext bodies root before ms → length (before ++ ns) ≤ limit → length (before ++ ms) ≤ limit
          → IsWhole (before ++ ns) → IsWhole (before ++ ms) → ns ≡ ms
      same_logs [] [] before a b few few' whole whole' = refl
      same_logs [] (m ∷ ms) before a b few few' whole whole' =
          absurd (subst IsWhole (append-nil before) whole (room_before before m ms few') m b.0)
      same_logs (n ∷ ns) [] before a b few few' whole whole' =
          absurd (subst IsWhole (append-nil before) whole' (room_before before n ns few) n a.0)
      same_logs (n ∷ ns) (m ∷ ms) before a b few few' whole whole' =
          let same : m ≡ n = one_next before m n b.0 a.0 in
          let next : AreNext bodies root (before ++ n ∷ []) ms = subst (λ (x : Name). AreNext bodies root (before ++ x ∷ []) ms) same b.1 in
          let short : length (before ++ n ∷ ms) ≤ limit = subst (λ (x : Name). length (before ++ x ∷ ms) ≤ limit) same few' in
          let all : IsWhole (before ++ n ∷ ms) = subst (λ (x : Name). IsWhole (before ++ x ∷ ms)) same whole' in
          ap (λ (xs : List Name). n ∷ xs) (same_logs ns ms (before ++ n ∷ []) a.1 next (few_push before n ns few) (few_push before n ms short) (whole_push before n ns whole) (whole_push before n ms all))
          ∙ ap (λ (x : Name). x ∷ ms) (sym same)

      -- a log has no name that is not held
      no_break : (ns ms before : List Name) (a : Name) → AreNext bodies root before ns → AreNext bodies root before ms → AllByRecursion (IsHeld bodies) ms
          → Breaks (before ++ ns) a → IsWhole (before ++ ms) → ⊥
      no_break [] [] before a x y held b whole =
          let here = subst (λ (xs : List Name). Breaks xs a) (append-nil before) b in
          subst IsWhole (append-nil before) whole here.room a here.next
      no_break [] (m ∷ ms) before a x y held b whole =
          let here = subst (λ (xs : List Name). Breaks xs a) (append-nil before) b in
          let same : m ≡ a = one_next before m a y.0 here.next in
          not_none (body_of bodies a) (subst (IsHeld bodies) same held.0).0 (subst (IsHeld bodies) same held.0).1 here.missing
      no_break (n ∷ ns) [] before a x y held b whole =
          let long = length-append before (n ∷ ns) in
          let room : length before < limit = let r = b.room in omega (arith, r, long) in
          subst IsWhole (append-nil before) whole room n x.0
      no_break (n ∷ ns) (m ∷ ms) before a x y held b whole =
          let same : m ≡ n = one_next before m n y.0 x.0 in
          no_break ns ms (before ++ n ∷ []) a x.1 (subst (λ (k : Name). AreNext bodies root (before ++ k ∷ []) ms) same y.1) held.1 (breaks_push before n ns a b)
          (whole_push before n ms (subst (λ (k : Name). IsWhole (before ++ k ∷ ms)) same whole))

      -- there is one first name that is not held
      one_break : (ns ms before : List Name) (a b : Name) → AreNext bodies root before ns → AreNext bodies root before ms → AllByRecursion (IsHeld bodies) ns → AllByRecursion (IsHeld bodies) ms
          → Breaks (before ++ ns) a → Breaks (before ++ ms) b → a ≡ b
      one_break [] [] before a b x y held held' here there =
          let p = subst (λ (xs : List Name). Breaks xs a) (append-nil before) here in
          let q = subst (λ (xs : List Name). Breaks xs b) (append-nil before) there in
          one_next before a b p.next q.next
      one_break [] (m ∷ ms) before a b x y held held' here there =
          let p = subst (λ (xs : List Name). Breaks xs a) (append-nil before) here in
          let same : m ≡ a = one_next before m a y.0 p.next in
          absurd (not_none (body_of bodies a) (subst (IsHeld bodies) same held'.0).0 (subst (IsHeld bodies) same held'.0).1 p.missing)
      one_break (n ∷ ns) [] before a b x y held held' here there =
          let q = subst (λ (xs : List Name). Breaks xs b) (append-nil before) there in
          let same : n ≡ b = one_next before n b x.0 q.next in
          absurd (not_none (body_of bodies b) (subst (IsHeld bodies) same held.0).0 (subst (IsHeld bodies) same held.0).1 q.missing)
      one_break (n ∷ ns) (m ∷ ms) before a b x y held held' here there =
          let same : m ≡ n = one_next before m n y.0 x.0 in
          one_break ns ms (before ++ n ∷ []) a b x.1 (subst (λ (k : Name). AreNext bodies root (before ++ k ∷ []) ms) same y.1) held.1 held'.1 (breaks_push before n ns a here)
          (breaks_push before n ms b (subst (λ (k : Name). Breaks (before ++ k ∷ ms) b) same there))

      breaks_of : (name : Name) (gap : IsLogGap bodies root limit name) → Breaks ([] ++ gap.before) name
      breaks_of name gap = record { room = gap.few; next = gap.next; missing = gap.missing }

      pub one_log_lem : (a b : GraphAnswer (List Name)) → IsLogAnswer bodies root limit a → IsLogAnswer bodies root limit b → a ≡ b
      one_log_lem (Found ns) (Found ms) x y =
          ap (λ (xs : List Name). Found xs) (same_logs ns ms [] x.front.order y.front.order x.few y.few x.whole y.whole)
      one_log_lem (Found ns) (Missing b) x y = absurd (no_break y.before ns [] b y.front.order x.front.order x.front.held (breaks_of b y) x.whole)
      one_log_lem (Missing a) (Found ms) x y = absurd (no_break x.before ms [] a x.front.order y.front.order y.front.held (breaks_of a x) y.whole)
      one_log_lem (Missing a) (Missing b) x y =
          ap (λ (n : Name). let answer : GraphAnswer (List Name) = Missing n in answer) (one_break x.before y.before [] a b x.front.order y.front.order x.front.held y.front.held (breaks_of a x) (breaks_of b y))
      one_log_lem (Nowhere k) b x y = absurd x
      one_log_lem (Found ns) (Nowhere k) x y = absurd y
      one_log_lem (Missing a) (Nowhere k) x y = absurd y
