-- Names that are met in a walk, and what they show in the end.
use Rattle.std.proofs.Common.{◌≡◌, ◌⊎◌, inl, inr, ℕ, ◌+◌, ◌<◌, ◌≤◌, Option, Some, List, [], ◌∷◌, ◌++◌, length, take, get_or, refl, sym, ap, ◌∙◌, subst, arith, append_assoc, length-append}
use Rattle.std.specs.Prelude.{Contains}
use Rattle.std.proofs.lemmas.List.{append-nil, take_more, take_all}
use Rattle.std.proofs.lemmas.List.Elements.{Contains-append_left, Contains-append_right, Contains-append_cases, Contains-push, Contains-push_cases}
use Rattle.swh_base.specs.declared.name.Name.{Name}
use Rattle.swh_base.specs.Reach.{IsHeldIn, IsChildIn, IsCovered, ReachesIn, CertifiesIn}
use Rattle.swh_base.proofs.Reaches.{reaches-next}
use Rattle.swh_base.proofs.Elementary.{none_in, only}
use Rattle.swh_closure.specs.declared.met.Turn.{Turn}
use Rattle.swh_closure.specs.declared.met.Met.{Met}
use Rattle.swh_closure.specs.Walk.{IsDue, IsTurn, IsNew, Meets}

-- ---- lists

pub no_items : {X : Type 0} → (xs : List X) → length xs ≡ 0 → xs ≡ []
no_items [] none = refl
no_items (x ∷ xs) none = absurd (omega (arith, none))

-- what holds of the names in front and of the next holds of one more
pub each_more : (P : Name → Type 0) (xs : List Name) (i : ℕ) (x : Name) → i < length xs → x ≡ get_or xs i x → ((n : Name) → Contains (take i xs) n → P n) → P x → (n : Name) → Contains (take (i + 1) xs) n → P n
each_more P xs i x less is each here n h =
    let cut : take (i + 1) xs ≡ take i xs ++ x ∷ [] = take_more xs i x less ∙ ap (λ (y : Name). take i xs ++ y ∷ []) (sym is) in
    elim (Contains-push_cases (take i xs) x n (subst (λ (k : List Name). Contains k n) cut h)) [ inl old ↦ each n old | inr same ↦ subst P same here ]

pub each_of_all : (P : Name → Type 0) (xs : List Name) (i : ℕ) → length xs ≤ i → ((n : Name) → Contains (take i xs) n → P n) → (n : Name) → Contains xs n → P n
each_of_all P xs i all each n h = each n (subst (λ (k : List Name). Contains k n) (sym (take_all i xs all)) h)

-- ---- a walk

module _ (children_of : Name → Option (List Name)) (closed : List Name) where
  pub child_of : (p child : Name) (kids : List Name) → children_of p ≡ Some kids → Contains kids child → IsChildIn children_of p child
  child_of p child kids is there = record { kids = kids; held = is; one_of = there }

  same_kids : (a b : List Name) → Some a ≡ Some b → a ≡ b
  same_kids a b e = cc

  pub of_child : (p child : Name) (kids : List Name) → children_of p ≡ Some kids → IsChildIn children_of p child → Contains kids child
  of_child p child kids is by = subst (λ (ks : List Name). Contains ks child) (same_kids by.kids kids (sym by.held ∙ is)) by.one_of

  -- ---- names that are met

  pub meets_none : (met : Met) → Meets children_of closed [] met met
  meets_none met = record {
    stay = λ n h. h;
    each = λ n h. inl h;
    all = λ n h. absurd (none_in n h);
    more = [];
    behind = sym (append-nil met.turns.items);
    turns = λ turn h. absurd (none_in turn h);
    count = omega arith;
  }

  -- a name that is listed or known to be closed
  pub meets_known : (met : Met) (name : Name) → IsCovered closed met.names name → Meets children_of closed (name ∷ []) met met
  meets_known met name known = record {
    stay = λ n h. h;
    each = λ n h. inl h;
    all = λ n h. subst (IsCovered closed met.names) (only name n h) known;
    more = [];
    behind = sym (append-nil met.turns.items);
    turns = λ turn h. absurd (none_in turn h);
    count = omega arith;
  }

  due_more : (turns more : List Turn) (n : Name) → IsDue turns n → IsDue (turns ++ more) n
  due_more turns more n due = record { turn = due.turn; there = Contains-append_left turns more due.turn due.there; named = due.named }

  module _ (old new : Met) (name : Name) (kids : List Name) (unknown : Contains closed name → ⊥) (held : children_of name ≡ Some kids) (count : length new.names ≡ length old.names + 1)
      (put : (n : Name) → (Contains new.names n → Contains old.names n ⊎ (name ≡ n)) × (Contains old.names n ⊎ (name ≡ n) → Contains new.names n)) where
    listed : Contains new.names name
    listed = (put name).1 (inr refl)

    is_new : (children_of name ≡ Some []) ⊎ IsDue new.turns.items name → (n : Name) → Contains new.names n → Contains old.names n ⊎ IsNew children_of closed (name ∷ []) new.turns.items n
    is_new due n h =
        elim ((put n).0 h) [
          | inl was ↦ inl was
          | inr is ↦ inr (subst (IsNew children_of closed (name ∷ []) new.turns.items) is (record { one_of = (0, omega arith, refl); held = (kids, held); unknown = unknown; due = due }))
        ]

    -- a name that is added and has no children
    pub meets_leaf : kids ≡ [] → new.turns.items ≡ old.turns.items → Meets children_of closed (name ∷ []) old new
    meets_leaf none same = record {
      stay = λ n h. (put n).1 (inl h);
      each = is_new (inl (held ∙ ap (λ (ks : List Name). Some ks) none));
      all = λ n h. inl (subst (Contains new.names) (only name n h) listed);
      more = [];
      behind = same ∙ sym (append-nil old.turns.items);
      turns = λ turn h. absurd (none_in turn h);
      count = let long = ap length same in omega (arith, long, count);
    }

    -- a name that is added with its turn
    pub meets_turn : (turn : Turn) → turn.name ≡ name → turn.kids.now ≡ kids → new.turns.items ≡ old.turns.items ++ turn ∷ [] → Meets children_of closed (name ∷ []) old new
    meets_turn turn named its_kids pushed = record {
      stay = λ n h. (put n).1 (inl h);
      each = is_new (inr (record { turn = turn; there = subst (λ (ts : List Turn). Contains ts turn) (sym pushed) (Contains-push old.turns.items turn); named = named }));
      all = λ n h. inl (subst (Contains new.names) (only name n h) listed);
      more = turn ∷ [];
      behind = pushed;
      turns = λ t h. subst (IsTurn children_of new.names) (only turn t h)
          (record { kids = ap children_of named ∙ held ∙ ap (λ (ks : List Name). Some ks) (sym its_kids); listed = subst (Contains new.names) (sym named) listed });
      count = let long = ap length pushed in omega (arith, long, count, length-append old.turns.items (turn ∷ []));
    }

  covered_keep : (names names' : List Name) → ((n : Name) → Contains names n → Contains names' n) → (n : Name) → IsCovered closed names n → IsCovered closed names' n
  covered_keep names names' stay n (inl listed) = inl (stay n listed)
  covered_keep names names' stay n (inr known) = inr known

  turn_keep : (names names' : List Name) → ((n : Name) → Contains names n → Contains names' n) → (turn : Turn) → IsTurn children_of names turn → IsTurn children_of names' turn
  turn_keep names names' stay turn is = record { kids = is.kids; listed = stay turn.name is.listed }

  module _ (front : List Name) (name : Name) (old mid new : Met) (first : Meets children_of closed front old mid) (next : Meets children_of closed (name ∷ []) mid new) where
    earlier : (n : Name) → IsNew children_of closed front mid.turns.items n → IsNew children_of closed (front ++ name ∷ []) new.turns.items n
    earlier n is = record {
      one_of = Contains-append_left front (name ∷ []) n is.one_of;
      held = is.held;
      unknown = is.unknown;
      due = elim is.due [
        | inl leaf ↦ inl leaf
        | inr due ↦ inr (subst (λ (turns : List Turn). IsDue turns n) (sym next.behind) (due_more mid.turns.items next.more n due))
      ];
    }

    later : (n : Name) → IsNew children_of closed (name ∷ []) new.turns.items n → IsNew children_of closed (front ++ name ∷ []) new.turns.items n
    later n is = record { one_of = Contains-append_right front (name ∷ []) n is.one_of; held = is.held; unknown = is.unknown; due = is.due }

    -- the next name is met after those in front of it
    pub meets_next : Meets children_of closed (front ++ name ∷ []) old new
    meets_next = record {
      stay = λ n h. next.stay n (first.stay n h);
      each = λ n h. elim (next.each n h) [
        | inl was ↦ elim (first.each n was) [ inl old ↦ inl old | inr is ↦ inr (earlier n is) ]
        | inr is ↦ inr (later n is)
      ];
      all = λ n h. elim (Contains-push_cases front name n h) [
        | inl old ↦ covered_keep mid.names new.names next.stay n (first.all n old)
        | inr is ↦ next.all n (0, omega arith, is)
      ];
      more = first.more ++ next.more;
      behind = next.behind ∙ ap (λ (turns : List Turn). turns ++ next.more) first.behind ∙ append_assoc old.turns.items first.more next.more;
      turns = λ turn h. elim (Contains-append_cases first.more next.more turn h) [
        | inl old ↦ turn_keep mid.names new.names next.stay turn (first.turns turn old)
        | inr is ↦ next.turns turn is
      ];
      count = let a = first.count in let b = next.count in omega (arith, a, b);
    }

  -- ---- a walk

  module _ (root : Name) where
    -- what a walk knows of a name that it lists
    abbrev pub IsMet : Name → Type 0
    IsMet n = ReachesIn children_of root n × IsHeldIn children_of n × (Contains closed n → ⊥)

    -- the children of the name are listed or known to be closed, or it has its turn
    abbrev IsFollowed : List Name → List Turn → Name → Type 0
    IsFollowed names turns n = ((child : Name) → IsChildIn children_of n child → IsCovered closed names child) ⊎ IsDue turns n

    -- how far a walk has come
    pub record Walked (names : List Name) (turns : List Turn) (rounds : ℕ) : Type 0 where
      pub begins : IsCovered closed names root
      pub met : (n : Name) → Contains names n → IsMet n
      pub turn : (turn : Turn) → Contains turns turn → IsTurn children_of names turn
      pub followed : (n : Name) → Contains names n → IsFollowed names turns n
      pub count : rounds + length turns ≤ length names

    childless : (n : Name) → children_of n ≡ Some [] → (child : Name) → IsChildIn children_of n child → ⊥
    childless n none child by = none_in child (of_child n child [] none by)

    new_followed : (names asked : List Name) (turns : List Turn) (n : Name) → IsNew children_of closed asked turns n → IsFollowed names turns n
    new_followed names asked turns n is = elim is.due [ inl leaf ↦ inl (λ child by. absurd (childless n leaf child by)) | inr due ↦ inr due ]

    pub walk_starts : (old new : Met) → old.names ≡ [] → old.turns.items ≡ [] → Meets children_of closed (root ∷ []) old new → Walked new.names new.turns.items 0
    walk_starts old new no_names no_turns m =
        let fresh : (n : Name) → Contains new.names n → IsNew children_of closed (root ∷ []) new.turns.items n =
        λ n h. elim (m.each n h) [ inl was ↦ absurd (none_in n (subst (λ (names : List Name). Contains names n) no_names was)) | inr is ↦ is ] in
        let turns_are : new.turns.items ≡ m.more = m.behind ∙ ap (λ (turns : List Turn). turns ++ m.more) no_turns in
        record {
          begins = m.all root (0, omega arith, refl);
          met = λ n h. let is = fresh n h in (([], only root n is.one_of), is.held, is.unknown);
          turn = λ turn h. m.turns turn (subst (λ (turns : List Turn). Contains turns turn) turns_are h);
          followed = λ n h. new_followed new.names (root ∷ []) new.turns.items n (fresh n h);
          count = let a = m.count in let b = ap length no_names in let c = ap length no_turns in omega (arith, a, b, c);
        }

    -- the root is held where a name is reached and held
    pub root_held : (p : Name) → ReachesIn children_of root p → IsHeldIn children_of p → IsHeldIn children_of root
    root_held p ([], e) held = subst (IsHeldIn children_of) (sym e) held
    root_held p (next ∷ nodes, walk) held = (walk.0.kids, walk.0.held)

    module _ (names : List Name) (turns rest : List Turn) (rounds : ℕ) (turn : Turn) (is : turns ≡ rest ++ turn ∷ []) (w : Walked names turns rounds) where
      pub its_turn : IsTurn children_of names turn
      its_turn = w.turn turn (subst (λ (ts : List Turn). Contains ts turn) (sym is) (Contains-push rest turn))

      -- the name whose turn it is is reached and held
      pub name_met : IsMet turn.name
      name_met = w.met turn.name its_turn.listed

      module _ (old new : Met) (names_are : old.names ≡ names) (turns_are : old.turns.items ≡ rest) (m : Meets children_of closed turn.kids.now old new) where
        stay : (n : Name) → Contains names n → Contains new.names n
        stay n h = m.stay n (subst (λ (ns : List Name). Contains ns n) (sym names_are) h)

        behind : new.turns.items ≡ rest ++ m.more
        behind = m.behind ∙ ap (λ (ts : List Turn). ts ++ m.more) turns_are

        met_now : (n : Name) → Contains new.names n → IsMet n
        met_now n h =
            elim (m.each n h) [
              | inl was ↦ w.met n (subst (λ (ns : List Name). Contains ns n) names_are was)
              | inr new ↦
                  let walk = name_met.0 in (
                    reaches-next (IsHeldIn children_of) (IsChildIn children_of) walk.0 root turn.name n walk.1 (child_of turn.name n turn.kids.now its_turn.kids new.one_of),
                    new.held,
                    new.unknown,
                  )
            ]

        turn_now : (t : Turn) → Contains new.turns.items t → IsTurn children_of new.names t
        turn_now t h =
            elim (Contains-append_cases rest m.more t (subst (λ (ts : List Turn). Contains ts t) behind h)) [
              | inl old ↦ turn_keep names new.names stay t (w.turn t (subst (λ (ts : List Turn). Contains ts t) (sym is) (Contains-append_left rest (turn ∷ []) t old)))
              | inr new ↦ m.turns t new
            ]

        -- the children of the name whose turn it was are met
        had_turn : (n : Name) → turn.name ≡ n → (child : Name) → IsChildIn children_of n child → IsCovered closed new.names child
        had_turn n named child by = m.all child (of_child n child turn.kids.now (ap children_of (sym named) ∙ its_turn.kids) by)

        was_due : (n : Name) → IsDue turns n → IsFollowed new.names new.turns.items n
        was_due n due =
            elim (Contains-push_cases rest turn due.turn (subst (λ (ts : List Turn). Contains ts due.turn) is due.there)) [
              | inl old ↦ inr (subst (λ (ts : List Turn). IsDue ts n) (sym behind) (due_more rest m.more n (record { turn = due.turn; there = old; named = due.named })))
              | inr now ↦ inl (had_turn n (ap (λ (t : Turn). t.name) now ∙ due.named))
            ]

        followed_now : (n : Name) → Contains new.names n → IsFollowed new.names new.turns.items n
        followed_now n h =
            elim (m.each n h) [
              | inl was ↦
                  elim (w.followed n (subst (λ (ns : List Name). Contains ns n) names_are was)) [
                    | inl all ↦ inl (λ child by. covered_keep names new.names stay child (all child by))
                    | inr due ↦ was_due n due
                  ]
              | inr new' ↦ new_followed new.names turn.kids.now new.turns.items n new'
            ]

        pub walk_goes_on : Walked new.names new.turns.items (rounds + 1)
        walk_goes_on = record {
          begins = covered_keep names new.names stay root w.begins;
          met = met_now;
          turn = turn_now;
          followed = followed_now;
          count =
              let a = m.count in
              let b = w.count in
              let long = ap length is in
              let names_long = ap length names_are in
              let turns_long = ap length turns_are in
              omega (arith, a, b, long, names_long, turns_long, length-append rest (turn ∷ []));
        }

    -- where no turn is left the names are a certificate
    pub walk_ends : (names : List Name) (turns : List Turn) (rounds : ℕ) → turns ≡ [] → Walked names turns rounds → CertifiesIn children_of closed names root
    walk_ends names turns rounds none w =
        record {
          begins = w.begins;
          held = λ n h. (w.met n h).1;
          kids = λ n child h by. elim (w.followed n h) [
            | inl all ↦ all child by
            | inr due ↦ absurd (none_in due.turn (subst (λ (ts : List Turn). Contains ts due.turn) none due.there))
          ];
        }
