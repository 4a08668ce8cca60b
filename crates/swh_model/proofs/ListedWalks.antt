-- Lists of names that a walk has met.
use Rattle.std.proofs.Common.{◌≡◌, inl, inr, ℕ, zero, suc, ◌+◌, ◌<◌, ◌≤◌, Some, None, List, [], ◌∷◌, ◌++◌, length, take, get_or, refl, sym, ap, ◌∙◌, subst, arith, append_assoc, length-append}
use Rattle.std.specs.Prelude.{Contains, slice_get}
use Rattle.std.specs.List.{AllByRecursion}
use Rattle.std.proofs.lemmas.List.{take_more, take_all, take-append-le}
use Rattle.std.proofs.lemmas.List.Elements.{Contains-append_left, Contains-append_cases, Contains-push_cases}
use Rattle.swh_base.specs.declared.name.Name.{Name}
use Rattle.swh_base.specs.declared.entry.Entry.{Entry}
use Rattle.swh_base.specs.Manifest.{AreChildren}
use Rattle.swh_base.specs.Reach.{IsCovered}
use Rattle.swh_base.proofs.Children.{one_list}
use Rattle.swh_model.specs.Archive.{Bodies, IsHeld, IsChild, Reaches, IsClosed}
use Rattle.swh_model.specs.Certificate.{AreClosed}
use Rattle.swh_model.specs.Walk.{IsEntryOf, MayGain, IsHeldChild, GainsChildren, GainsHeld, GainsReached}
use Rattle.swh_model.proofs.Entries.{all-append}
use Rattle.swh_model.proofs.Walks.{reaches-next}
use Rattle.swh_model.proofs.Certificates.{certified-closed}

pub may_keep : (l l' : List Name) (x n : Name) → MayGain l l' x → Contains l n → Contains l' n
may_keep l l' x n (inl same) h = subst (λ (k : List Name). Contains k n) (sym same) h
may_keep l l' x n (inr more) h = subst (λ (k : List Name). Contains k n) (sym more) (Contains-append_left l (x ∷ []) n h)

pub gains-more : (bodies : Bodies) (names old l l' : List Name) (x : Name) → GainsHeld bodies names old l → MayGain l l' x → Contains names x → IsHeld bodies x → GainsHeld bodies names old l'
gains-more bodies names old l l' x g (inl same) there held = record { more = g.more; behind = same ∙ g.behind; held_names = g.held_names }
gains-more bodies names old l l' x g (inr more) there held =
    record {
      more = g.more ++ x ∷ [];
      behind = more ∙ ap (λ (k : List Name). k ++ x ∷ []) g.behind ∙ append_assoc old g.more (x ∷ []);
      held_names = all-append (λ n. Contains names n × IsHeld bodies n) g.more (x ∷ []) g.held_names ((there, held), tt);
    }

pub item_there : (xs : List Name) (i : ℕ) (x : Name) → i < length xs → x ≡ get_or xs i x → Contains xs x
item_there xs i x less is = (i, less, sym is)

pub all-more : (kids l l' : List Name) (i : ℕ) (x : Name) → i < length kids → x ≡ get_or kids i x → ((n : Name) → Contains (take i kids) n → Contains l n) → MayGain l l' x → Contains l' x
    → (n : Name) → Contains (take (i + 1) kids) n → Contains l' n
all-more kids l l' i x less is each gain there n h =
    let cut : take (i + 1) kids ≡ take i kids ++ x ∷ [] = take_more kids i x less ∙ ap (λ (y : Name). take i kids ++ y ∷ []) (sym is) in
    elim (Contains-push_cases (take i kids) x n (subst (λ (k : List Name). Contains k n) cut h)) [
      | inl old ↦ may_keep l l' x n gain (each n old)
      | inr same ↦ subst (λ (m : Name). Contains l' m) same there
    ]

pub none_in : (n : Name) → Contains [] n → ⊥
none_in n (k, less, is) = absurd (omega (arith, less))

pub child_of : (bodies : Bodies) (p k : Name) (e : Entry) → IsEntryOf bodies p e → Contains e.kids k → IsChild bodies p k
child_of bodies p k e is there =
    record { body = e.body; held = is.held; kids = e.kids; are = subst (λ (n : Name). AreChildren n.kind e.body e.kids) is.name is.good.kids; one_of = there }

same_body : (a b : List ℕ) → Some a ≡ Some b → a ≡ b
same_body a b e = cc

pub of_child : (bodies : Bodies) (p k : Name) (e : Entry) → IsEntryOf bodies p e → IsChild bodies p k → Contains e.kids k
of_child bodies p k e is child =
    let bodies_same : child.body ≡ e.body = same_body child.body e.body (sym child.held ∙ is.held) in
    let one : child.kids ≡ e.kids = one_list p.kind e.body child.kids e.kids (subst (λ (b : List ℕ). AreChildren p.kind b child.kids) bodies_same child.are) (subst (λ (n : Name). AreChildren n.kind e.body e.kids) is.name is.good.kids) in
    subst (λ (ks : List Name). Contains ks k) one child.one_of

held_children : (bodies : Bodies) (p : Name) (e : Entry) → IsEntryOf bodies p e → (ms : List Name) → AllByRecursion (λ n. Contains e.kids n × IsHeld bodies n) ms → AllByRecursion (IsHeldChild bodies p) ms
held_children bodies p e is [] h = tt
held_children bodies p e is (m ∷ ms) h = ((child_of bodies p m e is h.0.0, h.0.1), held_children bodies p e is ms h.1)

pub gains_children : (bodies : Bodies) (p : Name) (e : Entry) (old new : List Name) → IsEntryOf bodies p e → GainsHeld bodies e.kids old new → GainsChildren bodies p old new
gains_children bodies p e old new is g = record { more = g.more; behind = g.behind; held_children = held_children bodies p e is g.more g.held_names }

-- what a walk has met beyond what is known, as far as it has come
pub record Walked (bodies : Bodies) (root : Name) (known l : List Name) (place : ℕ) : Type 0 where
  pub begins : Contains l root
  pub gains : GainsReached bodies root known l
  pub done : ℕ
  pub place_is : place ≡ length known + done
  pub within : done ≤ length gains.more
  pub followed : (n child : Name) → Contains (take done gains.more) n → IsChild bodies n child → Contains l child

reached_more : (bodies : Bodies) (root p : Name) → Reaches bodies root p → (ms : List Name) → AllByRecursion (IsHeldChild bodies p) ms → AllByRecursion (λ n. Reaches bodies root n × IsHeld bodies n) ms
reached_more bodies root p reach [] h = tt
reached_more bodies root p reach (m ∷ ms) h = ((reaches-next bodies reach.0 root p m reach.1 h.0.0, h.0.1), reached_more bodies root p reach ms h.1)

at_place : (P : Name → Type 0) (l : List Name) (i : ℕ) (p : Name) → slice_get l i ≡ Some p → AllByRecursion P l → (i < length l) × (p ≡ get_or l i p) × P p
at_place P [] i p is h = absurd (let f : None ≡ Some p = is in cc)
at_place P (x ∷ l) zero p is h = let e : x ≡ p = cc in (omega arith, sym e, subst P e h.0)
at_place P (x ∷ l) (suc i) p is h = let more = at_place P l i p is h.1 in (let m = more.0 in omega (arith, m), more.1, more.2)

-- after a front the places begin anew
behind_front : (front more : List Name) (place done : ℕ) (p : Name) → place ≡ length front + done → slice_get (front ++ more) place ≡ Some p → slice_get more done ≡ Some p
behind_front [] more place done p e is = let same : place ≡ done = omega (arith, e) in subst (λ (k : ℕ). slice_get more k ≡ Some p) same is
behind_front (x ∷ front) more zero done p e is = absurd (omega (arith, e))
behind_front (x ∷ front) more (suc place) done p e is = behind_front front more place done p (omega (arith, e)) is

module _ (bodies : Bodies) (root p : Name) (known l : List Name) (place : ℕ) (is : slice_get l place ≡ Some p) (w : Walked bodies root known l place) where
  there : slice_get w.gains.more w.done ≡ Some p
  there = behind_front known w.gains.more place w.done p w.place_is (subst (λ (k : List Name). slice_get k place ≡ Some p) w.gains.behind is)

  pub parent_held : Reaches bodies root p × IsHeld bodies p
  parent_held = (at_place (λ n. Reaches bodies root n × IsHeld bodies n) w.gains.more w.done p there w.gains.reached).2

  joined : (l' : List Name) (g : GainsChildren bodies p l l') → l' ≡ known ++ (w.gains.more ++ g.more)
  joined l' g = g.behind ∙ ap (λ (k : List Name). k ++ g.more) w.gains.behind ∙ append_assoc known w.gains.more g.more

  all_reached : (l' : List Name) (g : GainsChildren bodies p l l') → AllByRecursion (λ n. Reaches bodies root n × IsHeld bodies n) (w.gains.more ++ g.more)
  all_reached l' g = all-append (λ n. Reaches bodies root n × IsHeld bodies n) w.gains.more g.more w.gains.reached (reached_more bodies root p parent_held.0 g.more g.held_children)

  pub walk-next : (l' : List Name) → GainsChildren bodies p l l' → ((child : Name) → IsChild bodies p child → Contains l' child) → Walked bodies root known l' (place + 1)
  walk-next l' g all =
      let a = at_place (λ n. Reaches bodies root n × IsHeld bodies n) w.gains.more w.done p there w.gains.reached in
      let keep : (n : Name) → Contains l n → Contains l' n = λ n h. subst (λ (k : List Name). Contains k n) (sym g.behind) (Contains-append_left l g.more n h) in
      let less : w.done + 1 ≤ length w.gains.more = let m = a.0 in omega (arith, m) in
      let cut : take (w.done + 1) (w.gains.more ++ g.more) ≡ take w.done w.gains.more ++ p ∷ [] =
      take-append-le (w.done + 1) w.gains.more g.more less ∙ take_more w.gains.more w.done p a.0 ∙ ap (λ (y : Name). take w.done w.gains.more ++ y ∷ []) (sym a.1) in
      record {
        begins = keep root w.begins;
        gains = record { more = w.gains.more ++ g.more; behind = joined l' g; reached = all_reached l' g };
        done = w.done + 1;
        place_is = let e = w.place_is in omega (arith, e);
        within = omega (arith, less, length-append w.gains.more g.more);
        followed = λ n child h is_child.
            elim (Contains-push_cases (take w.done w.gains.more) p n (subst (λ (k : List Name). Contains k n) cut h)) [
              | inl old ↦ keep child (w.followed n child old is_child)
              | inr same ↦ all child (subst (λ (m : Name). IsChild bodies m child) (sym same) is_child)
            ];
      }

held_all : (bodies : Bodies) (root : Name) (l : List Name) → AllByRecursion (λ n. Reaches bodies root n × IsHeld bodies n) l → (n : Name) → Contains l n → IsHeld bodies n
held_all bodies root [] h n there = absurd (none_in n there)
held_all bodies root (x ∷ l) h n there =
    elim (Contains-append_cases (x ∷ []) l n there) [
      | inl first ↦ subst (IsHeld bodies) (only x n first) h.0.1
      | inr more ↦ held_all bodies root l h.1 n more
    ]
  where
    only : (y m : Name) → Contains (y ∷ []) m → y ≡ m
    only y m (zero, less, is) = is
    only y m (suc k, less, is) = absurd (omega (arith, less))

covered : (known more l : List Name) (n : Name) → l ≡ known ++ more → Contains l n → IsCovered known more n
covered known more l n is h =
    elim (Contains-append_cases known more n (subst (λ (k : List Name). Contains k n) is h)) [ inl old ↦ inr old | inr new ↦ inl new ]

module _ (bodies : Bodies) (root : Name) (known l : List Name) (place : ℕ) (past : length l ≤ place) (w : Walked bodies root known l place) (are : AreClosed bodies known) where
  more_closed : (n : Name) → Contains w.gains.more n → IsClosed bodies n
  more_closed n listed =
      certified-closed bodies known w.gains.more n are
      (record {
        begins = inl listed;
        held = held_all bodies root w.gains.more w.gains.reached;
        kids = λ m child met is_child.
            let all_done : length w.gains.more ≤ w.done = let is = w.place_is in omega (arith, past, is, ap length w.gains.behind, length-append known w.gains.more) in
            covered known w.gains.more l child w.gains.behind (w.followed m child (subst (λ (k : List Name). Contains k m) (sym (take_all w.done w.gains.more all_done)) met) is_child);
      })

  pub walk-ends : AreClosed bodies l
  walk-ends n h =
      elim (covered known w.gains.more l n w.gains.behind h) [ inl new ↦ more_closed n new | inr old ↦ are n old ]

-- an element that is there is read with any default
pub item_is : (xs : List Name) (i : ℕ) (d e : Name) → i < length xs → get_or xs i d ≡ get_or xs i e
item_is [] i d e less = absurd (omega (arith, less))
item_is (x ∷ xs) zero d e less = refl
item_is (x ∷ xs) (suc i) d e less = item_is xs i d e (omega (arith, less))

-- a walk begins at its root, from nothing
pub walk-begins : (bodies : Bodies) (root : Name) (l : List Name) → l ≡ root ∷ [] → IsHeld bodies root → Walked bodies root [] l 0
walk-begins bodies root l is held = record {
  begins = subst (λ (k : List Name). Contains k root) (sym is) (0, omega arith, refl);
  gains = record { more = root ∷ []; behind = is; reached = ((([], refl), held), tt) };
  done = 0;
  place_is = refl;
  within = omega arith;
  followed = λ n child there. absurd (none_in n there);
}
