-- How far a walk has come, and what each of its steps does.
use Rattle.std.proofs.Common.{◌≡◌, ◌⊎◌, inl, inr, ℕ, ◌+◌, ◌*◌, Option, Some, None, List, [], ◌∷◌, ◌++◌, length, map, refl, sym, ap, ◌∙◌, subst, arith, append_assoc, length-append}
use Rattle.std.specs.Prelude.{Contains, ◌↔◌, reverse, Result, IfErr}
use Rattle.std.specs.Result.{IsErrAnd}
use Rattle.std.proofs.lemmas.Result.{err_from_is_err_and}
use Rattle.std.proofs.lemmas.List.{reverse-append}
use Rattle.std.proofs.lemmas.List.Elements.{Contains-append_left, Contains-append_right, Contains-append_cases}
use Rattle.swh_base.specs.declared.name.Name.{Name}
use Rattle.swh_base.proofs.Elementary.{none_in, only}
use Rattle.swh_postorder.specs.declared.walk.Frame.{Frame}
use Rattle.swh_postorder.specs.declared.walk.Walk.{Walk}
use Rattle.swh_postorder.specs.Postorder.{Over, Enters, IsEntered, Here, Inside, IsPostorder, IsFirstMissing}
use Rattle.swh_postorder.specs.Walk.{HasEntered, CannotEnter, IsFirstFresh, GoesOn, StopsIn, CannotGoOn, ExplainsOrder}
use Rattle.swh_postorder.specs.declared.fault.OrderFault.{OrderFault}
use Rattle.swh_postorder.specs.declared.fault.OrderFault.TheVariants.{NotHeld, Memory}
use Rattle.swh_postorder.proofs.Trips.{first_in, later_in, Level, names_of, Completes, Misses, leaves_whole, leaves_gap, stops_here, enters_whole, enters_gap, passing, stops_inside}

-- how a call ends that hands a fault on
pub refused : {T E : Type 0} (r : Result T E) (P : E → Type 0) (x : E) → IsErrAnd r (λ y. y ≡ x) → P x → IfErr r P
refused r P x h p = let e = err_from_is_err_and r h in rw (e.1, e.2) p

abbrev pub level_of : Frame → Level
level_of f = (f.name, f.kids.now)

-- the levels of frames, the innermost first
abbrev pub levels_of : List Frame → List Level
levels_of fs = map level_of (reverse fs)

pub levels_push : (fs : List Frame) (f : Frame) → levels_of (fs ++ f ∷ []) ≡ level_of f ∷ levels_of fs
levels_push fs f = ap (λ (l : List Frame). map level_of l) (reverse-append fs (f ∷ []))

levels_push_two : (fs : List Frame) (f g : Frame) → levels_of (fs ++ f ∷ g ∷ []) ≡ level_of g ∷ level_of f ∷ levels_of fs
levels_push_two fs f g = ap (λ (l : List Frame). map level_of l) (reverse-append fs (f ∷ g ∷ []))

-- the names that were entered are those of the levels, and those that were left
abbrev pub AreKnown : List Name → List Level → List Name → Type 0
AreKnown entered levels left = (n : Name) → Contains entered n ↔ IsEntered (names_of levels) left n

module _ (children_of : Name → Option (List Name)) (root : Name) where
  -- how far the walk has come, where the innermost level stands first
  pub record Walks (entered : List Name) (levels : List Level) (left : List Name) (round : ℕ) : Type 0 where
    pub known : AreKnown entered levels left
    pub whole : (order : List Name) → Completes children_of levels left order → IsPostorder children_of root order
    pub gap : (missing : Name) → Misses children_of levels left missing → IsFirstMissing children_of root missing
    pub count : length entered ≡ length levels + length left
    pub rounds : round + 1 ≡ length levels + 2 * length left

  not_entered : (n : Name) → IsEntered [] [] n → ⊥
  not_entered n (inl there) = none_in n there
  not_entered n (inr there) = none_in n there

  -- the root is not held
  pub root_missing : children_of root ≡ None → IsFirstMissing children_of root root
  root_missing none =
      record { stop = Here Over; walk = stops_here children_of [] [] [] [] root (λ n there. absurd (none_in n there)) (not_entered root) none }

  only_root : (entered : List Name) → ((n : Name) → Contains entered n ↔ (Contains [] n ⊎ (root ≡ n))) → (kids : List Name) → AreKnown entered ((root, kids) ∷ []) []
  only_root entered put kids n = (
    λ there. elim ((put n).0 there) [ inl was ↦ absurd (none_in n was) | inr is ↦ inl (subst (Contains (root ∷ [])) is (first_in root [])) ],
    λ there. elim there [ inl around ↦ (put n).1 (inr (only root n around)) | inr left ↦ absurd (none_in n left) ],
  )

  start_whole : (kids : List Name) → children_of root ≡ Some kids → (order : List Name) → Completes children_of ((root, kids) ∷ []) [] order → IsPostorder children_of root order
  start_whole kids held order (trip, is, e) = record { trip = Enters root trip Over; walk = ([], kids, refl, not_entered root, held, is, refl); is = e }

  start_gap : (kids : List Name) → children_of root ≡ Some kids → (missing : Name) → Misses children_of ((root, kids) ∷ []) [] missing → IsFirstMissing children_of root missing
  start_gap kids held missing (inl (stop, at)) =
      record { stop = Inside Over root stop; walk = stops_inside children_of [] [] [] [] root (λ n there. absurd (none_in n there)) (not_entered root) kids held stop missing at }
  start_gap kids held missing (inr (trip, is, never)) = absurd never

  -- the root was entered
  pub starts : (entered kids : List Name) → children_of root ≡ Some kids → ((n : Name) → Contains entered n ↔ (Contains [] n ⊎ (root ≡ n))) → length entered ≡ 1 → Walks entered ((root, kids) ∷ []) [] 0
  starts entered kids held put count = record {
    known = only_root entered put kids;
    whole = start_whole kids held;
    gap = start_gap kids held;
    count = omega (arith, count);
    rounds = omega arith;
  }

  moved : (n m : Name) (around left : List Name) → IsEntered (n ∷ around) left m → IsEntered around (left ++ n ∷ []) m
  moved n m around left (inl there) =
      elim (Contains-append_cases (n ∷ []) around m there) [ inl is ↦ inr (Contains-append_right left (n ∷ []) m is) | inr more ↦ inl more ]
  moved n m around left (inr there) = inr (Contains-append_left left (n ∷ []) m there)

  back : (n m : Name) (around left : List Name) → IsEntered around (left ++ n ∷ []) m → IsEntered (n ∷ around) left m
  back n m around left (inl there) = inl (later_in n around m there)
  back n m around left (inr there) =
      elim (Contains-append_cases left (n ∷ []) m there) [ inl was ↦ inr was | inr is ↦ inl (Contains-append_left (n ∷ []) around m is) ]

  -- the innermost name is left
  pub leaves : (entered : List Name) (n : Name) (kids : List Name) (below : List Level) (left : List Name) (round : ℕ) → ((m : Name) → Contains kids m → Contains entered m)
      → Walks entered ((n, kids) ∷ below) left round → Walks entered below (left ++ n ∷ []) (round + 1)
  leaves entered n kids below left round all w =
      let known = λ (m : Name) (there : Contains kids m). (w.known m).0 (all m there) in
      record {
        known = λ m. (λ there. moved n m (names_of below) left ((w.known m).0 there), λ is. (w.known m).1 (back n m (names_of below) left is));
        whole = λ order rest. w.whole order (leaves_whole children_of n kids below left known order rest);
        gap = λ missing rest. w.gap missing (leaves_gap children_of n kids below left known missing rest);
        count = let a = w.count in omega (arith, a, length-append left (n ∷ []));
        rounds = let a = w.rounds in omega (arith, a, length-append left (n ∷ []));
      }

  added : (k m : Name) (around left : List Name) → IsEntered around left m ⊎ (k ≡ m) → IsEntered (k ∷ around) left m
  added k m around left (inl (inl there)) = inl (later_in k around m there)
  added k m around left (inl (inr there)) = inr there
  added k m around left (inr is) = inl (subst (Contains (k ∷ around)) is (first_in k around))

  removed : (k m : Name) (around left : List Name) → IsEntered (k ∷ around) left m → IsEntered around left m ⊎ (k ≡ m)
  removed k m around left (inl there) =
      elim (Contains-append_cases (k ∷ []) around m there) [ inl is ↦ inr (only k m is) | inr more ↦ inl (inl more) ]
  removed k m around left (inr there) = inl (inr there)

  -- the first name that was not entered is entered
  pub goes_in : (entered now : List Name) (n k : Name) (skipped after kids : List Name) (below : List Level) (left : List Name) (round : ℕ) → ((m : Name) → Contains skipped m → Contains entered m) → (Contains entered k → ⊥)
      → children_of k ≡ Some kids → ((m : Name) → Contains now m ↔ (Contains entered m ⊎ (k ≡ m))) → length now ≡ length entered + 1
      → Walks entered ((n, skipped ++ k ∷ after) ∷ below) left round → Walks now ((k, kids) ∷ (n, after) ∷ below) left (round + 1)
  goes_in entered now n k skipped after kids below left round all fresh held put count w =
      let known = λ (m : Name) (there : Contains skipped m). (w.known m).0 (all m there) in
      let new = λ (is : IsEntered (n ∷ names_of below) left k). fresh ((w.known k).1 is) in
      record {
        known = λ m. (
          λ there. added k m (n ∷ names_of below) left (elim ((put m).0 there) [ inl was ↦ inl ((w.known m).0 was) | inr is ↦ inr is ]),
          λ there. (put m).1 (elim (removed k m (n ∷ names_of below) left there) [ inl was ↦ inl ((w.known m).1 was) | inr is ↦ inr is ]),
        );
        whole = λ order rest. w.whole order (enters_whole children_of n k kids skipped after below left known new held order rest);
        gap = λ missing rest. w.gap missing (enters_gap children_of n k kids skipped after below left known new held missing rest);
        count = let a = w.count in omega (arith, a, count);
        rounds = let a = w.rounds in omega (arith, a);
      }

  -- the first name that was not entered is not held
  pub stops : (entered : List Name) (n k : Name) (skipped after : List Name) (below : List Level) (left : List Name) (round : ℕ) → ((m : Name) → Contains skipped m → Contains entered m) → (Contains entered k → ⊥)
      → children_of k ≡ None → Walks entered ((n, skipped ++ k ∷ after) ∷ below) left round → IsFirstMissing children_of root k
  stops entered n k skipped after below left round all fresh none w =
      w.gap k (inl (Here (passing skipped Over), stops_here children_of (n ∷ names_of below) left skipped after k (λ m there. (w.known m).0 (all m there)) (λ is. fresh ((w.known k).1 is)) none))

  walks_at : (a b : List Name) (ls ms : List Level) (left gone : List Name) (round : ℕ) → a ≡ b → ls ≡ ms → left ≡ gone → Walks a ls left round → Walks b ms gone round
  walks_at a b ls ms left gone round e f g w =
      subst (λ (x : List Name). Walks x ms gone round) e (subst (λ (x : List Level). Walks a x gone round) f (subst (λ (x : List Name). Walks a ls x round) g w))

  module _ (top : Frame) (old : Walk) (frames : List Frame) (round : ℕ) (cut : frames ≡ old.frames.items ++ top ∷ []) (w : Walks old.entered (levels_of frames) old.left.items round) where
    at_top : Walks old.entered (level_of top ∷ levels_of old.frames.items) old.left.items round
    at_top = subst (λ (x : List Level). Walks old.entered x old.left.items round) (ap (λ (fs : List Frame). levels_of fs) cut ∙ levels_push old.frames.items top) w

    at_child : (front behind : List Name) (name : Name) → top.kids.now ≡ front ++ name ∷ behind → Walks old.entered ((top.name, front ++ name ∷ behind) ∷ levels_of old.frames.items) old.left.items round
    at_child front behind name is =
        subst (λ (kids : List Name). Walks old.entered ((top.name, kids) ∷ levels_of old.frames.items) old.left.items round) is at_top

    pub walk_goes_on : (new : Walk) → GoesOn children_of top old new → Walks new.entered (levels_of new.frames.items) new.left.items (round + 1)
    walk_goes_on new (inl left) =
        walks_at old.entered new.entered (levels_of old.frames.items) (levels_of new.frames.items) (old.left.items ++ top.name ∷ []) new.left.items (round + 1) (sym left.entered)
        (ap (λ (fs : List Frame). levels_of fs) (sym left.frames)) (sym left.left) (leaves old.entered top.name top.kids.now (levels_of old.frames.items) old.left.items round left.all at_top)
    walk_goes_on new (inr gone) =
        let named = ap (λ (n : Name). let l : Level = (n, gone.inner.kids.now) in l) (sym gone.named) in
        let same = ap (λ (n : Name). let l : Level = (n, gone.rest.kids.now) in l) (sym gone.rest_named) in
        let levels : (gone.name, gone.inner.kids.now) ∷ (top.name, gone.rest.kids.now) ∷ levels_of old.frames.items ≡ level_of gone.inner ∷ level_of gone.rest ∷ levels_of old.frames.items = cc (named, same) in
        walks_at new.entered new.entered ((gone.name, gone.inner.kids.now) ∷ (top.name, gone.rest.kids.now) ∷ levels_of old.frames.items) (levels_of new.frames.items) old.left.items new.left.items (round + 1) refl
        (levels ∙ sym (ap (λ (fs : List Frame). levels_of fs) gone.frames ∙ levels_push_two old.frames.items gone.rest gone.inner)) (sym gone.left)
        (goes_in old.entered new.entered top.name gone.name gone.first.front gone.rest.kids.now gone.inner.kids.now (levels_of old.frames.items) old.left.items round gone.first.known gone.first.fresh gone.kids gone.entered gone.count
        (at_child gone.first.front gone.rest.kids.now gone.name gone.first.cut))

    pub walk_stops : (missing : Name) → StopsIn children_of top old.entered missing → IsFirstMissing children_of root missing
    walk_stops missing s =
        stops old.entered top.name missing s.first.front s.behind (levels_of old.frames.items) old.left.items round s.first.known s.first.fresh s.none (at_child s.first.front s.behind missing s.first.cut)

  -- no frame is left
  pub walk_ends : (entered : List Name) (frames : List Frame) (left : List Name) (round : ℕ) → frames ≡ [] → Walks entered (levels_of frames) left round → IsPostorder children_of root left
  walk_ends entered frames left round none w =
      (subst (λ (fs : List Frame). Walks entered (levels_of fs) left round) none w).whole left refl

  pub cannot_enter_root : (fault : OrderFault) → CannotEnter children_of root fault → ExplainsOrder children_of root fault
  cannot_enter_root (NotHeld missing) (is, none) = subst (IsFirstMissing children_of root) (sym is) (root_missing none)
  cannot_enter_root Memory why = tt

  pub cannot_go_on : (top : Frame) (old : Walk) (frames : List Frame) (round : ℕ) → frames ≡ old.frames.items ++ top ∷ [] → Walks old.entered (levels_of frames) old.left.items round
      → (fault : OrderFault) → CannotGoOn children_of top old fault → ExplainsOrder children_of root fault
  cannot_go_on top old frames round cut w (NotHeld missing) s = walk_stops top old frames round cut w missing s
  cannot_go_on top old frames round cut w Memory s = tt

  pub entered_root : (old new : Walk) → old.entered ≡ [] → old.frames.items ≡ [] → old.left.items ≡ [] → HasEntered children_of root old new → Walks new.entered (levels_of new.frames.items) new.left.items 0
  entered_root old new no_names no_frames none_left h =
      let named = ap (λ (n : Name). let l : Level = (n, h.frame.kids.now) in l) (sym h.named) in
      let level : (root, h.frame.kids.now) ∷ [] ≡ level_of h.frame ∷ [] = cc named in
      let frames : new.frames.items ≡ h.frame ∷ [] = h.frames ∙ ap (λ (fs : List Frame). fs ++ h.frame ∷ []) no_frames in
      let count : length new.entered ≡ 1 = let a = h.count in let b = ap length no_names in omega (arith, a, b) in
      walks_at new.entered new.entered ((root, h.frame.kids.now) ∷ []) (levels_of new.frames.items) [] new.left.items 0 refl (level ∙ sym (ap (λ (fs : List Frame). levels_of fs) frames)) (sym (h.left ∙ none_left))
      (starts new.entered h.frame.kids.now h.kids (subst (λ (names : List Name). (n : Name) → Contains new.entered n ↔ (Contains names n ⊎ (root ≡ n))) no_names h.entered) count)

module _ (children_of : Name → Option (List Name)) (top : Frame) (old : Walk) where
  pub goes_in_child : (mid new : Walk) (rest : Frame) (name : Name) → IsFirstFresh old.entered top.kids.now name rest.kids.now → rest.name ≡ top.name → mid.frames.items ≡ old.frames.items ++ rest ∷ [] → mid.left.items ≡ old.left.items → mid.entered ≡ old.entered
      → HasEntered children_of name mid new → GoesOn children_of top old new
  goes_in_child mid new rest name first named frames left entered h =
      inr (record {
        name = name;
        rest = rest;
        inner = h.frame;
        first = first;
        rest_named = named;
        named = h.named;
        kids = h.kids;
        frames = h.frames ∙ ap (λ (fs : List Frame). fs ++ h.frame ∷ []) frames ∙ append_assoc old.frames.items (rest ∷ []) (h.frame ∷ []);
        left = h.left ∙ left;
        entered = subst (λ (names : List Name). (n : Name) → Contains new.entered n ↔ (Contains names n ⊎ (name ≡ n))) entered h.entered;
        count = subst (λ (names : List Name). length new.entered ≡ length names + 1) entered h.count;
      })

  pub stops_in_child : (name : Name) (behind : List Name) → IsFirstFresh old.entered top.kids.now name behind → (fault : OrderFault) → CannotEnter children_of name fault → CannotGoOn children_of top old fault
  stops_in_child name behind first (NotHeld missing) (is, none) =
      record {
        behind = behind;
        first = subst (λ (n : Name). IsFirstFresh old.entered top.kids.now n behind) (sym is) first;
        none = ap children_of is ∙ none;
      }
  stops_in_child name behind first Memory why = tt
