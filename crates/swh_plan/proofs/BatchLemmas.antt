-- What is new of a batch, as far as a loop has come, and which names would have two bodies.
use Rattle.std.proofs.Common.{◌≡◌, inl, inr, ℕ, ◌+◌, ◌<◌, ◌≤◌, Bool, true, false, cond, Option, Some, None, List, [], ◌∷◌, length, take, get_or, refl, sym, ap, ◌∙◌, subst}
use Rattle.std.specs.Prelude.{◌⊎◌, IfSome, IfNone}
use Rattle.std.specs.List.{AllByRecursion}
use Rattle.std.specs.FinMap as finite
use Rattle.std.specs.Ordering.{eq_by_cmp}
use Rattle.std.proofs.lemmas.List.{take_all}
use Rattle.swh_base.specs.declared.name.Name.{Name}
use Rattle.swh_base.specs.declared.entry.Entry.{Entry}
use Rattle.swh_base.specs.Name.{name_cmp, name_cmp_total}
use Rattle.swh_base.proofs.Elementary.{some_not_none}
use Rattle.swh_model.specs.Archive.{Bodies, body_of}
use Rattle.swh_model.specs.Step.{AreNew, added}
use Rattle.swh_model.specs.Judge.{not_held, Collides}
use Rattle.swh_model.specs.Grows.{IsWithin}
use Rattle.swh_model.proofs.Batches.{fresh-kept, fresh-passed, no_collision, covered, item_in, all_in}
use Rattle.swh_model.proofs.Entries.{none-added, none_named, added-append, new-push, all-append}
use Rattle.swh_model.proofs.Maps.{body-put, within-put, within-added}
use Rattle.swh_model.proofs.PlainLists.{take-more}
use Rattle.swh_store.specs.Entries.{bodies_in}
use Rattle.swh_store.specs.Adding.{HasOther}
use Rattle.swh_store.proofs.AddingLemmas as adding
use Rattle.swh_store.specs.declared.adding.Standing.{Standing}
use Rattle.swh_store.specs.declared.adding.Standing.TheVariants.{New, Known, Other}
use Rattle.swh_plan.specs.Batches.{TakesUp, first_collision}

-- the first, or else the second
abbrev or_else : Option (List ℕ) → Option (List ℕ) → Option (List ℕ)
or_else (Some x) o = Some x
or_else None o = o

or_else-cond : (b : Bool) (v : List ℕ) (x y : Option (List ℕ)) → or_else (cond b (Some v) x) y ≡ cond b (Some v) (or_else x y)
or_else-cond true v x y = refl
or_else-cond false v x y = refl

-- entries put into a map are found in front of what another map has
added_either : (a b c : Bodies) (es : List Entry) → ((q : Name) → body_of c q ≡ or_else (body_of a q) (body_of b q)) → (q : Name) → body_of (added c es) q ≡ or_else (body_of (added a es) q) (body_of b q)
added_either a b c [] h q = h q
added_either a b c (e ∷ es) h q =
    added_either (finite.insert a e.name e.body) b (finite.insert c e.name e.body) es
    (λ r. finite.get-insert name_cmp_total c e.name e.body r ∙ ap (λ (o : Option (List ℕ)). cond (eq_by_cmp name_cmp r e.name) (Some e.body) o) (h r)
    ∙ sym (or_else-cond (eq_by_cmp name_cmp r e.name) e.body (body_of a r) (body_of b r))
    ∙ ap (λ (o : Option (List ℕ)). or_else o (body_of b r)) (sym (finite.get-insert name_cmp_total a e.name e.body r))) q

-- what entries are in a map of their own they are beside what is held
pub beside : (b : Bodies) (fs : List Entry) (n : Name) (body : List ℕ) → body_of (bodies_in fs) n ≡ Some body → body_of (added b fs) n ≡ Some body
beside b fs n body is =
    added_either finite.empty b b fs (λ q. ap (λ (o : Option (List ℕ)). or_else o (body_of b q)) (sym (finite.get-empty name_cmp q))) n
    ∙ ap (λ (o : Option (List ℕ)). or_else o (body_of b n)) is

-- how far a batch is split
pub record Splits (b : Bodies) (es : List Entry) (i : ℕ) (fs : List Entry) (collision : Option Name) : Type 0 where
  pub fresh : fs ≡ not_held b (take i es)
  pub new : AreNew b fs
  pub some : IfSome collision (Collides b es)
  pub none : IfNone collision (AllByRecursion (λ e. body_of (added b fs) e.name ≡ Some e.body) (take i es))

if_none : {X A B : Type 0} (o : Option X) → (A → B) → IfNone o A → IfNone o B
if_none None f a = f a
if_none (Some x) f a = a

all_within : (a b : Bodies) (es : List Entry) → IsWithin a b → AllByRecursion (λ e. body_of a e.name ≡ Some e.body) es → AllByRecursion (λ e. body_of b e.name ≡ Some e.body) es
all_within a b [] w h = tt
all_within a b (e ∷ es) w h = (w e.name e.body h.0, all_within a b es w h.1)

-- one more is held, or new
all_more : (a b : Bodies) (es : List Entry) (i : ℕ) (e : Entry) → i < length es → e ≡ get_or es i e → IsWithin a b → body_of b e.name ≡ Some e.body
    → AllByRecursion (λ e. body_of a e.name ≡ Some e.body) (take i es) → AllByRecursion (λ e. body_of b e.name ≡ Some e.body) (take (i + 1) es)
all_more a b es i e less is w there h =
    subst (AllByRecursion (λ e. body_of b e.name ≡ Some e.body)) (sym (take-more es i e less is))
    (all-append (λ e. body_of b e.name ≡ Some e.body) (take i es) (e ∷ []) (all_within a b (take i es) w h) (there, tt))

-- one that is new
splits-new : (b : Bodies) (es fs gs : List Entry) (i : ℕ) (e : Entry) (c : Option Name) → i < length es → e ≡ get_or es i e → Splits b es i fs c → TakesUp b fs gs e New → Splits b es (i + 1) gs c
splits-new b es fs gs i e c less is s (none, put) =
    let absent : body_of (added b fs) e.name ≡ None = none-added b fs e.name (none_named finite.empty fs e.name put.absent) none in
    let bodies : added b gs ≡ finite.insert (added b fs) e.name e.body = ap (added b) put.is_last ∙ added-append b fs (e ∷ []) in
    record {
      fresh = put.is_last ∙ fresh-kept b es fs i e less is s.fresh absent;
      new = subst (AreNew b) (sym put.is_last) (new-push b fs e s.new absent);
      some = s.some;
      none = if_none c
          (all_more (added b fs) (added b gs) es i e less is (subst (IsWithin (added b fs)) (sym bodies) (within-put (added b fs) e.name e.body absent))
          (ap (λ (m : Bodies). body_of m e.name) bodies ∙ body-put (added b fs) e.name e.body)) s.none;
    }

known_in : (b : Bodies) (fs : List Entry) (e : Entry) → AreNew b fs → (body_of b e.name ≡ Some e.body) ⊎ (body_of (bodies_in fs) e.name ≡ Some e.body) → body_of (added b fs) e.name ≡ Some e.body
known_in b fs e new (inl held) = within-added b fs new e.name e.body held
known_in b fs e new (inr there) = beside b fs e.name e.body there

other_in : (b : Bodies) (fs : List Entry) (e : Entry) → AreNew b fs → HasOther b e ⊎ HasOther (bodies_in fs) e → HasOther (added b fs) e
other_in b fs e new (inl (body, held, other)) = (body, within-added b fs new e.name body held, other)
other_in b fs e new (inr (body, there, other)) = (body, beside b fs e.name body there, other)

-- one whose body is held, or new before it
splits-known : (b : Bodies) (es fs gs : List Entry) (i : ℕ) (e : Entry) (c : Option Name) → i < length es → e ≡ get_or es i e → Splits b es i fs c → TakesUp b fs gs e Known → Splits b es (i + 1) gs c
splits-known b es fs gs i e c less is s (known, same) =
    let there = known_in b fs e s.new known in
    subst (λ (hs : List Entry). Splits b es (i + 1) hs c) (sym same)
    (record {
      fresh = fresh-passed b es fs i e less is s.fresh (some_not_none e.body (body_of (added b fs) e.name) there);
      new = s.new;
      some = s.some;
      none = if_none c (all_more (added b fs) (added b fs) es i e less is (λ n body h. h) there) s.none;
    })

-- one whose name has another body, where a name that has two is found
splits-other : (b : Bodies) (es fs gs : List Entry) (i : ℕ) (e : Entry) (c : Option Name) (n : Name) → i < length es → e ≡ get_or es i e → Splits b es i fs c → TakesUp b fs gs e Other → Collides b es n → Splits b es (i + 1) gs (Some n)
splits-other b es fs gs i e c n less is s (other, same) two =
    let o = other_in b fs e s.new other in
    subst (λ (hs : List Entry). Splits b es (i + 1) hs (Some n)) (sym same)
    (record {
      fresh = fresh-passed b es fs i e less is s.fresh (some_not_none o.0 (body_of (added b fs) e.name) o.1);
      new = s.new;
      some = two;
      none = tt;
    })

-- one more entry, however it stands
pub splits-next : (b : Bodies) (es fs gs : List Entry) (i : ℕ) (e : Entry) (c : Option Name) (standing : Standing) → i < length es → e ≡ get_or es i e → Splits b es i fs c → TakesUp b fs gs e standing
    → Splits b es (i + 1) gs (first_collision c e.name standing)
splits-next b es fs gs i e None New less is s t = splits-new b es fs gs i e None less is s t
splits-next b es fs gs i e None Known less is s t = splits-known b es fs gs i e None less is s t
splits-next b es fs gs i e None Other less is s t = splits-other b es fs gs i e None e.name less is s t (adding.collides b es fs i e less is s.fresh (other_in b fs e s.new t.0))
splits-next b es fs gs i e (Some n) New less is s t = splits-new b es fs gs i e (Some n) less is s t
splits-next b es fs gs i e (Some n) Known less is s t = splits-known b es fs gs i e (Some n) less is s t
splits-next b es fs gs i e (Some n) Other less is s t = splits-other b es fs gs i e (Some n) n less is s t s.some

-- a batch that is split
pub splits_all : (b : Bodies) (es fs : List Entry) (i : ℕ) (c : Option Name) → length es ≤ i → Splits b es i fs c → fs ≡ not_held b es
splits_all b es fs i c past s = s.fresh ∙ ap (not_held b) (take_all i es past)

pub none_has_two : (b : Bodies) (es fs : List Entry) (i : ℕ) (c : Option Name) → length es ≤ i → Splits b es i fs c → IfNone c ((n : Name) → Collides b es n → ⊥)
none_has_two b es fs i c past s =
    let all = take_all i es past in
    if_none c
    (λ h. no_collision b es (λ e there. ap (λ (gs : List Entry). body_of (added b gs) e.name) (sym (splits_all b es fs i c past s))
    ∙ all_in (λ f. body_of (added b fs) f.name ≡ Some f.body) es (subst (AllByRecursion (λ f. body_of (added b fs) f.name ≡ Some f.body)) all h) e there)) s.none

-- where nothing of a batch is new, each of its names is held
pub nothing_new : (b : Bodies) (es : List Entry) (i : ℕ) (e : Entry) → i < length es → e ≡ get_or es i e → not_held b es ≡ [] → body_of b e.name ≡ None → ⊥
nothing_new b es i e less is nothing none = covered b es e (item_in es i e less is) (subst (λ (fs : List Entry). body_of (added b fs) e.name ≡ None) (sym nothing) none)
