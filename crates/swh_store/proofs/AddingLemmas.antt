-- What is new of a batch, as far as a loop has come, and which names would have two bodies.
use Rattle.std.proofs.Common.{◌≡◌, inl, inr, ℕ, ◌+◌, ◌<◌, ◌≤◌, drop, true, false, cond, Some, List, [], ◌∷◌, ◌++◌, append_assoc, length, take, get_or, refl, sym, ap, ◌∙◌, subst, arith}
use Rattle.std.specs.Prelude.{Contains, is_some}
use Rattle.std.specs.FinMap as finite
use Rattle.std.proofs.lemmas.List.{take_all, take-append-drop}
use Rattle.std.proofs.lemmas.List.Elements.{Contains-append_left, Contains-push_cases}
use Rattle.swh_base.specs.declared.name.Name.{Name}
use Rattle.swh_base.specs.declared.entry.Entry.{Entry}
use Rattle.swh_base.proofs.Elementary.{some_not_none}
use Rattle.swh_model.specs.Archive.{Bodies, body_of}
use Rattle.swh_model.specs.Step.{added}
use Rattle.swh_model.specs.Judge.{not_held, Collides}
use Rattle.swh_model.proofs.Maps.{within-put, body-put}
use Rattle.swh_model.proofs.Entries.{added-append}
use Rattle.swh_model.proofs.Batches.{fresh-kept, fresh-passed, from_entry, fresh-inside, no_collision}
use Rattle.swh_model.proofs.PlainLists.{take-more}
use Rattle.swh_store.specs.declared.fault.StoreFault.{StoreFault}
use Rattle.swh_store.specs.declared.fault.StoreFault.TheVariants.{Collision, Memory}
use Rattle.swh_store.specs.Entries.{bodies_in}
use Rattle.swh_store.specs.Adding.{HasOther, IsTakenUp, IsEntryFault, IsStoreFault}
use Rattle.swh_store.proofs.IndexLemmas.{bodies-push}

pub length-not_held : (b : Bodies) (es : List Entry) → length (not_held b es) ≤ length es
length-not_held b [] = omega arith
length-not_held b (e ∷ es) =
    elim (is_some (body_of b e.name)) as (λ t. length (cond t (not_held b es) (e ∷ not_held (finite.insert b e.name e.body) es)) ≤ length (e ∷ es)) [
      | true ↦ omega (arith, length-not_held b es)
      | false ↦ omega (arith, length-not_held (finite.insert b e.name e.body) es)
    ]

-- the entry whose name has another body is of the batch, so that the name would have two
pub collides : (b : Bodies) (es fs : List Entry) (i : ℕ) (e : Entry) → i < length es → e ≡ get_or es i e → fs ≡ not_held b (take i es) → HasOther (added b fs) e → Collides b es e.name
collides b es fs i e less is so (body, there, other) = (
  body,
  e.body,
  elim (from_entry b fs e.name body there) [
    | inl held ↦ inl held
    | inr (f, inside, name, same) ↦ inr (f, in_front f (fresh-inside b (take i es) f (subst (λ (gs : List Entry). Contains gs f) so inside)), name, same)
  ],
  inr (e, (i, less, sym is), refl, refl),
  other,
)
  where
    in_front : (f : Entry) → Contains (take i es) f → Contains es f
    in_front f h = subst (λ (gs : List Entry). Contains gs f) (take-append-drop i es) (Contains-append_left (take i es) (drop i es) f h)

-- how far a batch is added
pub record Added (old now es : List Entry) (i : ℕ) : Type 0 where
  pub items : now ≡ old ++ not_held (bodies_in old) (take i es)
  pub each : (e : Entry) → Contains (take i es) e → body_of (bodies_in now) e.name ≡ Some e.body

bodies-now : (old now es : List Entry) (i : ℕ) → Added old now es i → bodies_in now ≡ added (bodies_in old) (not_held (bodies_in old) (take i es))
bodies-now old now es i a = ap bodies_in a.items ∙ added-append finite.empty old (not_held (bodies_in old) (take i es))

-- one entry more was taken up
pub added-next : (old now later es : List Entry) (i : ℕ) (e : Entry) → i < length es → e ≡ get_or es i e → Added old now es i → IsTakenUp now later e → Added old later es (i + 1)
added-next old now later es i e less is a (inl p) =
    let b = bodies_in old in
    let fs = not_held b (take i es) in
    let bodies : bodies_in later ≡ finite.insert (bodies_in now) e.name e.body = ap bodies_in p.is_last ∙ bodies-push now e in
    record {
      items = p.is_last ∙ ap (λ (l : List Entry). l ++ e ∷ []) a.items ∙ append_assoc old fs (e ∷ [])
          ∙ ap (λ (l : List Entry). old ++ l) (fresh-kept b es fs i e less is refl (ap (λ (c : Bodies). body_of c e.name) (sym (bodies-now old now es i a)) ∙ p.absent));
      each = λ f h. elim (Contains-push_cases (take i es) e f (subst (λ (l : List Entry). Contains l f) (take-more es i e less is) h)) [
        | inl before ↦ subst (λ (c : Bodies). body_of c f.name ≡ Some f.body) (sym bodies) (within-put (bodies_in now) e.name e.body p.absent f.name f.body (a.each f before))
        | inr same ↦ subst (λ (x : Entry). body_of (bodies_in later) x.name ≡ Some x.body) same (subst (λ (c : Bodies). body_of c e.name ≡ Some e.body) (sym bodies) (body-put (bodies_in now) e.name e.body))
      ];
    }
added-next old now later es i e less is a (inr k) =
    let b = bodies_in old in
    let fs = not_held b (take i es) in
    record {
      items = k.same ∙ a.items
          ∙ ap (λ (l : List Entry). old ++ l) (fresh-passed b es fs i e less is refl (some_not_none e.body (body_of (added b fs) e.name) (subst (λ (c : Bodies). body_of c e.name ≡ Some e.body) (bodies-now old now es i a) k.there)));
      each = λ f h. subst (λ (l : List Entry). body_of (bodies_in l) f.name ≡ Some f.body) (sym k.same)
          (elim (Contains-push_cases (take i es) e f (subst (λ (l : List Entry). Contains l f) (take-more es i e less is) h)) [
            | inl before ↦ a.each f before
            | inr same ↦ subst (λ (x : Entry). body_of (bodies_in now) x.name ≡ Some x.body) same k.there
          ]);
    }

pub all_added : (old now es : List Entry) (i : ℕ) → length es ≤ i → Added old now es i → (now ≡ old ++ not_held (bodies_in old) es) × ((n : Name) → Collides (bodies_in old) es n → ⊥)
all_added old now es i past a =
    let b = bodies_in old in
    let all = take_all i es past in (
      a.items ∙ ap (λ (l : List Entry). old ++ not_held b l) all,
      no_collision b es (λ e h.
          subst (λ (c : Bodies). body_of c e.name ≡ Some e.body) (bodies-now old now es i a ∙ ap (λ (l : List Entry). added b (not_held b l)) all) (a.each e (subst (λ (l : List Entry). Contains l e) (sym all) h))),
    )

-- an entry that is refused makes the batch be refused
pub fault-next : (old now es : List Entry) (i : ℕ) (e : Entry) (fault : StoreFault) → i < length es → e ≡ get_or es i e → Added old now es i → IsEntryFault (bodies_in now) e fault → IsStoreFault (bodies_in old) es fault
fault-next old now es i e (Collision name) less is a h =
    subst (Collides (bodies_in old) es) (sym h.0)
    (collides (bodies_in old) es (not_held (bodies_in old) (take i es)) i e less is refl (subst (λ (c : Bodies). HasOther c e) (bodies-now old now es i a) h.1))
fault-next old now es i e Memory less is a h = tt
