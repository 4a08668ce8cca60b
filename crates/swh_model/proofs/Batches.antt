-- What is new of a batch, as far as a loop has come, and which names would have two bodies.
use Rattle.std.proofs.Common.{◌≡◌, ◌⊎◌, inl, inr, ℕ, zero, suc, ◌+◌, ◌<◌, Bool, true, false, cond, Option, Some, None, List, [], ◌∷◌, ◌++◌, length, take, get_or, refl, sym, ap, ◌∙◌, subst, arith}
use Rattle.std.specs.Prelude.{Contains, is_some}
use Rattle.std.specs.List.{AllByRecursion}
use Rattle.std.specs.FinMap as finite
use Rattle.std.proofs.lemmas.List.{take_more}
use Rattle.std.proofs.lemmas.List.Elements.{Contains-append_left, Contains-append_right, Contains-append_cases}
use Rattle.swh_base.specs.declared.name.Name.{Name}
use Rattle.swh_base.specs.declared.entry.Entry.{Entry}
use Rattle.swh_model.specs.Archive.{Bodies, body_of}
use Rattle.swh_model.specs.Step.{added, AreNew}
use Rattle.swh_model.specs.Judge.{not_held, HasBodyOrAdds, Collides}
use Rattle.swh_model.proofs.Maps.{within-added, body-put, body_cases}
use Rattle.swh_model.proofs.Verdicts.{fresh-new}

pub fresh-append : (b : Bodies) (es fs : List Entry) → not_held b (es ++ fs) ≡ not_held b es ++ not_held (added b (not_held b es)) fs
fresh-append b [] fs = refl
fresh-append b (e ∷ es) fs =
    elim (is_some (body_of b e.name)) as (λ t. cond t (not_held b (es ++ fs)) (e ∷ not_held (finite.insert b e.name e.body) (es ++ fs))
    ≡ cond t (not_held b es) (e ∷ not_held (finite.insert b e.name e.body) es) ++ not_held (added b (cond t (not_held b es) (e ∷ not_held (finite.insert b e.name e.body) es))) fs) [
      | true ↦ fresh-append b es fs
      | false ↦ ap (λ (l : List Entry). e ∷ l) (fresh-append (finite.insert b e.name e.body) es fs)
    ]

take-next : (es : List Entry) (i : ℕ) (e : Entry) → i < length es → e ≡ get_or es i e → take (i + 1) es ≡ take i es ++ e ∷ []
take-next es i e less is = take_more es i e less ∙ ap (λ (x : Entry). take i es ++ x ∷ []) (sym is)

-- one entry more is new
pub fresh-kept : (b : Bodies) (es fs : List Entry) (i : ℕ) (e : Entry) → i < length es → e ≡ get_or es i e → fs ≡ not_held b (take i es) → body_of (added b fs) e.name ≡ None → fs ++ e ∷ [] ≡ not_held b (take (i + 1) es)
fresh-kept b es fs i e less is so none =
    let new : not_held (added b (not_held b (take i es))) (e ∷ []) ≡ e ∷ [] =
    ap (λ (t : Bool). cond t [] (e ∷ [])) (ap is_some (ap (λ (gs : List Entry). body_of (added b gs) e.name) (sym so) ∙ none)) in
    ap (λ (gs : List Entry). gs ++ e ∷ []) so ∙ sym (ap (not_held b) (take-next es i e less is) ∙ fresh-append b (take i es) (e ∷ []) ∙ ap (λ (gs : List Entry). not_held b (take i es) ++ gs) new)

-- one entry more is held or stands earlier
pub fresh-passed : (b : Bodies) (es fs : List Entry) (i : ℕ) (e : Entry) → i < length es → e ≡ get_or es i e → fs ≡ not_held b (take i es) → (body_of (added b fs) e.name ≡ None → ⊥) → fs ≡ not_held b (take (i + 1) es)
fresh-passed b es fs i e less is so some =
    let old : not_held (added b (not_held b (take i es))) (e ∷ []) ≡ [] =
    ap (λ (t : Bool). cond t [] (e ∷ [])) (ap is_some (ap (λ (gs : List Entry). body_of (added b gs) e.name) (sym so)) ∙ some_of (body_of (added b fs) e.name) some) in
    so ∙ sym (ap (not_held b) (take-next es i e less is) ∙ fresh-append b (take i es) (e ∷ []) ∙ ap (λ (gs : List Entry). not_held b (take i es) ++ gs) old ∙ append_none (not_held b (take i es)))
  where
    some_of : (o : Option (List ℕ)) → (o ≡ None → ⊥) → is_some o ≡ true
    some_of None h = absurd (h refl)
    some_of (Some x) h = refl

    append_none : (l : List Entry) → l ++ [] ≡ l
    append_none [] = refl
    append_none (x ∷ l) = ap (λ (k : List Entry). x ∷ k) (append_none l)

-- what a map has in the end, a map before or an entry had
pub from_entry : (b : Bodies) (es : List Entry) (n : Name) (x : List ℕ) → body_of (added b es) n ≡ Some x → (body_of b n ≡ Some x) ⊎ ((e : Entry) × Contains es e × (e.name ≡ n) × (e.body ≡ x))
from_entry b [] n x is = inl is
from_entry b (e ∷ es) n x is = elim (from_entry (finite.insert b e.name e.body) es n x is) [
  | inl there ↦ body_cases b e.name e.body n (λ o. o ≡ Some x → (body_of b n ≡ Some x) ⊎ ((f : Entry) × Contains (e ∷ es) f × (f.name ≡ n) × (f.body ≡ x)))
      (λ same some. inr (e, (0, omega arith, refl), sym same, same_some e.body x some)) (λ old. inl old) there
  | inr (f, inside, name, body) ↦ inr (f, Contains-append_right (e ∷ []) es f inside, name, body)
]
  where
    same_some : (y z : List ℕ) → Some y ≡ Some z → y ≡ z
    same_some y z e = cc

pub fresh-inside : (b : Bodies) (es : List Entry) (e : Entry) → Contains (not_held b es) e → Contains es e
fresh-inside b [] e h = h
fresh-inside b (f ∷ es) e h =
    elim (is_some (body_of b f.name)) as (λ t. Contains (cond t (not_held b es) (f ∷ not_held (finite.insert b f.name f.body) es)) e → Contains (f ∷ es) e) [
      | true ↦ λ k. Contains-append_right (f ∷ []) es e (fresh-inside b es e k)
      | false ↦ λ k. elim (Contains-append_cases (f ∷ []) (not_held (finite.insert b f.name f.body) es) e k) [
        | inl first ↦ Contains-append_left (f ∷ []) es e first
        | inr more ↦ Contains-append_right (f ∷ []) es e (fresh-inside (finite.insert b f.name f.body) es e more)
      ]
    ] h

-- each name of the batch has a body in the end
pub covered : (b : Bodies) (es : List Entry) (e : Entry) → Contains es e → body_of (added b (not_held b es)) e.name ≡ None → ⊥
covered b [] e (k, less, is) none = absurd (omega (arith, less))
covered b (f ∷ es) e h none =
    elim (is_some (body_of b f.name)) as (λ t. is_some (body_of b f.name) ≡ t → body_of (added b (cond t (not_held b es) (f ∷ not_held (finite.insert b f.name f.body) es))) e.name ≡ None → ⊥) [
      | true ↦ λ t nothing. elim (Contains-append_cases (f ∷ []) es e h) [
        | inl first ↦ held_on b (not_held b es) f.name (fresh-new b es) t (subst (λ (m : Entry). body_of (added b (not_held b es)) m.name ≡ None) (sym (only f e first)) nothing)
        | inr more ↦ covered b es e more nothing
      ]
      | false ↦ λ t nothing. elim (Contains-append_cases (f ∷ []) es e h) [
        | inl first ↦ put_on f (subst (λ (m : Entry). body_of (added (finite.insert b f.name f.body) (not_held (finite.insert b f.name f.body) es)) m.name ≡ None) (sym (only f e first)) nothing)
        | inr more ↦ covered (finite.insert b f.name f.body) es e more nothing
      ]
    ] refl none
  where
    only : (y m : Entry) → Contains (y ∷ []) m → y ≡ m
    only y m (zero, less, is) = is
    only y m (suc k, less, is) = absurd (omega (arith, less))

    held_on : (c : Bodies) (fs : List Entry) (n : Name) → AreNew c fs → is_some (body_of c n) ≡ true → body_of (added c fs) n ≡ None → ⊥
    held_on c fs n new some nothing =
        elim (body_of c n) as (λ o. body_of c n ≡ o → is_some o ≡ true → ⊥) [
          | None ↦ λ i s. absurd (let g : false ≡ true = s in cc)
          | Some x ↦ λ i s. let later : body_of (added c fs) n ≡ Some x = within-added c fs new n x i in let g : None ≡ Some x = sym nothing ∙ later in absurd (cc)
        ] refl some

    put_on : (g : Entry) → body_of (added (finite.insert b g.name g.body) (not_held (finite.insert b g.name g.body) es)) g.name ≡ None → ⊥
    put_on g nothing =
        let later = within-added (finite.insert b g.name g.body) (not_held (finite.insert b g.name g.body) es) (fresh-new (finite.insert b g.name g.body) es) g.name g.body (body-put b g.name g.body) in
        let g' : None ≡ Some g.body = sym nothing ∙ later in absurd (cc)

-- the last entry that was looked at has another body under its name
pub collides : (b : Bodies) (es : List Entry) (e : Entry) → Contains es e → (body_of (added b (not_held b es)) e.name ≡ Some e.body → ⊥) → Collides b es e.name
collides b es e there other =
    elim (body_of (added b (not_held b es)) e.name) as (λ o. body_of (added b (not_held b es)) e.name ≡ o → Collides b es e.name) [
      | None ↦ λ none. absurd (covered b es e there none)
      | Some x ↦ λ some. (
        x,
        e.body,
        elim (from_entry b (not_held b es) e.name x some) [
          | inl held ↦ inl held
          | inr (f, inside, name, body) ↦ inr (f, fresh-inside b es f inside, name, body)
        ],
        inr (e, there, refl, refl),
        λ same. other (some ∙ ap (λ (y : List ℕ). Some y) same),
      )
    ] refl

-- where each entry has its body in the end, no name has two
pub no_collision : (b : Bodies) (es : List Entry) → ((e : Entry) → Contains es e → body_of (added b (not_held b es)) e.name ≡ Some e.body) → (n : Name) → Collides b es n → ⊥
no_collision b es each n (x, y, hx, hy, apart) =
    let mx = has n x hx in let my = has n y hy in apart (let e : Some x ≡ Some y = sym mx ∙ my in cc)
  where
    has : (m : Name) (z : List ℕ) → HasBodyOrAdds b es m z → body_of (added b (not_held b es)) m ≡ Some z
    has m z (inl held) = within-added b (not_held b es) (fresh-new b es) m z held
    has m z (inr (e, inside, name, body)) =
        subst (λ (k : Name). body_of (added b (not_held b es)) k ≡ Some z) name (each e inside ∙ ap (λ (w : List ℕ). Some w) body)

pub not_true : {A : Type 0} → false ≡ true → A
not_true e = absurd (cc)

pub item_in : (es : List Entry) (i : ℕ) (e : Entry) → i < length es → e ≡ get_or es i e → Contains es e
item_in es i e less is = (i, less, sym is)

pub all_in : (P : Entry → Type 0) (es : List Entry) → AllByRecursion P es → (e : Entry) → Contains es e → P e
all_in P [] h e (k, less, is) = absurd (omega (arith, less))
all_in P (f ∷ es) h e (zero, less, is) = subst P is h.0
all_in P (f ∷ es) h e (suc k, less, is) = all_in P es h.1 e (k, omega (arith, less), is)
