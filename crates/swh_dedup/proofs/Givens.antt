-- Objects that are given out where they are new.
use Rattle.std.proofs.Common.{◌≡◌, ◌⊎◌, inl, inr, ℕ, zero, suc, ◌<◌, List, [], ◌∷◌, ◌++◌, length, take, get_or, Contains, sym, ap, ◌∙◌, subst, arith, append_assoc}
use Rattle.std.specs.List.{AllByRecursion}
use Rattle.std.proofs.lemmas.List.{map-append, append-nil, length-map, length_push, take_more, get_or-map, take-map}
use Rattle.std.proofs.lemmas.List.Elements.{Contains-append_left, Contains-append_cases, Contains-push, Contains-push_cases}
use Rattle.swh_base.specs.declared.kind.Kind.{Kind}
use Rattle.swh_base.specs.declared.name.Name.{Name}
use Rattle.swh_base.specs.declared.entry.Entry.{Entry}
use Rattle.swh_base.specs.Name.{IsId}
use Rattle.swh_base.proofs.Elementary.{all_as}
use Rattle.swh_object.specs.Object.{IsObject}
use Rattle.swh_model.specs.Meaning.{Made}
use Rattle.swh_dedup.specs.Making.{made_from, made, name_of, names_of_made}
use Rattle.swh_dedup.specs.Giving.{AreNew, IsReady, AreReady, Gives}
use Rattle.swh_dedup.specs.Seen.{Adds}
use Rattle.swh_dedup.specs.declared.seen.Novelty.{Novelty}
use Rattle.swh_dedup.specs.declared.seen.Novelty.TheVariants.{New, Known}
use Rattle.swh_dedup.proofs.Elements.{contains_map, from_map, all_push}

-- Each of the first is one of the others.
abbrev pub AreAlso : List Made → List Made → Type 0
AreAlso before after = (m : Made) → Contains before m → Contains after m

module _ (id : Kind → List ℕ → List ℕ) where
  pub more_names : (before after : List Made) (n : Name) → AreAlso before after → Contains (names_of_made id before) n → Contains (names_of_made id after) n
  more_names before after n sub c =
      let f = from_map (name_of id) before n c in
      subst (λ (t : Name). Contains (names_of_made id after) t) f.2 (contains_map (name_of id) after f.0 (sub f.0 f.1))

  pub ready_more : (before after : List Made) (m : Made) → AreAlso before after → IsReady id before m → IsReady id after m
  ready_more before after m sub h ids kids c =
      all_as (Contains (names_of_made id before)) (Contains (names_of_made id after)) (λ n. more_names before after n sub) kids (h (λ k q. ids k (sub k q)) kids c)

  -- what is ready after those before it
  pub ready_at : (before ms : List Made) (i : ℕ) (d : Made) → AreReady id before ms → i < length ms → IsReady id (before ++ take i ms) (get_or ms i d)
  ready_at before [] i d h l = absurd (omega arith)
  ready_at before (m ∷ ms) zero d h l = subst (λ (t : List Made). IsReady id t m) (sym (append-nil before)) h.0
  ready_at before (m ∷ ms) (suc i) d h l =
      subst (λ (t : List Made). IsReady id t (get_or ms i d)) (append_assoc before (m ∷ []) (take i ms)) (ready_at (before ++ m ∷ []) ms i d h.1 (omega arith))

  pub ready_append : (before ms ns : List Made) → AreReady id before ms → AreReady id (before ++ ms) ns → AreReady id before (ms ++ ns)
  ready_append before [] ns h k = subst (λ (t : List Made). AreReady id t ns) (append-nil before) k
  ready_append before (m ∷ ms) ns h k =
      (h.0, ready_append (before ++ m ∷ []) ms ns h.1 (subst (λ (t : List Made). AreReady id t ns) (sym (append_assoc before (m ∷ []) ms)) k))

  pub new_push : (before : List Made) (es : List Entry) (e : Entry) → AreNew id before es → (Contains (before ++ made es) (made_from e) → ⊥) → IsObject id e → AllByRecursion (Contains (names_of_made id (before ++ made es))) e.kids → AreNew id before (es ++ e ∷ [])
  new_push before [] e h new is kids =
      let same = append-nil before in
      ((λ c. new (subst (λ (t : List Made). Contains t (made_from e)) (sym same) c)), is, subst (λ (t : List Made). AllByRecursion (Contains (names_of_made id t)) e.kids) same kids, tt)
  new_push before (f ∷ es) e h new is kids =
      let same = append_assoc before (made_from f ∷ []) (made es) in (
        h.0,
        h.1,
        h.2,
        new_push (before ++ made_from f ∷ []) es e h.3
            (λ c. new (subst (λ (t : List Made). Contains t (made_from e)) same c)) is
            (subst (λ (t : List Made). AllByRecursion (Contains (names_of_made id t)) e.kids) (sym same) kids),
      )

  module _ (ms old seen : List Made) (out : List Entry) (e : Entry) where
    pub gives_known : Gives id ms old seen out → Contains seen (made_from e) → Gives id (ms ++ made_from e ∷ []) old seen out
    gives_known g there = record {
      given = g.given;
      each = all_as (λ (f : Entry). Contains ms (made_from f)) (λ (f : Entry). Contains (ms ++ made_from e ∷ []) (made_from f)) (λ f. Contains-append_left ms (made_from e ∷ []) (made_from f)) out g.each;
      all = λ m c. by_place m (Contains-push_cases ms (made_from e) m c);
      fresh = g.fresh;
      ids = g.ids;
    }
      where
        by_place : (m : Made) → Contains ms m ⊎ (made_from e ≡ m) → Contains seen m
        by_place m (inl c) = g.all m c
        by_place m (inr s) = subst (λ (t : Made). Contains seen t) s there

    pub gives_new : (new : List Made) → Gives id ms old seen out → (Contains seen (made_from e) → ⊥) → new ≡ seen ++ made_from e ∷ [] → IsReady id seen (made_from e) → IsObject id e → IsId (id e.name.kind e.body) → Gives id (ms ++ made_from e ∷ []) old new (out ++ e ∷ [])
    gives_new new g absent added ready is own = record {
      given = added ∙ ap (λ (t : List Made). t ++ made_from e ∷ []) g.given ∙ append_assoc old (made out) (made_from e ∷ []) ∙ ap (λ (t : List Made). old ++ t) (sym (map-append made_from out (e ∷ [])));
      each = all_push (λ (f : Entry). Contains (ms ++ made_from e ∷ []) (made_from f)) out e
          (all_as (λ (f : Entry). Contains ms (made_from f)) (λ (f : Entry). Contains (ms ++ made_from e ∷ []) (made_from f)) (λ f. Contains-append_left ms (made_from e ∷ []) (made_from f)) out g.each)
          (Contains-push ms (made_from e));
      all = λ m c. subst (λ (t : List Made). Contains t m) (sym added) (by_place m (Contains-push_cases ms (made_from e) m c));
      fresh = new_push old out e g.fresh (λ c. absent (subst (λ (t : List Made). Contains t (made_from e)) (sym g.given) c)) is
          (subst (λ (t : List Made). AllByRecursion (Contains (names_of_made id t)) e.kids) g.given (ready g.ids e.kids is.kids));
      ids = λ m c. by_id m (Contains-push_cases seen (made_from e) m (subst (λ (t : List Made). Contains t m) added c));
    }
      where
        by_place : (m : Made) → Contains ms m ⊎ (made_from e ≡ m) → Contains (seen ++ made_from e ∷ []) m
        by_place m (inl c) = Contains-append_left seen (made_from e ∷ []) m (g.all m c)
        by_place m (inr s) = subst (λ (t : Made). Contains (seen ++ made_from e ∷ []) t) s (Contains-push seen (made_from e))

        by_id : (m : Made) → Contains seen m ⊎ (made_from e ≡ m) → IsId (id m.kind m.body)
        by_id m (inl c) = g.ids m c
        by_id m (inr s) = subst (λ (t : Made). IsId (id t.kind t.body)) s own

    pub gives_as_known : (new : List Made) (told : Novelty) → told ≡ Known → Adds seen (made_from e) new told → Gives id ms old seen out → Gives id (ms ++ made_from e ∷ []) old new out
    gives_as_known new told t a g =
        let k = subst (Adds seen (made_from e) new) t a in
        subst (λ (n : List Made). Gives id (ms ++ made_from e ∷ []) old n out) (sym k.1) (gives_known g k.0)

    pub gives_as_new : (new : List Made) (told : Novelty) (after : List Entry) → told ≡ New → Adds seen (made_from e) new told → Gives id ms old seen out → IsReady id seen (made_from e) → IsObject id e → IsId (id e.name.kind e.body) → after ≡ out ++ e ∷ [] → Gives id (ms ++ made_from e ∷ []) old new after
    gives_as_new new told after t a g ready is own pushed =
        let k = subst (Adds seen (made_from e) new) t a in
        subst (λ (es : List Entry). Gives id (ms ++ made_from e ∷ []) old new es) (sym pushed) (gives_new new g k.0 k.1 ready is own)

  module _ (old seen : List Made) (objects out : List Entry) (yielded : List Entry) (x : Entry) where
    -- the next of several is ready
    pub next_ready : AreReady id old (made objects) → length yielded < length objects → x ≡ get_or objects (length yielded) x → Gives id (made (take (length yielded) objects)) old seen out → IsReady id seen (made_from x)
    next_ready ready l is g =
        let n = length yielded in
        let here : get_or (made objects) n (made_from x) ≡ made_from x = get_or-map made_from objects n x (made_from x) l ∙ ap made_from (sym is) in
        ready_more (old ++ take n (made objects)) seen (made_from x)
        (λ m c. by_place m (Contains-append_cases old (take n (made objects)) m c))
        (subst (IsReady id (old ++ take n (made objects))) here (ready_at old (made objects) n (made_from x) ready (omega (arith, length-map objects made_from))))
      where
        by_place : (m : Made) → Contains old m ⊎ Contains (take (length yielded) (made objects)) m → Contains seen m
        by_place m (inl c) = subst (λ (t : List Made). Contains t m) (sym g.given) (Contains-append_left old (made out) m c)
        by_place m (inr c) = g.all m (subst (λ (t : List Made). Contains t m) (take-map made_from (length yielded) objects) c)

    pub next_given : (new : List Made) (after : List Entry) → length yielded < length objects → x ≡ get_or objects (length yielded) x → Gives id (made (take (length yielded) objects) ++ made_from x ∷ []) old new after → Gives id (made (take (length (yielded ++ x ∷ [])) objects)) old new after
    next_given new after l is g =
        let n = length yielded in
        let same : made (take (length (yielded ++ x ∷ [])) objects) ≡ made (take n objects) ++ made_from x ∷ [] =
        ap (λ (k : ℕ). made (take k objects)) (length_push yielded x) ∙ ap made (take_more objects n x l) ∙ map-append made_from (take n objects) (get_or objects n x ∷ [])
        ∙ ap (λ (e : Entry). made (take n objects) ++ made_from e ∷ []) (sym is) in
        subst (λ (t : List Made). Gives id t old new after) (sym same) g
