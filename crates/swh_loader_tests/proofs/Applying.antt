-- What is applied after others may have added something.
use Rattle.std.proofs.Common.{◌≡◌, ◌==◌, ℕ, ◌+◌, false, true, cond, List, [], ◌∷◌, ◌++◌, refl, sym, ap, ◌∙◌, subst, arith}
use Rattle.swh_base.specs.declared.kind.Kind.{Kind}
use Rattle.swh_outside.specs.Views.{Disks}
use Rattle.swh_model.specs.declared.event.Event.{Event}
use Rattle.swh_model.specs.declared.event.Wish.{Wish}
use Rattle.swh_model.specs.declared.event.Outcome.{Outcome}
use Rattle.swh_keeper.specs.Kept.{Kept}
use Rattle.swh_ingest.specs.declared.refusal.Refusal.{Refusal}
use Rattle.swh_ingest.specs.declared.refusal.Refusal.TheVariants as refusal
use Rattle.swh_ingest.specs.Knowing.{Follows, CarriesOut, RefusesPlan, IsAgainst}
use Rattle.swh_ingest.proofs.Growing.{follows_self, follows_alone}
use Rattle.swh_keeperload.specs.Alone.{alone_protocol}
use Rattle.swh_loader_tests.specs.Sharing.{this, made_in, IsOthers, shared_protocol}

made-push : (h : List Event) (e : Event) → made_in (h ++ e ∷ []) ≡ made_in h + made_in (e ∷ [])
made-push [] e = omega arith
made-push (x ∷ h) e = let rest = made-push h e in omega (arith, rest)

own_one : (e : Event) → e.by ≡ this → made_in (e ∷ []) ≡ 1
own_one e is = ap (λ (n : ℕ). cond (n == this) 1 0 + 0) is

other_none : (e : Event) → e.by ≡ 1 → made_in (e ∷ []) ≡ 0
other_none e is = ap (λ (n : ℕ). cond (n == this) 1 0 + 0) is

module _ {D : Type 0} (id : Kind → List ℕ → List ℕ) (disks : Disks D) where
  -- the other loader's plan was carried out, or refused
  pub others_one : (wish : Wish) (a b : Kept D) (outcome : Outcome) → CarriesOut id (alone_protocol id disks 1) wish a b outcome → IsOthers id a b
  others_one wish a b outcome c =
      let by_one : c.event.by ≡ 1 = ap (λ (e : Event). e.by) c.verdict.1 in
      let base : c.base ≡ a.history = follows_alone id true a.history c.base c.follows refl in
      let front : b.history ≡ a.history ++ c.event ∷ [] = c.front ∙ ap (λ (t : List Event). t ++ c.event ∷ []) base in record {
        follows = record { gap = c.event ∷ []; behind = front; may = c.adds.may; quiet = λ one. absurd (let e : false ≡ true = one in cc) };
        made = let e = ap made_in front in let f = made-push a.history c.event in let z = other_none c.event by_one in omega (arith, e, f, z);
      }

  pub others_refused : (wish : Wish) (a b : Kept D) (r : Refusal) → RefusesPlan id (alone_protocol id disks 1) wish a b r → IsOthers id a b
  others_refused wish a b r h =
      let same : b.history ≡ a.history = follows_alone id true a.history b.history h.follows refl in
      record { follows = subst (Follows id false a.history) (sym same) (follows_self id false a.history); made = ap made_in same }

  module _ {S : Type 0} (at : S → Kept D) (wish : Wish) (s t : S) (m : Kept D) (others : IsOthers id (at s) m) where
    pub carried_shared : (outcome : Outcome) → CarriesOut id (alone_protocol id disks this) wish m (at t) outcome → CarriesOut id (shared_protocol id at) wish s t outcome
    carried_shared outcome c =
        let base : c.base ≡ m.history = follows_alone id true m.history c.base c.follows refl in
        let before : Follows id false (at s).history c.base = subst (Follows id false (at s).history) (sym base) others.follows in
        let by_this : c.event.by ≡ this = ap (λ (e : Event). e.by) c.verdict.1 in record {
          base = c.base;
          follows = before;
          event = c.event;
          verdict = c.verdict;
          may = c.may;
          front = c.front;
          adds = record {
            runs = (c.base, before, c.may, subst (Follows id false (c.base ++ c.event ∷ [])) (sym c.front) (follows_self id false (c.base ++ c.event ∷ [])));
            made = let e = ap made_in c.front in let f = made-push c.base c.event in let z = own_one c.event by_this in let b = ap made_in base in let o = others.made in omega (arith, e, f, z, b, o);
            unwounded = c.adds.unwounded;
          };
        }

    same_there : (r : Refusal) → RefusesPlan id (alone_protocol id disks this) wish m (at t) r → (at t).history ≡ m.history
    same_there r h = follows_alone id true m.history (at t).history h.follows refl

    follows_there : (r : Refusal) → RefusesPlan id (alone_protocol id disks this) wish m (at t) r → Follows id false (at s).history (at t).history
    follows_there r h = subst (Follows id false (at s).history) (sym (same_there r h)) others.follows

    against_there : (r : Refusal) → RefusesPlan id (alone_protocol id disks this) wish m (at t) r → IsAgainst id (shared_protocol id at) wish s t r
    against_there (refusal.No cause) h = (
      h.against.0,
      record {
        runs = follows_there (refusal.No cause) h;
        made = let e = ap made_in (same_there (refusal.No cause) h) in let o = others.made in omega (arith, e, o);
        unwounded = h.against.1.unwounded;
      },
    )
    against_there refusal.DiskFault h = tt
    against_there refusal.Wounded h = tt
    against_there (refusal.Memory stands) h = tt

    pub refused_shared : (r : Refusal) → RefusesPlan id (alone_protocol id disks this) wish m (at t) r → RefusesPlan id (shared_protocol id at) wish s t r
    refused_shared r h = record {
      against = against_there r h;
      follows = follows_there r h;
      number = refl;
      made = let e = ap made_in (same_there r h) in let o = others.made in let z = h.seen refl in omega (arith, e, o, z);
      seen = λ one. absurd (let e : false ≡ true = one in cc);
      fails = tt;
    }
