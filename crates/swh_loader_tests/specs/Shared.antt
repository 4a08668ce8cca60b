-- That a keeper to which another loader adds is a destination.
use Rattle.std.proofs.Common.{◌≡◌, ℕ, false, true, None, List, [], ◌∷◌, ◌++◌, refl, ap, ◌∙◌, subst, arith, append_assoc, length-append}
use Rattle.swh_base.specs.declared.kind.Kind.{Kind}
use Rattle.swh_model.specs.declared.event.Event.{Event}
use Rattle.swh_model.specs.Archive.{Archive}
use Rattle.swh_model.specs.Step.{MayAll, replay}
use Rattle.swh_keeper.specs.Kept.{Kept}
use Rattle.swh_ingest.specs.Knowing.{Follows, Runs, IsLawful}
use Rattle.swh_ingest.proofs.Growing.{replay-append, follows_self, may-append}
use Rattle.swh_loader_tests.specs.Sharing.{AddsAmong, shared_protocol}

pub follows_then : (id : Kind → List ℕ → List ℕ) (f g h : List Event) → Follows id false f g → Follows id false g h → Follows id false f h
follows_then id f g h a b = record {
  gap = a.gap ++ b.gap;
  behind = b.behind ∙ ap (λ (t : List Event). t ++ b.gap) a.behind ∙ append_assoc f a.gap b.gap;
  may = may-append id false (replay f) a.gap b.gap a.may (subst (λ (x : Archive). MayAll id x b.gap) (ap replay a.behind ∙ replay-append f a.gap) b.may);
  quiet = λ one. absurd (let e : false ≡ true = one in cc);
}

runs_after : (id : Kind → List ℕ → List ℕ) (f g : List Event) (own h : List Event) → Follows id false f g → Runs id false g own h → Runs id false f own h
runs_after id f g [] h a r = follows_then id f g h a r
runs_after id f g (e ∷ own) h a r = (r.0, follows_then id f g r.0 a r.1, r.2, r.3)

runs_then : (id : Kind → List ℕ → List ℕ) (g xs h ys k : List Event) → Runs id false g xs h → Runs id false h ys k → Runs id false g (xs ++ ys) k
runs_then id g [] h ys k r s = runs_after id g h ys k r s
runs_then id g (e ∷ xs) h ys k r s = (r.0, r.1, r.2, runs_then id (r.0 ++ e ∷ []) xs h ys k r.3 s)

module _ {D : Type 0} (id : Kind → List ℕ → List ℕ) where
  pub shared_none : (k : Kept D) → k.wounded ≡ None → AddsAmong id [] k k
  shared_none k unwounded = record { runs = follows_self id false k.history; made = omega arith; unwounded = unwounded }

  further : (xs ys : List Event) (a b c : Kept D) → AddsAmong id xs a b → AddsAmong id ys b c → AddsAmong id (xs ++ ys) a c
  further xs ys a b c h k = record {
    runs = runs_then id a.history xs b.history ys c.history h.runs k.runs;
    made = let x = h.made in let y = k.made in let l = length-append xs ys in omega (arith, x, y, l);
    unwounded = k.unwounded;
  }

  pub shared_lawful : {S : Type 0} (at : S → Kept D) → IsLawful id (shared_protocol id at)
  shared_lawful at = record {
    none = λ s ready. shared_none (at s) ready;
    further = λ xs ys a b c h k. further xs ys (at a) (at b) (at c) h k;
    ready = λ xs a b h. h.unwounded;
    grows = λ xs a b h. record { runs = h.runs; number = refl; made = h.made };
  }
