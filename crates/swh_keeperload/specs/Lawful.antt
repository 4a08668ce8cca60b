-- That a keeper is a destination.
use Rattle.std.proofs.Common.{◌≡◌, ℕ, true, None, List, [], ◌∷◌, ◌++◌, length, refl, sym, ap, ◌∙◌, subst, append_assoc, length-append, le_refl, le_trans}
use Rattle.std.proofs.lemmas.List.{append-nil}
use Rattle.swh_base.specs.declared.kind.Kind.{Kind}
use Rattle.swh_outside.specs.Files.{FileCall, files_done}
use Rattle.swh_outside.specs.Views.{Disks}
use Rattle.swh_outside.proofs.Numbered.{files_done-append}
use Rattle.swh_model.specs.declared.event.Event.{Event}
use Rattle.swh_model.specs.Archive.{Archive}
use Rattle.swh_model.specs.Step.{MayAll, replay}
use Rattle.swh_segment.specs.Calls.{all_calls}
use Rattle.swh_segment.proofs.Moments.{all_calls-append}
use Rattle.swh_keeper.specs.Calls.{kept_files}
use Rattle.swh_keeper.specs.Kept.{Kept}
use Rattle.swh_ingest.specs.Knowing.{Runs, Grows, IsLawful}
use Rattle.swh_ingest.proofs.Growing.{replay-append, follows_self, may-append}
use Rattle.swh_keeperload.specs.Alone.{AddsOn, known_of, alone_protocol}

runs_of : (id : Kind → List ℕ → List ℕ) (g own : List Event) → MayAll id (replay g) own → Runs id true g own (g ++ own)
runs_of id g [] may = subst (λ (h : List Event). Runs id true g [] h) (sym (append-nil g)) (follows_self id true g)
runs_of id g (e ∷ own) may = (
  g,
  follows_self id true g,
  may.0,
  subst (λ (h : List Event). Runs id true (g ++ e ∷ []) own h) (append_assoc g (e ∷ []) own)
      (runs_of id (g ++ e ∷ []) own (subst (λ (x : Archive). MayAll id x own) (sym (replay-append g (e ∷ []))) may.1)),
)

module _ {D : Type 0} (id : Kind → List ℕ → List ℕ) (disks : Disks D) (by : ℕ) where
  pub none : (k : Kept D) → k.wounded ≡ None → AddsOn id disks [] k k
  none k unwounded = record {
    behind = sym (append-nil k.history);
    may = tt;
    before_it = unwounded;
    unwounded = unwounded;
    store_later = le_refl (disks.faults k.store);
    ledger_later = le_refl (disks.faults k.ledger);
    calls = λ told. refl;
  }

  further : (xs ys : List Event) (a b c : Kept D) → AddsOn id disks xs a b → AddsOn id disks ys b c → AddsOn id disks (xs ++ ys) a c
  further xs ys a b c h k = record {
    behind = k.behind ∙ ap (λ (t : List Event). t ++ ys) h.behind ∙ append_assoc a.history xs ys;
    may = may-append id true (replay a.history) xs ys h.may (subst (λ (x : Archive). MayAll id x ys) (ap replay h.behind ∙ replay-append a.history xs) k.may);
    before_it = h.before_it;
    unwounded = k.unwounded;
    store_later = le_trans h.store_later k.store_later;
    ledger_later = le_trans h.ledger_later k.ledger_later;
    calls = λ told. k.calls told
        ∙ ap (files_done (all_calls b.history ys)) (h.calls told)
        ∙ sym (files_done-append (all_calls a.history xs) (all_calls b.history ys) (kept_files disks.file a))
        ∙ ap (λ (plan : List FileCall). files_done plan (kept_files disks.file a)) (ap (λ (t : List Event). all_calls a.history xs ++ all_calls t ys) h.behind ∙ sym (all_calls-append a.history xs ys));
  }

  grows : (xs : List Event) (a b : Kept D) → AddsOn id disks xs a b → Grows id true xs (known_of id disks by a) (known_of id disks by b)
  grows xs a b h = record {
    runs = subst (λ (t : List Event). Runs id true a.history xs t) (sym h.behind) (runs_of id a.history xs h.may);
    number = refl;
    made = ap length h.behind ∙ length-append a.history xs;
  }

  pub alone_lawful : IsLawful id (alone_protocol id disks by)
  alone_lawful = record {
    none = none;
    further = further;
    ready = λ xs a b h. h.unwounded;
    grows = grows;
  }
