-- The device calls of events, one stretch after another.
use Rattle.std.proofs.Common.{◌≡◌, ℕ, None, List, [], ◌++◌, refl, sym, ap, ◌∙◌, subst}
use Rattle.std.proofs.lemmas.List.{append-nil}
use Rattle.std.proofs.lemmas.Option.{none-some}
use Rattle.swh_base.specs.declared.kind.Kind.{Kind}
use Rattle.swh_outside.specs.Disk.{File}
use Rattle.swh_outside.specs.Files.{Files, FileCall, FilesBreaks, files_done}
use Rattle.swh_outside.proofs.Numbered.{files_done-append}
use Rattle.swh_model.specs.declared.event.Event.{Event}
use Rattle.swh_segment.specs.Calls.{calls_for, all_calls}
use Rattle.swh_segment.specs.Moments.{BreaksAtEvent}
use Rattle.swh_segment.proofs.Moments.{all_calls-append}
use Rattle.swh_keeper.specs.Calls.{kept_files, MakesCallsOf, MakesCalls}
use Rattle.swh_keeper.specs.Kept.{Kept}

module _ {D : Type 0} (id : Kind → List ℕ → List ℕ) (file : D → File) where
  -- of a keeper that is as it was
  pub same_calls : (P : Event → Type 0) (old new : Kept D) → new ≡ old → MakesCallsOf id file P [] old new
  same_calls P old new same = record {
    made = λ _. ap (kept_files file) same;
    broken = λ none n some. absurd (none-some n (sym none ∙ ap (λ (k : Kept D). k.wounded) (sym same) ∙ some));
  }

  pub calls_none : (P : Event → Type 0) (old new : Kept D) → new ≡ old → MakesCalls id file P old new
  calls_none P old new same = record {
    more = [];
    behind = ap (λ (k : Kept D). k.history) same ∙ sym (append-nil old.history);
    calls = same_calls P old new same;
  }

  pub breaks_as : (P Q : Event → Type 0) (h h' : List Event) (x y new : Files) → ((e : Event) → P e → Q e) → h' ≡ h → x ≡ y → BreaksAtEvent id P h x new → BreaksAtEvent id Q h' y new
  breaks_as P Q h h' x y new f same files b =
      subst (λ (t : List Event). BreaksAtEvent id Q t y new) (sym same) (record {
        event = b.event;
        next = f b.event b.next;
        may = b.may;
        codable = b.codable;
        breaks = subst (λ (t : Files). FilesBreaks (calls_for h b.event) t new) files b.breaks;
      })

  -- where more events may come next
  pub of_as : (P Q : Event → Type 0) (more : List Event) (old new : Kept D) → ((e : Event) → P e → Q e) → MakesCallsOf id file P more old new → MakesCallsOf id file Q more old new
  of_as P Q more old new f c = record { made = c.made; broken = λ none n some. breaks_as P Q new.history new.history _ _ (kept_files file new) f refl refl (c.broken none n some) }

  -- one stretch and then another
  pub of_further : (R P Q : Event → Type 0) (xs ys : List Event) (a b c : Kept D) → ((e : Event) → P e → Q e) → a.wounded ≡ None → b.wounded ≡ None → b.history ≡ a.history ++ xs
      → MakesCallsOf id file R xs a b → MakesCallsOf id file P ys b c → MakesCallsOf id file Q (xs ++ ys) a c
  of_further R P Q xs ys a b c f old mid behind h k =
      let first : kept_files file b ≡ files_done (all_calls a.history xs) (kept_files file a) = h.made (mid ∙ sym old) in
      let plan : all_calls a.history xs ++ all_calls b.history ys ≡ all_calls a.history (xs ++ ys) =
      ap (λ (t : List Event). all_calls a.history xs ++ all_calls t ys) behind ∙ sym (all_calls-append a.history xs ys) in
      let both : files_done (all_calls b.history ys) (kept_files file b) ≡ files_done (all_calls a.history (xs ++ ys)) (kept_files file a) =
      ap (files_done (all_calls b.history ys)) first ∙ sym (files_done-append (all_calls a.history xs) (all_calls b.history ys) (kept_files file a)) ∙ ap (λ (p : List FileCall). files_done p (kept_files file a)) plan in
      record {
        made = λ as_before. k.made (as_before ∙ old ∙ sym mid) ∙ both;
        broken = λ none n some. breaks_as P Q c.history c.history (files_done (all_calls b.history ys) (kept_files file b)) (files_done (all_calls a.history (xs ++ ys)) (kept_files file a)) (kept_files file c) f refl both (k.broken mid n some);
      }
