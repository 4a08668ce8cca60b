-- A whole stream in its parts.
use Rattle.std.proofs.Common.{◌≡◌, ℕ, List, [], ◌++◌, refl, sym, ap, ◌∙◌, subst, codes}
use Rattle.std.specs.Prelude.{Result}
use Rattle.std.proofs.lemmas.List.{append-nil}
use Rattle.std.proofs.lemmas.Result.{on_ok_weaker, IfErr-weaker}
use Rattle.swh_base.specs.declared.name.Name.{Name}
use Rattle.swh_model.specs.Archive.{Bodies}
use Rattle.swh_fastwrite.specs.Held.{AddsUp, Kept, kept, Goes, WroteSome}
use Rattle.swh_fastwrite.proofs.Pieces.{goes_both, front_behind, front_more}
use Rattle.swh_fastcook.specs.Ends.{IsEnd}
use Rattle.swh_fastcook.specs.Stream.{AreObjectTexts, IsStreamText}
use Rattle.swh_fastcook.proofs.EndTexts.{one_end}
use Rattle.swh_fastcook.proofs.ObjectTexts.{one_texts}

abbrev pub first_line : List ℕ
first_line = codes "feature done\n"

module _ (bodies : Bodies) (order : List Name) (root : Name) where
  -- the parts behind the first line
  pub record Parts (text : List ℕ) : Type 0 where
    pub objects : List ℕ
    pub are_objects : AreObjectTexts bodies order order objects
    pub end : List ℕ
    pub is_end : IsEnd bodies order root end
    pub is : text ≡ first_line ++ (objects ++ end)

  pub parts_of : (text : List ℕ) → IsStreamText bodies order root text → Parts text
  parts_of text s = record {
    objects = s.objects;
    are_objects = s.are_objects;
    end = s.tips ++ (s.last ++ codes "done\n");
    is_end = record { tips = s.tips; are_tips = s.are_tips; last = s.last; is_last = s.is_last; is = refl };
    is = s.is;
  }

  -- there is one such text
  pub one_stream : (a b : List ℕ) → IsStreamText bodies order root a → IsStreamText bodies order root b → a ≡ b
  one_stream a b h k =
      let p = parts_of a h in
      let q = parts_of b k in
      p.is ∙ ap (λ (t : List ℕ). first_line ++ (t ++ p.end)) (one_texts bodies order order p.objects q.objects p.are_objects q.are_objects)
      ∙ ap (λ (t : List ℕ). first_line ++ (q.objects ++ t)) (one_end bodies order root p.end q.end p.is_end q.is_end) ∙ sym q.is

  pub of_parts : (objects end : List ℕ) → AreObjectTexts bodies order order objects → IsEnd bodies order root end → IsStreamText bodies order root (first_line ++ (objects ++ end))
  of_parts objects end are e = record {
    objects = objects;
    are_objects = are;
    tips = e.tips;
    are_tips = e.are_tips;
    last = e.last;
    is_last = e.is_last;
    is = ap (λ (t : List ℕ). first_line ++ (objects ++ t)) e.is;
  }

  module _ {T : Type 0} (takes front : T → List ℕ → T → Type 0) (sums : AddsUp takes front) (old a : Kept T) (goes : Goes takes front old first_line a) where
    -- the objects were broken off
    pub objects_broke : (new : T) → ((t : List ℕ) → AreObjectTexts bodies order order t → front a.taker (a.held ++ t) new) → (text : List ℕ) → IsStreamText bodies order root text → front old.taker (old.held ++ text) new
    objects_broke new fails text s =
        let p = parts_of text s in
        subst (λ (l : List ℕ). front old.taker (old.held ++ l) new) (sym p.is)
        (front_behind takes front sums old a new first_line (p.objects ++ p.end) goes (front_more takes front sums a new p.objects p.end (fails p.objects p.are_objects)))

    module _ (b : Kept T) (objects : List ℕ) (are : AreObjectTexts bodies order order objects) (more : Goes takes front a objects b) where
      end_broke : (new : T) → ((t : List ℕ) → IsEnd bodies order root t → front b.taker (b.held ++ t) new) → (text : List ℕ) → IsStreamText bodies order root text → front old.taker (old.held ++ text) new
      end_broke new fails text s =
          let p = parts_of text s in
          subst (λ (l : List ℕ). front old.taker (old.held ++ l) new) (sym (p.is ∙ ap (λ (t : List ℕ). first_line ++ (t ++ p.end)) (one_texts bodies order order p.objects objects p.are_objects are)))
          (front_behind takes front sums old a new first_line (objects ++ p.end) goes (front_behind takes front sums a b new objects p.end more (fails p.end p.is_end)))

      end_done : (new : Kept T) → (t : List ℕ) × IsEnd bodies order root t × Goes takes front b t new → (text : List ℕ) × IsStreamText bodies order root text × Goes takes front old text new
      end_done new (t, is, g) = (
        first_line ++ (objects ++ t),
        of_parts objects t are is,
        goes_both takes front sums old a new first_line (objects ++ t) goes (goes_both takes front sums a b new objects t more g),
      )

      -- the end comes behind the objects
      pub stream_wrote : {A E : Type 0} (new : Kept T) (result : Result A E) → WroteSome takes front b (IsEnd bodies order root) new result → WroteSome takes front old (IsStreamText bodies order root) new result
      stream_wrote new result w = record {
        ok = on_ok_weaker result (end_done new) w.ok;
        err = IfErr-weaker result (λ _. (t : List ℕ) → IsEnd bodies order root t → front b.taker (b.held ++ t) new.taker) (λ _. (text : List ℕ) → IsStreamText bodies order root text → front old.taker (old.held ++ text) new.taker)
            (λ _ fails. end_broke new.taker fails) w.err;
      }

module _ {T : Type 0} (takes front : T → List ℕ → T → Type 0) (sums : AddsUp takes front) (old : T) (mid : Kept T) (text : List ℕ) (goes : Goes takes front (kept old []) text mid) where
  -- what is held at last is taken
  pub all_taken : (new : Kept T) → Goes takes front mid [] new → new.held ≡ [] → takes old text new.taker
  all_taken new g none =
      let all = goes_both takes front sums (kept old []) mid new text [] goes g in
      subst (λ (t : List ℕ). takes old t new.taker)
      (sym (sym (append-nil text) ∙ all.is ∙ ap (λ (l : List ℕ). all.taken ++ l) none ∙ append-nil all.taken)) all.took

  pub rest_broke : (new : T) → front mid.taker (mid.held ++ []) new → front old text new
  rest_broke new f =
      subst (λ (t : List ℕ). front old t new) (append-nil text) (front_behind takes front sums (kept old []) mid new text [] goes f)
