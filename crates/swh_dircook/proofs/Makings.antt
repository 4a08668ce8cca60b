-- What is made piece by piece.
use Rattle.std.proofs.Common.{◌≡◌, inl, inr, ℕ, List, [], ◌∷◌, ◌++◌, take, Result, refl, sym, ap, ◌∙◌, subst, append_assoc}
use Rattle.std.specs.Prelude.{IsErr, ⊤}
use Rattle.std.proofs.lemmas.List.{append-nil}
use Rattle.std.proofs.lemmas.Grind.{flat_map-append}
use Rattle.std.proofs.lemmas.Result.{IfOk-from_err, MatchResult-from_err, on_ok_weaker, IfErr-weaker}
use Rattle.swh_outside.specs.Sink.{Begun, FolderAt}
use Rattle.swh_model.specs.Archive.{Bodies}
use Rattle.swh_pathwalk.specs.Tree.{Row}
use Rattle.swh_pathwalk.specs.Walk.{Coming}
use Rattle.swh_pathwalk.specs.Held.{IsAt}
use Rattle.swh_dircook.specs.Made.{Made, FolderMade, FileMade, yarded, made_of, all_made, Yarded, with_made, after_made, MakesSome, Makes}
use Rattle.swh_dircook.proofs.YardParts.{same_yarded}

pub after_both : (y : Yarded) (xs ys : List Made) → after_made y (xs ++ ys) ≡ after_made (after_made y xs) ys
after_both y [] ys = refl
after_both y (x ∷ xs) ys = after_both (with_made y x) xs ys

-- nothing of what is behind was made
pub some_at : (old new : Yarded) (xs ys : List Made) → new ≡ after_made old xs → MakesSome old (xs ++ ys) new
some_at old new xs ys is = record { some = xs; front = record { before = xs; behind = ys; cut = refl; is = inl refl }; is = is }

-- a front of what is behind was made
pub some_behind : (old mid new : Yarded) (xs ys zs : List Made) → mid ≡ after_made old xs → MakesSome mid ys new → MakesSome old (xs ++ (ys ++ zs)) new
some_behind old mid new xs ys zs at m =
    let f = m.front in
    record {
      some = xs ++ m.some;
      front = record {
        before = xs ++ f.before;
        behind = f.behind ++ zs;
        cut = ap (λ (l : List Made). xs ++ l) (ap (λ (l : List Made). l ++ zs) f.cut ∙ append_assoc f.before f.behind zs) ∙ sym (append_assoc xs f.before (f.behind ++ zs));
        is =
            elim f.is [
              | inl whole ↦ inl (ap (λ (l : List Made). xs ++ l) whole)
              | inr part ↦
                  inr (
                    part.0,
                    part.1,
                    part.2,
                    part.3 ++ zs,
                    ap (λ (l : List Made). l ++ zs) part.4,
                    ap (λ (l : List Made). xs ++ l) part.5 ∙ sym (append_assoc xs f.before (FileMade part.0 (take part.2 part.1) ∷ [])),
                  )
            ];
      };
      is = m.is ∙ ap (λ (y : Yarded). after_made y m.some) at ∙ sym (after_both old xs m.some);
    }

-- ---- what was broken off

pub made_some : {T E : Type 0} (tells : Type 0) (old : Yarded) (all : List Made) (new : Yarded) (result : Result T E) → IsErr result → (tells → MakesSome old all new) → Makes tells old all new result
made_some tells old all new result is_err some = record {
  ok = λ _. IfOk-from_err result (λ _. new ≡ after_made old all) is_err;
  err = λ told. MatchResult-from_err result (λ _. ⊤) (λ _. MakesSome old all new) is_err (λ _. some told);
}

-- one more is made behind what was made
pub makes_behind : {T E : Type 0} (tells : Type 0) (old mid new : Yarded) (xs ys : List Made) (result : Result T E) → (tells → mid ≡ after_made old xs) → Makes tells mid ys new result → Makes tells old (xs ++ ys) new result
makes_behind tells old mid new xs ys result at makes = record {
  ok = λ told.
      on_ok_weaker result
      (λ (is : new ≡ after_made mid ys). is ∙ ap (λ (y : Yarded). after_made y ys) (at told) ∙ sym (after_both old xs ys)) (makes.ok told);
  err = λ told.
      IfErr-weaker result (λ _. MakesSome mid ys new) (λ _. MakesSome old (xs ++ ys) new)
      (λ _ some. subst (λ (l : List Made). MakesSome old (xs ++ l) new) (append-nil ys) (some_behind old mid new xs ys [] (at told) some)) (makes.err told);
}

-- ---- the folder itself

pub after_folder : (begun begun_now : List Begun) (taken taken_now out : List ℕ) → begun_now ≡ begun ++ FolderAt out ∷ [] → taken_now ≡ taken → yarded begun_now taken_now ≡ after_made (yarded begun taken) (FolderMade out ∷ [])
after_folder begun begun_now taken taken_now out made same = same_yarded begun_now (begun ++ FolderAt out ∷ []) taken_now taken made same

pub after_rows : (old first mid : Yarded) (out : List ℕ) (rows : List Made) → first ≡ after_made old (FolderMade out ∷ []) → mid ≡ after_made first rows → mid ≡ after_made old (FolderMade out ∷ rows)
after_rows old first mid out rows made is = is ∙ ap (λ (y : Yarded). after_made y rows) made

-- ---- rows

module _ (bodies : Bodies) (out : List ℕ) where
  pub made_both : (xs ys : List Row) → all_made bodies out (xs ++ ys) ≡ all_made bodies out xs ++ all_made bodies out ys
  made_both xs ys = flat_map-append (made_of bodies out) xs ys

  pub made_next : (given : List Row) (row : Row) → all_made bodies out (given ++ row ∷ []) ≡ all_made bodies out given ++ made_of bodies out row
  made_next given row = made_both given (row ∷ []) ∙ ap (λ (l : List Made). all_made bodies out given ++ l) (append-nil (made_of bodies out row))

  module _ (tells : Type 0) (old mid : Yarded) (all given : List Row) (levels : List Coming) (at : IsAt bodies all given levels) (now : tells → mid ≡ after_made old (all_made bodies out given)) where
    -- nothing more was made
    pub rows_at : tells → MakesSome old (all_made bodies out all) mid
    rows_at told =
        subst (λ (l : List Made). MakesSome old l mid) (sym (ap (all_made bodies out) at.cut ∙ made_both given at.rest))
        (some_at old mid (all_made bodies out given) (all_made bodies out at.rest) (now told))

    -- a front of a row was made
    pub row_some : (row : Row) (rest : List Row) (new : Yarded) → all ≡ given ++ row ∷ rest → (tells → MakesSome mid (made_of bodies out row) new) → tells → MakesSome old (all_made bodies out all) new
    row_some row rest new cut some told =
        subst (λ (l : List Made). MakesSome old l new) (sym (ap (all_made bodies out) cut ∙ made_both given (row ∷ rest)))
        (some_behind old mid new (all_made bodies out given) (made_of bodies out row) (all_made bodies out rest) (now told) (some told))

    -- a row was made
    pub row_made : (row : Row) (new : Yarded) → (tells → new ≡ after_made mid (made_of bodies out row)) → tells → new ≡ after_made old (all_made bodies out (given ++ row ∷ []))
    row_made row new is told =
        is told ∙ ap (λ (y : Yarded). after_made y (made_of bodies out row)) (now told) ∙ sym (after_both old (all_made bodies out given) (made_of bodies out row))
        ∙ ap (λ (l : List Made). after_made old l) (sym (made_next given row))
