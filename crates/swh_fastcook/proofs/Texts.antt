-- Texts one after another, and how a text ends that is broken off.
use Rattle.std.proofs.Common.{◌≡◌, ℕ, ◌≤◌, Some, None, List, [], ◌∷◌, ◌++◌, refl, sym, ap, ◌∙◌, subst, append_assoc}
use Rattle.std.specs.Prelude.{Result, IsErr, ⊤}
use Rattle.std.proofs.lemmas.List.{append-nil}
use Rattle.std.proofs.lemmas.Grind.{flat_map-append}
use Rattle.std.proofs.lemmas.List.Concat.{flat_map-cons}
use Rattle.std.proofs.lemmas.Result.{IfOk-from_err, MatchResult-from_err, on_ok_weaker, IfErr-weaker}
use Rattle.swh_base.specs.declared.name.Name.{Name}
use Rattle.swh_dirfmt.specs.declared.entry.SpelledEntry.{SpelledEntry}
use Rattle.swh_model.specs.Archive.{Bodies}
use Rattle.swh_graph.specs.Path.{directory_name}
use Rattle.swh_pathwalk.specs.Tree.{Row, IsPathWalk}
use Rattle.swh_pathwalk.specs.Walk.{Coming, Standing, BeginsAt, Steps, Remain, row_of}
use Rattle.swh_pathwalk.proofs.Steps.{begins, goes_on, ends, remain_at_first, remain_step}
use Rattle.swh_fastwrite.specs.Held.{AddsUp, Kept, kept, Goes, Wrote, WroteSome}
use Rattle.swh_fastwrite.proofs.Pieces.{goes_appended, goes_both, front_behind, front_more}
use Rattle.swh_fastcook.specs.Files.{AreFilesOf, RowsSoFar}
use Rattle.swh_fastcook.specs.Stream.{file_text, files_text}

-- ---- texts

module _ {T : Type 0} (takes front : T → List ℕ → T → Type 0) where
  module _ {A E : Type 0} (old : Kept T) (new : Kept T) (result : Result A E) (is_err : IsErr result) where
    -- a text that was broken off
    pub stopped : (text : List ℕ) → front old.taker (old.held ++ text) new.taker → Wrote takes front old text new result
    stopped text f = record {
      ok = IfOk-from_err result (λ _. Goes takes front old text new) is_err;
      err = MatchResult-from_err result (λ _. ⊤) (λ _. front old.taker (old.held ++ text) new.taker) is_err (λ _. f);
    }

    -- one of some texts that was broken off
    pub stopped_some : (IsText : List ℕ → Type 0) → ((text : List ℕ) → IsText text → front old.taker (old.held ++ text) new.taker) → WroteSome takes front old IsText new result
    stopped_some IsText f = record {
      ok = IfOk-from_err result (λ _. (text : List ℕ) × IsText text × Goes takes front old text new) is_err;
      err = MatchResult-from_err result (λ _. ⊤) (λ _. (text : List ℕ) → IsText text → front old.taker (old.held ++ text) new.taker) is_err (λ _. f);
    }

  module _ (sums : AddsUp takes front) where
    -- what was appended to what is held
    pub pushed : (t : T) (held text more : List ℕ) → more ≡ held ++ text → Goes takes front (kept t held) text (kept t more)
    pushed t held text more is = subst (λ (l : List ℕ). Goes takes front (kept t held) text (kept t l)) (sym is) (goes_appended takes front sums t held text)

    -- it was appended, and all that is held was looked at
    pub settled : (t : T) (held text more : List ℕ) (new : Kept T) → more ≡ held ++ text → Goes takes front (kept t more) [] new → Goes takes front (kept t held) text new
    settled t held text more new is goes =
        subst (λ (l : List ℕ). Goes takes front (kept t held) l new) (append-nil text)
        (goes_both takes front sums (kept t held) (kept t more) new text [] (pushed t held text more is) goes)

    -- it was appended, and a front of all that is held was taken
    pub unsettled : (t : T) (held text more behind : List ℕ) (new : T) → more ≡ held ++ text → front t (more ++ []) new → front t (held ++ (text ++ behind)) new
    unsettled t held text more behind new is f =
        front_more takes front sums (kept t held) new text behind
        (subst (λ (l : List ℕ). front t (held ++ l) new) (append-nil text)
        (front_behind takes front sums (kept t held) (kept t more) new text [] (pushed t held text more is) f))

    -- one text was written behind another
    pub wrote_both : {A E : Type 0} (old mid new : Kept T) (a b : List ℕ) (result : Result A E) → Goes takes front old a mid → Wrote takes front mid b new result → Wrote takes front old (a ++ b) new result
    wrote_both old mid new a b result first w = record {
      ok = on_ok_weaker result (λ (g : Goes takes front mid b new). goes_both takes front sums old mid new a b first g) w.ok;
      err = IfErr-weaker result (λ _. front mid.taker (mid.held ++ b) new.taker) (λ _. front old.taker (old.held ++ (a ++ b)) new.taker) (λ _ f. front_behind takes front sums old mid new.taker a b first f) w.err;
    }

    -- ---- the lines of a tree's files

    module _ (order : List Name) where
      files_both : (rows more : List Row) → files_text order (rows ++ more) ≡ files_text order rows ++ files_text order more
      files_both rows more = flat_map-append (file_text order) rows more

      one_file : (row : Row) → files_text order (row ∷ []) ≡ file_text order row
      one_file row = flat_map-cons (file_text order) row [] ∙ append-nil (file_text order row)

      pub files_more : (init mid new : Kept T) (rows : List Row) (row : Row) → Goes takes front init (files_text order rows) mid → Goes takes front mid (file_text order row) new → Goes takes front init (files_text order (rows ++ row ∷ [])) new
      files_more init mid new rows row f g =
          subst (λ (l : List ℕ). Goes takes front init l new) (sym (files_both rows (row ∷ []) ∙ ap (λ (l : List ℕ). files_text order rows ++ l) (one_file row)))
          (goes_both takes front sums init mid new (files_text order rows) (file_text order row) f g)

      pub files_broke : (bodies : Bodies) (id : List ℕ) (init mid : Kept T) (rows : List Row) (levels : List Coming) (new : T) → RowsSoFar bodies id rows levels → Goes takes front init (files_text order rows) mid
          → ((rest : List Row) → Remain bodies levels rest → front mid.taker (mid.held ++ files_text order rest) new)
          → (text : List ℕ) → AreFilesOf bodies order id text → front init.taker (init.held ++ text) new
      files_broke bodies id init mid rows levels new so goes fails text are =
          let b = so.back are.rows are.walk in
          subst (λ (l : List ℕ). front init.taker (init.held ++ l) new) (sym (are.is ∙ ap (files_text order) b.1 ∙ files_both rows b.0))
          (front_behind takes front sums init mid new (files_text order rows) (files_text order b.0) goes (fails b.0 b.2))

      -- a step gave an entry, whose line was appended and is not taken
      pub line_broke : (bodies : Bodies) (old now : Standing) (e : SpelledEntry) (t : T) (held more : List ℕ) (new : T) → Steps bodies old (Some e) now → more ≡ held ++ file_text order (row_of now e) → front t (more ++ []) new
          → (rest : List Row) → Remain bodies old.levels rest → front t (held ++ files_text order rest) new
      line_broke bodies old now e t held more new s is f rest r =
          let cut = remain_step bodies old now e rest s r in
          subst (λ (l : List ℕ). front t (held ++ l) new) (sym (ap (files_text order) cut.cut ∙ flat_map-cons (file_text order) (row_of now e) cut.rest))
          (unsettled t held (file_text order (row_of now e)) more (files_text order cut.rest) new is f)

module _ (bodies : Bodies) (id : List ℕ) where
  pub rows_begin : (new : Standing) → BeginsAt bodies (directory_name id) new → RowsSoFar bodies id [] new.levels
  rows_begin new b = record {
    on = λ rest r. begins bodies (directory_name id) new rest b r;
    back = λ all w. (all, refl, remain_at_first bodies (directory_name id) new all b w);
  }

  pub rows_more : (rows : List Row) (old new : Standing) (e : SpelledEntry) → Steps bodies old (Some e) new → RowsSoFar bodies id rows old.levels → RowsSoFar bodies id (rows ++ row_of new e ∷ []) new.levels
  rows_more rows old new e s so = record {
    on = λ rest r.
        subst (IsPathWalk bodies (directory_name id)) (sym (append_assoc rows (row_of new e ∷ []) rest))
        (so.on (row_of new e ∷ rest) (goes_on bodies old new e rest s r));
    back = λ all w.
        let b = so.back all w in
        let f = remain_step bodies old new e b.0 s b.2 in
        (f.rest, b.1 ∙ ap (λ (l : List Row). rows ++ l) f.cut ∙ sym (append_assoc rows (row_of new e ∷ []) f.rest), f.remain);
  }

  pub rows_end : (rows : List Row) (old new : Standing) → Steps bodies old None new → RowsSoFar bodies id rows old.levels → IsPathWalk bodies (directory_name id) rows
  rows_end rows old new s so = subst (IsPathWalk bodies (directory_name id)) (append-nil rows) (so.on [] (ends bodies old new s))
